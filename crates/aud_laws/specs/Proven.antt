-- Lines that are the texts of certificates.
use Rattle.std.specs.Prelude.{List, Option, Some, Contains, IsUtf8}
use Rattle.aud_node.specs.Stream.{Text}
use Rattle.aud_reader.specs.declared.line.Line.{Line}

-- the line is the text of one of these certificates, in UTF-8
abbrev pub IsOfAProof : List (Option Text) → Line → Type 0
IsOfAProof proofs line = Contains proofs (Some line.bytes) × IsUtf8 line.bytes
