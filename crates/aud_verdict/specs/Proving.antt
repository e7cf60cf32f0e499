-- Certificates as lines.
use Rattle.std.specs.Prelude.{ℕ, List, [], ◌++◌, codes, flat_map, Option, Some, None}

-- the line of a session's certificate, where it has one
abbrev pub proof_line : Option (List ℕ) → List ℕ
proof_line None = []
proof_line (Some text) = text ++ codes "\n"

-- the certificates, a line each, of the sessions that have one
abbrev pub prove_text : List (Option (List ℕ)) → List ℕ
prove_text proofs = flat_map proof_line proofs
