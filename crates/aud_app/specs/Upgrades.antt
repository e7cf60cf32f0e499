-- The output of an upgrade.
use Rattle.std.specs.Prelude.{ℕ, List, [], Result, Ok, Err}
use Rattle.aud_reader.specs.declared.fault.ReadFault.{ReadFault}
use Rattle.aud_reader.specs.declared.fault.ReadFault.TheVariants.{Input, Memory}
use Rattle.aud_verdict.specs.declared.output.Status.TheVariants.{AllYes, Refused}
use Rattle.aud_reader.specs.Codes.{code_text}
use Rattle.aud_verdict.specs.Output.{OutputSeen, refusal_of}

-- the bundle that was written, or the first of its lines that would be too long
abbrev pub upgrade_output : Result (List ℕ) ReadFault → OutputSeen
upgrade_output (Ok bytes) = record { status = AllYes; text = bytes }
upgrade_output (Err (Input n code)) = refusal_of n (code_text code)
upgrade_output (Err Memory) = record { status = Refused; text = [] }
