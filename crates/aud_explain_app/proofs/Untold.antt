-- Why nothing is told.
use Rattle.std.proofs.Common.{ℕ, List, Option}
use Rattle.aud_cli.specs.declared.explain_options.ExplainOptions.{ExplainOptions}
use Rattle.aud_input.specs.Files.{AreRecorded}
use Rattle.aud_input.specs.declared.part_lines.PartLines.{PartLines}
use Rattle.aud_input.specs.declared.reading.Recorded.{Recorded}
use Rattle.aud_explain_app.specs.Output.{AreUntold, IsUntold}
use Rattle.aud_explain_app.specs.declared.fault.ExplainFault.{ExplainFault}
use Rattle.aud_explain_app.specs.declared.fault.ExplainFault.TheVariants.{NoRecord, OtherPart, Unexplained, Write}
use Rattle.aud_explain_app.specs.declared.fault.Unexplained.TheVariants.{Unread, Memory, Spawn, NoSession}

-- what is told of nothing that was read isn't told of the files
pub untold_files : (options : ExplainOptions) (part : Option PartLines) (lefts : List (Option (List ℕ))) (read : Recorded) (e : ExplainFault) → AreRecorded lefts read → IsUntold options part read e → AreUntold options part lefts e
untold_files options part lefts read (Unexplained (Unread file)) of why = tt
untold_files options part lefts read (Unexplained Memory) of why = tt
untold_files options part lefts read (Unexplained Spawn) of why = tt
untold_files options part lefts read (Unexplained (NoSession number)) of why = (read, of, why)
untold_files options part lefts read (NoRecord number) of why = (read, of, why)
untold_files options part lefts read OtherPart of why = (read, of, why)
untold_files options part lefts read Write of why = absurd why
