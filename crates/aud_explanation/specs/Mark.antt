-- What a record is shown for, in words.
use Rattle.std.specs.Prelude.{ℕ, List, [], codes}
use Rattle.aud_cert.specs.declared.fault.Fault.{Fault}
use Rattle.aud_cert.specs.declared.fault.Fault.TheVariants.{NoLog, Chain, Order, Client, Names, Frame, Orphan, Content, Extra, Doubled, Swapped, Lost, Window, Tail}
use Rattle.aud_verdict.specs.declared.verdict.Verdict.{Verdict}
use Rattle.aud_verdict.specs.declared.verdict.Verdict.TheVariants.{Yes, No}
use Rattle.aud_rows.specs.declared.row.Role.{Role}
use Rattle.aud_rows.specs.declared.row.Role.TheVariants as role

-- what the record at which the fault shows has against it
abbrev pub fault_mark : Fault → List ℕ
fault_mark NoLog = codes "  <- opened on no node"
fault_mark Chain = codes "  <- does not fit in the turns"
fault_mark Order = codes "  <- out of order"
fault_mark Client = codes "  <- names the session"
fault_mark Names = codes "  <- another name"
fault_mark Frame = codes "  <- no packet"
fault_mark Orphan = codes "  <- of no known session"
fault_mark (Content off) = codes "  <- not as the entry has it"
fault_mark (Extra off) = codes "  <- not due"
fault_mark (Doubled off) = codes "  <- again"
fault_mark (Swapped off) = codes "  <- too early"
fault_mark (Lost off) = codes "  <- passes it over"
fault_mark (Window conn) = codes "  <- does not fit what came"
fault_mark (Tail count) = codes "  <- the last received"

-- the same under a verdict
abbrev pub verdict_mark : Verdict → List ℕ
verdict_mark (No fault) = fault_mark fault
verdict_mark (Yes got tail turns) = codes "  <- here"

-- what a record is shown for, under this verdict; nothing where the record says it itself
abbrev pub mark : Role → Verdict → List ℕ
mark role.Fault verdict = verdict_mark verdict
mark role.Earlier verdict = codes "  earlier"
mark role.Later verdict = codes "  later"
mark role.Entry verdict = codes "  the entry"
mark role.Reached verdict = codes "  reached here"
mark role.Room verdict = codes "  decides"
mark role.Left verdict = codes "  left after that"
mark role.Break verdict = []
mark role.Back verdict = []
mark role.Ask verdict = []
mark role.Reply verdict = []
