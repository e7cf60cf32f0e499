use Rattle.std.proofs.Common.{◌≡◌, map, take}
use Rattle.aud_session_facts.specs.declared.marks.TurnMark.{TurnMark}
use Rattle.aud_findings.specs.ChainRecords.{role_in}
use Rattle.aud_findings.proofs.chain.chain_records.Given as goal

-- the records of the marks so far
abbrev pub invariant-loop-mark : goal.invariant-loop-mark
invariant-loop-mark l =
    l.records.items ≡ map (λ (m : TurnMark). record { place = m.place; role = role_in l.misfit m }) (take l.mark-index l.marks)
