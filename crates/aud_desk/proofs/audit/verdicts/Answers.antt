use Rattle.std.proofs.lemmas.List.Elements.{All-contains}
use Rattle.aud_desk.specs.declared.entry.Entry.{Entry}
use Rattle.aud_verdict.specs.Verdicts.{IsVerdictAt}
use Rattle.aud_desk.specs.Workers.{IsWorkOf, entry_of}
use Rattle.std.specs.Prelude.{ℕ, map, string_bytes}
use Rattle.aud_verdict.specs.declared.verdict.Verdict.{Verdict}
use Rattle.aud_desk.proofs.audit.verdicts.Goals as goal

pub returns-in-Ok-gather-clause-each : goal.returns-in-Ok-gather-clause-each
returns-in-Ok-gather-clause-each g c = λ i verdict at.
    let has = c.in-Ok-gather.ensures.each i verdict at in
    let Is : ℕ → Verdict → Type 0 = IsVerdictAt c.args.recording.now c.args.whole (map string_bytes c.args.pids.now) in
    let mine = All-contains (IsWorkOf c.in-Ok.tickets Is) _ has.0 c.in_ok-done.ensures.work has.1 in
    All-contains (λ (e : Entry). Is e.index e.verdict) has.0.entries.items (entry_of i verdict) mine.1 has.2
