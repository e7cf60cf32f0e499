use Rattle.std.proofs.Common.{◌∙◌, ◌||◌, ℕ, ap, slice_get, sym}
use Rattle.std.specs.List.{list_any}
use Rattle.aud_base.specs.Lists.{numbers_from}
use Rattle.aud_causes.specs.NamedEntries.{names_entry}
use Rattle.aud_causes.proofs.TurnLemmas.{any-more}
use Rattle.aud_causes.proofs.recorded.is_in_log.Goals as goal

pub loop-number-preserved : goal.loop-number-preserved
loop-number-preserved c =
    let named = λ (number : ℕ). names_entry c.args.off.now (slice_get c.args.log.now.recs number) in
    let i = c.loop-number.number in
    ap (λ b. b || c.names_entry-named.result) c.loop-number.invariant
    ∙ ap (λ b. list_any named (numbers_from 0 i) || b) (c.names_entry-named.ensures ∙ ap (names_entry c.args.off.now) (c.get.ensures ∙ ap (λ recs. slice_get recs i) c.recs-recs.ensures))
    ∙ sym (any-more named i)
