use Rattle.std.proofs.Common.{◌∙◌, ◌||◌, ap, sym}
use Rattle.std.specs.List.{list_any}
use Rattle.aud_base.specs.Lists.{numbers_from}
use Rattle.aud_causes.specs.NamedEntries.{is_named_at}
use Rattle.aud_causes.proofs.TurnLemmas.{any-more}
use Rattle.aud_causes.proofs.recorded.is_named.Goals as goal

pub loop-place-preserved : goal.loop-place-preserved
loop-place-preserved c =
    let named = is_named_at c.args.logs.now c.args.off.now in
    let i = c.loop-place.place in
    ap (λ b. b || c.is_named_at-named.result) c.loop-place.invariant
    ∙ ap (λ b. list_any named (numbers_from 0 i) || b) c.is_named_at-named.ensures
    ∙ sym (any-more named i)
