use Rattle.std.proofs.Common.{◌≡◌, ◌∙◌, ◌++◌, ◌∷◌, [], ℕ, Bool, true, false, List, ap, append-nil, cond, map, option_to_list, refl, slice_get}
use Rattle.std.specs.Bool.{then_some}
use Rattle.aud_base.proofs.Numbers.{filter-more}
use Rattle.aud_causes.specs.Facts.{is_recovery}
use Rattle.aud_causes.proofs.recorded.recoveries.Goals as goal

-- the numbers so far, with this one where it holds
with_number : (came : List ℕ) (holds : Bool) (number : ℕ) → came ++ option_to_list (then_some holds number) ≡ cond holds (came ++ number ∷ []) came
with_number came true number = refl
with_number came false number = append-nil came

pub loop-number-preserved : goal.loop-number-preserved
loop-number-preserved c =
    let stays = map (λ stay. stay.now) c.args.stays.now in
    let i = c.loop-number.number in
    let came = c.loop-number.came.items in
    c.in_ok-push_some.ensures
    ∙ ap (λ o. came ++ option_to_list o) c.then_some.ensures
    ∙ with_number came c.is_recovery.result i
    ∙ ap (λ b. cond b (came ++ i ∷ []) came) c.is_recovery.ensures
    ∙ filter-more (λ number. is_recovery (slice_get stays number)) i came c.loop-number.invariant
