use Rattle.std.proofs.Common.{◌≡◌, refl, Bool, ◌++◌, ◌∷◌, ◌+◌, ◌<◌, [], ℕ, map, take, length, sym, ap, ◌∙◌, arith, true, Some, slice_get, List}
use Rattle.std.specs.List.{list_all}
use Rattle.std.specs.Prelude.{nat_lt}
use Rattle.std.proofs.lemmas.Bool.{lt-ltb}
use Rattle.std.proofs.lemmas.Grind.{common_steps}
use Rattle.std.proofs.lemmas.Option.{gets, slice_get_within, slice_get_read}
use Rattle.std.proofs.lemmas.List.{map_push}
use Rattle.std.proofs.lemmas.List.Elements.{All-get_or}
use Rattle.aud_parts.specs.declared.listing.ListedSession.{ListedSession}
use Rattle.aud_parts.proofs.listing.listing_of_plan.Goals as goal

-- the front with one element more
one_more : {X : Type 0} (xs : List X) (i : ℕ) (x : X) → slice_get xs i ≡ Some x → take (i + 1) xs ≡ take i xs ++ x ∷ []
one_more xs i x at = let within = slice_get_within xs i x at in grind (arith, common_steps, gets)

-- a test that all pass, and one more does
all_more : {X : Type 0} (test : X → Bool) (xs : List X) (x : X) → list_all test xs ≡ true → test x ≡ true → list_all test (xs ++ x ∷ []) ≡ true
all_more test xs x before here = grind (arith, common_steps)

pub loop-number-preserved : goal.loop-number-preserved
loop-number-preserved c =
    let old = c.loop-number.sessions.items in
    let n = c.loop-number.number in
    let plan = c.args.plan.now in
    let pid-of = λ (s : ListedSession). s.pid in
    let own = c.index-part.result.now in
    let its : ListedSession = record { part = own; pid = c.in_ok-pid.pid } in
    let pids : map pid-of (old ++ its ∷ []) ≡ take (n + 1) plan.sessions = map_push pid-of old its ∙ ap (λ ps. ps ++ c.in_ok-pid.pid ∷ []) c.loop-number.invariant.pids ∙ ap (λ p. take n plan.sessions ++ p ∷ []) c.in_ok-pid.ensures ∙ sym (one_more plan.sessions n c.pid.result.now c.pid.ensures) in
    let part-of = λ (s : ListedSession). s.part in
    let at : slice_get plan.parts.items n ≡ Some own = slice_get_read plan.parts.items (length plan.parts.items) n own refl (omega (arith, c.requires.each, c.loop-number-test.true)) c.index-part.ensures in
    let parts : map part-of (old ++ its ∷ []) ≡ take (n + 1) plan.parts.items = map_push part-of old its ∙ ap (λ ps. ps ++ own ∷ []) c.loop-number.invariant.parts ∙ sym (one_more plan.parts.items n own at) in
    let small : own < length plan.weights.items = grind (arith, common_steps, c.index-part.ensures, c.requires.each, All-get_or (λ (part : ℕ). part < length plan.weights.items) plan.parts.items n own (omega (arith, c.requires.each, c.loop-number-test.true)) c.requires.within) in
    let within : list_all (λ (s : ListedSession). nat_lt s.part (length plan.weights.items)) (old ++ its ∷ []) ≡ true = all_more (λ (s : ListedSession). nat_lt s.part (length plan.weights.items)) old its c.loop-number.invariant.within (lt-ltb own (length plan.weights.items) small) in
    record {
      pids = ap (map pid-of) c.in_ok-push.ensures.items ∙ pids;
      parts = ap (map part-of) c.in_ok-push.ensures.items ∙ parts;
      within = ap (list_all (λ (s : ListedSession). nat_lt s.part (length plan.weights.items))) c.in_ok-push.ensures.items ∙ within;
    }
