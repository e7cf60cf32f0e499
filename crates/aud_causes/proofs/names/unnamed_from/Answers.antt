use Rattle.std.proofs.Common.{◌≡◌, ◌<◌, ◌+◌, ◌∙◌, ℕ, suc, Bool, true, false, List, Some, ap, arith, cond, drop, length, sym}
use Rattle.aud_base.proofs.Lists.{drop_at, element_at}
use Rattle.aud_tap.specs.declared.taps.Tap.{Tap}
use Rattle.aud_node.specs.Cluster.{Cluster}
use Rattle.aud_client.specs.Received.{transcript_at}
use Rattle.aud_causes.specs.Names.{has_unnamed, unnamed_from}
use Rattle.aud_causes.proofs.names.unnamed_from.Goals as goal

-- the tap at this place, and those after it
step : (c : Cluster) (taps : List Tap) (place : ℕ) (has : Bool) → place < length taps → has_unnamed c place (transcript_at c place) ≡ has
    → cond has (Some place) (unnamed_from c (place + 1) (drop (place + 1) taps)) ≡ unnamed_from c place (drop place taps)
step c taps place has within is =
    let (tap, at) = element_at taps place within in
    let next : suc place ≡ place + 1 = omega arith in
    sym
    (ap (unnamed_from c place) (drop_at taps place tap at)
    ∙ (λ i. cond (is i) (Some place) (unnamed_from c (next i) (drop (next i) taps))))

pub returns-then-branch : goal.returns-then-branch
returns-then-branch c =
    step c.args.recording.now c.args.taps.now c.loop-place.place true c.loop-place-test.true (sym c.in_ok-has_unnamed.ensures ∙ c.if-branch.true)
    ∙ c.loop-place.invariant

pub loop-place-preserved : goal.loop-place-preserved
loop-place-preserved c =
    step c.args.recording.now c.args.taps.now c.loop-place.place false c.loop-place-test.true (sym c.in_ok-has_unnamed.ensures ∙ c.if-branch.false)
    ∙ c.loop-place.invariant
