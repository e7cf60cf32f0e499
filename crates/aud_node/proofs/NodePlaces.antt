-- The places of the nodes' taps, and the logs that were made by them.
use Rattle.std.proofs.Common.{◌≡◌, ◌+◌, ◌-◌, ◌<◌, ℕ, suc, true, false, cond, List, ◌∷◌, length, refl, ap, ◌∙◌, arith, None, slice_get}
use Rattle.std.proofs.lemmas.Bool.{true≢false}
use Rattle.aud_tap.specs.declared.records.StreamRec.{StreamRec}
use Rattle.aud_tap.specs.declared.taps.Tap.{Tap}
use Rattle.aud_tap.specs.declared.taps.Records.{Records}
use Rattle.aud_tap.specs.declared.taps.Records.TheVariants.{Stream, Node, Client}
use Rattle.aud_node.specs.NodeTaps.{node_of_records, node_tap}
use Rattle.aud_node.specs.Private.TapsOfNodes.{are_of_node, is_node, is_some_node, node_places_from}

-- a tap that is no node's has no node's log
pub no_node : (stream : List StreamRec) (tap : Tap) → is_node tap ≡ false → node_tap stream tap ≡ None
no_node stream tap = of tap.records
  where
    of : (records : Records) → are_of_node records ≡ false → node_of_records stream records ≡ None
    of (Stream recs) not = refl
    of (Node recs) not = absurd (true≢false not)
    of (Client recs) not = refl

module _ (taps : List Tap) (place : ℕ) (within : place < length taps) where
  -- the places after one
  abbrev later : List ℕ
  later = node_places_from taps (place + 1) (length taps - (place + 1))

  -- the places from one on: this one, if it is a node's, and then those after it
  next_place : node_places_from taps place (length taps - place) ≡ cond (is_some_node (slice_get taps place)) (place ∷ later) later
  next_place =
      let one : length taps - place ≡ suc (length taps - (place + 1)) = omega arith in
      let on : suc place ≡ place + 1 = omega arith in
      ap (node_places_from taps place) one
      ∙ ap (λ n. cond (is_some_node (slice_get taps place)) (place ∷ node_places_from taps n (length taps - (place + 1))) (node_places_from taps n (length taps - (place + 1)))) on

  pub next_is : is_some_node (slice_get taps place) ≡ true → node_places_from taps place (length taps - place) ≡ place ∷ node_places_from taps (place + 1) (length taps - (place + 1))
  next_is is = next_place ∙ ap (λ b. cond b (place ∷ later) later) is

  pub next_not : is_some_node (slice_get taps place) ≡ false → node_places_from taps place (length taps - place) ≡ node_places_from taps (place + 1) (length taps - (place + 1))
  next_not not = next_place ∙ ap (λ b. cond b (place ∷ later) later) not
