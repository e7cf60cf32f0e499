-- The chain of a session in logs from which records of others are left out.
use Rattle.std.proofs.Common.{◌≡◌, ◌<◌, ◌≤◌, ℕ, zero, suc, Bool, true, false, List, [], ◌∷◌, length, map, filter, Some, slice_get, refl, sym, ap, subst, ◌∙◌, inl, inr, arith}
use Rattle.std.specs.List.{Contains}
use Rattle.aud_tap.specs.declared.records.StreamRec.{StreamRec}
use Rattle.aud_tap.specs.declared.records.NodeRec.{NodeRec}
use Rattle.aud_tap.specs.declared.taps.Tap.{Tap}
use Rattle.aud_node.specs.Cluster.{node_log}
use Rattle.aud_node.specs.Ordered.{is_ordered}
use Rattle.aud_node.specs.Stream.{Text}
use Rattle.aud_node.specs.TurnRecords.{pid_of}
use Rattle.aud_rooms.specs.Turns.{Who, Turn, slice_of, AreTurns, IsChain, StandsIn, HasNoTurn}
use Rattle.aud_rooms.specs.TurnsDue.{turns_due}
use Rattle.aud_rooms.proofs.Turns.{begins-names}
use Rattle.aud_laws.proofs.LeftOut.Places.{moved, stood, at-moved, at-stood, moved-stood, moved-next, moved-rises}
use Rattle.aud_laws.proofs.LeftOut.Orders.{ordered-moved}
use Rattle.aud_laws.proofs.LeftOut.Rooms.{slice_left, due-left}
use Rattle.aud_laws.proofs.LeftOut.Logs.{over, left_of, Leaves, own-kept, IsPlaced, placed-own, placed-left}
use Rattle.aud_laws.proofs.LeftOut.Turns.{IsMoved, moved-slice, turn-there, turn-back, before-moved}
use Rattle.aud_laws.proofs.LeftOut.Carried.{CarriedChain}

-- turn by turn
abbrev pub AreMoved : List StreamRec → List Tap → (NodeRec → Bool) → (Tap → Bool) → List Turn → List Turn → Type 0
AreMoved stream taps keep keeps [] [] = Unit {0}
AreMoved stream taps keep keeps (t ∷ ts) (t' ∷ ts') = IsMoved stream taps keep keeps t t' × AreMoved stream taps keep keeps ts ts'
AreMoved stream taps keep keeps _ _ = ⊥

module _ (stream : List StreamRec) (taps : List Tap) (keep : NodeRec → Bool) (keeps : Tap → Bool) where
  -- as many
  same-count : (ts ts' : List Turn) → AreMoved stream taps keep keeps ts ts' → length ts ≡ length ts'
  same-count [] [] all = refl
  same-count [] (t' ∷ ts') all = absurd all
  same-count (t ∷ ts) [] all = absurd all
  same-count (t ∷ ts) (t' ∷ ts') all = ap suc (same-count ts ts' all.1)

  none-there : (ts ts' : List Turn) → AreMoved stream taps keep keeps ts ts' → ts ≡ [] → ts' ≡ []
  none-there ts [] all e = refl
  none-there [] (t' ∷ ts') all e = absurd all
  none-there (t ∷ ts) (t' ∷ ts') all e = absurd (let none : t ∷ ts ≡ [] = e in cc)

  none-back : (ts ts' : List Turn) → AreMoved stream taps keep keeps ts ts' → ts' ≡ [] → ts ≡ []
  none-back [] ts' all e = refl
  none-back (t ∷ ts) [] all e = absurd all
  none-back (t ∷ ts) (t' ∷ ts') all e = absurd (let none : t' ∷ ts' ≡ [] = e in cc)

  -- where a record of the session stands in its turns, it stands among those that are left, at its new place
  stands-there : (node node' i : ℕ) (rec : NodeRec) → IsPlaced stream taps keep keeps node node' → slice_get (node_log (over stream taps) node) i ≡ Some rec → keep rec ≡ true
      → (ts ts' : List Turn) → AreMoved stream taps keep keeps ts ts' → StandsIn node i ts → StandsIn node' (moved keep (node_log (over stream taps) node) i) ts'
  stands-there node node' i rec place at kept [] ts' all stands = absurd stands
  stands-there node node' i rec place at kept (t ∷ ts) [] all stands = absurd all
  stands-there node node' i rec place at kept (t ∷ ts) (t' ∷ ts') all (inr later) = inr (stands-there node node' i rec place at kept ts ts' all.1 later)
  stands-there node node' i rec place at kept (t ∷ ts) (t' ∷ ts') all (inl here) = inl (same, first, last)
    where
      log : List NodeRec
      log = node_log (over stream taps) node

      its : IsMoved stream taps keep keeps t t'
      its = all.0

      same : t'.node ≡ node'
      same = sym its.node.there ∙ ap (moved keeps taps) here.0 ∙ place.there

      from : moved keep log t.from ≡ t'.from
      from = ap (λ n. moved keep (node_log (over stream taps) n) t.from) (sym here.0) ∙ its.from_is

      to : moved keep log t.to ≡ t'.to
      to = ap (λ n. moved keep (node_log (over stream taps) n) t.to) (sym here.0) ∙ its.to_is

      first : t'.from ≤ moved keep log i
      first = let up = moved-rises keep log t.from i here.1 in omega (arith, up, from)

      last : moved keep log i < t'.to
      last = let one = moved-next keep log i rec at kept in let up = moved-rises keep log (suc i) t.to here.2 in omega (arith, one, up, to)

  -- and the other way round
  stands-back : (node node' i : ℕ) (rec : NodeRec) → IsPlaced stream taps keep keeps node node' → slice_get (node_log (over stream taps) node) i ≡ Some rec → keep rec ≡ true
      → (ts ts' : List Turn) → AreMoved stream taps keep keeps ts ts' → StandsIn node' (moved keep (node_log (over stream taps) node) i) ts' → StandsIn node i ts
  stands-back node node' i rec place at kept ts [] all stands = absurd stands
  stands-back node node' i rec place at kept [] (t' ∷ ts') all stands = absurd all
  stands-back node node' i rec place at kept (t ∷ ts) (t' ∷ ts') all (inr later) = inr (stands-back node node' i rec place at kept ts ts' all.1 later)
  stands-back node node' i rec place at kept (t ∷ ts) (t' ∷ ts') all (inl here) = inl (same, first, last)
    where
      log : List NodeRec
      log = node_log (over stream taps) node

      its : IsMoved stream taps keep keeps t t'
      its = all.0

      same : t.node ≡ node
      same = sym its.node.back ∙ ap (stood keeps taps) here.0 ∙ place.back

      from : moved keep log t.from ≡ t'.from
      from = ap (λ n. moved keep (node_log (over stream taps) n) t.from) (sym same) ∙ its.from_is

      to : moved keep log t.to ≡ t'.to
      to = ap (λ n. moved keep (node_log (over stream taps) n) t.to) (sym same) ∙ its.to_is

      first : t.from ≤ i
      first =
          let le = here.1 in
          let less : t.from < suc i = before-moved keep log t.from (suc i) (let one = moved-next keep log i rec at kept in omega (arith, one, le, from)) in
          omega (arith, less)

      last : i < t.to
      last = before-moved keep log i t.to (let lt = here.2 in omega (arith, lt, to))

  module _ (who : Who) (leaves : Leaves stream taps keep keeps who.pid) where
    -- turns are turns among the taps that are left
    turns-there : (k : ℕ) (ts : List Turn) → AreTurns (over stream taps) who k ts → (ts' : List Turn) × AreTurns (over stream (left_of keep keeps taps)) who k ts' × AreMoved stream taps keep keeps ts ts'
    turns-there k [] are = ([], tt, tt)
    turns-there k (t ∷ ts) are =
        let (ts', are', all) = turns-there (suc k) ts are.1 in
        let (t', is', moves) = turn-there stream taps keep keeps who leaves k t ts ts' (none-there ts ts' all) are.0 in
        (t' ∷ ts', (is', are'), (moves, all))

    -- and were before
    turns-back : (k : ℕ) (ts' : List Turn) → AreTurns (over stream (left_of keep keeps taps)) who k ts' → (ts : List Turn) × AreTurns (over stream taps) who k ts × AreMoved stream taps keep keeps ts ts'
    turns-back k [] are = ([], tt, tt)
    turns-back k (t' ∷ ts') are =
        let (ts, were, all) = turns-back (suc k) ts' are.1 in
        let (t, was, moves) = turn-back stream taps keep keeps who leaves k t' ts ts' (none-back ts ts' all) are.0 in
        (t ∷ ts, (was, were), (moves, all))

    -- their slices
    slices : (ts ts' : List Turn) → AreMoved stream taps keep keeps ts ts' → map (slice_of (over stream (left_of keep keeps taps))) ts' ≡ map (slice_left keep) (map (slice_of (over stream taps)) ts)
    slices [] [] all = refl
    slices [] (t' ∷ ts') all = absurd all
    slices (t ∷ ts) [] all = absurd all
    slices (t ∷ ts) (t' ∷ ts') all =
        ap (λ s. s ∷ map (slice_of (over stream (left_of keep keeps taps))) ts') (moved-slice stream taps keep keeps who leaves t t' all.0)
        ∙ ap (λ ss. slice_left keep (slice_of (over stream taps) t) ∷ ss) (slices ts ts' all.1)

    -- what is due by them
    due : (ts ts' : List Turn) → AreMoved stream taps keep keeps ts ts'
        → turns_due stream who (map (slice_of (over stream (left_of keep keeps taps))) ts') ≡ turns_due stream who (map (slice_of (over stream taps)) ts)
    due ts ts' all = ap (turns_due stream who) (slices ts ts' all) ∙ due-left stream who keep leaves.others (map (slice_of (over stream taps)) ts)

    -- the node of a turn is ordered where it was
    order : (t t' : Turn) → IsMoved stream taps keep keeps t t' → is_ordered stream (node_log (over stream (left_of keep keeps taps)) t'.node) ≡ is_ordered stream (node_log (over stream taps) t.node)
    order t t' is = ap (is_ordered stream) is.node.log ∙ ordered-moved stream who.pid keep leaves.others (node_log (over stream taps) t.node) is.first

    unordered-there : (ts ts' : List Turn) → AreMoved stream taps keep keeps ts ts' → (t : Turn) → Contains ts t → is_ordered stream (node_log (over stream taps) t.node) ≡ false
        → (t' : Turn) × Contains ts' t' × (is_ordered stream (node_log (over stream (left_of keep keeps taps)) t'.node) ≡ false)
    unordered-there [] ts' all t (k, within, at) unordered = absurd (omega (arith, within))
    unordered-there (x ∷ ts) [] all t among unordered = absurd all
    unordered-there (x ∷ ts) (x' ∷ ts') all t (zero, within, at) unordered =
        (x', (0, omega arith, refl), order x x' all.0 ∙ ap (λ (u : Turn). is_ordered stream (node_log (over stream taps) u.node)) at ∙ unordered)
    unordered-there (x ∷ ts) (x' ∷ ts') all t (suc k, within, at) unordered =
        let (t', (k', within', at'), unordered') = unordered-there ts ts' all.1 t (k, omega (arith, within), at) unordered in
        (t', (suc k', omega (arith, within'), at'), unordered')

    unordered-back : (ts ts' : List Turn) → AreMoved stream taps keep keeps ts ts' → (t' : Turn) → Contains ts' t' → is_ordered stream (node_log (over stream (left_of keep keeps taps)) t'.node) ≡ false
        → (t : Turn) × Contains ts t × (is_ordered stream (node_log (over stream taps) t.node) ≡ false)
    unordered-back ts [] all t' (k, within, at) unordered = absurd (omega (arith, within))
    unordered-back [] (x' ∷ ts') all t' among unordered = absurd all
    unordered-back (x ∷ ts) (x' ∷ ts') all t' (zero, within, at) unordered =
        (x, (0, omega arith, refl), sym (order x x' all.0) ∙ ap (λ (u : Turn). is_ordered stream (node_log (over stream (left_of keep keeps taps)) u.node)) at ∙ unordered)
    unordered-back (x ∷ ts) (x' ∷ ts') all t' (suc k, within, at) unordered =
        let (t, (k', within', at'), was) = unordered-back ts ts' all.1 t' (k, omega (arith, within), at) unordered in
        (t, (suc k', omega (arith, within'), at'), was)

    -- a chain is one among the taps that are left
    pub chain-there : (ts : List Turn) → IsChain (over stream taps) who ts → CarriedChain stream taps (left_of keep keeps taps) who ts
    chain-there ts chain =
        let (ts', are', all) = turns-there 0 ts chain.are_turns in
        let count = same-count ts ts' all in
        record {
          turns = ts';
          is = record { some = (let some = chain.some in omega (arith, some, count)); are_turns = are'; covers = covers ts' all };
          count = count;
          due = due ts ts' all;
          unordered = unordered-there ts ts' all;
        }
      where
        covers : (ts' : List Turn) → AreMoved stream taps keep keeps ts ts' → (node number : ℕ) (rec : NodeRec) → slice_get (node_log (over stream (left_of keep keeps taps)) node) number ≡ Some rec
            → pid_of rec ≡ Some who.pid → StandsIn node number ts'
        covers ts' all node' number rec at names =
            let node = stood keeps taps node' in
            let place = placed-left stream taps keep keeps node' number rec at in
            let log = node_log (over stream taps) node in
            let at' : slice_get (filter keep log) number ≡ Some rec = sym (ap (λ l. slice_get l number) place.log) ∙ at in
            let was = at-stood keep log number rec at' in
            let kept = own-kept keep who.pid leaves.others rec names in
            subst (λ n. StandsIn node' n ts') (moved-stood keep log number rec at')
            (stands-there node node' (stood keep log number) rec place was kept ts ts' all (chain.covers node (stood keep log number) rec was names))

    -- and was before
    pub chain-back : (ts' : List Turn) → IsChain (over stream (left_of keep keeps taps)) who ts' → CarriedChain stream (left_of keep keeps taps) taps who ts'
    chain-back ts' chain =
        let (ts, were, all) = turns-back 0 ts' chain.are_turns in
        let count = same-count ts ts' all in
        record {
          turns = ts;
          is = record { some = (let some = chain.some in omega (arith, some, count)); are_turns = were; covers = covers ts all };
          count = sym count;
          due = sym (due ts ts' all);
          unordered = unordered-back ts ts' all;
        }
      where
        covers : (ts : List Turn) → AreMoved stream taps keep keeps ts ts' → (node number : ℕ) (rec : NodeRec) → slice_get (node_log (over stream taps) node) number ≡ Some rec
            → pid_of rec ≡ Some who.pid → StandsIn node number ts
        covers ts all node number rec at names =
            let node' = moved keeps taps node in
            let place = placed-own stream taps keep keeps who.pid leaves node number rec at names in
            let log = node_log (over stream taps) node in
            let kept = own-kept keep who.pid leaves.others rec names in
            let at' : slice_get (node_log (over stream (left_of keep keeps taps)) node') (moved keep log number) ≡ Some rec = ap (λ l. slice_get l (moved keep log number)) place.log ∙ at-moved keep log number rec at kept in
            stands-back node node' number rec place at kept ts ts' all (chain.covers node' (moved keep log number) rec at' names)

  module _ (pid : Text) (leaves : Leaves stream taps keep keeps pid) where
    -- where no record began a turn, none does
    pub no_turn-there : HasNoTurn (over stream taps) pid 0 → HasNoTurn (over stream (left_of keep keeps taps)) pid 0
    no_turn-there none node' i rec at begins =
        let node = stood keeps taps node' in
        let log = node_log (over stream taps) node in
        let place = placed-left stream taps keep keeps node' i rec at in
        none node (stood keep log i) rec (at-stood keep log i rec (sym (ap (λ l. slice_get l i) place.log) ∙ at)) begins

    -- and where none does, none did
    pub no_turn-back : HasNoTurn (over stream (left_of keep keeps taps)) pid 0 → HasNoTurn (over stream taps) pid 0
    no_turn-back none node i rec at begins =
        let names = begins-names pid 0 rec begins in
        let log = node_log (over stream taps) node in
        let place = placed-own stream taps keep keeps pid leaves node i rec at names in
        let kept = own-kept keep pid leaves.others rec names in
        none (moved keeps taps node) (moved keep log i) rec (ap (λ l. slice_get l (moved keep log i)) place.log ∙ at-moved keep log i rec at kept) begins
