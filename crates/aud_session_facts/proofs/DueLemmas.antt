-- Why an entry is not due to the session of a made certificate.
use Rattle.std.proofs.Common.{◌≡◌, ◌<◌, ℕ, Bool, true, false, inl, inr, ◌&&◌, ◌||◌, not, List, [], ◌∷◌, map, length, Option, Some, None, option_map, refl, sym, ap, ◌∙◌, arith, nat_lt}
use Rattle.std.specs.Prelude.{if◌then◌else◌}
use Rattle.std.specs.List.{find, list_any}
use Rattle.std.specs.Option.{is_none}
use Rattle.std.specs.FinSet as set
use Rattle.std.proofs.lemmas.Bool.{cases_lt}
use Rattle.std.proofs.lemmas.Bool.Decides.{nat_tests}
use Rattle.std.proofs.lemmas.List.{length-map}
use Rattle.std.proofs.lemmas.Option.{same_Some}
use Rattle.aud_tap.specs.declared.records.Event.{Event}
use Rattle.aud_tap.specs.declared.records.StreamRec.{StreamRec}
use Rattle.aud_tap.specs.declared.records.StreamRec.TheVariants.{Ev, Other}
use Rattle.std.specs.Str.{bytes_eq}
use Rattle.aud_node.specs.Lists.{is_empty}
use Rattle.aud_node.specs.Cluster.{Cluster}
use Rattle.aud_node.specs.Recoverable.{is_recoverable}
use Rattle.aud_node.specs.Stream.{Text, entry}
use Rattle.aud_rooms.specs.Rooms.{Rooms, own_room, is_for}
use Rattle.aud_rooms.specs.Spans.{first_low}
use Rattle.aud_rooms.specs.Turns.{Who, Turn, Slice, slice_of}
use Rattle.aud_rooms.specs.TurnsDue.{greatest_high, is_past_first, is_for_rooms, is_turn_due}
use Rattle.aud_rooms.proofs.ByTurns.{rooms_for-past}
use Rattle.aud_cert.specs.Certificate.{CertificateSeen}
use Rattle.aud_maker.specs.Made.{IsMade}
use Rattle.aud_merge.specs.ByTurns.{rooms_of_turns}
use Rattle.aud_session_facts.specs.Opened.{greatest_turn_high, opened_in}
use Rattle.aud_session_facts.proofs.Highs.{highs}
use Rattle.aud_session_facts.proofs.MissedLemmas.{opened_is}
use Rattle.aud_session_facts.specs.Reasons.{Reason, BeforeBirth, OtherNamespace, NotRecoverable, NoCommonRoom, Excepted}
use Rattle.aud_session_facts.specs.NotDue.{why_no_event_for, why_not_for, why_not_for_rooms, why_not_due}
use Rattle.aud_session_facts.specs.Private.BySpans.{why_by_spans}
use Rattle.aud_session_facts.proofs.RoomsHeld.{slices, held_there}

-- no element is found where none passes
none_found : {X : Type 0} {Y : Type 0} (f : X → Y) (test : X → Bool) (xs : List X) → is_none (option_map f (find test xs)) ≡ not (list_any test xs)
none_found f test [] = refl
none_found f test (x ∷ xs) = grind (arith, none_found f test xs)

-- there is no reason where all tests pass
all_decided : (nsp recoverable named : Bool) (last : Option Reason) (excepted : Bool) → is_none last ≡ not excepted
    → is_none (if not nsp then Some OtherNamespace else if not recoverable then Some NotRecoverable else if not named then Some NoCommonRoom else last) ≡ recoverable && (nsp && (named && not excepted))
all_decided false false named last excepted e = refl
all_decided false true named last excepted e = refl
all_decided true false named last excepted e = refl
all_decided true true false last excepted e = refl
all_decided true true true last excepted e = e

-- there is no reason where the event is for the session
event_decided : (event : Event) (nsp : Text) (held : Rooms) → is_none (why_no_event_for event nsp held) ≡ is_for (Some (Ev event)) nsp held
event_decided event nsp held =
    all_decided (bytes_eq event.nsp nsp) (is_recoverable (Ev event)) (is_empty event.rooms || list_any (set.contains held) event.rooms) (option_map Excepted (find (set.contains held) event.except)) (list_any (set.contains held) event.except)
    (none_found Excepted (set.contains held) event.except)

-- the same of an entry
entry_decided : (at : Option StreamRec) (nsp : Text) (held : Rooms) → is_none (why_not_for at nsp held) ≡ is_for at nsp held
unfolding is_recoverable
entry_decided None nsp held = refl
entry_decided (Some (Ev event)) nsp held = event_decided event nsp held
entry_decided (Some (Other off)) nsp held = refl

-- the same of the rooms of a position, if it was reached
reached_decided : (at : Option StreamRec) (nsp : Text) (o : Option Rooms) → is_none (why_not_for_rooms at nsp o) ≡ is_for_rooms at nsp o
reached_decided at nsp None = refl
reached_decided at nsp (Some held) = entry_decided at nsp held

-- the same past birth alone
past_decided : (past : Bool) (o : Option Reason) (due : Bool) → is_none o ≡ due → is_none (if past then o else Some BeforeBirth) ≡ past && due
past_decided true o due e = e
past_decided false o due e = refl

-- there is no reason where the position is due
pub due_decided : (c : Cluster) (who : Who) (turns : List Turn) (p : ℕ) → is_none (why_not_due c who turns p) ≡ is_turn_due c.stream who (map (slice_of c) turns) p
due_decided c who turns p =
    past_decided (is_past_first (map (slice_of c) turns) p) (why_not_for_rooms (entry c.stream p) who.nsp (rooms_of_turns c who turns p)) (is_for_rooms (entry c.stream p) who.nsp (rooms_of_turns c who turns p))
    (reached_decided (entry c.stream p) who.nsp (rooms_of_turns c who turns p))

-- what is not there stays so
pub none_mapped : {X : Type 0} {Y : Type 0} (f : X → Y) (o : Option X) → is_none (option_map f o) ≡ is_none o
none_mapped f None = refl
none_mapped f (Some x) = refl

-- past the first slice's low
past_first : (all : List Slice) (p : ℕ) → 0 < length all → is_past_first all p ≡ nat_lt (first_low all) p
past_first [] p some = absurd (omega arith)
past_first (slice ∷ later) p some = refl

module _ (c : Cluster) (cert : CertificateSeen) (made : IsMade c cert.pid cert) where
  -- what the spans tell is why
  pub why_there : (p : ℕ) → why_by_spans c.stream cert.spans made.who.nsp (first_low (slices c cert made)) (greatest_high (slices c cert made)) p ≡ why_not_due c made.who made.turns p
  why_there p =
      elim (cases_lt low p) as (λ _. why_by_spans c.stream cert.spans made.who.nsp low high p ≡ why_not_due c made.who made.turns p) [
        | inr before ↦ grind (arith, nat_tests, first)
        | inl past ↦
            elim (cases_lt high p) as (λ _. why_by_spans c.stream cert.spans made.who.nsp low high p ≡ why_not_due c made.who made.turns p) [
              | inl beyond ↦ grind (arith, nat_tests, first, rooms_for-past c.stream made.who.pid p (own_room made.who.sid) all beyond)
              | inr within ↦ grind (arith, nat_tests, first, held_there c cert made p past within)
            ]
      ]
    where
      all : List Slice
      all = slices c cert made

      low : ℕ
      low = first_low all

      high : ℕ
      high = greatest_high all

      some : 0 < length all
      some = let turns = made.chain.some in omega (arith, turns, length-map made.turns (slice_of c))

      first : is_past_first all p ≡ nat_lt low p
      first = past_first all p some

  -- the same of what the code has
  pub why_so : (p : ℕ) (sid nsp : Text) (low high : ℕ) → opened_in cert.turns ≡ Some (sid, nsp, low) → high ≡ greatest_turn_high cert.turns
      → why_by_spans c.stream cert.spans nsp low high p ≡ why_not_due c made.who made.turns p
  why_so p sid nsp low high opened high_is =
      let same = same_Some (sid, nsp, low) (made.who.sid, made.who.nsp, first_low (slices c cert made)) (sym opened ∙ opened_is c cert made) in
      let nsp_is : nsp ≡ made.who.nsp = ap (λ (o : Text × Text × ℕ). o.1) same in
      let low_is : low ≡ first_low (slices c cert made) = ap (λ (o : Text × Text × ℕ). o.2) same in
      let top_is : high ≡ greatest_high (slices c cert made) = high_is ∙ ap greatest_turn_high made.is.turns_are ∙ highs c made.turns in
      (λ i. why_by_spans c.stream cert.spans (nsp_is i) (low_is i) (top_is i) p) ∙ why_there p
