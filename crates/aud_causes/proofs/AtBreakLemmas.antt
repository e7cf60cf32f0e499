-- What is due by the spans of the rooms at a break is what is addressed to them.
use Rattle.std.proofs.Common.{◌≡◌, ℕ, zero, suc, List, [], ◌∷◌, map, take, Some, refl, sym, ap, subst, ◌∙◌}
use Rattle.std.proofs.lemmas.List.{take-map}
use Rattle.std.proofs.lemmas.Option.{same_Some}
use Rattle.aud_node.specs.Cluster.{Cluster}
use Rattle.aud_node.specs.Stream.{Text}
use Rattle.aud_rooms.specs.Assigned.{starting, covered_upto, AreSpansOf}
use Rattle.aud_rooms.specs.Spans.{RoomSpan, due_by_spans, first_low}
use Rattle.aud_rooms.specs.Turns.{Who, Turn, End, ByBreak, ByGone, ByLog, MayEnd, IsTurn, AreTurns, slice_of}
use Rattle.aud_cert.specs.Certificate.{CertificateSeen, TurnSeen, turn_at}
use Rattle.aud_maker.specs.Made.{IsMade}
use Rattle.aud_session_facts.specs.Missed.{rooms_at_break}
use Rattle.aud_session_facts.specs.Opened.{opened_in}
use Rattle.aud_session_facts.specs.Held.{walked_turns}
use Rattle.aud_session_facts.proofs.HeldLemmas.{turns_held}
use Rattle.aud_session_facts.proofs.MissedLemmas.{opened_is, due_is_missed}
use Rattle.aud_causes.specs.declared.facts.Replay.{Replay}
use Rattle.aud_causes.specs.AtBreak.{due_at_break}

-- none of no turns
none_taken : (n : ℕ) (later : List Turn) → later ≡ [] → take n later ≡ []
none_taken zero later e = refl
none_taken (suc n) later e = ap (take (suc n)) e

-- a turn may end so before fewer turns
ends_sooner : (c : Cluster) (t : Turn) (later : List Turn) (n : ℕ) (end : End) → MayEnd c t later end → MayEnd c t (take n later) end
ends_sooner c t later n ByBreak may = tt
ends_sooner c t later n ByGone may = none_taken n later may
ends_sooner c t later n ByLog may = (none_taken n later may.0, may.1)

-- it is a turn before fewer
turn_sooner : (c : Cluster) (who : Who) (k : ℕ) (t : Turn) (later : List Turn) (n : ℕ) → IsTurn c who k t later → IsTurn c who k t (take n later)
turn_sooner c who k t later n turn =
    record {
      within = turn.within;
      some = turn.some;
      begins = turn.begins;
      end = turn.end;
      ends = turn.ends;
      may_end = ends_sooner c t later n turn.end turn.may_end;
    }

-- the first of turns are turns
are_taken : (n : ℕ) (c : Cluster) (who : Who) (k : ℕ) (turns : List Turn) → AreTurns c who k turns → AreTurns c who k (take n turns)
are_taken zero c who k turns are = tt
are_taken (suc n) c who k [] are = tt
are_taken (suc n) c who k (t ∷ later) are = (turn_sooner c who k t later n are.0, are_taken n c who (suc k) later are.1)

module _ (c : Cluster) (cert : CertificateSeen) (made : IsMade c cert.pid cert) (there : map (turn_at c) cert.turns ≡ made.turns) where
  -- the first of the certificate's turns are the first of the session's
  first_there : (count : ℕ) → map (turn_at c) (take count cert.turns) ≡ take count made.turns
  first_there count = sym (take-map (turn_at c) count cert.turns) ∙ ap (take count) there

  -- what is due by the spans of what the builder was told
  pub at_break_is : (count after low : ℕ) (spans : List RoomSpan)
      → AreSpansOf (covered_upto low (walked_turns c cert.pid (map (turn_at c) (take count cert.turns)) (starting made.who.sid after))) spans
      → due_by_spans spans c.stream made.who.nsp after low ≡ due_at_break c made.who made.turns count (record { after = after; low = low })
  at_break_is count after low spans are =
      let held = rooms_at_break c made.who (take count made.turns) in
      let told : walked_turns c cert.pid (map (turn_at c) (take count cert.turns)) (starting made.who.sid after) ≡ record { low = after; sets = []; held = held } =
      ap (λ ts. walked_turns c cert.pid ts (starting made.who.sid after)) (first_there count)
      ∙ ap (λ pid. walked_turns c pid (take count made.turns) (starting made.who.sid after)) (sym made.names)
      ∙ turns_held c made.who 0 (take count made.turns) (starting made.who.sid after) (are_taken count c made.who 0 made.turns made.chain.are_turns) in
      due_is_missed after low held c.stream made.who.nsp spans (subst (λ a. AreSpansOf (covered_upto low a) spans) told are)

  -- the same of what the code has
  module _ (logs : Cluster) (logs_is : logs ≡ c) (turns : List TurnSeen) (turns_is : turns ≡ cert.turns) (pid : Text) (pid_is : pid ≡ cert.pid) (sid nsp : Text) (low : ℕ)
      (opened : opened_in turns ≡ Some (sid, nsp, low)) where
    -- what was opened
    parts : (sid ≡ made.who.sid) × (nsp ≡ made.who.nsp)
    parts =
        let same = same_Some (sid, nsp, low) (made.who.sid, made.who.nsp, first_low (map (slice_of c) made.turns)) (sym opened ∙ ap opened_in turns_is ∙ opened_is c cert made) in (
          ap (λ (o : Text × Text × ℕ). o.0) same,
          ap (λ (o : Text × Text × ℕ). o.1) same,
        )

    pub at_break_so : (count : ℕ) (before : List TurnSeen) (replay : Replay) (spans : List RoomSpan) (due : List ℕ)
        → before ≡ take count turns
        → AreSpansOf (covered_upto replay.low (walked_turns logs pid (map (turn_at logs) before) (starting sid replay.after))) spans
        → due ≡ due_by_spans spans logs.stream nsp replay.after replay.low
        → due ≡ due_at_break c made.who made.turns count replay
    at_break_so count before replay spans due before_is are due_is =
        due_is
        ∙ (λ i. due_by_spans spans (logs_is i).stream (parts.1 i) replay.after replay.low)
        ∙ at_break_is count replay.after replay.low spans
        (subst (λ a. AreSpansOf (covered_upto replay.low a) spans)
        (ap (λ ts. walked_turns logs pid (map (turn_at logs) ts) (starting sid replay.after)) before_is ∙ (λ i. walked_turns (logs_is i) (pid_is i) (map (turn_at (logs_is i)) (take count (turns_is i))) (starting (parts.0 i) replay.after)))
        are)
