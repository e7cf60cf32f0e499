-- What is due by the spans of the rooms at the break is what was missed.
use Rattle.std.proofs.Common.{◌≡◌, ◌<◌, ◌≤◌, ℕ, List, [], ◌∷◌, map, length, Option, Some, unwrap_or, refl, sym, ap, subst, ◌∙◌, arith, max}
use Rattle.std.proofs.lemmas.Bool.Decides.{nat_tests}
use Rattle.std.proofs.lemmas.Grind.{common_steps}
use Rattle.std.proofs.lemmas.List.{length-replicate, get_or-replicate}
use Rattle.std.proofs.lemmas.List.Elements.{filter_agree}
use Rattle.std.proofs.lemmas.Option.{gets, same_Some}
use Rattle.aud_tap.specs.declared.records.StreamRec.{StreamRec}
use Rattle.aud_node.specs.Cluster.{Cluster, node_log}
use Rattle.aud_node.specs.Stream.{Text, positions_after}
use Rattle.aud_rooms.specs.Assigned.{Assigned, starting, covered, assigned_rooms, covered_upto, AreSpansOf}
use Rattle.aud_rooms.specs.Rooms.{Rooms}
use Rattle.aud_rooms.specs.Spans.{RoomSpan, due_by_spans, is_due_by_spans, rooms_by_spans, first_low}
use Rattle.aud_rooms.specs.Turns.{Who, Turn, AreTurns, beginning, slice_of}
use Rattle.aud_rooms.proofs.ByTurns.{rooms_by_spans-are}
use Rattle.aud_base.proofs.Lists.{between-more}
use Rattle.aud_cert.specs.Certificate.{CertificateSeen, TurnSeen, turn_at}
use Rattle.aud_maker.specs.Made.{IsMade, turn_seen}
use Rattle.aud_session_facts.specs.Missed.{rooms_at_break, is_missed, missed_between, IsMissedFrom}
use Rattle.aud_session_facts.specs.Held.{walked_turns}
use Rattle.aud_session_facts.specs.Opened.{opened_in}
use Rattle.aud_session_facts.proofs.HeldLemmas.{turns_held}

module _ (after high : ℕ) (held : Rooms) where
  -- positions past the first one are covered up to the high one, with these rooms
  abbrev all_held : Assigned
  all_held = covered_upto high (record { low = after; sets = []; held = held })

  -- so far are they covered
  upto : covered all_held ≡ max after high
  upto = grind (arith, common_steps, length-replicate)

  -- each of them has these rooms
  rooms_there : (p : ℕ) → after < p → p ≤ high → assigned_rooms all_held p ≡ held
  rooms_there p past within = grind (arith, common_steps, gets, get_or-replicate, length-replicate)

  -- what is due by their spans is what was missed
  pub due_is_missed : (stream : List StreamRec) (nsp : Text) (spans : List RoomSpan) → AreSpansOf all_held spans
      → due_by_spans spans stream nsp after high ≡ missed_between stream nsp held after high
  due_is_missed stream nsp spans are =
      filter_agree (is_due_by_spans spans stream nsp after high) (is_missed stream nsp held after high) same (positions_after 0 (length stream))
    where
      rooms : (p : ℕ) → after < p → p ≤ high → rooms_by_spans spans p ≡ held
      rooms p past within =
          let there : p ≤ covered all_held = rw upto (omega arith) in
          rooms_by_spans-are (assigned_rooms all_held) after (covered all_held) spans are p past there ∙ rooms_there p past within

      same : (p : ℕ) → is_due_by_spans spans stream nsp after high p ≡ is_missed stream nsp held after high p
      same p = grind (arith, nat_tests, rooms p)

-- a made certificate shows in its first record the session's `open`, and the cursor after it
opened-first : (c : Cluster) (who : Who) (turns : List Turn) → 0 < length turns → AreTurns c who 0 turns
    → opened_in (map (turn_seen c) turns) ≡ Some (who.sid, who.nsp, first_low (map (slice_of c) turns))
opened-first c who [] some are = absurd (omega arith)
opened-first c who (t ∷ turns) some are = rw (between-more (node_log c t.node) t.from t.to (beginning who 0) are.0.some are.0.begins) refl

module _ (c : Cluster) (cert : CertificateSeen) (made : IsMade c cert.pid cert) where
  -- so does this one
  pub opened_is : opened_in cert.turns ≡ Some (made.who.sid, made.who.nsp, first_low (map (slice_of c) made.turns))
  opened_is = ap opened_in made.is.turns_are ∙ opened-first c made.who made.turns made.chain.some made.chain.are_turns

  -- what is due by the spans of what the builder was told was missed
  pub missed_is : map (turn_at c) cert.turns ≡ made.turns → (last : Option ℕ) (cursor after : ℕ) (spans : List RoomSpan)
      → after ≡ unwrap_or last (first_low (map (slice_of c) made.turns))
      → AreSpansOf (covered_upto cursor (walked_turns c cert.pid (map (turn_at c) cert.turns) (starting made.who.sid after))) spans
      → IsMissedFrom c cert.pid last cursor (due_by_spans spans c.stream made.who.nsp after cursor)
  missed_is there last cursor after spans from are =
      let held = rooms_at_break c made.who made.turns in
      let told : walked_turns c cert.pid (map (turn_at c) cert.turns) (starting made.who.sid after) ≡ record { low = after; sets = []; held = held } =
      ap (λ ts. walked_turns c cert.pid ts (starting made.who.sid after)) there
      ∙ ap (λ pid. walked_turns c pid made.turns (starting made.who.sid after)) (sym made.names)
      ∙ turns_held c made.who 0 made.turns (starting made.who.sid after) made.chain.are_turns in
      record {
        who = made.who;
        turns = made.turns;
        names = made.names;
        chain = made.chain;
        is =
            due_is_missed after cursor held c.stream made.who.nsp spans (subst (λ a. AreSpansOf (covered_upto cursor a) spans) told are)
            ∙ ap (λ n. missed_between c.stream made.who.nsp held n cursor) from;
      }

  -- what the parts of an opening are
  parts_of : (sid nsp : Text) (low : ℕ) → opened_in cert.turns ≡ Some (sid, nsp, low)
      → (sid ≡ made.who.sid) × (nsp ≡ made.who.nsp) × (low ≡ first_low (map (slice_of c) made.turns))
  parts_of sid nsp low is =
      let same = same_Some (sid, nsp, low) (made.who.sid, made.who.nsp, first_low (map (slice_of c) made.turns)) (sym is ∙ opened_is) in (
        ap (λ (o : Text × Text × ℕ). o.0) same,
        ap (λ (o : Text × Text × ℕ). o.1) same,
        ap (λ (o : Text × Text × ℕ). o.2) same,
      )

  -- the same of what the code has
  module _ (there : map (turn_at c) cert.turns ≡ made.turns) (logs : Cluster) (logs_is : logs ≡ c) (turns : List TurnSeen) (turns_is : turns ≡ cert.turns) (pid : Text) (pid_is : pid ≡ cert.pid) (sid nsp : Text) (low : ℕ)
      (opened : opened_in turns ≡ Some (sid, nsp, low)) where
    -- what was opened
    parts : (sid ≡ made.who.sid) × (nsp ≡ made.who.nsp) × (low ≡ first_low (map (slice_of c) made.turns))
    parts = parts_of sid nsp low (ap opened_in (sym turns_is) ∙ opened)

    pub missed_so : (last : Option ℕ) (cursor after : ℕ) (spans : List RoomSpan) (due : List ℕ)
        → after ≡ unwrap_or last low
        → AreSpansOf (covered_upto cursor (walked_turns logs pid (map (turn_at logs) turns) (starting sid after))) spans
        → due ≡ due_by_spans spans logs.stream nsp after cursor
        → IsMissedFrom c cert.pid last cursor due
    missed_so last cursor after spans due after_is are due_is =
        let all = missed_is there last cursor after spans (after_is ∙ ap (unwrap_or last) parts.2) (subst (λ a. AreSpansOf (covered_upto cursor a) spans) (λ i. walked_turns (logs_is i) (pid_is i) (map (turn_at (logs_is i)) (turns_is i)) (starting (parts.0 i) after)) are) in
        subst (IsMissedFrom c cert.pid last cursor) (sym (due_is ∙ (λ i. due_by_spans spans (logs_is i).stream (parts.1 i) after cursor))) all
