-- What is told to the builder of spans gives the positions the rooms of the turns.
use Rattle.std.proofs.lemmas.Grind.{common_steps}
use Rattle.std.proofs.lemmas.Bool.Decides.{nat_tests}
use Rattle.std.proofs.Common.{◌≡◌, ◌<◌, ◌≤◌, ◌+◌, ◌-◌, ℕ, zero, suc, false, cond, List, [], ◌∷◌, ◌++◌, map, filter, max, Option, Some, None, slice_get, unwrap_or, option_map, refl, sym, ap, subst, ◌∙◌, nat_le, arith, All}
use Rattle.std.specs.Option.{option_or}
use Rattle.std.specs.FinSet as set
use Rattle.std.proofs.lemmas.Bool.{cond_both}
use Rattle.std.proofs.lemmas.List.{length-replicate, get_or-replicate}
use Rattle.std.proofs.lemmas.Option.{gets, slice_get_cases, slice_get_past}
use Rattle.std.proofs.lemmas.List.Elements.{All-head, All-tail}
use Rattle.aud_tap.specs.declared.records.NodeRec.{NodeRec}
use Rattle.aud_node.specs.Cluster.{Cluster, node_log}
use Rattle.aud_node.specs.Cursors.{later_cursor, cursor_at}
use Rattle.aud_node.specs.Lists.{between, numbers_from}
use Rattle.aud_node.specs.OwnRecords.{record_names}
use Rattle.aud_node.specs.Stream.{Text}
use Rattle.aud_rooms.specs.Rooms.{Rooms, rooms_after}
use Rattle.aud_rooms.specs.Turns.{Turn, slice_of}
use Rattle.aud_rooms.specs.TurnsDue.{rooms_at_end, rooms_at_reach, rooms_for, greatest_high}
use Rattle.aud_rooms.specs.Spans.{RoomSpan, AreSpans, AreSpansOfTurns, first_low, rooms_by_turns}
use Rattle.aud_rooms.specs.Assigned.{Assigned, starting, covered, assigned_rooms, covered_upto, AreSpansOf}
use Rattle.aud_rooms.specs.TurnPlaces.{IsWithin, IsInOrder}
use Rattle.aud_rooms.specs.Private.Walk.{at_cursor, walked_record, walked_records, walked_turn, walked_turns}
use Rattle.aud_rooms.proofs.Intervals.{spans_alike}
use Rattle.aud_rooms.proofs.OwnNumbers.{own_between-is}
use Rattle.aud_rooms.proofs.Records.{other_rooms, cursor_before, before_moves, before_rises, later_stays}
use Rattle.aud_node.proofs.RecordLemmas.{cursor_at-rises}
use Rattle.aud_base.proofs.Lists.{element_at, between-more, between-none}

-- the rooms that a position past the state's low has so far, if it is covered
abbrev given : ℕ → Assigned → Option Rooms
given p a = slice_get a.sets (p - suc a.low)

-- the rooms, for a position up to this one
abbrev upto : ℕ → ℕ → Rooms → Option Rooms
upto p last rooms = cond (nat_le p last) (Some rooms) None

-- the first of three that is there
or_or : (f g h : Option Rooms) → option_or (option_or f g) h ≡ option_or f (option_or g h)
or_or f g h = grind arith

module _ (a : Assigned) (q : ℕ) where
  -- so far are positions covered
  covered-upto : covered (covered_upto q a) ≡ max (covered a) q
  covered-upto = grind (arith, common_steps, length-replicate)

  -- the positions covered before keep their rooms, and the others have the rooms held now
  given-upto : (p : ℕ) → a.low < p → given p (covered_upto q a) ≡ option_or (given p a) (upto p q a.held)
  given-upto p past = grind (arith, common_steps, nat_tests, gets, get_or-replicate, length-replicate, slice_get_past, slice_get_cases a.sets (p - suc a.low))

-- what a state becomes: the positions that have no rooms yet get the wanted rooms up to a last one
record Told (last : ℕ) (want : ℕ → Rooms) (held : Rooms) (a b : Assigned) : Type 0 where
  low : b.low ≡ a.low
  covers : covered b ≡ max (covered a) last
  holds : b.held ≡ held
  gives : (p : ℕ) → a.low < p → given p b ≡ option_or (given p a) (upto p last (want p))

-- positions are covered, the rooms held now change, and then the state becomes this
told_after : (q last : ℕ) (want later : ℕ → Rooms) (now held : Rooms) (a b : Assigned) → q ≤ last → Told last later held (record (covered_upto q a) { held = now }) b
    → ((p : ℕ) → option_or (upto p q a.held) (upto p last (later p)) ≡ upto p last (want p)) → Told last want held a b
told_after q last want later now held a b up after step =
    let covers = after.covers in
    let begun = covered-upto a q in
    record {
      low = after.low;
      covers = omega (arith, covers, begun, up);
      holds = after.holds;
      gives = λ p past.
          after.gives p past
          ∙ ap (λ o. option_or o (upto p last (later p))) (given-upto a q p past)
          ∙ or_or (given p a) (upto p q a.held) (upto p last (later p))
          ∙ ap (option_or (given p a)) (step p);
    }

module _ (c : Cluster) (pid : Text) (t : Turn) (is_within : IsWithin c t) where
  -- the records of the turn's node
  abbrev log : List NodeRec
  log = node_log c t.node

  -- its cursor after so many of them
  abbrev cur : ℕ → ℕ
  cur n = cursor_at c.stream log n

  -- the rooms of a position: those held before a record, where the cursor has come to the position, else those at the
  -- first record after which it has
  abbrev want : ℕ → Rooms → ℕ → Rooms
  want x held p = cond (nat_le p (cursor_before c.stream log x)) held (rooms_at_reach c.stream pid p (cursor_before c.stream log x) held (between log x t.to))

  -- what a state becomes by the records from this one on
  abbrev ToldFrom : ℕ → Assigned → Assigned → Type 0
  ToldFrom x a b = Told (cur t.to) (want x a.held) (rooms_at_end pid a.held (between log x t.to)) a b

  module _ (x : ℕ) (rec : NodeRec) (a : Assigned) (h : x < t.to) (at : slice_get log x ≡ Some rec) where
    -- the records from this one on are this one and those after it
    records : between log x t.to ≡ rec ∷ between log (suc x) t.to
    records = between-more log x t.to rec h at

    -- the cursor doesn't fall from here on
    rises : cur (suc x) ≤ cur t.to
    rises = cursor_at-rises c.stream log (suc x) t.to (omega arith)

    -- the record moves the cursor there
    moves : later_cursor c.stream rec (cursor_before c.stream log x) ≡ cur (suc x)
    moves = before_moves c.stream log x rec at

    -- not back
    moves_on : cursor_before c.stream log x ≤ cur (suc x)
    moves_on = before_rises c.stream log x

    -- the positions up to the cursor have the rooms held before the record, and the later ones those that are wanted
    -- after it
    want_more : (p : ℕ) → option_or (upto p (cur (suc x)) a.held) (upto p (cur t.to) (want (suc x) (rooms_after pid a.held rec) p)) ≡ upto p (cur t.to) (want x a.held p)
    want_more p = grind (arith, nat_tests, moves, moves_on, records, rises)

    -- one of the session's own records
    its_own : (b : Assigned) → ToldFrom (suc x) (walked_record c t.node pid x a) b → ToldFrom x a b
    its_own b next =
        subst (λ held. Told (cur t.to) (want x a.held) held a b) (ap (rooms_at_end pid a.held) (sym records))
        (told_after (cur (suc x)) (cur t.to) (want x a.held) (want (suc x) (rooms_after pid a.held rec)) (rooms_after pid a.held rec) _ a b rises
        (subst (λ o. ToldFrom (suc x) (at_cursor pid (cur (suc x)) o a) b) at next) want_more)

    -- a record of another session, or of none
    other : (b : Assigned) → record_names (Some rec) pid ≡ false → ToldFrom (suc x) a b → ToldFrom x a b
    other b not_own after =
        let same = other_rooms pid a.held rec not_own in
        record {
          low = after.low;
          covers = after.covers;
          holds = after.holds ∙ ap (λ held. rooms_at_end pid held (between log (suc x) t.to)) (sym same) ∙ ap (rooms_at_end pid a.held) (sym records);
          gives = λ p past. after.gives p past ∙ ap (option_or (given p a)) (grind (arith, nat_tests, same, want_more p, rises));
        }

  -- all records from this one on
  all : (count x : ℕ) (a : Assigned) → x + count ≡ t.to
      → ToldFrom x a (covered_upto (cur t.to) (walked_records c t.node pid (filter (λ number. record_names (slice_get log number) pid) (numbers_from x count)) a))
  all zero x a e =
      let last : x ≡ t.to = omega arith in
      record {
        low = refl;
        covers = covered-upto a (cur t.to);
        holds = sym (ap (rooms_at_end pid a.held) (between-none log x t.to (omega arith)));
        gives = λ p past. given-upto a (cur t.to) p past ∙ ap (option_or (given p a)) (grind (arith, between-none log x t.to));
      }
  all (suc count) x a e =
      let within = is_within.within in
      let (rec, at) = element_at log x (omega (arith, e)) in
      let some : x < t.to = omega (arith, e) in
      let rest = filter (λ number. record_names (slice_get log number) pid) (numbers_from (suc x) count) in
      cond_both (record_names (slice_get log x) pid) (x ∷ rest) rest (λ ns. ToldFrom x a (covered_upto (cur t.to) (walked_records c t.node pid ns a)))
      (λ is. its_own x rec a some at _ (all count (suc x) (walked_record c t.node pid x a) (omega (arith, e))))
      (λ is. other x rec a some at _ (ap (λ o. record_names o pid) (sym at) ∙ is) (all count (suc x) a (omega (arith, e))))

  -- what is told of a turn gives its positions the rooms that the turn gives them
  turn_walked : (a : Assigned) → Told (slice_of c t).high (λ p. cond (nat_le p (slice_of c t).low) a.held (rooms_at_reach c.stream pid p (slice_of c t).low a.held (slice_of c t).recs)) (rooms_at_end pid a.held (slice_of c t).recs) a (walked_turn c pid t a)
  turn_walked a =
      let low = cur (suc t.from) in
      let within = is_within.within in
      let some = is_within.some in
      let (rec, at) = element_at log t.from (omega (arith, some, within)) in
      let stays = later_stays c.stream log t.from rec at in
      told_after low (cur t.to) _ (want t.from a.held) a.held _ a _ (rises t.from rec a some at)
      (subst (λ ns. ToldFrom t.from (covered_upto low a) (covered_upto (cur t.to) (walked_records c t.node pid ns (covered_upto low a)))) (sym (own_between-is log pid t.from t.to (omega arith) within))
      (all (t.to - t.from) t.from (covered_upto low a) (omega arith)))
      (λ p. grind (arith, nat_tests, stays, moves t.from rec a some at, moves_on t.from rec a some at, records t.from rec a some at, rises t.from rec a some at))

-- turns give the positions the rooms that the slices give them
record AllWalked (c : Cluster) (pid : Text) (turns : List Turn) (a b : Assigned) : Type 0 where
  low : b.low ≡ a.low
  covers : covered b ≡ max (covered a) (greatest_high (map (slice_of c) turns))
  gives : (p : ℕ) → a.low < p → given p b ≡ option_or (given p a) (rooms_for c.stream pid a.held (map (slice_of c) turns) p)

-- what is told of turns, one after the other, gives their positions the rooms that they give
turns_walked : (c : Cluster) (pid : Text) (turns : List Turn) → All (IsInOrder c) turns → (a : Assigned) → AllWalked c pid turns a (walked_turns c pid turns a)
turns_walked c pid [] in_order a = record { low = refl; covers = omega arith; gives = λ p past. grind arith }
turns_walked c pid (t ∷ turns) in_order a =
    let one = turn_walked c pid t (All-head (IsInOrder c) t turns in_order).is_within a in
    let rest = turns_walked c pid turns (All-tail (IsInOrder c) t turns in_order) (walked_turn c pid t a) in
    let high = one.covers in
    let all = rest.covers in
    let low = one.low in
    record {
      low = rest.low ∙ one.low;
      covers = omega (arith, high, all);
      gives = λ p past. grind (arith, rest.gives p (omega (arith, low, past)), one.holds, one.gives p past, or_or (given p a));
    }

-- the first low is no greater than the greatest high
lowest : (c : Cluster) (turns : List Turn) → All (IsInOrder c) turns → first_low (map (slice_of c) turns) ≤ greatest_high (map (slice_of c) turns)
lowest c [] in_order = omega arith
lowest c (t ∷ turns) in_order = grind (arith, All-head (IsInOrder c) t turns in_order, cursor_at-rises c.stream (node_log c t.node) (suc t.from) t.to)

module _ (c : Cluster) (pid sid nsp : Text) (turns : List Turn) (in_order : All (IsInOrder c) turns) where
  -- before the first turn
  abbrev begun : Assigned
  begun = starting sid (first_low (map (slice_of c) turns))

  -- after all turns
  abbrev told : Assigned
  told = walked_turns c pid turns begun

  -- the rooms by the turns
  abbrev by_turns : ℕ → Rooms
  by_turns = rooms_by_turns c.stream (record { pid = pid; sid = sid; nsp = nsp }) (map (slice_of c) turns)

  -- all turns were told
  told_all : AllWalked c pid turns begun told
  told_all = turns_walked c pid turns in_order begun

  -- up to the greatest high
  told_upto : covered told ≡ greatest_high (map (slice_of c) turns)
  told_upto = (let covers = told_all.covers in let h = lowest c turns in_order in omega (arith, covers, h))

  -- the spans of what was told are those of the turns
  pub spans_of_walked : (spans : List RoomSpan) → AreSpansOf told spans → AreSpansOfTurns c.stream (record { pid = pid; sid = sid; nsp = nsp }) (map (slice_of c) turns) spans
  spans_of_walked spans are =
      let low : told.low ≡ first_low (map (slice_of c) turns) = told_all.low in
      subst (λ n. AreSpans by_turns n (greatest_high (map (slice_of c) turns)) spans) low
      (subst (λ n. AreSpans by_turns told.low n spans) told_upto
      (spans_alike (assigned_rooms told) by_turns told.low (covered told) spans
      (λ p x y. ap (λ o. unwrap_or o set.empty) (told_all.gives p (omega (arith, x, low)))) are))

-- one record more
pub walked_records-more : (c : Cluster) (node : ℕ) (pid : Text) (numbers : List ℕ) (number : ℕ) (a : Assigned)
    → walked_records c node pid (numbers ++ number ∷ []) a ≡ walked_record c node pid number (walked_records c node pid numbers a)
walked_records-more c node pid [] number a = refl
walked_records-more c node pid (n ∷ numbers) number a = walked_records-more c node pid numbers number (walked_record c node pid n a)

-- one turn more
pub walked_turns-more : (c : Cluster) (pid : Text) (turns : List Turn) (t : Turn) (a : Assigned) → walked_turns c pid (turns ++ t ∷ []) a ≡ walked_turn c pid t (walked_turns c pid turns a)
walked_turns-more c pid [] t a = refl
walked_turns-more c pid (s ∷ turns) t a = walked_turns-more c pid turns t (walked_turn c pid s a)

-- one record more for the builder
pub record_told : (c : Cluster) (node : ℕ) (pid : Text) (numbers : List ℕ) (number : ℕ) (o : Option Assigned)
    → option_map (walked_record c node pid number) (option_map (walked_records c node pid numbers) o) ≡ option_map (walked_records c node pid (numbers ++ number ∷ [])) o
record_told c node pid numbers number o = grind (arith, walked_records-more c node pid numbers number)
