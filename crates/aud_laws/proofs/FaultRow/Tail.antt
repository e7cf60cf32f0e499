-- Of a tail, the row of the last frame that was received is there, where any was.
use Rattle.std.proofs.Common.{◌≡◌, ◌<◌, ◌-◌, ℕ, suc, Bool, true, false, cond, List, [], ◌∷◌, ◌++◌, length, map, Some, slice_get, nat_lt, refl, sym, ap, subst, ◌∙◌, arith, length-append}
use Rattle.std.specs.List.{filter}
use Rattle.std.proofs.Math.Seq.{get_or-append_seam}
use Rattle.std.proofs.lemmas.Bool.{lt-ltb}
use Rattle.std.proofs.lemmas.List.{length-map}
use Rattle.std.proofs.lemmas.List.Kept.{AllPairs-from_increasing}
use Rattle.aud_node.specs.Cluster.{Cluster}
use Rattle.aud_node.specs.Stream.{Text}
use Rattle.aud_rooms.specs.Turns.{slice_of}
use Rattle.aud_rooms.specs.TurnsDue.{is_turn_due}
use Rattle.aud_rooms.proofs.Ascending.{filter-ascends}
use Rattle.aud_client.specs.StaySeen.{FrameSeen}
use Rattle.aud_client.proofs.ByPlace.{received_by_stays}
use Rattle.aud_cert.specs.declared.fault.Fault.TheVariants.{Names, Tail}
use Rattle.aud_merge.specs.ByTurns.{IsPrefixOf}
use Rattle.aud_check.specs.Difference.{IsAscending}
use Rattle.aud_check.specs.NamedStays.{are_of_session}
use Rattle.aud_check.specs.Window.{positions_received}
use Rattle.aud_check.proofs.ClientCase.{one_namespace}
use Rattle.aud_input.specs.TapLines.{TapLines}
use Rattle.aud_verdict.specs.Faults.{HoldsFirst}
use Rattle.aud_verdict.specs.Session.{SessionLogs, IsSession, client_log, due_to, own_stays, positions, received_by}
use Rattle.aud_verdict.proofs.Left.{received_in, without_tail}
use Rattle.aud_verdict.proofs.Sessions.{held, one_session, other_names}
use Rattle.aud_rows.specs.declared.row.Role.TheVariants as role
use Rattle.aud_rows.specs.Seen.{RowSeen}
use Rattle.aud_findings.specs.Also.{frame_row_at}
use Rattle.aud_findings.specs.Received.{greatest, tail_positions}
use Rattle.aud_findings.specs.Tail.{ShowsTail, tail_rows}
use Rattle.aud_laws.specs.FaultRows.{HasReceived, KnowsEachRecord, has_fault_row}
use Rattle.aud_laws.proofs.FaultRow.Frames.{frame_there}
use Rattle.aud_laws.proofs.FaultRow.Rows.{marked_and}

-- ---- positions

-- each is less than this one
abbrev AreBelow : ℕ → List ℕ → Type 0
AreBelow p [] = Unit {0}
AreBelow p (x ∷ xs) = (x < p) × AreBelow p xs

-- of ascending positions those in front of one are less
are_below : (xs : List ℕ) (p : ℕ) (rest : List ℕ) → IsAscending (xs ++ p ∷ rest) → AreBelow p xs
are_below [] p rest up = tt
are_below (x ∷ xs) p rest up =
    let less = up 0 (suc (length xs)) 0 (omega arith) (omega (arith, length-append xs (p ∷ rest))) in (
      omega (arith, less, get_or-append_seam xs p rest 0),
      are_below xs p rest (λ i j d before within. up (suc i) (suc j) d (omega (arith, before)) (omega (arith, within))),
    )

greatest_below : (p : ℕ) (xs : List ℕ) → 0 < p → AreBelow p xs → greatest xs < p
greatest_below p [] some below = some
greatest_below p (x ∷ xs) some below = let more = greatest_below p xs some below.1 in omega (arith, below.0, more)

-- where one passes there is a first one that does
first_passes : (test : ℕ → Bool) (xs : List ℕ) (p : ℕ) (rest : List ℕ) → test p ≡ true → (q : ℕ) × (slice_get (filter test (xs ++ p ∷ rest)) 0 ≡ Some q)
first_passes test [] p rest passes = (p, ap (λ b. slice_get (cond b (p ∷ filter test rest) (filter test rest)) 0) passes)
first_passes test (x ∷ xs) p rest passes = go (test x) (first_passes test xs p rest passes)
  where
    go : (b : Bool) → (q : ℕ) × (slice_get (filter test (xs ++ p ∷ rest)) 0 ≡ Some q)
        → (q : ℕ) × (slice_get (cond b (x ∷ filter test (xs ++ p ∷ rest)) (filter test (xs ++ p ∷ rest))) 0 ≡ Some q)
    go true later = (x, refl)
    go false later = later

-- where some positions are the front of those due, and more were due, there is a first one past them
first_past : (received due : List ℕ) → 0 < length received → IsAscending due → IsPrefixOf received due → length received < length due
    → (q : ℕ) × (slice_get (tail_positions received due) 0 ≡ Some q)
first_past received due some up (rest, is) more = go rest is
  where
    go : (rest : List ℕ) → received ++ rest ≡ due → (q : ℕ) × (slice_get (tail_positions received due) 0 ≡ Some q)
    go [] is = absurd (let all = ap (λ (ys : List ℕ). length ys) is in omega (arith, more, length-append received [], all))
    go (p ∷ rest) is =
        let below = are_below received p rest (subst IsAscending (sym is) up) in
        let over : greatest received < p = greatest_below p received (positive received some below) below in
        subst (λ ys. (q : ℕ) × (slice_get (filter (nat_lt (greatest received)) ys) 0 ≡ Some q)) is (first_passes (nat_lt (greatest received)) received p rest (lt-ltb (greatest received) p over))
      where
        positive : (xs : List ℕ) → 0 < length xs → AreBelow p xs → 0 < p
        positive [] some below = absurd (omega (arith, some))
        positive (x ∷ xs) some below = omega (arith, below.0)

-- ---- sessions

module _ (c : Cluster) (whole : Bool) (pid : Text) (count : ℕ) (first : HoldsFirst c whole pid (Tail count)) (s : SessionLogs) (is : IsSession c pid s) where
  -- all stays that name the session are of it, since a reply that names it otherwise would come first
  are_named : are_of_session s.who (own_stays c s) ≡ true
  are_named = go (are_of_session s.who (own_stays c s)) refl
    where
      go : (b : Bool) → are_of_session s.who (own_stays c s) ≡ b → b ≡ true
      go true e = refl
      go false e = absurd (first.none_before Names (omega arith) (held c pid s is whole Names (omega arith) (other_names c pid s is e)))

  -- so what was received by place was received by stays
  by_stays : positions c s ≡ positions_received (own_stays c s)
  by_stays =
      ap (map (λ (frame : FrameSeen). frame.position))
      (received_by_stays c.stream (client_log c s) s.who.pid s.who.nsp (one_namespace s.who (own_stays c s) are_named))

  due_ascends : IsAscending (due_to c s)
  due_ascends = AllPairs-from_increasing _ (filter-ascends (is_turn_due c.stream s.who (map (slice_of c) s.turns)) 1 (length c.stream))

  -- more was due than was received
  more_due : length (received_by c s) < length (due_to c s)
  more_due =
      let (some, got, turns, is_yes) = without_tail c pid whole count first in
      let same = one_session c pid is_yes.session s is_yes.is_session is in
      let counted = ap (λ (t : SessionLogs). length (received_by c t)) same in
      let owed = ap (λ (t : SessionLogs). length (due_to c t)) same in
      omega (arith, some, is_yes.got_is, is_yes.tail_is, counted, owed)

  -- there is an entry past all that were received
  tail_there : 0 < length (received_by c s) → (q : ℕ) × (slice_get (tail_positions (positions_received (own_stays c s)) (due_to c s)) 0 ≡ Some q)
  tail_there some =
      let prefix = (received_in c pid whole s is first.none_before).is_prefix in
      let count_is = length-map (received_by c s) (λ (frame : FrameSeen). frame.position) in
      subst (λ xs. (q : ℕ) × (slice_get (tail_positions xs (due_to c s)) 0 ≡ Some q)) by_stays
      (first_past (positions c s) (due_to c s) (omega (arith, some, count_is)) due_ascends prefix (omega (arith, more_due, count_is)))

  -- and a last one of these
  some_frames : 0 < length (received_by c s) → 0 < length (positions_received (own_stays c s))
  some_frames some = omega (arith, some, length-map (received_by c s) (λ (frame : FrameSeen). frame.position), ap (λ (xs : List ℕ). length xs) by_stays)

-- where something was received there is a frame
some_received : (frames : List FrameSeen) → (frames ≡ [] → ⊥) → 0 < length frames
some_received [] some = absurd (some refl)
some_received (frame ∷ frames) some = omega arith

pub tail_marked : (c : Cluster) (lines : List TapLines) → KnowsEachRecord c.taps lines → (whole : Bool) (pid : Text) (count : ℕ) → HoldsFirst c whole pid (Tail count) → HasReceived c pid
    → (rows : List RowSeen) → ShowsTail c lines pid rows → has_fault_row rows ≡ true
tail_marked c lines known whole pid count first had rows shows =
    let s = shows.session in
    let frames = length (positions_received (own_stays c s)) in
    let same = one_session c pid had.session s had.is_session shows.is_session in
    let some = subst (λ (t : SessionLogs). 0 < length (received_by c t)) same (some_received (received_by c had.session) had.some) in
    let (p, p_is) = tail_there c whole pid count first s shows.is_session some in
    let within : frames - 1 < frames = let more = some_frames c whole pid count first s shows.is_session some in omega (arith, more) in
    ap has_fault_row shows.are_its_rows
    ∙ ap (λ o. has_fault_row (tail_rows c lines s.turns s.client shows.numbers frames o)) p_is
    ∙ marked_and (frame_row_at c lines s.client shows.numbers (frames - 1) role.Fault) _ (frame_there c lines known pid s shows.is_session shows.numbers shows.are_its_stays (frames - 1) within)
