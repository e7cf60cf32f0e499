-- What is left of what was due: where the whole is asked for, and where it isn't.
use Rattle.std.proofs.Common.{◌≡◌, ◌<◌, ◌≤◌, ◌+◌, ℕ, zero, suc, Bool, true, false, not, List, [], ◌∷◌, ◌++◌, length, map, get_or, refl, ap, ◌∙◌, arith, inl, inr, ◌⊎◌}
use Rattle.std.specs.List.{AllPairs, filter}
use Rattle.std.proofs.lemmas.Bool.{false≢true, cases_lt}
use Rattle.std.proofs.lemmas.Bool.Decides.{nat_tests}
use Rattle.std.proofs.lemmas.List.{length-map}
use Rattle.std.proofs.lemmas.List.Kept.{AllPairs-from_increasing}
use Rattle.aud_node.specs.Stream.{Text}
use Rattle.aud_node.specs.Cluster.{Cluster}
use Rattle.aud_rooms.specs.Turns.{slice_of}
use Rattle.aud_rooms.specs.TurnsDue.{is_turn_due}
use Rattle.aud_rooms.proofs.Ascending.{filter-ascends}
use Rattle.aud_merge.specs.ByTurns.{IsPrefixOf}
use Rattle.aud_client.specs.StaySeen.{FrameSeen}
use Rattle.aud_cert.specs.declared.fault.Fault.{Fault}
use Rattle.aud_cert.specs.declared.fault.Fault.TheVariants.{Tail}
use Rattle.aud_check.specs.Difference.{has_position}
use Rattle.aud_check.specs.Faults.{Case, HasFault, IsReceived}
use Rattle.aud_verdict.specs.declared.verdict.Verdict.{Verdict}
use Rattle.aud_verdict.specs.declared.verdict.Verdict.TheVariants.{Yes, No}
use Rattle.aud_verdict.specs.Session.{SessionLogs, IsSession, session_case, received_by, due_to, positions, missed}
use Rattle.aud_verdict.specs.Faults.{Holds, HoldsFirst, verdict_rank}
use Rattle.aud_verdict.specs.Verdict.{IsYes, IsVerdict, of_whole, asked_so}
use Rattle.aud_verdict.proofs.Sessions.{one_session, held}
use Rattle.aud_verdict.proofs.Made.{late, as_held}
use Rattle.aud_verdict.proofs.Unrefused.{all_received}

-- ---- positions

-- the position is none of these
abbrev is_missed : List ℕ → ℕ → Bool
is_missed xs p = not (has_position xs p)

-- of no positions all others are missed
all_missed : (ys : List ℕ) → filter (is_missed []) ys ≡ ys
all_missed [] = refl
all_missed (y ∷ ys) = ap (λ (zs : List ℕ). y ∷ zs) (all_missed ys)

-- one that is less than all others changes nothing in which are missed
same_missed : (x : ℕ) (xs ys : List ℕ) → ((j : ℕ) → j < length ys → x < get_or ys j 0) → filter (is_missed (x ∷ xs)) ys ≡ filter (is_missed xs) ys
same_missed x xs [] above = refl
same_missed x xs (y ∷ ys) above =
    let less : x < y = above 0 (omega arith) in
    let later = same_missed x xs ys (λ j within. above (suc j) (omega (arith, within))) in
    grind (arith, nat_tests, less, later)

-- of ascending positions those at the front and those missed are all
pub counted : (xs ys : List ℕ) → IsPrefixOf xs ys → AllPairs (λ p q. p < q) ys → length xs + length (filter (is_missed xs) ys) ≡ length ys
counted [] ys front up =
    let all = ap (λ (zs : List ℕ). length zs) (all_missed ys) in
    omega (arith, all)
counted (x ∷ xs) [] (rest, e) up = absurd (let long = ap (λ (zs : List ℕ). length zs) e in omega (arith, long))
counted (x ∷ xs) (y ∷ ys) (rest, e) up =
    let here : x ≡ y = cc in
    let later : xs ++ rest ≡ ys = cc in
    let less = λ (j : ℕ) (within : j < length ys). up 0 (suc j) 0 (omega arith) (omega (arith, within)) in
    let same = same_missed y xs ys less in
    let tail = counted xs ys (rest, later) (λ i j d less within. up (suc i) (suc j) d (omega (arith, less)) (omega (arith, within))) in
    grind (arith, nat_tests, here, same, tail)

-- ---- sessions

-- a fault of what was received comes before the tail
early : (case : Case) (f : Fault) → HasFault case f → verdict_rank f < 13
early case f h = grind arith

module _ (c : Cluster) (pid : Text) where
  -- what is due to a session ascends
  due_ascends : (s : SessionLogs) → AllPairs (λ p q. p < q) (due_to c s)
  due_ascends s = AllPairs-from_increasing _ (filter-ascends (is_turn_due c.stream s.who (map (slice_of c) s.turns)) 1 (length c.stream))

  -- where no fault before the tail holds, nothing is wrong with what was received
  pub received_in : (whole : Bool) (s : SessionLogs) → IsSession c pid s → ((fault : Fault) → verdict_rank fault < 13 → Holds c whole pid fault → ⊥) → IsReceived (session_case c s)
  received_in whole s is none =
      all_received (session_case c s) (λ fault h. none fault (early (session_case c s) fault h) (held c pid s is whole fault (late (session_case c s) fault h) (as_held c whole s fault h)))

  -- what was received and what was missed are all that was due
  left_is : (s : SessionLogs) → IsReceived (session_case c s) → length (received_by c s) + length (missed c s) ≡ length (due_to c s)
  left_is s received =
      let all = counted (positions c s) (due_to c s) received.is_prefix (due_ascends s) in
      let same : length (positions c s) ≡ length (received_by c s) = length-map (received_by c s) (λ (frame : FrameSeen). frame.position) in
      omega (arith, all, same)

  -- the other faults don't ask whether the whole is asked for
  carried : (one other : Bool) (fault : Fault) → verdict_rank fault < 13 → Holds c one pid fault → Holds c other pid fault
  carried one other fault before h = grind arith

  -- where it isn't asked for, the tail is no fault
  no_tail : (fault : Fault) → Holds c false pid fault → verdict_rank fault < 13
  no_tail fault h = grind (arith, false≢true)

  -- where the tail is the first fault, the verdict without asking for the whole is yes
  pub without_tail : (whole : Bool) (count : ℕ) → HoldsFirst c whole pid (Tail count) → (0 < count) × (got : ℕ) × (turns : ℕ) × IsYes c false pid got count turns
  without_tail whole count is =
      let (s, is_session, (asked, some, count_is)) = is.holds in
      let all = left_is s (received_in whole s is_session is.none_before) in (
        some,
        length (received_by c s),
        length s.turns,
        record {
          none_holds = λ fault h. is.none_before fault (no_tail fault h) (carried false whole fault (no_tail fault h) h);
          session = s;
          is_session = is_session;
          got_is = refl;
          tail_is = ap (λ n. length (received_by c s) + n) count_is ∙ all;
          turns_are = refl;
        },
      )

  -- so many are missed as the tail of a yes has
  missed_is : (whole : Bool) (got tail turns : ℕ) → (is : IsYes c whole pid got tail turns) → tail ≡ length (missed c is.session)
  missed_is whole got tail turns is =
      let all = left_is is.session (received_in whole is.session is.is_session (λ fault before. is.none_holds fault)) in
      omega (arith, all, is.got_is, is.tail_is)

  -- where the whole is asked for, a yes has no tail
  pub none_left : (got tail turns : ℕ) → IsYes c true pid got tail turns → tail ≡ 0
  none_left got zero turns is = refl
  none_left got (suc more) turns is =
      absurd (is.none_holds (Tail (suc more)) (is.session, is.is_session, (refl, omega arith, missed_is true got (suc more) turns is)))

  -- the first fault stays where the whole is asked for
  first_kept : (fault : Fault) → HoldsFirst c false pid fault → HoldsFirst c true pid fault
  first_kept fault is =
      let before = no_tail fault is.holds in
      record {
        holds = carried false true fault before is.holds;
        none_before = λ other less h. is.none_before other less (carried true false other (omega (arith, less, before)) h);
      }

  -- where a yes without a tail holds, nothing is missed
  none_missed : (got turns : ℕ) → IsYes c false pid got 0 turns → (fault : Fault) → Holds c true pid fault → 13 ≤ verdict_rank fault → ⊥
  none_missed got turns is (Tail count) (s, is_session, (asked, some, count_is)) after =
      let same = ap (λ (t : SessionLogs). length (missed c t)) (one_session c pid s is.session is_session is.is_session) in
      let none = missed_is false got 0 turns is in
      absurd (omega (arith, same, none, some, count_is))
  none_missed got turns is fault h after = absurd (omega (arith, after))

  -- a yes without a tail stays, and one with a tail is a no for it
  yes_kept : (got tail turns : ℕ) → IsYes c false pid got tail turns → IsVerdict c true pid (of_whole (Yes got tail turns))
  yes_kept got zero turns is =
      record {
        none_holds = λ fault h. go fault h (cases_lt (verdict_rank fault) 13);
        session = is.session;
        is_session = is.is_session;
        got_is = is.got_is;
        tail_is = is.tail_is;
        turns_are = is.turns_are;
      }
    where
      go : (fault : Fault) → Holds c true pid fault → (verdict_rank fault < 13) ⊎ (13 ≤ verdict_rank fault) → ⊥
      go fault h (inl before) = is.none_holds fault (carried true false fault before h)
      go fault h (inr after) = none_missed got turns is fault h after
  yes_kept got (suc more) turns is =
      record {
        holds = (is.session, is.is_session, (refl, omega arith, missed_is false got (suc more) turns is));
        none_before = λ other less h. is.none_holds other (carried true false other less h);
      }

  -- what becomes of a verdict where the whole is asked for is the verdict then
  pub asked_verdict : (whole : Bool) (verdict : Verdict) → IsVerdict c false pid verdict → IsVerdict c whole pid (asked_so whole verdict)
  asked_verdict false verdict is = is
  asked_verdict true (Yes got tail turns) is = yes_kept got tail turns is
  asked_verdict true (No fault) is = first_kept fault is
