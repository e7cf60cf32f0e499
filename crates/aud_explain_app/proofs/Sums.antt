-- What the figures add up to.
use Rattle.std.proofs.Common.{◌≡◌, ◌+◌, ℕ, Bool, true, false, not, List, [], ◌∷◌, codes, cond, length, count_by, filter, refl, arith}
use Rattle.std.proofs.lemmas.List.Sums.{sum_by-cons, length-filter}
use Rattle.aud_cert.specs.declared.fault.Fault.TheVariants.{NoLog, Chain, Order, Client, Names, Frame, Orphan, Content, Extra, Doubled, Swapped, Lost, Window, Tail}
use Rattle.aud_cert.specs.declared.class.Class.{Class}
use Rattle.aud_cert.specs.declared.class.Class.TheVariants.{Delivery, Packets, Recording}
use Rattle.aud_cert.specs.Class.{class_of}
use Rattle.aud_session_facts.specs.declared.asked.Recovery.{Recovery}
use Rattle.aud_session_facts.specs.Recoveries.{is_granted, is_refused}
use Rattle.aud_verdict.specs.declared.verdict.Verdict.{Verdict}
use Rattle.aud_verdict.specs.declared.verdict.Verdict.TheVariants.{Yes, No}
use Rattle.aud_verdict.specs.declared.verdict.SessionVerdict.{SessionVerdict}
use Rattle.aud_verdict.specs.YesOf.{yes_of, is_yes}
use Rattle.aud_explain_app.specs.Summary.Counts.{classes_of, faults_of, is_no, is_no_for, is_no_in, no_for, no_in, same_class, sum_of_classes, sum_of_faults}

-- one where the test holds
abbrev holds : Bool → ℕ
holds b = cond b 1 0

-- one more is counted where it passes
counted-more : {X : Type 0} (p : X → Bool) (x : X) (xs : List X) → count_by p (x ∷ xs) ≡ holds (p x) + count_by p xs
counted-more p x xs = sum_by-cons (λ y. holds (p y)) x xs

-- ---- yes and no

either : (b : Bool) → holds b + holds (not b) ≡ 1
either true = refl
either false = refl

pub yes-and-no : (verdicts : List SessionVerdict) → count_by is_yes verdicts + count_by is_no verdicts ≡ length verdicts
yes-and-no [] = refl
yes-and-no (v ∷ verdicts) =
    omega (arith, counted-more is_yes v verdicts, counted-more is_no v verdicts, either (is_yes v), yes-and-no verdicts)

-- ---- granted and refused

pub granted-and-refused : (found : List Recovery) → length (filter is_granted found) + length (filter is_refused found) ≡ length found
granted-and-refused found = omega (arith, length-filter is_granted found, length-filter is_refused found, counts found)
  where
    counts : (found : List Recovery) → count_by is_granted found + count_by is_refused found ≡ length found
    counts [] = refl
    counts (r ∷ found) =
        omega (arith, counted-more is_granted r found, counted-more is_refused r found, either (is_granted r), counts found)

-- ---- classes

one_class : (class : Class) → holds (same_class class Delivery) + holds (same_class class Packets) + holds (same_class class Recording) ≡ 1
one_class Delivery = refl
one_class Packets = refl
one_class Recording = refl

class_of_verdict : (verdict : Verdict) → holds (no_in Delivery verdict) + holds (no_in Packets verdict) + holds (no_in Recording verdict) ≡ holds (not (yes_of verdict))
class_of_verdict (Yes got tail turns) = refl
class_of_verdict (No fault) = one_class (class_of fault)

-- each no is of one class
pub by-class : (verdicts : List SessionVerdict) → sum_of_classes (classes_of verdicts) ≡ count_by is_no verdicts
by-class [] = refl
by-class (v ∷ verdicts) =
    omega (
      arith,
      counted-more (is_no_in Delivery) v verdicts,
      counted-more (is_no_in Packets) v verdicts,
      counted-more (is_no_in Recording) v verdicts,
      counted-more is_no v verdicts,
      class_of_verdict v.verdict,
      by-class verdicts,
    )

-- ---- faults

-- one fault has one word
fault_of_verdict : (verdict : Verdict) →
    holds (no_for (codes "NOLOG") verdict)
    + holds (no_for (codes "CHAIN") verdict)
    + holds (no_for (codes "ORDER") verdict)
    + holds (no_for (codes "CLIENT") verdict)
    + holds (no_for (codes "NAMES") verdict)
    + holds (no_for (codes "FRAME") verdict)
    + holds (no_for (codes "ORPHAN") verdict)
    + holds (no_for (codes "CONTENT") verdict)
    + holds (no_for (codes "EXTRA") verdict)
    + holds (no_for (codes "DOUBLED") verdict)
    + holds (no_for (codes "SWAPPED") verdict)
    + holds (no_for (codes "LOST") verdict)
    + holds (no_for (codes "WINDOW") verdict)
    + holds (no_for (codes "TAIL") verdict)
    ≡ holds (not (yes_of verdict))
fault_of_verdict (Yes got tail turns) = refl
fault_of_verdict (No NoLog) = refl
fault_of_verdict (No Chain) = refl
fault_of_verdict (No Order) = refl
fault_of_verdict (No Client) = refl
fault_of_verdict (No Names) = refl
fault_of_verdict (No Frame) = refl
fault_of_verdict (No Orphan) = refl
fault_of_verdict (No (Content off)) = refl
fault_of_verdict (No (Extra off)) = refl
fault_of_verdict (No (Doubled off)) = refl
fault_of_verdict (No (Swapped off)) = refl
fault_of_verdict (No (Lost off)) = refl
fault_of_verdict (No (Window c)) = refl
fault_of_verdict (No (Tail count)) = refl

-- each no has one fault
pub by-fault : (verdicts : List SessionVerdict) → sum_of_faults (faults_of verdicts) ≡ count_by is_no verdicts
by-fault [] = refl
by-fault (v ∷ verdicts) =
    omega (
      arith,
      counted-more (is_no_for (codes "NOLOG")) v verdicts,
      counted-more (is_no_for (codes "CHAIN")) v verdicts,
      counted-more (is_no_for (codes "ORDER")) v verdicts,
      counted-more (is_no_for (codes "CLIENT")) v verdicts,
      counted-more (is_no_for (codes "NAMES")) v verdicts,
      counted-more (is_no_for (codes "FRAME")) v verdicts,
      counted-more (is_no_for (codes "ORPHAN")) v verdicts,
      counted-more (is_no_for (codes "CONTENT")) v verdicts,
      counted-more (is_no_for (codes "EXTRA")) v verdicts,
      counted-more (is_no_for (codes "DOUBLED")) v verdicts,
      counted-more (is_no_for (codes "SWAPPED")) v verdicts,
      counted-more (is_no_for (codes "LOST")) v verdicts,
      counted-more (is_no_for (codes "WINDOW")) v verdicts,
      counted-more (is_no_for (codes "TAIL")) v verdicts,
      counted-more is_no v verdicts,
      fault_of_verdict v.verdict,
      by-fault verdicts,
    )
