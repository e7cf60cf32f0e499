-- The figures of a recording: which verdicts each counts, and whether they say something.
use Rattle.std.specs.Prelude.{ℕ, List, [], ◌∷◌, Bool, true, false, not, ◌+◌, count_by, codes, map, sum_by, nat_lt, ◌==◌, ◌||◌}
use Rattle.aud_node.specs.Stream.{Text}
use Rattle.aud_node.specs.Cluster.{Cluster}
use Rattle.aud_client.specs.Replies.{naming_places}
use Rattle.aud_verdict.specs.declared.verdict.SessionVerdict.{SessionVerdict}
use Rattle.aud_verdict.specs.YesOf.{is_yes}
use Rattle.aud_cert.specs.declared.class.Class.{Class}
use Rattle.aud_cert.specs.declared.class.Class.TheVariants.{Delivery, Packets, Recording}
use Rattle.aud_cert.specs.Class.{class_of}
use Rattle.aud_verdict.specs.declared.verdict.Verdict.{Verdict}
use Rattle.aud_verdict.specs.declared.verdict.Verdict.TheVariants.{Yes, No}
use Rattle.aud_explain_app.specs.declared.summary.counts.Classes.{Classes}
use Rattle.std.specs.Borrow.{Bor}
use Rattle.std.specs.Str.{bytes_eq}
use Rattle.aud_cert.specs.FaultWord.{fault_word}
use Rattle.aud_cert.specs.declared.fault.Fault.TheVariants.{Tail}
use Rattle.aud_explain_app.specs.declared.summary.Summary.{Summary}

-- the verdict is no
abbrev pub is_no : SessionVerdict → Bool
is_no entry = not (is_yes entry)

-- there are none of these places
abbrev pub are_none : List ℕ → Bool
are_none [] = true
are_none (place ∷ places) = false

-- no client's tap has a reply that names the session
abbrev pub is_unnamed : Cluster → Text → Bool
is_unnamed c pid = are_none (naming_places c.taps pid)

-- the verdict is on a session that no client named
abbrev pub is_unobserved : Cluster → SessionVerdict → Bool
is_unobserved c entry = is_unnamed c entry.pid

-- ---- by class

-- they are one class
abbrev pub same_class : Class → Class → Bool
same_class Delivery Delivery = true
same_class Packets Packets = true
same_class Recording Recording = true
same_class _ _ = false

-- no, with a fault of the class
abbrev pub no_in : Class → Verdict → Bool
no_in class (Yes got tail turns) = false
no_in class (No fault) = same_class (class_of fault) class

-- the verdict is no with a fault of the class
abbrev pub is_no_in : Class → SessionVerdict → Bool
is_no_in class entry = no_in class entry.verdict

-- of each class, how many of them are no with a fault of it
abbrev pub classes_of : List SessionVerdict → Classes
classes_of verdicts =
    record {
      delivery = count_by (is_no_in Delivery) verdicts;
      packets = count_by (is_no_in Packets) verdicts;
      recording = count_by (is_no_in Recording) verdicts;
    }

-- all of these counts together
abbrev pub sum_of_classes : Classes → ℕ
sum_of_classes c = c.delivery + c.packets + c.recording

-- ---- by fault

-- no, with the fault of this word
abbrev pub no_for : List ℕ → Verdict → Bool
no_for word (Yes got tail turns) = false
no_for word (No fault) = bytes_eq (fault_word fault) word

-- the verdict is no with the fault of this word
abbrev pub is_no_for : List ℕ → SessionVerdict → Bool
is_no_for word entry = no_for word entry.verdict

-- how many of them are no with the fault of this word
abbrev pub count_for : List SessionVerdict → List ℕ → ℕ
count_for verdicts word = count_by (is_no_for word) verdicts

-- the words of faults, in the order in which they are looked for
abbrev pub fault_words : List (List ℕ)
fault_words =
    codes "NOLOG" ∷ codes "CHAIN" ∷ codes "ORDER" ∷ codes "CLIENT" ∷ codes "NAMES" ∷ codes "FRAME" ∷ codes "ORPHAN"
    ∷ codes "CONTENT" ∷ codes "EXTRA" ∷ codes "DOUBLED" ∷ codes "SWAPPED" ∷ codes "LOST" ∷ codes "WINDOW" ∷ codes "TAIL" ∷ []

-- of each fault, how many of them are no with it
abbrev pub faults_of : List SessionVerdict → List (List ℕ × ℕ)
faults_of verdicts = map (λ word. (word, count_for verdicts word)) fault_words

-- faults whose words are borrowed
abbrev pub faults_seen : List (Bor (List ℕ) × ℕ) → List (List ℕ × ℕ)
faults_seen faults = map (λ (f : Bor (List ℕ) × ℕ). (f.0.now, f.1)) faults

-- all of these counts together
abbrev pub sum_of_faults : List (List ℕ × ℕ) → ℕ
sum_of_faults faults = sum_by (λ (f : List ℕ × ℕ). f.1) faults

-- ---- tails

-- how many events are in the tail: of a yes, and of a no for it, where the whole was asked for
abbrev pub tail_in : Verdict → ℕ
tail_in (Yes got tail turns) = tail
tail_in (No (Tail count)) = count
tail_in (No _) = 0

-- how many are in the tail of the session
abbrev pub tail_of : SessionVerdict → ℕ
tail_of entry = tail_in entry.verdict

-- the session has a tail
abbrev pub has_tail : SessionVerdict → Bool
has_tail entry = nat_lt 0 (tail_of entry)

-- ---- what they say

-- they say nothing: no session was recorded, or no entry is recoverable, so that a client that received nothing received
-- all that was due to it
abbrev pub says_nothing : Summary → Bool
says_nothing s = s.sessions == 0 || s.entries.recoverable == 0
