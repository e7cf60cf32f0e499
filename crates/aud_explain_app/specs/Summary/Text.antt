-- The text of a summary: a line for each group of figures.
use Rattle.std.specs.Prelude.{ℕ, zero, suc, List, [], ◌∷◌, ◌++◌, codes, decimal, drop, flat_map, map, take, Some, None}
use Rattle.std.specs.Borrow.{Bor}
use Rattle.aud_node.specs.Stream.{Text}
use Rattle.aud_explain_app.specs.declared.summary.causes.CausesTold.{CausesTold}
use Rattle.aud_explain_app.specs.declared.summary.counts.Classes.{Classes}
use Rattle.aud_explain_app.specs.declared.summary.Summary.{Summary}
use Rattle.aud_explain_app.specs.Summary.Counts.{faults_seen}
use Rattle.aud_explain_app.specs.Summary.Causes.{cause_names, count_with}

-- how the sessions were answered
abbrev pub answers_line : Summary → List ℕ
answers_line s = codes "sessions: " ++ decimal s.sessions ++ codes ", yes: " ++ decimal s.yes ++ codes ", no: " ++ decimal s.no ++ codes "\n"

-- a fault and its count, unless that is 0
abbrev pub fault_item : List ℕ → ℕ → List ℕ
fault_item word zero = []
fault_item word (suc more) = codes " " ++ word ++ codes " " ++ decimal (suc more)

-- each of these
abbrev pub fault_items : List (Text × ℕ) → List ℕ
fault_items faults = flat_map (λ (f : Text × ℕ). fault_item f.0 f.1) faults

-- a class, its count, and the faults of it; nothing where the count is 0
abbrev pub class_line : List ℕ → ℕ → List (Text × ℕ) → List ℕ
class_line name zero faults = []
class_line name (suc more) faults = codes "  " ++ name ++ codes " " ++ decimal (suc more) ++ codes ":" ++ fault_items faults ++ codes "\n"

-- the classes that have a no: of the faults, in the order in which they are looked for, five are of the recording, two of
-- packets, and the others of delivery
abbrev pub classes_lines : Classes → List (Bor Text × ℕ) → List ℕ
classes_lines c faults =
    class_line (codes "recording") c.recording (faults_seen (take 5 faults))
    ++ class_line (codes "packets") c.packets (faults_seen (take 2 (drop 5 faults)))
    ++ class_line (codes "delivery") c.delivery (faults_seen (drop 2 (drop 5 faults)))

-- how many sessions have such a cause; nothing where none has
abbrev pub count_line : List ℕ → List ℕ → ℕ → List ℕ
count_line kind cause zero = []
count_line kind cause (suc more) = codes "  " ++ kind ++ codes " " ++ cause ++ codes ": " ++ decimal (suc more) ++ codes "\n"

-- how many have this one
abbrev pub cause_line : List CausesTold → Text → List ℕ
cause_line told id = count_line (codes "cause") id (count_with told (Some id))

-- the causes that were told, and how many sessions have a fault of which no known cause holds
abbrev pub causes_lines : List CausesTold → List ℕ
causes_lines told = flat_map (cause_line told) cause_names ++ count_line (codes "no known") (codes "cause") (count_with told None)

-- numbers, each behind its words
abbrev pub numbers_text : List (Text × ℕ) → List ℕ
numbers_text numbers = flat_map (λ (n : Text × ℕ). n.0 ++ decimal n.1) numbers

-- the same where the words are borrowed
abbrev pub numbers_seen : List (Bor Text × ℕ) → List ℕ
numbers_seen numbers = numbers_text (map (λ (n : Bor Text × ℕ). (n.0.now, n.1)) numbers)

-- the other counts: sessions that no client named, tails, recoveries, entries, and what was read
abbrev pub counts_lines : Summary → List ℕ
counts_lines s =
    numbers_text
    ((codes "sessions that no client named: ", s.unobserved)
    ∷ (codes "\nsessions with a tail: ", s.tails.sessions) ∷ (codes ", events in tails: ", s.tails.events)
    ∷ (codes "\nrecoveries asked for: ", s.recoveries.asked) ∷ (codes ", granted: ", s.recoveries.granted) ∷ (codes ", refused: ", s.recoveries.refused)
    ∷ (codes "\nentries of the stream: ", s.entries.all) ∷ (codes ", recoverable: ", s.entries.recoverable)
    ∷ (codes "\nlines: ", s.input.lines) ∷ (codes ", bytes: ", s.input.bytes) ∷ (codes ", seconds: ", s.input.seconds) ∷ [])
    ++ codes "\n"

-- where no answer means anything, why, by how many sessions and how many recoverable entries there are: no session was
-- recorded, or a client that received nothing received all that was due to it
abbrev pub meaning_line : ℕ → ℕ → List ℕ
meaning_line zero recoverable = codes "nothing was judged: no session was recorded\n"
meaning_line (suc more) zero = codes "a yes says nothing here: no entry of the stream is recoverable\n"
meaning_line (suc more) (suc others) = []

-- all of it, with what was told of causes
abbrev pub summary_text : Summary → List CausesTold → List ℕ
summary_text s told =
    answers_line s ++ classes_lines s.classes s.faults ++ causes_lines told ++ counts_lines s ++ meaning_line s.sessions s.entries.recoverable
