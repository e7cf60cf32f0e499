-- The other sessions with the same fault at the same record.
use Rattle.std.specs.Prelude.{ℕ, List, [], ◌∷◌, ◌++◌, codes, decimal, flat_map, length}
use Rattle.std.specs.Borrow.{Bor}
use Rattle.aud_explanation.specs.declared.name.Names.TheVariants.{Short}
use Rattle.aud_explanation.specs.Named.{name_words}
use Rattle.aud_explanation.specs.Page.{laid_line}

-- the word for these sessions
abbrev pub sessions_word : List (Bor (List ℕ)) → List ℕ
sessions_word (pid ∷ []) = codes " more session:"
sessions_word pids = codes " more sessions:"

-- a pid after a blank
abbrev pub pid_listed : Bor (List ℕ) → List ℕ
pid_listed pid = codes " " ++ name_words Short pid.now

-- how many there are, and their pids: `the same of 2 more sessions: P2 P3`
abbrev pub alike_line : List (Bor (List ℕ)) → List ℕ
alike_line pids = codes "    the same of " ++ decimal (length pids) ++ sessions_word pids ++ flat_map pid_listed pids

-- its line, where there are any
abbrev pub alike_text : List (Bor (List ℕ)) → List ℕ
alike_text [] = []
alike_text (pid ∷ pids) = laid_line (alike_line (pid ∷ pids))
