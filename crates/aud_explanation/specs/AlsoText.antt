-- The other entries with the same fault.
use Rattle.std.specs.Prelude.{ℕ, List, [], ◌++◌, ◌==◌, codes, decimal, if◌then◌else◌}
use Rattle.aud_explanation.specs.declared.also.Also.{Also}
use Rattle.aud_explanation.specs.Page.{laid_line}
use Rattle.aud_explanation.specs.Span.{lines_listed, span}

-- the words that come first, for the entries from one to another
abbrev pub also_words : ℕ → ℕ → List ℕ
also_words from to = if from == to then codes "    also entry " else codes "    also entries "

-- the entries, and the lines that show them
abbrev pub also_line : Also → List ℕ
also_line also = also_words also.position also.to ++ span also.position also.to ++ codes ", " ++ lines_listed also.lines.now

-- their line
abbrev pub also_text : Also → List ℕ
also_text also = laid_line (also_line also)

-- the word for so many entries
abbrev pub entries_word : ℕ → List ℕ
entries_word left = if left == 1 then codes "entry" else codes "entries"

-- how many entries more have it
abbrev pub more_line : ℕ → List ℕ
more_line left = codes "    and " ++ decimal left ++ codes " " ++ entries_word left ++ codes " more"

-- its line; none where none do
abbrev pub more_text : ℕ → List ℕ
more_text left = if left == 0 then [] else laid_line (more_line left)
