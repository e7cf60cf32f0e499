-- How lines of text are laid out: at most 100 columns, a character a column, cut at blanks where a word does not fit.
use Rattle.std.specs.Prelude.{ℕ, ◌+◌, ◌-◌, Bool, true, false, not, ◌==◌, List, [], ◌∷◌, ◌++◌, codes, length, replicate, nat_le, nat_lt, if◌then◌else◌}
use Rattle.std.specs.Char.{is_control}
use Rattle.std.specs.Str.{chars}
use Rattle.aud_explanation.specs.Printed.{is_hidden, shown}

-- how many columns a character takes: as many as its escape has characters
abbrev pub columns : ℕ → ℕ
columns c = if c == 92 then 2 else (if is_control c then 4 else (if is_hidden c then (if nat_lt c 65536 then 8 else 10) else 1))

-- whether it stands within the line, where so many columns are taken
abbrev pub fits : ℕ → ℕ → Bool
fits column c = nat_le (column + columns c) 100

-- whether the word with which these characters begin stands within the line, from that column on
abbrev pub word_fits : ℕ → List ℕ → Bool
word_fits column [] = true
word_fits column (c ∷ cs) = if c == 32 then true else (if fits column c then word_fits (column + columns c) cs else false)

-- whether the line ends at this character: it is a blank, and the word after it does not stand within the line
abbrev pub ends_line : ℕ → ℕ → List ℕ → Bool
ends_line column c rest = if c == 32 then not (word_fits (column + 1) rest) else false

-- the end of a line, and eight blanks in the next
abbrev pub next_line : List ℕ
next_line = codes "\n        "

-- the character there: in place of a blank at which the line ends the next line; where the line is full, in the next
-- line
abbrev pub placed : ℕ → ℕ → List ℕ → List ℕ
placed column c rest = if ends_line column c rest then next_line else (if fits column c then shown c else next_line ++ shown c)

-- how many columns are taken then
abbrev pub next_column : ℕ → ℕ → List ℕ → ℕ
next_column column c rest = if ends_line column c rest then 8 else (if fits column c then column + columns c else 8 + columns c)

-- the characters from that column on, and the newline
abbrev pub laid : ℕ → List ℕ → List ℕ
laid column [] = codes "\n"
laid column (c ∷ cs) = placed column c cs ++ laid (next_column column c cs) cs

-- a line of text, laid out from its first column on
abbrev pub laid_line : List ℕ → List ℕ
laid_line text = laid 0 (chars text)

-- so many blanks
abbrev pub blanks : ℕ → List ℕ
blanks n = replicate n 32

-- the text, and blanks after it up to the width
abbrev pub to_left : ℕ → List ℕ → List ℕ
to_left width text = text ++ blanks (width - length text)

-- the text, and blanks before it up to the width
abbrev pub to_right : ℕ → List ℕ → List ℕ
to_right width text = blanks (width - length text) ++ text
