-- Numbers, in words.
use Rattle.std.specs.Prelude.{ℕ, List, [], ◌++◌, ◌==◌, codes, decimal, flat_map, length, if◌then◌else◌, Option, Some, None}

-- the numbers from one to another
abbrev pub span : ℕ → ℕ → List ℕ
span from to = if from == to then decimal from else decimal from ++ codes "-" ++ decimal to

-- a number behind its words, where it is known
abbrev pub known_words : List ℕ → Option ℕ → List ℕ
known_words words (Some number) = words ++ decimal number
known_words words None = []

-- one of several numbers
abbrev pub one_listed : ℕ → List ℕ
one_listed n = codes " " ++ decimal n

-- the numbers, a blank before each
abbrev pub listed : List ℕ → List ℕ
listed numbers = flat_map one_listed numbers

-- the word for these lines
abbrev pub line_word : List ℕ → List ℕ
line_word lines = if length lines == 1 then codes "line" else codes "lines"

-- the lines: `line 28`, or `lines 28 36`
abbrev pub lines_listed : List ℕ → List ℕ
lines_listed lines = line_word lines ++ listed lines
