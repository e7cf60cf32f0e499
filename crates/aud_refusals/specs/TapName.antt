-- What a line begins with that does not begin with a tap's name and a blank.
use Rattle.std.specs.Prelude.{ℕ, ◌+◌, ◌==◌, ◌||◌, nat_eq, nat_lt, List, [], ◌∷◌, ◌++◌, codes, decimal, length, position, take, not, Option, Some, None, if◌then◌else◌}
use Rattle.std.specs.List.{starts_with}
use Rattle.aud_tap.specs.Limits.{max_name}
use Rattle.aud_tap.specs.TapName.{is_name_byte}

-- the place of a line's first blank
abbrev pub first_blank : List ℕ → Option ℕ
first_blank line = position (λ b. b == 32) line

-- the place of the first byte that stands in no name
abbrev pub first_strange : List ℕ → Option ℕ
first_strange name = position (λ b. not (is_name_byte b)) name

-- what is wrong with a name, whose bytes count from 1
abbrev pub strange_text : List ℕ → Option ℕ → List ℕ
strange_text name (Some at) = codes "Byte " ++ decimal (at + 1) ++ codes " of this line stands in no name.\n"
strange_text name None = if nat_lt max_name (length name) then codes "Before the first blank of this line stand " ++ decimal (length name) ++ codes " bytes.\n" else []

-- what is wrong with what stands before a line's first blank
abbrev pub front_text : List ℕ → List ℕ
front_text name = if length name == 0 then codes "This line begins with a blank.\n" else strange_text name (first_strange name)

-- the same of a line, whose first blank stands there
abbrev pub blank_text : List ℕ → Option ℕ → List ℕ
blank_text line None = codes "In this line stands no blank.\n"
blank_text line (Some at) = front_text (take at line)

-- what a line is that begins as no line of a bundle does, where that is known: a file by gzip (RFC 1952, 2.3.1), a byte
-- order mark in UTF-8 or UTF-16 (the Unicode Standard, 23.8), or a record without its tap's name
abbrev pub known_text : List ℕ → Option (List ℕ)
known_text line =
    if starts_with nat_eq line (31 ∷ 139 ∷ []) then Some (codes "This is compressed by gzip: gzip -dc gives the lines.\n")
    else (if starts_with nat_eq line (239 ∷ 187 ∷ 191 ∷ []) then Some (codes "This line begins with a byte order mark, which no bundle has: remove it.\n")
    else (if starts_with nat_eq line (255 ∷ 254 ∷ []) || starts_with nat_eq line (254 ∷ 255 ∷ []) then Some (codes "This is UTF-16: a bundle is UTF-8.\n")
    else (if starts_with nat_eq line (123 ∷ []) then Some (codes "The name of the tap is missing before this record.\n")
    else None)))

-- what is wrong with what a line begins with
abbrev pub begin_text : List ℕ → Option (List ℕ) → List ℕ
begin_text line (Some known) = known
begin_text line None = blank_text line (first_blank line)

-- help on a line that does not begin with a tap's name
abbrev pub name_help : List ℕ → List ℕ
name_help line = codes "A line begins with the name of its tap, 1 to " ++ decimal max_name ++ codes " bytes of A-Za-z0-9_.-, and a blank.\n" ++ begin_text line (known_text line)
