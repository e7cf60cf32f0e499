-- A name that others chose, as it stands in a line: as it is where it is plain, else between quotes.
use Rattle.std.specs.Prelude.{◌≡◌, ℕ, ◌==◌, Bool, not, ◌&&◌, ◌||◌, List, ◌++◌, codes, flat_map, length, nat_lt, encode_utf8, if◌then◌else◌, Option, Some, None}
use Rattle.std.specs.Char.{is_control, is_whitespace}
use Rattle.std.specs.List.{list_all}
use Rattle.std.specs.Str.{chars, IsUtf8}
use Rattle.aud_explanation.specs.declared.name.Names.{Names}
use Rattle.aud_explanation.specs.declared.name.Names.TheVariants.{Whole, Short}
use Rattle.aud_explanation.specs.Long.{first_shown, last_shown, left_out, more_words}
use Rattle.aud_explanation.specs.Printed.{is_hidden, printed}

-- `"`, `,` or `\`
abbrev pub is_sign : ℕ → Bool
is_sign c = c == 34 || c == 44 || c == 92

-- a character of a plain name: no blank, none of these, and none that is printed as an escape
abbrev pub is_of_plain : ℕ → Bool
is_of_plain c = not (is_whitespace c || is_control c || is_hidden c || is_sign c)

-- a plain name has such characters alone, and one at least
abbrev pub is_plain_name : List ℕ → Bool
is_plain_name cs = nat_lt 0 (length cs) && list_all is_of_plain cs

-- a character between quotes: a quote stands twice there
abbrev pub in_quotes : ℕ → List ℕ
in_quotes c = if c == 34 then codes "\"\"" else encode_utf8 c

-- characters between quotes
abbrev pub quoted : List ℕ → List ℕ
quoted cs = codes "\"" ++ flat_map in_quotes cs ++ codes "\""

-- a name of these characters: as it is where it is plain, else between quotes
abbrev pub whole_of : List ℕ → List ℕ → List ℕ
whole_of name cs = if is_plain_name cs then name else quoted cs

abbrev pub whole_name : List ℕ → List ℕ
whole_name name = whole_of name (chars name)

-- of long characters the first 100 and the last 100, each between quotes, and how many are left out
abbrev pub cut_name : List ℕ → List ℕ
cut_name cs = quoted (first_shown cs) ++ codes " " ++ more_words (left_out cs) ++ codes " " ++ quoted (last_shown cs)

-- one of more than 200 characters is cut
abbrev pub short_of : List ℕ → List ℕ → List ℕ
short_of name cs = if left_out cs == 0 then whole_of name cs else cut_name cs

-- whole or short
abbrev pub name_of : Names → List ℕ → List ℕ → List ℕ
name_of Whole name cs = whole_of name cs
name_of Short name cs = short_of name cs

-- a name, whole or short
unfoldable pub name_words : Names → List ℕ → List ℕ
name_words names name = name_of names name (chars name)

-- a name behind words, or other words where there is none
unfoldable pub named_words : Names → List ℕ → Option (List ℕ) → List ℕ → List ℕ
named_words names words (Some name) none = words ++ name_words names name
named_words names words None none = none

-- names that are printed alike are the same
abbrev pub NamesApart : Type 0
NamesApart = (a b : List ℕ) → IsUtf8 a → IsUtf8 b → printed (whole_name a) ≡ printed (whole_name b) → a ≡ b
