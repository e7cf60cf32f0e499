-- A text as it is printed: what is not seen, or changes how others are seen, stands there as an escape.
use Rattle.std.specs.Prelude.{◌≡◌, ℕ, ◌+◌, ◌-◌, ◌/◌, ◌%◌, ◌==◌, Bool, ◌||◌, List, [], ◌∷◌, ◌++◌, codes, flat_map, nat_lt, encode_utf8, if◌then◌else◌}
use Rattle.std.specs.Char.{digit_char, is_control}
use Rattle.std.specs.Int.{is_in_range}
use Rattle.std.specs.Str.{chars, IsUtf8}

-- a hidden character: it isn't seen itself, and may turn the direction of others, join or part them, or end a line. It is
-- one of Unicode's Default_Ignorable_Code_Point, which has all of Bidi_Control (DerivedCoreProperties, PropList), or
-- U+2028 or U+2029, which end a line or a paragraph, or U+FFF9, U+FFFA or U+FFFB, which annotate
abbrev pub is_hidden : ℕ → Bool
is_hidden c =
    c == 0xAD || c == 0x34F || c == 0x61C || is_in_range 0x115F 0x1160 c || is_in_range 0x17B4 0x17B5 c
    || is_in_range 0x180B 0x180F c || is_in_range 0x200B 0x200F c || is_in_range 0x2028 0x202E c
    || is_in_range 0x2060 0x206F c || c == 0x3164 || is_in_range 0xFE00 0xFE0F c || c == 0xFEFF || c == 0xFFA0
    || is_in_range 0xFFF0 0xFFFB c || is_in_range 0x1BCA0 0x1BCA3 c || is_in_range 0x1D173 0x1D17A c
    || is_in_range 0xE0000 0xE0FFF c

-- the two hexadecimal digits of a byte
abbrev pub hex : ℕ → List ℕ
hex b = digit_char (b / 16) ∷ digit_char (b % 16) ∷ []

-- a number below 65,536 in four digits
abbrev pub hex_16 : ℕ → List ℕ
hex_16 n = hex (n / 256) ++ hex (n % 256)

-- a number below 2^24 in six
abbrev pub hex_24 : ℕ → List ℕ
hex_24 n = hex (n / 65536) ++ hex_16 (n % 65536)

-- the code of a character: four digits, or six from U+10000 on
abbrev pub hex_code : ℕ → List ℕ
hex_code c = if nat_lt c 65536 then hex_16 c else hex_24 c

-- a character by its code
abbrev pub code_escape : ℕ → List ℕ
code_escape c = codes "\\u{" ++ hex_code c ++ codes "}"

-- a character as it is printed: `\` as `\\`, a control character as `\x1b`, a hidden one as `\u{202e}`, and any other as
-- it is
abbrev pub shown : ℕ → List ℕ
shown c =
    if c == 92 then codes "\\\\"
    else (if is_control c then codes "\\x" ++ hex c
    else (if is_hidden c then code_escape c
    else encode_utf8 c))

-- a text as it is printed
unfoldable pub printed : List ℕ → List ℕ
printed text = flat_map shown (chars text)

-- half of a character of a JSON string, or a whole one below U+10000 (RFC 8259, section 7)
unfoldable pub json_unit : ℕ → List ℕ
json_unit n = codes "\\u" ++ hex_16 n

-- both halves of the character so far past U+10000, a surrogate pair
unfoldable pub json_pair : ℕ → List ℕ
json_pair n = json_unit (0xD800 + n / 1024) ++ json_unit (0xDC00 + n % 1024)

-- a character of a JSON string by its code
abbrev pub json_escape : ℕ → List ℕ
json_escape c = if nat_lt c 65536 then json_unit c else json_pair (c - 65536)

-- a character of JSON as it is printed: a control or a hidden character by its code, which tells the same string, and any
-- other as it is. JSON without blanks between its tokens has such characters in strings alone
abbrev pub json_shown : ℕ → List ℕ
json_shown c = if is_control c || is_hidden c then json_escape c else encode_utf8 c

-- JSON as it is printed
unfoldable pub json_printed : List ℕ → List ℕ
json_printed text = flat_map json_shown (chars text)

-- texts that are printed alike are the same
abbrev pub PrintedApart : Type 0
PrintedApart = (a b : List ℕ) → IsUtf8 a → IsUtf8 b → printed a ≡ printed b → a ≡ b
