-- Why a text is no JSON (RFC 8259) that is read.
use Rattle.std.specs.Prelude.{ℕ, suc, ◌+◌, ◌-◌, ◌^◌, ◌==◌, ◌||◌, min, max, nat_lt, List, [], ◌∷◌, ◌++◌, codes, decimal, drop, map, slice_index, Bool, true, false, not, is_some, if◌then◌else◌}
use Rattle.std.specs.Result.{result_ok}
use Rattle.std.specs.Str.{is_utf8}
use Rattle.json.specs.Lex.{tokens}
use Rattle.json.specs.Token.{Token, begin_object, end_object, begin_array, end_array, key, string, number, boolean, null, bad}
use Rattle.serde_json.specs.Read.{max_depth}
use Rattle.aud_reader.specs.Record.{json_of}
use Rattle.aud_refusals.specs.declared.no_json.NoJson.{NoJson}
use Rattle.aud_refusals.specs.declared.no_json.NoJson.TheVariants.{Deep, HalfPair, Number, Quoted, Word, Sign, Unmatched}
use Rattle.aud_refusals.specs.declared.no_json.Front.{Front}
use Rattle.aud_refusals.specs.declared.no_json.Front.TheVariants.{End, Good, Huge, Bad}
use Rattle.aud_refusals.specs.declared.token_place.Mode.{Mode}
use Rattle.aud_refusals.specs.declared.token_place.Mode.TheVariants.{Between, InWord, InText, InEscape}

-- the bytes are JSON that is read
abbrev pub is_json : List ℕ → Bool
is_json bytes = is_some (result_ok (json_of bytes))

-- ---- how deep a text nests

-- how many lists and objects are open after a token, counted in 64 bits
abbrev pub depth_after : ℕ → Token → ℕ
depth_after depth begin_object = min (depth + 1) (2 ^ 64 - 1)
depth_after depth end_object = depth - 1
depth_after depth begin_array = min (depth + 1) (2 ^ 64 - 1)
depth_after depth end_array = depth - 1
depth_after depth (key s) = depth
depth_after depth (string s) = depth
depth_after depth (number s) = depth
depth_after depth (boolean b) = depth
depth_after depth null = depth
depth_after depth bad = depth

-- the most that are open at once, where most is the most so far
abbrev pub deepest : ℕ → ℕ → List Token → ℕ
deepest most depth [] = most
deepest most depth (t ∷ ts) = deepest (max most (depth_after depth t)) (depth_after depth t) ts

-- how deep the lists and objects of a text nest
abbrev pub depth_of : List ℕ → ℕ
depth_of text = deepest 0 0 (tokens text)

-- ---- the first token that is not read

-- what a token is: a number past all 64-bit floats is not read by itself either
abbrev pub token_front : Token → Front
token_front begin_object = Good
token_front end_object = Good
token_front begin_array = Good
token_front end_array = Good
token_front (key s) = Good
token_front (string s) = Good
token_front (number s) = if is_json s then Good else Huge
token_front (boolean b) = Good
token_front null = Good
token_front bad = Bad

abbrev pub is_good : Front → Bool
is_good Good = true
is_good End = false
is_good Huge = false
is_good Bad = false

-- how many tokens stand before the first that is not read, where these come next, counted in 64 bits
abbrev pub read_from : ℕ → List Token → ℕ
read_from count [] = count
read_from count (t ∷ ts) = if is_good (token_front t) then read_from (min (count + 1) (2 ^ 64 - 1)) ts else count

-- ---- at which byte a token begins

-- JSON's white space, and the signs between its tokens (RFC 8259, section 2)
abbrev pub is_white : ℕ → Bool
is_white b = b == 32 || b == 9 || b == 10 || b == 13

abbrev pub is_comma_or_colon : ℕ → Bool
is_comma_or_colon b = b == 44 || b == 58

abbrev pub is_bracket : ℕ → Bool
is_bracket b = b == 91 || b == 93 || b == 123 || b == 125

-- the byte ends a word
abbrev pub ends_word : ℕ → Bool
ends_word b = is_white b || (is_comma_or_colon b || is_bracket b)

-- within what the next byte stands, after this one in a word, between tokens, in quotes
abbrev pub after_word : ℕ → Mode
after_word b = if ends_word b then Between else InWord

abbrev pub after_between : ℕ → Mode
after_between b = if b == 34 then InText else after_word b

abbrev pub after_text : ℕ → Mode
after_text b = if b == 34 then Between else (if b == 92 then InEscape else InText)

abbrev pub mode_after : Mode → ℕ → Mode
mode_after Between b = after_between b
mode_after InWord b = after_word b
mode_after InText b = after_text b
mode_after InEscape b = InText

-- a token begins at this byte: a bracket, a text in quotes, or a word
abbrev pub begins : Mode → ℕ → Bool
begins Between b = not (is_white b || is_comma_or_colon b)
begins InWord b = is_bracket b
begins InText b = false
begins InEscape b = false

-- the byte at which a token begins that so many others come before, where these bytes come next, the first of which has
-- this number; the end, where there is none
abbrev pub begin_of_token : Mode → ℕ → ℕ → List ℕ → ℕ
begin_of_token mode before at [] = at
begin_of_token mode before at (b ∷ bs) =
    if begins mode b then (if before == 0 then at else begin_of_token (mode_after mode b) (before - 1) (suc at) bs)
    else begin_of_token (mode_after mode b) before (suc at) bs

-- where the first token begins that is not read
abbrev pub place_of : List ℕ → ℕ
place_of text = begin_of_token Between (read_from 0 (tokens text)) 0 text

-- ---- why

-- what tokens begin with
abbrev pub tokens_front : List Token → Front
tokens_front [] = End
tokens_front (t ∷ ts) = token_front t

-- what bytes begin with
abbrev pub bytes_front : List ℕ → Front
bytes_front bytes = if is_utf8 bytes then tokens_front (tokens bytes) else Bad

-- the digit 0 in place of D: with it no `\u` stands for a surrogate, and a text in quotes stays one
abbrev pub no_d : ℕ → ℕ
no_d b = if b == 68 || b == 100 then 48 else b

-- what these bytes begin with, at this byte, is no token: a text in quotes that would be one without its surrogates,
-- another text, or a word
abbrev pub text_fault : ℕ → Front → NoJson
text_fault at Good = HalfPair at
text_fault at End = Quoted at
text_fault at Huge = Quoted at
text_fault at Bad = Quoted at

abbrev pub token_fault : ℕ → List ℕ → NoJson
token_fault at bytes = if slice_index bytes 0 == 34 then text_fault at (bytes_front (map no_d bytes)) else Word at

-- what is wrong at this byte, where these come there, which begin so; where they begin with a token, something in front
-- of it is wrong, or it may not stand there
abbrev pub fault_at : ℕ → List ℕ → Front → NoJson
fault_at at bytes End = Unmatched
fault_at at bytes Good = Sign at
fault_at at bytes Huge = Number at
fault_at at bytes Bad = token_fault at bytes

abbrev pub fault_in : ℕ → List ℕ → NoJson
fault_in at bytes = fault_at at bytes (bytes_front bytes)

-- why a text is none that is read
abbrev pub no_json : List ℕ → NoJson
no_json text =
    if nat_lt max_depth (depth_of text) then Deep (depth_of text)
    else fault_in (place_of text) (drop (place_of text) text)

-- ---- in words

-- the byte, counted from 1
abbrev pub nth : ℕ → List ℕ
nth at = decimal (at + 1)

-- what is wrong, after the name of what is wrong so
unfoldable pub no_json_text : NoJson → List ℕ
no_json_text (Deep depth) = codes "nests " ++ decimal depth ++ codes " deep; at most 127 is read"
no_json_text (HalfPair at) = codes "has half of a surrogate pair, in the text that begins at byte " ++ nth at ++ codes " of it"
no_json_text (Number at) = codes "has a number that no 64-bit float holds, at byte " ++ nth at ++ codes " of it"
no_json_text (Quoted at) = codes "has a text at byte " ++ nth at ++ codes " of it that does not end, or holds a control character or an escape that JSON lacks"
no_json_text (Word at) = codes "has a word at byte " ++ nth at ++ codes " of it that is no JSON value"
no_json_text (Sign at) = codes "is no JSON at byte " ++ nth at ++ codes " of it, or at a comma or colon in front of that"
no_json_text Unmatched = codes "ends too early, or has brackets that do not match, or a member without a name or value"
