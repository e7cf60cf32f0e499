-- JSON in a page, character by character, and that nothing of it is markup.
use Rattle.std.proofs.Common.{◌≡◌, ℕ, List, [], ◌∷◌, ◌++◌, length, flat_map, chars, encode_utf8, encode_utf8_all, IsUtf8, refl, ap, ◌∙◌, arith}
use Rattle.std.specs.Str.{NoCharPasses, NonePass}
use Rattle.std.proofs.lemmas.Str.{chars_past_char, chars-nil, encodes-append, NoCharPasses-nil, NoCharPasses-append}
use Rattle.std.proofs.lemmas.List.{nil_from_length}
use Rattle.aud_explain_app.specs.Page.{escape_of, escaped, is_markup}

pub escaped_empty : (json : List ℕ) → length json ≡ 0 → escaped json ≡ []
unfolding escaped
escaped_empty json none = rw (ap chars (nil_from_length json none) ∙ chars-nil) refl

pub escaped_step : (json rest : List ℕ) (c : ℕ) → IsUtf8 json → json ≡ encode_utf8 c ++ rest
    → escaped json ≡ encode_utf8_all (escape_of c) ++ escaped rest
unfolding escaped
escaped_step json rest c utf8 parts = rw (chars_past_char json rest c utf8 parts, encodes-append) refl

none_pass : (c : ℕ) → NonePass is_markup (escape_of c)
none_pass c = grind arith

-- a character as it stands in a page
escape_no_markup : (c : ℕ) → NoCharPasses is_markup (encode_utf8_all (escape_of c))
escape_no_markup c = (escape_of c, refl, none_pass c)

all_no_markup : (cs : List ℕ) → NoCharPasses is_markup (encode_utf8_all (flat_map escape_of cs))
all_no_markup [] = NoCharPasses-nil is_markup
all_no_markup (c ∷ cs) = rw encodes-append (NoCharPasses-append is_markup _ _ (escape_no_markup c) (all_no_markup cs))

pub escaped_no_markup : (json : List ℕ) → NoCharPasses is_markup (escaped json)
unfolding escaped
escaped_no_markup json = all_no_markup (chars json)
