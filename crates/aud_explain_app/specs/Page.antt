-- The page of a report, which holds the JSON that it shows.
use Rattle.std.specs.Prelude.{◌≡◌, ℕ, ◌==◌, Bool, ◌||◌, List, [], ◌∷◌, ◌++◌, codes, chars, encode_utf8_all, flat_map, if◌then◌else◌}
use Rattle.std.specs.Str.{NoCharPasses}
use Rattle.aud_explain_app.specs.declared.page.TheConstants.{HEAD, TAIL}

-- `<`, `>`, `&`, U+2028 and U+2029: without one of them a text neither ends the element that it stands in, nor begins
-- another, nor names a character, nor ends a line of a script
abbrev pub is_markup : ℕ → Bool
is_markup c = c == 60 || c == 62 || c == 38 || c == 8232 || c == 8233

-- a character of JSON as it stands in the page: each of these as JSON's own escape, all others as they are
abbrev pub escape_of : ℕ → List ℕ
escape_of c =
    if c == 60 then codes "\\u003c"
    else (if c == 62 then codes "\\u003e"
    else (if c == 38 then codes "\\u0026"
    else (if c == 8232 then codes "\\u2028"
    else (if c == 8233 then codes "\\u2029"
    else c ∷ []))))

-- JSON as it stands in the page
unfoldable pub escaped : List ℕ → List ℕ
escaped json = encode_utf8_all (flat_map escape_of (chars json))

-- the page, byte for byte, up to where the JSON stands, and from there on
unfoldable pub page_head : List ℕ
page_head = HEAD.now

unfoldable pub page_tail : List ℕ
page_tail = TAIL.now

-- the page with this JSON, of which nothing is markup
pub record IsPage (json page : List ℕ) : Type 0 where
  pub parts : page ≡ page_head ++ (escaped json ++ page_tail)
  pub no_markup : NoCharPasses is_markup (escaped json)
