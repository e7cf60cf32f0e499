-- JSON, whether a record's, a payload's or a certificate's.
use Rattle.std.specs.Prelude.{ℕ, List, Option, option_and_then, Result, Err, if◌then◌else◌}
use Rattle.std.specs.Str.{is_utf8}
use Rattle.serde_json.specs.Data.{Data}
use Rattle.serde_json.specs.Find.{get, as_str}
use Rattle.serde_json.specs.Read.{read}
use Rattle.aud_base.specs.Steps.{need}

-- the text at this key, if there is one
abbrev pub text_at : List ℕ → Data → Option (List ℕ)
text_at key d = option_and_then as_str (get key d)

-- the JSON of bytes, or else this fault
abbrev pub json_or : {E : Type 0} → E → List ℕ → Result Data E
json_or fault bytes = if is_utf8 bytes then need fault (read bytes) else Err fault
