-- Where a line stands among several files.
use Rattle.std.specs.Prelude.{ℕ, List, [], ◌++◌, codes, decimal, Option, Some, None}
use Rattle.serde_json.specs.Data.{null, string, Members, put}
use Rattle.aud_cert.specs.Text.{whole}
use Rattle.aud_explanation.specs.declared.name.Names.TheVariants.{Short}
use Rattle.aud_explanation.specs.Named.{name_words}

-- the file, and the line's number there: `  (c1.jsonl:10)`; nothing where no file is told
abbrev pub place_text : Option (List ℕ × ℕ) → List ℕ
place_text (Some place) = codes "  (" ++ name_words Short place.0 ++ codes ":" ++ decimal place.1 ++ codes ")"
place_text None = []

-- the same as members, `null` where no file is told
unfoldable pub with_place : Option (List ℕ × ℕ) → Members → Members
with_place (Some place) ms = put (codes "file_line") (whole place.1) (put (codes "file") (string place.0) ms)
with_place None ms = put (codes "file_line") null (put (codes "file") null ms)
