-- The words, one option or file after the other.
use Rattle.std.specs.Prelude.{ℕ, [], ◌∷◌, codes, Bool, true, Option, Some, None, if◌then◌else◌}
use Rattle.std.specs.Str.{bytes_eq}
use Rattle.aud_cli.specs.Given.{Given, Words, alone_or_number, takes_value}

-- whether no option and no file stands here before -- and the files after it
abbrev pub is_end : Words → Bool
is_end [] = true
is_end (word ∷ words) = bytes_eq word.now (codes "--")

-- what stands first, and how many words it has; None where an option has no value
abbrev pub next_given : Bool → Words → Option (Given × ℕ)
next_given may_be [] = None
next_given may_be (word ∷ []) = if takes_value word.now then None else Some (alone_or_number may_be word.now, 1)
next_given may_be (word ∷ next ∷ words) =
    if takes_value word.now then Some (record { name = word.now; value = next.now }, 2) else Some (alone_or_number may_be word.now, 1)
