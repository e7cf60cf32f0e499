-- What the index of known texts answers.
use Rattle.std.specs.Prelude.{◌≡◌, ℕ, ◌-◌, Bool, false, List, [], ◌∷◌, length, take, Option, Some, None, if◌then◌else◌, ◌==◌}
use Rattle.std.specs.HashMap as hash
use Rattle.std.specs.List.{ends_with}
use Rattle.std.specs.Option.{option_and_then, option_or}
use Rattle.std.specs.Str.{bytes_eq}
use Rattle.aud_tap.specs.declared.records.StreamRec.{StreamRec}
use Rattle.aud_tap.specs.declared.records.StreamRec.TheVariants.{Ev, Other}
use Rattle.aud_node.specs.Stream.{Text, position, entry}
use Rattle.aud_node.specs.Recoverable.{ends_in}
use Rattle.aud_node.specs.Known.{is_sent_as, known_entry}
use Rattle.aud_node.specs.declared.known.KnownTexts.{KnownTexts}

-- the entry that is kept for the text
abbrev pub kept_entry : KnownTexts → Text → Option ℕ
kept_entry known text = hash.get_by (λ k. bytes_eq text k.now) known.entries

-- what follows the last such byte of the text, if it has one
abbrev pub after_last : ℕ → Text → Option Text
after_last byte [] = None
after_last byte (b ∷ bs) = option_or (after_last byte bs) (if b == byte then Some bs else None)

-- the text without this end, if it ends so
abbrev pub without_end : Text → Text → Option Text
without_end end text = if ends_with ◌==◌ text end then Some (take (length text - length end) text) else None

-- what stands between the last two quotes of a text that ends in a quote and a bracket
unfoldable pub ending : Text → Option Text
ending text = option_and_then (after_last 34) (without_end (34 ∷ 93 ∷ []) text)

-- the entry is an event, and its text's ending is its offset
abbrev pub spells_its_offset : StreamRec → Bool
spells_its_offset (Ev event) = ends_in (ending event.text) event.off
spells_its_offset (Other off) = false

-- there is an entry, and it is an event that is sent again as this text alone
abbrev pub is_some_sent_as : Text → Option StreamRec → Bool
is_some_sent_as text None = false
is_some_sent_as text (Some e) = is_sent_as text e

-- how many entries stand before the position, if the entry there is such an event
abbrev pub sent_at : List StreamRec → Text → ℕ → Option ℕ
sent_at stream text p = if is_some_sent_as text (entry stream p) then Some (p - 1) else None

-- how many entries stand before the first that has the text's ending as its offset, if that is such an event
abbrev pub found_by_offset : List StreamRec → Text → Option ℕ
found_by_offset stream text = option_and_then (sent_at stream text) (option_and_then (position stream) (ending text))

-- for each text that isn't found by an offset, the entry that is kept is that of the stream
abbrev pub HoldsKnown : List StreamRec → KnownTexts → Type 0
HoldsKnown stream known = (text : Text) → found_by_offset stream text ≡ None → kept_entry known text ≡ known_entry stream text
