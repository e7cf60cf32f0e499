-- The row of what happened to the client.
use Rattle.std.specs.Prelude.{ℕ, ◌+◌, ◌==◌, min, Bool, List, [], ◌∷◌, ◌++◌, codes, decimal, fold, length, map, nat_le, if◌then◌else◌, Some, None}
use Rattle.aud_explanation.specs.declared.event.ClientEvent.{ClientEvent}
use Rattle.aud_explanation.specs.declared.event.Happens.{Happens}
use Rattle.aud_explanation.specs.declared.event.Happens.TheVariants.{Asks, Reply, Refused, Got, Lost}
use Rattle.aud_explanation.specs.Long.{first_shown, last_shown, left_out, more_words}
use Rattle.aud_explanation.specs.Span.{span}

-- what happens, and where a client asks to go on
abbrev pub happens_words : Happens → List ℕ
happens_words (Asks None) = codes " asks"
happens_words (Asks (Some position)) = codes " asks after " ++ decimal position
happens_words Reply = codes " reply"
happens_words Refused = codes " refused"
happens_words (Got from to) = codes " got " ++ span from to
happens_words Lost = codes " lost"

-- the lines, and what happens there
abbrev pub event_words : ClientEvent → List ℕ
event_words e = span e.first e.last ++ happens_words e.happens

-- whether the words stand within the line, two blanks before them
abbrev pub has_room : ℕ → List ℕ → Bool
has_room column words = nat_le (column + 2 + length words) 100

-- the words there; in the next line, after eight blanks, where this one has no room
abbrev pub piece : ℕ → List ℕ → List ℕ
piece column words = if has_room column words then codes "  " ++ words else codes "\n        " ++ words

-- the column after them, 100 at most
abbrev pub piece_end : ℕ → List ℕ → ℕ
piece_end column words = if has_room column words then column + 2 + length words else 8 + min (length words) 92

-- the column after all of these words
abbrev pub pieces_end : ℕ → List (List ℕ) → ℕ
pieces_end column texts = fold piece_end column texts

-- all of these words from that column on
abbrev pub pieces : ℕ → List (List ℕ) → List ℕ
pieces column [] = []
pieces column (words ∷ texts) = piece column words ++ pieces (piece_end column words) texts

-- how many events are left out, where some are
abbrev pub left_words : ℕ → List (List ℕ)
left_words n = if n == 0 then [] else more_words n ∷ []

-- the words of the row: of more than 200 events the first 100, how many are left out, and the last 100
abbrev pub row_words : List ClientEvent → List (List ℕ)
row_words events = map event_words (first_shown events) ++ left_words (left_out events) ++ map event_words (last_shown events)

-- the row, where there is something
abbrev pub events_text : List ClientEvent → List ℕ
events_text [] = []
events_text (e ∷ es) = codes "    client" ++ pieces 10 (row_words (e ∷ es)) ++ codes "\n"
