-- The entries of a simulated cluster's stream.
use Rattle.std.specs.Prelude.{ℕ, ◌-◌, List, ◌++◌, length, codes, Option, slice_get}
use Rattle.aud_tap.specs.declared.records.Event.{Event}
use Rattle.aud_sim.specs.declared.entry.Entry.{Entry}
use Rattle.aud_sim.specs.Texts.{offset_at, main_namespace, event_text, message, garbled_message}

-- the event that an emit at a position makes: everyone's namespace, its offset last in its text
abbrev pub event_of : List (List ℕ) → List (List ℕ) → List ℕ → List (List ℕ) → ℕ → Event
event_of rooms except word bin position = record {
  off = offset_at position;
  nsp = main_namespace;
  rooms = rooms;
  except = except;
  text = event_text word (length bin) position;
  bin = bin;
}

-- the entry, its frame, the frame with `x` at the end of its word, and the frame with `x` in place of its digit
abbrev pub entry_of : List (List ℕ) → List (List ℕ) → List ℕ → List (List ℕ) → ℕ → Entry
entry_of rooms except word bin position = record {
  event = event_of rooms except word bin position;
  frame = message (event_text word (length bin) position);
  altered = message (event_text (word ++ codes "x") (length bin) position);
  garbled = garbled_message (event_text word (length bin) position);
}

-- the entry at a position; positions count from 1
abbrev pub entry_at : List Entry → ℕ → Option Entry
entry_at entries position = slice_get entries (position - 1)
