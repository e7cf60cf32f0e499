-- Help on a line of which a length, a number or a count is outside its limits.
use Rattle.std.specs.Prelude.{ℕ, List, [], ◌++◌, codes, decimal, Option, Some, None, if◌then◌else◌}
use Rattle.serde_json.specs.Data.{Data}
use Rattle.aud_tap.specs.declared.records.TapKind.{TapKind}
use Rattle.aud_tap.specs.declared.records.TapKind.TheVariants.{Stream, Node, Client}
use Rattle.aud_tap.specs.Forms.{is_text}
use Rattle.aud_tap.specs.Json.{text_at}
use Rattle.aud_reader.specs.Bundle.{max_client_taps, max_entries, max_node_taps, max_pids, max_records}
use Rattle.aud_reader.specs.Header.{tap_kind}
use Rattle.aud_reader.specs.Record.{tap_of_kind}
use Rattle.aud_refusals.specs.declared.excess.Excess.{Excess}
use Rattle.aud_refusals.specs.declared.excess.Excess.TheVariants.{Length, Count, Item, Number}
use Rattle.aud_refusals.specs.Members.{key_of, members_of}
use Rattle.aud_refusals.specs.Excess.{first_excess}

-- a length outside its limits
abbrev pub length_text : ℕ → ℕ → List ℕ
length_text length most = codes " has " ++ decimal length ++ codes " bytes; it may have 1 to " ++ decimal most ++ codes ".\n"

-- what is outside its limits, and the limits
abbrev pub excess_text : Excess → List ℕ
excess_text (Length m length most) = codes "The field " ++ key_of m ++ length_text length most
excess_text (Count m count most) = codes "The field " ++ key_of m ++ codes " has " ++ decimal count ++ codes " items; it may have at most " ++ decimal most ++ codes ".\n"
excess_text (Item m place length most) = codes "Item " ++ decimal place ++ codes " of the field " ++ key_of m ++ length_text length most
excess_text (Number m number most) = codes "The field " ++ key_of m ++ codes " is " ++ decimal number ++ codes "; it may be at most " ++ decimal most ++ codes ".\n"

-- how many there may be
abbrev pub at_most_text : List ℕ → ℕ → List ℕ → List ℕ
at_most_text whole most parts = whole ++ codes " may have at most " ++ decimal most ++ codes " " ++ parts ++ codes ".\n"

-- how many taps of this kind there may be
abbrev pub taps_text : Option TapKind → List ℕ
taps_text None = []
taps_text (Some Stream) = []
taps_text (Some Node) = at_most_text (codes "A bundle") max_node_taps (codes "taps of nodes")
taps_text (Some Client) = at_most_text (codes "A bundle") max_client_taps (codes "taps of clients")

-- the kind of tap that a header names
abbrev pub kind_named : Option (List ℕ) → Option TapKind
kind_named None = None
kind_named (Some word) = tap_kind word

-- how many records a node's tap may have, and how many pids all of these taps
abbrev pub node_text : ℕ → ℕ → List ℕ
node_text records pids = at_most_text (codes "A tap") records (codes "records") ++ at_most_text (codes "The taps of nodes") pids (codes "different pids")

-- how many records a tap of this kind may have
abbrev pub records_text : Option TapKind → List ℕ
records_text None = []
records_text (Some Stream) = at_most_text (codes "A stream") max_entries (codes "entries")
records_text (Some Node) = node_text max_records max_pids
records_text (Some Client) = at_most_text (codes "A tap") max_records (codes "records")

-- a line of this kind whose fields are all within their limits
abbrev pub count_text : List ℕ → Data → List ℕ
count_text kind d =
    if is_text kind (codes "tap") then taps_text (kind_named (text_at (codes "of") d))
    else records_text (tap_of_kind kind)

-- the first field of a line of this kind that is outside its limits, if there is one
abbrev pub first_text : List ℕ → Data → Option Excess → List ℕ
first_text kind d None = count_text kind d
first_text kind d (Some excess) = excess_text excess

-- the same where the value says its kind
abbrev pub limits_text : Data → Option (List ℕ) → List ℕ
limits_text d None = []
limits_text d (Some kind) = first_text kind d (first_excess (members_of kind) d)

-- help on the value of a line of which a length, a number or a count is outside its limits
abbrev pub limit_help : Data → List ℕ
limit_help d = limits_text d (text_at (codes "k") d)
