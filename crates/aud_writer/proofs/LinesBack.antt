-- The bytes of lines that are written have those lines, each as it was written.
use Rattle.std.proofs.Common.{◌≡◌, ℕ, ◌+◌, ◌-◌, ◌==◌, ◌&&◌, nat_lt, List, [], ◌∷◌, ◌++◌, length, take, Bool, true, false, cond, None, refl, ap, ◌∙◌, arith, append_assoc, length-append, slice_index}
use Rattle.std.specs.List.{All, list_any, list_all}
use Rattle.std.proofs.Math.Seq.{get_or-append_seam}
use Rattle.std.proofs.lemmas.Bool.{and_parts, or_parts}
use Rattle.std.proofs.lemmas.List.Elements.{All-head, All-tail}
use Rattle.std.proofs.lemmas.Bool.Decides.{nat_tests}
use Rattle.serde_json.specs.Data.{object, Members, no_members, member}
use Rattle.serde_json.specs.Written.{compact_text, members_text, comma_if}
use Rattle.json.specs.Print.{quoted}
use Rattle.aud_tap.specs.declared.records.StreamRec.TheVariants.{Ev, Other}
use Rattle.aud_tap.specs.declared.records.NodeRec.TheVariants.{Start, Take, Takes, Opened, Join, Leave, Broke, Back, Gone}
use Rattle.aud_tap.specs.declared.records.ClientRec.TheVariants.{Conn, TextIn, BytesIn, Poll, TextOut, Lost}
use Rattle.std.proofs.Common.{Some}
use Rattle.aud_tap.specs.declared.records.Rec.{Rec}
use Rattle.aud_tap.specs.declared.records.Rec.TheVariants.{Header, Stream, Node, Client}
use Rattle.aud_tap.specs.declared.taps.Tap.{Tap}
use Rattle.aud_reader.specs.OwnLines.{recs_of}
use Rattle.aud_tap.specs.Limits.{fits, max_name}
use Rattle.aud_tap.specs.TapName.{is_name_byte, is_tap_name}
use Rattle.aud_reader.specs.Lines.{has_newline, without_return, is_too_long, line_pieces, lines_from, lines_of}
use Rattle.aud_reader.proofs.LinesLemmas.{has_newline-append, pieces_of-line}
use Rattle.aud_writer.specs.Written.{record_data, line_text}
use Rattle.aud_writer.specs.declared.bundle.Lines.{Lines}
use Rattle.aud_writer.specs.WrittenBundle.{numbered, named, recs_of_taps, line_texts, ended}
use Rattle.aud_writer.specs.Private.SoFar.{is_long, AreWritten}
use Rattle.aud_writer.proofs.Newlines.{compact-line}

-- ---- the end of a line

end-of : (c q d r : List ℕ) → c ++ (q ++ 58 ∷ (d ++ (r ++ 125 ∷ []))) ≡ (c ++ (q ++ 58 ∷ (d ++ r))) ++ 125 ∷ []
end-of c q d r = simp append_assoc

-- the members of an object end in its bracket
members-end : (later : Bool) (ms : Members) → (front : List ℕ) × (members_text later ms ≡ front ++ 125 ∷ [])
members-end later no_members = ([], refl)
members-end later (member k d ms) =
    let rest = members-end true ms in
    (comma_if later ++ (quoted k ++ 58 ∷ (compact_text d ++ rest.0)), rw rest.1 (end-of (comma_if later) (quoted k) (compact_text d) rest.0))

-- a record is an object
is_object : (r : Rec) → (ms : Members) × (record_data r ≡ object ms)
is_object (Header of v) = (_, refl)
is_object (Stream (Ev e)) = (_, refl)
is_object (Stream (Other off)) = (_, refl)
is_object (Node (Start None)) = (_, refl)
is_object (Node (Start (Some off))) = (_, refl)
is_object (Node (Take off)) = (_, refl)
is_object (Node (Takes off)) = (_, refl)
is_object (Node (Opened pid sid nsp)) = (_, refl)
is_object (Node (Join pid room)) = (_, refl)
is_object (Node (Leave pid room)) = (_, refl)
is_object (Node (Broke pid turn)) = (_, refl)
is_object (Node (Back pid turn)) = (_, refl)
is_object (Node (Gone pid)) = (_, refl)
is_object (Client (Conn c)) = (_, refl)
is_object (Client (TextIn t)) = (_, refl)
is_object (Client (BytesIn b)) = (_, refl)
is_object (Client (Poll t)) = (_, refl)
is_object (Client (TextOut t)) = (_, refl)
is_object (Client Lost) = (_, refl)

-- and so is the end of its line
line-end : (name : List ℕ) (r : Rec) → (front : List ℕ) × (line_text name r ≡ front ++ 125 ∷ [])
line-end name r =
    let (ms, is) = is_object r in
    let (front, ends) = members-end false ms in
    (name ++ 32 ∷ 123 ∷ front, rw (is, ends) (simp append_assoc))

-- no carriage return is there to be dropped
bracket-stays : (front : List ℕ) → without_return (front ++ 125 ∷ []) ≡ front ++ 125 ∷ []
bracket-stays front =
    let line = front ++ 125 ∷ [] in
    let size : length line - 1 ≡ length front = omega (arith, length-append front (125 ∷ [])) in
    let last : slice_index line (length line - 1) ≡ 125 = ap (slice_index line) size ∙ get_or-append_seam front 125 [] 0 in
    elim (nat_lt 0 (length line)) as (λ b. cond (b && (slice_index line (length line - 1) == 13)) (take (length line - 1) line) line ≡ line) [
      | true ↦ rw last refl
      | false ↦ refl
    ]

stays : (name : List ℕ) (r : Rec) → without_return (line_text name r) ≡ line_text name r
stays name r = let (front, is) = line-end name r in rw is (bracket-stays front)

-- ---- no newline

name_byte-line : (b : ℕ) → is_name_byte b ≡ true → (b == 10) ≡ false
name_byte-line b h = grind (arith, nat_tests)

bytes-line : (name : List ℕ) → list_all is_name_byte name ≡ true → has_newline name ≡ false
bytes-line [] h = refl
bytes-line (b ∷ name) h = let parts = and_parts (is_name_byte b) (list_all is_name_byte name) h in rw (name_byte-line b parts.0) (bytes-line name parts.1)

pub record-line : (name : List ℕ) (r : Rec) → is_tap_name name ≡ true → has_newline (line_text name r) ≡ false
record-line name r named =
    has_newline-append name (32 ∷ compact_text (record_data r)) (bytes-line name (and_parts (fits max_name name) (list_all is_name_byte name) named).1) (compact-line (record_data r))

-- ---- the lines

-- a tap's name stands in front of each
abbrev AreNamed : List (List ℕ × Rec) → Type 0
AreNamed [] = Unit {0}
AreNamed (r ∷ rs) = (is_tap_name r.0 ≡ true) × AreNamed rs

from-written : (n : ℕ) (recs : List (List ℕ × Rec)) → AreNamed recs → list_any is_long (line_texts recs) ≡ false → lines_from n (line_pieces (ended (line_texts recs))) ≡ record { lines = numbered n (line_texts recs); fault = None }
from-written n [] named short = refl
from-written n (r ∷ rs) named short =
    let line = line_text r.0 r.1 in
    let parts = or_parts (is_long line) (list_any is_long (line_texts rs)) short in
    let rest = from-written (n + 1) rs named.1 parts.1 in
    let cut = ap line_pieces (append_assoc line (10 ∷ []) (ended (line_texts rs))) ∙ pieces_of-line line (ended (line_texts rs)) (record-line r.0 r.1 named.0) in
    let kept = stays r.0 r.1 in
    let fits : is_too_long line ≡ false = rw kept parts.0 in
    rw (cut, fits, kept, rest) refl

-- the lines of a tap, and then others
named-before : (name : List ℕ) (recs : List Rec) (more : List (List ℕ × Rec)) → is_tap_name name ≡ true → AreNamed more → AreNamed (named name recs ++ more)
named-before name [] more is after = after
named-before name (r ∷ recs) more is after = (is, named-before name recs more is after)

-- where each tap has a name of that form
taps-named : (taps : List Tap) → All (λ (t : Tap). is_tap_name t.name ≡ true) taps → AreNamed (recs_of_taps taps)
taps-named [] h = tt
taps-named (t ∷ taps) h = named-before t.name (recs_of t) (recs_of_taps taps) (All-head (λ (x : Tap). is_tap_name x.name ≡ true) t taps h) (taps-named taps (All-tail (λ (x : Tap). is_tap_name x.name ≡ true) t taps h))

-- what is written has the lines that were written, numbered from 1
pub lines-back : (lines : Lines) (taps lent : List Tap) → lent ≡ taps → AreWritten lines (recs_of_taps lent) → All (λ (t : Tap). is_tap_name t.name ≡ true) taps
    → lines_of lines.bytes.items ≡ record { lines = numbered 1 (line_texts (recs_of_taps taps)); fault = None }
lines-back lines taps lent same written names =
    ap lines_of written.bytes ∙ rw same (from-written 1 (recs_of_taps taps) (taps-named taps names) (rw same at written.short))
