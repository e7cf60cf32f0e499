-- The text written of a packet that some text spells is a text of that packet.
use Rattle.std.proofs.Common.{◌≡◌, ℕ, ◌+◌, ◌^◌, ◌<◌, ◌≤◌, ◌==◌, nat_le, List, [], ◌∷◌, ◌++◌, length, slice_index, Bool, true, false, cond, Option, Some, None, refl, ap, ◌∙◌, arith, append_assoc, Result, Ok, inl, inr}
use Rattle.std.specs.List.{position_or_len}
use Rattle.std.specs.Char.{is_ascii_digit}
use Rattle.std.specs.Str.{all_ascii_digits, bytes_eq}
use Rattle.std.specs.Str.Parse.{digits_value}
use Rattle.std.specs.Fmt.{decimal}
use Rattle.std.proofs.lemmas.Bool.{cases_Bool}
use Rattle.std.proofs.lemmas.Bool.Decides.{nat_tests}
use Rattle.std.proofs.lemmas.Fmt.{digits_decimal, digits_value-decimal, decimal_nonempty, length-decimal-le}
use Rattle.std.proofs.lemmas.Str.Parse.{IsNumeralModel, numerals_by_value, tells_all_ascii_digits}
use Rattle.std.proofs.lemmas.List.Folds.{prefix_len-append}
use Rattle.std.proofs.Math.Seq.{take-append_seam, drop-append_seam, drop-append-add}
use Rattle.std.proofs.lemmas.Slice.Eq.{bytes_eq-Decides}
use Rattle.aud_sio.proofs.Parts.{HasParts, parts-of}
use Rattle.aud_sio.specs.declared.fault.SioFault.{SioFault}
use Rattle.aud_sio.specs.declared.kind.PacketKind.{PacketKind}
use Rattle.aud_sio.specs.declared.kind.PacketKind.TheVariants.{Connect, Disconnect, Event, Ack, ConnectError, BinaryEvent, BinaryAck}
use Rattle.aud_base.specs.Steps.{◌>>=◌}
use Rattle.aud_sio.specs.Kind.{kind_at, is_binary, type_digit}
use Rattle.aud_sio.specs.Digits.{digit_count}
use Rattle.aud_sio.specs.Attachments.{count_at, attachments_at}
use Rattle.aud_sio.specs.Namespace.{is_comma, main_namespace, leading_namespace}
use Rattle.aud_sio.specs.AckId.{ack_id_at}
use Rattle.aud_sio.specs.Packet.{PacketSeen, packet_of, IsSpelled}
use Rattle.aud_sio.specs.Written.{written_count, written_namespace, written_id, written_payload, packet_text}

-- ---- digits before other bytes

-- digits before what begins with none are counted
digits-before : (ds rest : List ℕ) → all_ascii_digits ds ≡ true → digit_count rest ≡ 0 → digit_count (ds ++ rest) ≡ length ds
digits-before [] rest digits none = none
digits-before (d ∷ ds) rest digits none = elim (cases_Bool (is_ascii_digit d)) [
  | inl digit ↦ rw digit (omega (arith, digits-before ds rest (rw digit at digits) none))
  | inr other ↦ let bad : false ≡ true = rw other at digits in (cc)
]

le-true : (a b : ℕ) → a ≤ b → nat_le a b ≡ true
le-true a b le = grind (arith, nat_tests)

some-true : (a : ℕ) → 0 < a → (a == 0) ≡ false
some-true a some = grind (arith, nat_tests)

-- std's lemmas on `decimal`, in this crate's words
numerals : IsNumeralModel (λ ds. all_ascii_digits ds ≡ true) (digits_value 10)
numerals = numerals_by_value _ tells_all_ascii_digits

-- ---- each part, written before what follows it

-- few digits are read as an id
id-of-digits : (ds rest : List ℕ) → 0 < length ds → length ds ≤ 18 → digit_count (ds ++ rest) ≡ length ds → ack_id_at (ds ++ rest) ≡ Ok (Some (digits_value 10 ds), rest)
unfolding ack_id_at
id-of-digits ds rest some few count = rw (count, le-true _ _ few, some-true _ some, take-append_seam ds rest, drop-append_seam ds rest) refl

-- what is written of an id is read as it
id-read : (id : Option ℕ) (rest : List ℕ) → ((n : ℕ) → id ≡ Some n → n < 10 ^ 18) → digit_count rest ≡ 0 → ack_id_at (written_id id ++ rest) ≡ Ok (id, rest)
unfolding ack_id_at
id-read None rest small none = rw none refl
id-read (Some n) rest small none =
    let within : n < 10 ^ 18 = small n refl in
    let fits : n < 2 ^ 64 = omega (arith, within) in
    let count = digits-before (decimal n) rest (digits_decimal numerals n fits) none in
    rw (id-of-digits (decimal n) rest (decimal_nonempty n fits) (length-decimal-le 18 n (omega arith) within fits) count, digits_value-decimal numerals n fits) refl

-- one or two digits and a dash are read as a count
count-of-digits : (ds rest : List ℕ) → 0 < length ds → length ds ≤ 2 → digits_value 10 ds ≤ 64 → all_ascii_digits ds ≡ true → count_at (ds ++ 45 ∷ rest) ≡ Ok (digits_value 10 ds, rest)
unfolding count_at
count-of-digits ds rest some short few digits =
    let count : digit_count (ds ++ 45 ∷ rest) ≡ length ds = digits-before ds (45 ∷ rest) digits refl in
    rw (count, le-true _ _ some, le-true _ _ short, drop-append_seam ds (45 ∷ rest), take-append_seam ds (45 ∷ rest), le-true _ _ few) refl

-- what is written of a count is read as it
count-read : (kind : PacketKind) (n : ℕ) (rest : List ℕ) → n ≤ 64 → (is_binary kind ≡ false → n ≡ 0) → attachments_at kind (written_count kind n ++ rest) ≡ Ok (n, rest)
unfolding attachments_at
count-read kind n rest few none = elim (cases_Bool (is_binary kind)) [
  | inl binary ↦
      let fits : n < 2 ^ 64 = omega (arith, few) in
      let short : length (decimal n) ≤ 2 = length-decimal-le 2 n (omega arith) (omega (arith, few)) fits in
      let value : digits_value 10 (decimal n) ≡ n = digits_value-decimal numerals n fits in
      rw (binary, append_assoc) (count-of-digits (decimal n) rest (decimal_nonempty n fits) short (rw value few) (digits_decimal numerals n fits) ∙ rw value refl)
  | inr other ↦ rw (other, none other) refl
]

starts_same : (nsp rest : List ℕ) → slice_index nsp 0 ≡ 47 → slice_index (nsp ++ rest) 0 ≡ 47
starts_same [] rest slash = absurd (omega (arith, slash))
starts_same (b ∷ bs) rest slash = slash

either : (b : Bool) (n : ℕ) → cond b (n + 0) n ≡ n
either true n = omega arith
either false n = refl

-- the first comma is the one after a namespace
comma-after : (nsp rest : List ℕ) → position_or_len is_comma nsp ≡ length nsp → position_or_len is_comma (nsp ++ 44 ∷ rest) ≡ length nsp
comma-after nsp rest whole = rw (prefix_len-append, whole) (either _ (length nsp))

-- a namespace with a comma after it is read back whole
namespace-before : (nsp rest : List ℕ) → slice_index nsp 0 ≡ 47 → position_or_len is_comma nsp ≡ length nsp → leading_namespace (nsp ++ 44 ∷ rest) ≡ (nsp, rest)
unfolding leading_namespace
namespace-before nsp rest slash whole =
    rw (starts_same nsp (44 ∷ rest) slash, comma-after nsp rest whole, take-append_seam nsp (44 ∷ rest), drop-append-add nsp (44 ∷ rest) 1) refl

-- what is written of a namespace is read as it
namespace-read : (nsp rest : List ℕ) → slice_index nsp 0 ≡ 47 → position_or_len is_comma nsp ≡ length nsp → (slice_index rest 0 == 47) ≡ false → leading_namespace (written_namespace nsp ++ rest) ≡ (nsp, rest)
unfolding leading_namespace
namespace-read nsp rest slash whole none = elim (cases_Bool (bytes_eq nsp main_namespace)) [
  | inl main ↦ rw ((bytes_eq-Decides nsp main_namespace).0 main, none) refl
  | inr other ↦ rw (other, append_assoc) (namespace-before nsp rest slash whole)
]

-- a kind's digit is read as the kind
kind-read : (kind : PacketKind) (rest : List ℕ) → kind_at (type_digit kind ∷ rest) ≡ Ok (kind, rest)
unfolding kind_at
kind-read Connect rest = refl
kind-read Disconnect rest = refl
kind-read Event rest = refl
kind-read Ack rest = refl
kind-read ConnectError rest = refl
kind-read BinaryEvent rest = refl
kind-read BinaryAck rest = refl

-- ---- the whole text

no_slash-digits : (ds rest : List ℕ) → all_ascii_digits ds ≡ true → (slice_index rest 0 == 47) ≡ false → (slice_index (ds ++ rest) 0 == 47) ≡ false
no_slash-digits [] rest digits none = none
no_slash-digits (d ∷ ds) rest digits none = grind (arith, nat_tests)

-- no id begins with a slash
no_slash-id : (id : Option ℕ) (rest : List ℕ) → ((n : ℕ) → id ≡ Some n → n < 10 ^ 18) → (slice_index rest 0 == 47) ≡ false → (slice_index (written_id id ++ rest) 0 == 47) ≡ false
no_slash-id None rest small none = none
no_slash-id (Some n) rest small none = no_slash-digits (decimal n) rest (digits_decimal numerals n (omega (arith, small n refl))) none

-- a part that is read, and then what follows it
reads_then : {A B : Type 0} (r : Result A SioFault) (x : A) (f : A → Result B SioFault) (y : Result B SioFault) → r ≡ Ok x → f x ≡ y → (r >>= f) ≡ y
reads_then r x f y part more = ap (λ q. q >>= f) part ∙ more

-- the text, part by part from its end
nested : (p : PacketSeen) → packet_text p ≡ type_digit p.kind ∷ (written_count p.kind p.attachments ++ (written_namespace p.nsp ++ (written_id p.id ++ written_payload p.payload)))
unfolding packet_text
nested p = simp append_assoc

nested-reads : (p : PacketSeen) → HasParts p
    → packet_of (type_digit p.kind ∷ (written_count p.kind p.attachments ++ (written_namespace p.nsp ++ (written_id p.id ++ written_payload p.payload)))) ≡ Ok p
unfolding packet_of
nested-reads p parts =
    let slash = no_slash-id p.id (written_payload p.payload) parts.small parts.no_slash in
    let count = count-read p.kind p.attachments (written_namespace p.nsp ++ (written_id p.id ++ written_payload p.payload)) parts.few parts.none in
    let nsp = namespace-read p.nsp (written_id p.id ++ written_payload p.payload) parts.slash parts.no_comma slash in
    let id = ap (λ read. ack_id_at read.1) nsp ∙ id-read p.id (written_payload p.payload) parts.small parts.no_digit in
    let whole = ap (λ (read : List ℕ × List ℕ). ok (record p { nsp = read.0 })) nsp in
    reads_then (kind_at _) _ _ _ (kind-read p.kind _)
    (reads_then _ _ _ _ count (reads_then _ _ _ _ id (reads_then _ _ _ _ parts.payload whole)))
  where
    ok : PacketSeen → Result PacketSeen SioFault
    ok q = Ok q

pub written-reads : (p : PacketSeen) → HasParts p → packet_of (packet_text p) ≡ Ok p
written-reads p parts = ap packet_of (nested p) ∙ nested-reads p parts

-- what is written of a packet that some text spells is a text of it
pub spelled_reads_back : (p : PacketSeen) → IsSpelled p → packet_of (packet_text p) ≡ Ok p
spelled_reads_back p spelled = written-reads p (parts-of spelled.text p spelled.reads)
