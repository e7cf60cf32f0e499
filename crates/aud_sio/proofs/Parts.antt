-- What holds of the parts of a packet that some text spells.
use Rattle.std.proofs.Common.{◌≡◌, ℕ, suc, ◌+◌, ◌^◌, ◌<◌, ◌≤◌, ◌==◌, ◌&&◌, nat_le, not, List, [], ◌∷◌, length, drop, slice_index, Bool, true, false, if◌then◌else◌, Option, Some, None, refl, sym, ap, ◌∙◌, arith, Ok, Err, inl, inr, subst}
use Rattle.std.specs.List.{prefix_len, position_or_len, before_first, take_while}
use Rattle.std.specs.Char.{is_ascii_digit}
use Rattle.std.proofs.lemmas.Bool.{eqb-true, cases_Bool}
use Rattle.std.proofs.lemmas.Bool.Decides.{nat_tests}
use Rattle.std.proofs.lemmas.List.Sums.{take_while-cons}
use Rattle.std.proofs.lemmas.Int.Digits.{digits_value-lt}
use Rattle.std.proofs.lemmas.List.Folds.{length-prefix_len}
use Rattle.std.proofs.Math.Nat.{pow-le-pow_right}
use Rattle.json.specs.Lex.{lex, punctuate}
use Rattle.json.specs.Word.{word, after_number}
use Rattle.json.specs.Json.{value}
use Rattle.serde_json.specs.Read.{read}
use Rattle.aud_sio.specs.declared.fault.SioFault.{SioFault}
use Rattle.aud_sio.specs.declared.fault.SioFault.TheVariants.{Attachments, AckId, Payload}
use Rattle.aud_sio.specs.declared.kind.PacketKind.{PacketKind}
use Rattle.aud_base.specs.Steps.{◌>>=◌, guard}
use Rattle.aud_base.proofs.StepLemmas.{same-ok, part-of, guard-ok}
use Rattle.aud_sio.specs.Kind.{kind_at, is_binary, wants_array}
use Rattle.aud_sio.specs.Digits.{digit_count, leading_number, after_digits}
use Rattle.aud_sio.specs.Attachments.{count_at, attachments_at}
use Rattle.aud_sio.specs.Namespace.{is_comma, main_namespace, leading_namespace}
use Rattle.aud_sio.specs.AckId.{ack_id_at}
use Rattle.aud_sio.specs.Payload.{last_of_payload, payload_at}
use Rattle.aud_sio.specs.Packet.{PacketSeen, packet_of}
use Rattle.aud_sio.specs.Written.{written_payload}
use Rattle.aud_sio.proofs.DigitLemmas.{front-digits}

-- no JSON text begins with a slash
slash-refused : (bs : List ℕ) → read (47 ∷ bs) ≡ None
unfolding lex punctuate word after_number value
slash-refused bs = refl

-- what the elements at the front that pass are, pass
prefix_len-take_while : (p : ℕ → Bool) (l : List ℕ) → prefix_len p (take_while p l) ≡ length (take_while p l)
prefix_len-take_while p [] = refl
prefix_len-take_while p (b ∷ bs) = elim (cases_Bool (p b)) [
  | inl pass ↦ rw (take_while-cons p b bs, pass, pass) (omega (arith, prefix_len-take_while p bs))
  | inr fail ↦ rw (take_while-cons p b bs, fail) refl
]

-- what is left begins with none that passes
prefix_len-drop : (p : ℕ → Bool) (l : List ℕ) → prefix_len p (drop (prefix_len p l) l) ≡ 0
prefix_len-drop p [] = refl
prefix_len-drop p (b ∷ bs) = elim (cases_Bool (p b)) [
  | inl pass ↦ let next : 1 + prefix_len p bs ≡ suc (prefix_len p bs) = omega arith in rw (pass, next) (prefix_len-drop p bs)
  | inr fail ↦ rw (fail, fail) refl
]

-- ---- each part

-- three tests before a value: the last of them held, and the value stands
three_guards : {A : Type 0} (fault : SioFault) (a b c : Bool) (x y : A) → (guard fault a >>= λ _. guard fault b >>= λ _. guard fault c >>= λ _. Ok x) ≡ Ok y → (c ≡ true) × (x ≡ y)
three_guards fault a b c x y is =
    let first = guard-ok fault a (guard fault b >>= λ _. guard fault c >>= λ _. Ok x) y is in
    let second = guard-ok fault b (guard fault c >>= λ _. Ok x) y first.1 in
    let third = guard-ok fault c (Ok x) y second.1 in
    (third.0, same-ok x y third.1)

-- a count that was read is at most 64
count-of : (text : List ℕ) (read : ℕ × List ℕ) → count_at text ≡ Ok read → read.0 ≤ 64
unfolding count_at
count-of text read is =
    let found = three_guards Attachments (nat_le 1 (digit_count text) && nat_le (digit_count text) 2) (slice_index (after_digits text) 0 == 45) (nat_le (leading_number text) 64)
    (leading_number text, drop 1 (after_digits text)) read is in
    let few : leading_number text ≤ 64 = grind (arith, nat_tests, found.0) in
    let same : leading_number text ≡ read.0 = ap (λ r. r.0) found.1 in
    omega (arith, few, same)

-- a count of attachments that was read is at most 64, and 0 where the kind takes none
pub attachments-of : (kind : PacketKind) (text : List ℕ) (read : ℕ × List ℕ) → attachments_at kind text ≡ Ok read → (read.0 ≤ 64) × (is_binary kind ≡ false → read.0 ≡ 0)
unfolding attachments_at
attachments-of kind text read is = elim (cases_Bool (is_binary kind)) [
  | inl binary ↦ (count-of text read (rw binary at is), λ other. let both : true ≡ false = sym binary ∙ other in (cc))
  | inr other ↦ let same : 0 ≡ read.0 = ap (λ r. r.0) (same-ok (0, text) read (rw other at is)) in (omega arith, λ _. sym same)
]

slash-first : (text : List ℕ) → slice_index text 0 ≡ 47 → slice_index (before_first is_comma text) 0 ≡ 47
slash-first [] slash = absurd (omega (arith, slash))
slash-first (b ∷ bs) slash =
    let other : is_comma b ≡ false = grind (arith, nat_tests, slash) in
    rw (take_while-cons (λ x. not (is_comma x)) b bs, other) slash

-- a namespace that was read begins with a slash and has no comma
pub namespace-of : (text : List ℕ) (read : List ℕ × List ℕ) → leading_namespace text ≡ read → (slice_index read.0 0 ≡ 47) × (position_or_len is_comma read.0 ≡ length read.0)
unfolding leading_namespace
namespace-of text read is = elim (cases_Bool (slice_index text 0 == 47)) [
  | inl slash ↦
      let named : before_first is_comma text ≡ read.0 = ap (λ r. r.0) (rw slash at is) in
      subst (λ nsp. (slice_index nsp 0 ≡ 47) × (position_or_len is_comma nsp ≡ length nsp)) named (slash-first text (eqb-true _ _ slash), prefix_len-take_while _ text)
  | inr none ↦
      let main : main_namespace ≡ read.0 = ap (λ r. r.0) (rw none at is) in
      subst (λ nsp. (slice_index nsp 0 ≡ 47) × (position_or_len is_comma nsp ≡ length nsp)) main (refl, refl)
]

-- one test before a value
one_guard : {A : Type 0} (fault : SioFault) (a : Bool) (x y : A) → (guard fault a >>= λ _. Ok x) ≡ Ok y → (a ≡ true) × (x ≡ y)
one_guard fault a x y is = let held = guard-ok fault a (Ok x) y is in (held.0, same-ok x y held.1)

-- up to 18 digits write less than a one and 18 zeros
number-small : (text : List ℕ) → digit_count text ≤ 18 → leading_number text < 10 ^ 18
number-small text few =
    let small = digits_value-lt 10 (take_while is_ascii_digit text) (front-digits text) in
    let count : length (take_while is_ascii_digit text) ≡ digit_count text = length-prefix_len is_ascii_digit text in
    let short : length (take_while is_ascii_digit text) ≤ 18 = omega arith in
    let bound : 10 ^ length (take_while is_ascii_digit text) ≤ 10 ^ 18 = pow-le-pow_right (omega arith) short in
    omega (arith, small, bound)

id-cases : (b : Bool) (m n : ℕ) → (if b then None else Some m) ≡ Some n → m ≡ n
id-cases true m n is = (cc)
id-cases false m n is = (cc)

-- an id that was read has at most 18 digits, and none follows it
pub id-of : (text : List ℕ) (read : Option ℕ × List ℕ) → ack_id_at text ≡ Ok read → ((n : ℕ) → read.0 ≡ Some n → n < 10 ^ 18) × (digit_count read.1 ≡ 0)
unfolding ack_id_at
id-of text read is =
    let found = one_guard AckId (nat_le (digit_count text) 18) (if digit_count text == 0 then None else Some (leading_number text), after_digits text) read is in
    let few : digit_count text ≤ 18 = grind (arith, nat_tests, found.0) in
    let rest : after_digits text ≡ read.1 = ap (λ r. r.1) found.1 in
    (λ n id. let same = id-cases _ _ n (ap (λ r. r.0) found.1 ∙ id) in omega (arith, same, number-small text few), rw (← rest) (prefix_len-drop is_ascii_digit text))

-- the payload that was read is all of the text
payload-text : (kind : PacketKind) (text : List ℕ) (read : Option (List ℕ) × Option (List ℕ)) → payload_at kind text ≡ Ok read → written_payload read.0 ≡ text
unfolding payload_at
payload-text kind [] read is = elim (cases_Bool (wants_array kind)) [
  | inl wants ↦ let bad : Err Payload ≡ Ok read = rw wants at is in (cc)
  | inr free ↦ let same = same-ok (None, None) read (rw free at is) in ap (λ r. written_payload r.0) (sym same)
]
payload-text kind (b ∷ bs) read is =
    let last = part-of (last_of_payload kind (b ∷ bs)) (λ last. Ok (Some (b ∷ bs), last)) read is in
    ap (λ r. written_payload r.0) (sym (same-ok (Some (b ∷ bs), last.0) read last.2))

-- and begins with no slash
payload-no_slash : (kind : PacketKind) (text : List ℕ) (read : Option (List ℕ) × Option (List ℕ)) → payload_at kind text ≡ Ok read → (slice_index text 0 == 47) ≡ false
unfolding payload_at last_of_payload
payload-no_slash kind [] read is = refl
payload-no_slash kind (b ∷ bs) read is = elim (cases_Bool (b == 47)) [
  | inl slash ↦
      let bad : payload_at kind (47 ∷ bs) ≡ Ok read = subst (λ x. payload_at kind (x ∷ bs) ≡ Ok read) (eqb-true b 47 slash) is in
      let refused : payload_at kind (47 ∷ bs) ≡ Err Payload = rw (slash-refused bs) refl in
      (cc)
  | inr other ↦ other
]

-- ---- all parts

-- what holds of the parts of a packet that some text spells
pub record HasParts (p : PacketSeen) : Type 0 where
  pub few : p.attachments ≤ 64
  pub none : is_binary p.kind ≡ false → p.attachments ≡ 0
  pub slash : slice_index p.nsp 0 ≡ 47
  pub no_comma : position_or_len is_comma p.nsp ≡ length p.nsp
  pub small : (n : ℕ) → p.id ≡ Some n → n < 10 ^ 18
  pub no_digit : digit_count (written_payload p.payload) ≡ 0
  pub no_slash : (slice_index (written_payload p.payload) 0 == 47) ≡ false
  pub payload : payload_at p.kind (written_payload p.payload) ≡ Ok (p.payload, p.last)

-- a packet that was read has the parts of its text, each in its form
pub parts-of : (text : List ℕ) (p : PacketSeen) → packet_of text ≡ Ok p → HasParts p
unfolding packet_of
parts-of text p is =
    let kind = part-of (kind_at text) _ p is in
    let count = part-of (attachments_at kind.0.0 kind.0.1) _ p kind.2 in
    let id = part-of (ack_id_at (leading_namespace count.0.1).1) _ p count.2 in
    let end = part-of (payload_at kind.0.0 id.0.1) _ p id.2 in
    let attachments = attachments-of kind.0.0 kind.0.1 count.0 count.1 in
    let nsp = namespace-of count.0.1 (leading_namespace count.0.1) refl in
    let number = id-of (leading_namespace count.0.1).1 id.0 id.1 in
    let left = sym (payload-text kind.0.0 id.0.1 end.0 end.1) in
    subst HasParts (same-ok _ p end.2) (record {
      few = attachments.0;
      none = attachments.1;
      slash = nsp.0;
      no_comma = nsp.1;
      small = number.0;
      no_digit = subst (λ l. digit_count l ≡ 0) left number.1;
      no_slash = subst (λ l. (slice_index l 0 == 47) ≡ false) left (payload-no_slash kind.0.0 id.0.1 end.0 end.1);
      payload = subst (λ l. payload_at kind.0.0 l ≡ Ok end.0) left end.1;
    })
