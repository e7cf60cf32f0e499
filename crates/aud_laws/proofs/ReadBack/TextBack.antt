-- The text of a sound certificate reads as that certificate, where no log has too many records for numbers of 64 bits.
use Rattle.std.proofs.Common.{◌≡◌, ◌<◌, ◌≤◌, ◌^◌, ◌&&◌, ℕ, true, List, [], ◌∷◌, length, Option, Some, option_and_then, Ok, nat_lt, nat_le, refl, sym, ap, ◌∙◌, arith, append-nil, leb-true, ltb-true}
use Rattle.std.specs.List.{list_all}
use Rattle.std.specs.Str.{IsUtf8}
use Rattle.std.proofs.lemmas.Bool.{and_parts}
use Rattle.json.specs.Token.{Token}
use Rattle.json.specs.Lex.{tokens}
use Rattle.json.specs.Json as json
use Rattle.json.specs.Tree.{json_tokens, HasNumbers, ItemsHaveNumbers}
use Rattle.json.specs.Tree as tree
use Rattle.json.proofs.Printed.Tokens.{tokens-print}
use Rattle.json.proofs.Printed.Trees.{value-json_tokens, ArePrintable-json_tokens}
use Rattle.json.proofs.Printed.Decimals.{IsNumber-decimal}
use Rattle.serde_json.specs.Data.{Data}
use Rattle.serde_json.specs.Read.{read, max_depth, of_json, of_items}
use Rattle.serde_json.specs.Written.{outline, items_outline, compact_text}
use Rattle.serde_json.proofs.Texts.{print-outline}
use Rattle.serde_json.proofs.Numbers.{number_of-decimal}
use Rattle.aud_tap.proofs.Json.{json_or-read}
use Rattle.aud_node.specs.Cluster.{Cluster, node_log}
use Rattle.aud_rooms.specs.Spans.{RoomSpan}
use Rattle.aud_cert.specs.Certificate.{TurnSeen, CertificateSeen, log_named, place_named}
use Rattle.aud_cert.specs.declared.text_fault.CertFault.TheVariants.{Syntax}
use Rattle.aud_cert.specs.Text.{items, span_data, turn_data, certificate_data, certificate_text}
use Rattle.aud_cert.specs.Reading.{is_turn_within, is_span_within, certificate_of}
use Rattle.aud_cert.specs.Sound.{IsSound}
use Rattle.aud_cert.proofs.Back.{certificate-back}

-- the data of the JSON that all tokens are
abbrev of_whole : Option (json.Json × List Token) → Option Data
of_whole o = option_and_then of_json (option_and_then (λ p. json.if_last p.0 p.1) o)

-- JSON reads back from its text, where its numbers are numbers and it is not too deep
text-read : (d : Data) → HasNumbers (outline d) → tree.depth (outline d) ≤ max_depth → of_json (outline d) ≡ Some d → read (compact_text d) ≡ Some d
text-read d numbers shallow same =
    let j = outline d in
    let lexed : tokens (compact_text d) ≡ json_tokens j = ap tokens (sym (print-outline d)) ∙ tokens-print (json_tokens j) (ArePrintable-json_tokens j numbers) in
    ap of_whole (ap (json.value max_depth) (lexed ∙ sym (append-nil (json_tokens j))) ∙ value-json_tokens j max_depth [] shallow) ∙ same

-- ---- depths

spans-depth : (spans : List RoomSpan) → tree.items_depth (items_outline (items span_data spans)) ≤ 1
spans-depth [] = omega arith
spans-depth (s ∷ spans) = let rest = spans-depth spans in omega arith

turns-depth : (turns : List TurnSeen) → tree.items_depth (items_outline (items turn_data turns)) ≤ 1
turns-depth [] = omega arith
turns-depth (t ∷ turns) = let rest = turns-depth turns in omega arith

certificate-depth : (cert : CertificateSeen) → tree.depth (outline (certificate_data cert)) ≤ 127
certificate-depth cert = let spans = spans-depth cert.spans in let turns = turns-depth cert.turns in omega arith

-- ---- numbers

-- a number of 64 bits
abbrev IsSmall : ℕ → Type 0
IsSmall n = n < 2 ^ 64

-- the numbers of a span, and of a turn, are
abbrev IsSmallSpan : RoomSpan → Type 0
IsSmallSpan s = IsSmall s.first × IsSmall s.last

abbrev IsSmallTurn : TurnSeen → Type 0
IsSmallTurn t = IsSmall t.from × IsSmall t.to × IsSmall t.low × IsSmall t.high

span-numbers : (s : RoomSpan) → IsSmallSpan s → HasNumbers (outline (span_data s))
span-numbers s small = (tt, (IsNumber-decimal s.first small.0, (IsNumber-decimal s.last small.1, tt)))

turn-numbers : (t : TurnSeen) → IsSmallTurn t → HasNumbers (outline (turn_data t))
turn-numbers t small =
    (tt, (IsNumber-decimal t.from small.0, (IsNumber-decimal t.to small.1, (IsNumber-decimal t.low small.2, (IsNumber-decimal t.high small.3, tt)))))

span-same : (s : RoomSpan) → IsSmallSpan s → of_json (outline (span_data s)) ≡ Some (span_data s)
span-same s small = rw (number_of-decimal s.first small.0, number_of-decimal s.last small.1) refl

turn-same : (t : TurnSeen) → IsSmallTurn t → of_json (outline (turn_data t)) ≡ Some (turn_data t)
turn-same t small =
    rw (number_of-decimal t.from small.0, number_of-decimal t.to small.1, number_of-decimal t.low small.2, number_of-decimal t.high small.3) refl

-- ---- a sound certificate

module _ (c : Cluster) (few : IsSmall (length c.stream)) (short : (place : ℕ) → IsSmall (length (node_log c place))) where
  span-small : (s : RoomSpan) → is_span_within c s ≡ true → IsSmallSpan s
  span-small s h =
      let (front, last) = and_parts (nat_le 1 s.first && nat_le s.first s.last) (nat_le s.last (length c.stream)) h in
      let (some, first) = and_parts (nat_le 1 s.first) (nat_le s.first s.last) front in
      let up : s.first ≤ s.last = leb-true s.first s.last first in
      let end : s.last ≤ length c.stream = leb-true s.last (length c.stream) last in
      (omega arith, omega arith)

  turn-small : (t : TurnSeen) → is_turn_within c t ≡ true → IsSmallTurn t
  turn-small t h =
      let log = length (log_named c t.node) in
      let (three, high) = and_parts (nat_lt t.from t.to && nat_le t.to log && nat_le t.low t.high) (nat_le t.high (length c.stream)) h in
      let (two, low) = and_parts (nat_lt t.from t.to && nat_le t.to log) (nat_le t.low t.high) three in
      let (from, to) = and_parts (nat_lt t.from t.to) (nat_le t.to log) two in
      let some : t.from < t.to = ltb-true t.from t.to from in
      let within : t.to ≤ log = leb-true t.to log to in
      let up : t.low ≤ t.high = leb-true t.low t.high low in
      let end : t.high ≤ length c.stream = leb-true t.high (length c.stream) high in
      let short_log : log < 2 ^ 64 = short (place_named c t.node) in
      (omega arith, omega arith, omega arith, omega arith)

  spans-read : (spans : List RoomSpan) → list_all (is_span_within c) spans ≡ true
      → ItemsHaveNumbers (items_outline (items span_data spans)) × (of_items (items_outline (items span_data spans)) ≡ Some (items span_data spans))
  spans-read [] h = (tt, refl)
  spans-read (s ∷ spans) h =
      let (here, later) = and_parts (is_span_within c s) (list_all (is_span_within c) spans) h in
      let small = span-small s here in
      let (numbers, same) = spans-read spans later in
      ((span-numbers s small, numbers), rw (span-same s small, same) refl)

  turns-read : (turns : List TurnSeen) → list_all (is_turn_within c) turns ≡ true
      → ItemsHaveNumbers (items_outline (items turn_data turns)) × (of_items (items_outline (items turn_data turns)) ≡ Some (items turn_data turns))
  turns-read [] h = (tt, refl)
  turns-read (t ∷ turns) h =
      let (here, later) = and_parts (is_turn_within c t) (list_all (is_turn_within c) turns) h in
      let small = turn-small t here in
      let (numbers, same) = turns-read turns later in
      ((turn-numbers t small, numbers), rw (turn-same t small, same) refl)

  module _ (cert : CertificateSeen) (sound : IsSound c cert) where
    -- its JSON reads back
    data-read : read (certificate_text cert) ≡ Some (certificate_data cert)
    data-read =
        let (turns, spans) = and_parts (list_all (is_turn_within c) cert.turns) (list_all (is_span_within c) cert.spans) sound.within in
        let (span_numbers, span_items) = spans-read cert.spans spans in
        let (turn_numbers, turn_items) = turns-read cert.turns turns in
        text-read (certificate_data cert) (tt, (tt, (span_numbers, (turn_numbers, tt)))) (certificate-depth cert) (rw (span_items, turn_items) refl)

    -- its text reads as it, if the text is UTF-8
    pub text-back : IsUtf8 (certificate_text cert) → certificate_of c (certificate_text cert) ≡ Ok cert
    text-back utf8 = certificate-back (certificate_text cert) cert (json_or-read Syntax (certificate_text cert) (certificate_data cert) (utf8, data-read)) c sound
