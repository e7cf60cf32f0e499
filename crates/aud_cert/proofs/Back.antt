-- What is written for a certificate reads as that certificate.
use Rattle.std.proofs.Common.{◌≡◌, ◌≤◌, true, false, List, [], ◌∷◌, map, Ok, refl, arith}
use Rattle.std.specs.List.{All, list_all}
use Rattle.std.proofs.lemmas.Bool.{and_parts}
use Rattle.std.proofs.lemmas.List.Elements.{All-head, All-tail}
use Rattle.serde_json.specs.Data.{depth, items_depth}
use Rattle.serde_json.specs.Written.{has_float, items_have_float}
use Rattle.aud_node.specs.Stream.{Text}
use Rattle.aud_node.specs.Cluster.{Cluster}
use Rattle.aud_rooms.specs.Spans.{RoomSpan}
use Rattle.aud_cert.specs.Certificate.{TurnSeen, CertificateSeen, IsTurnOver, IsOver}
use Rattle.aud_cert.specs.Steps.{each}
use Rattle.aud_cert.specs.Parsed.{parsed_span, parsed_turn, each_item, parsed_certificate}
use Rattle.aud_cert.specs.Text.{items, span_data, turn_data, certificate_data}
use Rattle.aud_cert.specs.Reading.{certificate_json, is_node, is_client, turn_over, certificate_over, certificate_of}
use Rattle.aud_cert.specs.Sound.{turn_without_records, without_records, names_taps, IsSound}

-- ---- the JSON is shallow and has no float

-- the JSON of spans is nested no deeper than one
spans-depth : (spans : List RoomSpan) → items_depth (items span_data spans) ≤ 1
spans-depth [] = omega arith
spans-depth (s ∷ spans) = let rest = spans-depth spans in omega arith

-- the JSON of turns is nested no deeper than one
turns-depth : (turns : List TurnSeen) → items_depth (items turn_data turns) ≤ 1
turns-depth [] = omega arith
turns-depth (t ∷ turns) = let rest = turns-depth turns in omega arith

-- no certificate's JSON is nested too deep to be read back
pub certificate-depth : (cert : CertificateSeen) → depth (certificate_data cert) ≤ 127
certificate-depth cert = let spans = spans-depth cert.spans in let turns = turns-depth cert.turns in omega arith

-- the JSON of spans has no float
spans-float : (spans : List RoomSpan) → items_have_float (items span_data spans) ≡ false
spans-float [] = refl
spans-float (s ∷ spans) = spans-float spans

-- the JSON of turns has no float
turns-float : (turns : List TurnSeen) → items_have_float (items turn_data turns) ≡ false
turns-float [] = refl
turns-float (t ∷ turns) = turns-float turns

-- no certificate's JSON has a float, so its numbers read back as they are
pub certificate-float : (cert : CertificateSeen) → has_float (certificate_data cert) ≡ false
certificate-float cert = rw (spans-float cert.spans, turns-float cert.turns) refl

-- ---- what the text tells

-- a span that was written parses as that span
span-back : (s : RoomSpan) → parsed_span (span_data s) ≡ Ok s
unfolding parsed_span
span-back s = refl

-- a turn that was written parses as that turn, without its records
turn-back : (t : TurnSeen) → parsed_turn (turn_data t) ≡ Ok (turn_without_records t)
unfolding parsed_turn
turn-back t = refl

-- spans that were written parse as those spans
spans-back : (spans : List RoomSpan) → each_item parsed_span (items span_data spans) ≡ Ok spans
spans-back [] = refl
spans-back (s ∷ spans) = rw (span-back s, spans-back spans) refl

-- turns that were written parse as those turns, without their records
turns-back : (turns : List TurnSeen) → each_item parsed_turn (items turn_data turns) ≡ Ok (map turn_without_records turns)
turns-back [] = refl
turns-back (t ∷ turns) = rw (turn-back t, turns-back turns) refl

-- a certificate that was written parses as that certificate, without its records
parsed-back : (cert : CertificateSeen) → parsed_certificate (certificate_data cert) ≡ Ok (without_records cert)
unfolding parsed_certificate
parsed-back cert = rw (spans-back cert.spans, turns-back cert.turns) refl

-- ---- what is looked up

-- a turn over the logs gets its records back from them
lent-back : (c : Cluster) (t : TurnSeen) → is_node c t.node ≡ true → IsTurnOver c t → turn_over c (turn_without_records t) ≡ Ok t
unfolding turn_over
lent-back c t known is = rw (known, ← is) refl

-- all turns over the logs get their records back from them
all-lent-back : (c : Cluster) (turns : List TurnSeen) → list_all (λ (t : TurnSeen). is_node c t.node) turns ≡ true → All (IsTurnOver c) turns → each (turn_over c) (map turn_without_records turns) ≡ Ok turns
all-lent-back c [] known are = refl
all-lent-back c (t ∷ turns) known are =
    let parts = and_parts (is_node c t.node) (list_all (λ (u : TurnSeen). is_node c u.node) turns) known in
    rw (lent-back c t parts.0 (All-head (IsTurnOver c) t turns are), all-lent-back c turns parts.1 (All-tail (IsTurnOver c) t turns are)) refl

-- a certificate over the logs gets its records back from them
over-back : (c : Cluster) (cert : CertificateSeen) → names_taps c cert ≡ true → IsOver c cert → certificate_over c (without_records cert) ≡ Ok cert
unfolding certificate_over
over-back c cert known are =
    let parts = and_parts (is_client c cert.client) (list_all (λ (t : TurnSeen). is_node c t.node) cert.turns) known in
    rw (parts.0, all-lent-back c cert.turns parts.1 are) refl

-- what is written for a sound certificate reads as that certificate
pub certificate-back : (text : Text) (cert : CertificateSeen) → certificate_json text ≡ Ok (certificate_data cert) → (c : Cluster) → IsSound c cert → certificate_of c text ≡ Ok cert
unfolding certificate_of
certificate-back text cert json c sound = rw (json, parsed-back cert, sound.formed, over-back c cert sound.taps sound.over, sound.within) refl
