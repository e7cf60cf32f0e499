-- Certificates that were read over the logs.
use Rattle.std.proofs.Common.{◌≡◌, ◌<◌, ◌&&◌, true, List, [], ◌∷◌, length, map, Result, Ok, Err, refl, sym, ap, subst, ◌∙◌, arith, true≢false}
use Rattle.std.specs.List.{All, list_all}
use Rattle.std.specs.Result.{IfOk}
use Rattle.std.proofs.lemmas.Bool.{and_parts}
use Rattle.std.proofs.lemmas.List.Elements.{All-cons}
use Rattle.serde_json.specs.Data.{Data}
use Rattle.aud_base.proofs.StepLemmas.{same-ok, part-of, guard-ok}
use Rattle.aud_node.specs.Cluster.{Cluster}
use Rattle.aud_cert.specs.declared.text_fault.CertFault.{CertFault}
use Rattle.aud_cert.specs.declared.text_fault.CertFault.TheVariants.{Syntax, UnknownTap, Range}
use Rattle.aud_cert.specs.Steps.{◌>>=◌, guard, each, Gives}
use Rattle.aud_cert.specs.Parsed.{ParsedTurn, ParsedCertificate, parsed_certificate}
use Rattle.aud_cert.specs.Certificate.{TurnSeen, CertificateSeen, IsTurnOver, IsOver, recs_named}
use Rattle.aud_cert.specs.Reading.{has_turns, is_formed, is_node, is_client, is_certificate_within, turn_over, certificate_over, certificate_in}
use Rattle.aud_cert.specs.Sound.{turn_without_records, without_records, names_taps, IsSound}

-- what holds of a value that the reading gives
pub if-read : {X : Type 0} (r : Result X CertFault) (reading : Result X CertFault) (P : X → Type 0) → ((x : X) → reading ≡ Ok x → P x) → Gives (λ x. x) r reading → IfOk r P
if-read (Ok x) reading P holds gives = holds x gives
if-read (Err e) reading P holds gives = tt

-- ---- turns

-- the turn with the records that it names
abbrev over : Cluster → ParsedTurn → TurnSeen
over c t = record { node = t.node; from = t.from; to = t.to; low = t.low; high = t.high; recs = recs_named c t.node t.from t.to }

-- its records are those that it names, the rest is what was told, and its node is a node's
turn-read : (c : Cluster) (parsed : ParsedTurn) (t : TurnSeen) → turn_over c parsed ≡ Ok t → IsTurnOver c t × (turn_without_records t ≡ parsed) × (is_node c t.node ≡ true)
unfolding turn_over
turn-read c parsed t h =
    let (known, is) = guard-ok UnknownTap (is_node c parsed.node) (Ok (over c parsed)) t h in
    rw (← same-ok (over c parsed) t is) (refl, refl, known)

-- what each step gave
split : {B : Type 0} (first : Result B CertFault) (rest : Result (List B) CertFault) (ys : List B) → (first >>= (λ y. rest >>= (λ zs. Ok (y ∷ zs)))) ≡ Ok ys
    → (y : B) × (zs : List B) × (first ≡ Ok y) × (rest ≡ Ok zs) × (ys ≡ y ∷ zs)
split (Err e) rest ys h = cc
split (Ok y) (Err e) ys h = cc
split (Ok y) (Ok zs) ys h = (y, zs, refl, refl, cc)

turns-read : (c : Cluster) (parsed : List ParsedTurn) (turns : List TurnSeen) → each (turn_over c) parsed ≡ Ok turns
    → All (IsTurnOver c) turns × (map turn_without_records turns ≡ parsed) × (list_all (λ (t : TurnSeen). is_node c t.node) turns ≡ true)
turns-read c [] turns h = let e : turns ≡ [] = cc in rw e ((λ k d within. absurd (omega arith)), refl, refl)
turns-read c (t ∷ ts) turns h =
    let (turn, others, is, are, all) = split (turn_over c t) (each (turn_over c) ts) turns h in
    let (named, told, known) = turn-read c t turn is in
    let (rest_named, rest_told, rest_known) = turns-read c ts others are in
    rw (all, told, known, rest_told, rest_known) (All-cons (IsTurnOver c) turn others named rest_named, refl, refl)

-- ---- certificates

-- what was told, with these turns
abbrev with_turns : ParsedCertificate → List TurnSeen → CertificateSeen
with_turns parsed turns = record { pid = parsed.pid; client = parsed.client; turns = turns; spans = parsed.spans }

abbrev told_with : ParsedCertificate → List ParsedTurn → ParsedCertificate
told_with parsed turns = record { pid = parsed.pid; client = parsed.client; turns = turns; spans = parsed.spans }

certificate-read : (c : Cluster) (parsed : ParsedCertificate) (cert : CertificateSeen) → certificate_over c parsed ≡ Ok cert
    → IsOver c cert × (without_records cert ≡ parsed) × (names_taps c cert ≡ true)
unfolding certificate_over
certificate-read c parsed cert h =
    let (known, rest) = guard-ok UnknownTap (is_client c parsed.client) (each (turn_over c) parsed.turns >>= (λ turns. Ok (with_turns parsed turns))) cert h in
    let (turns, are, is) = part-of (each (turn_over c) parsed.turns) (λ turns. Ok (with_turns parsed turns)) cert rest in
    let (named, told, nodes) = turns-read c parsed.turns turns are in
    subst (λ made. IsOver c made × (without_records made ≡ parsed) × (names_taps c made ≡ true)) (same-ok (with_turns parsed turns) cert is)
    (named, ap (told_with parsed) told, ap (λ b. b && list_all (λ (t : TurnSeen). is_node c t.node) turns) known ∙ nodes)

-- the last step, and the last two
abbrev within : Cluster → CertificateSeen → Result CertificateSeen CertFault
within c cert = guard Range (is_certificate_within c cert) >>= (λ _. Ok cert)

abbrev formed : Cluster → ParsedCertificate → Result CertificateSeen CertFault
formed c parsed = guard Syntax (is_formed parsed) >>= (λ _. certificate_over c parsed >>= within c)

-- nothing refuses a certificate that was read
pub read-sound : (c : Cluster) (d : Data) (cert : CertificateSeen) → certificate_in c d ≡ Ok cert → IsSound c cert
read-sound c d cert h =
    let (parsed, told, rest) = part-of (parsed_certificate d) (formed c) cert h in
    let (form, rest) = guard-ok Syntax (is_formed parsed) (certificate_over c parsed >>= within c) cert rest in
    let (made, is, last) = part-of (certificate_over c parsed) (within c) cert rest in
    let (is_within, same) = guard-ok Range (is_certificate_within c made) (Ok made) cert last in
    let (named, parts, taps) = certificate-read c parsed made is in
    subst (IsSound c) (same-ok made cert same) (record { formed = ap is_formed parts ∙ form; taps = taps; within = is_within; over = named })

-- it has a turn
pub sound-some : (c : Cluster) (cert : CertificateSeen) → IsSound c cert → 0 < length cert.turns
sound-some c cert is = go cert.turns (and_parts _ _ (and_parts _ _ (and_parts _ _ is.formed).0).0).0
  where
    go : (turns : List TurnSeen) → has_turns (map turn_without_records turns) ≡ true → 0 < length turns
    go [] h = absurd (true≢false (sym h))
    go (t ∷ turns) h = omega arith
