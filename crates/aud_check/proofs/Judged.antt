-- The first refusal of a certificate, by what was found before it; and what is said of a certificate by its parts.
use Rattle.std.proofs.Common.{arith, ◌≡◌, ◌+◌, ◌-◌, ◌++◌, ℕ, List, length, sym, ap, ◌∙◌, true≢false}
use Rattle.std.proofs.lemmas.List.{length-append, length-map}
use Rattle.aud_client.specs.StaySeen.{FrameSeen}
use Rattle.aud_node.specs.Stream.{Text}
use Rattle.aud_node.specs.Cluster.{Cluster}
use Rattle.aud_rooms.specs.Turns.{Who}
use Rattle.aud_rooms.specs.TurnsDue.{turns_due}
use Rattle.aud_rooms.specs.Spans.{RoomSpan, AreSpansOfTurns}
use Rattle.aud_cert.specs.Certificate.{CertificateSeen, TurnSeen}
use Rattle.aud_check.specs.declared.refusal.Refusal.{Refusal}
use Rattle.aud_check.specs.declared.refusal.Refusal.TheVariants.{Names, Received, Memory}
use Rattle.aud_check.specs.Client.{case_for}
use Rattle.aud_check.specs.Private.ClientCheck.{IsClientRefusal}
use Rattle.aud_check.specs.Faults.{Case, IsReceived, positions_in}
use Rattle.aud_check.specs.Shown.{slices_at, slices_of, who_of, shown_due}
use Rattle.aud_check.specs.TurnRefusals.{AreTurnsAccepted}
use Rattle.aud_check.specs.Private.TurnCheck.{IsFirstOfTurns}
use Rattle.aud_check.specs.Refusals.{RefusesFirst, IsFirstRefusal, certificate_case}
use Rattle.aud_check.proofs.Ranks.{first_of_turns, first_names, first_fault}

-- a refusal that comes before all others is the first
pub first_refusal : (c : Cluster) (cert : CertificateSeen) (refusal : Refusal) → RefusesFirst c cert refusal → IsFirstRefusal c cert refusal
first_refusal c cert refusal is = grind arith

-- the first refusal of the turns is the first of the certificate
pub turns_first : (c : Cluster) (cert : CertificateSeen) (refusal : Refusal) → IsFirstOfTurns c cert.pid cert.turns refusal → IsFirstRefusal c cert refusal
turns_first c cert refusal is = first_refusal c cert refusal (first_of_turns c cert refusal is)

-- where turns and spans are right, a refusal of the tap is the first
pub client_first : (c : Cluster) (cert : CertificateSeen) → AreTurnsAccepted c cert.pid cert.turns → AreSpansOfTurns c.stream (who_of cert) (slices_of c cert) cert.spans
    → (refusal : Refusal) → IsClientRefusal (who_of cert) (certificate_case c cert) refusal → IsFirstRefusal c cert refusal
client_first c cert turns spans Names h = first_names c cert turns (λ not. not spans) h
client_first c cert turns spans (Received f) (named, first) = first_fault c cert turns (λ not. not spans) (λ h. true≢false (sym named ∙ h)) f first
client_first c cert turns spans Memory h = tt
client_first c cert turns spans _ h = absurd h

-- what is said of the parts of a certificate, borrowed, is so of the certificate
module _ (c : Cluster) (cert : CertificateSeen) {lent : Cluster} {who : Who} {turns : List TurnSeen} (logs_are : lent ≡ c) (who_is : who ≡ who_of cert) (turns_are : turns ≡ cert.turns) where
  -- whether its turns are accepted
  pub turns_same : AreTurnsAccepted lent who.pid turns ≡ AreTurnsAccepted c cert.pid cert.turns
  turns_same = λ i. AreTurnsAccepted (logs_are i) (who_is i).pid (turns_are i)

  -- whether a refusal is the first of its turns
  pub first_same : (refusal : Refusal) → IsFirstOfTurns lent who.pid turns refusal ≡ IsFirstOfTurns c cert.pid cert.turns refusal
  first_same refusal = λ i. IsFirstOfTurns (logs_are i) (who_is i).pid (turns_are i) refusal

  -- whether its spans are those of its turns
  pub spans_same : {spans : List RoomSpan} → spans ≡ cert.spans → AreSpansOfTurns lent.stream who (slices_at lent turns) spans ≡ AreSpansOfTurns c.stream (who_of cert) (slices_of c cert) cert.spans
  spans_same spans_are = λ i. AreSpansOfTurns (logs_are i).stream (who_is i) (slices_at (logs_are i) (turns_are i)) (spans_are i)

  -- what is due by its turns
  pub due_same : {due : List ℕ} → due ≡ turns_due lent.stream who (slices_at lent turns) → due ≡ shown_due c cert
  due_same due_is = due_is ∙ (λ i. turns_due (logs_are i).stream (who_is i) (slices_at (logs_are i) (turns_are i)))

  -- what its client received against that
  pub case_same : {client : Text} {due : List ℕ} → client ≡ cert.client → due ≡ turns_due lent.stream who (slices_at lent turns) → case_for lent client who.pid due ≡ certificate_case c cert
  case_same client_is due_is = λ i. case_for (logs_are i) (client_is i) (who_is i).pid (due_same due_is i)

-- the due positions after those received are the tail
pub tail_is : (case : Case) (got len : ℕ) → IsReceived case → got ≡ length case.frames → len ≡ length case.due → got + (len - got) ≡ length case.due
tail_is case got len received got_is len_is =
    let (rest, whole) = received.is_prefix in
    let long = ap (λ (ps : List ℕ). length ps) whole in
    let front : length (positions_in case) ≡ length case.frames = length-map case.frames (λ (frame : FrameSeen). frame.position) in
    let both : length (positions_in case ++ rest) ≡ length (positions_in case) + length rest = length-append (positions_in case) rest in
    omega (arith, long, front, both, got_is, len_is)
