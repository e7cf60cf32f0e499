-- What is proved of a session is read and accepted again, with the numbers of the session's verdict.
use Rattle.std.proofs.Common.{◌≡◌, ◌≤◌, ◌+◌, ℕ, false, List, length, map, Some, Ok, refl, sym, ap, subst, ◌∙◌, arith, length-append, IsUtf8}
use Rattle.std.proofs.lemmas.List.{length-map}
use Rattle.aud_tap.specs.declared.taps.Tap.{Tap}
use Rattle.aud_node.specs.Stream.{Text}
use Rattle.aud_node.specs.Cluster.{Cluster, cluster_of}
use Rattle.aud_client.specs.StaySeen.{FrameSeen}
use Rattle.aud_cert.specs.Certificate.{CertificateSeen}
use Rattle.aud_cert.specs.Reading.{certificate_of}
use Rattle.aud_cert.specs.Text.{certificate_text}
use Rattle.aud_maker.specs.Made.{IsMade}
use Rattle.aud_check.specs.declared.certificate.Accepted as check
use Rattle.aud_check.specs.Shown.{frames_received, shown_due}
use Rattle.aud_check.specs.Refusals.{IsAccepted}
use Rattle.aud_check.proofs.Ranks.{nothing_refuses}
use Rattle.aud_verdict.specs.declared.verdict.Verdict.{Verdict}
use Rattle.aud_verdict.specs.declared.verdict.Verdict.TheVariants.{Yes, No}
use Rattle.aud_verdict.specs.Verdict.{IsVerdict}
use Rattle.aud_verdict.proofs.Sessions.{one_verdict}
use Rattle.aud_verdict.proofs.Made.{accepted}
use Rattle.aud_app.specs.declared.answer.Answer.{Answer}
use Rattle.aud_app.specs.declared.answer.Answer.TheVariants.{Accepted, Unread, Refused}
use Rattle.aud_app.specs.Verified.{counts_of, IsAnswerOn, IsAnswerTo}
use Rattle.aud_app.specs.Proofs.{IsProof}
use Rattle.aud_writer.specs.OfABundle.{AreOfABundle}
use Rattle.aud_laws.proofs.ReadBack.Bundles.{named-once, few-entries, few-records}
use Rattle.aud_laws.proofs.ReadBack.Sound.{made-sound}
use Rattle.aud_laws.proofs.ReadBack.TextBack.{text-back}

-- the numbers of a verdict
abbrev numbers_in : Verdict → check.Accepted
numbers_in (Yes got tail turns) = record { got = got; tail = tail; turns = turns }
numbers_in (No fault) = record { got = 0; tail = 0; turns = 0 }

-- not more was received than was due, where it is accepted
received-due : (c : Cluster) (cert : CertificateSeen) → IsAccepted c cert → length (frames_received c cert) ≤ length (shown_due c cert)
received-due c cert is =
    let (rest, prefix) = is.is_received.is_prefix in
    let positions = map (λ (frame : FrameSeen). frame.position) (frames_received c cert) in
    let sum : length positions + length rest ≡ length (shown_due c cert) = sym (length-append positions rest) ∙ ap (λ (ps : List ℕ). length ps) prefix in
    let same : length positions ≡ length (frames_received c cert) = length-map (frames_received c cert) (λ (frame : FrameSeen). frame.position) in
    omega arith

-- the answer on an accepted certificate
answer-on : (c : Cluster) (cert : CertificateSeen) (answer : Answer) → IsAccepted c cert → IsAnswerOn c cert answer → answer ≡ Accepted cert.pid (counts_of c cert)
answer-on c cert (Accepted pid counts) is h = λ i. Accepted (h.1 i) (h.2 i)
answer-on c cert (Refused refusal) is h = absurd (nothing_refuses c cert is h.place refusal h.refuses)
answer-on c cert (Unread fault) is h = absurd h

module _ (taps : List Tap) (are : AreOfABundle taps) where
  -- a made certificate is read from its text
  pub made-back : (pid : Text) (cert : CertificateSeen) → IsMade (cluster_of taps) pid cert → IsUtf8 (certificate_text cert)
      → certificate_of (cluster_of taps) (certificate_text cert) ≡ Ok cert
  made-back pid cert made utf8 =
      let sound = made-sound (cluster_of taps) (named-once taps are) are.named pid cert made in
      text-back (cluster_of taps) (few-entries taps are) (few-records taps are) cert sound utf8

  -- the numbers that its check finds are those of the verdict
  same-numbers : (pid : Text) (cert : CertificateSeen) (got tail turns : ℕ) → IsMade (cluster_of taps) pid cert → IsAccepted (cluster_of taps) cert
      → IsVerdict (cluster_of taps) false pid (Yes got tail turns) → counts_of (cluster_of taps) cert ≡ record { got = got; tail = tail; turns = turns }
  same-numbers pid cert got tail turns made is verdict =
      let c = cluster_of taps in
      let counts = counts_of c cert in
      let most = received-due c cert is in
      let sum : counts.got + counts.tail ≡ length (shown_due c cert) = omega arith in
      let found = accepted c pid cert (named-once taps are) made is counts.got counts.tail counts.turns refl sum refl in
      ap numbers_in (one_verdict c false pid (Yes counts.got counts.tail counts.turns) (Yes got tail turns) found verdict)

  -- whatever the answer on its text is, it is that it is accepted, with the numbers of the verdict
  pub accepted-again : (pid text : Text) (got tail turns : ℕ) (answer : Answer)
      → IsVerdict (cluster_of taps) false pid (Yes got tail turns) → IsProof (cluster_of taps) pid (Some text) → IsUtf8 text
      → IsAnswerTo (cluster_of taps) (certificate_of (cluster_of taps) text) answer → answer ≡ Accepted pid (record { got = got; tail = tail; turns = turns })
  accepted-again pid text got tail turns answer verdict (cert, counts, shown, is_text) utf8 answers =
      let c = cluster_of taps in
      let made = shown.0 in
      let read : certificate_of c text ≡ Ok cert = ap (certificate_of c) is_text ∙ made-back pid cert made (subst IsUtf8 is_text utf8) in
      let on = subst (λ r. IsAnswerTo c r answer) read answers in
      let numbers = same-numbers pid cert got tail turns made shown.1 verdict in
      answer-on c cert answer shown.1 on.0 ∙ (λ i. Accepted (made.is.pid_is i) (numbers i))
