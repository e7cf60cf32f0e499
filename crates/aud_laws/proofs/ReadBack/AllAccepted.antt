-- All that is proved is accepted.
use Rattle.std.proofs.Common.{◌≡◌, ◌⊎◌, inl, inr, true, List, [], ◌∷◌, Option, Some, refl, ap, subst, All, Contains, IsUtf8}
use Rattle.std.specs.List.{list_all}
use Rattle.std.proofs.lemmas.List.Elements.{All-head, All-tail}
use Rattle.aud_tap.specs.declared.taps.Tap.{Tap}
use Rattle.aud_node.specs.Stream.{Text}
use Rattle.aud_node.specs.Cluster.{Cluster, cluster_of}
use Rattle.aud_reader.specs.declared.line.Line.{Line}
use Rattle.aud_rooms.proofs.Members.{contains-none, contains-parts}
use Rattle.aud_app.specs.declared.answer.Answered.{Answered}
use Rattle.aud_app.specs.Lines.{answers_ok, is_ok}
use Rattle.aud_app.specs.Verified.{IsAnswered, AreAnswered}
use Rattle.aud_app.specs.Proofs.{IsProof, AreProofs}
use Rattle.aud_writer.specs.OfABundle.{AreOfABundle}
use Rattle.aud_laws.specs.Proven.{IsOfAProof}
use Rattle.aud_laws.proofs.ReadBack.Accepted.{accepted-again}

-- a text among the certificates is that of one of the sessions
proof-of : (c : Cluster) (pids : List Text) (proofs : List (Option Text)) → AreProofs c pids proofs → (text : Text) → Contains proofs (Some text) → (pid : Text) × IsProof c pid (Some text)
proof-of c [] [] are text among = absurd (contains-none (Some text) among)
proof-of c [] (o ∷ os) are text among = absurd are
proof-of c (p ∷ ps) [] are text among = absurd are
proof-of c (p ∷ ps) (o ∷ os) are text among = go (contains-parts o os (Some text) among) (proof-of c ps os are.1 text)
  where
    go : (o ≡ Some text) ⊎ Contains os (Some text) → (Contains os (Some text) → (pid : Text) × IsProof c pid (Some text)) → (pid : Text) × IsProof c pid (Some text)
    go (inl same) later = (p, subst (IsProof c p) same are.0)
    go (inr among) later = later among

module _ (taps : List Tap) (bundle : AreOfABundle taps) where
  -- the answer on such a line is ok
  line-ok : (pid : Text) (line : Line) (answered : Answered) → IsProof (cluster_of taps) pid (Some line.bytes) → IsUtf8 line.bytes → IsAnswered (cluster_of taps) line answered → is_ok answered ≡ true
  line-ok pid line answered (cert, counts, shown, is_text) utf8 is =
      ap answers_ok (accepted-again taps bundle pid line.bytes counts.got counts.tail counts.turns answered.answer shown.2 (cert, counts, shown, is_text) utf8 is.1)

  module _ (pids : List Text) (proofs : List (Option Text)) (are : AreProofs (cluster_of taps) pids proofs) where
    -- so are all answers on such lines
    pub all-ok : (lines : List Line) (answers : List Answered) → All (IsOfAProof proofs) lines → AreAnswered (cluster_of taps) lines answers → list_all is_ok answers ≡ true
    all-ok [] [] each answered = refl
    all-ok [] (a ∷ others) each answered = absurd answered
    all-ok (line ∷ lines) [] each answered = absurd answered
    all-ok (line ∷ lines) (a ∷ others) each answered =
        let (among, utf8) = All-head (IsOfAProof proofs) line lines each in
        let (pid, proof) = proof-of (cluster_of taps) pids proofs are line.bytes among in
        rw (line-ok pid line a proof utf8 answered.0, all-ok lines others (All-tail (IsOfAProof proofs) line lines each) answered.1) refl
