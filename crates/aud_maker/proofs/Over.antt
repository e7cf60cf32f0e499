-- A made certificate speaks of the logs that it was made of.
use Rattle.std.proofs.Common.{◌≡◌, ◌<◌, ℕ, suc, List, [], ◌∷◌, length, map, Some, unwrap_or, slice_get, refl, sym, ap, ◌∙◌, arith}
use Rattle.std.specs.List.{All}
use Rattle.std.proofs.lemmas.List.{length-map}
use Rattle.std.proofs.lemmas.List.Elements.{All-nil, All-cons, All-same}
use Rattle.aud_tap.specs.declared.records.NodeRec.{NodeRec}
use Rattle.aud_node.specs.Cluster.{Cluster, node_log}
use Rattle.aud_node.specs.Lists.{between}
use Rattle.aud_node.specs.Names.{AreNamedOnce}
use Rattle.aud_node.specs.Stream.{Text}
use Rattle.aud_rooms.specs.Turns.{Who, Turn, beginning, AreTurns}
use Rattle.aud_cert.specs.Certificate.{CertificateSeen, place_named, turn_at, IsTurnOver, IsOver}
use Rattle.aud_maker.specs.Made.{tap_name, name_at, turn_seen, IsMade}
use Rattle.aud_maker.proofs.BegunLemmas.{tap_of}

module _ (c : Cluster) (once : AreNamedOnce c.taps) where
  -- a tap with a record of a node is the one of its name
  named_place : (place i : ℕ) (rec : NodeRec) → slice_get (node_log c place) i ≡ Some rec → place_named c (name_at c place) ≡ place
  named_place place i rec there =
      let (tap, at) = tap_of c place i rec there in
      ap (λ o. place_named c (tap_name o)) at ∙ ap (λ o. unwrap_or o (length c.taps)) (once place tap at)

  -- the records of the turns are those that the certificate names
  over-all : (who : Who) (k : ℕ) (turns : List Turn) → AreTurns c who k turns → All (IsTurnOver c) (map (turn_seen c) turns)
  over-all who k [] are = All-nil (IsTurnOver c)
  over-all who k (t ∷ turns) are =
      let same = named_place t.node t.from (beginning who k) are.0.begins in
      All-cons (IsTurnOver c) (turn_seen c t) (map (turn_seen c) turns)
      (ap (λ place. between (node_log c place) t.from t.to) (sym same))
      (over-all who (suc k) turns are.1)

  -- the turns stand where the certificate says
  there-all : (who : Who) (k : ℕ) (turns : List Turn) → AreTurns c who k turns → map (turn_at c) (map (turn_seen c) turns) ≡ turns
  there-all who k [] are = refl
  there-all who k (t ∷ turns) are =
      let same = named_place t.node t.from (beginning who k) are.0.begins in
      ap (λ (place : ℕ). (let there : Turn = record { node = place; from = t.from; to = t.to } in there ∷ map (turn_at c) (map (turn_seen c) turns))) same
      ∙ ap (λ (ts : List Turn). t ∷ ts) (there-all who (suc k) turns are.1)

-- a made certificate has the records of the logs that it was made of
pub over : (c : Cluster) (pid : Text) (cert : CertificateSeen) → AreNamedOnce c.taps → IsMade c pid cert → IsOver c cert
over c pid cert once made = All-same (IsTurnOver c) cert.turns (map (turn_seen c) made.turns) made.is.turns_are (over-all c once made.who 0 made.turns made.chain.are_turns)

-- the turns of a made certificate stand in the logs where the session's turns stand
pub turns-there : (c : Cluster) (pid : Text) (cert : CertificateSeen) → AreNamedOnce c.taps → (made : IsMade c pid cert) → map (turn_at c) cert.turns ≡ made.turns
turns-there c pid cert once made = ap (map (turn_at c)) made.is.turns_are ∙ there-all c once made.who 0 made.turns made.chain.are_turns

-- a made certificate has a turn
pub some-turns : (c : Cluster) (pid : Text) (cert : CertificateSeen) → IsMade c pid cert → 0 < length cert.turns
some-turns c pid cert made = grind (arith, made.is.turns_are, made.chain.some, length-map made.turns (turn_seen c))
