-- Nothing of a made certificate is refused by its reading.
use Rattle.std.proofs.Common.{◌≡◌, ◌<◌, ℕ, suc, Bool, true, List, [], ◌∷◌, length, map, Option, Some, None, option_map, option_and_then, is_some, slice_get, refl, sym, ap, subst, ◌∙◌, arith, All, Contains, le-leb, lt-ltb}
use Rattle.std.specs.List.{list_all}
use Rattle.std.proofs.lemmas.Bool.{false≢true}
use Rattle.std.proofs.lemmas.Option.{none-some, slice_get_within, get_or_from_slice_get}
use Rattle.std.proofs.lemmas.List.Elements.{All-head, All-same, filter_passes}
use Rattle.aud_tap.specs.declared.records.NodeRec.{NodeRec}
use Rattle.aud_tap.specs.declared.records.ClientRec.{ClientRec}
use Rattle.aud_tap.specs.declared.taps.Tap.{Tap}
use Rattle.aud_tap.specs.declared.taps.Records.{Records}
use Rattle.aud_tap.specs.declared.taps.Records.TheVariants.{Stream, Node, Client}
use Rattle.aud_tap.specs.TapName.{is_tap_name}
use Rattle.aud_tap.specs.WellFormed.{is_session_id}
use Rattle.aud_base.specs.Lists.{numbers_from}
use Rattle.aud_node.specs.Stream.{Text}
use Rattle.aud_node.specs.Names.{AreNamedOnce}
use Rattle.aud_node.specs.NodeTaps.{node_of_records, client_recs, client_at}
use Rattle.aud_node.specs.Cluster.{Cluster, node_log, node_recs}
use Rattle.aud_node.proofs.RecordLemmas.{cursor_at-rises}
use Rattle.aud_rooms.specs.Turns.{Who, Turn, beginning, IsTurn, AreTurns}
use Rattle.aud_rooms.specs.Spans.{RoomSpan}
use Rattle.aud_rooms.proofs.Members.{contains-first, contains-later}
use Rattle.aud_client.specs.Replies.{is_naming}
use Rattle.aud_cert.specs.Certificate.{TurnSeen, CertificateSeen, place_named}
use Rattle.aud_cert.specs.Parsed.{ParsedTurn}
use Rattle.aud_cert.specs.Reading.{has_turns, is_node, is_client, is_turn_within, is_span_within}
use Rattle.aud_cert.specs.Sound.{turn_without_records, IsSound}
use Rattle.aud_maker.specs.Made.{tap_name, name_at, turn_seen, IsMade}
use Rattle.aud_maker.proofs.Over.{over}
use Rattle.aud_laws.proofs.ReadBack.Pids.{named-formed}
use Rattle.aud_laws.proofs.ReadBack.Cursors.{cursor-within, greatest-within}

-- what holds of a tap's name
abbrev IsNamed : Tap → Type 0
IsNamed tap = is_tap_name tap.name ≡ true

-- a test that each of the elements passes
all-pass : {X : Type 0} (p : X → Bool) (xs : List X) → ((x : X) → Contains xs x → p x ≡ true) → list_all p xs ≡ true
all-pass p [] pass = refl
all-pass p (x ∷ xs) pass = rw (pass x (contains-first x xs), all-pass p xs (λ y among. pass y (contains-later x xs y among))) refl

module _ (c : Cluster) (once : AreNamedOnce c.taps) (named : All IsNamed c.taps) where
  -- the tap at a place has a name of a bundle's form
  name-formed : (place : ℕ) (tap : Tap) → slice_get c.taps place ≡ Some tap → is_tap_name tap.name ≡ true
  name-formed place tap at =
      subst IsNamed (get_or_from_slice_get c.taps place tap tap at) (named place tap (slice_get_within c.taps place tap at))

  -- ---- nodes

  -- records with one of a node are a node's
  of-node : (records : Records) (i : ℕ) (rec : NodeRec) → slice_get (node_recs (Some records)) i ≡ Some rec → is_some (node_of_records c.stream records) ≡ true
  of-node (Stream recs) i rec h = absurd (none-some rec h)
  of-node (Node recs) i rec h = refl
  of-node (Client recs) i rec h = absurd (none-some rec h)

  -- the tap at this place is a node's, of a bundle's name, and is found by that name
  pub record IsNodeAt (place : ℕ) : Type 0 where
    pub formed : is_tap_name (name_at c place) ≡ true
    pub known : is_node c (name_at c place) ≡ true
    pub found : place_named c (name_at c place) ≡ place

  -- so is the tap of a node's record
  node-at : (place i : ℕ) (rec : NodeRec) → slice_get (node_log c place) i ≡ Some rec → IsNodeAt place
  node-at place i rec h = go (slice_get c.taps place) refl h
    where
      go : (o : Option Tap) → slice_get c.taps place ≡ o → slice_get (node_recs (option_map (λ (tap : Tap). tap.records) o)) i ≡ Some rec → IsNodeAt place
      go None at h = absurd (none-some rec h)
      go (Some tap) at h =
          let name : name_at c place ≡ tap.name = ap tap_name at in
          let first = once place tap at in
          record {
            formed = rw name (name-formed place tap at);
            known = rw (name, first, at) (of-node tap.records i rec h);
            found = rw (name, first) refl;
          }

  -- ---- turns

  -- a turn of the session
  module _ (who : Who) (k : ℕ) (t : Turn) (later : List Turn) (turn : IsTurn c who k t later) where
    node : IsNodeAt t.node
    node = node-at t.node t.from (beginning who k) turn.begins

    -- its numbers are within the logs
    turn-within : is_turn_within c (turn_seen c t) ≡ true
    turn-within =
        let some = turn.some in
        rw (
          node.found,
          lt-ltb _ _ some,
          le-leb _ _ turn.within,
          le-leb _ _ (cursor_at-rises c.stream (node_log c t.node) (suc t.from) t.to (omega arith)),
          le-leb _ _ (cursor-within c.stream (node_log c t.node) t.to),
        ) refl

  -- so it is with all turns
  pub record AreSeen (turns : List Turn) : Type 0 where
    pub formed : list_all (λ (t : ParsedTurn). is_tap_name t.node) (map turn_without_records (map (turn_seen c) turns)) ≡ true
    pub known : list_all (λ (t : TurnSeen). is_node c t.node) (map (turn_seen c) turns) ≡ true
    pub within : list_all (is_turn_within c) (map (turn_seen c) turns) ≡ true

  all-seen : (who : Who) (k : ℕ) (turns : List Turn) → AreTurns c who k turns → AreSeen turns
  all-seen who k [] are = record { formed = refl; known = refl; within = refl }
  all-seen who k (t ∷ later) are =
      let here = node who k t later are.0 in
      let rest = all-seen who (suc k) later are.1 in
      record {
        formed = rw (here.formed, rest.formed) refl;
        known = rw (here.known, rest.known) refl;
        within = rw (turn-within who k t later are.0, rest.within) refl;
      }

  -- there is one
  some-seen : (turns : List Turn) → 0 < length turns → has_turns (map turn_without_records (map (turn_seen c) turns)) ≡ true
  some-seen [] some = absurd (omega arith)
  some-seen (t ∷ turns) some = refl

  -- ---- the client

  module _ (pid : Text) (cert : CertificateSeen) (made : IsMade c pid cert) where
    -- the client's tap names the session
    naming : is_naming pid (client_at c made.client.place) ≡ true
    naming =
        All-head (λ place. is_naming pid (client_at c place) ≡ true) made.client.place []
        (All-same (λ place. is_naming pid (client_at c place) ≡ true) (made.client.place ∷ []) _ (sym made.client.only)
        (filter_passes (λ place. is_naming pid (client_at c place)) (numbers_from 0 (length c.taps))))

    -- records that name a session are a client's
    of-client : (o : Option (List ClientRec)) → is_naming pid o ≡ true → is_some o ≡ true
    of-client None h = absurd (false≢true h)
    of-client (Some recs) h = refl

    -- the client's name is of a bundle's form, and a client tap's
    client : (is_tap_name cert.client ≡ true) × (is_client c cert.client ≡ true)
    client = go (slice_get c.taps made.client.place) refl naming
      where
        go : (o : Option Tap) → slice_get c.taps made.client.place ≡ o → is_naming pid (option_and_then client_recs o) ≡ true → (is_tap_name cert.client ≡ true) × (is_client c cert.client ≡ true)
        go None at h = absurd (false≢true h)
        go (Some tap) at h =
            let name : cert.client ≡ tap.name = made.client.name_is ∙ ap tap_name at in
            (rw name (name-formed made.client.place tap at), rw (name, once made.client.place tap at, at) (of-client (client_recs tap) h))

    -- ---- the spans

    span-within : (s : RoomSpan) → Contains cert.spans s → is_span_within c s ≡ true
    span-within s among =
        let is = (made.is.spans_are made.who.nsp).each s among in
        let past = is.past_low in
        let up = is.to_high in
        let end = greatest-within c made.turns in
        rw (le-leb 1 s.first (omega arith), le-leb s.first s.last is.some, le-leb s.last (length c.stream) (omega arith)) refl

    -- ---- all of it

    -- nothing refuses it
    pub made-sound : IsSound c cert
    made-sound =
        let seen = all-seen made.who 0 made.turns made.chain.are_turns in
        let id : is_session_id cert.pid ≡ true = rw made.is.pid_is (named-formed pid (client_at c made.client.place) naming) in
        record {
          formed = rw (made.is.turns_are, some-seen made.turns made.chain.some, id, client.0, seen.formed) refl;
          taps = rw (made.is.turns_are, client.1, seen.known) refl;
          within = rw (made.is.turns_are, seen.within, all-pass (is_span_within c) cert.spans span-within) refl;
          over = over c pid cert once made;
        }
