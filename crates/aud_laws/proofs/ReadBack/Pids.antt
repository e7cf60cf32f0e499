-- A reply names no pid but one of the form that a bundle's pids have.
use Rattle.std.proofs.Common.{◌≡◌, ℕ, Bool, true, false, cond, List, [], ◌∷◌, ◌||◌, codes, Option, Some, None, option_and_then, refl, subst}
use Rattle.std.specs.List.{list_any}
use Rattle.std.proofs.lemmas.Bool.{false≢true}
use Rattle.serde_json.specs.Data.{Data}
use Rattle.aud_base.proofs.SameText.{same_text}
use Rattle.aud_tap.specs.declared.records.ClientRec.{ClientRec}
use Rattle.aud_tap.specs.Forms.{passing}
use Rattle.aud_tap.specs.Json.{text_at}
use Rattle.aud_tap.specs.WellFormed.{is_session_id}
use Rattle.aud_node.specs.Stream.{Text}
use Rattle.aud_client.specs.TapPackets.{TapPacket, FromServer, FromClient, Connection, tap_packets}
use Rattle.aud_client.specs.Replies.{is_this, reply_in_value, reply_names, value_of, is_connect_kind, packet_names, connection_names, tap_names, is_naming}

-- what follows of each element that passes follows where some element does
of-any : {X : Type 0} (p : X → Bool) (Q : Type 0) → ((x : X) → p x ≡ true → Q) → (xs : List X) → list_any p xs ≡ true → Q
of-any p Q of [] h = absurd (false≢true h)
of-any p Q of (x ∷ xs) h = go (p x) (of x) (of-any p Q of xs) h
  where
    go : (b : Bool) → (b ≡ true → Q) → (list_any p xs ≡ true → Q) → (b || list_any p xs) ≡ true → Q
    go true first later h = first refl
    go false first later h = later h

module _ (pid : Text) where
  -- a text that passes the test is one that it lets pass
  passed : (t : Text) (b : Bool) → is_session_id t ≡ b → is_this pid (cond b (Some t) None) ≡ true → is_session_id pid ≡ true
  passed t true formed h = subst (λ u. is_session_id u ≡ true) (same_text t pid h) formed
  passed t false formed h = absurd (false≢true h)

  -- the pid that a text is
  of-text : (o : Option Text) → is_this pid (option_and_then (passing is_session_id) o) ≡ true → is_session_id pid ≡ true
  of-text None h = absurd (false≢true h)
  of-text (Some t) h = passed t (is_session_id t) refl h

  -- the pid that a value has
  of-value : (o : Option Data) → is_this pid (reply_in_value o).pid ≡ true → is_session_id pid ≡ true
  of-value None h = absurd (false≢true h)
  of-value (Some json) h = of-text (text_at (codes "pid") json) h

  -- the pid that a reply names
  of-reply : (b : Bool) (o : Option Data) → reply_names pid (cond b (Some (reply_in_value o)) None) ≡ true → is_session_id pid ≡ true
  of-reply true o h = of-value o h
  of-reply false o h = absurd (false≢true h)

  of-packet : (packet : TapPacket) → packet_names pid packet ≡ true → is_session_id pid ≡ true
  of-packet (FromServer whole) h = of-reply (is_connect_kind whole.packet.kind) (value_of whole.packet.payload) h
  of-packet (FromClient packet) h = absurd (false≢true h)

  of-connection : (connection : Connection) → connection_names pid connection ≡ true → is_session_id pid ≡ true
  of-connection connection h =
      of-any (λ (placed : ℕ × TapPacket). packet_names pid placed.1) (is_session_id pid ≡ true) (λ placed named. of-packet placed.1 named) connection.packets h

  of-tap : (recs : List ClientRec) → tap_names pid recs ≡ true → is_session_id pid ≡ true
  of-tap recs h = of-any (connection_names pid) (is_session_id pid ≡ true) of-connection (tap_packets recs).connections h

  -- a pid that a client's tap names has that form
  pub named-formed : (o : Option (List ClientRec)) → is_naming pid o ≡ true → is_session_id pid ≡ true
  named-formed None h = absurd (false≢true h)
  named-formed (Some recs) h = of-tap recs h
