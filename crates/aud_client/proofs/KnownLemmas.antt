-- What a text gives that is known.
use Rattle.std.proofs.Common.{◌≡◌, ◌∷◌, [], true, false, ◌&&◌, cond, refl, sym, ap, ◌∙◌, Ok, Option, Some, None, is_none, is_some, List, ℕ}
use Rattle.std.specs.Option.{option_map, option_and_then}
use Rattle.aud_tap.specs.declared.records.Event.{Event}
use Rattle.aud_tap.specs.declared.records.StreamRec.{StreamRec}
use Rattle.aud_sio.specs.declared.kind.PacketKind.{PacketKind}
use Rattle.aud_sio.specs.declared.kind.PacketKind.TheVariants as kind
use Rattle.aud_sio.specs.Message.{Text}
use Rattle.aud_sio.specs.Assembly.{Continues}
use Rattle.aud_sio.proofs.Assembling.{text_alone}
use Rattle.aud_node.specs.Recoverable.{is_event}
use Rattle.aud_node.specs.Known.{is_sent_alone, spelled}
use Rattle.aud_node.proofs.KnownLemmas.{sent_alone}
use Rattle.aud_client.specs.TapPackets.{FromServer}
use Rattle.aud_client.specs.Replies.{ReplySeen, is_connect_kind}
use Rattle.aud_client.specs.StaySeen.{StaySeen, frame_at, frame_of, offset_in, recoverable_position, reply_at}
use Rattle.aud_client.specs.declared.part.Part.TheVariants as part
use Rattle.aud_client.specs.Private.Kept.{frame_part, grown, part_of, with_frame}
use Rattle.aud_client.proofs.Telling.{no_reply_at}
use Rattle.aud_client.proofs.TellingPlaces.{framed_grown}

-- an event is no CONNECT, and no DISCONNECT
pub event_begins_nothing : (k : PacketKind) → is_event k ≡ true → is_connect_kind k ≡ false
event_begins_nothing kind.Event e = refl
event_begins_nothing kind.BinaryEvent e = refl
event_begins_nothing kind.Connect e = sym e
event_begins_nothing kind.Disconnect e = refl
event_begins_nothing kind.Ack e = refl
event_begins_nothing kind.ConnectError e = refl
event_begins_nothing kind.BinaryAck e = refl

module _ (event : Event) (alone : is_sent_alone event ≡ true) where
  -- the text alone is a whole packet, where nothing is held
  pub known_continues : Continues [] (Text event.text ∷ []) (Ok (spelled event.text) ∷ []) []
  known_continues = λ place l.
      text_alone place event.text (spelled event.text).packet l (sent_alone event alone).reads (sent_alone event alone).attachments_are

  -- the event's offset ends it
  known_offset : offset_in (spelled event.text).packet ≡ Some event.off
  known_offset =
      ap (λ b. cond (b && is_none (spelled event.text).packet.id) (spelled event.text).packet.last None) (sent_alone event alone).kind_is
      ∙ ap (λ id. cond (is_none id) (spelled event.text).packet.last None) (sent_alone event alone).id_is
      ∙ (sent_alone event alone).last_is

  -- it is no reply
  pub known_no_reply : reply_at (FromServer (spelled event.text)) ≡ None
  known_no_reply =
      no_reply_at (FromServer (spelled event.text)) (ap (λ b. b && true) (event_begins_nothing (spelled event.text).packet.kind (sent_alone event alone).kind_is))

  -- the frame is that of the recoverable entry with the event's offset
  pub known_frame : (stream : List StreamRec) (p : Option ℕ) → p ≡ recoverable_position stream event.off → option_map (frame_at (spelled event.text)) p ≡ frame_of stream (FromServer (spelled event.text))
  known_frame stream p found =
      ap (option_map (frame_at (spelled event.text))) found ∙ sym (ap (λ off. option_map (frame_at (spelled event.text)) (option_and_then (recoverable_position stream) off)) known_offset)

  -- it asks for nothing: a stay has the frame more
  pub known_grown : (stream : List StreamRec) (t : StaySeen) → with_frame stream t (frame_of stream (FromServer (spelled event.text))) ≡ grown stream t (FromServer (spelled event.text))
  known_grown stream t = framed_grown stream t (spelled event.text) known_no_reply

  -- it is a frame, or nothing to its stay
  pub known_part : (stream : List StreamRec) → frame_part (frame_of stream (FromServer (spelled event.text))) ≡ part_of stream (FromServer (spelled event.text))
  known_part stream = ap (λ (reply : Option ReplySeen). cond (is_some reply) part.Reply (frame_part (frame_of stream (FromServer (spelled event.text))))) (sym known_no_reply)
