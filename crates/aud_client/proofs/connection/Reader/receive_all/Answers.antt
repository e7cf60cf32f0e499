use Rattle.std.proofs.Common.{◌++◌, ◌∷◌, [], List, map, flat_map, sym, ap, ◌∙◌, subst, append_assoc}
use Rattle.std.proofs.lemmas.List.{map-append}
use Rattle.aud_eio.specs.Packet as eio
use Rattle.aud_eio.specs.Packet.{engine_view}
use Rattle.aud_sio.specs.Message.{messages_of}
use Rattle.aud_client.specs.Private.ConnectionRead.{Reads}
use Rattle.aud_client.proofs.ReadLemmas.{Reads-more}
use Rattle.aud_client.proofs.connection.Reader.receive_all.Goals as goal

pub loop-packet-preserved : goal.loop-packet-preserved
loop-packet-preserved c =
    let seen = map engine_view c.loop-packet.yielded in
    let before = c.loop-packet.invariant.items_are in
    record {
      items_are = append_assoc c.loop-packet.yielded (c.in-Some.packet ∷ []) c.next.new.self.rest.items ∙ ap (λ r. c.loop-packet.yielded ++ r) (sym c.in-Some.ensures.steps.0) ∙ before;
      reads =
          subst (λ (ps : List eio.Packet). Reads c.args.number (flat_map messages_of ps) c.args.self.now c.receive.new.self)
          (sym (map-append engine_view c.loop-packet.yielded (c.in-Some.packet ∷ [])))
          (Reads-more c.args.number seen (engine_view c.in-Some.packet) c.args.self.now c.loop-packet.self c.receive.new.self c.loop-packet.invariant.reads c.in_ok-receive.ensures);
    }
