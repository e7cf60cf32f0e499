use Rattle.std.proofs.Common.{◌++◌, ◌∷◌, [], List, ℕ, map, flat_map, sym, ap, ◌∙◌, subst, append_assoc}
use Rattle.std.proofs.lemmas.List.{map-append}
use Rattle.std.proofs.lemmas.Grind.{flat_map-append}
use Rattle.aud_eio.specs.Packet.{engine_view}
use Rattle.aud_sio.specs.Message.{Message, at, messages_of}
use Rattle.aud_refusals.specs.Private.Fed.{Passes}
use Rattle.aud_refusals.proofs.Feeding.{Passes-append, Passes-fed}
use Rattle.aud_refusals.proofs.before.pass_packets.Goals as goal

pub loop-packet-preserved : goal.loop-packet-preserved
loop-packet-preserved c =
    let seen = map engine_view c.loop-packet.yielded in
    let one = engine_view c.in-Some.packet ∷ [] in
    record {
      items_are = append_assoc c.loop-packet.yielded (c.in-Some.packet ∷ []) c.next.new.self.rest.items ∙ ap (λ r. c.loop-packet.yielded ++ r) (sym c.in-Some.ensures.steps.0) ∙ c.loop-packet.invariant.items_are;
      passes =
          subst (λ (ms : List (ℕ × Message)). Passes c.args.assembler.now ms c.feed.new.assembler)
          (sym (
          ap (λ ps. at 0 (flat_map messages_of ps)) (map-append engine_view c.loop-packet.yielded (c.in-Some.packet ∷ []))
          ∙ ap (at 0) (flat_map-append messages_of seen one)
          ∙ map-append (λ x. (0, x)) (flat_map messages_of seen) (flat_map messages_of one)
          ))
          (Passes-append c.args.assembler.now c.loop-packet.assembler c.feed.new.assembler (at 0 (flat_map messages_of seen)) (at 0 (flat_map messages_of one)) c.loop-packet.invariant.passes
          (Passes-fed c.loop-packet.assembler c.feed.new.assembler (engine_view c.in-Some.packet) c.in_ok-_fault._fault c.in_ok-_fault.ensures));
    }
