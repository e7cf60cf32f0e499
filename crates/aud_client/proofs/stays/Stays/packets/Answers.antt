use Rattle.std.proofs.Common.{rules, ◌≡◌, ◌++◌, ◌∷◌, [], sym, ap, ◌∙◌, subst, append-nil, append_assoc, map}
use Rattle.std.proofs.lemmas.List.{nil_from_length}
use Rattle.aud_client.specs.Seen.{placed_seen}
use Rattle.aud_client.specs.Private.Kept.{Keeps}
use Rattle.aud_client.proofs.Connections.{packet_more, packet_none}
use Rattle.aud_client.proofs.stays.Stays.packets.Goals as goal

pub loop-placed-init : goal.loop-placed-init
loop-placed-init c = record { packets_are = search rules; keeps = λ done told before keeps. packet_none c.args.stream.now c.args.c c.args.self.now done told before keeps }

pub loop-placed-preserved : goal.loop-placed-preserved
loop-placed-preserved c = record {
  packets_are =
      append_assoc c.loop-placed.yielded (c.in-Some.placed ∷ []) c.next.new.self.rest.items ∙ ap (λ r. c.loop-placed.yielded ++ r) (sym c.in-Some.ensures.steps.0) ∙ c.loop-placed.invariant.packets_are;
  keeps = λ done told before keeps.
      packet_more c.args.stream.now c.args.c c.take.new.self done told before c.loop-placed.yielded c.in-Some.placed
      (c.in_ok-take.ensures done told (before ++ map placed_seen c.loop-placed.yielded) (c.loop-placed.invariant.keeps done told before keeps));
}

pub returns : goal.returns
returns c = λ done told before keeps.
    let all : c.loop-placed.yielded ≡ c.args.packets.items =
    sym (append-nil c.loop-placed.yielded) ∙ ap (λ r. c.loop-placed.yielded ++ r) (sym (nil_from_length c.loop-placed.placed-iterator.rest.items (search (rules, c.in-None.ensures)))) ∙ c.loop-placed.invariant.packets_are in
    subst (λ packets. Keeps c.args.stream.now c.args.c c.loop-placed.self done told (before ++ map placed_seen packets)) all (c.loop-placed.invariant.keeps done told before keeps)
