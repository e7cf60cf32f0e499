use Rattle.std.proofs.Common.{arith, nat_eq, refl, sym}
use Rattle.aud_parts.specs.declared.tap_index.Begun.{Begun}
use Rattle.aud_parts.proofs.IndexLemmas.{begun-more}
use Rattle.aud_parts.proofs.tap_index.Begun.add.Goals as goal

pub returns : goal.returns
returns c = λ from text small begun.
    let n : Begun = record { from = c.args.self.now.from; size = c.saturating_add-self.result; front = c.extend_from_slice.new.self; returns = nat_eq c.in-Some.last.now 13 } in
    begun-more c.extend_from_slice.result c.args.self.now n from c.in-Some.last.now c.saturating_sub-room.result text c.args.bytes.now c.first_bytes.result.now small begun
    refl (omega (arith, c.saturating_add-self.ensures)) c.first_bytes.ensures (omega (arith, c.saturating_sub-room.ensures, c.len.ensures, c.args.self.now.front.ok.0))
    c.extend_from_slice.ensures.items (sym c.in-Some.ensures.value) refl
