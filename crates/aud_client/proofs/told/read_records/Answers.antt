use Rattle.std.proofs.Common.{◌≡◌, ◌++◌, sym, ap, ◌∙◌, arith, append_assoc, length-append}
use Rattle.std.specs.Slice.Iter.{chunks_rest, chunks_size}
use Rattle.aud_client.proofs.told.read_records.Goals as goal

pub loop-some-preserved : goal.loop-some-preserved
loop-some-preserved c =
    let l = c.loop-some in
    let some = c.in-Some.some.now in
    let read = l.invariant.read in
    let steps = c.in-Some.ensures.steps in
    let size : chunks_size c.next.new.self ≡ 256 = steps.0 ∙ l.invariant.size in
    record {
      can_next = omega (arith, size);
      is_finite = tt;
      size = size;
      read = read ++ some;
      all = append_assoc read some (chunks_rest c.next.new.self) ∙ ap (λ r. read ++ r) (sym steps.1.0) ∙ l.invariant.all;
      number = omega (arith, l.invariant.number, length-append read some);
      kept = λ done told begun. c.in_ok-read_some.ensures c.args.first done told read l.invariant.number (l.invariant.kept done told begun);
    }
