use Rattle.std.proofs.Common.{[], rules, subst, true, ◌≡◌, refl}
use Rattle.aud_schedule.specs.declared.course.Size.{Size}
use Rattle.aud_schedule.specs.Size.{IsUpTo}
use Rattle.aud_schedule.proofs.Growing.{grown-then}
use Rattle.aud_schedule.proofs.faults.catch_up.Goals as goal

pub loop-taken-preserved : goal.loop-taken-preserved
loop-taken-preserved c =
    let lags : c.lags.result ≡ true = search rules in
    let there = subst (λ (s : Size). IsUpTo s.nodes c.args.node) c.loop-taken.invariant.size (c.lags.ensures lags) in
    record {
      size = search rules;
      grown = grown-then c.args.course.now.size c.loop-taken.taken 1 [] [] c.args.acts.now.items c.loop-taken.acts.items c.add.new.acts.items
          c.loop-taken.invariant.grown (c.in_ok-add.ensures.grown c.args.course.now.size refl there);
    }
