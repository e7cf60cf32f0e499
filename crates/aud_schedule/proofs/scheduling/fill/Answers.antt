use Rattle.std.proofs.Common.{[], rules, subst}
use Rattle.aud_schedule.specs.declared.course.Size.{Size}
use Rattle.aud_schedule.specs.Acts.{IsQuiet}
use Rattle.aud_schedule.proofs.Growing.{grown-then, grown-quiet, quiet-settled}
use Rattle.aud_schedule.proofs.scheduling.fill.Goals as goal

pub loop-place-preserved : goal.loop-place-preserved
loop-place-preserved c =
    let size = c.args.course.now.size in
    let quiet = subst (λ (s : Size). IsQuiet s c.in_ok-act.act) c.loop-place.invariant.size c.in_ok-act.ensures.act in
    let one = grown-quiet size c.in_ok-act.act c.loop-place.acts.items c.add.new.acts.items quiet (c.in_ok-add.ensures.grown size (quiet-settled c.in_ok-act.act quiet.no_fault) quiet.within) in
    record {
      size = search rules;
      length = search rules;
      grown = grown-then size c.loop-place.place 1 [] [] c.args.acts.now.items c.loop-place.acts.items c.add.new.acts.items c.loop-place.invariant.grown one;
    }
