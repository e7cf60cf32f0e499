use Rattle.aud_schedule.proofs.Growing.{grown-quiet, quiet-settled}
use Rattle.aud_schedule.proofs.faults.emit_to_all.Goals as goal

pub returns-clause-acts : goal.returns-clause-acts
returns-clause-acts c =
    let quiet = c.in_ok-act.ensures.act in
    grown-quiet c.args.course.now.size c.in_ok-act.act c.args.acts.now.items c.add.new.acts.items quiet
    (c.in_ok-add.ensures.grown c.args.course.now.size (quiet-settled c.in_ok-act.act quiet.no_fault) quiet.within)
