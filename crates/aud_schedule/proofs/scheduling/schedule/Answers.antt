use Rattle.std.proofs.Common.{[], ◌∙◌, map, option_to_list}
use Rattle.aud_schedule.specs.declared.course.Size.{Size}
use Rattle.aud_schedule.specs.Acts.{kind_of}
use Rattle.aud_schedule.proofs.Growing.{grown-at, grown-whole}
use Rattle.aud_schedule.proofs.scheduling.schedule.Goals as goal

pub returns-clause-faults : goal.returns-clause-faults
returns-clause-faults c =
    let own = c.in_ok-course.course.size in
    let fs = map kind_of (option_to_list c.args.plan.now.fault) in
    let begun = c.begin.new.acts.items in
    let end = c.fill.new.acts.items in
    let rest = grown-at c.begin.new.course.size own c.args.plan.now.acts [] begun end c.begin.ensures.size c.in_ok-fill.ensures.acts in
    (grown-whole own c.args.plan.now.acts fs c.new-acts.result.items begun end c.new-acts.ensures.items c.in_ok-begin.ensures.acts rest).0

pub returns-clause-within : goal.returns-clause-within
returns-clause-within c =
    let own = c.in_ok-course.course.size in
    let size : Size = record { nodes = c.args.plan.now.nodes; clients = c.args.plan.now.clients } in
    let acts = c.args.plan.now.acts in
    let fs = map kind_of (option_to_list c.args.plan.now.fault) in
    let begun = c.begin.new.acts.items in
    let end = c.fill.new.acts.items in
    let front = grown-at own size acts fs c.new-acts.result.items begun c.in_ok-course.ensures c.in_ok-begin.ensures.acts in
    let rest = grown-at c.begin.new.course.size size acts [] begun end (c.begin.ensures.size ∙ c.in_ok-course.ensures) c.in_ok-fill.ensures.acts in
    (grown-whole size acts fs c.new-acts.result.items begun end c.new-acts.ensures.items front rest).1
