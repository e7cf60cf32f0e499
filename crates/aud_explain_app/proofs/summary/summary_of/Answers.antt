use Rattle.std.proofs.Common.{◌∙◌, ap, arith}
use Rattle.aud_explain_app.specs.Summary.Counts.{sum_of_classes, sum_of_faults}
use Rattle.aud_explain_app.proofs.Sums.{yes-and-no, granted-and-refused, by-class, by-fault}
use Rattle.aud_explain_app.proofs.summary.summary_of.Goals as goal

pub overflow_sub-no : goal.overflow_sub-no
overflow_sub-no c = omega (arith, c.count_yes-yes.ensures, yes-and-no c.args.verdicts.now)

pub returns-clause-no : goal.returns-clause-no
returns-clause-no c = omega (arith, c.count_yes-yes.ensures, yes-and-no c.args.verdicts.now)

pub returns-clause-answered : goal.returns-clause-answered
returns-clause-answered c = omega (arith, c.count_yes-yes.ensures, yes-and-no c.args.verdicts.now)

pub returns-clause-by_class : goal.returns-clause-by_class
returns-clause-by_class c =
    ap sum_of_classes c.classes_in.ensures ∙ by-class c.args.verdicts.now ∙ omega (arith, c.count_yes-yes.ensures, yes-and-no c.args.verdicts.now)

pub returns-clause-by_fault : goal.returns-clause-by_fault
returns-clause-by_fault c =
    ap sum_of_faults c.faults_in.ensures ∙ by-fault c.args.verdicts.now ∙ omega (arith, c.count_yes-yes.ensures, yes-and-no c.args.verdicts.now)

pub returns-clause-all_recoveries : goal.returns-clause-all_recoveries
returns-clause-all_recoveries c = omega (arith, granted-and-refused c.args.recoveries.now)
