use Rattle.aud_findings.specs.Private.Seen.{is_also_by}
use Rattle.aud_findings.proofs.AllOf.{all_passing}
use Rattle.aud_findings.proofs.others.among.Goals as goal

pub returns : goal.returns
returns c =
    all_passing (is_also_by c.args.against.now c.args.difference) c.args.positions.now c.in_ok-found.found.items _
    (c.in_ok-found.ensures c.args.against.now c.in_ok-seen.ensures) c.ascending.ensures
