use Rattle.std.proofs.Common.{◌∙◌, ap, length, subst}
use Rattle.std.specs.List.{AllZip}
use Rattle.aud_base.specs.Lists.{numbers_from}
use Rattle.aud_node.specs.Cluster.{Cluster}
use Rattle.aud_findings.specs.Private.ReadTaps.{AreWanted, IsReadBy}
use Rattle.aud_findings.proofs.Read.{read_all}
use Rattle.aud_findings.proofs.prepared.Prepared.read.Goals as goal

pub returns-clause-read : goal.returns-clause-read
returns-clause-read c =
    let here = c.args.recording.now in
    let places = c.args.places.now in
    let wanted = c.in_ok-wanted.wanted.items in
    read_all here places c.args.orders wanted (record { taps = c.in_ok-taps.taps })
    (subst (λ n. AreWanted n places wanted) (ap length (c.taps-count.ensures ∙ ap (λ (k : Cluster). k.taps) c.logs.ensures)) c.in_ok-wanted.ensures)
    (subst (λ marks. AllZip (IsReadBy here marks c.args.orders) (numbers_from 0 (length marks)) c.in_ok-taps.taps.items) c.as_slice.ensures.value c.in_ok-taps.ensures)

pub returns-clause-prepared : goal.returns-clause-prepared
returns-clause-prepared c = record { places = c.args.places.now; orders = c.args.orders; are_read = returns-clause-read c }
