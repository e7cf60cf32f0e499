use Rattle.std.proofs.lemmas.List.Filters.{dedup_is}
use Rattle.std.proofs.lemmas.Map.Keys.{IsStrictlyIncreasing-dedup}
use Rattle.aud_findings.proofs.AllOf.{all_once}
use Rattle.aud_findings.proofs.others.ascending.Goals as goal

pub returns : goal.returns
returns c =
    let is = dedup_is _ _ _ c.dedup.ensures.filtered in
    all_once c.args.positions.items _ _ c.sort_unstable.ensures.permutation is (rw is (IsStrictlyIncreasing-dedup _ c.sort_unstable.ensures.sorted))
