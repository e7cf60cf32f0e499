use Rattle.std.proofs.Common.{◌≡◌}
use Rattle.std.specs.List.{flat_map}
use Rattle.aud_base.proofs.paged.Paged.into_vec.Given as goal

abbrev pub invariant-loop-page : goal.invariant-loop-page
invariant-loop-page g l = l.all.items ≡ flat_map (λ page. page.items) l.yielded
