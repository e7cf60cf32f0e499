use Rattle.std.proofs.Common.{◌≡◌}
use Rattle.std.specs.List.{list_any}
use Rattle.aud_base.specs.Lists.{numbers_from}
use Rattle.aud_causes.specs.NamedEntries.{is_named_at}
use Rattle.aud_causes.proofs.recorded.is_named.Given as goal

-- one so far does
abbrev pub invariant-loop-place : goal.invariant-loop-place
invariant-loop-place l = l.named ≡ list_any (is_named_at l.logs l.off) (numbers_from 0 l.place)
