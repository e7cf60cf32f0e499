use Rattle.std.proofs.Common.{◌≡◌, slice_get}
use Rattle.std.specs.List.{list_any}
use Rattle.aud_base.specs.Lists.{numbers_from}
use Rattle.aud_causes.specs.NamedEntries.{names_entry}
use Rattle.aud_causes.proofs.recorded.is_in_log.Given as goal

-- one so far does
abbrev pub invariant-loop-number : goal.invariant-loop-number
invariant-loop-number l = l.named ≡ list_any (λ number. names_entry l.off (slice_get l.log.recs number)) (numbers_from 0 l.number)
