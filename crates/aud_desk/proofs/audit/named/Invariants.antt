use Rattle.std.proofs.Common.{◌≡◌, ◌++◌, length, map, zip}
use Rattle.aud_desk.specs.Named.{session_verdict}
use Rattle.aud_desk.proofs.audit.named.Given as goal

abbrev pub invariant-loop-verdict : goal.invariant-loop-verdict
invariant-loop-verdict l = record {
  all : l.all.items ++ map session_verdict (zip l.pids.rest.items l.verdict-iterator.rest.items) ≡ map session_verdict (zip l.fn.pids.items l.fn.verdicts.items);
  len : length l.verdict-iterator.rest.items ≡ length l.pids.rest.items;
}
