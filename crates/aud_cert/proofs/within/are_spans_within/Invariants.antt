use Rattle.std.proofs.Common.{◌≡◌, drop}
use Rattle.std.specs.List.{list_all}
use Rattle.aud_cert.specs.Reading.{is_span_within}
use Rattle.aud_cert.proofs.within.are_spans_within.Given as goal

abbrev pub invariant-loop-span : goal.invariant-loop-span
invariant-loop-span l = list_all (is_span_within l.logs) (drop l.span-index l.spans) ≡ list_all (is_span_within l.logs) l.spans
