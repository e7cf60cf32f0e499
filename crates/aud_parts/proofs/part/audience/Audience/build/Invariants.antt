use Rattle.std.proofs.Common.{◌≡◌, ◌||◌, take}
use Rattle.std.specs.List.{list_any}
use Rattle.aud_node.specs.Stream.{Text}
use Rattle.aud_parts.specs.MadeOther.{any_record}
use Rattle.aud_parts.specs.Part.{opens_nsp, grants}
use Rattle.aud_parts.specs.Private.OwnRecords.{has, passes_own}
use Rattle.aud_parts.proofs.part.audience.Audience.build.Given as goal

-- those of the taps so far
abbrev pub invariant-loop-tap : goal.invariant-loop-tap
invariant-loop-tap l =
    record {
      namespaces : (q : Text) → has l.audience.namespaces q ≡ any_record (passes_own (has l.own) (opens_nsp q)) (take l.tap-index l.taps);
      rooms : (q : Text) → has l.audience.rooms q ≡ any_record (passes_own (has l.own) (grants q)) (take l.tap-index l.taps);
    }

-- what the tap's records so far tell is added
abbrev pub invariant-loop-number : goal.invariant-loop-number
invariant-loop-number l =
    record {
      namespaces : (q : Text) → has l.audience.namespaces q ≡ (has l.initial.audience.namespaces q || list_any (passes_own (has l.own) (opens_nsp q)) (take l.number l.recs));
      rooms : (q : Text) → has l.audience.rooms q ≡ (has l.initial.audience.rooms q || list_any (passes_own (has l.own) (grants q)) (take l.number l.recs));
    }
