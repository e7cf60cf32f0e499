use Rattle.std.proofs.Common.{◌≡◌, ◌++◌}
use Rattle.std.specs.List.{flat_map}
use Rattle.std.specs.Slice.Iter.{chunks_rest, chunks_size}
use Rattle.aud_reader.proofs.bundle.own_records.parts_of.Given as goal

abbrev pub invariant-loop-part : goal.invariant-loop-part
invariant-loop-part l = goal.iterator-loop-part.can_next l.part-iterator × goal.iterator-loop-part.is_finite l.part-iterator
    × (chunks_size l.part-iterator ≡ 1024) × (flat_map (λ part. part.now) l.parts.items ++ chunks_rest l.part-iterator ≡ l.lines)
