use Rattle.std.proofs.Common.{◌≡◌, ◌++◌, Some, map}
use Rattle.std.specs.Slice.Iter.{chunks_rest, chunks_size}
use Rattle.aud_tap.specs.declared.records.Rec.TheVariants as rec
use Rattle.aud_tap.specs.declared.records.TapKind.TheVariants as kind
use Rattle.aud_tap.specs.declared.records.Version.{Version}
use Rattle.aud_reader.specs.OwnLines.{records_for}
use Rattle.aud_parts.specs.ServersRead.{header_for}
use Rattle.aud_parts.proofs.servers.read_lines.Given as goal

-- the records of the pieces so far were added
abbrev pub invariant-loop-piece : goal.invariant-loop-piece
invariant-loop-piece l = goal.iterator-loop-piece.can_next l.piece-iterator × goal.iterator-loop-piece.is_finite l.piece-iterator
    × (chunks_size l.piece-iterator ≡ 65536)
    × ((v : Version) → header_for l.name l.header ≡ Some (kind.Node, v) → map rec.Node l.log ++ records_for l.name (chunks_rest l.piece-iterator) ≡ map rec.Node l.fn.log ++ records_for l.name l.lines)
