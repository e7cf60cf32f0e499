use Rattle.std.proofs.Common.{sym}
use Rattle.aud_node.proofs.KnownIndexLemmas.{found-known}
use Rattle.aud_node.proofs.stream.Stream.known_before.Goals as goal

pub returns-in-Some-found_by_offset : goal.returns-in-Some-found_by_offset
returns-in-Some-found_by_offset c =
    sym (found-known c.args.self.now c.args.text.now c.in-Some-found_by_offset.before (sym c.in-Some-found_by_offset.ensures))
