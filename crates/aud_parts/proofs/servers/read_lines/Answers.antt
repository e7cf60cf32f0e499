use Rattle.std.proofs.Common.{◌≡◌, ◌++◌, ap, map, option_map, sym, ◌∙◌, arith}
use Rattle.std.specs.Slice.Iter.{chunks_rest, chunks_size}
use Rattle.aud_tap.specs.declared.records.Rec.TheVariants as rec
use Rattle.aud_tap.specs.declared.taps.Tap.{Tap}
use Rattle.aud_node.specs.Cluster.{node_recs}
use Rattle.aud_reader.specs.Bundle.{tap_named}
use Rattle.aud_reader.specs.OwnLines.{records_for}
use Rattle.aud_parts.proofs.ServersLemmas.{log-piece, piece-log}
use Rattle.aud_parts.proofs.servers.read_lines.Goals as goal

pub loop-piece-preserved : goal.loop-piece-preserved
loop-piece-preserved c =
    let name = c.args.name.now in
    let steps = c.in-Some.ensures.steps in
    let piece = c.in-Some.piece.now in
    let size : chunks_size c.next.new.self ≡ 65536 = steps.0 ∙ c.loop-piece.invariant.2 in (
      omega (arith, size),
      tt,
      size,
      λ v says.
          log-piece name c.args.log.now c.loop-piece.log c.push_named.new.log (node_recs (option_map (λ (t : Tap). t.records) (tap_named name c.in-Ok.read))) piece (chunks_rest c.next.new.self) c.args.lines.now
          (c.in_ok-push_named-in-Ok.ensures ∙ ap (λ taps. c.loop-piece.log ++ node_recs (option_map (λ (t : Tap). t.records) (tap_named name taps))) c.as_slice.ensures)
          (piece-log name c.args.header.now piece v c.in-Ok.read c.in-Ok.ensures says)
          (ap (λ ls. map rec.Node c.loop-piece.log ++ records_for name ls) (sym steps.1.0) ∙ c.loop-piece.invariant.3 v says),
    )
