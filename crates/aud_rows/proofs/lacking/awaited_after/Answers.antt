use Rattle.std.proofs.Common.{◌+◌, ◌∙◌, ap, drop, flat_map, sym}
use Rattle.aud_client.specs.TapPackets.{messages_at, numbered_records}
use Rattle.aud_rows.specs.Private.Awaited.{awaited}
use Rattle.aud_rows.proofs.LackingLemmas.{awaited-next}
use Rattle.aud_rows.proofs.lacking.awaited_after.Goals as goal

pub loop-i-preserved : goal.loop-i-preserved
loop-i-preserved c =
    let begin = c.begin_of-begin.result in
    let connection = c.split_at.result.1.now in
    let i = c.loop-i.i in
    ap (λ last. awaited last (flat_map messages_at (numbered_records (begin + (i + 1)) (drop (i + 1) connection))))
    (c.in_ok-last.ensures ∙ ap (λ rec. awaited c.loop-i.last (messages_at (begin + i, rec))) c.index-connection-i.is)
    ∙ sym (awaited-next c.loop-i.last begin connection i c.index-connection-i.result c.loop-i-test.true)
    ∙ c.loop-i.invariant
