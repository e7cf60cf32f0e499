use Rattle.std.proofs.Common.{◌++◌, ◌∙◌, ap, map}
use Rattle.aud_eio.specs.Packet.{engine_view}
use Rattle.aud_eio.specs.Body.{engine_packets_of, body_of}
use Rattle.aud_eio.proofs.ReadBack.{body_reads_back}
use Rattle.aud_eio.proofs.body.encode_payload.Goals as goal

pub returns-clause-reads_back : goal.returns-clause-reads_back
returns-clause-reads_back c =
    let body = c.in_ok-push_packets.ensures.body ∙ ap (λ front. front ++ body_of (map engine_view c.args.packets.now)) c.new-body.ensures.bytes in
    ap engine_packets_of body ∙ body_reads_back c.args.packets.now c.requires.some c.requires.fit c.in_ok-push_packets.ensures.read_back
