use Rattle.std.proofs.Common.{rules}
use Rattle.aud_sio.specs.Packet.{packet_of}
use Rattle.aud_sio.proofs.packet.decode_with.Goals as goal

pub returns-clause-spelled : goal.returns-clause-spelled
unfolding packet_of
returns-clause-spelled c = record { text = c.args.text.now; reads = search rules }
