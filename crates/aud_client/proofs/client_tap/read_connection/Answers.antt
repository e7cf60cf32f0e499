use Rattle.aud_client.proofs.ConnectionLemmas.{HasRead-none}
use Rattle.aud_client.proofs.client_tap.read_connection.Goals as goal

pub returns : goal.returns
returns c =
    c.in_ok-read_all.ensures (HasRead-none c.args.first c.new-reader.result c.new-reader.ensures.assembler c.new-reader.ensures.packets c.new-reader.ensures.bad)
