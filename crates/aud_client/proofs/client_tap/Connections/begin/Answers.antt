use Rattle.std.proofs.Common.{◌∷◌, ◌++◌, [], map, ap, ◌∙◌}
use Rattle.std.specs.Option.{option_or}
use Rattle.std.proofs.lemmas.List.{map-append}
use Rattle.aud_client.specs.Private.ConnectionRead.{inside, packets_read}
use Rattle.aud_client.specs.Seen.{connection_seen, connections_seen, placed_seen}
use Rattle.aud_client.proofs.ClientLemmas.{packets-given, bad-given}
use Rattle.aud_client.proofs.client_tap.Connections.begin.Goals as goal

pub returns-clause-connections : goal.returns-clause-connections
returns-clause-connections c =
    let reader = c.in_ok-reader.reader in
    let packets = packets-given c.args.first (inside c.args.recs.now) (packets_read reader) reader c.in_ok-reader.ensures in
    ap connections_seen c.in_ok-push.ensures.items
    ∙ map-append connection_seen c.args.self.now.list.items _
    ∙ ap (λ ps. connections_seen c.args.self.now.list.items ++ record { c = c.args.c; packets = ps } ∷ []) (ap (map placed_seen) c.into_packets-packets.ensures ∙ packets)

pub returns-clause-bad : goal.returns-clause-bad
returns-clause-bad c =
    let reader = c.in_ok-reader.reader in
    c.or-self.ensures ∙ ap (option_or c.args.self.now.bad) (bad-given c.args.first (inside c.args.recs.now) (packets_read reader) reader c.in_ok-reader.ensures)
