use Rattle.std.proofs.Common.{◌∙◌}
use Rattle.aud_cert.proofs.Named.{lent-named}
use Rattle.aud_cert.proofs.lend.node_named.Goals as goal

pub returns-clause-name : goal.returns-clause-name
returns-clause-name c =
    c.as_str.ensures ∙ lent-named c.args.logs.now.taps c.args.name.now c.in_ok-place.place c.taps.result.now c.in_ok-tap.tap c.taps.ensures c.in_ok-place.ensures c.in_ok-tap.ensures.lookup.3
