use Rattle.std.proofs.Common.{sym, ap, ◌∙◌}
use Rattle.aud_node.specs.Known.{known_entry}
use Rattle.aud_node.proofs.KnownIndexLemmas.{sent-known}
use Rattle.aud_node.proofs.stream.Stream.guessed.Goals as goal

pub returns : goal.returns
returns c =
    let stream = c.self.inside.entries in
    let text = c.args.text.now in
    ap (λ s. known_entry s text) (sym c.self.view_is)
    ∙ sent-known stream text c.in_ok-before.before c.in_ok-entry.entry.now (c.distinct.ensures stream c.self.invariant.offsets_are c.if-not-distinct.false) (sym c.in_ok-entry.ensures) (sym c.is_sent_as.ensures ∙ c.if-not-is_sent_as.false)
