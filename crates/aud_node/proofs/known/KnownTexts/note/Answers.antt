use Rattle.std.proofs.Common.{◌≡◌, ◌==◌, cond, length, sym, ap, ◌∙◌, true, Some}
use Rattle.std.proofs.lemmas.Map.Text.{hash_map_updates_str}
use Rattle.aud_node.specs.Private.KnownIndex.{kept_entry}
use Rattle.aud_node.proofs.KnownIndexLemmas.{known-here}
use Rattle.aud_node.proofs.known.KnownTexts.note.Goals as goal

pub returns-in_ok-insert : goal.returns-in_ok-insert
returns-in_ok-insert c = λ text.
    let e = c.in-Ev.event in
    let alone : (length e.bin == 0) ≡ true = ap (λ b. length b == 0) (sym c.as_slice.ensures) ∙ sym c.is_empty.ensures ∙ c.if-is_empty.true in
    hash_map_updates_str c.as_str.result.now c.args.self.now.entries c.insert.new.self (Some c.args.index) c.in_ok-insert.ensures.updates text
    ∙ ap (λ b. cond b (Some c.args.index) (kept_entry c.args.self.now text)) (known-here text c.as_str.result.now c.args.entry.now e c.args.recoverable c.in-Ev.is c.as_str.ensures c.requires c.if-recoverable.true alone)
