use Rattle.std.proofs.Common.{◌≡◌, [], ap, ◌∙◌, sym, drop, length, arith}
use Rattle.std.specs.List.{fold}
use Rattle.std.proofs.lemmas.List.{drop_all}
use Rattle.aud_tap.specs.Rank.{after_byte, number_of, rank}
use Rattle.aud_tap.proofs.ranks.rank.Goals as goal

pub returns : goal.returns
unfolding rank
returns c =
    let l = c.loop-byte in
    let text = c.args.offset.now in
    let none : drop l.byte-index text ≡ [] = drop_all l.byte-index text (omega (arith, ap length c.as_bytes-byte-items.ensures.value, c.loop-byte-test.false)) in
    c.number_of.ensures ∙ ap number_of (ap (fold after_byte l.numbers) (sym none) ∙ l.invariant)
