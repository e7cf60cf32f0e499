use Rattle.std.proofs.Common.{◌≡◌, Some, true, length, nat_le, refl, sym, arith}
use Rattle.std.proofs.lemmas.Bool.Decides.{nat_tests}
use Rattle.aud_tap.specs.Limits.{max_line}
use Rattle.aud_reader.specs.Record.{cut_at_blank, opened_line}
use Rattle.aud_reader.proofs.bundle.open_taps.OpenTaps.known_line.Goals as goal

pub returns : goal.returns
unfolding opened_line
returns c =
    let at = c.in_ok-place.ensures in
    let fits : nat_le (length c.args.line.now) max_line ≡ true = grind (arith, nat_tests, c.if-line-gt-MAX_LINE.false) in
    let cut : cut_at_blank c.args.line.now ≡ Some (c.in_ok-name.name.now, c.in_ok-name.text.now) = sym c.in_ok-name.ensures in
    record { name = c.in_ok-name.name.now; at = at; opens = rw (fits, cut, c.requires.forms c.in_ok-name.name.now c.in_ok-place.place at) refl }
