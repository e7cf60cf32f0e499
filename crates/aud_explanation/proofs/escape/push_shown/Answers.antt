use Rattle.std.proofs.Common.{rules, ◌≡◌, ◌++◌, ℕ, ◌-◌, ◌^◌, false, true, eqb, [], codes, arith, refl}
use Rattle.std.proofs.lemmas.Grind.{common_steps}
use Rattle.std.proofs.lemmas.Bool.Decides.{nat_tests}
use Rattle.std.proofs.lemmas.Fmt.{hex_byte}
use Rattle.std.specs.Char.{is_control}
use Rattle.std.specs.Fmt.{padded_integral, format_spec, digits}
use Rattle.aud_explanation.proofs.Apart.{control_small}
use Rattle.aud_explanation.specs.Printed.{shown}
use Rattle.aud_explanation.proofs.escape.push_shown.Goals as goal

-- how a control character is printed
shown-control : (c : ℕ) → eqb c 92 ≡ false → is_control c ≡ true
    → codes "\\x" ++ padded_integral (format_spec 32 0 4 2 (2 ^ 64 - 1)) false [] (digits 16 false c) ≡ shown c
shown-control c other is = rw (other, is, hex_byte false c (control_small c is)) refl

pub returns-then-is_control : goal.returns-then-is_control
returns-then-is_control c =
    let is : is_control c.args.c ≡ true = search rules in
    let other : eqb c.args.c 92 ≡ false = grind (arith, nat_tests) in
    let e = shown-control c.args.c other is in
    grind (arith, common_steps)
