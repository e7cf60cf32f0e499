use Rattle.std.proofs.Common.{◌≡◌, ◌+◌, ◌∙◌, ◌≤◌, true, false, eqb, length, refl, sym, arith}
use Rattle.std.proofs.lemmas.Bool.Decides.{nat_tests}
use Rattle.std.proofs.lemmas.Iterator.{YieldsList-from_chars}
use Rattle.std.proofs.lemmas.Iterator.Consumers.{YieldsList-turn, YieldsList-end}
use Rattle.std.proofs.lemmas.List.{length_push, at_drop_all}
use Rattle.std.specs.Str.{chars}
use Rattle.aud_explanation.specs.Page.{columns, fits, word_fits}
use Rattle.aud_explanation.proofs.Laid.{within-room, word-blank, word-full, word-more}
use Rattle.aud_explanation.proofs.text.page.word_fits.Goals as goal

pub returns-then-c-eq32 : goal.returns-then-c-eq32
returns-then-c-eq32 c =
    let t = YieldsList-turn (YieldsList-from_chars c.args.text.now c.utf8.text cc) c.loop-c.yielded _ c.loop-c.yielded_by _ _ c.in-Some.c c.in-Some.is c.next.ensures.steps in
    let blank : eqb c.in-Some.c 32 ≡ true = rw c.if-c-eq32.true refl in
    sym (word-blank c.loop-c.column (length c.loop-c.yielded) c.in-Some.c (chars c.args.text.now) t blank) ∙ c.loop-c.invariant.1

pub returns-then-not-fits : goal.returns-then-not-fits
returns-then-not-fits c =
    let t = YieldsList-turn (YieldsList-from_chars c.args.text.now c.utf8.text cc) c.loop-c.yielded _ c.loop-c.yielded_by _ _ c.in-Some.c c.in-Some.is c.next.ensures.steps in
    let blank : eqb c.in-Some.c 32 ≡ false = grind (arith, nat_tests) in
    let full : fits c.loop-c.column c.in-Some.c ≡ false = sym c.fits.ensures ∙ c.if-not-fits.true in
    sym (word-full c.loop-c.column (length c.loop-c.yielded) c.in-Some.c (chars c.args.text.now) t blank full) ∙ c.loop-c.invariant.1

pub loop-c-preserved : goal.loop-c-preserved
loop-c-preserved c =
    let t = YieldsList-turn (YieldsList-from_chars c.args.text.now c.utf8.text cc) c.loop-c.yielded _ c.loop-c.yielded_by _ _ c.in-Some.c c.in-Some.is c.next.ensures.steps in
    let blank : eqb c.in-Some.c 32 ≡ false = grind (arith, nat_tests) in
    let room : fits c.loop-c.column c.in-Some.c ≡ true = sym c.fits.ensures ∙ c.if-not-fits.false in
    let more = word-more c.loop-c.column (length c.loop-c.yielded) c.in-Some.c (chars c.args.text.now) t blank room in
    let n = length_push c.loop-c.yielded c.in-Some.c in
    (rw c.columns-column.ensures (within-room (c.loop-c.column + columns c.in-Some.c) room), rw (c.columns-column.ensures, n) (sym more ∙ c.loop-c.invariant.1))

pub returns : goal.returns
returns c =
    let t = YieldsList-end (YieldsList-from_chars c.args.text.now c.utf8.text cc) c.loop-c.yielded _ c.loop-c.yielded_by _ _ c.in-None.is c.next.ensures.steps in
    let h : length (chars c.args.text.now) ≤ length c.loop-c.yielded = omega (arith, t.1) in
    let e = at_drop_all (word_fits c.loop-c.column) (chars c.args.text.now) (length c.loop-c.yielded) h in
    sym e ∙ c.loop-c.invariant.1
