use Rattle.std.proofs.Common.{rules, ◌≡◌, ◌∙◌, [], None, false, ap, arith, refl, replicate, subst, sym}
use Rattle.std.proofs.lemmas.List.{take_all}
use Rattle.aud_causes.specs.Private.Noting.{break_in}
use Rattle.aud_causes.specs.Turns.{ended_by, turn_count}
use Rattle.aud_causes.proofs.TurnLemmas.{AreBegins, AreNoted, begins_are, breaks, begins_more, broken_are, broken_more, ended_are, ended_more, none_begun, none_noted}
use Rattle.aud_causes.proofs.turns.turns_of.Goals as goal

pub loop-number-init : goal.loop-number-init
loop-number-init c =
    let count = turn_count 0 c.args.marks.now in
    let not_begun : c.in_ok-begins.begins.items ≡ replicate count None = search rules in
    let not_broken : c.in_ok-broken.broken.items ≡ replicate count false = search rules in
    let not_ended : c.in_ok-ended.ended.items ≡ replicate count false = search rules in (
      subst (AreBegins count []) (sym not_begun) (none_begun count),
      subst (AreNoted breaks count []) (sym not_broken) (none_noted breaks count),
      subst (AreNoted (ended_by c.args.marks.now) count []) (sym not_ended) (none_noted (ended_by c.args.marks.now) count),
    )

pub loop-number-preserved : goal.loop-number-preserved
loop-number-preserved c =
    let marks = c.args.marks.now in
    let count = turn_count 0 marks in
    let i = c.loop-number.number in
    let held = c.loop-number.invariant in
    let broken = c.loop-number.broken.items in
    let ended = c.loop-number.ended.items in
    let begun_is = begins_more count marks i _ _ c.loop-number.begins.items c.note_begin.new.begins.items c.loop-number-test.true refl c.note_begin.ensures held.0 in
    let broken_is = broken_more count marks i _ _ broken c.note_turn.new.turns.items c.loop-number-test.true refl (c.note_turn.ensures ∙ ap (λ turn. break_in turn broken) c.broken_turn.ensures) held.1 in
    let ended_is = ended_more count marks i ended c.note_turn-in-loop-number.new.turns.items (c.note_turn-in-loop-number.ensures ∙ ap (λ turn. break_in turn ended) c.ended_by.ensures) held.2 in
    (begun_is, broken_is, ended_is)

pub returns-clause-begins : goal.returns-clause-begins
returns-clause-begins c =
    let marks = c.args.marks.now in
    let begins = c.loop-number.begins.items in
    begins_are marks begins
    (subst (λ seen. AreBegins (turn_count 0 marks) seen begins) (take_all c.loop-number.number marks c.loop-number-test.false) c.loop-number.invariant.0)

pub returns-clause-broken : goal.returns-clause-broken
returns-clause-broken c =
    let marks = c.args.marks.now in
    let broken = c.loop-number.broken.items in
    broken_are marks broken
    (subst (λ seen. AreNoted breaks (turn_count 0 marks) seen broken) (take_all c.loop-number.number marks c.loop-number-test.false) c.loop-number.invariant.1)

pub returns-clause-ended : goal.returns-clause-ended
returns-clause-ended c =
    ended_are c.args.marks.now c.loop-number.number c.loop-number.ended.items (omega (arith, c.loop-number-test.false, c.loop-number.auto.number-end)) c.loop-number.invariant.2
