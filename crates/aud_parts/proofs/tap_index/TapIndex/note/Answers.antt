use Rattle.std.proofs.Common.{◌∙◌, sym, ap, subst}
use Rattle.std.proofs.lemmas.Result.{on_ok_weaker}
use Rattle.aud_input.specs.LineName.{name_of}
use Rattle.aud_input.proofs.NameLemmas.{name_of-front}
use Rattle.aud_parts.specs.Private.IndexSteps.{Looks}
use Rattle.aud_parts.proofs.LookLemmas.{looks-empty, looks-long, looks-named, looks-past, looks-some, looks-unnamed, measured-is}
use Rattle.aud_parts.proofs.tap_index.TapIndex.note.Goals as goal

pub returns-then-is_some : goal.returns-then-is_some
returns-then-is_some c = λ text begun to keeps. looks-past c.args.self.now c.args.line text keeps (sym c.if-is_some.ensures)

pub returns-then-measured-eq0 : goal.returns-then-measured-eq0
returns-then-measured-eq0 c = λ text begun to keeps. looks-empty c.args.self.now c.args.line text c.saturating_sub-measured.result keeps c.if-measured-eq0.true (measured-is c.args.self.now.begun text c.from-ending.result c.saturating_sub-measured.result begun c.from-ending.ensures c.saturating_sub-measured.ensures)

pub returns-then-measured : goal.returns-then-measured
returns-then-measured c = λ text begun to keeps.
    let size = measured-is c.args.self.now.begun text c.from-ending.result c.saturating_sub-measured.result begun c.from-ending.ensures c.saturating_sub-measured.ensures in
    subst (Looks c.args.self.now _) (looks-some c.args.self.now c.args.line text c.saturating_sub-measured.result c.if-measured-eq0.false size (sym c.if-is_some.ensures))
    (looks-long c.args.self.now c.args.line text c.saturating_sub-measured.result keeps c.if-measured.true size)

pub returns-in-Some : goal.returns-in-Some
returns-in-Some c = λ text begun to keeps.
    let size = measured-is c.args.self.now.begun text c.from-ending.result c.saturating_sub-measured.result begun c.from-ending.ensures c.saturating_sub-measured.ensures in
    let named = sym (name_of-front text) ∙ ap name_of (sym begun.front ∙ sym c.deref.ensures.value) ∙ sym c.in-Some.ensures.value in
    on_ok_weaker c.note.result
    (subst (Looks c.args.self.now (record c.args.self.now { runs = c.note.new.self })) (looks-some c.args.self.now c.args.line text c.saturating_sub-measured.result c.if-measured-eq0.false size (sym c.if-is_some.ensures)))
    (looks-named c.note.result c.args.self.now c.note.new.self c.args.line text c.in-Some.name.now c.saturating_sub-measured.result to c.if-measured.false size named (c.note.ensures keeps))

pub returns-in-None : goal.returns-in-None
returns-in-None c = λ text begun to keeps.
    let size = measured-is c.args.self.now.begun text c.from-ending.result c.saturating_sub-measured.result begun c.from-ending.ensures c.saturating_sub-measured.ensures in
    let named = sym (name_of-front text) ∙ ap name_of (sym begun.front ∙ sym c.deref.ensures.value) ∙ sym c.in-None.ensures.value in
    subst (Looks c.args.self.now _) (looks-some c.args.self.now c.args.line text c.saturating_sub-measured.result c.if-measured-eq0.false size (sym c.if-is_some.ensures))
    (looks-unnamed c.args.self.now c.args.line text c.saturating_sub-measured.result keeps c.if-measured.false size named)
