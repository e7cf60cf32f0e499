use Rattle.std.proofs.Common.{◌≡◌, ◌∙◌, Bor, MatchOption, Option, ap, map, subst}
use Rattle.std.proofs.lemmas.Result.{IfOk-weaker}
use Rattle.aud_client.specs.declared.frame.Frame.{Frame}
use Rattle.aud_client.specs.declared.stay.Stay.{Stay}
use Rattle.aud_check.specs.Frames.{frames_in}
use Rattle.aud_session_facts.specs.Account.{stays_of}
use Rattle.aud_findings.specs.declared.also.Others.{Others}
use Rattle.aud_findings.specs.Also.{AreOthers, HasNoOthers, lines_of, others_seen, told_of}
use Rattle.aud_findings.proofs.ByAccount.{none_told, told_of_session}
use Rattle.aud_findings.proofs.also.also_by.Goals as goal

pub returns-in_default : goal.returns-in_default
returns-in_default c =
    let here = c.args.sheet.now.recording.now in
    let a = c.args.account.now in
    let fault = c.args.fault.now in
    none_told here c.args.sheet.now.lines.now c.args.pid.now a.client (stays_of a) a.due.items c.requires.account.is fault
    (subst (λ (o : Option Others). MatchOption o (HasNoOthers here a.client (stays_of a) a.due.items fault) (λ others. AreOthers here.stream (stays_of a) a.due.items fault others.by others.positions.items))
    c.in_default.is c.in_ok-found.ensures)
    _ c.no_others.ensures

pub returns : goal.returns
returns c =
    let here = c.args.sheet.now.recording.now in
    let lines = c.args.sheet.now.lines.now in
    let a = c.args.account.now in
    let fault = c.args.fault.now in
    let others = c.in-Some.others in
    let place = c.args.tap.now.place in
    let numbers = c.numbers_naming-numbers.result.now in
    let frames = map (λ frame. frame.now) c.as_slice-frames.result.now in
    let frames_are : frames ≡ frames_in (stays_of a) =
    ap (map (λ (frame : Bor Frame). frame.now)) c.as_slice-frames.ensures.value ∙ c.in_ok-came.ensures
    ∙ ap (λ (stays : _). frames_in (map (λ (stay : Bor Stay). stay.now) stays)) c.as_slice.ensures.value in
    let those : AreOthers here.stream (stays_of a) a.due.items fault others.by others.positions.items =
    subst (λ (o : Option Others). MatchOption o (HasNoOthers here a.client (stays_of a) a.due.items fault) (λ others. AreOthers here.stream (stays_of a) a.due.items fault others.by others.positions.items))
    c.in-Some.is c.in_ok-found.ensures in
    IfOk-weaker c.told.result _ _ (λ also h.
    told_of_session here lines c.args.pid.now a.client (stays_of a) a.due.items c.requires.account.is fault others.by others.positions.items those
    place numbers frames c.requires.place c.numbers_naming-numbers.ensures frames_are (others_seen also)
    (h ∙ ap (told_of (lines_of others.by here lines place numbers frames)) c.as_slice-positions.ensures.value)) c.told.ensures
