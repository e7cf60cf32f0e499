use Rattle.std.proofs.Common.{◌≡◌, ◌++◌, length, map, flat_map, ap, ◌∙◌, arith}
use Rattle.aud_base.specs.Places.{numbers_from}
use Rattle.aud_explain_app.specs.Alike.{telling_of, told_at, told_by}
use Rattle.aud_explain_app.proofs.Sharing.{lent, told_all, told_more}
use Rattle.aud_explain_app.proofs.alike.told_once.Goals as goal

pub loop-number-preserved : goal.loop-number-preserved
loop-number-preserved c =
    let recording = c.args.recording.now in
    let sessions = c.args.sessions.now in
    let session = c.index-sessions-number.result in
    let before = map telling_of c.loop-number.told.items in
    told_more recording sessions c.loop-number.number session before (map telling_of c.push_told.new.told.items) (omega arith) c.index-sessions-number.is c.loop-number.invariant
    (c.in_ok-push_told.ensures recording c.in_ok-index.ensures
    ∙ ap (λ at. before ++ told_by recording (lent sessions) c.loop-number.number session.now at) (c.as_deref.ensures.value ∙ c.in_ok-at.ensures))

pub returns : goal.returns
returns c =
    let all : c.loop-number.number ≡ length c.args.sessions.now = omega arith in
    told_all c.args.recording.now c.args.sessions.now (map telling_of c.loop-number.told.items)
    (c.loop-number.invariant ∙ ap (λ n. flat_map (told_at c.args.recording.now (lent c.args.sessions.now)) (numbers_from 0 n)) all)
