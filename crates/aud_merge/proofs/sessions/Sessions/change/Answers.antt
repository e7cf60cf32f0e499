use Rattle.std.proofs.Common.{sym, ap, ◌∙◌, Some, None, is_some}
use Rattle.std.proofs.lemmas.Result.{on_ok_weaker, on_err_weaker}
use Rattle.std.proofs.lemmas.Map.Steps.{set_value_same}
use Rattle.std.specs.FinMap as fin
use Rattle.std.specs.Ordering.{nat_cmp, is_eq}
use Rattle.std.specs.Cmp.Lexicographic.{slice_cmp}
use Rattle.aud_node.specs.TurnRecords.{pid_of}
use Rattle.aud_merge.specs.SessionSeen.{session_seen}
use Rattle.aud_merge.specs.Private.SessionsSeen.{sessions_seen}
use Rattle.aud_merge.proofs.Maps.{found, allowed_there, changed_there, sessions_of-insert}
use Rattle.aud_merge.proofs.sessions.Sessions.change.Goals as goal

pub change-requires : goal.change-requires
change-requires c =
    allowed_there c.args.node c.args.rec.now (pid_of c.args.rec.now) c.args.self.now c.as_str-pid.result.now (ap Some c.as_str-pid.ensures ∙ c.in-Some.ensures) (session_seen c.in-Some-get_mut.session.now)
    (found c.self.inside.map.entries c.args.self.now c.self.view_is c.as_str-pid.result.now (Some c.in-Some-get_mut.session.now) c.in-Some-get_mut.ensures.value)
    c.requires

pub open-requires : goal.open-requires
open-requires c =
    allowed_there c.args.node c.args.rec.now (pid_of c.args.rec.now) c.args.self.now c.as_str-pid.result.now (ap Some c.as_str-pid.ensures ∙ c.in-Some.ensures) _
    (found c.self.inside.map.entries c.args.self.now c.self.view_is c.as_str-pid.result.now None c.in-None.ensures.value)
    c.requires

pub returns-in-Some-get_mut-clause-changed : goal.returns-in-Some-get_mut-clause-changed
returns-in-Some-get_mut-clause-changed c =
    on_ok_weaker c.change.result
    (λ becomes.
    changed_there c.args.node c.args.rec.now (pid_of c.args.rec.now) c.args.self.now c.as_str-pid.result.now (ap Some c.as_str-pid.ensures ∙ c.in-Some.ensures) (session_seen c.in-Some-get_mut.session.now)
    (found c.self.inside.map.entries c.args.self.now c.self.view_is c.as_str-pid.result.now (Some c.in-Some-get_mut.session.now) c.in-Some-get_mut.ensures.value)
    (session_seen c.change.new.self) (sessions_seen (c.get_mut.follows.lender c.change.new.self).entries) becomes
    (sessions_of-insert c.self.inside.map.entries (c.get_mut.follows.lender c.change.new.self).entries c.as_str-pid.result.now c.change.new.self
    (((c.get_mut.follows.holds c.change.new.self).3 (ap is_some (sym c.in-Some-get_mut.ensures.value))).0)
    ∙ ap (λ m. fin.insert m c.as_str-pid.result.now (session_seen c.change.new.self)) c.self.view_is))
    c.change.ensures.changed

pub returns-in-Some-get_mut-clause-unchanged : goal.returns-in-Some-get_mut-clause-unchanged
returns-in-Some-get_mut-clause-unchanged c =
    on_err_weaker c.change.result
    (λ same.
    ap sessions_seen ((c.get_mut.follows.holds c.change.new.self).0 ∙ set_value_same (λ k. is_eq (slice_cmp nat_cmp c.as_str-pid.result.now k.now)) c.self.inside.map.entries c.change.new.self (sym c.in-Some-get_mut.ensures.value ∙ ap Some (sym same)))
    ∙ c.self.view_is)
    c.change.ensures.unchanged
