use Rattle.std.proofs.Common.{sym, subst, arith}
use Rattle.std.proofs.lemmas.Result.{IfOk-weaker}
use Rattle.aud_rooms.specs.Assigned.{AreSpansOf}
use Rattle.aud_rooms.specs.Private.Building.{assigned_of}
use Rattle.aud_rooms.proofs.Times.{apart_lower}
use Rattle.aud_rooms.proofs.Kept.{finished}
use Rattle.aud_rooms.proofs.building.Building.finish.Goals as goal

pub spans_of_rooms-requires : goal.spans_of_rooms-requires
spans_of_rooms-requires c =
    λ room t found. apart_lower c.self.inside.low 0 c.self.inside.covered t.ended t.since (c.self.invariant.apart room t found) (omega arith)

pub returns : goal.returns
returns c =
    let at = c.self.inside in
    IfOk-weaker c.spans_of_rooms.result _ _
    (λ spans is.
    subst (λ given. AreSpansOf given spans.items) c.self.view_is
    (subst (λ l. AreSpansOf (assigned_of at.low at.covered at.rooms.entries) l) (sym is) (finished at.low at.covered at.rooms.entries c.self.invariant c.spans_of_rooms.ensures.ordered)))
    c.spans_of_rooms.ensures.spans
