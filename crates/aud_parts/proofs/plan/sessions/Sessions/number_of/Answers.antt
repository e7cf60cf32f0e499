use Rattle.std.proofs.Common.{◌∙◌, bytes_eq}
use Rattle.std.specs.Cmp.Lexicographic.{nat_list_eq_equiv}
use Rattle.std.specs.String.{string_bytes}
use Rattle.aud_parts.proofs.ListSteps.{position-first_index}
use Rattle.aud_parts.proofs.plan.sessions.Sessions.number_of.Goals as goal

pub returns : goal.returns
returns c =
    let pid = c.args.pid.now in
    rw (← c.self.view_is)
    (c.get_index_of.ensures.index
    ∙ position-first_index (λ k. bytes_eq pid (string_bytes k)) (λ own. bytes_eq own pid) string_bytes (λ k. nat_list_eq_equiv.symm pid (string_bytes k)) c.self.inside.pids.keys)
