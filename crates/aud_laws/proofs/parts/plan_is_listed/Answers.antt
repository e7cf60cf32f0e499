use Rattle.std.proofs.Common.{◌∙◌}
use Rattle.aud_base.specs.Lists.{numbers_from}
use Rattle.aud_laws.proofs.InParts.Planned.{listed-parts}
use Rattle.aud_laws.proofs.parts.plan_is_listed.Goals as goal

pub returns : goal.returns
returns c = λ taps told plan listing of listed.
    let together = c.plans_keep_together.ensures taps told plan of in
    record {
      is_one = listed.is_one;
      sessions = listed.pids ∙ together.sessions_are;
      parts = listed-parts taps listing.sessions plan.sessions plan.parts.items listed.pids listed.parts together.keeps_clients together.keeps_firsts (numbers_from 0 listing.parts);
    }
