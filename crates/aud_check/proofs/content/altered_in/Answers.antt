use Rattle.std.proofs.Common.{map, sym, subst, ◌∙◌}
use Rattle.aud_client.specs.StaySeen.{StaySeen}
use Rattle.aud_check.specs.Frames.{AreEntries}
use Rattle.aud_base.proofs.Lists.{any-map}
use Rattle.aud_check.proofs.Unaltered.{entries_of_stays}
use Rattle.aud_check.proofs.content.altered_in.Goals as goal

pub returns-then-not-has_altered : goal.returns-then-not-has_altered
returns-then-not-has_altered c =
    subst (AreEntries c.args.stream.now) (sym c.requires.frames)
    (entries_of_stays c.args.stream.now (map (λ stay. stay.now) c.args.stays.now) c.requires.altered
    (any-map (λ (stay : StaySeen). stay.altered) (λ stay. stay.now) c.args.stays.now ∙ sym c.has_altered.ensures ∙ c.if-not-has_altered.true))
