use Rattle.std.proofs.Common.{◌≡◌, drop}
use Rattle.std.specs.List.{filter_map}
use Rattle.aud_maker.specs.Sessions.{stay_pid}
use Rattle.aud_base.specs.FirstTexts.{with_texts}
use Rattle.aud_maker.proofs.mentions.mention_replies.Given as goal

abbrev pub invariant-loop-stay : goal.invariant-loop-stay
invariant-loop-stay l =
    with_texts l.mentioned (filter_map stay_pid (drop l.stay-index l.stays)) ≡ with_texts l.initial.mentioned (filter_map stay_pid l.stays)
