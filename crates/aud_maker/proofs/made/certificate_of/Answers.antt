use Rattle.std.proofs.Common.{◌∙◌, map, refl, ap}
use Rattle.aud_maker.specs.Made.{turn_seen}
use Rattle.aud_maker.proofs.made.certificate_of.Goals as goal

pub returns : goal.returns
returns c = record {
  pid_is = c.in_ok-from_str.ensures.ok;
  client_is = refl;
  turns_are = c.in_ok-turns.ensures ∙ ap (map (turn_seen c.args.logs.now)) c.deref.ensures.value;
  spans_are = λ nsp. rw (← c.deref-2.ensures.value) (c.in_ok-spans.ensures nsp);
}
