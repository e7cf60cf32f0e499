use Rattle.std.proofs.Common.{◌≡◌, ◌++◌, ℕ, List, string_bytes, arith}
use Rattle.std.proofs.lemmas.Grind.{common_steps}
use Rattle.std.proofs.lemmas.Result.{on_ok_weaker}
use Rattle.aud_explanation.specs.AlikeText.{alike_text}
use Rattle.aud_explanation.specs.CauseText.{causes_text}
use Rattle.aud_explanation.specs.EventText.{events_text}
use Rattle.aud_explanation.specs.Long.{long_text}
use Rattle.aud_explanation.specs.RefusedText.{refused_text}
use Rattle.aud_explanation.specs.Text.{shown_text}
use Rattle.aud_explanation.specs.TurnText.{turns_text}
use Rattle.aud_explanation.proofs.text.push_text.Goals as goal

-- six texts, one after the other
six : (o0 o1 o2 o3 o4 o5 o6 a b c d e f : List ℕ) → o1 ≡ o0 ++ a → o2 ≡ o1 ++ b → o3 ≡ o2 ++ c → o4 ≡ o3 ++ d → o5 ≡ o4 ++ e → o6 ≡ o5 ++ f
    → o6 ≡ o0 ++ (a ++ b ++ (c ++ d ++ e ++ f))
six o0 o1 o2 o3 o4 o5 o6 a b c d e f h1 h2 h3 h4 h5 h6 = grind (arith, common_steps)

pub returns : goal.returns
returns c =
    let files = c.args.files.now in
    let told = c.args.explanation.now in
    let refused = long_text (refused_text files told.pid.now told.verdict.now) told.refused.now in
    let causes = causes_text told.refuted.now told.causes.now in
    on_ok_weaker {P = string_bytes c.push_causes.new.out ≡ string_bytes c.push_long.new.out ++ causes} c.push_causes.result
    (λ last.
    six (string_bytes c.args.out.now) (string_bytes c.push_shown.new.out) (string_bytes c.push_alike.new.out) (string_bytes c.push_turns.new.out)
    (string_bytes c.push_events.new.out) (string_bytes c.push_long.new.out) (string_bytes c.push_causes.new.out)
    (shown_text files told) (alike_text told.alike.now) (turns_text told.turns.now) (events_text told.events.now) refused causes
    c.in_ok-push_shown.ensures c.in_ok-push_alike.ensures c.in_ok-push_turns.ensures c.in_ok-push_events.ensures c.in_ok-push_long.ensures last)
    c.push_causes.ensures
