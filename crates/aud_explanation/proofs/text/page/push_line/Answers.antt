use Rattle.std.proofs.Common.{◌≡◌, ◌+◌, ◌∙◌, ◌++◌, length, string_bytes, encode_utf8, sym, ap, arith}
use Rattle.std.proofs.lemmas.Grind.{common_steps}
use Rattle.std.specs.Str.Iter.{chars_rest}
use Rattle.aud_explanation.proofs.Laid.{laid-more, laid-end, at_end}
use Rattle.aud_explanation.proofs.PlainFront.{laid-past_front}
use Rattle.aud_explanation.proofs.text.page.push_line.Goals as goal

pub returns-in_default : goal.returns-in_default
returns-in_default c =
    let rest = c.laid_front.result.1.now in
    let column = c.loop-characters.column + length c.laid_front.result.0.now in
    let is : string_bytes c.push_str.new.self ≡ string_bytes c.loop-characters.out ++ c.laid_front.result.0.now = c.in_ok-push_str.ensures.bytes in
    let past = laid-past_front (string_bytes c.loop-characters.out) (string_bytes c.push_str.new.self) _ c.laid_front.result.0.now c.loop-characters.left.now rest c.loop-characters.column column c.loop-characters.invariant.text is c.laid_front.ensures.laid in
    let none = at_end c.chars-characters.result c.next.new.self c.next.result c.next.ensures.steps c.in_default.not-Some in
    let nothing : length rest ≡ 0 = sym (ap length c.chars-characters.ensures.rest) ∙ none in
    let e = laid-end (string_bytes c.push_str.new.self) _ rest column nothing past in
    grind (arith, common_steps)

pub loop-characters-preserved : goal.loop-characters-preserved
loop-characters-preserved c =
    let rest = c.laid_front.result.1.now in
    let left = c.as_str-left.result.now in
    let column = c.loop-characters.column + length c.laid_front.result.0.now in
    let put : string_bytes c.push_str.new.self ≡ string_bytes c.loop-characters.out ++ c.laid_front.result.0.now = c.in_ok-push_str.ensures.bytes in
    let past = laid-past_front (string_bytes c.loop-characters.out) (string_bytes c.push_str.new.self) _ c.laid_front.result.0.now c.loop-characters.left.now rest c.loop-characters.column column c.loop-characters.invariant.text put c.laid_front.ensures.laid in
    let steps : chars_rest c.chars-characters.result ≡ encode_utf8 c.in-Some.c ++ chars_rest c.next.new.self = c.in-Some.ensures.steps.0 in
    let begins : rest ≡ encode_utf8 c.in-Some.c ++ left = sym c.chars-characters.ensures.rest ∙ steps ∙ ap (λ b. encode_utf8 c.in-Some.c ++ b) (sym c.as_str-left.ensures) in
    record {
      within = c.in_ok-column.ensures.within;
      utf8 = c.as_str-left.utf8;
      text = laid-more (string_bytes c.push_str.new.self) (string_bytes c.push_char.new.out) _ rest left column c.in_ok-column.column c.in-Some.c c.laid_front.ensures.utf8 begins past c.in_ok-column.ensures.text c.in_ok-column.ensures.next;
    }
