use Rattle.std.proofs.Common.{◌≡◌, ◌++◌, ◌∙◌, ℕ, List, ap, append_assoc, codes, decimal, string_bytes, sym}
use Rattle.aud_explanation.specs.Printed.{printed}
use Rattle.aud_explain_app.specs.RefusedLine.{named_line}
use Rattle.aud_explain_app.proofs.refused.push_place.Goals as goal

-- the pieces of a line, one after the other
line_of : (out a b c d e : List ℕ) → ((out ++ (a ++ (b ++ c))) ++ d) ++ e ≡ out ++ ((((a ++ b) ++ c) ++ d) ++ e)
line_of out a b c d e =
    append_assoc (out ++ (a ++ (b ++ c))) d e
    ∙ append_assoc out (a ++ (b ++ c)) (d ++ e)
    ∙ ap (λ x. out ++ x) (ap (λ x. x ++ (d ++ e)) (sym (append_assoc a b c)) ∙ sym (append_assoc ((a ++ b) ++ c) d e))

pub returns-in_ok-push_str-in-Some : goal.returns-in_ok-push_str-in-Some
returns-in_ok-push_str-in-Some c =
    let name = printed c.in-Some.name.now in
    c.in_ok-push_str-in-Some.ensures.bytes
    ∙ ap (λ x. x ++ codes ".\n") (c.in_ok-push_printed-in-Some.ensures ∙ ap (λ x. x ++ name) c.in_ok-write-in-Some.ensures.bytes)
    ∙ line_of (string_bytes c.args.out.now) (codes "That is line ") (decimal c.args.at.line) (codes " of ") name (codes ".\n")
    ∙ ap (λ told. string_bytes c.args.out.now ++ named_line told c.args.at.line) c.in-Some.ensures
