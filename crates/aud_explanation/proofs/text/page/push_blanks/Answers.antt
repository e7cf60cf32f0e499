use Rattle.std.proofs.Common.{◌≡◌, ◌++◌, ◌+◌, ◌∙◌, ℕ, List, [], ◌∷◌, string_bytes, ap, append_assoc, arith}
use Rattle.std.proofs.lemmas.Grind.{common_steps}
use Rattle.std.proofs.lemmas.List.{replicate-append-replicate}
use Rattle.aud_explanation.specs.Page.{blanks}
use Rattle.aud_explanation.proofs.text.page.push_blanks.Goals as goal

-- one blank more
one_more : (start : List ℕ) (i : ℕ) → (start ++ blanks i) ++ 32 ∷ [] ≡ start ++ blanks (i + 1)
one_more start i = append_assoc start (blanks i) (32 ∷ []) ∙ ap (λ b. start ++ b) (replicate-append-replicate i 1 32)

pub loop-i-preserved : goal.loop-i-preserved
loop-i-preserved c =
    let e = one_more (string_bytes c.args.out.now) c.loop-i._i in
    grind (arith, common_steps)
