use Rattle.std.proofs.Common.{◌≡◌, ◌+◌, ◌++◌, ◌∷◌, [], true, false, length, nat_le, ap, ◌∙◌, arith}
use Rattle.std.proofs.lemmas.Grind.{common_steps}
use Rattle.std.proofs.lemmas.Bool.Decides.{nat_tests}
use Rattle.aud_tap.specs.Limits.{max_line}
use Rattle.aud_writer.specs.Private.SoFar.{is_long}
use Rattle.aud_writer.proofs.BundleSoFar.{written-put}
use Rattle.aud_writer.proofs.LineBack.{line-back}
use Rattle.aud_writer.proofs.bundle.Lines.put.Goals as goal

pub returns : goal.returns
returns c = λ rec is back done written.
    let line = c.in_ok-line.ensures.bytes rec is in
    let json = c.in_ok-line.ensures.reads rec is in
    let fit : nat_le (length c.in_ok-line.line.items) max_line ≡ true = grind (arith, nat_tests, common_steps) in
    let short : is_long c.in_ok-line.line.items ≡ false = grind (arith, nat_tests, common_steps) in
    let bytes = c.in_ok-push.ensures.items ∙ ap (λ l. l ++ 10 ∷ []) (c.in_ok-extend_from_slice.ensures.items ∙ ap (λ l. c.args.self.now.bytes.items ++ l) c.as_slice.ensures.value) in
    let count : c.in-Some.number ≡ c.args.self.now.count + 1 = grind (arith, common_steps) in
    written-put c.args.self.now _ (c.args.name.now, rec) c.in_ok-line.line.items done line bytes count short
    (λ named formed. line-back c.args.name.now rec named formed (rw line at fit) json back) written
