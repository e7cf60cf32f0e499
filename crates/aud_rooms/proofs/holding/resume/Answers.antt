use Rattle.std.proofs.Common.{◌≡◌, ◌-◌, ◌∷◌, [], ◌++◌, Some, length, take, sym, ap, ◌∙◌, slice_get}
use Rattle.aud_rooms.proofs.Times.{last_part, resumed, begun}
use Rattle.aud_rooms.proofs.holding.resume.Goals as goal

pub returns-then-latest-covered : goal.returns-then-latest-covered
returns-then-latest-covered c =
    λ low _ apart.
    let old = c.args.ended.now.items in
    let last : slice_get old (length old - 1) ≡ Some c.in-Some.latest =
    sym (ap (λ xs. slice_get xs (length xs - 1)) c.deref.ensures.value) ∙ sym c.last.ensures.value ∙ sym c.copied.ensures ∙ c.in-Some.is in
    resumed low c.args.covered c.pop.new.self.items old c.in-Some.latest
    (last_part old c.in-Some.latest last
    ∙ ap (λ is. is ++ c.in-Some.latest ∷ []) (ap (λ n. take (n - 1) old) (ap length (sym c.deref.ensures.value) ∙ c.deref.ensures.len) ∙ sym c.pop.ensures.rest))
    c.if-latest-covered.true apart

pub returns-else-latest-covered : goal.returns-else-latest-covered
returns-else-latest-covered c =
    λ low _ apart.
    let old = c.args.ended.now.items in
    let last : slice_get old (length old - 1) ≡ Some c.in-Some.latest =
    sym (ap (λ xs. slice_get xs (length xs - 1)) c.deref.ensures.value) ∙ sym c.last.ensures.value ∙ sym c.copied.ensures ∙ c.in-Some.is in
    begun low c.args.covered (take (length old - 1) old) old c.in-Some.latest (last_part old c.in-Some.latest last) c.if-latest-covered.false apart
