use Rattle.std.proofs.Common.{◌≡◌, ◌++◌, [], ℕ, List, ◌∙◌, ap, append_assoc}
use Rattle.aud_explain_app.specs.Page.{escaped, page_head, page_tail}
use Rattle.aud_explain_app.proofs.Escapes.{escaped_no_markup}
use Rattle.aud_explain_app.proofs.html.page_of.Goals as goal

-- the pieces of a page, one after the other
pieces : (head json tail none first next page : List ℕ) → none ≡ [] → first ≡ none ++ head → next ≡ first ++ json → page ≡ next ++ tail → page ≡ head ++ (json ++ tail)
pieces head json tail none first next page empty begun filled ended =
    ended ∙ ap (λ p. p ++ tail) (filled ∙ ap (λ p. p ++ json) (begun ∙ ap (λ p. p ++ head) empty)) ∙ append_assoc head json tail

pub returns : goal.returns
unfolding page_head page_tail
returns c = record {
  parts = pieces page_head (escaped c.args.json.now) page_tail _ _ _ _ c.new-page.ensures.bytes c.in_ok-push_str.ensures.bytes c.in_ok-push_json.ensures c.in_ok-push_str-2.ensures.bytes;
  no_markup = escaped_no_markup c.args.json.now;
}
