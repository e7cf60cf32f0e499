use Rattle.std.proofs.Common.{rules, ◌≡◌, ◌∷◌, length, sym, ap, ◌∙◌, subst, arith}
use Rattle.json.specs.Lex.{between, fresh, lex, punctuate}
use Rattle.aud_json.specs.View.{list_view}
use Rattle.aud_json.proofs.Listed.{Listed, listed_none, listed_more, listed_last}
use Rattle.aud_json.proofs.Strings.{lex_comma, lex_close_list}
use Rattle.aud_json.proofs.flat.texts.Goals as goal

pub items-init : goal.items-init
items-init c =
    let text = c.args.text.now in
    (subst (λ os. Listed (punctuate fresh (lex between text)) os text) (sym c.new-found.ensures.items) (listed_none text), search rules, omega arith)

pub returns-in_default-after-clause-read : goal.returns-in_default-after-clause-read
returns-in_default-after-clause-read c =
    let start = punctuate fresh (lex between c.args.text.now) in
    let text = c.in-Some in
    let outside = c.in-Some-after-2.outside.now in
    let closed : text.left.now ≡ 93 ∷ outside = c.in-Some-after-2.ensures in
    let last = listed_last start c.items.found.items c.items.rest.now c.items.invariant.0 text.item text.left.now text.ensures.read outside (lex_close_list text.left.now outside closed) in
    (last.0, last.1, last.2 ∙ ap list_view (sym c.in_ok-push.ensures.items))

pub items-preserved : goal.items-preserved
items-preserved c =
    let start = punctuate fresh (lex between c.args.text.now) in
    let text = c.in-Some in
    let more = c.in-Some-after.more.now in
    let next : text.left.now ≡ 44 ∷ more = c.in-Some-after.ensures in
    let size : length text.left.now ≡ length (44 ∷ more) = ap length next in (
      subst (λ os. Listed start os more) (sym c.in_ok-push.ensures.items)
          (listed_more start c.items.found.items c.items.rest.now c.items.invariant.0 text.item text.left.now text.ensures.read more (lex_comma text.left.now more next)),
      search rules,
      omega (arith, size, text.ensures.shorter, c.items.invariant.2),
    )
