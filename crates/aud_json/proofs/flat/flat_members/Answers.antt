use Rattle.std.proofs.Common.{rules, ◌≡◌, ◌∷◌, [], sym, ap, ◌∙◌, subst, arith}
use Rattle.json.specs.Lex.{between, fresh, lex, punctuate}
use Rattle.serde_json.specs.Data.{object}
use Rattle.aud_json.specs.View.{members_view}
use Rattle.aud_json.proofs.Ordinary.{Begun, begun_none, begun_more, begun_last, object_read}
use Rattle.aud_json.proofs.Strings.{lex_comma, lex_close}
use Rattle.aud_json.proofs.flat.flat_members.Goals as goal

pub members-init : goal.members-init
members-init c =
    let left = c.in-Some.rest.now in
    (subst (λ ms. Begun (punctuate fresh (lex between left)) ms left) (sym c.in_ok-found.ensures.items) (begun_none left), search rules)

pub returns-in_default-after : goal.returns-in_default-after
returns-in_default-after c =
    let start = punctuate fresh (lex between c.in-Some.rest.now) in
    let b = c.members.invariant.0 in
    let f = c.in-Some-2 in
    let t = rw f.is at c.in_ok-field.ensures.read in
    let closed : f.left.now ≡ 125 ∷ [] = grind arith in
    let named = c.in-Some-key.ensures.read in
    let last = begun_last start c.members.found.items c.members.rest.now b c.in-Some-key.key f.field c.in-Some-key.colon_passed.now f.left.now named t (lex_close f.left.now closed) in
    (object last.0, object_read c.args.text.now c.in-Some.rest.now last.0 c.in-Some.ensures last.1, ap object (last.2 ∙ ap members_view (sym c.in_ok-push.ensures.items)))

pub members-preserved : goal.members-preserved
members-preserved c =
    let start = punctuate fresh (lex between c.in-Some.rest.now) in
    let b = c.members.invariant.0 in
    let f = c.in-Some-2 in
    let t = rw f.is at c.in_ok-field.ensures.read in
    let named = c.in-Some-key.ensures.read in
    let more = c.in-Some-after.more.now in (
      subst (λ ms. Begun start ms more) (sym c.in_ok-push.ensures.items)
          (begun_more start c.members.found.items c.members.rest.now b c.in-Some-key.key f.field c.in-Some-key.colon_passed.now f.left.now named t more (lex_comma f.left.now more c.in-Some-after.ensures)),
      search rules,
    )
