use Rattle.std.proofs.Common.{◌≡◌, ◌∙◌, ℕ, List, ap, map, sym}
use Rattle.std.proofs.lemmas.Result.{IfOk-weaker}
use Rattle.aud_maker.specs.Made.{IsMade}
use Rattle.aud_session_facts.specs.declared.account.Account.{Account}
use Rattle.aud_causes.specs.Bodies.{body_twice}
use Rattle.aud_causes.specs.Differences.{case_of, causes_by, doubled_causes, extra_in, lost_in}
use Rattle.aud_causes.proofs.delivery.causes_by.Goals as goal

pub returns-in-Extra : goal.returns-in-Extra
returns-in-Extra c =
    let cluster = c.args.recording.now in
    let a = c.args.account.now in
    let numbers = c.args.numbers.now in
    let f = c.args.facts in
    IfOk-weaker c.extra_of.result
    (λ found. (made : IsMade cluster a.cert.pid a.cert) → (ns : List ℕ) → found.items ≡ extra_in (case_of cluster a ns made) f c.in-Extra.position)
    (λ found. (made : IsMade cluster a.cert.pid a.cert) → found.items ≡ causes_by (case_of cluster a numbers made) c.args.difference f)
    (λ found is made. is made numbers ∙ ap (λ d. causes_by (case_of cluster a numbers made) d f) (sym c.in-Extra.is))
    c.extra_of.ensures

pub returns-in-Doubled : goal.returns-in-Doubled
returns-in-Doubled c =
    let cluster = c.args.recording.now in
    let a = c.args.account.now in
    let numbers = c.args.numbers.now in
    let f = c.args.facts in
    let turns_are = c.as_slice-turns.ensures.value ∙ ap (λ (x : Account). x.cert.turns) c.account.view_is in
    let stays_are = c.as_slice-stays.ensures.value ∙ ap (λ (x : Account). x.stays.items) c.account.view_is in
    let body_is = c.body_twice-body.ensures ∙ ap (λ (x : Account). body_twice cluster x.client numbers f) c.account.view_is in
    IfOk-weaker c.doubled_causes.result
    (λ found. found.items ≡ doubled_causes c.logs-logs.result.now c.as_slice-turns.result.now (map (λ stay. stay.now) c.as_slice-stays.result.now) c.body_twice-body.result f)
    (λ found. (made : IsMade cluster a.cert.pid a.cert) → found.items ≡ causes_by (case_of cluster a numbers made) c.args.difference f)
    (λ found is made.
    is
    ∙ (λ i. doubled_causes (c.logs-logs.ensures i) (turns_are i) (map (λ stay. stay.now) (stays_are i)) (body_is i) f)
    ∙ ap (λ d. causes_by (case_of cluster a numbers made) d f) (sym c.in-Doubled.is))
    c.doubled_causes.ensures

pub returns-in-Lost : goal.returns-in-Lost
returns-in-Lost c =
    let cluster = c.args.recording.now in
    let a = c.args.account.now in
    let numbers = c.args.numbers.now in
    let f = c.args.facts in
    IfOk-weaker c.lost_of.result
    (λ found. (made : IsMade cluster a.cert.pid a.cert) → (ns : List ℕ) → found.items ≡ lost_in (case_of cluster a ns made) f)
    (λ found. (made : IsMade cluster a.cert.pid a.cert) → found.items ≡ causes_by (case_of cluster a numbers made) c.args.difference f)
    (λ found is made. is made numbers ∙ ap (λ d. causes_by (case_of cluster a numbers made) d f) (sym c.in-Lost.is))
    c.lost_of.ensures
