use Rattle.std.proofs.Common.{◌≡◌, ◌&&◌, length, map, nat_eq, subst, sym}
use Rattle.std.specs.Prelude.{All}
use Rattle.std.specs.Option.{option_copied}
use Rattle.std.proofs.lemmas.Result.{IfOk-weaker}
use Rattle.aud_explanation.specs.CauseState.{is_certain}
use Rattle.aud_causes.specs.declared.found.CauseFound.{CauseFound}
use Rattle.aud_causes.specs.Causes.{is_sure}
use Rattle.aud_causes.specs.Found.{cause_seen, shown_causes}
use Rattle.aud_causes.specs.Records.{place_of}
use Rattle.aud_causes.proofs.Sure.{sure_alone}
use Rattle.aud_causes.proofs.causes.causes_of.Goals as goal

pub returns-clause-sure : goal.returns-clause-sure
returns-clause-sure c =
    let here = c.args.sheet.recording.now in
    let lines = c.args.sheet.lines.now in
    let client = place_of (option_copied c.args.tap) in
    let numbers = c.numbers_at-numbers.result.now in
    let others = c.has_others.result in
    IfOk-weaker c.shown_causes.result
    (λ causes. map cause_seen causes.items ≡ shown_causes here lines client numbers others c.as_slice.result.now)
    (λ causes. All (λ (f : CauseFound). is_certain f.state ≡ is_sure c.args.verdict.now causes.items) causes.items)
    (λ causes told.
    subst (λ v. All (λ (f : CauseFound). is_certain f.state ≡ is_sure v causes.items) causes.items) (sym c.in-No.is)
    (subst (λ b. All (λ (f : CauseFound). is_certain f.state ≡ (b && nat_eq (length causes.items) 1)) causes.items) c.has_others.ensures
    (sure_alone here lines client numbers others c.as_slice.result.now causes.items told)))
    c.shown_causes.ensures
