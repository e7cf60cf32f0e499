use Rattle.std.proofs.Common.{◌≡◌, ◌∙◌, Bor, ap, map, subst, sym}
use Rattle.aud_client.specs.declared.stay.Stay.{Stay}
use Rattle.aud_check.specs.Window.{positions_received}
use Rattle.aud_session_facts.specs.Account.{stays_of}
use Rattle.aud_findings.specs.Also.{AreAllOf, is_also}
use Rattle.aud_findings.proofs.ByAccount.{is_found_so}
use Rattle.aud_findings.proofs.also.parted_others.Goals as goal

pub returns-in_default : goal.returns-in_default
returns-in_default c = (c.args.account.now.found, c.requires, sym c.difference.ensures ∙ c.in_default.is)

pub returns : goal.returns
returns c =
    let a = c.args.account.now in
    let difference = c.in-Some.difference in
    let received : c.as_slice-2.result.now ≡ positions_received (stays_of a) =
    c.as_slice-2.ensures.value ∙ c.in_ok-received.ensures ∙ ap (λ (stays : _). positions_received (map (λ (stay : Bor Stay). stay.now) stays)) c.as_slice.ensures.value in
    record {
      difference = difference;
      is_difference = is_found_so c.args.recording.now a.client (stays_of a) a.due.items a.found c.requires difference (sym c.in-Some.ensures);
      by_is = c.lines_for-by.ensures;
      are_all = subst (λ all. all) (λ i. AreAllOf (is_also (received i) (c.as_slice-due.ensures.value i) difference) c.in_ok-positions.positions.items) c.in_ok-positions.ensures;
    }
