use Rattle.std.proofs.Common.{◌≡◌, ℕ, ◌∙◌, ap, flat_map, map, option_map, rules, sym}
use Rattle.std.specs.Option.{option_copied}
use Rattle.aud_base.proofs.Lists.{got}
use Rattle.aud_eio.specs.Packet.{engine_view}
use Rattle.aud_sio.specs.Message.{messages_of}
use Rattle.aud_rows.specs.Lacking.{lacks_said, messages_before, missing_at_text}
use Rattle.aud_rows.specs.Private.Awaited.{awaited}
use Rattle.aud_rows.proofs.LackingLemmas.{said-by, some-lacks}
use Rattle.aud_rows.proofs.lacking.lacking_said.Goals as goal

pub returns-then-missing-eq0 : goal.returns-then-missing-eq0
returns-then-missing-eq0 c =
    let recs = c.args.recs.now in
    let last : ℕ × ℕ = (c.in_ok-earlier.earlier, c.in_ok-earlier.awaited) in
    let missing = c.missing_at_text-missing.result in
    let packets = map engine_view c.in-Some-2.packets.items in
    let given = sym (ap (option_map (λ packets. map engine_view packets.items)) c.in-Some-2.is) ∙ c.in_ok-packets.ensures in
    let there = sym (got recs c.args.number c.get.result c.get.ensures.lookup.3) ∙ ap option_copied c.in-Some-get.is in
    let was = c.in_ok-earlier.ensures ∙ ap (λ before. awaited (0, 0) (messages_before before)) c.split_at.ensures.front in
    let left = c.missing_at_text-missing.ensures ∙ ap (λ items. missing_at_text c.in_ok-earlier.awaited (flat_map messages_of (map engine_view items))) c.as_slice.ensures.value in
    let said = said-by recs c.args.number c.in-Some.conn c.in-Some-get.rec.now packets last missing (sym c.in-Some.is ∙ c.open_before.ensures) there given was left in
    let zero : missing ≡ 0 = search rules in
    ap (lacks_said c.in-Some.conn c.in_ok-earlier.earlier) (sym zero) ∙ said

pub returns : goal.returns
returns c =
    let recs = c.args.recs.now in
    let last : ℕ × ℕ = (c.in_ok-earlier.earlier, c.in_ok-earlier.awaited) in
    let missing = c.missing_at_text-missing.result in
    let packets = map engine_view c.in-Some-2.packets.items in
    let given = sym (ap (option_map (λ packets. map engine_view packets.items)) c.in-Some-2.is) ∙ c.in_ok-packets.ensures in
    let there = sym (got recs c.args.number c.get.result c.get.ensures.lookup.3) ∙ ap option_copied c.in-Some-get.is in
    let was = c.in_ok-earlier.ensures ∙ ap (λ before. awaited (0, 0) (messages_before before)) c.split_at.ensures.front in
    let left = c.missing_at_text-missing.ensures ∙ ap (λ items. missing_at_text c.in_ok-earlier.awaited (flat_map messages_of (map engine_view items))) c.as_slice.ensures.value in
    let said = said-by recs c.args.number c.in-Some.conn c.in-Some-get.rec.now packets last missing (sym c.in-Some.is ∙ c.open_before.ensures) there given was left in
    let some : ¬ (missing ≡ 0) = search rules in
    some-lacks c.in-Some.conn c.in_ok-earlier.earlier missing some ∙ said
