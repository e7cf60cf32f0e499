use Rattle.std.proofs.Common.{◌≡◌, [], ◌∷◌, ◌++◌, ◌∙◌, ap, arith, get_or, length, map, replicate, subst, ℕ}
use Rattle.std.specs.List.{list_all}
use Rattle.aud_node.specs.Stream.{Text}
use Rattle.aud_parts.specs.Listing.{is_within}
use Rattle.aud_parts.proofs.PartLemmas.{parts-length, parts-more, replicate-numbers, within-at}
use Rattle.aud_parts.proofs.listing.by_part.pids_by_part.Goals as goal

pub loop-session-init : goal.loop-session-init
loop-session-init c =
    let parts = c.args.listing.now.parts in
    let all : c.loop-part._part ≡ parts = omega arith in
    subst (λ (n : ℕ). map (λ part. part.items) c.loop-part.parts.items ≡ replicate n []) all c.loop-part.invariant ∙ replicate-numbers [] 0 parts

pub index_mut-requires : goal.index_mut-requires
index_mut-requires c =
    let l = c.args.listing.now in
    let size = parts-length _ c.loop-session.parts.items _ l.parts c.loop-session.invariant in
    let within = within-at l.parts c.as_slice-session-items.result.now c.loop-session.session-index c.session-item.result (ap (list_all (is_within l.parts)) c.as_slice-session-items.ensures ∙ c.requires) c.loop-session-test.true c.session-item.is in
    omega (arith, c.loop-session.parts.ok.0, size, within)

pub loop-session-preserved : goal.loop-session-preserved
loop-session-preserved c =
    let l = c.args.listing.now in
    let s = c.session-item.result in
    let same = c.as_slice-session-items.ensures in
    let within = within-at l.parts c.as_slice-session-items.result.now c.loop-session.session-index s (ap (list_all (is_within l.parts)) same ∙ c.requires) c.loop-session-test.true c.session-item.is in
    parts-more _ c.loop-session.parts.items l.sessions l.parts c.loop-session.session-index s c.index_mut.result.now c.push-in-loop-session.new.self
    (let size : length c.as_slice-session-items.result.now ≡ length l.sessions = ap length same in omega (arith, c.loop-session-test.true, size))
    (c.session-item.is ∙ ap (λ (xs : _). get_or xs c.loop-session.session-index s) same)
    within c.loop-session.invariant c.index_mut.ensures.value
    (c.in_ok-push-2.ensures.items ∙ ap (λ (pid : Text). c.index_mut.result.now.items ++ pid ∷ []) c.in_ok-pid.ensures)
