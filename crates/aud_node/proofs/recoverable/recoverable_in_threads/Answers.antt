use Rattle.std.proofs.Common.{◌≡◌, ◌*◌, ◌≤◌, ℕ, length, map, ap, ◌∙◌, subst, arith}
use Rattle.std.specs.Fork.{slice_chunk}
use Rattle.std.specs.List.{each_same, flat_map}
use Rattle.std.proofs.lemmas.Result.{IfOk-weaker}
use Rattle.aud_node.specs.Recoverable.{is_recoverable}
use Rattle.aud_node.proofs.Mapped.{joined, of_all_ranges}
use Rattle.aud_node.proofs.recoverable.recoverable_in_threads.Goals as goal

pub returns : goal.returns
returns g c =
    let entries = c.args.entries.now in
    let at = λ (range : ℕ). map is_recoverable (slice_chunk entries 1024 range) in
    let all : length entries ≤ c.div_ceil.result * 1024 = omega (arith, c.div_ceil.ensures, c.len.ensures) in
    IfOk-weaker c.concat.result _ _ (λ v h.
    each_same _ _ h
    ∙ ap (flat_map (λ part. part.items)) (c.deref.ensures.value)
    ∙ joined at (λ part. part.items) _ (λ range part call. subst (λ n. part.items ≡ at n) call.shows call.says.met) _ _ c.in_ok-flags.ensures
    ∙ ap (flat_map at) (c.as_slice.ensures.value ∙ c.in_ok-ranges.ensures)
    ∙ of_all_ranges is_recoverable 1024 entries _ all) c.concat.ensures.ok
