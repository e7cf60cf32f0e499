use Rattle.std.proofs.Common.{map, ◌∙◌, arith}
use Rattle.std.proofs.lemmas.Grind.{common_steps}
use Rattle.aud_check.proofs.Cuts.{front_ascends}
use Rattle.aud_check.proofs.FirstFinding.{delivery_first, nothing_found, window_first}
use Rattle.aud_check.proofs.finding.first_finding.Goals as goal

pub returns-in-Some-first_difference : goal.returns-in-Some-first_difference
returns-in-Some-first_difference c =
    delivery_first c.args.stream.now c.args.received.now (map (λ stay. stay.now) c.args.stays.now) c.args.due.now (map (λ frame. frame.now) c.args.frames.now) c.requires.frames
    (grind (arith, common_steps)) (grind (arith, common_steps))
    c.as_slice-positions.result.now (c.as_slice-positions.ensures.value ∙ c.in_ok-positions.ensures) c.in_default.ensures
    c.in-Some-first_difference.difference c.in-Some-first_difference.ensures.first (c.in-Some-first_difference.ensures.shown c.requires.ascending)

pub returns-in-Some-first_bad_window : goal.returns-in-Some-first_bad_window
returns-in-Some-first_bad_window c =
    let positions = c.as_slice-positions.result.now in
    let prefix = c.in_default-first_difference.ensures.shown in
    window_first c.args.stream.now c.args.received.now (map (λ stay. stay.now) c.args.stays.now) c.args.due.now (map (λ frame. frame.now) c.args.frames.now) c.requires.frames
    (grind (arith, common_steps)) (grind (arith, common_steps))
    positions (c.as_slice-positions.ensures.value ∙ c.in_ok-positions.ensures) c.in_default.ensures
    prefix c.in-Some-first_bad_window.window (c.in-Some-first_bad_window.ensures (front_ascends positions c.args.due.now prefix c.requires.ascending))

pub returns : goal.returns
returns c =
    let positions = c.as_slice-positions.result.now in
    let prefix = c.in_default-first_difference.ensures.shown in
    nothing_found c.args.stream.now c.args.received.now (map (λ stay. stay.now) c.args.stays.now) c.args.due.now (map (λ frame. frame.now) c.args.frames.now) c.requires.frames
    (grind (arith, common_steps)) (grind (arith, common_steps))
    positions (c.as_slice-positions.ensures.value ∙ c.in_ok-positions.ensures) c.in_default.ensures
    prefix (c.in-None.ensures (front_ascends positions c.args.due.now prefix c.requires.ascending))
