use Rattle.std.proofs.Common.{◌≡◌, ap, filter_map, flat_map, sym, take_all, ◌∙◌}
use Rattle.std.specs.List.{list_any}
use Rattle.std.specs.Prelude.{nat_eq}
use Rattle.std.proofs.lemmas.List.Filters.{dedup_is}
use Rattle.std.proofs.lemmas.List.Sorted.{list_any-IsPermutation}
use Rattle.std.proofs.lemmas.Map.Keys.{IsStrictlyIncreasing-dedup}
use Rattle.aud_client.specs.Received.{TranscriptSeen, transcript_of}
use Rattle.aud_maker.specs.Sessions.{stay_pid}
use Rattle.aud_parts.specs.ClientFacts.{frame_positions, has_frame_at, is_one_of}
use Rattle.aud_parts.proofs.CameLemmas.{came_by_packets}
use Rattle.aud_parts.proofs.ListSteps.{any-dedup, any-flat_map, filter_map-item, flat_map-item}
use Rattle.aud_parts.proofs.clients.facts.client_facts.Goals as goal

pub loop-stay-preserved : goal.loop-stay-preserved
loop-stay-preserved c =
    let stays = c.as_slice-stays.result.now in
    record {
      named =
          filter_map-item stay_pid stays c.loop-stay.stay-index c.stay-item.result c.loop-stay.named.items c.push_pid.new.pids.items
          c.loop-stay-test.true c.stay-item.is c.loop-stay.invariant.named c.in_ok-push_pid.ensures;
      came =
          flat_map-item frame_positions stays c.loop-stay.stay-index c.stay-item.result c.loop-stay.came.items c.push_positions.new.positions.items
          c.loop-stay-test.true c.stay-item.is c.loop-stay.invariant.came c.in_ok-push_positions.ensures;
    }

pub returns-clause-pids : goal.returns-clause-pids
returns-clause-pids c =
    let stays = c.as_slice-stays.result.now in
    let all : stays ≡ (transcript_of c.args.stream.now c.args.recs.now).stays =
    c.as_slice-stays.ensures.value ∙ ap (λ (t : TranscriptSeen). t.stays) (c.transcript.view_is ∙ c.in_ok-transcript.ensures) in
    c.new-pids.ensures ∙ c.loop-stay.invariant.named ∙ ap (filter_map stay_pid) (take_all c.loop-stay.stay-index stays c.loop-stay-test.false ∙ all)

pub returns-clause-came : goal.returns-clause-came
returns-clause-came c = λ position.
    let sorted = c.sort_unstable.new.self.items in
    let stays = c.as_slice-stays.result.now in
    let all : stays ≡ (transcript_of c.args.stream.now c.args.recs.now).stays =
    c.as_slice-stays.ensures.value ∙ ap (λ (t : TranscriptSeen). t.stays) (c.transcript.view_is ∙ c.in_ok-transcript.ensures) in
    ap (λ positions. is_one_of positions position) (dedup_is _ _ _ c.dedup.ensures.filtered)
    ∙ any-dedup (nat_eq position) sorted
    ∙ sym (list_any-IsPermutation (nat_eq position) c.loop-stay.came.items sorted c.sort_unstable.ensures.permutation)
    ∙ ap (list_any (nat_eq position)) (c.loop-stay.invariant.came ∙ ap (flat_map frame_positions) (take_all c.loop-stay.stay-index stays c.loop-stay-test.false))
    ∙ any-flat_map (nat_eq position) frame_positions stays
    ∙ ap (list_any (has_frame_at position)) all

pub returns-clause-events : goal.returns-clause-events
returns-clause-events c = λ place off found kept.
    returns-clause-came c place ∙ came_by_packets c.args.stream.now off place found kept c.args.recs.now

pub returns-clause-ascending : goal.returns-clause-ascending
returns-clause-ascending c = rw (dedup_is _ _ _ c.dedup.ensures.filtered) (IsStrictlyIncreasing-dedup _ c.sort_unstable.ensures.sorted)
