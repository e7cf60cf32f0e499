-- What a closed plan keeps together, all of it.
use Rattle.std.proofs.Common.{◌≡◌, ℕ, true, List, ◌++◌, length, filter, flat_map, Some, sym, ap, subst, ◌∙◌}
use Rattle.std.specs.List.{All}
use Rattle.std.proofs.lemmas.List.Elements.{All-weaker}
use Rattle.aud_tap.specs.declared.records.StreamRec.{StreamRec}
use Rattle.aud_tap.specs.declared.taps.Tap.{Tap}
use Rattle.aud_base.specs.FirstTexts.{first_texts}
use Rattle.aud_node.specs.Stream.{Text}
use Rattle.aud_node.specs.Cluster.{node_recs, stream_of, cluster_of}
use Rattle.aud_node.specs.NamedPids.{node_pids}
use Rattle.aud_maker.specs.Sessions.{sessions_of}
use Rattle.aud_parts.specs.LeftOut.{keeps_record, keeps_first, tell_of}
use Rattle.aud_parts.specs.Part.{is_among, names_session}
use Rattle.aud_parts.specs.Plan.{client_pids, all_mentions, part_of, is_in, pids_in}
use Rattle.aud_parts.specs.Together.{without_clients, IsPlanOf, KeepsTogether}
use Rattle.aud_parts.specs.declared.clients.measured.MeasuredClient.{MeasuredClient}
use Rattle.aud_parts.specs.declared.plan.Plan.{Plan}
use Rattle.aud_parts.proofs.PlanLemmas.{AreDistinct, TapTogether, FirstTogether, distinct-first, among-with, kept-with, tells-all, one-of-these, one_part, taps_together, firsts_together, nodes-same, clients-same}
use Rattle.aud_parts.proofs.PartClients.{came_to_part}

pub keeps_together : (taps : List Tap) (told : List MeasuredClient) (plan : Plan) → IsPlanOf taps told plan → KeepsTogether taps told plan
keeps_together taps told plan is = record {
  sessions_are = sessions_are;
  in_one = λ pid there. (
      let (part, small, has) = one-of-these (length plan.weights.items) pid plan.sessions plan.parts.items is.closed.each_session is.closed.within (ap (λ pids. is_among pids pid) sessions_are ∙ there) in
      (part, small, same part pid ∙ has)
      );
  in_no_other = λ one other pid here there. one_part (part_of plan pid) one other (sym (same one pid) ∙ here) (sym (same other pid) ∙ there);
  in_order = λ part.
      ap (filter (is_among (pids_in plan part))) (sym sessions_are) ∙ ap (λ test. filter test plan.sessions) (among part)
      ∙ kept-with (is_in plan part) part plan.sessions plan.parts.items (tells-all part plan.sessions plan.parts.items is.closed.each_session distinct);
  keeps_clients = λ part.
      subst (λ test. All (λ (tap : Tap). (one other : Text) → test one ≡ true → names_session tap one ≡ true → names_session tap other ≡ true → test other ≡ true) taps)
      (sym (among part))
      (All-weaker (TapTogether stream plan) (λ (tap : Tap). (one other : Text) → is_in plan part one ≡ true → names_session tap one ≡ true → names_session tap other ≡ true → is_in plan part other ≡ true)
      (λ tap together. together part) taps (taps_together stream plan taps told plan.clients.items is.are_told is.closed.each_client));
  keeps_firsts = λ part.
      subst (λ test. All (λ (tap : Tap). (pid : Text) → test pid ≡ true → tell_of pid tap.records ≡ true → keeps_first (keeps_record test) (node_recs (Some tap.records)) ≡ true) taps)
      (sym (among part))
      (All-weaker (FirstTogether plan) (λ (tap : Tap). (pid : Text) → is_in plan part pid ≡ true → tell_of pid tap.records ≡ true → keeps_first (keeps_record (is_in plan part)) (node_recs (Some tap.records)) ≡ true)
      (λ tap together. together part) taps (firsts_together plan taps is.closed.each_log));
  have_come = λ part place off found kept. came_to_part stream plan same part place off found kept taps told is.are_told is.closed.each_client;
}
  where
    stream : List StreamRec
    stream = stream_of taps

    sessions_are : plan.sessions ≡ sessions_of (cluster_of taps)
    sessions_are = is.by_mentions ∙ ap first_texts (ap (λ pids. pids ++ flat_map client_pids told) (nodes-same taps) ∙ ap (λ pids. flat_map node_pids taps ++ pids) (clients-same stream taps told is.are_told))

    distinct : AreDistinct plan.sessions
    distinct = subst AreDistinct (sym is.by_mentions) (distinct-first (all_mentions (without_clients taps) told))

    same : (part : ℕ) (pid : Text) → is_among (pids_in plan part) pid ≡ is_in plan part pid
    same part pid = among-with part pid plan.sessions plan.parts.items is.closed.each_session distinct

    among : (part : ℕ) → is_among (pids_in plan part) ≡ is_in plan part
    among part = λ i pid. same part pid i
