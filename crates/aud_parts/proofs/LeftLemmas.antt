-- What is left of the taps of the stream and of the nodes.
use Rattle.std.proofs.Common.{◌≡◌, ℕ, Bool, true, false, cond, ◌&&◌, ◌||◌, List, [], ◌∷◌, map, filter, Some, None, option_map, refl, sym, ap, ◌∙◌}
use Rattle.std.specs.List.{list_any, filter_map, cons_option}
use Rattle.aud_tap.specs.declared.records.StreamRec.{StreamRec}
use Rattle.aud_tap.specs.declared.records.StreamRec.TheVariants.{Ev, Other}
use Rattle.aud_tap.specs.declared.records.NodeRec.{NodeRec}
use Rattle.aud_tap.specs.declared.taps.Records.{Records}
use Rattle.aud_tap.specs.declared.taps.Records.TheVariants.{Stream, Node, Client}
use Rattle.aud_tap.specs.declared.taps.Tap.{Tap}
use Rattle.aud_node.specs.Cluster.{Cluster, node_recs}
use Rattle.aud_node.specs.Lists.{is_empty}
use Rattle.aud_node.specs.Stream.{Text}
use Rattle.aud_parts.specs.LeftOut.{keeps_record, tap_left, tell_of}
use Rattle.aud_parts.specs.MadeOther.{any_record}
use Rattle.aud_parts.specs.Part.{is_among, is_kept_tap, opens_nsp, grants, is_for_some}
use Rattle.aud_parts.specs.PartTaps.{without_clients, servers_left, stays_event, placed_left, part_entries, tap_with}
use Rattle.aud_parts.specs.Private.Kept.{entries_for, tap_of, tap_kept}
use Rattle.aud_parts.specs.Private.OwnRecords.{is_for, passes_own}
use Rattle.aud_parts.proofs.OwnLemmas.{tells-own, none-own, any-left, IsOfSessions, opens-of, grants-of}

-- records that aren't a node's have none of a node's
pub no-node : (records : Records) → ((recs : List NodeRec) → records ≡ Node recs → ⊥) → node_recs (Some records) ≡ []
no-node (Stream recs) other = refl
no-node (Node recs) other = absurd (other recs refl)
no-node (Client recs) other = refl

module _ (pids : List Text) where
  abbrev keep : NodeRec → Bool
  keep = keeps_record (is_among pids)

  -- of which taps something is left
  kept-each : (entries : List StreamRec) (taps : List Tap) → filter_map (tap_kept (is_among pids) entries) taps ≡ map (tap_with entries) (servers_left pids taps)
  kept-each entries [] = refl
  kept-each entries (tap ∷ taps) = go tap.records (kept-each entries taps)
    where
      rest : List Tap
      rest = filter (is_kept_tap pids) (without_clients taps)

      others : List Tap
      others = filter_map (tap_kept (is_among pids) entries) taps

      node : (recs : List NodeRec) (b : Bool) → others ≡ map (tap_with entries) (map (tap_left keep) rest)
          → cons_option (option_map (tap_of (tap_of tap (Node recs))) (cond b (Some (Node (filter keep recs))) None)) others
          ≡ map (tap_with entries) (map (tap_left keep) (cond b (tap_of tap (Node recs) ∷ rest) rest))
      node recs true ih = ap (λ ts. tap_of tap (Node (filter keep recs)) ∷ ts) ih
      node recs false ih = ih

      go : (r : Records) → others ≡ map (tap_with entries) (map (tap_left keep) rest)
          → filter_map (tap_kept (is_among pids) entries) (tap_of tap r ∷ taps) ≡ map (tap_with entries) (servers_left pids (tap_of tap r ∷ taps))
      go (Stream recs) ih = ap (λ ts. tap_of tap (Stream entries) ∷ ts) ih
      go (Node recs) ih =
          ap (λ b. cons_option (option_map (tap_of (tap_of tap (Node recs))) (cond b (Some (Node (filter keep recs))) None)) others) (sym (tells-own pids recs))
          ∙ node recs (list_any (λ pid. tell_of pid (Node recs)) pids) ih
      go (Client recs) ih = ih

  -- of the records that are left, some passes that names one of the sessions
  pub any-kept : (test : NodeRec → Bool) → IsOfSessions test → (taps : List Tap) → any_record test (servers_left pids taps) ≡ any_record (passes_own (is_among pids) test) taps
  any-kept test named [] = refl
  any-kept test named (tap ∷ taps) = go tap.records (any-kept test named taps)
    where
      rest : List Tap
      rest = filter (is_kept_tap pids) (without_clients taps)

      own : NodeRec → Bool
      own = passes_own (is_among pids) test

      node : (recs : List NodeRec) (b : Bool) → list_any (λ pid. tell_of pid (Node recs)) pids ≡ b → any_record test (map (tap_left keep) rest) ≡ any_record own taps
          → any_record test (map (tap_left keep) (cond b (tap_of tap (Node recs) ∷ rest) rest)) ≡ (list_any own recs || any_record own taps)
      node recs true e ih = ap (λ b. b || any_record test (map (tap_left keep) rest)) (any-left (is_among pids) test named recs) ∙ ap (λ b. list_any own recs || b) ih
      node recs false e ih = ih ∙ ap (λ b. b || any_record own taps) (sym (none-own (is_among pids) test recs (sym (tells-own pids recs) ∙ e)))

      go : (r : Records) → any_record test (map (tap_left keep) rest) ≡ any_record own taps
          → any_record test (servers_left pids (tap_of tap r ∷ taps)) ≡ (list_any own (node_recs (Some r)) || any_record own taps)
      go (Stream recs) ih = ih
      go (Node recs) ih = node recs (list_any (λ pid. tell_of pid (Node recs)) pids) refl ih
      go (Client recs) ih = ih

  -- an entry is for what the sessions open and hold
  for-some : (namespaces rooms : Text → Bool) (taps : List Tap)
      → ((q : Text) → namespaces q ≡ any_record (passes_own (is_among pids) (opens_nsp q)) taps) → ((q : Text) → rooms q ≡ any_record (passes_own (is_among pids) (grants q)) taps)
      → (event : StreamRec) → is_for namespaces rooms event ≡ is_for_some (servers_left pids taps) event
  for-some namespaces rooms taps opened granted (Other off) = refl
  for-some namespaces rooms taps opened granted (Ev event) =
      let left : List Tap = servers_left pids taps in
      let same : rooms ≡ (λ (room : Text). any_record (grants room) left) = λ i room. (granted room ∙ sym (any-kept (grants room) (grants-of room) taps)) i in
      ap (λ b. b && (is_empty event.rooms || list_any rooms event.rooms)) (opened event.nsp ∙ sym (any-kept (opens_nsp event.nsp) (opens-of event.nsp) taps))
      ∙ ap (λ (held : Text → Bool). any_record (opens_nsp event.nsp) left && (is_empty event.rooms || list_any held event.rooms)) same

  -- what is left, where sets tell which sessions, namespaces and rooms are meant
  pub left-is : (came : List ℕ) (c : Cluster) (own namespaces rooms : Text → Bool) → ((q : Text) → own q ≡ is_among pids q)
      → ((q : Text) → namespaces q ≡ any_record (passes_own own (opens_nsp q)) c.taps) → ((q : Text) → rooms q ≡ any_record (passes_own own (grants q)) c.taps)
      → filter_map (tap_kept own (entries_for namespaces rooms came c.stream)) c.taps ≡ map (tap_with (part_entries pids came c)) (servers_left pids c.taps)
  left-is came c own namespaces rooms is opened granted =
      let same : own ≡ is_among pids = λ i q. is q i in
      let aims : is_for namespaces rooms ≡ is_for_some (servers_left pids c.taps) =
      λ i event. for-some namespaces rooms c.taps
      (λ q. opened q ∙ ap (λ (keeps : Text → Bool). any_record (passes_own keeps (opens_nsp q)) c.taps) same)
      (λ q. granted q ∙ ap (λ (keeps : Text → Bool). any_record (passes_own keeps (grants q)) c.taps) same)
      event i in
      ap (λ (keeps : Text → Bool). filter_map (tap_kept keeps (entries_for namespaces rooms came c.stream)) c.taps) same
      ∙ ap (λ (test : StreamRec → Bool). filter_map (tap_kept (is_among pids) (placed_left (stays_event test came) 1 c.stream)) c.taps) aims
      ∙ kept-each (part_entries pids came c) c.taps
