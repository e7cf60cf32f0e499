-- A part tells the same of its sessions as the whole recording.
use Rattle.std.proofs.Common.{◌≡◌, ◌&&◌, ◌||◌, Bool, true, false, List, get_or, Some, refl, subst, bytes_eq}
use Rattle.std.specs.List.{list_any}
use Rattle.std.proofs.lemmas.Bool.{false≢true, and_parts, and_from, or_left, or_right}
use Rattle.aud_tap.specs.declared.records.NodeRec.{NodeRec}
use Rattle.aud_tap.specs.declared.records.NodeRec.TheVariants.{Opened, Join}
use Rattle.aud_tap.specs.declared.records.StreamRec.{StreamRec}
use Rattle.aud_tap.specs.declared.records.StreamRec.TheVariants.{Ev, Other}
use Rattle.aud_tap.specs.declared.taps.Tap.{Tap}
use Rattle.aud_tap.specs.RecordFields.{offset_of}
use Rattle.aud_node.specs.Cluster.{Cluster, is_stream, cluster_of, node_recs}
use Rattle.aud_node.specs.Lists.{is_empty}
use Rattle.aud_node.specs.Recoverable.{is_recoverable}
use Rattle.aud_node.specs.Stream.{Text}
use Rattle.aud_upgrade.specs.Upgraded.{with_runs}
use Rattle.aud_upgrade.specs.declared.joins.Joins.TheVariants.{TakeAndTakes}
use Rattle.aud_upgrade.specs.Kept.{UpgradesKeepVerdicts}
use Rattle.aud_parts.specs.LeftOut.{tell_of, KeepsTapsOf, KeepsStreams, IsJudgedAlike}
use Rattle.aud_parts.specs.MadeOther.{with_others, opens_in, gives_room, any_record, ever_held, may_be_for, tell_event, has_come, needs}
use Rattle.aud_parts.specs.Part.{is_among, is_kept_tap, left_for, opens_nsp, grants, is_for_some, came_to_some, is_kept_entry, part_for, KeepsFirsts}
use Rattle.aud_laws.proofs.LeftOut.Laws.{sessions_alike}
use Rattle.aud_laws.proofs.MadeOther.Lists.{any-wider}
use Rattle.aud_laws.proofs.MadeOther.Laws.{then_alike, others_alike, part-is}
use Rattle.aud_laws.proofs.InParts.Among.{among-any}

-- ---- what a session needs is kept for all

module _ (taps : List Tap) (pid : Text) where
  opens : (nsp : Text) (rec : NodeRec) → opens_in pid nsp rec ≡ true → opens_nsp nsp rec ≡ true
  opens nsp (Opened other sid its) is = (and_parts (bytes_eq other pid) (bytes_eq its nsp) is).1
  opens nsp _ is = absurd (false≢true is)

  gives : (room : Text) (rec : NodeRec) → gives_room pid room rec ≡ true → grants room rec ≡ true
  gives room (Opened other sid nsp) is = (and_parts (bytes_eq other pid) (bytes_eq sid room) is).1
  gives room (Join other joined) is = (and_parts (bytes_eq other pid) (bytes_eq joined room) is).1
  gives room _ is = absurd (false≢true is)

  some : (test wider : NodeRec → Bool) → ((rec : NodeRec) → test rec ≡ true → wider rec ≡ true) → any_record test taps ≡ true → any_record wider taps ≡ true
  some test wider more =
      any-wider (λ (tap : Tap). list_any test (node_recs (Some tap.records))) (λ (tap : Tap). list_any wider (node_recs (Some tap.records)))
      (λ tap. any-wider test wider more (node_recs (Some tap.records))) taps

  rooms : (b : Bool) (rs : List Text) → (b || list_any (ever_held taps pid) rs) ≡ true → (b || list_any (λ room. any_record (grants room) taps) rs) ≡ true
  rooms true rs h = refl
  rooms false rs h = any-wider (ever_held taps pid) (λ room. any_record (grants room) taps) (λ room. some (gives_room pid room) (grants room) (gives room)) rs h

  for : (entry : StreamRec) → may_be_for taps pid entry ≡ true → is_for_some taps entry ≡ true
  for (Ev event) h =
      let (opened, to) = and_parts (any_record (opens_in pid event.nsp) taps) (is_empty event.rooms || list_any (ever_held taps pid) event.rooms) h in
      and_from (any_record (opens_nsp event.nsp) taps) (is_empty event.rooms || list_any (λ room. any_record (grants room) taps) event.rooms)
      (some (opens_in pid event.nsp) (opens_nsp event.nsp) (opens event.nsp) opened) (rooms (is_empty event.rooms) event.rooms to)
  for (Other off) h = h

  come : (off : Text) → has_come taps pid off ≡ true → came_to_some taps off ≡ true
  come off =
      any-wider (λ (tap : Tap). tell_of pid tap.records && tell_event off tap.records) (λ (tap : Tap). tell_event off tap.records)
      (λ tap is. (and_parts (tell_of pid tap.records) (tell_event off tap.records) is).1) taps

  pub needed : (entry : StreamRec) → needs taps pid entry ≡ true → is_kept_entry taps entry ≡ true
  needed entry is =
      let (recoverable, by) = and_parts (is_recoverable entry) (may_be_for taps pid entry || has_come taps pid (offset_of entry)) is in
      and_from (is_recoverable entry) (is_for_some taps entry || came_to_some taps (offset_of entry)) recoverable (go (may_be_for taps pid entry) refl by)
    where
      go : (b : Bool) → may_be_for taps pid entry ≡ b → (b || has_come taps pid (offset_of entry)) ≡ true → (is_for_some taps entry || came_to_some taps (offset_of entry)) ≡ true
      go true may h = or_left (is_for_some taps entry) (came_to_some taps (offset_of entry)) (for entry may)
      go false none h = or_right (is_for_some taps entry) (came_to_some taps (offset_of entry)) (come (offset_of entry) h)

module _ (pids : List Text) (taps : List Tap) where
  -- ---- the taps that are kept

  tells-kept : (pid : Text) → is_among pids pid ≡ true → KeepsTapsOf (is_kept_tap pids) taps pid
  tells-kept pid among k d lt tells =
      let records = (get_or taps k d).records in
      or_right (is_stream records) (list_any (λ own. tell_of own records) pids) (among-any pids pid (λ own. tell_of own records) among tells)

  streams-kept : KeepsStreams (is_kept_tap pids) taps
  streams-kept k d lt is =
      let records = (get_or taps k d).records in
      or_left (is_stream records) (list_any (λ own. tell_of own records) pids) is

  -- ---- the part before its takes are joined

  -- what is left, with the entries that aren't kept `other`
  abbrev pub cut_to : Cluster
  cut_to = with_others (is_kept_entry (left_for pids taps).taps) (left_for pids taps)

  -- it is the recording of its taps
  pub cut-is : cut_to ≡ cluster_of cut_to.taps
  cut-is = part-is taps (is_among pids) (is_kept_tap pids) (is_kept_entry (left_for pids taps).taps) streams-kept

  cut_alike : (pid : Text) → is_among pids pid ≡ true → KeepsFirsts pids taps → IsJudgedAlike (cluster_of taps) (cluster_of cut_to.taps) pid
  cut_alike pid among firsts =
      let whole = cluster_of taps in
      let left = left_for pids taps in
      subst (λ c. IsJudgedAlike whole c pid) cut-is
      (then_alike whole left cut_to pid
      (sessions_alike whole (is_among pids) (is_kept_tap pids) pid among (λ k d lt. firsts k d lt pid among) (tells-kept pid among))
      (others_alike left (is_kept_entry left.taps) pid (λ k d lt. needed left.taps pid (get_or left.stream k d))))

  -- ---- the part

  pub alike : UpgradesKeepVerdicts → (pid : Text) → is_among pids pid ≡ true → KeepsFirsts pids taps → IsJudgedAlike (cluster_of taps) (cluster_of (part_for pids taps)) pid
  alike kept pid among firsts =
      let cut = cut_to.taps in
      then_alike (cluster_of taps) (cluster_of cut) (cluster_of (with_runs cut)) pid (cut_alike pid among firsts)
      (λ whole verdict. ((kept TakeAndTakes cut).kept whole pid verdict, (kept TakeAndTakes cut).not_new whole pid verdict))
