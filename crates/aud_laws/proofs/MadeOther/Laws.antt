-- Entries that a session doesn't need may become `other`, and that changes no verdict on it.
use Rattle.std.proofs.Common.{◌≡◌, ◌&&◌, ◌||◌, not, Bool, true, false, cond, List, [], ◌∷◌, map, filter, get_or, Some, refl, sym, ap, subst, ◌∙◌}
use Rattle.std.specs.List.{Contains, list_any}
use Rattle.std.proofs.lemmas.Option.{slice_get-get_or}
use Rattle.std.proofs.lemmas.Bool.{false≢true, and_parts, and_from, or_left, or_right}
use Rattle.aud_base.proofs.Lists.{any-map}
use Rattle.aud_tap.specs.declared.records.NodeRec.{NodeRec}
use Rattle.aud_tap.specs.declared.records.StreamRec.{StreamRec}
use Rattle.aud_tap.specs.declared.records.StreamRec.TheVariants.{Ev, Other}
use Rattle.aud_tap.specs.declared.taps.Records.{Records}
use Rattle.aud_tap.specs.declared.taps.Records.TheVariants.{Stream, Node, Client}
use Rattle.aud_tap.specs.declared.taps.Tap.{Tap}
use Rattle.aud_tap.specs.RecordFields.{offset_of}
use Rattle.aud_node.specs.Cluster.{Cluster, entries_or, is_stream, stream_of, cluster_of, node_recs}
use Rattle.aud_node.specs.Lists.{is_empty}
use Rattle.aud_node.specs.Recoverable.{is_recoverable}
use Rattle.aud_node.specs.Stream.{Text}
use Rattle.aud_parts.specs.LeftOut.{keeps_record, records_left, tap_left, without_records, without_taps, tell_of, KeepsTapsOf, KeepsStreams, KeepsFirstOf, IsJudgedAlike}
use Rattle.aud_parts.specs.MadeOther.{entry_left, entries_left, tap_with_others, with_others, opens_in, gives_room, any_record, ever_held, may_be_for, tell_event, has_come, needs, needed_by_some, KeepsNeeded}
use Rattle.aud_laws.proofs.LeftOut.Logs.{over, left_of, any-there}
use Rattle.aud_laws.proofs.LeftOut.Laws.{taps_alike, sessions_alike, recording-is}
use Rattle.aud_laws.proofs.MadeOther.Lists.{any-wider, any-of_kept}
use Rattle.aud_laws.proofs.MadeOther.Streams.{position-left, offset_at-left}
use Rattle.aud_laws.proofs.MadeOther.Due.{due-left}
use Rattle.aud_laws.proofs.MadeOther.Clients.{client_alike}
use Rattle.aud_laws.proofs.MadeOther.Alike.{AreAlike, turned}
use Rattle.aud_laws.proofs.MadeOther.Verdicts.{same_verdict}

-- ---- judged alike

pub then_alike : (c one two : Cluster) (pid : Text) → IsJudgedAlike c one pid → IsJudgedAlike one two pid → IsJudgedAlike c two pid
then_alike c one two pid first second whole verdict =
    let (there, back) = first whole verdict in
    let (on, from) = second whole verdict in
    (λ is. on (there is), λ is. back (from is))

back_alike : (c one : Cluster) (pid : Text) → IsJudgedAlike c one pid → IsJudgedAlike one c pid
back_alike c one pid alike whole verdict = let (there, back) = alike whole verdict in (back, there)

-- ---- the stream alone

entries_alike : (keeps : StreamRec → Bool) (c : Cluster) (pid : Text) → KeepsNeeded keeps c pid → AreAlike c.stream (map (entry_left keeps) c.stream) c.taps pid
entries_alike keeps c pid kept =
    record {
      place = position-left keeps c.stream;
      offset = offset_at-left keeps c.stream;
      due = λ who ts names. due-left keeps c.stream c.taps who (subst (λ p. KeepsNeeded keeps c p) (sym names) kept) ts;
      tells = client_alike keeps c.stream c.taps pid kept;
    }

stream_alike : (keeps : StreamRec → Bool) (c : Cluster) (pid : Text) → KeepsNeeded keeps c pid → IsJudgedAlike c (over (map (entry_left keeps) c.stream) c.taps) pid
stream_alike keeps c pid kept whole verdict =
    let other = map (entry_left keeps) c.stream in
    let alike = entries_alike keeps c pid kept in
    (same_verdict c.stream other c.taps pid alike whole verdict, same_verdict other c.stream c.taps pid (turned c.stream other c.taps pid alike) whole verdict)

-- ---- the tap of the stream

-- the tap isn't a stream's
abbrev no_stream : Tap → Bool
no_stream tap = not (is_stream tap.records)

-- a stream's tap tells of no session
telling-left : (taps : List Tap) (pid : Text) → KeepsTapsOf no_stream taps pid
telling-left taps pid k d lt = go (get_or taps k d).records
  where
    go : (records : Records) → tell_of pid records ≡ true → not (is_stream records) ≡ true
    go (Stream recs) tells = absurd (false≢true tells)
    go (Node recs) tells = refl
    go (Client recs) tells = refl

-- the other taps are as they were
no_stream-left : (keeps : StreamRec → Bool) (taps : List Tap) → filter no_stream (map (tap_with_others keeps) taps) ≡ filter no_stream taps
no_stream-left keeps [] = refl
no_stream-left keeps (tap ∷ taps) = go tap.records refl (no_stream-left keeps taps)
  where
    with_records : Records → Tap
    with_records records = record { name = tap.name; version = tap.version; records = records }

    test : Records → Bool
    test records = not (is_stream records)

    go : (records : Records) → tap.records ≡ records → filter no_stream (map (tap_with_others keeps) taps) ≡ filter no_stream taps
        → cond (test (entries_left keeps records)) (with_records (entries_left keeps records) ∷ filter no_stream (map (tap_with_others keeps) taps)) (filter no_stream (map (tap_with_others keeps) taps))
        ≡ cond (test records) (with_records records ∷ filter no_stream taps) (filter no_stream taps)
    go (Stream recs) is ih = ih
    go (Node recs) is ih = ap (λ ts. with_records (Node recs) ∷ ts) ih
    go (Client recs) is ih = ap (λ ts. with_records (Client recs) ∷ ts) ih

-- ---- the laws

-- entries that the session doesn't need
pub others_alike : (c : Cluster) (keeps : StreamRec → Bool) (pid : Text) → KeepsNeeded keeps c pid → IsJudgedAlike c (with_others keeps c) pid
others_alike c keeps pid kept =
    let other = map (entry_left keeps) c.stream in
    let taps = map (tap_with_others keeps) c.taps in
    let left : Cluster = over other (filter no_stream c.taps) in
    let there : IsJudgedAlike (over other c.taps) left pid = taps_alike (over other c.taps) no_stream pid (telling-left c.taps pid) in
    let from : IsJudgedAlike (over other taps) (over other (filter no_stream taps)) pid = taps_alike (over other taps) no_stream pid (telling-left taps pid) in
    let same : IsJudgedAlike (over other taps) left pid = subst (λ ts. IsJudgedAlike (over other taps) (over other ts) pid) (no_stream-left keeps c.taps) from in
    then_alike c (over other c.taps) (over other taps) pid (stream_alike keeps c pid kept)
    (then_alike (over other c.taps) left (over other taps) pid there (back_alike (over other taps) left pid same))

-- ---- of what is left

module _ (keep : NodeRec → Bool) (keeps : Tap → Bool) (taps : List Tap) where
  -- what some tap that is left passes, some tap passes
  any-left : (test : Tap → Bool) → ((tap : Tap) → test (tap_left keep tap) ≡ true → test tap ≡ true) → list_any test (left_of keep keeps taps) ≡ true → list_any test taps ≡ true
  any-left test more is =
      any-of_kept test keeps taps (any-wider (λ (tap : Tap). test (tap_left keep tap)) test more (filter keeps taps) (sym (any-map test (tap_left keep) (filter keeps taps)) ∙ is))

  record-left : (test : NodeRec → Bool) → any_record test (left_of keep keeps taps) ≡ true → any_record test taps ≡ true
  record-left test = any-left (λ (tap : Tap). list_any test (node_recs (Some tap.records))) (λ tap is. go tap.records is)
    where
      go : (records : Records) → list_any test (node_recs (Some (records_left keep records))) ≡ true → list_any test (node_recs (Some records)) ≡ true
      go (Stream recs) is = is
      go (Node recs) is = any-of_kept test keep recs is
      go (Client recs) is = is

  come-left : (pid off : Text) → has_come (left_of keep keeps taps) pid off ≡ true → has_come taps pid off ≡ true
  come-left pid off = any-left (λ (tap : Tap). tell_of pid tap.records && tell_event off tap.records) (λ tap is. go tap.records is)
    where
      go : (records : Records) → (tell_of pid (records_left keep records) && tell_event off (records_left keep records)) ≡ true → (tell_of pid records && tell_event off records) ≡ true
      go (Stream recs) is = is
      go (Node recs) is = absurd (false≢true (sym (none (tell_of pid (Node (filter keep recs)))) ∙ is))
        where
          none : (b : Bool) → (b && false) ≡ false
          none true = refl
          none false = refl
      go (Client recs) is = is

  -- what is needed of what is left was needed
  needs-left : (pid : Text) (e : StreamRec) → needs (left_of keep keeps taps) pid e ≡ true → needs taps pid e ≡ true
  needs-left pid e is =
      let (recoverable, by) = and_parts (is_recoverable e) (may_be_for (left_of keep keeps taps) pid e || has_come (left_of keep keeps taps) pid (offset_of e)) is in
      and_from (is_recoverable e) (may_be_for taps pid e || has_come taps pid (offset_of e)) recoverable (go e by)
    where
      rooms : (b : Bool) (rs : List Text) → (b || list_any (ever_held (left_of keep keeps taps) pid) rs) ≡ true → (b || list_any (ever_held taps pid) rs) ≡ true
      rooms true rs h = refl
      rooms false rs h = any-wider (ever_held (left_of keep keeps taps) pid) (ever_held taps pid) (λ room held. record-left (gives_room pid room) held) rs h

      for : (x : StreamRec) → may_be_for (left_of keep keeps taps) pid x ≡ true → may_be_for taps pid x ≡ true
      for (Ev event) h =
          let (opens, to) = and_parts (any_record (opens_in pid event.nsp) (left_of keep keeps taps)) (is_empty event.rooms || list_any (ever_held (left_of keep keeps taps) pid) event.rooms) h in
          and_from (any_record (opens_in pid event.nsp) taps) (is_empty event.rooms || list_any (ever_held taps pid) event.rooms) (record-left (opens_in pid event.nsp) opens) (rooms (is_empty event.rooms) event.rooms to)
      for (Other off) h = h

      go : (x : StreamRec) → (may_be_for (left_of keep keeps taps) pid x || has_come (left_of keep keeps taps) pid (offset_of x)) ≡ true → (may_be_for taps pid x || has_come taps pid (offset_of x)) ≡ true
      go x h = further (may_be_for (left_of keep keeps taps) pid x) refl h
        where
          further : (b : Bool) → may_be_for (left_of keep keeps taps) pid x ≡ b → (b || has_come (left_of keep keeps taps) pid (offset_of x)) ≡ true → (may_be_for taps pid x || has_come taps pid (offset_of x)) ≡ true
          further true may k = or_left (may_be_for taps pid x) (has_come taps pid (offset_of x)) (for x may)
          further false none k = or_right (may_be_for taps pid x) (has_come taps pid (offset_of x)) (come-left pid (offset_of x) k)

-- the nodes' records of some sessions, taps that don't tell of this one, and entries that it doesn't need
pub part_alike : (c : Cluster) (keeps : Text → Bool) (keeps_tap : Tap → Bool) (keeps_entry : StreamRec → Bool) (pid : Text) → keeps pid ≡ true → KeepsFirstOf (keeps_record keeps) c.taps pid
    → KeepsTapsOf keeps_tap c.taps pid → KeepsNeeded keeps_entry c pid → IsJudgedAlike c (with_others keeps_entry (without_records keeps (without_taps keeps_tap c))) pid
part_alike c keeps keeps_tap keeps_entry pid kept first telling needed =
    let left : Cluster = without_records keeps (without_taps keeps_tap c) in
    then_alike c left (with_others keeps_entry left) pid (sessions_alike c keeps keeps_tap pid kept first telling)
    (others_alike left keeps_entry pid (λ k d lt is. needed k d lt (needs-left (keeps_record keeps) keeps_tap c.taps pid (get_or c.stream k d) is)))

-- what some session of these needs is kept for each of them
pub needed-kept : (c : Cluster) (pids : List Text) (pid : Text) → Contains pids pid → KeepsNeeded (needed_by_some c.taps pids) c pid
needed-kept c pids pid (i, within, at) k d lt is = any-there (λ p. needs c.taps p (get_or c.stream k d)) pids i pid (slice_get-get_or pids i pid within ∙ ap Some at) is

-- ---- the recording

-- the entries of the taps
stream-others : (keeps : StreamRec → Bool) (taps : List Tap) → stream_of (map (tap_with_others keeps) taps) ≡ map (entry_left keeps) (stream_of taps)
stream-others keeps [] = refl
stream-others keeps (tap ∷ taps) = go tap.records (stream-others keeps taps)
  where
    go : (records : Records) → stream_of (map (tap_with_others keeps) taps) ≡ map (entry_left keeps) (stream_of taps)
        → entries_or (stream_of (map (tap_with_others keeps) taps)) (entries_left keeps records) ≡ map (entry_left keeps) (entries_or (stream_of taps) records)
    go (Stream recs) ih = refl
    go (Node recs) ih = ih
    go (Client recs) ih = ih

-- what is left of a recording is the recording of the taps that are left
pub others-are : (taps : List Tap) (keeps : StreamRec → Bool) → with_others keeps (cluster_of taps) ≡ cluster_of (map (tap_with_others keeps) taps)
others-are taps keeps = ap (λ stream. over stream (map (tap_with_others keeps) taps)) (sym (stream-others keeps taps))

pub part-is : (taps : List Tap) (keeps : Text → Bool) (keeps_tap : Tap → Bool) (keeps_entry : StreamRec → Bool) → KeepsStreams keeps_tap taps
    → with_others keeps_entry (without_records keeps (without_taps keeps_tap (cluster_of taps))) ≡ cluster_of (map (tap_with_others keeps_entry) (left_of (keeps_record keeps) keeps_tap taps))
part-is taps keeps keeps_tap keeps_entry all = ap (with_others keeps_entry) (recording-is taps keeps keeps_tap all) ∙ others-are (left_of (keeps_record keeps) keeps_tap taps) keeps_entry
