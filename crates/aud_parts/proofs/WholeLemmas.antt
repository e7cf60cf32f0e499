-- The taps that are made without the clients' are those of the part of the whole recording.
use Rattle.std.proofs.Common.{◌≡◌, ◌+◌, ℕ, suc, Bool, true, false, cond, not, ◌&&◌, ◌||◌, List, [], ◌∷◌, map, filter, Some, slice_get, nat_eq, refl, sym, ap, ◌∙◌, arith}
use Rattle.std.specs.List.{All, list_any}
use Rattle.std.proofs.lemmas.List.Elements.{All-head, All-tail}
use Rattle.aud_tap.specs.declared.records.StreamRec.{StreamRec}
use Rattle.aud_tap.specs.declared.records.StreamRec.TheVariants.{Ev, Other}
use Rattle.aud_tap.specs.declared.records.NodeRec.{NodeRec}
use Rattle.aud_tap.specs.declared.taps.Records.{Records}
use Rattle.aud_tap.specs.declared.taps.Records.TheVariants.{Stream, Node, Client}
use Rattle.aud_tap.specs.declared.taps.Tap.{Tap}
use Rattle.aud_tap.specs.RecordFields.{offset_of}
use Rattle.aud_node.specs.Cluster.{Cluster, cluster_of, stream_of, entries_or}
use Rattle.aud_node.specs.Lists.{is_empty}
use Rattle.aud_node.specs.Recoverable.{is_recoverable}
use Rattle.aud_node.specs.Stream.{Text}
use Rattle.aud_upgrade.specs.declared.joins.Joins.{Joins}
use Rattle.aud_upgrade.specs.declared.joins.Joins.TheVariants.{TakeAndTakes}
use Rattle.aud_upgrade.specs.Upgraded.{upgraded_records, upgraded_tap, with_runs}
use Rattle.aud_parts.specs.LeftOut.{keeps_record, records_left, tap_left}
use Rattle.aud_parts.specs.MadeOther.{any_record, entry_left, entries_left, tap_with_others}
use Rattle.aud_parts.specs.Part.{is_among, is_kept_tap, left_for, opens_nsp, grants, is_for_some, came_to_some, is_kept_entry, part_for}
use Rattle.aud_parts.specs.PartTaps.{is_client, without_clients, servers_left, stays_event, placed_left, part_entries, tap_with, part_taps, HasOneStream, HaveCome, IsPartOfEach}
use Rattle.aud_parts.specs.Private.Kept.{tap_of}
use Rattle.aud_parts.proofs.EntryLemmas.{placed-same}

-- ---- taps without those of clients

abbrev is_server : Tap → Bool
is_server tap = not (is_client tap.records)

-- two filters, one after the other
filter-swap : (p q : Tap → Bool) (taps : List Tap) → filter p (filter q taps) ≡ filter q (filter p taps)
filter-swap p q [] = refl
filter-swap p q (tap ∷ taps) = go (p tap) (q tap) refl refl (filter-swap p q taps)
  where
    fp : List Tap
    fp = filter p taps

    fq : List Tap
    fq = filter q taps

    go : (a b : Bool) → p tap ≡ a → q tap ≡ b → filter p fq ≡ filter q fp → filter p (cond b (tap ∷ fq) fq) ≡ filter q (cond a (tap ∷ fp) fp)
    go true true is_a is_b ih =
        ap (λ c. cond c (tap ∷ filter p fq) (filter p fq)) is_a ∙ ap (λ ts. tap ∷ ts) ih ∙ sym (ap (λ c. cond c (tap ∷ filter q fp) (filter q fp)) is_b)
    go true false is_a is_b ih = ih ∙ sym (ap (λ c. cond c (tap ∷ filter q fp) (filter q fp)) is_b)
    go false true is_a is_b ih = ap (λ c. cond c (tap ∷ filter p fq) (filter p fq)) is_a ∙ ih
    go false false is_a is_b ih = ih

-- the same filter twice
filter-twice : (p : Tap → Bool) (taps : List Tap) → filter p (filter p taps) ≡ filter p taps
filter-twice p [] = refl
filter-twice p (tap ∷ taps) = go (p tap) refl (filter-twice p taps)
  where
    rest : List Tap
    rest = filter p taps

    go : (b : Bool) → p tap ≡ b → filter p rest ≡ rest → filter p (cond b (tap ∷ rest) rest) ≡ cond b (tap ∷ rest) rest
    go true e ih = ap (λ b. cond b (tap ∷ filter p rest) (filter p rest)) e ∙ ap (λ ts. tap ∷ ts) ih
    go false e ih = ih

-- what becomes of taps of which each stays a client's or none
without-map : (f : Tap → Tap) → ((tap : Tap) → is_client (f tap).records ≡ is_client tap.records) → (taps : List Tap) → without_clients (map f taps) ≡ map f (without_clients taps)
without-map f kept [] = refl
without-map f kept (tap ∷ taps) =
    ap (λ b. cond (not b) (f tap ∷ without_clients (map f taps)) (without_clients (map f taps))) (kept tap) ∙ go (is_client tap.records) (without-map f kept taps)
  where
    go : (b : Bool) → without_clients (map f taps) ≡ map f (without_clients taps)
        → cond (not b) (f tap ∷ without_clients (map f taps)) (without_clients (map f taps)) ≡ map f (cond (not b) (tap ∷ without_clients taps) (without_clients taps))
    go true ih = ih
    go false ih = ap (λ ts. f tap ∷ ts) ih

left-client : (keep : NodeRec → Bool) (records : Records) → is_client (records_left keep records) ≡ is_client records
left-client keep (Stream recs) = refl
left-client keep (Node recs) = refl
left-client keep (Client recs) = refl

others-client : (keeps : StreamRec → Bool) (records : Records) → is_client (entries_left keeps records) ≡ is_client records
others-client keeps (Stream recs) = refl
others-client keeps (Node recs) = refl
others-client keeps (Client recs) = refl

upgraded-client : (joins : Joins) (stream : List StreamRec) (records : Records) → is_client (upgraded_records joins stream records) ≡ is_client records
upgraded-client joins stream (Stream recs) = refl
upgraded-client joins stream (Node recs) = refl
upgraded-client joins stream (Client recs) = refl

-- the stream's entries
without-stream : (taps : List Tap) → stream_of (without_clients taps) ≡ stream_of taps
without-stream [] = refl
without-stream (tap ∷ taps) = go tap.records (without-stream taps)
  where
    go : (r : Records) → stream_of (without_clients taps) ≡ stream_of taps → stream_of (without_clients (tap_of tap r ∷ taps)) ≡ entries_or (stream_of taps) r
    go (Stream recs) ih = refl
    go (Node recs) ih = ih
    go (Client recs) ih = ih

-- the nodes' records
without-any : (test : NodeRec → Bool) (taps : List Tap) → any_record test (without_clients taps) ≡ any_record test taps
without-any test [] = refl
without-any test (tap ∷ taps) = go tap.records (without-any test taps)
  where
    go : (r : Records) → any_record test (without_clients taps) ≡ any_record test taps → any_record test (without_clients (tap_of tap r ∷ taps)) ≡ any_record test (tap_of tap r ∷ taps)
    go (Stream recs) ih = ih
    go (Node recs) ih = ap (λ b. list_any test recs || b) ih
    go (Client recs) ih = ih

-- for whom an entry is
without-for : (taps : List Tap) (event : StreamRec) → is_for_some (without_clients taps) event ≡ is_for_some taps event
without-for taps (Other off) = refl
without-for taps (Ev event) =
    let same : (λ (room : Text). any_record (grants room) (without_clients taps)) ≡ (λ (room : Text). any_record (grants room) taps) = λ i room. without-any (grants room) taps i in
    ap (λ b. b && (is_empty event.rooms || list_any (λ room. any_record (grants room) (without_clients taps)) event.rooms)) (without-any (opens_nsp event.nsp) taps)
    ∙ ap (λ (held : Text → Bool). any_record (opens_nsp event.nsp) taps && (is_empty event.rooms || list_any held event.rooms)) same

-- ---- the taps of a part

module _ (pids : List Text) (came : List ℕ) (whole : List Tap) (one_stream : HasOneStream whole) (have_come : HaveCome pids whole came) where
  abbrev servers : List Tap
  servers = without_clients whole

  abbrev left : List Tap
  left = (left_for pids whole).taps

  abbrev keeps : StreamRec → Bool
  keeps = is_kept_entry left

  abbrev entries : List StreamRec
  entries = part_entries pids came (cluster_of servers)

  -- they are those of the whole recording that are left
  servers-left : servers_left pids servers ≡ without_clients left
  servers-left =
      ap (λ ts. map (tap_left (keeps_record (is_among pids))) (filter (is_kept_tap pids) ts)) (filter-twice is_server whole)
      ∙ ap (map (tap_left (keeps_record (is_among pids)))) (filter-swap (is_kept_tap pids) is_server whole)
      ∙ sym (without-map (tap_left (keeps_record (is_among pids))) (λ tap. left-client (keeps_record (is_among pids)) tap.records) (filter (is_kept_tap pids) whole))

  -- an entry stays an event by its position as it does by itself
  stays-same : (i : ℕ) (event : StreamRec) → slice_get (stream_of whole) i ≡ Some event → stays_event (is_for_some (servers_left pids servers)) came (1 + i) event ≡ keeps event
  stays-same i event at =
      let next : 1 + i ≡ suc i = omega arith in
      ap (λ p. stays_event (is_for_some (servers_left pids servers)) came p event) next
      ∙ ap (λ b. is_recoverable event && (b || list_any (nat_eq (suc i)) came)) (ap (λ ts. is_for_some ts event) servers-left ∙ without-for left event)
      ∙ go (is_recoverable event) (λ is. have_come (suc i) event at is)
    where
      go : (b : Bool) → (b ≡ true → list_any (nat_eq (suc i)) came ≡ came_to_some left (offset_of event))
          → (b && (is_for_some left event || list_any (nat_eq (suc i)) came)) ≡ (b && (is_for_some left event || came_to_some left (offset_of event)))
      go true came_there = ap (λ c. is_for_some left event || c) (came_there refl)
      go false came_there = refl

  entries-are : entries ≡ map (entry_left keeps) (stream_of whole)
  entries-are =
      ap (λ events. placed events) (without-stream whole)
      ∙ placed-same (stays_event (is_for_some (servers_left pids servers)) came) keeps 1 (stream_of whole) stays-same
    where
      placed : List StreamRec → List StreamRec
      placed events = placed_left (stays_event (is_for_some (servers_left pids servers)) came) 1 events

  -- each of them has these entries, if it is a stream's
  same-each : (taps : List Tap) → All (λ (tap : Tap). entries_or (stream_of whole) tap.records ≡ stream_of whole) taps
      → map (tap_with entries) (without_clients (map (tap_left (keeps_record (is_among pids))) (filter (is_kept_tap pids) taps)))
      ≡ map (tap_with_others keeps) (without_clients (map (tap_left (keeps_record (is_among pids))) (filter (is_kept_tap pids) taps)))
  same-each [] all = refl
  same-each (tap ∷ taps) all =
      go tap.records
      (All-head (λ (t : Tap). entries_or (stream_of whole) t.records ≡ stream_of whole) tap taps all)
      (same-each taps (All-tail (λ (t : Tap). entries_or (stream_of whole) t.records ≡ stream_of whole) tap taps all))
    where
      rest : List Tap
      rest = filter (is_kept_tap pids) taps

      trimmed : List Tap → List Tap
      trimmed ts = without_clients (map (tap_left (keeps_record (is_among pids))) ts)

      Same : List Tap → Type 0
      Same ts = map (tap_with entries) (trimmed ts) ≡ map (tap_with_others keeps) (trimmed ts)

      maybe : (r : Records) → Same (tap_of tap r ∷ rest) → Same rest → (b : Bool) → Same (cond b (tap_of tap r ∷ rest) rest)
      maybe r more ih true = more
      maybe r more ih false = ih

      go : (r : Records) → entries_or (stream_of whole) r ≡ stream_of whole → Same rest → Same (cond (is_kept_tap pids (tap_of tap r)) (tap_of tap r ∷ rest) rest)
      go (Stream recs) is ih =
          ap (λ events. tap_of tap (Stream events) ∷ map (tap_with entries) (trimmed rest)) (entries-are ∙ ap (map (entry_left keeps)) (sym is))
          ∙ ap (λ ts. tap_of tap (Stream (map (entry_left keeps) recs)) ∷ ts) ih
      go (Node recs) is ih = maybe (Node recs) (ap (λ ts. tap_of tap (Node (filter (keeps_record (is_among pids)) recs)) ∷ ts) ih) ih (is_kept_tap pids (tap_of tap (Node recs)))
      go (Client recs) is ih = maybe (Client recs) ih ih (is_kept_tap pids (tap_of tap (Client recs)))

  -- the part's taps without its clients' are these
  servers-part : part_taps pids came (cluster_of servers) ≡ without_clients (part_for pids whole)
  servers-part =
      let with_others : List Tap = map (tap_with_others keeps) left in
      let same : map (tap_with entries) (servers_left pids servers) ≡ without_clients with_others =
      ap (map (tap_with entries)) servers-left
      ∙ same-each whole one_stream
      ∙ sym (without-map (tap_with_others keeps) (λ tap. others-client keeps tap.records) left) in
      ap with_runs same
      ∙ ap (λ stream. map (upgraded_tap TakeAndTakes stream) (without_clients with_others)) (without-stream with_others)
      ∙ sym (without-map (upgraded_tap TakeAndTakes (stream_of with_others)) (λ tap. upgraded-client TakeAndTakes (stream_of with_others) tap.records) with_others)

-- these taps are the part's of each recording
pub part-of_each : (pids : List Text) (came : List ℕ) (c : Cluster) (part : List Tap) → part ≡ part_taps pids came c → IsPartOfEach pids came c part
part-of_each pids came c part is = λ whole told. is ∙ ap (part_taps pids came) (sym told.servers) ∙ servers-part pids came whole told.one_stream told.have_come
