-- Upgraded taps are judged as the taps that they were made from.
use Rattle.std.proofs.Common.{◌≡◌, ℕ, Bool, true, false, cond, List, [], ◌∷◌, ◌++◌, length, map, flat_map, Option, Some, None, option_map, slice_get, refl, sym, ap, subst, ◌∙◌, true≢false}
use Rattle.std.specs.List.{filter, filter_map}
use Rattle.std.specs.Option.{option_and_then}
use Rattle.std.proofs.lemmas.Option.{slice_get-map}
use Rattle.std.proofs.lemmas.List.{length-map}
use Rattle.aud_tap.specs.declared.records.StreamRec.{StreamRec}
use Rattle.aud_tap.specs.declared.records.NodeRec.{NodeRec}
use Rattle.aud_tap.specs.declared.records.NodeRec.TheVariants.{Start, Take, Takes, Opened, Join, Leave, Broke, Back, Gone}
use Rattle.aud_tap.specs.declared.taps.Tap.{Tap}
use Rattle.aud_tap.specs.declared.taps.Records.{Records}
use Rattle.aud_tap.specs.declared.taps.Records.TheVariants.{Stream, Node, Client}
use Rattle.aud_node.specs.Lists.{numbers_from}
use Rattle.aud_node.specs.Stream.{Text}
use Rattle.aud_node.specs.Cluster.{cluster_of, stream_of, entries_or, node_recs, node_log}
use Rattle.aud_node.specs.Cursors.{next_cursor}
use Rattle.aud_node.specs.Ordered.{is_ordered}
use Rattle.aud_node.specs.NodeTaps.{client_recs}
use Rattle.aud_node.specs.TurnRecords.{pid_of}
use Rattle.aud_client.specs.Replies.{is_naming}
use Rattle.aud_base.specs.FirstTexts.{first_texts}
use Rattle.aud_maker.specs.Sessions.{node_pids, reply_pids, mentions, sessions_of}
use Rattle.aud_verdict.specs.Verdict.{IsVerdict}
use Rattle.aud_upgrade.specs.declared.joins.Joins.{Joins}
use Rattle.aud_upgrade.specs.Upgraded.{upgraded_log, upgraded_records, upgraded_tap, upgraded_by}
use Rattle.aud_upgrade.specs.Kept.{AreJudgedAlike}
use Rattle.aud_upgrade.specs.Private.Told.{Told, is_taking, told, told_at}
use Rattle.aud_upgrade.specs.Private.Alike.{AreAlike}
use Rattle.aud_upgrade.specs.Private.Same.{over, AreAlikeTaps}
use Rattle.aud_upgrade.proofs.VerdictLemmas.{turned_round, same_verdict}
use Rattle.aud_upgrade.proofs.UpgradedLemmas.{upgraded-alike, upgraded-ordered}

-- the pid of a record that takes entries
taking-pid : (rec : NodeRec) → is_taking rec ≡ true → pid_of rec ≡ None
taking-pid (Take off) e = refl
taking-pid (Takes off) e = refl
taking-pid (Start off) e = refl
taking-pid (Opened other sid nsp) e = absurd (true≢false (sym e))
taking-pid (Join other room) e = absurd (true≢false (sym e))
taking-pid (Leave other room) e = absurd (true≢false (sym e))
taking-pid (Broke other turn) e = absurd (true≢false (sym e))
taking-pid (Back other turn) e = absurd (true≢false (sym e))
taking-pid (Gone other) e = absurd (true≢false (sym e))

flat_map-map : {X Y : Type 0} (f g : X → List Y) (h : X → X) → ((x : X) → f (h x) ≡ g x) → (xs : List X) → flat_map f (map h xs) ≡ flat_map g xs
flat_map-map f g h same [] = refl
flat_map-map f g h same (x ∷ xs) = ap (λ ys. ys ++ flat_map f (map h xs)) (same x) ∙ ap (λ ys. g x ++ ys) (flat_map-map f g h same xs)

filter-alike : (f g : ℕ → Bool) → ((n : ℕ) → f n ≡ g n) → (ns : List ℕ) → filter f ns ≡ filter g ns
filter-alike f g same [] = refl
filter-alike f g same (n ∷ ns) = ap (λ b. cond b (n ∷ filter f ns) (filter f ns)) (same n) ∙ ap (λ xs. cond (g n) (n ∷ xs) xs) (filter-alike f g same ns)

-- one element more, by what it gives
abbrev with_some : {X : Type 0} → Option X → List X → List X
with_some None xs = xs
with_some (Some x) xs = x ∷ xs

filter_map-cons : {X Y : Type 0} (f : X → Option Y) (x : X) (xs : List X) → filter_map f (x ∷ xs) ≡ with_some (f x) (filter_map f xs)
filter_map-cons {Y = Y} f x xs = go (f x) refl
  where
    go : (o : Option Y) → f x ≡ o → filter_map f (x ∷ xs) ≡ with_some o (filter_map f xs)
    go None e = rw e refl
    go (Some y) e = rw e refl

module _ (stream : List StreamRec) where
  -- the pids that a log names are those of the records that take nothing
  pids-told : (number cursor : ℕ) (recs : List NodeRec) → filter_map pid_of recs ≡ filter_map (λ t. pid_of t.rec) (told stream number cursor recs)
  pids-told number cursor [] = refl
  pids-told number cursor (rec ∷ recs) = go (is_taking rec) refl (pids-told 1 (next_cursor stream number rec cursor) recs)
    where
      rest : List Told
      rest = told stream 1 (next_cursor stream number rec cursor) recs

      of_told : Told → Option Text
      of_told t = pid_of t.rec

      go : (b : Bool) → is_taking rec ≡ b → filter_map pid_of recs ≡ filter_map (λ t. pid_of t.rec) rest
          → filter_map pid_of (rec ∷ recs) ≡ filter_map (λ t. pid_of t.rec) (cond b rest (told_at stream number cursor rec ∷ rest))
      go true e ih = filter_map-cons pid_of rec recs ∙ ap (λ o. with_some o (filter_map pid_of recs)) (taking-pid rec e) ∙ ih
      go false e ih = filter_map-cons pid_of rec recs ∙ ap (with_some (pid_of rec)) ih ∙ sym (filter_map-cons (λ (t : Told). pid_of t.rec) (told_at stream number cursor rec) rest)

module _ (joins : Joins) (stream : List StreamRec) where
  pids-kept : (log : List NodeRec) → filter_map pid_of (upgraded_log joins stream log) ≡ filter_map pid_of log
  pids-kept log =
      pids-told stream 0 0 (upgraded_log joins stream log) ∙ ap (filter_map (λ t. pid_of t.rec)) (sym (upgraded-alike stream joins log).tells) ∙ sym (pids-told stream 0 0 log)

  records-pids : (records : Records) → filter_map pid_of (node_recs (Some (upgraded_records joins stream records))) ≡ filter_map pid_of (node_recs (Some records))
  records-pids (Stream recs) = refl
  records-pids (Node recs) = pids-kept recs
  records-pids (Client recs) = refl

  clients-kept : (records : Records) (name : Text) (t : Tap) → client_recs (record t { records = upgraded_records joins stream records }) ≡ client_recs (record t { records = records })
  clients-kept (Stream recs) name t = refl
  clients-kept (Node recs) name t = refl
  clients-kept (Client recs) name t = refl

  client-kept : (tap : Tap) → client_recs (upgraded_tap joins stream tap) ≡ client_recs tap
  client-kept tap = clients-kept tap.records tap.name tap

  module _ (taps : List Tap) where
    abbrev ups : List Tap
    ups = map (upgraded_tap joins stream) taps

    at-place : (place : ℕ) → slice_get ups place ≡ option_map (upgraded_tap joins stream) (slice_get taps place)
    at-place place = slice_get-map (upgraded_tap joins stream) taps place

    clients-at : (place : ℕ) → option_and_then client_recs (slice_get ups place) ≡ option_and_then client_recs (slice_get taps place)
    clients-at place = ap (option_and_then client_recs) (at-place place) ∙ go (slice_get taps place)
      where
        go : (o : Option Tap) → option_and_then client_recs (option_map (upgraded_tap joins stream) o) ≡ option_and_then client_recs o
        go None = refl
        go (Some tap) = client-kept tap

    log-at : (place : ℕ) → node_log (over stream ups) place ≡ upgraded_log joins stream (node_log (over stream taps) place)
    log-at place = ap (λ o. node_recs (option_map (λ (tap : Tap). tap.records) o)) (at-place place) ∙ go (slice_get taps place)
      where
        records : (r : Records) → node_recs (Some (upgraded_records joins stream r)) ≡ upgraded_log joins stream (node_recs (Some r))
        records (Stream recs) = refl
        records (Node recs) = refl
        records (Client recs) = refl

        go : (o : Option Tap) → node_recs (option_map (λ (tap : Tap). tap.records) (option_map (upgraded_tap joins stream) o)) ≡ upgraded_log joins stream (node_recs (option_map (λ (tap : Tap). tap.records) o))
        go None = refl
        go (Some tap) = records tap.records

    -- upgraded taps are alike those that they were made from
    alike : AreAlikeTaps stream taps ups
    alike = record {
      logs = λ place. subst (λ xs. AreAlike stream 0 0 (node_log (over stream taps) place) 0 0 xs) (sym (log-at place)) (upgraded-alike stream joins (node_log (over stream taps) place));
      orders = λ place. upgraded-ordered stream joins (node_log (over stream taps) place) ∙ ap (is_ordered stream) (sym (log-at place));
      clients = λ place. sym (clients-at place);
      naming = λ pid. sym (
          filter-alike (λ place. is_naming pid (option_and_then client_recs (slice_get ups place))) (λ place. is_naming pid (option_and_then client_recs (slice_get taps place)))
          (λ place. ap (is_naming pid) (clients-at place)) (numbers_from 0 (length ups))
          ∙ ap (λ n. filter (λ place. is_naming pid (option_and_then client_recs (slice_get taps place))) (numbers_from 0 n)) (length-map taps (upgraded_tap joins stream)));
    }

    mentioned : mentions (over stream ups) ≡ mentions (over stream taps)
    mentioned =
        ap (λ ps. ps ++ flat_map (λ tap. reply_pids stream (client_recs tap)) ups) (flat_map-map node_pids node_pids (upgraded_tap joins stream) (λ tap. records-pids tap.records) taps)
        ∙ ap (λ ps. flat_map node_pids taps ++ ps)
        (flat_map-map (λ tap. reply_pids stream (client_recs tap)) (λ tap. reply_pids stream (client_recs tap)) (upgraded_tap joins stream) (λ tap. ap (reply_pids stream) (client-kept tap)) taps)

stream-kept : (joins : Joins) (stream : List StreamRec) (taps : List Tap) → stream_of (map (upgraded_tap joins stream) taps) ≡ stream_of taps
stream-kept joins stream [] = refl
stream-kept joins stream (tap ∷ taps) = go tap.records (stream-kept joins stream taps)
  where
    go : (r : Records) → stream_of (map (upgraded_tap joins stream) taps) ≡ stream_of taps → entries_or (stream_of (map (upgraded_tap joins stream) taps)) (upgraded_records joins stream r) ≡ entries_or (stream_of taps) r
    go (Stream recs) ih = refl
    go (Node recs) ih = ih
    go (Client recs) ih = ih

-- an upgrade keeps the sessions, their order and their verdicts, whichever records it joins
pub keep_verdicts : (joins : Joins) (taps : List Tap) → AreJudgedAlike taps (upgraded_by joins taps)
keep_verdicts joins taps =
    let stream = stream_of taps in
    let new = upgraded_by joins taps in
    let same : cluster_of new ≡ over stream new = ap (λ entries. over entries new) (stream-kept joins stream taps) in
    record {
      sessions = ap sessions_of same ∙ ap first_texts (mentioned joins stream taps);
      kept = λ whole pid verdict is. subst (λ c. IsVerdict c whole pid verdict) (sym same) (same_verdict stream taps new (alike joins stream taps) whole pid verdict is);
      not_new = λ whole pid verdict is.
          same_verdict stream new taps (turned_round stream taps new (alike joins stream taps)) whole pid verdict (subst (λ c. IsVerdict c whole pid verdict) same is);
    }
