-- What may be left out, and that it changes no verdict on the other sessions.
use Rattle.std.proofs.Common.{◌≡◌, Bool, true, false, cond, List, [], ◌∷◌, map, Option, Some, None, get_or, refl, sym, ap, subst, ◌∙◌, bytes_eq}
use Rattle.std.specs.List.{filter}
use Rattle.std.proofs.lemmas.Bool.{false≢true}
use Rattle.std.proofs.lemmas.List.Elements.{All-head, All-tail}
use Rattle.aud_tap.specs.declared.records.NodeRec.{NodeRec}
use Rattle.aud_tap.specs.declared.records.NodeRec.TheVariants.{Start, Take, Takes, Opened, Join, Leave, Broke, Back, Gone}
use Rattle.aud_tap.specs.declared.records.StreamRec.{StreamRec}
use Rattle.aud_tap.specs.declared.taps.Records.{Records}
use Rattle.aud_tap.specs.declared.taps.Records.TheVariants.{Stream, Node, Client}
use Rattle.aud_tap.specs.declared.taps.Tap.{Tap}
use Rattle.aud_tap.specs.RecordFields.{pid_of}
use Rattle.aud_base.proofs.SameText.{same_text}
use Rattle.aud_node.specs.Cluster.{Cluster, entries_or, is_stream, stream_of, cluster_of, node_recs}
use Rattle.aud_node.specs.Stream.{Text}
use Rattle.aud_parts.specs.LeftOut.{keeps_pid, keeps_record, records_left, tap_left, without_records, without_taps, KeepsTapsOf, KeepsStreams, keeps_first, KeepsFirstOf, is_started, StartFirst, IsJudgedAlike}
use Rattle.aud_laws.proofs.LeftOut.Records.{IsOfAnother, LeavesOthers}
use Rattle.aud_laws.proofs.LeftOut.Logs.{over, left_of, Leaves}
use Rattle.aud_laws.proofs.LeftOut.Chains.{chain-there, chain-back, no_turn-there, no_turn-back}
use Rattle.aud_laws.proofs.LeftOut.Clients.{naming-left}
use Rattle.aud_laws.proofs.LeftOut.Verdicts.{Carries, same_verdict}

-- ---- taps and records that may be left out

module _ (stream : List StreamRec) (taps : List Tap) (keep : NodeRec → Bool) (keeps : Tap → Bool) (pid : Text) (leaves : Leaves stream taps keep keeps pid) where
  -- the same for another text that is its pid
  its_leaves : (other : Text) → other ≡ pid → Leaves stream taps keep keeps other
  its_leaves other same = subst (Leaves stream taps keep keeps) (sym same) leaves

  carries-there : Carries stream taps (left_of keep keeps taps) pid
  carries-there = record {
    no_turn = no_turn-there stream taps keep keeps pid leaves;
    chain = λ who ts names. chain-there stream taps keep keeps who (its_leaves who.pid names) ts;
    naming = sym (naming-left keep keeps pid taps leaves.telling);
  }

  carries-back : Carries stream (left_of keep keeps taps) taps pid
  carries-back = record {
    no_turn = no_turn-back stream taps keep keeps pid leaves;
    chain = λ who ts names. chain-back stream taps keep keeps who (its_leaves who.pid names) ts;
    naming = naming-left keep keeps pid taps leaves.telling;
  }

  -- the verdict stays
  left_alike : IsJudgedAlike (over stream taps) (over stream (left_of keep keeps taps)) pid
  left_alike whole verdict =
      (same_verdict stream taps (left_of keep keeps taps) pid carries-there carries-back whole verdict, same_verdict stream (left_of keep keeps taps) taps pid carries-back carries-there whole verdict)

-- a record that isn't kept names another session than one that is
leaves_others : (keeps : Text → Bool) (pid : Text) → keeps pid ≡ true → LeavesOthers (keeps_record keeps) pid
leaves_others keeps pid kept rec out = go (pid_of rec) refl out
  where
    differs : (other : Text) → keeps other ≡ false → (b : Bool) → bytes_eq other pid ≡ b → b ≡ false
    differs other none true same = absurd (false≢true (sym none ∙ ap keeps (same_text other pid same) ∙ kept))
    differs other none false same = refl

    go : (o : Option Text) → pid_of rec ≡ o → keeps_pid keeps o ≡ false → IsOfAnother pid rec
    go None names none = absurd (false≢true (sym none))
    go (Some other) names none = record { other = other; names = names; differs = differs other none (bytes_eq other pid) refl }

-- where all records are kept, the first is
all-first : (log : List NodeRec) → keeps_first (λ _. true) log ≡ true
all-first [] = refl
all-first (rec ∷ recs) = refl

-- a `start` that stands first is kept
start-first : (keeps : Text → Bool) (log : List NodeRec) → is_started log ≡ true → keeps_first (keeps_record keeps) log ≡ true
start-first keeps [] e = refl
start-first keeps (Start off ∷ recs) e = refl
start-first keeps (Take off ∷ recs) e = absurd (false≢true e)
start-first keeps (Takes off ∷ recs) e = absurd (false≢true e)
start-first keeps (Opened pid sid nsp ∷ recs) e = absurd (false≢true e)
start-first keeps (Join pid room ∷ recs) e = absurd (false≢true e)
start-first keeps (Leave pid room ∷ recs) e = absurd (false≢true e)
start-first keeps (Broke pid turn ∷ recs) e = absurd (false≢true e)
start-first keeps (Back pid turn ∷ recs) e = absurd (false≢true e)
start-first keeps (Gone pid ∷ recs) e = absurd (false≢true e)

-- a test that all elements pass leaves all
filter-all : {X : Type 0} (xs : List X) → filter (λ _. true) xs ≡ xs
filter-all [] = refl
filter-all (x ∷ xs) = ap (λ ys. x ∷ ys) (filter-all xs)

records-all : (records : Records) → records_left (λ _. true) records ≡ records
records-all (Stream recs) = refl
records-all (Node recs) = ap Node (filter-all recs)
records-all (Client recs) = refl

taps-all : (taps : List Tap) → map (tap_left (λ _. true)) taps ≡ taps
taps-all [] = refl
taps-all (tap ∷ taps) =
    let same : tap_left (λ _. true) tap ≡ tap = λ i. record { name = tap.name; version = tap.version; records = records-all tap.records i } in
    ap (λ t. t ∷ map (tap_left (λ _. true)) taps) same ∙ ap (λ ts. tap ∷ ts) (taps-all taps)

-- ---- the laws

-- taps that don't tell of the session
pub taps_alike : (c : Cluster) (keeps : Tap → Bool) (pid : Text) → KeepsTapsOf keeps c.taps pid → IsJudgedAlike c (without_taps keeps c) pid
taps_alike c keeps pid telling =
    subst (λ taps. IsJudgedAlike c (over c.stream taps) pid) (taps-all (filter keeps c.taps))
    (left_alike c.stream c.taps (λ _. true) keeps pid
    (record { others = λ rec out. absurd (false≢true (sym out)); first = λ k d h tells. all-first (node_recs (Some (get_or c.taps k d).records)); telling = telling }))

-- of some sessions the records, and taps that don't tell of this one
pub sessions_alike : (c : Cluster) (keeps : Text → Bool) (keeps_tap : Tap → Bool) (pid : Text) → keeps pid ≡ true → KeepsFirstOf (keeps_record keeps) c.taps pid → KeepsTapsOf keeps_tap c.taps pid
    → IsJudgedAlike c (without_records keeps (without_taps keeps_tap c)) pid
sessions_alike c keeps keeps_tap pid kept first telling =
    left_alike c.stream c.taps (keeps_record keeps) keeps_tap pid (record { others = leaves_others keeps pid kept; first = first; telling = telling })

-- where each log begins with a `start`, it still does
pub first-kept-all : (taps : List Tap) (keeps : Text → Bool) (pid : Text) → StartFirst taps → KeepsFirstOf (keeps_record keeps) taps pid
first-kept-all taps keeps pid all = λ k d h tells. start-first keeps (node_recs (Some (get_or taps k d).records)) (all k d h)

-- the records alone
pub records_alike : (c : Cluster) (keeps : Text → Bool) (pid : Text) → keeps pid ≡ true → KeepsFirstOf (keeps_record keeps) c.taps pid → IsJudgedAlike c (without_records keeps c) pid
records_alike c keeps pid kept first =
    subst (λ taps. IsJudgedAlike c (without_records keeps (over c.stream taps)) pid) (filter-all c.taps)
    (sessions_alike c keeps (λ _. true) pid kept first (λ k d h told. refl))

-- ---- the stream

-- the entries are those of all taps
stream-left : (keep : NodeRec → Bool) (keeps : Tap → Bool) (taps : List Tap) → KeepsStreams keeps taps → stream_of (left_of keep keeps taps) ≡ stream_of taps
stream-left keep keeps [] all = refl
stream-left keep keeps (tap ∷ taps) all =
    go (keeps tap) refl (stream-left keep keeps taps (All-tail (λ (t : Tap). is_stream t.records ≡ true → keeps t ≡ true) tap taps all))
  where
    kept : is_stream tap.records ≡ true → keeps tap ≡ true
    kept = All-head (λ (t : Tap). is_stream t.records ≡ true → keeps t ≡ true) tap taps all

    other : (records : Records) → is_stream records ≡ false → (entries : List StreamRec) → entries ≡ entries_or entries records
    other (Stream recs) e entries = absurd (false≢true (sym e))
    other (Node recs) e entries = refl
    other (Client recs) e entries = refl

    same : (records : Records) (entries : List StreamRec) → entries_or entries (records_left keep records) ≡ entries_or entries records
    same (Stream recs) entries = refl
    same (Node recs) entries = refl
    same (Client recs) entries = refl

    none : keeps tap ≡ false → (b : Bool) → is_stream tap.records ≡ b → b ≡ false
    none out true is = absurd (false≢true (sym out ∙ kept is))
    none out false is = refl

    go : (b : Bool) → keeps tap ≡ b → stream_of (left_of keep keeps taps) ≡ stream_of taps
        → stream_of (map (tap_left keep) (cond b (tap ∷ filter keeps taps) (filter keeps taps))) ≡ entries_or (stream_of taps) tap.records
    go true is ih = same tap.records (stream_of (left_of keep keeps taps)) ∙ ap (λ entries. entries_or entries tap.records) ih
    go false out ih = ih ∙ other tap.records (none out (is_stream tap.records) refl) (stream_of taps)

-- what is left of a recording is the recording of the taps that are left
pub recording-is : (taps : List Tap) (keeps : Text → Bool) (keeps_tap : Tap → Bool) → KeepsStreams keeps_tap taps
    → without_records keeps (without_taps keeps_tap (cluster_of taps)) ≡ cluster_of (left_of (keeps_record keeps) keeps_tap taps)
recording-is taps keeps keeps_tap all = ap (λ stream. over stream (left_of (keeps_record keeps) keeps_tap taps)) (sym (stream-left (keeps_record keeps) keeps_tap taps all))
