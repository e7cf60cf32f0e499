-- What a closed plan keeps together.
use Rattle.std.proofs.Common.{◌≡◌, ◌<◌, ℕ, suc, Bool, true, false, not, cond, ◌||◌, List, [], ◌∷◌, ◌++◌, length, filter, flat_map, Option, Some, None, slice_get, nat_eq, is_none, bytes_eq, refl, sym, ap, subst, ◌∙◌, inl, inr, arith}
use Rattle.std.specs.List.{All, list_all, list_any, filter_map, cons_option}
use Rattle.std.specs.Option.{option_map, option_and_then}
use Rattle.std.specs.Cmp.Lexicographic.{nat_list_eq_equiv}
use Rattle.std.proofs.lemmas.Bool.{false≢true, and_parts, or_cases, or_parts, eqb-true, eq-eqb}
use Rattle.std.proofs.lemmas.Option.{none-some}
use Rattle.std.proofs.lemmas.List.Elements.{All-nil, All-cons, All-head, All-tail}
use Rattle.std.proofs.lemmas.List.Folds.{list_any-append}
use Rattle.aud_tap.specs.declared.records.StreamRec.{StreamRec}
use Rattle.aud_tap.specs.declared.records.NodeRec.{NodeRec}
use Rattle.aud_tap.specs.declared.records.NodeRec.TheVariants.{Start, Take, Takes, Opened, Join, Leave, Broke, Back, Gone}
use Rattle.aud_tap.specs.declared.records.ClientRec.{ClientRec}
use Rattle.aud_tap.specs.declared.taps.Records.{Records}
use Rattle.aud_tap.specs.declared.taps.Records.TheVariants.{Stream, Node, Client}
use Rattle.aud_tap.specs.RecordFields.{pid_of}
use Rattle.aud_tap.specs.declared.taps.Tap.{Tap}
use Rattle.aud_base.specs.FirstTexts.{first_texts, with_text, with_texts}
use Rattle.aud_base.specs.OneForEach.{OneForEach}
use Rattle.aud_base.proofs.FirstTexts.{first-texts}
use Rattle.aud_base.proofs.SameText.{same_text, itself_text}
use Rattle.aud_node.specs.Stream.{Text}
use Rattle.aud_node.specs.Cluster.{node_recs}
use Rattle.aud_node.specs.NodeTaps.{client_recs, client_records}
use Rattle.aud_node.specs.OwnRecords.{is_pid, record_names}
use Rattle.aud_node.specs.NamedPids.{node_pids}
use Rattle.aud_client.specs.Replies.{ReplySeen, reply_names, is_this, tap_names, is_naming}
use Rattle.aud_client.specs.StaySeen.{StaySeen}
use Rattle.aud_client.specs.Received.{stay_names_pid, transcript_of}
use Rattle.aud_client.proofs.Named.{named_by_replies}
use Rattle.aud_maker.specs.Sessions.{stay_pid, reply_pids}
use Rattle.aud_parts.specs.LeftOut.{keeps_pid, keeps_record, keeps_first, begins_with_start, is_start, tell_of}
use Rattle.aud_parts.specs.Part.{is_among, names_session}
use Rattle.aud_parts.specs.Plan.{client_pids, number_of, is_part, part_of, is_in, pids_with, has_its_part, IsClientIn, StaysWhole}
use Rattle.aud_parts.specs.Together.{without_clients, IsToldBy}
use Rattle.aud_parts.specs.declared.clients.measured.MeasuredClient.{MeasuredClient}
use Rattle.aud_parts.specs.declared.plan.Plan.{Plan}

-- ---- each session is given once

-- none of the texts stands twice
abbrev pub AreDistinct : List Text → Type 0
AreDistinct [] = Unit {0}
AreDistinct (text ∷ texts) = (list_any (λ own. bytes_eq own text) texts ≡ false) × AreDistinct texts

-- one more that isn't there
distinct-push : (texts : List Text) (text : Text) → list_any (bytes_eq text) texts ≡ false → AreDistinct texts → AreDistinct (texts ++ text ∷ [])
distinct-push [] text none d = (refl, tt)
distinct-push (t ∷ texts) text none (here, d) =
    let (other, others) = or_parts _ _ none in (
      list_any-append (λ own. bytes_eq own t) texts (text ∷ []) ∙ ap (λ b. b || (bytes_eq text t || false)) here ∙ ap (λ b. b || false) other,
      distinct-push texts text others d,
    )

distinct-with : (texts : List Text) (text : Text) → AreDistinct texts → AreDistinct (with_text texts text)
distinct-with texts text d = go (list_any (bytes_eq text) texts) refl
  where
    go : (b : Bool) → list_any (bytes_eq text) texts ≡ b → AreDistinct (cond b texts (texts ++ text ∷ []))
    go true e = d
    go false e = distinct-push texts text e d

distinct-all : (texts more : List Text) → AreDistinct texts → AreDistinct (with_texts texts more)
distinct-all texts [] d = d
distinct-all texts (text ∷ more) d = distinct-all (with_text texts text) more (distinct-with texts text d)

-- texts that are given once are distinct
pub distinct-first : (texts : List Text) → AreDistinct (first_texts texts)
distinct-first texts = subst AreDistinct (first-texts texts) (distinct-all [] texts tt)

-- ---- the sessions of a part are those that have it

-- the part of the session, of sessions with their parts
abbrev pub part_in : List Text → List ℕ → Text → Option ℕ
part_in pids parts pid = option_and_then (slice_get parts) (number_of pids pid)

-- the same, of those after the first
shifted : (own : ℕ) (parts : List ℕ) (o : Option ℕ) → option_and_then (slice_get (own ∷ parts)) (option_map suc o) ≡ option_and_then (slice_get parts) o
shifted own parts None = refl
shifted own parts (Some n) = refl

-- a session that isn't there has no part
none-with : (part : ℕ) (pid : Text) (pids : List Text) (parts : List ℕ) → list_any (λ own. bytes_eq own pid) pids ≡ false → is_among (pids_with part pids parts) pid ≡ false
none-with part pid [] parts none = refl
none-with part pid (p ∷ pids) [] none = refl
none-with part pid (p ∷ pids) (own ∷ parts) none = (let (other, others) = or_parts _ _ none in go (nat_eq own part) other (none-with part pid pids parts others))
  where
    go : (b : Bool) → bytes_eq p pid ≡ false → is_among (pids_with part pids parts) pid ≡ false → is_among (cond b (p ∷ pids_with part pids parts) (pids_with part pids parts)) pid ≡ false
    go true other rest = ap (λ b. b || is_among (pids_with part pids parts) pid) other ∙ rest
    go false other rest = rest

pub among-with : (part : ℕ) (pid : Text) (pids : List Text) (parts : List ℕ) → length parts ≡ length pids → AreDistinct pids
    → is_among (pids_with part pids parts) pid ≡ is_part part (part_in pids parts pid)
among-with part pid [] parts len d = refl
among-with part pid (p ∷ pids) [] len d = absurd (omega (arith, len))
among-with part pid (p ∷ pids) (own ∷ parts) len (once, d) = go (bytes_eq p pid) refl (nat_eq own part) refl (among-with part pid pids parts (omega (arith, len)) d)
  where
    rest : List Text
    rest = pids_with part pids parts

    go : (b : Bool) → bytes_eq p pid ≡ b → (v : Bool) → nat_eq own part ≡ v → is_among rest pid ≡ is_part part (part_in pids parts pid)
        → is_among (cond v (p ∷ rest) rest) pid ≡ is_part part (option_and_then (slice_get (own ∷ parts)) (cond b (Some 0) (option_map suc (number_of pids pid))))
    go true e true its ih = ap (λ b. b || is_among rest pid) e ∙ sym its
    go true e false its ih =
        none-with part pid pids parts (ap (λ t. list_any (λ o. bytes_eq o t) pids) (sym (same_text p pid e)) ∙ once) ∙ sym its
    go false e true its ih = ap (λ b. b || is_among rest pid) e ∙ ih ∙ ap (is_part part) (sym (shifted own parts (number_of pids pid)))
    go false e false its ih = ih ∙ ap (is_part part) (sym (shifted own parts (number_of pids pid)))

-- the test tells which of the sessions have the part
abbrev pub Tells : (Text → Bool) → ℕ → List Text → List ℕ → Type 0
Tells test part (pid ∷ pids) (own ∷ parts) = (test pid ≡ nat_eq own part) × Tells test part pids parts
Tells test part [] [] = Unit {0}
Tells test part _ _ = ⊥

-- so it keeps those
pub kept-with : (test : Text → Bool) (part : ℕ) (pids : List Text) (parts : List ℕ) → Tells test part pids parts → filter test pids ≡ pids_with part pids parts
kept-with test part [] [] tells = refl
kept-with test part [] (own ∷ parts) tells = absurd tells
kept-with test part (pid ∷ pids) [] tells = absurd tells
kept-with test part (pid ∷ pids) (own ∷ parts) (here, later) =
    ap (λ b. cond b (pid ∷ filter test pids) (filter test pids)) here
    ∙ ap (λ rest. cond (nat_eq own part) (pid ∷ rest) rest) (kept-with test part pids parts later)

-- the part of a session isn't changed by another session in front
tells-behind : (part : ℕ) (pid : Text) (own : ℕ) (all : List Text) (owns : List ℕ) (pids : List Text) (parts : List ℕ) → list_any (λ other. bytes_eq other pid) pids ≡ false
    → Tells (λ q. is_part part (part_in all owns q)) part pids parts → Tells (λ q. is_part part (part_in (pid ∷ all) (own ∷ owns) q)) part pids parts
tells-behind part pid own all owns [] [] none tells = tt
tells-behind part pid own all owns [] (other ∷ parts) none tells = absurd tells
tells-behind part pid own all owns (q ∷ pids) [] none tells = absurd tells
tells-behind part pid own all owns (q ∷ pids) (other ∷ parts) none (here, later) =
    let (apart, others) = or_parts _ _ none in
    let unlike : bytes_eq pid q ≡ false = nat_list_eq_equiv.symm pid q ∙ apart in (
      ap (λ b. is_part part (option_and_then (slice_get (own ∷ owns)) (cond b (Some 0) (option_map suc (number_of all q))))) unlike
          ∙ ap (is_part part) (shifted own owns (number_of all q)) ∙ here,
      tells-behind part pid own all owns pids parts others later,
    )

pub tells-all : (part : ℕ) (pids : List Text) (parts : List ℕ) → length parts ≡ length pids → AreDistinct pids → Tells (λ q. is_part part (part_in pids parts q)) part pids parts
tells-all part [] [] len d = tt
tells-all part [] (own ∷ parts) len d = absurd (omega (arith, len))
tells-all part (pid ∷ pids) [] len d = absurd (omega (arith, len))
tells-all part (pid ∷ pids) (own ∷ parts) len (once, d) = (
  ap (λ b. is_part part (option_and_then (slice_get (own ∷ parts)) (cond b (Some 0) (option_map suc (number_of pids pid))))) (itself_text pid),
  tells-behind part pid own pids parts pids parts once (tells-all part pids parts (omega (arith, len)) d),
)

-- each session has a part, which is less than their count
pub one-of-these : (count : ℕ) (pid : Text) (pids : List Text) (parts : List ℕ) → length parts ≡ length pids → All (λ part. part < count) parts → is_among pids pid ≡ true
    → (part : ℕ) × (part < count) × (is_part part (part_in pids parts pid) ≡ true)
one-of-these count pid [] parts len below there = absurd (false≢true there)
one-of-these count pid (p ∷ pids) [] len below there = absurd (omega (arith, len))
one-of-these count pid (p ∷ pids) (own ∷ parts) len below there =
    go (bytes_eq p pid) there (one-of-these count pid pids parts (omega (arith, len)) (All-tail (λ part. part < count) own parts below))
  where
    go : (b : Bool) → (b || is_among pids pid) ≡ true → (is_among pids pid ≡ true → (part : ℕ) × (part < count) × (is_part part (part_in pids parts pid) ≡ true))
        → (part : ℕ) × (part < count) × (is_part part (option_and_then (slice_get (own ∷ parts)) (cond b (Some 0) (option_map suc (number_of pids pid)))) ≡ true)
    go true e ih = (own, All-head (λ part. part < count) own parts below, eq-eqb own own refl)
    go false e ih = (let (part, small, has) = ih e in (part, small, ap (is_part part) (shifted own parts (number_of pids pid)) ∙ has))

-- ---- a client's tap

-- what all of these texts pass, one of them does
pub all_at : (test : Text → Bool) (texts : List Text) (text : Text) → list_all test texts ≡ true → is_among texts text ≡ true → test text ≡ true
all_at test [] text all there = absurd (false≢true there)
all_at test (t ∷ texts) text all there =
    let (first, later) = and_parts _ _ all in
    elim (or_cases (bytes_eq t text) (is_among texts text) there) as (λ _. test text ≡ true) [
      | inl same ↦ ap test (sym (same_text t text same)) ∙ first
      | inr among ↦ all_at test texts text later among
    ]

-- a session has one part
pub one_part : (o : Option ℕ) (part other : ℕ) → is_part part o ≡ true → is_part other o ≡ true → part ≡ other
one_part None part other here there = absurd (false≢true here)
one_part (Some own) part other here there = sym (eqb-true own part here) ∙ eqb-true own other there

-- of the sessions that a client's tap names, all have the part that one has
client_together : (plan : Plan) (pids : List Text) (own : Option ℕ) → has_its_part plan pids own ≡ true → (part : ℕ) (one other : Text) → is_in plan part one ≡ true
    → is_among pids one ≡ true → is_among pids other ≡ true → is_in plan part other ≡ true
client_together plan [] None its part one other here names_one names_other = absurd (false≢true names_one)
client_together plan (pid ∷ pids) None its part one other here names_one names_other = absurd (let no : suc (length pids) ≡ 0 = eqb-true (suc (length pids)) 0 its in omega (arith, no))
client_together plan pids (Some own) its part one other here names_one names_other =
    let all = (and_parts _ _ its).1 in
    let same : own ≡ part = one_part (part_of plan one) own part (all_at (is_in plan own) pids one all names_one) here in
    subst (λ n. is_in plan n other ≡ true) same (all_at (is_in plan own) pids other all names_other)

-- the session that a reply may name
reply-names : (pid : Text) (reply : Option ReplySeen) (rest : List Text)
    → is_among (cons_option (option_and_then (λ (r : ReplySeen). r.pid) reply) rest) pid ≡ (reply_names pid reply || is_among rest pid)
reply-names pid None rest = refl
reply-names pid (Some reply) rest = go reply.pid
  where
    go : (o : Option Text) → is_among (cons_option o rest) pid ≡ (is_this pid o || is_among rest pid)
    go None = refl
    go (Some own) = refl

-- the pids that the stays name have the session where a stay names it
stays-name : (pid : Text) (stays : List StaySeen) → is_among (filter_map stay_pid stays) pid ≡ list_any (stay_names_pid pid) stays
stays-name pid [] = refl
stays-name pid (stay ∷ stays) = reply-names pid stay.reply (filter_map stay_pid stays) ∙ ap (λ b. reply_names pid stay.reply || b) (stays-name pid stays)

-- so do those of a client's tap
pub tap-names : (stream : List StreamRec) (recs : List ClientRec) (pid : Text) → is_among (reply_pids stream (Some recs)) pid ≡ tap_names pid recs
tap-names stream recs pid = stays-name pid (transcript_of stream recs).stays ∙ named_by_replies stream recs pid

-- ---- all taps

module _ (stream : List StreamRec) (plan : Plan) where
  -- the sessions that a tap names keep together
  abbrev pub TapTogether : Tap → Type 0
  TapTogether tap = (part : ℕ) (one other : Text) → is_in plan part one ≡ true → names_session tap one ≡ true → names_session tap other ≡ true → is_in plan part other ≡ true

  tap_together : (tap : Tap) (recs : List ClientRec) (client : MeasuredClient) (own : Option ℕ) → client_recs tap ≡ Some recs → IsToldBy stream recs client → IsClientIn plan client own → TapTogether tap
  tap_together tap recs client own is told its part one other here names_one names_other =
      client_together plan (client_pids client) own its part one other here (named one names_one) (named other names_other)
    where
      named : (pid : Text) → names_session tap pid ≡ true → is_among (client_pids client) pid ≡ true
      named pid e = ap (λ pids. is_among pids pid) told.pids_are ∙ tap-names stream recs pid ∙ sym (ap (is_naming pid) is) ∙ e

  -- a tap that is no client's names nobody
  no_client : (tap : Tap) → client_recs tap ≡ None → TapTogether tap
  no_client tap is part one other here names_one names_other = absurd (false≢true (sym (ap (is_naming one) is) ∙ names_one))

  pub taps_together : (taps : List Tap) (told : List MeasuredClient) (parts : List (Option ℕ)) → OneForEach (IsToldBy stream) (filter_map client_recs taps) told
      → OneForEach (IsClientIn plan) told parts → All TapTogether taps
  taps_together [] told parts are its = All-nil TapTogether
  taps_together (tap ∷ taps) told parts are its = go (client_recs tap) refl told parts are its (taps_together taps)
    where
      go : (o : Option (List ClientRec)) → client_recs tap ≡ o → (told : List MeasuredClient) (parts : List (Option ℕ))
          → OneForEach (IsToldBy stream) (cons_option o (filter_map client_recs taps)) told → OneForEach (IsClientIn plan) told parts
          → ((told : List MeasuredClient) (parts : List (Option ℕ)) → OneForEach (IsToldBy stream) (filter_map client_recs taps) told → OneForEach (IsClientIn plan) told parts → All TapTogether taps)
          → All TapTogether (tap ∷ taps)
      go None is told parts are its rest = All-cons TapTogether tap taps (no_client tap is) (rest told parts are its)
      go (Some recs) is [] parts are its rest = absurd are
      go (Some recs) is (client ∷ told) [] are its rest = absurd its
      go (Some recs) is (client ∷ told) (own ∷ parts) (by, are) (here, its) rest = All-cons TapTogether tap taps (tap_together tap recs client own is by here) (rest told parts are its)

-- ---- the logs

-- a `start` names no session
start-kept : (test : Text → Bool) (rec : NodeRec) → is_start rec ≡ true → keeps_record test rec ≡ true
start-kept test (Start off) e = refl
start-kept test (Take off) e = absurd (false≢true e)
start-kept test (Takes off) e = absurd (false≢true e)
start-kept test (Opened pid sid nsp) e = absurd (false≢true e)
start-kept test (Join pid room) e = absurd (false≢true e)
start-kept test (Leave pid room) e = absurd (false≢true e)
start-kept test (Broke pid turn) e = absurd (false≢true e)
start-kept test (Back pid turn) e = absurd (false≢true e)
start-kept test (Gone pid) e = absurd (false≢true e)

-- where all records of a log are kept by the sessions that they name, one that a record names passes
named-kept : (test : Text → Bool) (log : List NodeRec) (pid : Text) → list_all (keeps_record test) log ≡ true → list_any (λ rec. record_names (Some rec) pid) log ≡ true → test pid ≡ true
named-kept test [] pid all there = absurd (false≢true there)
named-kept test (rec ∷ log) pid all there =
    let (first, later) = and_parts _ _ all in
    elim (or_cases (record_names (Some rec) pid) (list_any (λ r. record_names (Some r) pid) log) there) as (λ _. test pid ≡ true) [ inl here ↦ go (pid_of rec) first here | inr among ↦ named-kept test log pid later among ]
  where
    go : (o : Option Text) → keeps_pid test o ≡ true → is_pid o pid ≡ true → test pid ≡ true
    go None kept here = absurd (false≢true here)
    go (Some own) kept here = ap test (sym (same_text own pid here)) ∙ kept

-- a client's tap has no records of a node
no_log : (records : Records) (recs : List ClientRec) → client_records records ≡ Some recs → node_recs (Some records) ≡ []
no_log (Stream entries) recs is = absurd (none-some recs is)
no_log (Node log) recs is = absurd (none-some recs is)
no_log (Client own) recs is = refl

module _ (plan : Plan) where
  -- a log that stays whole keeps its first record, where a session of the part is named
  log_first : (log : List NodeRec) → StaysWhole plan log → (part : ℕ) (pid : Text) → is_in plan part pid ≡ true → list_any (λ rec. record_names (Some rec) pid) log ≡ true
      → keeps_first (keeps_record (is_in plan part)) log ≡ true
  log_first [] whole part pid here told = refl
  log_first (rec ∷ log) whole part pid here told = go (is_start rec) refl whole
    where
      kept : keeps_record (is_in plan part) rec ≡ true → (keeps_record (is_in plan part) rec || not (begins_with_start (filter (keeps_record (is_in plan part)) log))) ≡ true
      kept e = ap (λ b. b || not (begins_with_start (filter (keeps_record (is_in plan part)) log))) e

      go : (b : Bool) → is_start rec ≡ b → (b ≡ false → (own : ℕ) × (list_all (keeps_record (is_in plan own)) (rec ∷ log) ≡ true))
          → (keeps_record (is_in plan part) rec || not (begins_with_start (filter (keeps_record (is_in plan part)) log))) ≡ true
      go true e whole = kept (start-kept (is_in plan part) rec e)
      go false e whole =
          let (own, all) = whole refl in
          let same : own ≡ part = one_part (part_of plan pid) own part (named-kept (is_in plan own) (rec ∷ log) pid all told) here in
          kept (subst (λ n. keeps_record (is_in plan n) rec ≡ true) same (and_parts _ _ all).0)

  -- so in each tap
  abbrev pub FirstTogether : Tap → Type 0
  FirstTogether tap =
      (part : ℕ) (pid : Text) → is_in plan part pid ≡ true → tell_of pid tap.records ≡ true → keeps_first (keeps_record (is_in plan part)) (node_recs (Some tap.records)) ≡ true

  first_of_records : (records : Records) → StaysWhole plan (node_recs (Some records)) → (part : ℕ) (pid : Text) → is_in plan part pid ≡ true → tell_of pid records ≡ true
      → keeps_first (keeps_record (is_in plan part)) (node_recs (Some records)) ≡ true
  first_of_records (Stream entries) whole part pid here told = refl
  first_of_records (Node log) whole part pid here told = log_first log whole part pid here told
  first_of_records (Client recs) whole part pid here told = refl

  -- a client's tap has no first record
  first_of_client : (tap : Tap) (recs : List ClientRec) → client_recs tap ≡ Some recs → FirstTogether tap
  first_of_client tap recs is part pid here told = ap (keeps_first (keeps_record (is_in plan part))) (no_log tap.records recs is)

  abbrev pub Whole : Tap → Type 0
  Whole tap = StaysWhole plan (node_recs (Some tap.records))

  pub firsts_together : (taps : List Tap) → All Whole (without_clients taps) → All FirstTogether taps
  firsts_together [] all = All-nil FirstTogether
  firsts_together (tap ∷ taps) all = go (client_recs tap) refl all (firsts_together taps)
    where
      go : (o : Option (List ClientRec)) → client_recs tap ≡ o → All Whole (cond (is_none o) (tap ∷ without_clients taps) (without_clients taps))
          → (All Whole (without_clients taps) → All FirstTogether taps) → All FirstTogether (tap ∷ taps)
      go None is all rest =
          All-cons FirstTogether tap taps (first_of_records tap.records (All-head Whole tap (without_clients taps) all)) (rest (All-tail Whole tap (without_clients taps) all))
      go (Some recs) is all rest = All-cons FirstTogether tap taps (first_of_client tap recs is) (rest all)

-- ---- the sessions of the recording

pub nodes-same : (taps : List Tap) → flat_map node_pids (without_clients taps) ≡ flat_map node_pids taps
nodes-same [] = refl
nodes-same (tap ∷ taps) = go (client_recs tap) refl (nodes-same taps)
  where
    go : (o : Option (List ClientRec)) → client_recs tap ≡ o → flat_map node_pids (without_clients taps) ≡ flat_map node_pids taps
        → flat_map node_pids (cond (is_none o) (tap ∷ without_clients taps) (without_clients taps)) ≡ node_pids tap ++ flat_map node_pids taps
    go None is rest = ap (λ pids. node_pids tap ++ pids) rest
    go (Some recs) is rest = rest ∙ ap (λ log. filter_map pid_of log ++ flat_map node_pids taps) (sym (no_log tap.records recs is))

pub clients-same : (stream : List StreamRec) (taps : List Tap) (told : List MeasuredClient) → OneForEach (IsToldBy stream) (filter_map client_recs taps) told
    → flat_map client_pids told ≡ flat_map (λ tap. reply_pids stream (client_recs tap)) taps
clients-same stream [] [] are = refl
clients-same stream [] (client ∷ told) are = absurd are
clients-same stream (tap ∷ taps) told are = go (client_recs tap) refl told are (clients-same stream taps)
  where
    rest : List Text
    rest = flat_map (λ tap. reply_pids stream (client_recs tap)) taps

    go : (o : Option (List ClientRec)) → client_recs tap ≡ o → (told : List MeasuredClient) → OneForEach (IsToldBy stream) (cons_option o (filter_map client_recs taps)) told
        → ((told : List MeasuredClient) → OneForEach (IsToldBy stream) (filter_map client_recs taps) told → flat_map client_pids told ≡ rest)
        → flat_map client_pids told ≡ reply_pids stream (client_recs tap) ++ rest
    go None is told are ih = ih told are ∙ ap (λ o. reply_pids stream o ++ rest) (sym is)
    go (Some recs) is [] are ih = absurd are
    go (Some recs) is (client ∷ told) (by, are) ih =
        ap (λ pids. client_pids client ++ pids) (ih told are) ∙ ap (λ pids. pids ++ rest) by.pids_are ∙ ap (λ o. reply_pids stream o ++ rest) (sym is)
