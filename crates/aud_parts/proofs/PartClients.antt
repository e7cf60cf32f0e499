-- What came to the clients of a part.
use Rattle.std.proofs.Common.{◌≡◌, ℕ, Bool, true, false, not, cond, ◌||◌, ◌==◌, List, [], ◌∷◌, ◌++◌, length, filter, Option, Some, None, nat_eq, bytes_eq, refl, sym, ap, subst, ◌∙◌, arith}
use Rattle.std.specs.List.{list_all, list_any, filter_map, cons_option}
use Rattle.std.proofs.lemmas.Bool.{true≢false, false≢true, and_parts, eqb-true, eq-eqb, false_from_ne_true}
use Rattle.std.proofs.lemmas.Option.{none-some, same_Some}
use Rattle.std.proofs.lemmas.List.Folds.{list_any-append}
use Rattle.aud_tap.specs.declared.records.StreamRec.{StreamRec}
use Rattle.aud_tap.specs.declared.records.NodeRec.{NodeRec}
use Rattle.aud_tap.specs.declared.records.ClientRec.{ClientRec}
use Rattle.aud_tap.specs.declared.taps.Records.{Records}
use Rattle.aud_tap.specs.declared.taps.Records.TheVariants.{Stream, Node, Client}
use Rattle.aud_tap.specs.declared.taps.Tap.{Tap}
use Rattle.aud_base.specs.OneForEach.{OneForEach}
use Rattle.aud_base.proofs.Lists.{any-map}
use Rattle.aud_base.proofs.SameText.{same_text, itself_text}
use Rattle.aud_node.specs.Stream.{Text, position}
use Rattle.aud_node.specs.AtPosition.{is_recoverable_at}
use Rattle.aud_node.specs.Cluster.{is_stream}
use Rattle.aud_node.specs.NodeTaps.{client_recs, client_records}
use Rattle.aud_client.specs.Replies.{tap_names}
use Rattle.aud_parts.specs.LeftOut.{keeps_record, records_left, tap_left, tell_of}
use Rattle.aud_parts.specs.MadeOther.{tell_event}
use Rattle.aud_parts.specs.Part.{is_among, is_kept_tap, left_for, came_to_some}
use Rattle.aud_parts.specs.ClientFacts.{is_one_of}
use Rattle.aud_parts.specs.Plan.{client_pids, is_part, part_of, is_in, pids_in, came_with, came_in, has_its_part, IsClientIn}
use Rattle.aud_parts.specs.Together.{IsToldBy}
use Rattle.aud_parts.specs.declared.clients.measured.MeasuredClient.{MeasuredClient}
use Rattle.aud_parts.specs.declared.plan.Plan.{Plan}
use Rattle.aud_parts.proofs.PlanLemmas.{all_at, one_part, tap-names}

-- ---- tests of texts

-- a text that is among these and passes
any-at : (test : Text → Bool) (texts : List Text) (text : Text) → is_among texts text ≡ true → test text ≡ true → list_any test texts ≡ true
any-at test [] text there passes = absurd (false≢true there)
any-at test (t ∷ texts) text there passes = go (bytes_eq t text) refl there (any-at test texts text)
  where
    go : (b : Bool) → bytes_eq t text ≡ b → (b || is_among texts text) ≡ true → (is_among texts text ≡ true → test text ≡ true → list_any test texts ≡ true) → (test t || list_any test texts) ≡ true
    go true e among ih = ap (λ b. b || list_any test texts) (ap test (same_text t text e) ∙ passes)
    go false e among ih = beside (test t) (ih among passes)
      where
        beside : (b : Bool) → list_any test texts ≡ true → (b || list_any test texts) ≡ true
        beside true later = refl
        beside false later = later

-- one that passes, where any does
some-at : (test : Text → Bool) (texts : List Text) → list_any test texts ≡ true → (text : Text) × (is_among texts text ≡ true) × (test text ≡ true)
some-at test [] any = absurd (false≢true any)
some-at test (t ∷ texts) any = go (test t) refl any (some-at test texts)
  where
    behind : (text : Text) (b : Bool) → is_among texts text ≡ true → (b || is_among texts text) ≡ true
    behind text true among = refl
    behind text false among = among

    go : (b : Bool) → test t ≡ b → (b || list_any test texts) ≡ true → (list_any test texts ≡ true → (text : Text) × (is_among texts text ≡ true) × (test text ≡ true))
        → (text : Text) × (is_among (t ∷ texts) text ≡ true) × (test text ≡ true)
    go true e any ih = (t, ap (λ b. b || is_among texts t) (itself_text t), e)
    go false e any ih = (let (text, among, passes) = ih any in (text, behind text (bytes_eq t text) among, passes))

-- ---- the records of taps

-- those of a client's tap
records_are : (records : Records) (recs : List ClientRec) → client_records records ≡ Some recs → records ≡ Client recs
records_are (Stream entries) recs is = absurd (none-some recs is)
records_are (Node log) recs is = absurd (none-some recs is)
records_are (Client own) recs is = ap Client (same_Some own recs is)

-- no event came in another tap
no_event : (off : Text) (records : Records) → client_records records ≡ None → tell_event off records ≡ false
no_event off (Stream entries) is = refl
no_event off (Node log) is = refl
no_event off (Client recs) is = absurd (none-some recs (sym is))

-- nor do records that are left out of a node's log change what came
event-left : (off : Text) (keep : NodeRec → Bool) (records : Records) → tell_event off (records_left keep records) ≡ tell_event off records
event-left off keep (Stream entries) = refl
event-left off keep (Node log) = refl
event-left off keep (Client recs) = refl

module _ (stream : List StreamRec) (plan : Plan) (same : (part : ℕ) (pid : Text) → is_among (pids_in plan part) pid ≡ is_in plan part pid) (part : ℕ) where
  -- the sessions of the part
  abbrev own_pids : List Text
  own_pids = pids_in plan part

  -- a client's tap names one of them where it has the part
  names-own : (recs : List ClientRec) (client : MeasuredClient) (own : Option ℕ) → IsToldBy stream recs client → IsClientIn plan client own
      → list_any (λ pid. tap_names pid recs) own_pids ≡ is_part part own
  names-own recs client own told its = go own its
    where
      named : (pid : Text) → is_among (client_pids client) pid ≡ tap_names pid recs
      named pid = ap (λ pids. is_among pids pid) told.pids_are ∙ tap-names stream recs pid

      none : (pids : List Text) → (length pids ≡ 0) → (pid : Text) → is_among pids pid ≡ false
      none [] e pid = refl
      none (p ∷ pids) e pid = absurd (omega (arith, e))

      first : (pids : List Text) → (length pids ≡ 0 → ⊥) → (pid : Text) × (is_among pids pid ≡ true)
      first [] some = absurd (some refl)
      first (p ∷ pids) some = (p, ap (λ b. b || is_among pids p) (itself_text p))

      go : (o : Option ℕ) → has_its_part plan (client_pids client) o ≡ true → list_any (λ pid. tap_names pid recs) own_pids ≡ is_part part o
      go None nobody =
          false_from_ne_true (list_any (λ pid. tap_names pid recs) own_pids)
          (λ any. (let (pid, among, names) = some-at (λ pid. tap_names pid recs) own_pids any in
          false≢true (sym (none (client_pids client) (eqb-true (length (client_pids client)) 0 nobody) pid) ∙ named pid ∙ names)))
      go (Some p) all = (let (some, each) = and_parts _ _ all in choose (nat_eq p part) refl some each)
        where
          choose : (b : Bool) → nat_eq p part ≡ b → not (length (client_pids client) == 0) ≡ true → list_all (is_in plan p) (client_pids client) ≡ true
              → list_any (λ pid. tap_names pid recs) own_pids ≡ b
          choose true e some each =
              let (pid, there) = first (client_pids client) (λ zero. true≢false (sym some ∙ ap not (eq-eqb (length (client_pids client)) 0 zero))) in
              let has : is_in plan part pid ≡ true = subst (λ n. is_in plan n pid ≡ true) (eqb-true p part e) (all_at (is_in plan p) (client_pids client) pid each there) in
              any-at (λ pid. tap_names pid recs) own_pids pid (same part pid ∙ has) (sym (named pid) ∙ there)
          choose false e some each =
              false_from_ne_true (list_any (λ pid. tap_names pid recs) own_pids)
              (λ any. (let (pid, among, names) = some-at (λ pid. tap_names pid recs) own_pids any in
              let is : p ≡ part = one_part (part_of plan pid) p part (all_at (is_in plan p) (client_pids client) pid each (named pid ∙ names)) (sym (same part pid) ∙ among) in
              false≢true (sym e ∙ eq-eqb p part is)))

  -- so it is kept where it has the part
  kept-own : (tap : Tap) (recs : List ClientRec) (client : MeasuredClient) (own : Option ℕ) → client_recs tap ≡ Some recs → IsToldBy stream recs client → IsClientIn plan client own
      → is_kept_tap own_pids tap ≡ is_part part own
  kept-own tap recs client own is told its =
      ap (λ records. is_stream records || list_any (λ pid. tell_of pid records) own_pids) (records_are tap.records recs is) ∙ names-own recs client own told its

  module _ (place : ℕ) (off : Text) (found : position stream off ≡ Some place) (kept : is_recoverable_at stream place ≡ true) where
    -- such an event came in the tap
    abbrev came : Tap → Bool
    came tap = tell_event off tap.records

    -- a tap in which none came
    skip : (tap : Tap) (taps : List Tap) (b : Bool) → came tap ≡ false → list_any came (cond b (tap ∷ taps) taps) ≡ list_any came taps
    skip tap taps true none = ap (λ v. v || list_any came taps) none
    skip tap taps false none = refl

    came-kept : (taps : List Tap) (told : List MeasuredClient) (owns : List (Option ℕ)) → OneForEach (IsToldBy stream) (filter_map client_recs taps) told → OneForEach (IsClientIn plan) told owns
        → is_one_of (came_with part told owns) place ≡ list_any came (filter (is_kept_tap own_pids) taps)
    came-kept [] [] owns are its = refl
    came-kept [] (client ∷ told) owns are its = absurd are
    came-kept (tap ∷ taps) told owns are its = go (client_recs tap) refl told owns are its (came-kept taps)
      where
        rest : List Tap
        rest = filter (is_kept_tap own_pids) taps

        two : (xs ys : List ℕ) (b : Bool) → is_one_of xs place ≡ came tap → is_one_of ys place ≡ list_any came rest → is_one_of (cond b (xs ++ ys) ys) place ≡ list_any came (cond b (tap ∷ rest) rest)
        two xs ys true here later = list_any-append (nat_eq place) xs ys ∙ ap (λ v. v || is_one_of ys place) here ∙ ap (λ v. came tap || v) later
        two xs ys false here later = later

        go : (o : Option (List ClientRec)) → client_recs tap ≡ o → (told : List MeasuredClient) (owns : List (Option ℕ)) → OneForEach (IsToldBy stream) (cons_option o (filter_map client_recs taps)) told
            → OneForEach (IsClientIn plan) told owns
            → ((told : List MeasuredClient) (owns : List (Option ℕ)) → OneForEach (IsToldBy stream) (filter_map client_recs taps) told → OneForEach (IsClientIn plan) told owns
            → is_one_of (came_with part told owns) place ≡ list_any came rest)
            → is_one_of (came_with part told owns) place ≡ list_any came (cond (is_kept_tap own_pids tap) (tap ∷ rest) rest)
        go None is told owns are its ih = ih told owns are its ∙ sym (skip tap rest (is_kept_tap own_pids tap) (no_event off tap.records is))
        go (Some recs) is [] owns are its ih = absurd are
        go (Some recs) is (client ∷ told) [] are its ih = absurd its
        go (Some recs) is (client ∷ told) (own ∷ owns) (by, are) (here, its) ih =
            two client.facts.came.items (came_with part told owns) (is_part part own) (by.events_are place off found kept ∙ sym (ap (tell_event off) (records_are tap.records recs is))) (ih told owns are its)
            ∙ ap (λ b. list_any came (cond b (tap ∷ rest) rest)) (sym (kept-own tap recs client own is by here))

    -- what came to the clients of the part
    pub came_to_part : (taps : List Tap) (told : List MeasuredClient) → OneForEach (IsToldBy stream) (filter_map client_recs taps) told → OneForEach (IsClientIn plan) told plan.clients.items
        → is_one_of (came_in plan told part) place ≡ came_to_some (left_for own_pids taps).taps off
    came_to_part taps told are its =
        came-kept taps told plan.clients.items are its
        ∙ sym (any-map came (tap_left (keeps_record (is_among own_pids))) (filter (is_kept_tap own_pids) taps)
        ∙ ap (λ test. list_any test (filter (is_kept_tap own_pids) taps)) (λ i (tap : Tap). event-left off (keeps_record (is_among own_pids)) tap.records i))
