-- The clients' taps that name a session, once other taps are left out.
use Rattle.std.proofs.Common.{◌≡◌, ℕ, Bool, true, false, cond, List, [], ◌∷◌, length, map, Option, slice_get, refl, sym, ap, ◌∙◌}
use Rattle.std.specs.List.{All, filter}
use Rattle.std.specs.Option.{option_and_then}
use Rattle.std.proofs.lemmas.Bool.{false≢true}
use Rattle.std.proofs.lemmas.List.{length-map}
use Rattle.std.proofs.lemmas.List.Elements.{All-head, All-tail}
use Rattle.aud_tap.specs.declared.records.NodeRec.{NodeRec}
use Rattle.aud_tap.specs.declared.records.ClientRec.{ClientRec}
use Rattle.aud_tap.specs.declared.taps.Records.{Records}
use Rattle.aud_tap.specs.declared.taps.Records.TheVariants.{Stream, Node, Client}
use Rattle.aud_tap.specs.declared.taps.Tap.{Tap}
use Rattle.aud_node.specs.Lists.{numbers_from}
use Rattle.aud_node.specs.NodeTaps.{client_records, client_recs}
use Rattle.aud_node.specs.Stream.{Text}
use Rattle.aud_client.specs.Replies.{is_naming, naming_places}
use Rattle.aud_client.proofs.AtPlaces.{at_all_places}
use Rattle.aud_parts.specs.LeftOut.{records_left, tap_left, tell_of}
use Rattle.aud_laws.proofs.LeftOut.Logs.{left_of}

-- the records of the clients' taps that name the session, in the order of the taps
abbrev pub naming_logs : List Tap → Text → List (Option (List ClientRec))
naming_logs taps pid = filter (is_naming pid) (map client_recs taps)

-- what stands at the places that pass a test of it
map-filter : {X Y : Type 0} (f : X → Y) (test : Y → Bool) (xs : List X) → map f (filter (λ x. test (f x)) xs) ≡ filter test (map f xs)
map-filter f test [] = refl
map-filter f test (x ∷ xs) = go (map-filter f test xs) (test (f x))
  where
    go : map f (filter (λ y. test (f y)) xs) ≡ filter test (map f xs) → (b : Bool) → map f (cond b (x ∷ filter (λ y. test (f y)) xs) (filter (λ y. test (f y)) xs)) ≡ cond b (f x ∷ filter test (map f xs)) (filter test (map f xs))
    go ih true = ap (λ ys. f x ∷ ys) ih
    go ih false = ih

-- they stand at the places of the taps that name it
pub at-naming : (taps : List Tap) (pid : Text) → map (λ place. option_and_then client_recs (slice_get taps place)) (naming_places taps pid) ≡ naming_logs taps pid
at-naming taps pid =
    map-filter (λ place. option_and_then client_recs (slice_get taps place)) (is_naming pid) (numbers_from 0 (length taps))
    ∙ ap (filter (is_naming pid)) (at_all_places (option_and_then client_recs) taps)

-- a tap that names the session tells of it
naming-tells : (pid : Text) (records : Records) → tell_of pid records ≡ false → is_naming pid (client_records records) ≡ false
naming-tells pid (Stream recs) e = refl
naming-tells pid (Node recs) e = refl
naming-tells pid (Client recs) e = e

-- the records of a client's tap stay as they are
client-left : (keep : NodeRec → Bool) (records : Records) → client_records (records_left keep records) ≡ client_records records
client-left keep (Stream recs) = refl
client-left keep (Node recs) = refl
client-left keep (Client recs) = refl

-- the taps that name the session are left
pub naming-left : (keep : NodeRec → Bool) (keeps : Tap → Bool) (pid : Text) (taps : List Tap) → All (λ (tap : Tap). tell_of pid tap.records ≡ true → keeps tap ≡ true) taps
    → naming_logs (left_of keep keeps taps) pid ≡ naming_logs taps pid
naming-left keep keeps pid [] telling = refl
naming-left keep keeps pid (tap ∷ taps) telling =
    go (naming-left keep keeps pid taps (All-tail (λ (t : Tap). tell_of pid t.records ≡ true → keeps t ≡ true) tap taps telling)) (keeps tap) refl
  where
    told : tell_of pid tap.records ≡ true → keeps tap ≡ true
    told = All-head (λ (t : Tap). tell_of pid t.records ≡ true → keeps t ≡ true) tap taps telling

    untold : keeps tap ≡ false → (b : Bool) → tell_of pid tap.records ≡ b → b ≡ false
    untold out true tells = absurd (false≢true (sym out ∙ told tells))
    untold out false tells = refl

    go : naming_logs (left_of keep keeps taps) pid ≡ naming_logs taps pid → (b : Bool) → keeps tap ≡ b
        → naming_logs (map (tap_left keep) (cond b (tap ∷ filter keeps taps) (filter keeps taps))) pid ≡ naming_logs (tap ∷ taps) pid
    go ih true is =
        ap (λ recs. cond (is_naming pid recs) (recs ∷ naming_logs (left_of keep keeps taps) pid) (naming_logs (left_of keep keeps taps) pid)) (client-left keep tap.records)
        ∙ ap (λ logs. cond (is_naming pid (client_recs tap)) (client_recs tap ∷ logs) logs) ih
    go ih false out =
        let none : tell_of pid tap.records ≡ false = untold out (tell_of pid tap.records) refl in
        ih ∙ ap (λ b. cond b (client_recs tap ∷ naming_logs taps pid) (naming_logs taps pid)) (sym (naming-tells pid tap.records none))

-- where one place alone names the session, so does one among taps that have the same
pub record OnePlace (taps others : List Tap) (pid : Text) (place : ℕ) : Type 0 where
  pub other : ℕ
  pub only : naming_places others pid ≡ other ∷ []
  pub same : option_and_then client_recs (slice_get others other) ≡ option_and_then client_recs (slice_get taps place)

pub one_place : (taps others : List Tap) (pid : Text) (place : ℕ) → naming_logs taps pid ≡ naming_logs others pid → naming_places taps pid ≡ place ∷ [] → OnePlace taps others pid place
one_place taps others pid place logs only = go (naming_places others pid) refl
  where
    here : map (λ place. option_and_then client_recs (slice_get others place)) (naming_places others pid) ≡ option_and_then client_recs (slice_get taps place) ∷ []
    here = at-naming others pid ∙ sym logs ∙ sym (at-naming taps pid) ∙ ap (map (λ place. option_and_then client_recs (slice_get taps place))) only

    go : (places : List ℕ) → naming_places others pid ≡ places → OnePlace taps others pid place
    go [] is = absurd (let none : [] ≡ option_and_then client_recs (slice_get taps place) ∷ [] = sym (ap (map (λ place. option_and_then client_recs (slice_get others place))) is) ∙ here in cc)
    go (other ∷ []) is =
        let e : option_and_then client_recs (slice_get others other) ∷ [] ≡ option_and_then client_recs (slice_get taps place) ∷ [] = sym (ap (map (λ place. option_and_then client_recs (slice_get others place))) is) ∙ here in
        record { other = other; only = is; same = cc }
    go (x ∷ y ∷ places) is =
        absurd
        (let none : option_and_then client_recs (slice_get others x) ∷ option_and_then client_recs (slice_get others y) ∷ map (λ place. option_and_then client_recs (slice_get others place)) places
        ≡ option_and_then client_recs (slice_get taps place) ∷ [] = sym (ap (map (λ place. option_and_then client_recs (slice_get others place))) is) ∙ here in cc)

-- as many places name it
pub naming-count : (taps others : List Tap) (pid : Text) → naming_logs taps pid ≡ naming_logs others pid → length (naming_places others pid) ≡ length (naming_places taps pid)
naming-count taps others pid logs =
    sym (length-map (naming_places others pid) (λ place. option_and_then client_recs (slice_get others place)))
    ∙ ap length (at-naming others pid ∙ sym logs ∙ sym (at-naming taps pid))
    ∙ length-map (naming_places taps pid) (λ place. option_and_then client_recs (slice_get taps place))
