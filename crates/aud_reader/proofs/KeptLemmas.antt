-- What the reader of a bundle keeps, as taps and records are added.
use Rattle.std.proofs.Common.{◌≡◌, ℕ, zero, suc, ◌<◌, List, [], ◌∷◌, ◌++◌, length, get_or, set, Bool, true, false, cond, Option, Some, None, option_map, Result, Ok, Err, refl, sym, ap, ◌∙◌, arith, append_assoc, append-nil, codes}
use Rattle.std.specs.HashMap.{HashMap, get_by_text, UpdatesBy}
use Rattle.std.specs.Prelude.{IsTrue}
use Rattle.std.specs.List.{list_any}
use Rattle.std.specs.Str.{bytes_eq}
use Rattle.std.specs.String.{string_bytes, string_eq}
use Rattle.std.specs.declared.string.String.{String}
use Rattle.std.proofs.lemmas.Cmp.{nat_list_eq_equiv}
use Rattle.std.proofs.lemmas.Slice.Eq.{bytes_eq-Decides}
use Rattle.std.proofs.Math.ListN.{get_or-map}
use Rattle.std.proofs.lemmas.Grind.{flat_map-append}
use Rattle.std.proofs.lemmas.Option.{same_Some}
use Rattle.std.proofs.lemmas.List.{map-append, map-set, set-get_or}
use Rattle.std.proofs.lemmas.List.Sums.{sum_by-set}
use Rattle.std.proofs.lemmas.Map.Keys.{IsDistinct-push}
use Rattle.std.proofs.lemmas.Map.Made.{AllPairs-from_IsDistinct, IsDistinct-from_AllPairs}
use Rattle.std.proofs.lemmas.Map.Text.{hash_map_updates_text}
use Rattle.aud_base.proofs.Lists.{index_is_first}
use Rattle.aud_base.proofs.SameText.{same_text}
use Rattle.serde_json.specs.Data.{Data}
use Rattle.aud_reader.specs.declared.fault.InputCode.{InputCode}
use Rattle.aud_reader.specs.declared.fault.InputCode.TheVariants.{HeaderTwice}
use Rattle.aud_reader.specs.declared.fault.LineFault.{LineFault}
use Rattle.aud_reader.specs.declared.fault.LineFault.TheVariants as fault
use Rattle.aud_tap.specs.declared.records.TapKind.{TapKind}
use Rattle.aud_tap.specs.declared.records.TapKind.TheVariants as kind
use Rattle.aud_tap.specs.declared.records.Version.{Version}
use Rattle.aud_tap.specs.declared.taps.Records.{Records}
use Rattle.aud_tap.specs.declared.taps.Tap.{Tap}
use Rattle.aud_base.specs.Steps.{◌>>=◌}
use Rattle.aud_reader.specs.Steps.{Fails}
use Rattle.aud_tap.specs.Forms.{is_text}
use Rattle.aud_tap.specs.Names.{place_of}
use Rattle.aud_tap.specs.TapName.{is_tap_name}
use Rattle.aud_reader.specs.Bundle.{with_tap_record, tap_named, with_records, kind_of_tap, taps_on, same_kind, pids_in, pids_of, no_records, with_header, with_later, with_kind, with_named}
use Rattle.aud_reader.specs.Private.Kept.{Counted, HaveTapNames, KeepsTaps}
use Rattle.aud_reader.specs.SoFar.{taps_so_far}
use Rattle.aud_reader.specs.Sound.{names_of}
use Rattle.aud_reader.specs.TapLaws.{AreDifferent}
use Rattle.aud_reader.specs.Private.Changes.{Becomes}
use Rattle.aud_reader.specs.Private.Texts.{HasPids}
use Rattle.aud_reader.specs.declared.bundle.open_taps.OpenTaps.{OpenTaps}
use Rattle.std.specs.Result.{OnOk}
use Rattle.aud_reader.proofs.LineSteps.{one_more}

-- ---- the place of a tap

at_later : (b : Bool) (o : Option ℕ) (i : ℕ) → cond b (Some 0) (option_map suc o) ≡ Some (suc i) → (b ≡ false) × (o ≡ Some i)
at_later true o i e = let is : 0 ≡ suc i = cc in absurd (omega arith)
at_later false None i e = cc
at_later false (Some j) i e = let is : suc j ≡ suc i = cc in let same : j ≡ i = omega arith in (refl, ap Some same)

-- the tap at the place of a name is the tap of that name, within the list, and its records are replaced there
at-place : (name : List ℕ) (records : Records) (ts : List Tap) (i : ℕ) (t : Tap) → place_of ts name ≡ Some i → get_or ts i t ≡ t
    → (i < length ts) × (tap_named name ts ≡ Some t) × (with_records name records ts ≡ set ts i (record t { records = records }))
at-place name records [] i t place at = cc
at-place name records (u ∷ us) zero t place at =
    let first = nat_list_eq_equiv.symm name u.name ∙ index_is_first (bytes_eq u.name name) (place_of us name) place in
    (omega arith, rw first (ap Some at), rw first (ap (λ (x : Tap). record x { records = records } ∷ us) at))
at-place name records (u ∷ us) (suc i) t place at =
    let later = at_later (bytes_eq u.name name) (place_of us name) i place in
    let other = nat_list_eq_equiv.symm name u.name ∙ later.0 in
    let (within, named, put) = at-place name records us i t later.1 at in
    (omega arith, rw other named, rw other (ap (λ rest. u ∷ rest) put))

-- some tap stands at the place
tap-at : (name : List ℕ) (ts : List Tap) (i : ℕ) → place_of ts name ≡ Some i → (t : Tap) × (get_or ts i t ≡ t)
tap-at name [] i place = cc
tap-at name (u ∷ us) zero place = (u, refl)
tap-at name (u ∷ us) (suc i) place = tap-at name us i (at_later (bytes_eq u.name name) (place_of us name) i place).1

-- a place is within the list
pub place-bound : (name : List ℕ) (ts : List Tap) (i : ℕ) → place_of ts name ≡ Some i → i < length ts
place-bound name ts i place = let (t, at) = tap-at name ts i place in (at-place name t.records ts i t place at).0

-- more taps after the others leave the places that names have
pub place_of-more : (name : List ℕ) (ts us : List Tap) (i : ℕ) → place_of ts name ≡ Some i → place_of (ts ++ us) name ≡ Some i
place_of-more name [] us i place = cc
place_of-more name (t ∷ ts) us zero place =
    let first = index_is_first (bytes_eq t.name name) (place_of ts name) place in
    rw first refl
place_of-more name (t ∷ ts) us (suc i) place =
    let later = at_later (bytes_eq t.name name) (place_of ts name) i place in
    rw (later.0, place_of-more name ts us i later.1) refl

-- where no name has a place, the first hasn't either
none_of : (b : Bool) (o : Option ℕ) → cond b (Some 0) (option_map suc o) ≡ None → (b ≡ false) × (o ≡ None)
none_of true o e = cc
none_of false None e = (refl, refl)
none_of false (Some i) e = cc

-- a name that has no place names no tap
pub named-none : (name : List ℕ) (ts : List Tap) → place_of ts name ≡ None → tap_named name ts ≡ None
named-none name [] place = refl
named-none name (u ∷ us) place =
    let absent = none_of (bytes_eq u.name name) (place_of us name) place in
    rw (nat_list_eq_equiv.symm name u.name, absent.0) (named-none name us absent.1)

-- ---- one tap in another's place

-- another tap of the same name, in its place, leaves the names
pub names-set : (ts : List Tap) (i : ℕ) (t t' : Tap) → get_or ts i t ≡ t → t'.name ≡ t.name → names_of (set ts i t') ≡ names_of ts
names-set ts i t t' at same =
    let name_of : Tap → List ℕ = λ x. x.name in
    let named : t.name ≡ get_or (names_of ts) i t.name = sym (get_or-map name_of ts i t ∙ ap name_of at) in
    map-set name_of ts i t' ∙ ap (set (names_of ts) i) (same ∙ named) ∙ set-get_or (names_of ts) i t.name

-- another tap of the same name, in its place, leaves the places of all names
pub place_of-set : (name : List ℕ) (ts : List Tap) (i : ℕ) (t t' : Tap) → i < length ts → get_or ts i t ≡ t → t'.name ≡ t.name → place_of (set ts i t') name ≡ place_of ts name
place_of-set name [] i t t' short at same = absurd (omega arith)
place_of-set name (u ∷ us) zero t t' short at same =
    ap (λ n. cond (bytes_eq n name) (Some 0) (option_map suc (place_of us name))) (same ∙ ap (λ (x : Tap). x.name) (sym at))
place_of-set name (u ∷ us) (suc i) t t' short at same =
    ap (λ o. cond (bytes_eq u.name name) (Some 0) (option_map suc o)) (place_of-set name us i t t' (omega arith) at same)

-- a tap of the same kind, in its place, leaves as many of each kind
pub taps_on-set : (of : TapKind) (ts : List Tap) (i : ℕ) (t t' : Tap) → i < length ts → get_or ts i t ≡ t → kind_of_tap t'.records ≡ kind_of_tap t.records → taps_on of (set ts i t') ≡ taps_on of ts
taps_on-set of ts i t t' short at same =
    let counts : Tap → ℕ = λ x. cond (same_kind of (kind_of_tap x.records)) 1 0 in
    let counted = sum_by-set counts ts i t' t short in
    let equal : counts t' ≡ counts (get_or ts i t) = ap (λ k. cond (same_kind of k) 1 0) (same ∙ ap (λ (x : Tap). kind_of_tap x.records) (sym at)) in
    omega arith

-- the pids before and after those of one tap
pub record Around (ts : List Tap) (i : ℕ) (t : Tap) : Type 0 where
  pub before : List (List ℕ)
  pub after : List (List ℕ)
  pub is : pids_of ts ≡ before ++ pids_in t.records ++ after
  pub put : (t' : Tap) → pids_of (set ts i t') ≡ before ++ pids_in t'.records ++ after

regroup : (p b o a : List (List ℕ)) → p ++ (b ++ o ++ a) ≡ (p ++ b) ++ o ++ a
regroup p b o a = simp append_assoc

-- a tap's pids stand between those of the taps before it and those of the taps after it
pub around : (ts : List Tap) (i : ℕ) (t : Tap) → i < length ts → get_or ts i t ≡ t → Around ts i t
around [] i t short at = absurd (omega arith)
around (u ∷ us) zero t short at =
    record { before = []; after = pids_of us; is = ap (λ (x : Tap). pids_in x.records ++ pids_of us) at; put = λ t'. refl }
around (u ∷ us) (suc i) t short at =
    let rest = around us i t (omega arith) at in
    record {
      before = pids_in u.records ++ rest.before;
      after = rest.after;
      is = ap (λ x. pids_in u.records ++ x) rest.is ∙ regroup (pids_in u.records) rest.before (pids_in t.records) rest.after;
      put = λ t'. ap (λ x. pids_in u.records ++ x) (rest.put t') ∙ regroup (pids_in u.records) rest.before (pids_in t'.records) rest.after;
    }

-- a tap that is found stands at the place of its name
placed : (name : List ℕ) (ts : List Tap) (t : Tap) → tap_named name ts ≡ Some t → (i : ℕ) × (place_of ts name ≡ Some i) × (get_or ts i t ≡ t)
placed name [] t e = cc
placed name (u ∷ us) t e =
    elim (bytes_eq u.name name) as (λ b. cond b (Some u) (tap_named name us) ≡ Some t → (i : ℕ) × (cond b (Some 0) (option_map suc (place_of us name)) ≡ Some i) × (get_or (u ∷ us) i t ≡ t)) [
      | true ↦ λ h. (0, refl, same_Some u t h)
      | false ↦ λ h. let (i, place, at) = placed name us t h in (suc i, ap (option_map suc) place, at)
    ] (ap (λ b. cond b (Some u) (tap_named name us)) (nat_list_eq_equiv.symm u.name name) ∙ e)

-- and other records for it are one tap in another's place
pub replaced : (name : List ℕ) (records : Records) (ts : List Tap) (t : Tap) → tap_named name ts ≡ Some t
    → (i : ℕ) × (i < length ts) × (get_or ts i t ≡ t) × (with_records name records ts ≡ set ts i (record t { records = records }))
replaced name records ts t e = let (i, place, at) = placed name ts t e in let here = at-place name records ts i t place at in (i, here.0, at, here.2)

-- ---- a later line of a tap

-- a line whose name has a place is a later line of the tap there
named-later : (ts : List Tap) (i : ℕ) (t : Tap) (name word : List ℕ) (d : Data) → place_of ts name ≡ Some i → get_or ts i t ≡ t → with_named ts name word d ≡ with_later ts name t word d
named-later ts i t name word d place at = ap (λ o. with_kind ts name o word d) (at-place name t.records ts i t place at).1

-- a header whose name has a place is refused
pub header-twice : (ts : List Tap) (i : ℕ) (name word : List ℕ) (d : Data) → place_of ts name ≡ Some i → is_text word (codes "tap") ≡ true → with_named ts name word d ≡ Err HeaderTwice
unfolding with_later
header-twice ts i name word d place e = let found = tap-at name ts i place in rw (named-later ts i found.0 name word d place found.1, e) refl

becomes-then : {X Y : Type 0} (r : Result (Unit {0}) LineFault) (x : X) (y : Y) (reading : Result X InputCode) (f : X → Result Y InputCode) → f x ≡ Ok y → Becomes r x reading → Becomes r y (reading >>= f)
becomes-then (Ok u) x y reading f e is = rw is e
becomes-then (Err fault.Memory) x y reading f e is = tt
becomes-then (Err (fault.Code code)) x y reading f e is = rw is refl

-- where the reader changed a tap's records as the line says, all taps are as the line says
pub go_on-taps : (ts : List Tap) (i : ℕ) (t t' : Tap) (name word : List ℕ) (d : Data) (r : Result (Unit {0}) LineFault) → place_of ts name ≡ Some i → get_or ts i t ≡ t → is_text word (codes "tap") ≡ false
    → t'.name ≡ t.name → t'.version ≡ t.version → Becomes r t'.records (with_tap_record t.version (pids_of ts) t.records word d) → Becomes r (set ts i t') (with_named ts name word d)
unfolding with_later
go_on-taps ts i t t' name word d r place at e same version is =
    let named : List ℕ → Version → Tap = λ n v. record { name = n; version = v; records = t'.records } in
    let renamed : record t { records = t'.records } ≡ t' = ap (λ n. named n t.version) (sym same) ∙ ap (named t'.name) (sym version) in
    rw (named-later ts i t name word d place at, e)
    (becomes-then r t'.records (set ts i t') (with_tap_record t.version (pids_of ts) t.records word d) (λ more. Ok (with_records name more ts))
    (ap Ok ((at-place name t'.records ts i t place at).2 ∙ ap (set ts i) renamed)) is)

-- where a tap of the same name, version and kind stands in another's place, the reader's places, pids and counts stay
-- those of the taps
pub changed-keeps : (s s' : OpenTaps) (i : ℕ) (t t' : Tap) (r : Result (Unit {0}) LineFault) → taps_so_far s' ≡ set (taps_so_far s) i t' → s'.places ≡ s.places → s'.counts ≡ s.counts
    → KeepsTaps s → (short : i < length (taps_so_far s)) → (at : get_or (taps_so_far s) i t ≡ t) → t'.name ≡ t.name → OnOk r (kind_of_tap t'.records ≡ kind_of_tap t.records)
    → OnOk r (HasPids s'.pids ((around (taps_so_far s) i t short at).before ++ pids_in t'.records ++ (around (taps_so_far s) i t short at).after))
    → OnOk r (KeepsTaps s')
changed-keeps s s' i t t' (Err e) taps places counts keeps short at same stays pids = tt
changed-keeps s s' i t t' (Ok u) taps places counts keeps short at same stays pids =
    let ts = taps_so_far s in
    record {
      places = λ name. rw (places, taps) (keeps.places name ∙ sym (place_of-set name ts i t t' short at same));
      names = rw (taps, names-set ts i t t' at same) keeps.names;
      forms = rw taps (λ name place found. keeps.forms name place (sym (place_of-set name ts i t t' short at same) ∙ found));
      pids = rw (taps, (around ts i t short at).put t') pids;
      counts = rw (counts, taps) (record {
        streams = keeps.counts.streams ∙ sym (taps_on-set kind.Stream ts i t t' short at stays);
        nodes = keeps.counts.nodes ∙ sym (taps_on-set kind.Node ts i t t' short at stays);
        clients = keeps.counts.clients ∙ sym (taps_on-set kind.Client ts i t t' short at stays);
      });
    }

-- and so after a line of the tap
pub go_on-keeps : (s s' : OpenTaps) (i : ℕ) (t t' : Tap) (word : List ℕ) (d : Data) (r : Result (Unit {0}) LineFault) → taps_so_far s' ≡ set (taps_so_far s) i t' → s'.places ≡ s.places → s'.counts ≡ s.counts
    → KeepsTaps s → (short : i < length (taps_so_far s)) → (at : get_or (taps_so_far s) i t ≡ t) → t'.name ≡ t.name → t'.version ≡ t.version → Becomes r t'.records (with_tap_record t.version (pids_of (taps_so_far s)) t.records word d)
    → OnOk r (HasPids s'.pids ((around (taps_so_far s) i t short at).before ++ pids_in t'.records ++ (around (taps_so_far s) i t short at).after))
    → OnOk r (KeepsTaps s')
go_on-keeps s s' i t t' word d (Err e) taps places counts keeps short at same version is pids = tt
go_on-keeps s s' i t t' word d (Ok u) taps places counts keeps short at same version is pids =
    changed-keeps s s' i t t' (Ok u) taps places counts keeps short at same (one_more t.version (pids_of (taps_so_far s)) t.records t'.records word d is).same pids

-- ---- a new tap

-- a tap with a new name stands after the others
place_of-push : (text : List ℕ) (ts : List Tap) (t : Tap) → place_of ts t.name ≡ None → place_of (ts ++ t ∷ []) text ≡ cond (bytes_eq t.name text) (Some (length ts)) (place_of ts text)
place_of-push text [] t first = refl
place_of-push text (u ∷ us) t first =
    let absent = none_of (bytes_eq u.name t.name) (place_of us t.name) first in
    ap (λ o. cond (bytes_eq u.name text) (Some 0) (option_map suc o)) (place_of-push text us t absent.1) ∙ go (bytes_eq t.name text) refl absent.0
  where
    go : (b : Bool) → bytes_eq t.name text ≡ b → bytes_eq u.name t.name ≡ false
        → cond (bytes_eq u.name text) (Some 0) (option_map suc (cond b (Some (length us)) (place_of us text))) ≡ cond b (Some (suc (length us))) (cond (bytes_eq u.name text) (Some 0) (option_map suc (place_of us text)))
    go true e other = rw (← same_text t.name text e, other) refl
    go false e other = refl

-- a text that is in none of the places leaves the texts different when it is put last
pub different-push : (texts : List (List ℕ)) (text : List ℕ) → AreDifferent texts → list_any (is_text text) texts ≡ false → AreDifferent (texts ++ text ∷ [])
different-push texts text different new =
    AllPairs-from_IsDistinct bytes_eq-Decides _ (IsDistinct-push nat_list_eq_equiv texts text (IsDistinct-from_AllPairs bytes_eq-Decides texts different) new)

-- where no tap is found by a name, none of the names is that one
none-of : (name : List ℕ) (ts : List Tap) → tap_named name ts ≡ None → list_any (is_text name) (names_of ts) ≡ false
none-of name [] e = refl
none-of name (t ∷ ts) e =
    elim (is_text name t.name) as (λ b. is_text name t.name ≡ b → cond b (Some t) (tap_named name ts) ≡ None → list_any (is_text name) (names_of (t ∷ ts)) ≡ false) [
      | true ↦ λ is h. cc
      | false ↦ λ is h. rw is (none-of name ts h)
    ] refl e

-- a tap with a new name leaves the names different
pub names-push : (ts : List Tap) (t : Tap) → tap_named t.name ts ≡ None → AreDifferent (names_of ts) → AreDifferent (names_of (ts ++ t ∷ []))
names-push ts t new different = rw (map-append (λ (x : Tap). x.name) ts (t ∷ [])) (different-push (names_of ts) t.name different (none-of t.name ts new))

-- and a tap's name leaves all of them such
forms-push : (ts : List Tap) (t : Tap) → IsTrue (is_tap_name t.name) → place_of ts t.name ≡ None → HaveTapNames ts → HaveTapNames (ts ++ t ∷ [])
forms-push ts t form first had = λ text place found.
    elim (bytes_eq t.name text) as (λ b. bytes_eq t.name text ≡ b → cond b (Some (length ts)) (place_of ts text) ≡ Some place → IsTrue (is_tap_name text)) [
      | true ↦ λ is h. rw (← same_text t.name text is) form
      | false ↦ λ is h. had text place h
    ] refl (sym (place_of-push text ts t first) ∙ found)

-- the map of places, with the new name put in, is that of the taps with the new one
pub places-put : {Y S : Type 0} (m n : HashMap (String Y) ℕ S) (ts : List Tap) (t : Tap) (key : String Y) (size : ℕ) → string_bytes key ≡ t.name → size ≡ length ts
    → UpdatesBy string_eq (string_eq key) m n (Some size) → ((text : List ℕ) → get_by_text m text ≡ place_of ts text) → place_of ts t.name ≡ None
    → (text : List ℕ) → get_by_text n text ≡ place_of (ts ++ t ∷ []) text
places-put m n ts t key size spells sized updates places first text =
    hash_map_updates_text (string_bytes key) m n (Some size) updates text
    ∙ ap (cond (bytes_eq (string_bytes key) text) (Some size)) (places text)
    ∙ rw (spells, sized) refl
    ∙ sym (place_of-push text ts t first)

pub fails-then : {X Y : Type 0} (e : LineFault) (reading : Result X InputCode) (f : X → Result Y InputCode) → Fails e reading → Fails e (reading >>= f)
fails-then fault.Memory reading f is = tt
fails-then (fault.Code code) reading f is = rw is refl

-- a new tap has no pids
pub pids-empty : (of : TapKind) → pids_in (no_records of) ≡ []
pids-empty kind.Stream = refl
pids-empty kind.Node = refl
pids-empty kind.Client = refl

-- after a header the reader's places, names, pids and counts are those of the taps
pub begin-keeps : (s s' : OpenTaps) (name : List ℕ) (of : TapKind) (version : Version) → IsTrue (is_tap_name name) → place_of (taps_so_far s) name ≡ None → KeepsTaps s → s'.pids ≡ s.pids → taps_so_far s' ≡ taps_so_far s ++ record { name = name; version = version; records = no_records of } ∷ []
    → ((text : List ℕ) → get_by_text s'.places text ≡ place_of (taps_so_far s') text) → Counted s'.counts (taps_so_far s ++ record { name = name; version = version; records = no_records of } ∷ []) → KeepsTaps s'
begin-keeps s s' name of version form first keeps same taps places counts =
    let t : Tap = record { name = name; version = version; records = no_records of } in
    record {
      places = places;
      names = rw taps (names-push (taps_so_far s) t (named-none name (taps_so_far s) first) keeps.names);
      forms = rw taps (forms-push (taps_so_far s) t form first keeps.forms);
      pids = rw (taps, flat_map-append (λ (t : Tap). pids_in t.records) (taps_so_far s) (t ∷ []), pids-empty of, append-nil, same) keeps.pids;
      counts = rw taps counts;
    }

-- a line whose name has no place has to be a header
pub named-first : (ts : List Tap) (name word : List ℕ) (d : Data) → place_of ts name ≡ None → with_named ts name word d ≡ with_header ts name word d
named-first ts name word d place = ap (λ o. with_kind ts name o word d) (named-none name ts place)
