-- Taps with a header or a record more: what is found in them, and how many there are.
use Rattle.std.proofs.Common.{◌≡◌, ℕ, ◌≤◌, List, [], ◌∷◌, ◌++◌, map, Bool, true, false, cond, ◌||◌, Option, Some, None, refl, sym, ap, ◌∙◌, append-nil, arith, nat_lt, true≢false}
use Rattle.std.specs.Option.{option_or}
use Rattle.std.specs.Set.{distinct_count}
use Rattle.std.proofs.Math.Bool.{or_assoc}
use Rattle.std.proofs.lemmas.Cmp.{nat_list_eq_equiv}
use Rattle.std.proofs.lemmas.Grind.{flat_map-append}
use Rattle.std.proofs.lemmas.List.Folds.{find-append, list_any-append}
use Rattle.std.proofs.lemmas.Map.Made.{length-from_keys, length-le_from_is_member}
use Rattle.std.proofs.lemmas.Option.{same_Some}
use Rattle.aud_base.specs.Steps.{guard}
use Rattle.aud_base.proofs.SameText.{same_text, itself_text}
use Rattle.aud_tap.specs.declared.records.TapKind.{TapKind}
use Rattle.aud_tap.specs.declared.records.TapKind.TheVariants as kind
use Rattle.aud_tap.specs.declared.records.Version.{Version}
use Rattle.aud_tap.specs.declared.taps.Records.{Records}
use Rattle.aud_tap.specs.declared.taps.Tap.{Tap}
use Rattle.aud_tap.specs.Forms.{is_text}
use Rattle.aud_reader.specs.declared.fault.InputCode.TheVariants.{SecondStream, Limit}
use Rattle.aud_reader.specs.Bundle.{max_node_taps, max_client_taps, max_pids, tap_named, with_records, kind_of_tap, taps_on, pids_in, pids_of, another_tap, no_records}
use Rattle.aud_reader.proofs.KeptLemmas.{taps_on-set, replaced, pids-empty}
use Rattle.aud_reader.proofs.TextsLemmas.{unique}
use Rattle.aud_laws.specs.Order.{is_known}

-- the pids of two records, in either order
pub either : (pids first second : Bool) → ((pids || first) || second) ≡ ((pids || second) || first)
either true first second = refl
either false true true = refl
either false true false = refl
either false false true = refl
either false false false = refl

-- a tap after its header
abbrev pub begun : List ℕ → TapKind → Version → Tap
begun name of version = record { name = name; version = version; records = no_records of }

-- the names of taps
abbrev pub names_of : List Tap → List (List ℕ)
names_of ts = map (λ (t : Tap). t.name) ts

-- ---- the tap of a name

-- a tap put last leaves each tap that is there
pub named-push : (name : List ℕ) (ts : List Tap) (t u : Tap) → tap_named name ts ≡ Some u → tap_named name (ts ++ t ∷ []) ≡ Some u
named-push name ts t u is = find-append (λ (x : Tap). is_text name x.name) ts (t ∷ []) ∙ ap (λ o. option_or o (tap_named name (t ∷ []))) is

-- a tap of another name, put last, isn't found by the name
pub named-past : (name : List ℕ) (ts : List Tap) (t : Tap) → is_text name t.name ≡ false → tap_named name (ts ++ t ∷ []) ≡ tap_named name ts
named-past name ts t other = find-append (λ (x : Tap). is_text name x.name) ts (t ∷ []) ∙ ap (λ b. option_or (tap_named name ts) (cond b (Some t) None)) other ∙ alone (tap_named name ts)
  where
    alone : (o : Option Tap) → option_or o None ≡ o
    alone None = refl
    alone (Some u) = refl

-- a name is among those of the taps where a tap has it
pub named-among : (name : List ℕ) (ts : List Tap) (t : Tap) → tap_named name ts ≡ Some t → is_known (names_of ts) name ≡ true
named-among name [] t e = cc
named-among name (u ∷ us) t e =
    elim (is_text name u.name) as (λ b. cond b (Some u) (tap_named name us) ≡ Some t → (b || is_known (names_of us) name) ≡ true) [
      | true ↦ λ h. refl
      | false ↦ λ h. named-among name us t h
    ] e

-- and it isn't where none has it
pub absent-among : (name : List ℕ) (ts : List Tap) → tap_named name ts ≡ None → is_known (names_of ts) name ≡ false
absent-among name [] e = refl
absent-among name (u ∷ us) e =
    elim (is_text name u.name) as (λ b. cond b (Some u) (tap_named name us) ≡ None → (b || is_known (names_of us) name) ≡ false) [
      | true ↦ λ h. cc
      | false ↦ λ h. absent-among name us h
    ] e

-- ---- records for a tap

-- records for a tap leave the names
pub names-with : (name : List ℕ) (records : Records) (ts : List Tap) → names_of (with_records name records ts) ≡ names_of ts
names-with name records [] = refl
names-with name records (t ∷ ts) =
    elim (is_text name t.name) as (λ b. names_of (cond b (record t { records = records } ∷ ts) (t ∷ with_records name records ts)) ≡ names_of (t ∷ ts)) [
      | true ↦ refl
      | false ↦ ap (λ ns. t.name ∷ ns) (names-with name records ts)
    ]

-- records for a tap that is there leave what is put last
pub with-push : (name : List ℕ) (records : Records) (ts : List Tap) (t u : Tap) → tap_named name ts ≡ Some u → with_records name records (ts ++ t ∷ []) ≡ with_records name records ts ++ t ∷ []
with-push name records [] t u e = cc
with-push name records (x ∷ xs) t u e =
    elim (is_text name x.name) as (λ b. cond b (Some x) (tap_named name xs) ≡ Some u
    → cond b (record x { records = records } ∷ (xs ++ t ∷ [])) (x ∷ with_records name records (xs ++ t ∷ [])) ≡ cond b (record x { records = records } ∷ xs) (x ∷ with_records name records xs) ++ t ∷ []) [
      | true ↦ λ h. refl
      | false ↦ λ h. ap (λ rest. x ∷ rest) (with-push name records xs t u h)
    ] e

-- records for two taps may be put in either order
pub with-with : (a b : List ℕ) (of_a of_b : Records) (ts : List Tap) → is_text a b ≡ false → with_records a of_a (with_records b of_b ts) ≡ with_records b of_b (with_records a of_a ts)
with-with a b of_a of_b [] other = refl
with-with a b of_a of_b (t ∷ ts) other = by (is_text a t.name) (is_text b t.name) refl refl (with-with a b of_a of_b ts other)
  where
    by : (x y : Bool) → is_text a t.name ≡ x → is_text b t.name ≡ y → with_records a of_a (with_records b of_b ts) ≡ with_records b of_b (with_records a of_a ts)
        → with_records a of_a (with_records b of_b (t ∷ ts)) ≡ with_records b of_b (with_records a of_a (t ∷ ts))
    by true true p q rest = absurd (true≢false (sym (itself_text b) ∙ ap (λ n. is_text n b) (same_text b t.name q ∙ sym (same_text a t.name p)) ∙ other))
    by true false p q rest = rw (q, p, q) refl
    by false true p q rest = rw (q, p, q) refl
    by false false p q rest = rw (q, p, q) (ap (λ us. t ∷ us) rest)

-- ---- how many taps

module _ (name : List ℕ) (records : Records) (ts : List Tap) (t : Tap) (is : tap_named name ts ≡ Some t) (same : kind_of_tap records ≡ kind_of_tap t.records) where
  -- records for a tap leave as many taps of each kind
  taps_on-with : (of : TapKind) → taps_on of (with_records name records ts) ≡ taps_on of ts
  taps_on-with of =
      let (i, within, at, put) = replaced name records ts t is in
      ap (taps_on of) put ∙ taps_on-set of ts i t (record t { records = records }) within at same

  -- and so the room for another
  pub room-with : (of : TapKind) → another_tap of (with_records name records ts) ≡ another_tap of ts
  room-with kind.Stream = ap (λ n. guard SecondStream (nat_lt n 1)) (taps_on-with kind.Stream)
  room-with kind.Node = ap (λ n. guard Limit (nat_lt n max_node_taps)) (taps_on-with kind.Node)
  room-with kind.Client = ap (λ n. guard Limit (nat_lt n max_client_taps)) (taps_on-with kind.Client)

-- ---- the pids

-- there are no more different pids than may be
pub record AreFew (pids : List (List ℕ)) : Type 0 where
  pub few : distinct_count is_text pids ≤ max_pids

-- pids that are all among few are few
pub few-within : (pids all : List (List ℕ)) → ((q : List ℕ) → is_known pids q ≡ true → is_known all q ≡ true) → AreFew all → AreFew pids
few-within pids all within h =
    let (once, apart, is) = unique pids in
    let (once_all, apart_all, is_all) = unique all in
    let count = length-from_keys nat_list_eq_equiv once pids apart is in
    let count_all = length-from_keys nat_list_eq_equiv once_all all apart_all is_all in
    let fewer = length-le_from_is_member nat_list_eq_equiv once once_all apart (λ q m. is_all q ∙ within q (sym (is q) ∙ m)) in
    let most = h.few in
    record { few = omega arith }

-- a header brings no pids
pub pids-begun : (ts : List Tap) (name : List ℕ) (of : TapKind) (version : Version) → pids_of (ts ++ begun name of version ∷ []) ≡ pids_of ts
pids-begun ts name of version =
    flat_map-append (λ (t : Tap). pids_in t.records) ts (begun name of version ∷ []) ∙ ap (λ ps. pids_of ts ++ (ps ++ [])) (pids-empty of) ∙ append-nil (pids_of ts)

-- records for a tap bring the pids that they have more
pub pids-with : (q name : List ℕ) (records : Records) (added : List (List ℕ)) (ts : List Tap) (t : Tap) → tap_named name ts ≡ Some t → pids_in records ≡ pids_in t.records ++ added
    → is_known (pids_of (with_records name records ts)) q ≡ (is_known (pids_of ts) q || is_known added q)
pids-with q name records added [] t e more = cc
pids-with q name records added (u ∷ us) t e more =
    elim (is_text name u.name) as (λ b. cond b (Some u) (tap_named name us) ≡ Some t
    → is_known (pids_of (cond b (record u { records = records } ∷ us) (u ∷ with_records name records us))) q ≡ (is_known (pids_in u.records ++ pids_of us) q || is_known added q)) [
      | true ↦ λ h.
          let same = same_Some u t h in
          rw (more, same) (simp (list_any-append) (either (is_known (pids_in t.records) q) (is_known added q) (is_known (pids_of us) q)))
      | false ↦ λ h.
          list_any-append (is_text q) (pids_in u.records) (pids_of (with_records name records us))
          ∙ ap (λ b. is_known (pids_in u.records) q || b) (pids-with q name records added us t h more)
          ∙ sym (or_assoc (is_known (pids_in u.records) q) (is_known (pids_of us) q) (is_known added q))
          ∙ ap (λ b. b || is_known added q) (sym (list_any-append (is_text q) (pids_in u.records) (pids_of us)))
    ] e
