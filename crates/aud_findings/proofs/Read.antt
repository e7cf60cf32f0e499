-- What is read of the taps.
use Rattle.std.proofs.Common.{◌≡◌, ◌<◌, ◌+◌, ◌||◌, ℕ, Bool, true, false, List, [], ◌∷◌, length, take, set, get_or, nat_eq, Some, option_map, slice_get, refl, sym, ap, subst, ◌∙◌, arith, zero-add}
use Rattle.std.specs.List.{AllZip, list_any}
use Rattle.std.proofs.lemmas.List.{take_more, length-set}
use Rattle.std.proofs.lemmas.Bool.Decides.{nat_tests}
use Rattle.std.proofs.lemmas.List.Folds.{list_any-append}
use Rattle.std.proofs.lemmas.Option.{same_Some, slice_get-get_or, slice_get_within}
use Rattle.std.proofs.lemmas.Slice.Zip.{AllZip-long}
use Rattle.std.proofs.Math.Bool.{or-false, or-true}
use Rattle.aud_base.specs.Lists.{numbers_from}
use Rattle.aud_base.proofs.Lists.{element_at}
use Rattle.aud_base.proofs.Numbers.{slice_get-numbers}
use Rattle.aud_merge.proofs.Basics.{slice_get-set_other, slice_get-set_same}
use Rattle.aud_rooms.proofs.Ascending.{length-numbers}
use Rattle.aud_node.specs.Cluster.{Cluster}
pub use Rattle.aud_client.proofs.Giving.{zip_append}
use Rattle.aud_rows.proofs.Stays.{zip_at}
use Rattle.aud_findings.specs.declared.prepared.Prepared.{Prepared}
use Rattle.aud_findings.specs.Prepared.{AreRead, IsRead}
use Rattle.aud_findings.specs.Private.ReadTaps.{AreWanted, IsReadBy}

-- ---- two lists, element by element

pub zip_weaker : {X Y : Type 0} (P R : X → Y → Type 0) → ((x : X) (y : Y) → P x y → R x y) → (xs : List X) (ys : List Y) → AllZip P xs ys → AllZip R xs ys
zip_weaker P R f [] [] h = tt
zip_weaker P R f [] (y ∷ ys) h = absurd h
zip_weaker P R f (x ∷ xs) [] h = absurd h
zip_weaker P R f (x ∷ xs) (y ∷ ys) h = (f x y h.0, zip_weaker P R f xs ys h.1)

-- ---- which taps are asked for

-- one more place
pub wanted_more : (count i : ℕ) (places : List ℕ) (old new : List Bool) → i < length places → AreWanted count (take i places) old → new ≡ set old (get_or places i 0) true
    → AreWanted count (take (i + 1) places) new
wanted_more count i places old new h was more =
    record {
      length_is = ap length more ∙ length-set old (get_or places i 0) true ∙ was.length_is;
      each = λ q within. ap (λ bs. slice_get bs q) more ∙ there q within (nat_eq q (get_or places i 0)) refl ∙ ap Some (sym (split q));
    }
  where
    split : (q : ℕ) → list_any (nat_eq q) (take (i + 1) places) ≡ (list_any (nat_eq q) (take i places) || nat_eq q (get_or places i 0))
    split q =
        ap (list_any (nat_eq q)) (take_more places i 0 h)
        ∙ list_any-append (nat_eq q) (take i places) (get_or places i 0 ∷ [])
        ∙ ap (λ b. list_any (nat_eq q) (take i places) || b) (or-false (nat_eq q (get_or places i 0)))

    there : (q : ℕ) → q < count → (b : Bool) → nat_eq q (get_or places i 0) ≡ b
        → slice_get (set old (get_or places i 0) true) q ≡ Some (list_any (nat_eq q) (take i places) || nat_eq q (get_or places i 0))
    there q within true e =
        let same : q ≡ get_or places i 0 = grind (arith, nat_tests, e) in
        let long : get_or places i 0 < length old = omega (arith, was.length_is) in
        ap (slice_get (set old (get_or places i 0) true)) same
        ∙ slice_get-set_same old (get_or places i 0) true (get_or old (get_or places i 0) false) (slice_get-get_or old (get_or places i 0) false long)
        ∙ ap Some (sym (or-true (list_any (nat_eq q) (take i places))) ∙ ap (λ b. list_any (nat_eq q) (take i places) || b) (sym e))
    there q within false e =
        slice_get-set_other old (get_or places i 0) q true (λ same. grind (arith, nat_tests, e, same))
        ∙ was.each q within
        ∙ ap Some (sym (or-false (list_any (nat_eq q) (take i places))) ∙ ap (λ b. list_any (nat_eq q) (take i places) || b) (sym e))

-- ---- what is read

-- what was read of each tap was read of all
pub read_all : (c : Cluster) (places : List ℕ) (orders : Bool) (wanted : List Bool) (prepared : Prepared)
    → AreWanted (length c.taps) places wanted
    → AllZip (IsReadBy c wanted orders) (numbers_from 0 (length wanted)) prepared.taps.items
    → AreRead c places orders prepared
read_all c places orders wanted prepared are zip =
    let long : length prepared.taps.items ≡ length wanted =
    AllZip-long (IsReadBy c wanted orders) (numbers_from 0 (length wanted)) prepared.taps.items zip ∙ length-numbers 0 (length wanted) in
    record {
      length_is = long ∙ are.length_is;
      each = λ place tap there.
          let within : place < length wanted = subst (λ n. place < n) long (slice_get_within prepared.taps.items place tap there) in
          let (other, at) = element_at wanted place within in
          let number : slice_get (numbers_from 0 (length wanted)) place ≡ Some place =
          slice_get-numbers 0 wanted place ∙ ap (option_map (λ _. 0 + place)) at ∙ ap Some (zero-add place) in
          let asked : get_or wanted place false ≡ list_any (nat_eq place) places =
          same_Some _ _ (sym (slice_get-get_or wanted place false within) ∙ are.each place (subst (λ n. place < n) are.length_is within)) in
          subst (λ b. IsRead c b orders place tap) asked
          (zip_at (IsReadBy c wanted orders) (numbers_from 0 (length wanted)) prepared.taps.items zip place place tap number there);
    }
