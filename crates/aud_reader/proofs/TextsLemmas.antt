-- Sets of texts, against lists.
use Rattle.std.proofs.Common.{◌≡◌, ℕ, ◌+◌, ◌<◌, ◌≤◌, List, [], ◌∷◌, ◌++◌, length, Bool, true, false, cond, ◌||◌, Option, Some, None, option_to_list, Ok, Err, refl, sym, ap, ◌∙◌, arith, length-append}
use Rattle.std.specs.List.{list_any, filter_map, cons_option, IsDistinct, AllByRecursion}
use Rattle.std.proofs.lemmas.List.Elements.{filter_map-append}
use Rattle.aud_tap.specs.declared.records.NodeRec.{NodeRec}
use Rattle.std.specs.Set.{distinct_count}
use Rattle.std.specs.HashSet.{HashSet, IsUnique, Updates, contains}
use Rattle.std.proofs.Math.Bool.{or-true, or-false}
use Rattle.std.proofs.lemmas.Bool.{le-leb, lt-leb, or_parts}
use Rattle.std.proofs.lemmas.Cmp.{nat_list_eq_equiv}
use Rattle.std.proofs.lemmas.List.Folds.{list_any-append}
use Rattle.std.proofs.lemmas.Map.Keys.{IsDistinct-push}
use Rattle.std.proofs.lemmas.Map.Made.{length-from_keys}
use Rattle.std.proofs.lemmas.Map.Steps.{list_any_congr}
use Rattle.aud_reader.specs.declared.fault.InputCode.TheVariants.{Limit}
use Rattle.aud_tap.specs.Forms.{is_text}
use Rattle.aud_tap.specs.RecordFields.{pid_of}
use Rattle.aud_reader.specs.Bundle.{max_pids, pids_fit}
use Rattle.aud_reader.specs.Private.Texts.{HasTexts, HasPids}

-- a text is among others and one more where it is among them or is that one
pub any-push : (q text : List ℕ) (texts : List (List ℕ)) → list_any (is_text q) (texts ++ text ∷ []) ≡ (list_any (is_text q) texts || is_text q text)
any-push q text texts = list_any-append (is_text q) texts (text ∷ []) ∙ ap (λ b. list_any (is_text q) texts || b) (or-false (is_text q text))

-- a text that is put in
pub texts-put : {S : Type 0} (s n : HashSet (List ℕ) S) (texts : List (List ℕ)) (text : List ℕ) → Updates is_text s n text true → HasTexts s texts → HasTexts n (texts ++ text ∷ [])
texts-put s n texts text updates has q =
    updates.0 q
    ∙ ap (cond (is_text text q) true) (has q)
    ∙ ap (λ b. cond b true (list_any (is_text q) texts)) (nat_list_eq_equiv.symm text q)
    ∙ either (is_text q text) (list_any (is_text q) texts)
    ∙ sym (any-push q text texts)
  where
    either : (b a : Bool) → cond b true a ≡ (a || b)
    either true a = sym (or-true a)
    either false a = sym (or-false a)

-- a text that is in already
texts-known : {S : Type 0} (s : HashSet (List ℕ) S) (texts : List (List ℕ)) (text : List ℕ) → contains is_text s text ≡ true → HasTexts s texts → HasTexts s (texts ++ text ∷ [])
texts-known s texts text known has q = has q ∙ sym (any-push q text texts ∙ known-or (is_text q text) refl)
  where
    known-or : (b : Bool) → is_text q text ≡ b → (list_any (is_text q) texts || b) ≡ list_any (is_text q) texts
    known-or false e = or-false (list_any (is_text q) texts)
    known-or true e = or-true (list_any (is_text q) texts) ∙ sym (list_any_congr nat_list_eq_equiv q text texts e ∙ sym (has text) ∙ known)

-- a set has each text once
count-texts : {S : Type 0} (s : HashSet (List ℕ) S) (texts : List (List ℕ)) → IsUnique is_text s → HasTexts s texts → distinct_count is_text texts ≡ length s.keys
count-texts s texts unique has = sym (length-from_keys nat_list_eq_equiv s.keys texts unique has)

-- and one more than that, where a text isn't in it
count-absent : {S : Type 0} (s : HashSet (List ℕ) S) (texts : List (List ℕ)) (text : List ℕ) → IsUnique is_text s → HasTexts s texts → contains is_text s text ≡ false
    → distinct_count is_text (texts ++ text ∷ []) ≡ length s.keys + 1
count-absent s texts text unique has absent =
    let apart : IsDistinct is_text (s.keys ++ text ∷ []) = IsDistinct-push nat_list_eq_equiv s.keys text unique absent in
    sym (length-from_keys nat_list_eq_equiv (s.keys ++ text ∷ []) (texts ++ text ∷ []) apart
    (λ q. any-push q text s.keys ∙ ap (λ b. b || is_text q text) (has q) ∙ sym (any-push q text texts)))
    ∙ length-append s.keys (text ∷ [])

-- pids that are few enough fit
pub fit-ok : (pids : List (List ℕ)) → distinct_count is_text pids ≤ max_pids → pids_fit pids ≡ Ok tt
fit-ok pids h = rw (le-leb _ _ h) refl

-- a pid that is in the set already leaves the set that of the pids
pub pids-known : {S : Type 0} (s : HashSet (List ℕ) S) (all : List (List ℕ)) (pid : List ℕ) → IsUnique is_text s → HasPids s all → contains is_text s pid ≡ true → HasPids s (all ++ pid ∷ [])
pids-known s all pid unique has known =
    let texts : HasTexts s (all ++ pid ∷ []) = texts-known s all pid known has.texts in
    let before = count-texts s all unique has.texts in
    let after = count-texts s (all ++ pid ∷ []) unique texts in
    record { texts = texts; few = rw (after, ← before) has.few }

-- a pid is put in
pub pids-put : {S : Type 0} (s n : HashSet (List ℕ) S) (all : List (List ℕ)) (pid : List ℕ) → IsUnique is_text s → HasPids s all → contains is_text s pid ≡ false → length s.keys < max_pids
    → Updates is_text s n pid true → HasPids n (all ++ pid ∷ [])
pids-put s n all pid unique has absent room updates =
    let count = count-absent s all pid unique has.texts absent in
    record { texts = texts-put s n all pid updates has.texts; few = rw count (omega arith) }

-- a pid that isn't in a full set is one too many, so the line is refused
pub pids-full : {S : Type 0} (s : HashSet (List ℕ) S) (all : List (List ℕ)) (pid : List ℕ) → IsUnique is_text s → HasPids s all → contains is_text s pid ≡ false → max_pids ≤ length s.keys
    → pids_fit (all ++ pid ∷ []) ≡ Err Limit
pids-full s all pid unique has absent full =
    let count = count-absent s all pid unique has.texts absent in
    let above : max_pids < distinct_count is_text (all ++ pid ∷ []) = rw count (omega arith) in
    rw (lt-leb _ _ above) refl

-- a text that is none of a list's differs from each
all-absent : (x : List ℕ) (texts : List (List ℕ)) → list_any (is_text x) texts ≡ false → AllByRecursion (λ y. is_text x y ≡ false) texts
all-absent x [] e = tt
all-absent x (y ∷ texts) e = let parts = or_parts (is_text x y) (list_any (is_text x) texts) e in (parts.0, all-absent x texts parts.1)

-- lists with the same texts have as many different ones: as many as the one's texts, each once
pub unique : (texts : List (List ℕ)) → (once : List (List ℕ)) × IsDistinct is_text once × ((q : List ℕ) → list_any (is_text q) once ≡ list_any (is_text q) texts)
unfolding IsDistinct
unique [] = ([], tt, λ q. refl)
unique (x ∷ texts) = go (unique texts) (list_any (is_text x) texts) refl
  where
    either : (q : List ℕ) (b : Bool) → is_text q x ≡ b → list_any (is_text x) texts ≡ true → list_any (is_text q) texts ≡ (b || list_any (is_text q) texts)
    either q true e known = list_any_congr nat_list_eq_equiv q x texts e ∙ known
    either q false e known = refl

    go : (once : List (List ℕ)) × IsDistinct is_text once × ((q : List ℕ) → list_any (is_text q) once ≡ list_any (is_text q) texts) → (b : Bool) → list_any (is_text x) texts ≡ b
        → (once : List (List ℕ)) × IsDistinct is_text once × ((q : List ℕ) → list_any (is_text q) once ≡ (is_text q x || list_any (is_text q) texts))
    go (once, apart, same) true e = (once, apart, λ q. same q ∙ either q (is_text q x) refl e)
    go (once, apart, same) false e = (x ∷ once, (all-absent x once (same x ∙ e), apart), λ q. ap (λ b. is_text q x || b) (same q))

-- lists that have the same texts have as many different ones
count-same : (texts others : List (List ℕ)) → ((q : List ℕ) → list_any (is_text q) texts ≡ list_any (is_text q) others) → distinct_count is_text others ≡ distinct_count is_text texts
count-same texts others same =
    let (once, apart, is) = unique texts in
    sym (length-from_keys nat_list_eq_equiv once others apart (λ q. is q ∙ same q)) ∙ length-from_keys nat_list_eq_equiv once texts apart is

-- texts that stand elsewhere are there as before
texts-moved : (before own after more : List (List ℕ)) (q : List ℕ) → list_any (is_text q) ((before ++ own ++ after) ++ more) ≡ list_any (is_text q) (before ++ (own ++ more) ++ after)
texts-moved before own after more q = simp (list_any-append) (swap (list_any (is_text q) before) (list_any (is_text q) own) (list_any (is_text q) after) (list_any (is_text q) more))
  where
    swap : (b o a m : Bool) → (((b || o) || a) || m) ≡ ((b || (o || m)) || a)
    swap true o a m = refl
    swap false true a m = refl
    swap false false true true = refl
    swap false false true false = refl
    swap false false false true = refl
    swap false false false false = refl

-- and counted as before
pub count-moved : (before own after more : List (List ℕ)) → distinct_count is_text (before ++ (own ++ more) ++ after) ≡ distinct_count is_text ((before ++ own ++ after) ++ more)
count-moved before own after more = count-same ((before ++ own ++ after) ++ more) (before ++ (own ++ more) ++ after) (texts-moved before own after more)

-- one more pid of one tap among all
pub pids-moved : {S : Type 0} (s : HashSet (List ℕ) S) (before own after more : List (List ℕ)) → HasPids s ((before ++ own ++ after) ++ more) → HasPids s (before ++ (own ++ more) ++ after)
pids-moved s before own after more has =
    record {
      texts = λ q. has.texts q ∙ texts-moved before own after more q;
      few = rw (count-moved before own after more) has.few;
    }

-- one more record of one tap among all
pub pids-more : {S : Type 0} (s : HashSet (List ℕ) S) (before : List (List ℕ)) (recs : List NodeRec) (rec : NodeRec) (after : List (List ℕ))
    → HasPids s ((before ++ filter_map pid_of recs ++ after) ++ option_to_list (pid_of rec)) → HasPids s (before ++ filter_map pid_of (recs ++ rec ∷ []) ++ after)
pids-more s before recs rec after has =
    rw (filter_map-append pid_of recs (rec ∷ []), alone (pid_of rec)) (pids-moved s before (filter_map pid_of recs) after (option_to_list (pid_of rec)) has)
  where
    alone : (o : Option (List ℕ)) → cons_option o [] ≡ option_to_list o
    alone None = refl
    alone (Some pid) = refl
