-- The connection after one more record of a client tap.
use Rattle.std.proofs.Common.{◌≡◌, ℕ, List, [], ◌∷◌, ◌++◌, Bool, false, Option, Some, None, unwrap_or, refl, append-nil}
use Rattle.std.specs.List.{filter_map, last_or}
use Rattle.std.proofs.lemmas.List.Elements.{filter_map-append}
use Rattle.aud_tap.specs.declared.records.ClientRec.{ClientRec}
use Rattle.aud_reader.specs.Connections.{connection_begun, opens}
use Rattle.aud_reader.specs.Private.Connected.{Connected}

-- the last of two
abbrev pub later : {A : Type 0} → Option A → Option A → Option A
later old None = old
later old (Some x) = Some x

-- the last of a list is what was put last
last_or-later : {A : Type 0} (o : Option A) (xs : List A) (x : A) → last_or o (xs ++ x ∷ []) ≡ Some x
last_or-later o [] x = refl
last_or-later o (y ∷ xs) x = last_or-later (Some y) xs x

-- what one more record says last
last-more : {A : Type 0} (says : ClientRec → Option A) (recs : List ClientRec) (rec : ClientRec) (o : Option A) → says rec ≡ o
    → last_or None (filter_map says (recs ++ rec ∷ [])) ≡ later (last_or None (filter_map says recs)) o
last-more says recs rec None e = rw (filter_map-append says recs (rec ∷ []), e, append-nil) refl
last-more says recs rec (Some x) e = rw (filter_map-append says recs (rec ∷ []), e) (last_or-later None (filter_map says recs) x)

-- one more record
pub connected-more : (recs : List ClientRec) (rec : ClientRec) (last : Option ℕ) (is_open : Bool) → Connected recs last is_open
    → Connected (recs ++ rec ∷ []) (later last (connection_begun rec)) (unwrap_or (opens rec) is_open)
connected-more recs rec last is_open old =
    record {
      number = rw (last-more connection_begun recs rec (connection_begun rec) refl, ← old.number) refl;
      state = rw (last-more opens recs rec (opens rec) refl, old.state) (unwrap_or-later (last_or None (filter_map opens recs)) (opens rec));
    }
  where
    unwrap_or-later : (old new : Option Bool) → unwrap_or new (unwrap_or old false) ≡ unwrap_or (later old new) false
    unwrap_or-later old None = refl
    unwrap_or-later old (Some x) = refl
