-- The records of the sessions of a part.
use Rattle.std.proofs.Common.{◌≡◌, Bool, true, false, cond, ◌&&◌, ◌||◌, List, [], ◌∷◌, filter, Option, Some, None, refl, sym, ap, ◌∙◌, bytes_eq}
use Rattle.std.specs.List.{list_any}
use Rattle.std.proofs.lemmas.Bool.{or_parts}
use Rattle.std.proofs.lemmas.Option.{none-some}
use Rattle.std.specs.Cmp.Lexicographic.{nat_list_eq_equiv}
use Rattle.aud_tap.specs.declared.records.NodeRec.{NodeRec}
use Rattle.aud_tap.specs.declared.records.NodeRec.TheVariants.{Start, Take, Takes, Opened, Join, Leave, Broke, Back, Gone}
use Rattle.aud_tap.specs.declared.taps.Records.TheVariants.{Node}
use Rattle.aud_tap.specs.RecordFields.{pid_of}
use Rattle.aud_node.specs.Stream.{Text}
use Rattle.aud_node.specs.OwnRecords.{is_pid, record_names}
use Rattle.aud_parts.specs.LeftOut.{keeps_pid, keeps_record, tell_of}
use Rattle.aud_parts.specs.Part.{is_among, opens_nsp, grants}
use Rattle.aud_parts.specs.Private.OwnRecords.{is_kept_pid, names_kept, passes_own}

-- ---- which log tells of one of the sessions

any-none : {X : Type 0} (xs : List X) → list_any (λ (x : X). false) xs ≡ false
any-none [] = refl
any-none (x ∷ xs) = any-none xs

-- a text that is asked for the other way round
any-flipped : (q : Text) (texts : List Text) → list_any (bytes_eq q) texts ≡ is_among texts q
any-flipped q [] = refl
any-flipped q (t ∷ texts) = ap (λ b. b || list_any (bytes_eq q) texts) (nat_list_eq_equiv.symm q t) ∙ ap (λ b. bytes_eq t q || b) (any-flipped q texts)

-- of some element one of two tests passes
any-either : {X : Type 0} (p q : X → Bool) (xs : List X) → list_any (λ x. p x || q x) xs ≡ (list_any p xs || list_any q xs)
any-either p q [] = refl
any-either p q (x ∷ xs) = ap (λ b. (p x || q x) || b) (any-either p q xs) ∙ swap (p x) (q x) (list_any p xs) (list_any q xs)
  where
    swap : (a b c d : Bool) → ((a || b) || (c || d)) ≡ ((a || c) || (b || d))
    swap true b c d = refl
    swap false true true d = refl
    swap false true false d = refl
    swap false false c d = refl

-- the record names one of the sessions
names-one : (pids : List Text) (rec : NodeRec) → list_any (λ pid. record_names (Some rec) pid) pids ≡ names_kept (is_among pids) rec
names-one pids rec = go (pid_of rec)
  where
    go : (o : Option Text) → list_any (λ pid. is_pid o pid) pids ≡ is_kept_pid (is_among pids) o
    go None = any-none pids
    go (Some other) = any-flipped other pids

-- a log tells of one of the sessions where a record names one
pub tells-own : (pids : List Text) (recs : List NodeRec) → list_any (λ pid. tell_of pid (Node recs)) pids ≡ list_any (names_kept (is_among pids)) recs
tells-own pids [] = any-none pids
tells-own pids (rec ∷ recs) =
    any-either (λ pid. record_names (Some rec) pid) (λ pid. tell_of pid (Node recs)) pids
    ∙ ap (λ b. b || list_any (λ pid. tell_of pid (Node recs)) pids) (names-one pids rec)
    ∙ ap (λ b. names_kept (is_among pids) rec || b) (tells-own pids recs)

-- ---- what records of the sessions tell

-- a record that names no session fails the test
abbrev pub IsOfSessions : (NodeRec → Bool) → Type 0
IsOfSessions test = (rec : NodeRec) → pid_of rec ≡ None → test rec ≡ false

pub opens-of : (q : Text) → IsOfSessions (opens_nsp q)
opens-of q (Start off) e = refl
opens-of q (Take off) e = refl
opens-of q (Takes off) e = refl
opens-of q (Opened pid sid nsp) e = absurd (none-some pid (sym e))
opens-of q (Join pid room) e = refl
opens-of q (Leave pid room) e = refl
opens-of q (Broke pid turn) e = refl
opens-of q (Back pid turn) e = refl
opens-of q (Gone pid) e = refl

pub grants-of : (q : Text) → IsOfSessions (grants q)
grants-of q (Start off) e = refl
grants-of q (Take off) e = refl
grants-of q (Takes off) e = refl
grants-of q (Opened pid sid nsp) e = absurd (none-some pid (sym e))
grants-of q (Join pid room) e = absurd (none-some pid (sym e))
grants-of q (Leave pid room) e = refl
grants-of q (Broke pid turn) e = refl
grants-of q (Back pid turn) e = refl
grants-of q (Gone pid) e = refl

module _ (keeps : Text → Bool) (test : NodeRec → Bool) where
  -- where no record names one of the sessions, none that does passes
  pub none-own : (recs : List NodeRec) → list_any (names_kept keeps) recs ≡ false → list_any (passes_own keeps test) recs ≡ false
  none-own [] e = refl
  none-own (rec ∷ recs) e =
      let parts = or_parts (names_kept keeps rec) (list_any (names_kept keeps) recs) e in
      ap (λ b. (b && test rec) || list_any (passes_own keeps test) recs) parts.0 ∙ none-own recs parts.1

  -- of the records that are left, those pass that name one of the sessions
  pub any-left : IsOfSessions test → (recs : List NodeRec) → list_any test (filter (keeps_record keeps) recs) ≡ list_any (passes_own keeps test) recs
  any-left named [] = refl
  any-left named (rec ∷ recs) = go (pid_of rec) refl (any-left named recs)
    where
      left : List NodeRec
      left = filter (keeps_record keeps) recs

      some : (b : Bool) → list_any test left ≡ list_any (passes_own keeps test) recs → list_any test (cond b (rec ∷ left) left) ≡ ((b && test rec) || list_any (passes_own keeps test) recs)
      some true ih = ap (λ b. test rec || b) ih
      some false ih = ih

      go : (o : Option Text) → pid_of rec ≡ o → list_any test left ≡ list_any (passes_own keeps test) recs
          → list_any test (cond (keeps_pid keeps o) (rec ∷ left) left) ≡ ((is_kept_pid keeps o && test rec) || list_any (passes_own keeps test) recs)
      go None e ih = ap (λ b. b || list_any test left) (named rec e) ∙ ih
      go (Some pid) e ih = some (keeps pid) ih
