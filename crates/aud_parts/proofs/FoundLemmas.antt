-- The records that are found are those that the part's come from.
use Rattle.std.proofs.Common.{◌≡◌, ◌<◌, ◌+◌, ℕ, zero, suc, Bool, true, false, not, cond, if◌then◌else◌, ◌&&◌, List, [], ◌∷◌, ◌++◌, length, map, drop, filter, flat_map, Option, Some, None, is_some, slice_get, slice_index, nat_lt, refl, sym, ap, ◌∙◌, subst, arith, true≢false}
use Rattle.std.specs.List.{AllByRecursion}
use Rattle.std.specs.Str.{bytes_eq}
use Rattle.std.specs.Option.{option_map_or}
use Rattle.std.proofs.lemmas.Bool.{eqb-true, ltb-true}
use Rattle.std.proofs.lemmas.List.{drop_all, length-map}
use Rattle.std.proofs.lemmas.Option.{get_or_from_slice_get, same_Some, none-some, slice_get_past}
use Rattle.aud_base.specs.Lists.{numbers_from}
use Rattle.aud_base.proofs.Lists.{element_at, drop_at}
use Rattle.aud_base.proofs.SameText.{itself_text, same_text}
use Rattle.aud_tap.specs.declared.records.StreamRec.{StreamRec}
use Rattle.aud_tap.specs.declared.records.NodeRec.{NodeRec}
use Rattle.aud_tap.specs.declared.records.NodeRec.TheVariants.{Start, Take, Takes, Opened, Join, Leave, Broke, Back, Gone}
use Rattle.aud_tap.specs.RecordFields.{pid_of}
use Rattle.aud_node.specs.Stream.{Text, position}
use Rattle.aud_node.specs.Cursors.{cursor_at, cursor_past, is_position, later_cursor, next_cursor, position_if_past, position_or}
use Rattle.aud_upgrade.specs.declared.joins.Joins.TheVariants.{TakeAndTakes}
use Rattle.aud_upgrade.specs.Upgraded.{takes_next, takes_after, took_next, joined, upgraded_at, upgraded_log}
use Rattle.aud_parts.specs.LeftOut.{keeps_record, keeps_pid}
use Rattle.aud_parts.specs.Part.{is_among}
use Rattle.aud_parts.specs.ServerLines.{own_records, own_places, keeps_at, stands, standing, places_left}
use Rattle.aud_parts.proofs.ListSteps.{all-both}
use Rattle.aud_parts.specs.Private.FoundRecords.{taken, are_same, comes_from, found}

-- ---- takes in order

-- the record takes up to the entry at the position `after`, which is past the cursor
record TakesUpTo (stream : List StreamRec) (rec : NodeRec) (cursor after : ℕ) : Type 0 where
  off : Text
  is : taken rec ≡ Some off
  stands_at : position stream off ≡ Some after
  nobody : pid_of rec ≡ None
  past : cursor < after

module _ (stream : List StreamRec) where
  at-next : (off : Text) (o : Option ℕ) (cursor : ℕ) → position stream off ≡ o → is_position o (suc cursor) ≡ true → position stream off ≡ Some (suc cursor)
  at-next off None cursor is e = absurd (true≢false (sym e))
  at-next off (Some q) cursor is e = is ∙ ap Some (eqb-true q (suc cursor) e)

  at-past : (off : Text) (o : Option ℕ) (cursor : ℕ) → position stream off ≡ o → is_some (position_if_past o cursor) ≡ true
      → (q : ℕ) × (position stream off ≡ Some q) × (cursor < q) × (position_if_past o cursor ≡ Some q)
  at-past off None cursor is e = absurd (true≢false (sym e))
  at-past off (Some q) cursor is e = go (nat_lt cursor q) refl e
    where
      go : (b : Bool) → nat_lt cursor q ≡ b → is_some (cond b (Some q) None) ≡ true → (q' : ℕ) × (position stream off ≡ Some q') × (cursor < q') × (cond (nat_lt cursor q) (Some q) None ≡ Some q')
      go true lt e = (q, is, ltb-true cursor q lt, ap (λ b. cond b (Some q) None) lt)
      go false lt e = absurd (true≢false (sym e))

  -- a record that is joined takes up to the cursor after it
  takes-later : (rec : NodeRec) (cursor : ℕ) → takes_after TakeAndTakes stream cursor (Some rec) ≡ true → TakesUpTo stream rec cursor (later_cursor stream rec cursor)
  takes-later (Start off) cursor e = absurd (true≢false (sym e))
  takes-later (Take off) cursor e =
      let is : later_cursor stream (Take off) cursor ≡ suc cursor = ap (λ b. cond b (suc cursor) cursor) e in
      record { off = off; is = refl; stands_at = at-next off (position stream off) cursor refl e ∙ ap Some (sym is); nobody = refl; past = subst (λ n. cursor < n) (sym is) (omega arith) }
  takes-later (Takes off) cursor e =
      let at = at-past off (position stream off) cursor refl e in
      let is : later_cursor stream (Takes off) cursor ≡ at.0 = ap (λ o. position_or o cursor) at.3 in
      record { off = off; is = refl; stands_at = at.1 ∙ ap Some (sym is); nobody = refl; past = subst (λ n. cursor < n) (sym is) at.2 }
  takes-later (Opened pid sid nsp) cursor e = absurd (true≢false (sym e))
  takes-later (Join pid room) cursor e = absurd (true≢false (sym e))
  takes-later (Leave pid room) cursor e = absurd (true≢false (sym e))
  takes-later (Broke pid turn) cursor e = absurd (true≢false (sym e))
  takes-later (Back pid turn) cursor e = absurd (true≢false (sym e))
  takes-later (Gone pid) cursor e = absurd (true≢false (sym e))

  -- of a record that takes it doesn't matter which number it has
  next-later : (number : ℕ) (rec : NodeRec) (cursor : ℕ) → takes_after TakeAndTakes stream cursor (Some rec) ≡ true → next_cursor stream number rec cursor ≡ later_cursor stream rec cursor
  next-later zero (Take off) cursor e = refl
  next-later zero (Takes off) cursor e = refl
  next-later (suc n) (Take off) cursor e = refl
  next-later (suc n) (Takes off) cursor e = refl
  next-later number (Start off) cursor e = absurd (true≢false (sym e))
  next-later number (Opened pid sid nsp) cursor e = absurd (true≢false (sym e))
  next-later number (Join pid room) cursor e = absurd (true≢false (sym e))
  next-later number (Leave pid room) cursor e = absurd (true≢false (sym e))
  next-later number (Broke pid turn) cursor e = absurd (true≢false (sym e))
  next-later number (Back pid turn) cursor e = absurd (true≢false (sym e))
  next-later number (Gone pid) cursor e = absurd (true≢false (sym e))

-- of takes that are joined nothing stands for one before the last
joined-none : (before : Bool) (rec : NodeRec) → joined before true true (Some rec) ≡ []
joined-none true rec = refl
joined-none false rec = refl

-- for the last one that takes up to the same entry
record Last (stream : List StreamRec) (cursor after : ℕ) (recs : List NodeRec) : Type 0 where
  own : NodeRec
  is : recs ≡ own ∷ []
  takes : TakesUpTo stream own cursor after

joined-last : (stream : List StreamRec) (before : Bool) (rec : NodeRec) (cursor after : ℕ) → TakesUpTo stream rec cursor after → Last stream cursor after (joined before true false (Some rec))
joined-last stream false rec cursor after it = record { own = rec; is = refl; takes = it }
joined-last stream true (Take off) cursor after it = record { own = Takes off; is = refl; takes = record { off = it.off; is = it.is; stands_at = it.stands_at; nobody = refl; past = it.past } }
joined-last stream true (Start off) cursor after it = record { own = Start off; is = refl; takes = it }
joined-last stream true (Takes off) cursor after it = record { own = Takes off; is = refl; takes = it }
joined-last stream true (Opened pid sid nsp) cursor after it = record { own = Opened pid sid nsp; is = refl; takes = it }
joined-last stream true (Join pid room) cursor after it = record { own = Join pid room; is = refl; takes = it }
joined-last stream true (Leave pid room) cursor after it = record { own = Leave pid room; is = refl; takes = it }
joined-last stream true (Broke pid turn) cursor after it = record { own = Broke pid turn; is = refl; takes = it }
joined-last stream true (Back pid turn) cursor after it = record { own = Back pid turn; is = refl; takes = it }
joined-last stream true (Gone pid) cursor after it = record { own = Gone pid; is = refl; takes = it }

-- ---- the walk

-- the labels of the records that those of the part can come from, one after the other
abbrev pub found_at : List ℕ → List NodeRec → List NodeRec → List ℕ
found_at labels [] part = []
found_at [] (rec ∷ recs) part = []
found_at (label ∷ labels) (rec ∷ recs) [] = []
found_at (label ∷ labels) (rec ∷ recs) (own ∷ part) =
    if comes_from own rec then label ∷ found_at labels recs part else found_at labels recs (own ∷ part)

same-text : (o : Option Text) → are_same o o ≡ true
same-text None = refl
same-text (Some text) = itself_text text

-- the record itself
comes-from-itself : (rec : NodeRec) → comes_from rec rec ≡ true
comes-from-itself rec = ap (λ b. b && are_same (pid_of rec) (pid_of rec)) (same-text (taken rec)) ∙ same-text (pid_of rec)

-- what stands for a record that isn't joined to one after it
record Stands (recs : List NodeRec) (rec : NodeRec) : Type 0 where
  own : NodeRec
  is : recs ≡ own ∷ []
  comes : comes_from own rec ≡ true
  names : pid_of own ≡ pid_of rec

stands-itself : (recs : List NodeRec) (rec : NodeRec) → recs ≡ rec ∷ [] → Stands recs rec
stands-itself recs rec is = record { own = rec; is = is; comes = comes-from-itself rec; names = refl }

joined-stands : (before here after : Bool) (rec : NodeRec) → (here && after) ≡ false → Stands (joined before here after (Some rec)) rec
joined-stands before true true rec e = absurd (true≢false e)
joined-stands true true false (Take off) e = record { own = Takes off; is = refl; comes = comes-from-itself (Take off); names = refl }
joined-stands true true false (Start off) e = stands-itself _ (Start off) refl
joined-stands true true false (Takes off) e = stands-itself _ (Takes off) refl
joined-stands true true false (Opened pid sid nsp) e = stands-itself _ (Opened pid sid nsp) refl
joined-stands true true false (Join pid room) e = stands-itself _ (Join pid room) refl
joined-stands true true false (Leave pid room) e = stands-itself _ (Leave pid room) refl
joined-stands true true false (Broke pid turn) e = stands-itself _ (Broke pid turn) refl
joined-stands true true false (Back pid turn) e = stands-itself _ (Back pid turn) refl
joined-stands true true false (Gone pid) e = stands-itself _ (Gone pid) refl
joined-stands false true false rec e = stands-itself _ rec refl
joined-stands true false after rec e = stands-itself _ rec refl
joined-stands false false after rec e = stands-itself _ rec refl

-- records that take up to entries at different positions don't come from one another
apart : (stream : List StreamRec) (own rec : NodeRec) (c a d b : ℕ) → TakesUpTo stream own c a → TakesUpTo stream rec d b → b < a → comes_from own rec ≡ false
apart stream own rec c a d b one other h =
    ap (λ o. are_same o (taken rec) && are_same (pid_of own) (pid_of rec)) one.is
    ∙ ap (λ o. are_same (Some one.off) o && are_same (pid_of own) (pid_of rec)) other.is
    ∙ ap (λ t. t && are_same (pid_of own) (pid_of rec)) (go (bytes_eq one.off other.off) refl)
  where
    go : (t : Bool) → bytes_eq one.off other.off ≡ t → bytes_eq one.off other.off ≡ false
    go false e = e
    go true e =
        let same : one.off ≡ other.off = same_text one.off other.off e in
        let at : a ≡ b = same_Some a b (sym one.stands_at ∙ ap (position stream) same ∙ other.stands_at) in
        absurd (omega (arith, h, at))

-- each of the records names nobody, or a session that is named
abbrev AreKept : (Text → Bool) → List NodeRec → Type 0
AreKept names recs = AllByRecursion (λ rec. keeps_record names rec ≡ true) recs

joined-kept : (names : Text → Bool) (before here after : Bool) (rec : NodeRec) → keeps_record names rec ≡ true → AreKept names (joined before here after (Some rec))
joined-kept names true true true rec e = tt
joined-kept names false true true rec e = tt
joined-kept names true true false (Take off) e = (refl, tt)
joined-kept names true true false (Start off) e = (refl, tt)
joined-kept names true true false (Takes off) e = (refl, tt)
joined-kept names true true false (Opened pid sid nsp) e = (e, tt)
joined-kept names true true false (Join pid room) e = (e, tt)
joined-kept names true true false (Leave pid room) e = (e, tt)
joined-kept names true true false (Broke pid turn) e = (e, tt)
joined-kept names true true false (Back pid turn) e = (e, tt)
joined-kept names true true false (Gone pid) e = (e, tt)
joined-kept names false true false rec e = (e, tt)
joined-kept names true false after rec e = (e, tt)
joined-kept names false false after rec e = (e, tt)

module _ (stream : List StreamRec) (log : List NodeRec) where
  takes-next : (number : ℕ) (rec : NodeRec) → slice_get log number ≡ Some rec → takes_next TakeAndTakes stream log number ≡ true
      → TakesUpTo stream rec (cursor_at stream log number) (cursor_at stream log (suc number))
  takes-next number rec at e =
      let cursor = cursor_at stream log number in
      let here : takes_after TakeAndTakes stream cursor (Some rec) ≡ true = ap (takes_after TakeAndTakes stream cursor) (sym at) ∙ e in
      let after : cursor_at stream log (suc number) ≡ later_cursor stream rec cursor = ap (λ o. cursor_past stream number o cursor) at ∙ next-later stream number rec cursor here in
      subst (TakesUpTo stream rec cursor) (sym after) (takes-later stream rec cursor here)

  -- what stands for so many records from this one on, and the numbers of those that stand
  abbrev from : ℕ → ℕ → List NodeRec
  from number count = flat_map (upgraded_at TakeAndTakes stream log) (numbers_from number count)

  abbrev left : ℕ → ℕ → List ℕ
  left number count = filter (stands stream log) (numbers_from number count)

  at-is : (number : ℕ) (rec : NodeRec) (here after : Bool) → slice_get log number ≡ Some rec → takes_next TakeAndTakes stream log number ≡ here → takes_next TakeAndTakes stream log (suc number) ≡ after
      → upgraded_at TakeAndTakes stream log number ≡ joined (took_next TakeAndTakes stream log number) here after (Some rec)
  at-is number rec here after at h a =
      let before = took_next TakeAndTakes stream log number in
      ap (λ o. joined before (takes_next TakeAndTakes stream log number) (takes_next TakeAndTakes stream log (suc number)) o) at
      ∙ ap (λ b. joined before b (takes_next TakeAndTakes stream log (suc number)) (Some rec)) h
      ∙ ap (λ b. joined before here b (Some rec)) a

  -- the first of these records takes past the cursor
  record Head (recs : List NodeRec) (cursor : ℕ) : Type 0 where
    own : NodeRec
    rest : List NodeRec
    is : recs ≡ own ∷ rest
    after : ℕ
    takes : TakesUpTo stream own cursor after

  head : (count number : ℕ) → number + count ≡ length log → takes_next TakeAndTakes stream log number ≡ true → Head (from number count) (cursor_at stream log number)
  head zero number whole e =
      let past : slice_get log number ≡ None = slice_get_past log number (omega (arith, whole)) in
      absurd (true≢false (sym e ∙ ap (takes_after TakeAndTakes stream (cursor_at stream log number)) past))
  head (suc count) number whole e =
      let (rec, at) = element_at log number (omega (arith, whole)) in
      go rec at (takes_next TakeAndTakes stream log (suc number)) refl (head count (suc number) (omega (arith, whole)))
    where
      go : (rec : NodeRec) → slice_get log number ≡ Some rec → (b : Bool) → takes_next TakeAndTakes stream log (suc number) ≡ b
          → (takes_next TakeAndTakes stream log (suc number) ≡ true → Head (from (suc number) count) (cursor_at stream log (suc number)))
          → Head (from number (suc count)) (cursor_at stream log number)
      go rec at true next later =
          let it = takes-next number rec at e in
          let ih = later next in
          let none : upgraded_at TakeAndTakes stream log number ≡ [] = at-is number rec true true at e next ∙ joined-none (took_next TakeAndTakes stream log number) rec in
          record {
            own = ih.own;
            rest = ih.rest;
            is = ap (λ us. us ++ from (suc number) count) none ∙ ih.is;
            after = ih.after;
            takes = record { off = ih.takes.off; is = ih.takes.is; stands_at = ih.takes.stands_at; nobody = ih.takes.nobody; past = omega (arith, it.past, ih.takes.past) };
          }
      go rec at false next later =
          let it = takes-next number rec at e in
          let last = joined-last stream (took_next TakeAndTakes stream log number) rec (cursor_at stream log number) (cursor_at stream log (suc number)) it in
          record {
            own = last.own;
            rest = from (suc number) count;
            is = ap (λ us. us ++ from (suc number) count) (at-is number rec true false at e next ∙ last.is);
            after = cursor_at stream log (suc number);
            takes = last.takes;
          }

  -- what is found from this record on
  abbrev IsFound : List ℕ → ℕ → ℕ → Type 0
  IsFound labels number count = found_at (drop number labels) (drop number log) (from number count) ≡ map (slice_index labels) (left number count)

  -- ..., where the record isn't joined to the one after it
  found-standing : (labels : List ℕ) (number count label : ℕ) (rec : NodeRec) → slice_get log number ≡ Some rec → slice_get labels number ≡ Some label
      → (takes_next TakeAndTakes stream log number && takes_next TakeAndTakes stream log (suc number)) ≡ false → IsFound labels (suc number) count → IsFound labels number (suc count)
  found-standing labels number count label rec at at_label e later =
      let here = joined-stands (took_next TakeAndTakes stream log number) (takes_next TakeAndTakes stream log number) (takes_next TakeAndTakes stream log (suc number)) rec e in
      let own : upgraded_at TakeAndTakes stream log number ≡ here.own ∷ [] = at-is number rec (takes_next TakeAndTakes stream log number) (takes_next TakeAndTakes stream log (suc number)) at refl refl ∙ here.is in
      let more = from (suc number) count in
      let stays : stands stream log number ≡ true = ap not e in
      ap (λ ls. found_at ls (drop number log) (from number (suc count))) (drop_at labels number label at_label)
      ∙ ap (λ rs. found_at (label ∷ drop (suc number) labels) rs (from number (suc count))) (drop_at log number rec at)
      ∙ ap (λ us. found_at (label ∷ drop (suc number) labels) (rec ∷ drop (suc number) log) (us ++ more)) own
      ∙ ap (λ b. cond b (label ∷ found_at (drop (suc number) labels) (drop (suc number) log) more) (found_at (drop (suc number) labels) (drop (suc number) log) (here.own ∷ more))) here.comes
      ∙ ap (λ ns. label ∷ ns) later
      ∙ ap (λ n. n ∷ map (slice_index labels) (left (suc number) count)) (sym (get_or_from_slice_get labels number label 0 at_label))
      ∙ sym (ap (λ b. map (slice_index labels) (cond b (number ∷ left (suc number) count) (left (suc number) count))) stays)

  -- ..., where it is
  found-joined : (labels : List ℕ) (number count label : ℕ) (rec : NodeRec) → number + suc count ≡ length log → slice_get log number ≡ Some rec → slice_get labels number ≡ Some label
      → takes_next TakeAndTakes stream log number ≡ true → takes_next TakeAndTakes stream log (suc number) ≡ true → IsFound labels (suc number) count → IsFound labels number (suc count)
  found-joined labels number count label rec whole at at_label e next later =
      let none : upgraded_at TakeAndTakes stream log number ≡ [] = at-is number rec true true at e next ∙ joined-none (took_next TakeAndTakes stream log number) rec in
      let same : from number (suc count) ≡ from (suc number) count = ap (λ us. us ++ from (suc number) count) none in
      let first = head count (suc number) (omega (arith, whole)) next in
      let it = takes-next number rec at e in
      let other = apart stream first.own rec (cursor_at stream log (suc number)) first.after (cursor_at stream log number) (cursor_at stream log (suc number)) first.takes it first.takes.past in
      let labels' = drop (suc number) labels in
      let recs' = drop (suc number) log in
      let goes : stands stream log number ≡ false = ap (λ b. not (b && takes_next TakeAndTakes stream log (suc number))) e ∙ ap not next in
      ap (λ ls. found_at ls (drop number log) (from number (suc count))) (drop_at labels number label at_label)
      ∙ ap (λ rs. found_at (label ∷ labels') rs (from number (suc count))) (drop_at log number rec at)
      ∙ ap (found_at (label ∷ labels') (rec ∷ recs')) (same ∙ first.is)
      ∙ ap (λ b. cond b (label ∷ found_at labels' recs' first.rest) (found_at labels' recs' (first.own ∷ first.rest))) other
      ∙ ap (found_at labels' recs') (sym first.is)
      ∙ later
      ∙ sym (ap (λ b. map (slice_index labels) (cond b (number ∷ left (suc number) count) (left (suc number) count))) goes)

  found-from : (labels : List ℕ) → length labels ≡ length log → (count number : ℕ) → number + count ≡ length log → IsFound labels number count
  found-from labels same zero number whole =
      ap (λ rs. found_at (drop number labels) rs []) (drop_all number log (omega (arith, whole)))
  found-from labels same (suc count) number whole =
      let (rec, at) = element_at log number (omega (arith, whole)) in
      let (label, at_label) = element_at labels number (omega (arith, whole, same)) in
      go rec label at at_label (takes_next TakeAndTakes stream log number) refl (takes_next TakeAndTakes stream log (suc number)) refl (found-from labels same count (suc number) (omega (arith, whole)))
    where
      go : (rec : NodeRec) (label : ℕ) → slice_get log number ≡ Some rec → slice_get labels number ≡ Some label
          → (here : Bool) → takes_next TakeAndTakes stream log number ≡ here → (after : Bool) → takes_next TakeAndTakes stream log (suc number) ≡ after
          → IsFound labels (suc number) count → IsFound labels number (suc count)
      go rec label at at_label true e true next later = found-joined labels number count label rec whole at at_label e next later
      go rec label at at_label true e false next later =
          found-standing labels number count label rec at at_label (ap (λ b. b && takes_next TakeAndTakes stream log (suc number)) e ∙ next) later
      go rec label at at_label false e after next later =
          found-standing labels number count label rec at at_label (ap (λ b. b && takes_next TakeAndTakes stream log (suc number)) e) later

  -- ---- how many there are, and of whom

  -- as many records stand as there are numbers of them
  count-from : (count number : ℕ) → number + count ≡ length log → length (from number count) ≡ length (left number count)
  count-from zero number whole = refl
  count-from (suc count) number whole =
      let (rec, at) = element_at log number (omega (arith, whole)) in
      go rec at (takes_next TakeAndTakes stream log number) refl (takes_next TakeAndTakes stream log (suc number)) refl (count-from count (suc number) (omega (arith, whole)))
    where
      one : (rec : NodeRec) → slice_get log number ≡ Some rec → (takes_next TakeAndTakes stream log number && takes_next TakeAndTakes stream log (suc number)) ≡ false
          → length (from (suc number) count) ≡ length (left (suc number) count) → length (from number (suc count)) ≡ length (left number (suc count))
      one rec at e ih =
          let here = joined-stands (took_next TakeAndTakes stream log number) (takes_next TakeAndTakes stream log number) (takes_next TakeAndTakes stream log (suc number)) rec e in
          let own : upgraded_at TakeAndTakes stream log number ≡ here.own ∷ [] = at-is number rec (takes_next TakeAndTakes stream log number) (takes_next TakeAndTakes stream log (suc number)) at refl refl ∙ here.is in
          ap (λ us. length (us ++ from (suc number) count)) own ∙ ap suc ih
          ∙ sym (ap (λ b. length (cond b (number ∷ left (suc number) count) (left (suc number) count))) (ap not e))

      go : (rec : NodeRec) → slice_get log number ≡ Some rec → (here : Bool) → takes_next TakeAndTakes stream log number ≡ here → (after : Bool) → takes_next TakeAndTakes stream log (suc number) ≡ after
          → length (from (suc number) count) ≡ length (left (suc number) count) → length (from number (suc count)) ≡ length (left number (suc count))
      go rec at true e true next ih =
          let none : upgraded_at TakeAndTakes stream log number ≡ [] = at-is number rec true true at e next ∙ joined-none (took_next TakeAndTakes stream log number) rec in
          let goes : stands stream log number ≡ false = ap (λ b. not (b && takes_next TakeAndTakes stream log (suc number))) e ∙ ap not next in
          ap (λ us. length (us ++ from (suc number) count)) none ∙ ih
          ∙ sym (ap (λ b. length (cond b (number ∷ left (suc number) count) (left (suc number) count))) goes)
      go rec at true e false next ih = one rec at (ap (λ b. b && takes_next TakeAndTakes stream log (suc number)) e ∙ next) ih
      go rec at false e after next ih = one rec at (ap (λ b. b && takes_next TakeAndTakes stream log (suc number)) e) ih

  -- where the log's records are of these sessions, so are those that stand
  keep-from : (names : Text → Bool) → ((number : ℕ) (rec : NodeRec) → slice_get log number ≡ Some rec → keeps_record names rec ≡ true)
      → (count number : ℕ) → number + count ≡ length log → AreKept names (from number count)
  keep-from names kept zero number whole = tt
  keep-from names kept (suc count) number whole =
      let (rec, at) = element_at log number (omega (arith, whole)) in
      let here = takes_next TakeAndTakes stream log number in
      let after = takes_next TakeAndTakes stream log (suc number) in
      let own : upgraded_at TakeAndTakes stream log number ≡ joined (took_next TakeAndTakes stream log number) here after (Some rec) = at-is number rec here after at refl refl in
      all-both (λ rec. keeps_record names rec ≡ true) (upgraded_at TakeAndTakes stream log number) (from (suc number) count)
      (subst (AreKept names) (sym own) (joined-kept names (took_next TakeAndTakes stream log number) here after rec (kept number rec at)))
      (keep-from names kept count (suc number) (omega (arith, whole)))

-- ---- records of other sessions

-- the labels of the records that are kept
abbrev chosen : (NodeRec → Bool) → List ℕ → List NodeRec → List ℕ
chosen keeps labels [] = []
chosen keeps [] (rec ∷ recs) = []
chosen keeps (label ∷ labels) (rec ∷ recs) = if keeps rec then label ∷ chosen keeps labels recs else chosen keeps labels recs

and-false : (b : Bool) → (b && false) ≡ false
and-false true = refl
and-false false = refl

found-no_labels : (recs part : List NodeRec) → found_at [] recs part ≡ []
found-no_labels [] part = refl
found-no_labels (rec ∷ recs) part = refl

found-no_part : (labels : List ℕ) (recs : List NodeRec) → found_at labels recs [] ≡ []
found-no_part labels [] = refl
found-no_part [] (rec ∷ recs) = refl
found-no_part (label ∷ labels) (rec ∷ recs) = refl

module _ (names : Text → Bool) where
  -- a record of another session is none from which one that is kept comes
  other-session : (own rec : NodeRec) → keeps_record names own ≡ true → keeps_record names rec ≡ false → comes_from own rec ≡ false
  other-session own rec kept other = ap (λ b. are_same (taken own) (taken rec) && b) (go (pid_of own) (pid_of rec) kept other) ∙ and-false (are_same (taken own) (taken rec))
    where
      texts : (one two : Text) → names one ≡ true → names two ≡ false → (b : Bool) → bytes_eq one two ≡ b → bytes_eq one two ≡ false
      texts one two k n true e = absurd (true≢false (sym k ∙ ap names (same_text one two e) ∙ n))
      texts one two k n false e = e

      go : (one two : Option Text) → keeps_pid names one ≡ true → keeps_pid names two ≡ false → are_same one two ≡ false
      go one None k n = absurd (true≢false n)
      go None (Some two) k n = refl
      go (Some one) (Some two) k n = texts one two k n (bytes_eq one two) refl

  found-kept : (labels : List ℕ) (recs part : List NodeRec) → AreKept names part
      → found_at labels recs part ≡ found_at (chosen (keeps_record names) labels recs) (filter (keeps_record names) recs) part
  found-kept labels [] part kept = refl
  found-kept [] (rec ∷ recs) part kept = sym (found-no_labels (filter (keeps_record names) (rec ∷ recs)) part)
  found-kept (label ∷ labels) (rec ∷ recs) [] kept = sym (found-no_part (chosen (keeps_record names) (label ∷ labels) (rec ∷ recs)) (filter (keeps_record names) (rec ∷ recs)))
  found-kept (label ∷ labels) (rec ∷ recs) (own ∷ part) kept =
      go (keeps_record names rec) refl (found-kept labels recs part kept.1) (found-kept labels recs (own ∷ part) kept)
    where
      ls : List ℕ
      ls = chosen (keeps_record names) labels recs

      rs : List NodeRec
      rs = filter (keeps_record names) recs

      go : (b : Bool) → keeps_record names rec ≡ b → found_at labels recs part ≡ found_at ls rs part → found_at labels recs (own ∷ part) ≡ found_at ls rs (own ∷ part)
          → cond (comes_from own rec) (label ∷ found_at labels recs part) (found_at labels recs (own ∷ part)) ≡ found_at (cond b (label ∷ ls) ls) (cond b (rec ∷ rs) rs) (own ∷ part)
      go true e one other = ap (λ x. cond (comes_from own rec) (label ∷ x) (found_at labels recs (own ∷ part))) one ∙ ap (cond (comes_from own rec) (label ∷ found_at ls rs part)) other
      go false e one other = ap (λ b. cond b (label ∷ found_at labels recs part) (found_at labels recs (own ∷ part))) (other-session own rec kept.0 e) ∙ other

-- ---- the places

-- what is found is found by its places
found-places : (recs part : List NodeRec) (place : ℕ) → found place recs part ≡ found_at (numbers_from place (length recs)) recs part
found-places [] part place = refl
found-places (rec ∷ recs) [] place = refl
found-places (rec ∷ recs) (own ∷ part) place =
    ap (λ ns. cond (comes_from own rec) (place ∷ ns) (found (suc place) recs (own ∷ part))) (found-places recs part (suc place))
    ∙ ap (cond (comes_from own rec) (place ∷ found_at (numbers_from (suc place) (length recs)) recs part)) (found-places recs (own ∷ part) (suc place))

-- the places of the records that are kept
chosen-places : (pids : List Text) (log recs : List NodeRec) (place : ℕ) → ((k : ℕ) → slice_get recs k ≡ slice_get log (place + k))
    → chosen (keeps_record (is_among pids)) (numbers_from place (length recs)) recs ≡ filter (keeps_at pids log) (numbers_from place (length recs))
chosen-places pids log [] place at = refl
chosen-places pids log (rec ∷ recs) place at =
    let same : place + 0 ≡ place = omega arith in
    let here : keeps_record (is_among pids) rec ≡ keeps_at pids log place = ap (λ o. option_map_or (keeps_record (is_among pids)) o false) (at 0 ∙ ap (slice_get log) same) in
    let more : (k : ℕ) → slice_get recs k ≡ slice_get log (suc place + k) = λ k. at (suc k) ∙ ap (slice_get log) (omega arith) in
    let rest = chosen-places pids log recs (suc place) more in
    ap (λ b. cond b (place ∷ chosen (keeps_record (is_among pids)) (numbers_from (suc place) (length recs)) recs) (chosen (keeps_record (is_among pids)) (numbers_from (suc place) (length recs)) recs)) here
    ∙ ap (λ ns. cond (keeps_at pids log place) (place ∷ ns) ns) rest

-- as many labels as records that are kept
chosen-count : (keeps : NodeRec → Bool) (recs : List NodeRec) (place : ℕ) → length (chosen keeps (numbers_from place (length recs)) recs) ≡ length (filter keeps recs)
chosen-count keeps [] place = refl
chosen-count keeps (rec ∷ recs) place = go (keeps rec) (chosen-count keeps recs (suc place))
  where
    ns : List ℕ
    ns = chosen keeps (numbers_from (suc place) (length recs)) recs

    go : (b : Bool) → length ns ≡ length (filter keeps recs) → length (cond b (place ∷ ns) ns) ≡ length (cond b (rec ∷ filter keeps recs) (filter keeps recs))
    go true ih = ap suc ih
    go false ih = ih

-- each record that is kept passes
filter-passes : {X : Type 0} (p : X → Bool) (xs : List X) (k : ℕ) (x : X) → slice_get (filter p xs) k ≡ Some x → p x ≡ true
filter-passes p [] k x at = absurd (none-some x at)
filter-passes p (y ∷ ys) k x at = go (p y) refl k at (λ j. filter-passes p ys j x)
  where
    go : (b : Bool) → p y ≡ b → (j : ℕ) → slice_get (cond b (y ∷ filter p ys) (filter p ys)) j ≡ Some x → ((i : ℕ) → slice_get (filter p ys) i ≡ Some x → p x ≡ true) → p x ≡ true
    go true e zero at ih = ap p (sym (same_Some y x at)) ∙ e
    go true e (suc j) at ih = ih j at
    go false e j at ih = ih j at

-- the records that are found are those that the part's come from
pub found-left : (pids : List Text) (stream : List StreamRec) (log part : List NodeRec) → part ≡ upgraded_log TakeAndTakes stream (own_records pids log)
    → found 0 log part ≡ places_left pids stream log
found-left pids stream log part is =
    let own = own_records pids log in
    let names = is_among pids in
    let kept = keep-from stream own names (λ k rec at. filter-passes (keeps_record names) log k rec at) (length own) 0 (omega arith) in
    let places = chosen-places pids log log 0 (λ k. ap (slice_get log) (omega arith)) in
    let same : length (own_places pids log) ≡ length own = ap length (sym places) ∙ chosen-count (keeps_record names) log 0 in
    ap (found 0 log) is
    ∙ found-places log (upgraded_log TakeAndTakes stream own) 0
    ∙ found-kept names (numbers_from 0 (length log)) log (upgraded_log TakeAndTakes stream own) kept
    ∙ ap (λ ns. found_at ns own (upgraded_log TakeAndTakes stream own)) places
    ∙ found-from stream own (own_places pids log) same (length own) 0 (omega arith)

-- as many as the part has
pub count-left : (pids : List Text) (stream : List StreamRec) (log part : List NodeRec) → part ≡ upgraded_log TakeAndTakes stream (own_records pids log)
    → length (places_left pids stream log) ≡ length part
count-left pids stream log part is =
    let own = own_records pids log in
    length-map (standing stream own) (slice_index (own_places pids log)) ∙ sym (ap length is ∙ count-from stream own (length own) 0 (omega arith))
