-- Turns of logs that differ in how they write their takes alone.
use Rattle.std.proofs.Common.{◌≡◌, ℕ, Bool, true, false, cond, List, [], ◌∷◌, ◌++◌, ◌⊎◌, inl, inr, Some, None, append-nil, append_assoc, nat_eq, refl, sym, ap, subst, ◌∙◌, true≢false}
use Rattle.std.specs.Str.{bytes_eq}
use Rattle.aud_tap.specs.declared.records.StreamRec.{StreamRec}
use Rattle.aud_tap.specs.declared.records.NodeRec.{NodeRec}
use Rattle.aud_tap.specs.declared.records.NodeRec.TheVariants.{Start, Take, Takes, Opened, Join, Leave, Broke, Back, Gone}
use Rattle.aud_node.specs.Stream.{Text}
use Rattle.aud_node.specs.Cursors.{next_cursor}
use Rattle.aud_rooms.specs.Turns.{Part, Inner, Last, Foreign, End, ByLog, ByBreak, ByGone, part_of, end_past, turn_end}
use Rattle.aud_upgrade.specs.Private.Told.{is_taking, told, told_at, cursor_over}
use Rattle.aud_upgrade.specs.Private.Alike.{AreAlike, Matched, Turned, AreInner, AreToldInner, EndsByLast}
use Rattle.aud_upgrade.proofs.ToldLemmas.{parted}

module _ (stream : List StreamRec) where
  -- the cursor after all, by way of one of the records
  pub over-append : (number cursor : ℕ) (front : List NodeRec) (rec : NodeRec) (back : List NodeRec)
      → cursor_over stream number cursor (front ++ rec ∷ back) ≡ cursor_over stream 1 (cursor_over stream number cursor (front ++ rec ∷ [])) back
  over-append number cursor [] rec back = refl
  over-append number cursor (x ∷ front) rec back = over-append 1 (next_cursor stream number x cursor) front rec back

  -- what is told before and after a record that takes nothing
  pub told-append : (number cursor : ℕ) (front : List NodeRec) (rec : NodeRec) (back : List NodeRec) → is_taking rec ≡ false
      → told stream number cursor (front ++ rec ∷ back)
      ≡ told stream number cursor front ++ record { rec = rec; cursor = cursor_over stream number cursor (front ++ rec ∷ []) } ∷ told stream 1 (cursor_over stream number cursor (front ++ rec ∷ [])) back
  told-append number cursor [] rec back quiet = rw quiet refl
  told-append number cursor (x ∷ front) rec back quiet = go (is_taking x) (told-append 1 (next_cursor stream number x cursor) front rec back quiet)
    where
      after : ℕ
      after = next_cursor stream number x cursor

      end : ℕ
      end = cursor_over stream 1 after (front ++ rec ∷ [])

      go : (b : Bool) → told stream 1 after (front ++ rec ∷ back) ≡ told stream 1 after front ++ record { rec = rec; cursor = end } ∷ told stream 1 end back
          → cond b (told stream 1 after (front ++ rec ∷ back)) (told_at stream number cursor x ∷ told stream 1 after (front ++ rec ∷ back))
          ≡ cond b (told stream 1 after front) (told_at stream number cursor x ∷ told stream 1 after front) ++ record { rec = rec; cursor = end } ∷ told stream 1 end back
      go true ih = ih
      go false ih = ap (λ ts. told_at stream number cursor x ∷ ts) ih

  -- a record that takes nothing has its match in a log that is alike
  pub matched : (number cursor : ℕ) (front : List NodeRec) (rec : NodeRec) (back : List NodeRec) (number' cursor' : ℕ) (log' : List NodeRec) → is_taking rec ≡ false
      → AreAlike stream number cursor (front ++ rec ∷ back) number' cursor' log' → Matched stream number cursor front rec back number' cursor' log'
  matched number cursor front rec back number' cursor' log' quiet alike =
      let end = cursor_over stream number cursor (front ++ rec ∷ []) in
      let p = parted stream number' cursor' log' (told stream number cursor front) (record { rec = rec; cursor = end }) (told stream 1 end back)
      (sym alike.tells ∙ told-append number cursor front rec back quiet) in
      record {
        front' = p.front;
        back' = p.back;
        is = p.is;
        fronts = sym p.fronts;
        here = p.here;
        backs = record { tells = sym p.backs; ends = sym (p.end ∙ sym alike.ends ∙ over-append number cursor front rec back) };
      }

module _ (pid : Text) (k : ℕ) where
  -- a record that takes entries stands inside a turn
  taking-inner : (rec : NodeRec) → is_taking rec ≡ true → part_of pid k rec ≡ Inner
  taking-inner (Start off) e = absurd (true≢false (sym e))
  taking-inner (Take off) e = refl
  taking-inner (Takes off) e = refl
  taking-inner (Opened other sid nsp) e = absurd (true≢false (sym e))
  taking-inner (Join other room) e = absurd (true≢false (sym e))
  taking-inner (Leave other room) e = absurd (true≢false (sym e))
  taking-inner (Broke other turn) e = absurd (true≢false (sym e))
  taking-inner (Back other turn) e = absurd (true≢false (sym e))
  taking-inner (Gone other) e = absurd (true≢false (sym e))

  -- a turn's last record takes nothing
  last-quiet : (rec : NodeRec) (end : End) → part_of pid k rec ≡ Last end → is_taking rec ≡ false
  last-quiet (Take off) end e = cc
  last-quiet (Takes off) end e = cc
  last-quiet (Start off) end e = refl
  last-quiet (Opened other sid nsp) end e = refl
  last-quiet (Join other room) end e = refl
  last-quiet (Leave other room) end e = refl
  last-quiet (Broke other turn) end e = refl
  last-quiet (Back other turn) end e = refl
  last-quiet (Gone other) end e = refl

  -- where all records stand inside, turn k goes on to the log's end
  pub inner-end : (recs : List NodeRec) → AreInner pid k recs → turn_end pid k recs ≡ Some ByLog
  inner-end [] inner = refl
  inner-end (rec ∷ recs) inner = ap (λ p. end_past p recs (turn_end pid k recs)) inner.0 ∙ inner-end recs inner.1

  -- the last record ends turn k
  pub last-end : (inner : List NodeRec) (last : NodeRec) (end : End) → AreInner pid k inner → part_of pid k last ≡ Last end → turn_end pid k (inner ++ last ∷ []) ≡ Some end
  last-end [] last end inner is = ap (λ p. end_past p [] (Some ByLog)) is
  last-end (rec ∷ recs) last end inner is = ap (λ p. end_past p (recs ++ last ∷ []) (turn_end pid k (recs ++ last ∷ []))) inner.0 ∙ last-end recs last end inner.1 is

  -- how a turn ends: with all inside, or by the last record
  pub ends_how : (recs : List NodeRec) (end : End) → turn_end pid k recs ≡ Some end → ((end ≡ ByLog) × AreInner pid k recs) ⊎ EndsByLast pid k recs end
  ends_how [] end e = inl ((let same : ByLog ≡ end = cc in sym same), tt)
  ends_how (rec ∷ recs) end e = go (part_of pid k rec) refl recs (ends_how recs end) e
    where
      go : (p : Part) → part_of pid k rec ≡ p → (recs : List NodeRec) → (turn_end pid k recs ≡ Some end → ((end ≡ ByLog) × AreInner pid k recs) ⊎ EndsByLast pid k recs end)
          → end_past p recs (turn_end pid k recs) ≡ Some end → ((end ≡ ByLog) × AreInner pid k (rec ∷ recs)) ⊎ EndsByLast pid k (rec ∷ recs) end
      go Inner is recs ih e = further (ih e)
        where
          further : ((end ≡ ByLog) × AreInner pid k recs) ⊎ EndsByLast pid k recs end → ((end ≡ ByLog) × AreInner pid k (rec ∷ recs)) ⊎ EndsByLast pid k (rec ∷ recs) end
          further (inl all) = inl (all.0, (is, all.1))
          further (inr l) = inr (record { inner = rec ∷ l.inner; last = l.last; is = ap (λ xs. rec ∷ xs) l.is; are_inner = (is, l.are_inner); is_last = l.is_last })
      go (Last last) is [] ih e = inr (record { inner = []; last = rec; is = refl; are_inner = tt; is_last = is ∙ (let same : last ≡ end = cc in ap Last same) })
      go (Last last) is (x ∷ xs) ih e = absurd (let no : None ≡ Some end = e in cc)
      go Foreign is recs ih e = absurd (let no : None ≡ Some end = e in cc)

  module _ (stream : List StreamRec) where
    -- whether all stand inside shows in what is told
    pub told-inner : (number cursor : ℕ) (recs : List NodeRec) → AreInner pid k recs → AreToldInner pid k (told stream number cursor recs)
    told-inner number cursor [] inner = tt
    told-inner number cursor (rec ∷ recs) inner = go (is_taking rec) (told-inner 1 (next_cursor stream number rec cursor) recs inner.1)
      where
        go : (b : Bool) → AreToldInner pid k (told stream 1 (next_cursor stream number rec cursor) recs)
            → AreToldInner pid k (cond b (told stream 1 (next_cursor stream number rec cursor) recs) (told_at stream number cursor rec ∷ told stream 1 (next_cursor stream number rec cursor) recs))
        go true ih = ih
        go false ih = (inner.0, ih)

    pub inner-told : (number cursor : ℕ) (recs : List NodeRec) → AreToldInner pid k (told stream number cursor recs) → AreInner pid k recs
    inner-told number cursor [] inner = tt
    inner-told number cursor (rec ∷ recs) inner = go (is_taking rec) refl (inner-told 1 (next_cursor stream number rec cursor) recs) inner
      where
        go : (b : Bool) → is_taking rec ≡ b → (AreToldInner pid k (told stream 1 (next_cursor stream number rec cursor) recs) → AreInner pid k recs)
            → AreToldInner pid k (cond b (told stream 1 (next_cursor stream number rec cursor) recs) (told_at stream number cursor rec ∷ told stream 1 (next_cursor stream number rec cursor) recs))
            → AreInner pid k (rec ∷ recs)
        go true taking ih inner = (taking-inner rec taking, ih inner)
        go false quiet ih inner = (inner.0, ih inner.1)

  -- no record ends a turn as the log's end does
  log-ends : (rec : NodeRec) → part_of pid k rec ≡ Last ByLog → ⊥
  log-ends (Start off) e = cc
  log-ends (Take off) e = cc
  log-ends (Takes off) e = cc
  log-ends (Opened other sid nsp) e = elim (bytes_eq other pid) as (λ b. cond b Foreign Inner ≡ Last ByLog → ⊥) [ true ↦ (λ e. cc) | false ↦ (λ e. cc) ] e
  log-ends (Join other room) e = cc
  log-ends (Leave other room) e = cc
  log-ends (Broke other number) e =
      elim (bytes_eq other pid) as (λ b. cond b (cond (nat_eq number k) (Last ByBreak) Foreign) Inner ≡ Last ByLog → ⊥) [
        | true ↦ elim (nat_eq number k) as (λ b. cond b (Last ByBreak) Foreign ≡ Last ByLog → ⊥) [ true ↦ (λ e. cc) | false ↦ (λ e. cc) ]
        | false ↦ (λ e. cc)
      ] e
  log-ends (Back other turn) e = elim (bytes_eq other pid) as (λ b. cond b Foreign Inner ≡ Last ByLog → ⊥) [ true ↦ (λ e. cc) | false ↦ (λ e. cc) ] e
  log-ends (Gone other) e = elim (bytes_eq other pid) as (λ b. cond b (Last ByGone) Inner ≡ Last ByLog → ⊥) [ true ↦ (λ e. cc) | false ↦ (λ e. cc) ] e

  -- a turn has its match in a log that is alike
  pub turned : (stream : List StreamRec) (front : List NodeRec) (first : NodeRec) (rest back : List NodeRec) (end : End) (log' : List NodeRec) → is_taking first ≡ false
      → AreAlike stream 0 0 (front ++ first ∷ (rest ++ back)) 0 0 log' → turn_end pid k rest ≡ Some end → (end ≡ ByLog → back ≡ []) → Turned stream pid k front first rest end log'
  turned stream front first rest back end log' quiet alike ends whole = go (ends_how rest end ends)
    where
      low : ℕ
      low = cursor_over stream 0 0 (front ++ first ∷ [])

      m : Matched stream 0 0 front first (rest ++ back) 0 0 log'
      m = matched stream 0 0 front first (rest ++ back) 0 0 log' quiet alike

      go : ((end ≡ ByLog) × AreInner pid k rest) ⊎ EndsByLast pid k rest end → Turned stream pid k front first rest end log'
      go (inl all) =
          let same : rest ++ back ≡ rest = ap (λ xs. rest ++ xs) (whole all.0) ∙ append-nil rest in
          let rests : AreAlike stream 1 low rest 1 low m.back' = subst (λ xs. AreAlike stream 1 low xs 1 low m.back') same m.backs in
          let inner = inner-told stream 1 low m.back' (subst (AreToldInner pid k) rests.tells (told-inner stream 1 low rest all.1)) in
          record {
            front' = m.front';
            rest' = m.back';
            back' = [];
            is = m.is ∙ ap (λ xs. m.front' ++ first ∷ xs) (sym (append-nil m.back'));
            fronts = m.fronts;
            here = m.here;
            rests = rests;
            ends = inner-end m.back' inner ∙ ap Some (sym all.0);
            whole = λ _. refl;
          }
      go (inr l) =
          let last = l.last in
          let same : rest ++ back ≡ l.inner ++ last ∷ back = ap (λ xs. xs ++ back) l.is ∙ append_assoc l.inner (last ∷ []) back in
          let backs : AreAlike stream 1 low (l.inner ++ last ∷ back) 1 low m.back' = subst (λ xs. AreAlike stream 1 low xs 1 low m.back') same m.backs in
          let n : Matched stream 1 low l.inner last back 1 low m.back' = matched stream 1 low l.inner last back 1 low m.back' (last-quiet last end l.is_last) backs in
          let inner = inner-told stream 1 low n.front' (subst (AreToldInner pid k) n.fronts (told-inner stream 1 low l.inner l.are_inner)) in
          let quiet' = last-quiet last end l.is_last in
          record {
            front' = m.front';
            rest' = n.front' ++ last ∷ [];
            back' = n.back';
            is = m.is ∙ ap (λ xs. m.front' ++ first ∷ xs) (n.is ∙ sym (append_assoc n.front' (last ∷ []) n.back'));
            fronts = m.fronts;
            here = m.here;
            rests = record {
              tells =
                  ap (told stream 1 low) l.is
                  ∙ told-append stream 1 low l.inner last [] quiet'
                  ∙ ap (λ ts. ts ++ record { rec = last; cursor = cursor_over stream 1 low (l.inner ++ last ∷ []) } ∷ []) n.fronts
                  ∙ ap (λ c. told stream 1 low n.front' ++ record { rec = last; cursor = c } ∷ []) (sym n.here)
                  ∙ sym (told-append stream 1 low n.front' last [] quiet');
              ends = ap (cursor_over stream 1 low) l.is ∙ sym n.here;
            };
            ends = last-end n.front' last end inner l.is_last;
            whole = λ e. absurd (log-ends last (l.is_last ∙ ap Last e));
          }
