-- A node's log and the one that it is upgraded to are alike.
use Rattle.std.proofs.Common.{◌≡◌, ◌<◌, ◌≤◌, ◌+◌, ◌&&◌, ℕ, zero, suc, Bool, true, false, cond, List, [], ◌∷◌, ◌++◌, length, flat_map, drop, Option, Some, None, is_some, slice_get, nat_lt, refl, sym, ap, subst, ◌∙◌, arith, true≢false}
use Rattle.std.specs.List.{list_all}
use Rattle.std.proofs.lemmas.List.{drop_all}
use Rattle.std.proofs.lemmas.Option.{slice_get_past}
use Rattle.std.proofs.lemmas.Bool.{and_parts}
use Rattle.std.proofs.lemmas.Bool.Decides.{nat_tests}
use Rattle.aud_tap.specs.declared.records.StreamRec.{StreamRec}
use Rattle.aud_tap.specs.declared.records.NodeRec.{NodeRec}
use Rattle.aud_tap.specs.declared.records.NodeRec.TheVariants.{Start, Take, Takes, Opened, Join, Leave, Broke, Back, Gone}
use Rattle.aud_base.proofs.Lists.{element_at, drop_at}
use Rattle.aud_node.specs.Lists.{numbers_from}
use Rattle.aud_node.specs.Stream.{Text, position}
use Rattle.aud_node.specs.Cursors.{is_position, position_if_past, next_cursor, cursor_past, cursor_at}
use Rattle.aud_node.specs.Ordered.{is_in_order, is_some_in_order, is_ordered}
use Rattle.aud_upgrade.specs.declared.joins.Joins.{Joins}
use Rattle.aud_upgrade.specs.Upgraded.{joins_takes, takes_after, takes_next, took_next, joined, upgraded_at, upgraded_log}
use Rattle.aud_upgrade.specs.Private.Told.{is_taking, told, told_at, cursor_over, ordered_over}
use Rattle.aud_upgrade.specs.Private.Alike.{AreAlike}
use Rattle.aud_upgrade.proofs.ListLemmas.{later}

-- 0 for the first record, and 1 for the others
abbrev first_or_later : ℕ → ℕ
first_or_later zero = 0
first_or_later (suc number) = 1

abbrev is_later : ℕ → Bool
is_later zero = false
is_later (suc number) = true

later-is : (i : ℕ) → is_later (first_or_later i) ≡ is_later i
later-is zero = refl
later-is (suc i) = refl

-- what takes entries past the cursor, and is joined
record TakesNext (stream : List StreamRec) (cursor : ℕ) (rec : NodeRec) : Type 0 where
  off : Text
  place : ℕ
  at : position stream off ≡ Some place
  past : cursor < place
  taking : is_taking rec ≡ true
  stands : joined true true false (Some rec) ≡ Takes off ∷ []
  moves : (n : ℕ) → next_cursor stream n rec cursor ≡ place
  orders : (i : ℕ) → is_in_order stream (first_or_later i) cursor rec ≡ is_later i

-- a position past the cursor
record IsPast (o : Option ℕ) (cursor : ℕ) : Type 0 where
  place : ℕ
  at : o ≡ Some place
  past : cursor < place

module _ (stream : List StreamRec) where
  at_position : (p : Option ℕ) (q : ℕ) → is_position p q ≡ true → p ≡ Some q
  at_position None q e = absurd (true≢false (sym e))
  at_position (Some p) q e = ap Some (grind (arith, nat_tests, e))

  is_position-same : (q : ℕ) → is_position (Some q) q ≡ true
  is_position-same q = grind (arith, nat_tests)

  -- the cursor after a take of the next entry
  cursor-take : (n cursor : ℕ) (off : Text) → position stream off ≡ Some (suc cursor) → next_cursor stream n (Take off) cursor ≡ suc cursor
  cursor-take zero cursor off e = rw e (rw (is_position-same (suc cursor)) refl)
  cursor-take (suc n) cursor off e = rw e (rw (is_position-same (suc cursor)) refl)

  order-take : (i cursor : ℕ) (off : Text) → position stream off ≡ Some (suc cursor) → is_in_order stream (first_or_later i) cursor (Take off) ≡ is_later i
  order-take zero cursor off e = refl
  order-take (suc i) cursor off e = rw e (is_position-same (suc cursor))

  -- a position that stands for one past the cursor is one
  is-past : (o : Option ℕ) (cursor : ℕ) → is_some (position_if_past o cursor) ≡ true → IsPast o cursor
  is-past None cursor e = absurd (true≢false (sym e))
  is-past (Some q) cursor e = go (nat_lt cursor q) refl e
    where
      go : (b : Bool) → nat_lt cursor q ≡ b → is_some (cond b (Some q) None) ≡ true → IsPast (Some q) cursor
      go true less e = record { place = q; at = refl; past = grind (arith, nat_tests, less) }
      go false less e = absurd (true≢false (sym e))

  past : (cursor place : ℕ) → cursor < place → position_if_past (Some place) cursor ≡ Some place
  past cursor place h = let less : nat_lt cursor place ≡ true = grind (arith, nat_tests, h) in rw less refl

  -- the cursor after one that takes up to a position past it
  cursor-takes : (n cursor place : ℕ) (off : Text) → cursor < place → position stream off ≡ Some place → next_cursor stream n (Takes off) cursor ≡ place
  cursor-takes zero cursor place off h e = rw e (rw (past cursor place h) refl)
  cursor-takes (suc n) cursor place off h e = rw e (rw (past cursor place h) refl)

  order-takes : (n cursor place : ℕ) (off : Text) → cursor < place → position stream off ≡ Some place → is_in_order stream n cursor (Takes off) ≡ is_later n
  order-takes zero cursor place off h e = refl
  order-takes (suc n) cursor place off h e = rw e (rw (past cursor place h) refl)

  takes-next : (joins : Joins) (cursor : ℕ) (rec : NodeRec) → takes_after joins stream cursor (Some rec) ≡ true → TakesNext stream cursor rec
  takes-next joins cursor (Take off) e =
      let at : position stream off ≡ Some (suc cursor) = at_position (position stream off) (suc cursor) e in
      record {
        off = off;
        place = suc cursor;
        at = at;
        past = omega arith;
        taking = refl;
        stands = refl;
        moves = λ n. cursor-take n cursor off at;
        orders = λ i. order-take i cursor off at;
      }
  takes-next joins cursor (Takes off) e =
      let p = is-past (position stream off) cursor (and_parts (joins_takes joins) (is_some (position_if_past (position stream off) cursor)) e).1 in
      record {
        off = off;
        place = p.place;
        at = p.at;
        past = p.past;
        taking = refl;
        stands = refl;
        moves = λ n. cursor-takes n cursor p.place off p.past p.at;
        orders = λ i. order-takes (first_or_later i) cursor p.place off p.past p.at ∙ later-is i;
      }
  takes-next joins cursor (Start off) e = absurd (true≢false (sym e))
  takes-next joins cursor (Opened other sid nsp) e = absurd (true≢false (sym e))
  takes-next joins cursor (Join other room) e = absurd (true≢false (sym e))
  takes-next joins cursor (Leave other room) e = absurd (true≢false (sym e))
  takes-next joins cursor (Broke other turn) e = absurd (true≢false (sym e))
  takes-next joins cursor (Back other turn) e = absurd (true≢false (sym e))
  takes-next joins cursor (Gone other) e = absurd (true≢false (sym e))

  -- the cursor after a record
  cursor-next : (log : List NodeRec) (i : ℕ) (rec : NodeRec) → slice_get log i ≡ Some rec → next_cursor stream (first_or_later i) rec (cursor_at stream log i) ≡ cursor_at stream log (suc i)
  cursor-next log zero rec at = sym (ap (λ o. cursor_past stream 0 o 0) at)
  cursor-next log (suc i) rec at = sym (ap (λ o. cursor_past stream (suc i) o (cursor_at stream log (suc i))) at ∙ later stream i rec (cursor_at stream log (suc i)))

  module _ (joins : Joins) (log : List NodeRec) where
    abbrev cursor : ℕ → ℕ
    cursor i = cursor_at stream log i

    abbrev tail : ℕ → ℕ → List NodeRec
    tail i count = flat_map (upgraded_at joins stream log) (numbers_from i count)

    -- records are left out, before the one with this number, that one of a later place takes too
    abbrev lags : ℕ → Bool
    lags i = took_next joins stream log i && takes_next joins stream log i

    -- from a record on, the upgraded records are alike those of the log; they begin with this number, after this cursor
    record Claim (number' cursor' i : ℕ) (recs recs' : List NodeRec) : Type 0 where
      alike : AreAlike stream (first_or_later i) (cursor i) recs number' cursor' recs'
      orders : ordered_over stream number' cursor' recs' ≡ (cond (lags i) (is_later number') true && ordered_over stream (first_or_later i) (cursor i) recs)

    and-false : (a b : Bool) → b ≡ false → (a && b) ≡ false
    and-false true b e = e
    and-false false b e = refl

    either : (b : Bool) → cond b true true ≡ true
    either true = refl
    either false = refl

    -- where nothing lags the records begin as those of the log do
    begun : (i number' cursor' : ℕ) (recs recs' : List NodeRec) → number' ≡ first_or_later i → cursor' ≡ cursor i → Claim (first_or_later i) (cursor i) i recs recs' → Claim number' cursor' i recs recs'
    begun i number' cursor' recs recs' n c claim = subst (λ m. Claim m cursor' i recs recs') (sym n) (subst (λ d. Claim (first_or_later i) d i recs recs') (sym c) claim)

    -- one record, which stays
    stays : (i : ℕ) (rec : NodeRec) (recs recs' : List NodeRec) → slice_get log i ≡ Some rec → lags i ≡ false → Claim 1 (cursor (suc i)) (suc i) recs recs' → Claim (first_or_later i) (cursor i) i (rec ∷ recs) (rec ∷ recs')
    stays i rec recs recs' at none claim = record { alike = record { tells = tells; ends = ends }; orders = orders }
      where
        n : ℕ
        n = first_or_later i

        after : ℕ
        after = next_cursor stream n rec (cursor i)

        next : after ≡ cursor (suc i)
        next = cursor-next log i rec at

        told-rest : told stream 1 after recs ≡ told stream 1 after recs'
        told-rest = ap (λ c. told stream 1 c recs) next ∙ claim.alike.tells ∙ ap (λ c. told stream 1 c recs') (sym next)

        tells : told stream n (cursor i) (rec ∷ recs) ≡ told stream n (cursor i) (rec ∷ recs')
        tells = ap (λ ts. cond (is_taking rec) ts (told_at stream n (cursor i) rec ∷ ts)) told-rest

        ends : cursor_over stream 1 after recs ≡ cursor_over stream 1 after recs'
        ends = ap (λ c. cursor_over stream 1 c recs) next ∙ claim.alike.ends ∙ ap (λ c. cursor_over stream 1 c recs') (sym next)

        rest : ordered_over stream 1 after recs' ≡ ordered_over stream 1 after recs
        rest =
            ap (λ c. ordered_over stream 1 c recs') next
            ∙ claim.orders
            ∙ ap (λ b. b && ordered_over stream 1 (cursor (suc i)) recs) (either (lags (suc i)))
            ∙ ap (λ c. ordered_over stream 1 c recs) (sym next)

        orders : (is_in_order stream n (cursor i) rec && ordered_over stream 1 after recs') ≡ (cond (lags i) (is_later n) true && (is_in_order stream n (cursor i) rec && ordered_over stream 1 after recs))
        orders = ap (λ b. is_in_order stream n (cursor i) rec && b) rest ∙ sym (ap (λ b. cond b (is_later n) true && (is_in_order stream n (cursor i) rec && ordered_over stream 1 after recs)) none)

    -- what takes entries and is joined, on the side of the log alone
    module _ (i : ℕ) (rec : NodeRec) (at : slice_get log i ≡ Some rec) (t : TakesNext stream (cursor i) rec) where
      cursor-more : cursor (suc i) ≡ t.place
      cursor-more = sym (cursor-next log i rec at) ∙ t.moves (first_or_later i)

      told-take : (recs : List NodeRec) → told stream (first_or_later i) (cursor i) (rec ∷ recs) ≡ told stream 1 (cursor (suc i)) recs
      told-take recs =
          ap (λ b. cond b (told stream 1 (next_cursor stream (first_or_later i) rec (cursor i)) recs) (told_at stream (first_or_later i) (cursor i) rec ∷ told stream 1 (next_cursor stream (first_or_later i) rec (cursor i)) recs)) t.taking
          ∙ ap (λ c. told stream 1 c recs) (cursor-next log i rec at)

      over-take : (recs : List NodeRec) → cursor_over stream (first_or_later i) (cursor i) (rec ∷ recs) ≡ cursor_over stream 1 (cursor (suc i)) recs
      over-take recs = ap (λ c. cursor_over stream 1 c recs) (cursor-next log i rec at)

      orders-take : (recs : List NodeRec) → ordered_over stream (first_or_later i) (cursor i) (rec ∷ recs) ≡ (is_later i && ordered_over stream 1 (cursor (suc i)) recs)
      orders-take recs =
          ap (λ b. b && ordered_over stream 1 (next_cursor stream (first_or_later i) rec (cursor i)) recs) (t.orders i)
          ∙ ap (λ c. is_later i && ordered_over stream 1 c recs) (cursor-next log i rec at)

      -- one that a later record takes too
      left_out : (number' cursor' : ℕ) (recs recs' : List NodeRec) → lags (suc i) ≡ true → (lags i ≡ false → number' ≡ first_or_later i) → (lags i ≡ true → is_later i ≡ true)
          → Claim number' cursor' (suc i) recs recs' → Claim number' cursor' i (rec ∷ recs) recs'
      left_out number' cursor' recs recs' lag begins is claim =
          record {
            alike = record { tells = told-take recs ∙ claim.alike.tells; ends = over-take recs ∙ claim.alike.ends };
            orders =
                claim.orders
                ∙ ap (λ b. cond b (is_later number') true && ordered_over stream 1 (cursor (suc i)) recs) lag
                ∙ both (lags i) refl
                ∙ sym (ap (λ b. cond (lags i) (is_later number') true && b) (orders-take recs));
          }
        where
          both : (b : Bool) → lags i ≡ b → (is_later number' && ordered_over stream 1 (cursor (suc i)) recs) ≡ (cond (lags i) (is_later number') true && (is_later i && ordered_over stream 1 (cursor (suc i)) recs))
          both true e = sym (ap (λ b. cond b (is_later number') true && (is_later i && ordered_over stream 1 (cursor (suc i)) recs)) e ∙ ap (λ b. is_later number' && (b && ordered_over stream 1 (cursor (suc i)) recs)) (is e))
          both false e = ap (λ b. b && ordered_over stream 1 (cursor (suc i)) recs) (ap is_later (begins e) ∙ later-is i) ∙ sym (ap (λ b. cond b (is_later number') true && (is_later i && ordered_over stream 1 (cursor (suc i)) recs)) e)

      -- the last of several
      ends-run : (number' cursor' : ℕ) (recs recs' : List NodeRec) → lags i ≡ true → is_later i ≡ true → cursor' ≤ cursor i
          → Claim 1 (cursor (suc i)) (suc i) recs recs' → Claim number' cursor' i (rec ∷ recs) (Takes t.off ∷ recs')
      ends-run number' cursor' recs recs' lag is h claim =
          record {
            alike = record {
              tells = told-take recs ∙ claim.alike.tells ∙ ap (λ c. told stream 1 c recs') (sym next');
              ends = over-take recs ∙ claim.alike.ends ∙ ap (λ c. cursor_over stream 1 c recs') (sym next');
            };
            orders =
                ap (λ b. b && ordered_over stream 1 (next_cursor stream number' (Takes t.off) cursor') recs') (order-takes number' cursor' t.place t.off further t.at)
                ∙ ap (λ c. is_later number' && ordered_over stream 1 c recs') next'
                ∙ ap (λ b. is_later number' && b) (claim.orders ∙ ap (λ b. b && ordered_over stream 1 (cursor (suc i)) recs) (either (lags (suc i))))
                ∙ sym (ap (λ b. cond (lags i) (is_later number') true && b) (orders-take recs ∙ ap (λ b. b && ordered_over stream 1 (cursor (suc i)) recs) is) ∙ ap (λ b. cond b (is_later number') true && ordered_over stream 1 (cursor (suc i)) recs) lag);
          }
        where
          further : cursor' < t.place
          further = let past = t.past in omega (arith, h, past)

          next' : next_cursor stream number' (Takes t.off) cursor' ≡ cursor (suc i)
          next' = cursor-takes number' cursor' t.place t.off further t.at ∙ sym cursor-more

    joined-none : (before after : Bool) (rec : NodeRec) → joined before false after (Some rec) ≡ rec ∷ []
    joined-none true after rec = refl
    joined-none false after rec = refl

    joined-left : (before : Bool) (rec : NodeRec) → joined before true true (Some rec) ≡ []
    joined-left true rec = refl
    joined-left false rec = refl

    joined-alone : (rec : NodeRec) → joined false true false (Some rec) ≡ rec ∷ []
    joined-alone rec = refl

    lag-later : (i : ℕ) → lags i ≡ true → is_later i ≡ true
    lag-later zero e = absurd (true≢false (sym e))
    lag-later (suc i) e = refl

    nothing : (i : ℕ) → length log ≤ i → takes_next joins stream log i ≡ false
    nothing i h = ap (takes_after joins stream (cursor i)) (slice_get_past log i h)

    -- from each record on
    upgrades : (count i : ℕ) → i + count ≡ length log → (number' cursor' : ℕ) → (lags i ≡ false → (number' ≡ first_or_later i) × (cursor' ≡ cursor i)) → (lags i ≡ true → cursor' ≤ cursor i)
        → Claim number' cursor' i (drop i log) (tail i count)
    upgrades zero i e number' cursor' begins behind =
        let none : takes_next joins stream log i ≡ false = nothing i (omega (arith, e)) in
        let lag : lags i ≡ false = and-false (took_next joins stream log i) (takes_next joins stream log i) none in
        let (n, c) = begins lag in
        begun i number' cursor' (drop i log) [] n c
        (subst (λ xs. Claim (first_or_later i) (cursor i) i xs []) (sym (drop_all i log (omega (arith, e))))
        (record {
          alike = record { tells = refl; ends = refl };
          orders = sym (ap (λ b. cond b (is_later (first_or_later i)) true && ordered_over stream (first_or_later i) (cursor i) []) lag);
        }))
    upgrades (suc count) i e number' cursor' begins behind = found (upgrades count (suc i) (omega (arith, e))) (element_at log i (omega (arith, e)))
      where
        rest : List NodeRec
        rest = tail (suc i) count

        below : (b : Bool) → lags i ≡ b → cursor' ≤ cursor i
        below true lag = behind lag
        below false none = let same = (begins none).1 in omega (arith, same)

        found : ((n' c' : ℕ) → (lags (suc i) ≡ false → (n' ≡ 1) × (c' ≡ cursor (suc i))) → (lags (suc i) ≡ true → c' ≤ cursor (suc i)) → Claim n' c' (suc i) (drop (suc i) log) rest)
            → (x : NodeRec) × (slice_get log i ≡ Some x) → Claim number' cursor' i (drop i log) (upgraded_at joins stream log i ++ rest)
        found ih (rec, at) = subst (λ xs. Claim number' cursor' i xs (upgraded_at joins stream log i ++ rest)) (sym (drop_at log i rec at)) (go (took_next joins stream log i) refl (takes_next joins stream log i) refl (takes_next joins stream log (suc i)) refl)
          where
            recs : List NodeRec
            recs = drop (suc i) log

            emit : (before here after : Bool) → took_next joins stream log i ≡ before → takes_next joins stream log i ≡ here → takes_next joins stream log (suc i) ≡ after → upgraded_at joins stream log i ≡ joined before here after (Some rec)
            emit before here after b h a =
                ap (λ x. joined x (takes_next joins stream log i) (takes_next joins stream log (suc i)) (slice_get log i)) b
                ∙ ap (λ x. joined before x (takes_next joins stream log (suc i)) (slice_get log i)) h
                ∙ ap (λ x. joined before here x (slice_get log i)) a
                ∙ ap (joined before here after) at

            over : (es : List NodeRec) → upgraded_at joins stream log i ≡ es → Claim number' cursor' i (rec ∷ recs) (es ++ rest) → Claim number' cursor' i (rec ∷ recs) (upgraded_at joins stream log i ++ rest)
            over es is claim = subst (λ xs. Claim number' cursor' i (rec ∷ recs) (xs ++ rest)) (sym is) claim

            as_it_was : lags i ≡ false → Claim number' cursor' i (rec ∷ recs) (rec ∷ rest)
            as_it_was none =
                let (n, c) = begins none in
                begun i number' cursor' (rec ∷ recs) (rec ∷ rest) n c (stays i rec recs rest at none (ih 1 (cursor (suc i)) (λ _. (refl, refl)) (λ _. omega arith)))

            taken : takes_next joins stream log i ≡ true → TakesNext stream (cursor i) rec
            taken here = takes-next joins (cursor i) rec (sym (ap (takes_after joins stream (cursor i)) at) ∙ here)

            go : (before : Bool) → took_next joins stream log i ≡ before → (here : Bool) → takes_next joins stream log i ≡ here → (after : Bool) → takes_next joins stream log (suc i) ≡ after
                → Claim number' cursor' i (rec ∷ recs) (upgraded_at joins stream log i ++ rest)
            go before b false h after a = over (rec ∷ []) (emit before false after b h a ∙ joined-none before after rec) (as_it_was (and-false (took_next joins stream log i) (takes_next joins stream log i) h))
            go before b true h true a =
                let lag : lags (suc i) ≡ true = ap (λ x. x && takes_next joins stream log (suc i)) h ∙ a in
                let t = taken h in
                let more = cursor-more i rec at t in
                let past = t.past in
                let le = below (lags i) refl in
                over [] (emit before true true b h a ∙ joined-left before rec)
                (left_out i rec at t number' cursor' recs rest lag (λ none. (begins none).0) (lag-later i)
                (ih number' cursor' (λ none. absurd (true≢false (sym lag ∙ none))) (λ _. omega (arith, more, past, le))))
            go true b true h false a =
                let t = taken h in
                let lag : lags i ≡ true = ap (λ x. x && takes_next joins stream log i) b ∙ h in
                over (Takes t.off ∷ []) (emit true true false b h a ∙ t.stands)
                (ends-run i rec at t number' cursor' recs rest lag (lag-later i lag) (behind lag) (ih 1 (cursor (suc i)) (λ _. (refl, refl)) (λ _. omega arith)))
            go false b true h false a = over (rec ∷ []) (emit false true false b h a ∙ joined-alone rec) (as_it_was (ap (λ x. x && takes_next joins stream log i) b))

    -- a log is alike the one that it is upgraded to
    pub upgraded-alike : AreAlike stream 0 0 log 0 0 (upgraded_log joins stream log)
    upgraded-alike = (upgrades (length log) 0 (omega arith) 0 0 (λ _. (refl, refl)) (λ _. omega arith)).alike

    upgraded-orders : ordered_over stream 0 0 (upgraded_log joins stream log) ≡ ordered_over stream 0 0 log
    upgraded-orders = (upgrades (length log) 0 (omega arith) 0 0 (λ _. (refl, refl)) (λ _. omega arith)).orders

  in-order-later : (i c : ℕ) (rec : NodeRec) → is_in_order stream i c rec ≡ is_in_order stream (first_or_later i) c rec
  in-order-later zero c rec = refl
  in-order-later (suc i) c (Start off) = refl
  in-order-later (suc i) c (Take off) = refl
  in-order-later (suc i) c (Takes off) = refl
  in-order-later (suc i) c (Opened other sid nsp) = refl
  in-order-later (suc i) c (Join other room) = refl
  in-order-later (suc i) c (Leave other room) = refl
  in-order-later (suc i) c (Broke other turn) = refl
  in-order-later (suc i) c (Back other turn) = refl
  in-order-later (suc i) c (Gone other) = refl

  -- whether all from a record on are in order
  all-ordered : (log : List NodeRec) (count i : ℕ) → i + count ≡ length log → (count ≡ 0 → is_later i ≡ true)
      → list_all (λ number. is_some_in_order stream number (cursor_at stream log number) (slice_get log number)) (numbers_from i count) ≡ ordered_over stream (first_or_later i) (cursor_at stream log i) (drop i log)
  all-ordered log zero zero e some = absurd (true≢false (sym (some refl)))
  all-ordered log zero (suc i) e some = sym (ap (ordered_over stream 1 (cursor_at stream log (suc i))) (drop_all (suc i) log (omega (arith, e))))
  all-ordered log (suc count) i e some =
      let (rec, at) = element_at log i (omega (arith, e)) in
      let ih = all-ordered log count (suc i) (omega (arith, e)) (λ _. refl) in
      ap (λ o. is_some_in_order stream i (cursor_at stream log i) o && list_all (λ number. is_some_in_order stream number (cursor_at stream log number) (slice_get log number)) (numbers_from (suc i) count)) at
      ∙ ap (λ b. is_in_order stream i (cursor_at stream log i) rec && b) (ih ∙ ap (λ c. ordered_over stream 1 c (drop (suc i) log)) (sym (cursor-next log i rec at)))
      ∙ ap (λ b. b && ordered_over stream 1 (next_cursor stream (first_or_later i) rec (cursor_at stream log i)) (drop (suc i) log)) (in-order-later i (cursor_at stream log i) rec)
      ∙ sym (ap (ordered_over stream (first_or_later i) (cursor_at stream log i)) (drop_at log i rec at))

  -- a log is in order where its records are, one after another
  ordered-over : (log : List NodeRec) → is_ordered stream log ≡ ordered_over stream 0 0 log
  ordered-over [] = refl
  ordered-over (first ∷ others) = all-ordered (first ∷ others) (suc (length others)) 0 (omega arith) (λ e. absurd (omega (arith, e)))

  -- a log is in order where the one that it is upgraded to is
  pub upgraded-ordered : (joins : Joins) (log : List NodeRec) → is_ordered stream log ≡ is_ordered stream (upgraded_log joins stream log)
  upgraded-ordered joins log = ordered-over log ∙ sym (upgraded-orders joins log) ∙ sym (ordered-over (upgraded_log joins stream log))
