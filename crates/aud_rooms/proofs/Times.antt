-- When one room is held: intervals in order, apart from one another, which are the maximal intervals of the positions
-- in them.
use Rattle.std.proofs.lemmas.Grind.{common_steps}
use Rattle.std.proofs.lemmas.Option.{gets, slice_get_within, slice_get-get_or}
use Rattle.std.proofs.Common.{◌≡◌, ◌<◌, ◌≤◌, ◌-◌, ℕ, zero, suc, true, false, ◌||◌, ◌&&◌, List, [], ◌∷◌, ◌++◌, length, take, Option, Some, None, get_or, refl, sym, ap, subst, ◌∙◌, nat_lt, nat_le, arith, Bool, ◌⊎◌, inl, inr, true≢false, is_some}
use Rattle.std.specs.List.{list_any, slice_get, Contains}
use Rattle.std.proofs.lemmas.Bool.{le-leb, lt-leb, and_right, le-ltb, lt-ltb, or_from, leb-true, ltb-true, ltb-false, cond_both, or_left, or_right, cases_lt}
use Rattle.std.proofs.lemmas.List.Folds.{list_any-append}
use Rattle.std.proofs.lemmas.List.{drop_all, take-append-drop, append-nil}
use Rattle.aud_base.proofs.Truth.{and_true, or_none}
use Rattle.aud_rooms.specs.declared.interval.Interval.{Interval}
use Rattle.aud_rooms.specs.Private.Times.{Times, is_in_interval, is_past_start, is_held_at, is_held_now, AreApart, ContinuesTimes, intervals_upto, open_interval}
use Rattle.aud_rooms.specs.Spans.{IsMaximalInterval}
use Rattle.aud_rooms.proofs.Members.{contains-none, contains-parts, contains-first, contains-later}

-- a position no further than where an interval begins isn't in it
pub before : (p : ℕ) (i : Interval) → p ≤ i.after → is_in_interval p i ≡ false
before p i h = ap (λ b. b && nat_le p i.last) (le-ltb i.after p h)

-- a position past the end of an interval isn't in it
pub beyond : (p : ℕ) (i : Interval) → i.last < p → is_in_interval p i ≡ false
beyond p i h = and_right (nat_lt i.after p) (nat_le p i.last) (lt-leb p i.last h)

-- a position past where an interval begins, up to its last, is in it
pub inside : (p : ℕ) (i : Interval) → i.after < p → p ≤ i.last → is_in_interval p i ≡ true
inside p i a b = ap (λ x. x && nat_le p i.last) (lt-ltb i.after p a) ∙ le-leb p i.last b

-- no interval has a position that isn't past the number that they begin from
pub none_before : (from covered p : ℕ) (is : List Interval) (since : Option ℕ) → AreApart from is since covered → p ≤ from → list_any (is_in_interval p) is ≡ false
none_before from covered p [] since apart h = refl
none_before from covered p (i ∷ is) since (a, b, c, rest) h = or_from (is_in_interval p i) _ (before p i (omega arith)) (none_before (suc i.last) covered p is since rest (omega arith))

-- nor one past the covered positions
pub none_after : (from covered p : ℕ) (is : List Interval) (since : Option ℕ) → AreApart from is since covered → covered < p → list_any (is_in_interval p) is ≡ false
none_after from covered p [] since apart h = refl
none_after from covered p (i ∷ is) since (a, b, c, rest) h = or_from (is_in_interval p i) _ (beyond p i (omega arith)) (none_after (suc i.last) covered p is since rest h)

-- past the covered positions a room is held where it is held now
pub held_beyond : (low covered p : ℕ) (t : Times) → AreApart low t.ended t.since covered → covered < p → is_held_at p t ≡ is_held_now t
held_beyond low covered p t apart h = ap (λ b. b || is_past_start p t.since) (none_after low covered p t.ended t.since apart h) ∙ past low t.ended t.since apart
  where
    past : (from : ℕ) (is : List Interval) (since : Option ℕ) → AreApart from is since covered → is_past_start p since ≡ is_some since
    past from is None apart = refl
    past from [] (Some after) (a, b) = lt-ltb after p (omega arith)
    past from (i ∷ is) (Some after) (a, b, c, rest) = past (suc i.last) is (Some after) rest

-- they stay apart as more positions are covered
pub apart_longer : (from covered more : ℕ) (is : List Interval) (since : Option ℕ) → AreApart from is since covered → covered ≤ more → AreApart from is since more
apart_longer from covered more [] None apart h = tt
apart_longer from covered more [] (Some after) (a, b) h = (a, omega arith)
apart_longer from covered more (i ∷ is) since (a, b, c, rest) h = (a, b, omega arith, apart_longer (suc i.last) covered more is since rest h)

-- they are apart from any smaller number on
pub apart_lower : (from lower covered : ℕ) (is : List Interval) (since : Option ℕ) → AreApart from is since covered → lower ≤ from → AreApart lower is since covered
apart_lower from lower covered [] None apart h = tt
apart_lower from lower covered [] (Some after) (a, b) h = (omega arith, b)
apart_lower from lower covered (i ∷ is) since (a, b, c, rest) h = (omega arith, b, c, rest)

-- the last element of a list
pub last_part : {X : Type 0} (xs : List X) (x : X) → slice_get xs (length xs - 1) ≡ Some x → xs ≡ take (length xs - 1) xs ++ x ∷ []
last_part xs x e = grind (arith, common_steps, gets, slice_get_within, slice_get-get_or, drop_all, take-append-drop)

-- the last interval goes on
apart_resumed : (from covered : ℕ) (is : List Interval) (i : Interval) → i.last ≡ covered → AreApart from (is ++ i ∷ []) None covered → AreApart from is (Some i.after) covered
apart_resumed from covered [] i ends (a, b, c, rest) = (a, omega arith)
apart_resumed from covered (j ∷ js) i ends (a, b, c, rest) = (a, b, c, apart_resumed (suc j.last) covered js i ends rest)

-- a room that is held again at the last position of its last interval: that interval is opened again
pub resumed : (low covered : ℕ) (is old : List Interval) (i : Interval) → old ≡ is ++ i ∷ [] → i.last ≡ covered → AreApart low old None covered
    → ContinuesTimes low covered (record { ended = old; since = None }) (record { ended = is; since = Some i.after })
resumed low covered is old i parts ends apart =
    record {
      apart = apart_resumed low covered is i ends (subst (λ o. AreApart low o None covered) parts apart);
      same = λ p h.
          grind (arith, parts, list_any-append (is_in_interval p) is (i ∷ []), le-leb p i.last, or_none (is_in_interval p i), and_true (nat_lt i.after p), or_none (list_any (is_in_interval p) old));
    }

-- a new one begins after them
apart_begun : (from covered : ℕ) (is : List Interval) (i : Interval) → i.last < covered → AreApart from (is ++ i ∷ []) None covered → AreApart from (is ++ i ∷ []) (Some covered) covered
apart_begun from covered [] i ends (a, b, c, rest) = (a, b, c, (omega arith, omega arith))
apart_begun from covered (j ∷ js) i ends (a, b, c, rest) = (a, b, c, apart_begun (suc j.last) covered js i ends rest)

-- the last of the intervals ends within the covered positions
last_upto : (from covered : ℕ) (is : List Interval) (i : Interval) → AreApart from (is ++ i ∷ []) None covered → i.last ≤ covered
last_upto from covered [] i (a, b, c, rest) = c
last_upto from covered (j ∷ js) i (a, b, c, rest) = last_upto (suc j.last) covered js i rest

-- a room that is held again past its last interval: a new one begins at the covered position
pub begun : (low covered : ℕ) (is old : List Interval) (i : Interval) → old ≡ is ++ i ∷ [] → (i.last ≡ covered → ⊥) → AreApart low old None covered
    → ContinuesTimes low covered (record { ended = old; since = None }) (record { ended = old; since = Some covered })
begun low covered is old i parts apart_from apart =
    record {
      apart =
          let here = subst (λ o. AreApart low o None covered) parts apart in
          let upto = last_upto low covered is i here in
          subst (λ o. AreApart low o (Some covered) covered) (sym parts) (apart_begun low covered is i (omega arith) here);
      same = λ p h. ap (λ b. list_any (is_in_interval p) old || b) (le-ltb covered p h);
    }

-- an open interval ends with the covered positions
pub apart_ended : (from covered after : ℕ) (is : List Interval) → after < covered → AreApart from is (Some after) covered → AreApart from (is ++ record { after = after; last = covered } ∷ []) None covered
apart_ended from covered after [] h (a, b) = (a, h, omega arith, tt)
apart_ended from covered after (i ∷ is) h (a, b, c, rest) = (a, b, c, apart_ended (suc i.last) covered after is h rest)

-- or it has no positions
pub apart_unused : (from covered after : ℕ) (is : List Interval) → AreApart from is (Some after) covered → AreApart from is None covered
apart_unused from covered after [] apart = tt
apart_unused from covered after (i ∷ is) (a, b, c, rest) = (a, b, c, apart_unused (suc i.last) covered after is rest)

-- a room that is left: its open interval ends with the covered position, where it has positions
pub ended : (low covered after : ℕ) (is : List Interval) → after < covered → AreApart low is (Some after) covered
    → ContinuesTimes low covered (record { ended = is; since = Some after }) (record { ended = is ++ record { after = after; last = covered } ∷ []; since = None })
ended low covered after is h apart =
    record {
      apart = apart_ended low covered after is h apart;
      same = λ p to.
          grind (arith, list_any-append (is_in_interval p) is (record { after = after; last = covered } ∷ []), or_none (nat_lt after p && nat_le p covered), le-leb p covered to, and_true (nat_lt after p), or_none (list_any (is_in_interval p) (is ++ record { after = after; last = covered } ∷ [])));
    }

-- an open interval without positions is dropped, and the room was held at none for it
pub unused : (low covered after : ℕ) (is : List Interval) → covered ≤ after → AreApart low is (Some after) covered
    → ContinuesTimes low covered (record { ended = is; since = Some after }) (record { ended = is; since = None })
unused low covered after is h apart =
    record {
      apart = apart_unused low covered after is apart;
      same = λ p to. ap (λ b. list_any (is_in_interval p) is || b) (sym (le-ltb after p (omega arith)));
    }

-- the same, for times seen through the fields of what keeps them
pub shut_used : (low covered after : ℕ) (t : Times) (old new : List Interval) (since : Option ℕ) → record { ended = old; since = since } ≡ t → since ≡ Some after → after < covered
    → new ≡ old ++ record { after = after; last = covered } ∷ [] → AreApart low t.ended t.since covered → ContinuesTimes low covered t (record { ended = new; since = None })
shut_used low covered after t old new since seen held some is = grind (arith, ended, ended low covered after old some)

-- the same, for times seen through the fields of what keeps them
pub shut_unused : (low covered after : ℕ) (t : Times) (old : List Interval) (since : Option ℕ) → record { ended = old; since = since } ≡ t → since ≡ Some after → covered ≤ after
    → AreApart low t.ended t.since covered → ContinuesTimes low covered t (record { ended = old; since = None })
shut_unused low covered after t old since seen held none = grind (arith, ended, unused low covered after old none)

-- each interval has positions
pub some_at : (from covered : ℕ) (is : List Interval) (since : Option ℕ) (k : ℕ) (d : Interval) → AreApart from is since covered → k < length is → (get_or is k d).after < (get_or is k d).last
some_at from covered [] since k d apart h = absurd (omega arith)
some_at from covered (i ∷ is) since zero d (a, b, c, rest) h = b
some_at from covered (i ∷ is) since (suc k) d (a, b, c, rest) h = some_at (suc i.last) covered is since k d rest (omega arith)

-- ---- intervals apart from one another are the maximal intervals of the positions in them

-- the open interval ends with the covered positions
closed_parts : (low covered : ℕ) (is : List Interval) (since : Option ℕ) → AreApart low is since covered
    → ContinuesTimes low covered (record { ended = is; since = since }) (record { ended = is ++ open_interval since covered; since = None })
closed_parts low covered is None apart =
    record {
      apart = subst (λ l. AreApart low l None covered) (sym (append-nil is)) apart;
      same = λ p h. ap (λ l. list_any (is_in_interval p) l || false) (append-nil is);
    }
closed_parts low covered is (Some after) apart =
    cond_both (nat_lt after covered) (record { after = after; last = covered } ∷ []) []
    (λ last. ContinuesTimes low covered (record { ended = is; since = Some after }) (record { ended = is ++ last; since = None }))
    (λ e. ended low covered after is (ltb-true after covered e) apart)
    (λ e. rw append-nil (unused low covered after is (ltb-false after covered e) apart))

-- with the open interval ended, the room is held at the same covered positions
pub closed : (low covered : ℕ) (t : Times) → AreApart low t.ended t.since covered → ContinuesTimes low covered t (record { ended = intervals_upto covered t; since = None })
closed low covered t apart = closed_parts low covered t.ended t.since apart

-- an interval of a list of them that are apart is a maximal interval of the positions at which the room is held
pub place_maximal : (from covered : ℕ) (is : List Interval) (i : Interval) → AreApart from is None covered → Contains is i
    → IsMaximalInterval (λ p. list_any (is_in_interval p) is) from covered (suc i.after) i.last
place_maximal from covered [] i apart among = absurd (contains-none i among)
place_maximal from covered (j ∷ js) i (a, b, c, rest) among = go (place_maximal (suc j.last) covered js i rest) (contains-parts j js i among)
  where
    -- it is the first one
    first : IsMaximalInterval (λ p. list_any (is_in_interval p) (j ∷ js)) from covered (suc j.after) j.last
    first =
        record {
          past_low = omega arith;
          some = omega arith;
          to_high = c;
          held = λ p x y. or_left (is_in_interval p j) _ (inside p j x y);
          not_before = λ p _ next. or_from (is_in_interval p j) _ (before p j (omega arith)) (none_before (suc j.last) covered p js None rest (omega arith));
          not_after = λ p _ next. or_from (is_in_interval p j) _ (beyond p j (omega arith)) (none_before (suc j.last) covered p js None rest (omega arith));
        }

    -- a position right before a later one
    up_to : (p : ℕ) → (suc j.last < p → list_any (is_in_interval p) js ≡ false) → list_any (is_in_interval p) js ≡ false
    up_to p past = elim (cases_lt (suc j.last) p) as (λ _. list_any (is_in_interval p) js ≡ false) [ inl h ↦ past h | inr h ↦ none_before (suc j.last) covered p js None rest h ]

    go : (Contains js i → IsMaximalInterval (λ p. list_any (is_in_interval p) js) (suc j.last) covered (suc i.after) i.last) → (j ≡ i) ⊎ Contains js i
        → IsMaximalInterval (λ p. list_any (is_in_interval p) (j ∷ js)) from covered (suc i.after) i.last
    go ih (inl same) = subst (λ (x : Interval). IsMaximalInterval (λ p. list_any (is_in_interval p) (j ∷ js)) from covered (suc x.after) x.last) same first
    go ih (inr later) =
        let m = ih later in
        let past = m.past_low in
        let some = m.some in
        record {
          past_low = omega arith;
          some = m.some;
          to_high = m.to_high;
          held = λ p x y. or_right (is_in_interval p j) _ (m.held p x y);
          not_before = λ p _ next. or_from (is_in_interval p j) _ (beyond p j (omega arith)) (up_to p (λ h. m.not_before p h next));
          not_after = λ p x next. or_from (is_in_interval p j) _ (beyond p j (omega arith)) (m.not_after p x next);
        }

-- the interval of a position
pub interval_of : (p : ℕ) (is : List Interval) → list_any (is_in_interval p) is ≡ true → (i : Interval) × Contains is i × (i.after < p) × (p ≤ i.last)
interval_of p [] e = absurd (true≢false (sym e))
interval_of p (j ∷ js) e = grind (arith, interval_of p js, leb-true (suc j.after) p, contains-first j js, leb-true p j.last, contains-later j js)

-- two maximal intervals with a position in common are one
module _ (test : ℕ → Bool) (low high a b c d p : ℕ) (one : IsMaximalInterval test low high a b) (other : IsMaximalInterval test low high c d)
    (from_a : a ≤ p) (to_b : p ≤ b) (from_c : c ≤ p) (to_d : p ≤ d) where
  -- the one doesn't begin before the other
  not_earlier : a < c → ⊥
  not_earlier h =
      let past = one.past_low in
      true≢false (sym (one.held (c - 1) (omega arith) (omega arith)) ∙ other.not_before (c - 1) (omega arith) (omega arith))

  -- the one doesn't end before the other
  not_shorter : b < d → ⊥
  not_shorter h =
      let to = other.to_high in
      true≢false (sym (other.held (suc b) (omega arith) (omega arith)) ∙ one.not_after (suc b) (omega arith) refl)

-- maximal intervals with a position in common have the same first and last positions
pub maximal_same : (test : ℕ → Bool) (low high a b c d p : ℕ) → IsMaximalInterval test low high a b → IsMaximalInterval test low high c d
    → a ≤ p → p ≤ b → c ≤ p → p ≤ d → (a ≡ c) × (b ≡ d)
maximal_same test low high a b c d p one other x y z w = grind (arith, not_earlier test low high a b c d p one other x y z w, not_earlier test low high c d a b p other one z w x y, not_shorter test low high a b c d p one other x y z w, not_shorter test low high c d a b p other one z w x y)
