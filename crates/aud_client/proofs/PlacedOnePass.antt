-- One packet at its record more: it begins a stay at the end of the list, or it goes on with the last one of its
-- namespace.
use Rattle.std.proofs.Common.{◌≡◌, ℕ, suc, Bool, true, false, not, ◌&&◌, cond, List, [], ◌∷◌, ◌++◌, set, refl, sym, ap, ◌∙◌, arith, inl, inr, Option, Some, None, slice_get}
use Rattle.std.specs.Option.{option_map}
use Rattle.std.specs.Str.{bytes_eq}
use Rattle.std.proofs.lemmas.Bool.{false≢true, cases_Bool, not-true, not-false}
use Rattle.std.proofs.lemmas.List.{append_assoc, append-nil}
use Rattle.std.proofs.lemmas.Option.{none-some}
use Rattle.aud_client.specs.Stays.{namespace}
use Rattle.aud_base.proofs.SameText.{same_text, itself_text}
use Rattle.aud_client.proofs.Places.{swap_text}
use Rattle.aud_client.specs.PlacedStays.{PlacedPacket, placed_in, goes_on_placed, whole_placed, placed_after, placed_at, begins_placed, placed_from, placed_stays}
use Rattle.aud_client.proofs.PlacedIn.{of_placed, has_placed, placed_in-same, placed_in-other, begun, of_placed_at, passed}

-- the last stay of the namespace, with the packet
abbrev pub grow : List ℕ → PlacedPacket → List (List PlacedPacket) → List (List PlacedPacket)
grow n p [] = []
grow n p (s ∷ ss) = cond (of_placed n s && not (has_placed n ss)) ((s ++ p ∷ []) ∷ ss) (s ∷ grow n p ss)

-- the last stay of the namespace
abbrev pub last_in : List ℕ → List (List PlacedPacket) → List PlacedPacket
last_in n [] = []
last_in n (s ∷ ss) = cond (has_placed n ss) (last_in n ss) (cond (of_placed n s) s [])

-- where no stay is in the namespace, none grows, and none is the last
grow-none : (n : List ℕ) (p : PlacedPacket) (ss : List (List PlacedPacket)) → has_placed n ss ≡ false → grow n p ss ≡ ss
grow-none n p [] e = refl
grow-none n p (s ∷ ss) e = grind (arith, grow-none n p ss)

pub last_in-none : (n : List ℕ) (ss : List (List PlacedPacket)) → has_placed n ss ≡ false → last_in n ss ≡ []
last_in-none n [] e = refl
last_in-none n (s ∷ ss) e = grind (arith, last_in-none n ss)

-- no packet goes on with no stay
pub whole_placed-nil : (m : List PlacedPacket) → whole_placed [] m ≡ []
whole_placed-nil [] = refl
whole_placed-nil (q ∷ m) = refl

-- where no packet after begins a stay in the namespace, the stay goes on to the end
placed_at-end : (n : List ℕ) (before : List PlacedPacket) (q : PlacedPacket) (r : List PlacedPacket) → bytes_eq (namespace q.1) n ≡ true
    → has_placed n (placed_from (before ++ q ∷ []) r) ≡ false → placed_at before q r ≡ placed_after n (before ++ q ∷ r)
placed_at-end n before q r e none =
    ap (λ m. whole_placed (placed_after m (before ++ q ∷ [])) (placed_in m r)) (same_text (namespace q.1) n e)
    ∙ ap (whole_placed (placed_after n (before ++ q ∷ []))) (sym (append-nil (placed_in n r)))
    ∙ (passed n (before ++ q ∷ []) r).on none []
    ∙ ap (placed_after n) (append_assoc before (q ∷ []) r)

-- where there is one, it is the stay in which the packets end
last_in-some : (n : List ℕ) (before after : List PlacedPacket) → has_placed n (placed_from before after) ≡ true → last_in n (placed_from before after) ≡ placed_after n (before ++ after)
last_in-some n before [] some = absurd (false≢true some)
last_in-some n before (q ∷ r) some =
    grind (arith, last_in-some n (before ++ q ∷ []) r, append_assoc before (q ∷ []) r, of_placed_at n before q r, placed_at-end n before q r)

-- the last stay of a namespace in the list is the one in which its packets end
pub last_in-placed : (n : List ℕ) (l : List PlacedPacket) → last_in n (placed_stays l) ≡ placed_after n l
last_in-placed n l = elim (cases_Bool (has_placed n (placed_stays l))) [
  | inl some ↦ last_in-some n [] l some
  | inr none ↦ last_in-none n (placed_stays l) none ∙ sym (whole_placed-nil (placed_in n l ++ [])) ∙ (passed n [] l).on none []
]

-- a packet of another namespace changes no stay
placed_at-other : (before : List PlacedPacket) (q : PlacedPacket) (r : List PlacedPacket) (p : PlacedPacket) → bytes_eq (namespace p.1) (namespace q.1) ≡ false → placed_at before q (r ++ p ∷ []) ≡ placed_at before q r
placed_at-other before q r p e = ap (whole_placed (placed_after (namespace q.1) (before ++ q ∷ []))) (placed_in-other (namespace q.1) r p e)

-- nor does one after a later stay of the namespace began
placed_at-stopped : (before : List PlacedPacket) (q : PlacedPacket) (r : List PlacedPacket) (p : PlacedPacket) → bytes_eq (namespace p.1) (namespace q.1) ≡ true
    → has_placed (namespace q.1) (placed_from (before ++ q ∷ []) r) ≡ true → placed_at before q (r ++ p ∷ []) ≡ placed_at before q r
placed_at-stopped before q r p e some =
    ap (whole_placed (placed_after (namespace q.1) (before ++ q ∷ []))) (placed_in-same (namespace q.1) r p e) ∙ (passed (namespace q.1) (before ++ q ∷ []) r).stopped some (p ∷ [])

-- a stay that goes on to the end, and one packet more of its namespace
placed_at-more : (before : List PlacedPacket) (q : PlacedPacket) (r : List PlacedPacket) (p : PlacedPacket) → bytes_eq (namespace p.1) (namespace q.1) ≡ true
    → has_placed (namespace q.1) (placed_from (before ++ q ∷ []) r) ≡ false
    → placed_at before q (r ++ p ∷ []) ≡ cond (goes_on_placed (placed_after (namespace q.1) (before ++ q ∷ r)) p) (placed_at before q r ++ p ∷ []) (placed_at before q r)
placed_at-more before q r p e none =
    ap (whole_placed (placed_after (namespace q.1) (before ++ q ∷ []))) (placed_in-same (namespace q.1) r p e)
    ∙ (passed (namespace q.1) (before ++ q ∷ []) r).on none (p ∷ [])
    ∙ ap (λ l. whole_placed (placed_after (namespace q.1) l) (p ∷ [])) (append_assoc before (q ∷ []) r)
    ∙ ap (λ s. cond (goes_on_placed (placed_after (namespace q.1) (before ++ q ∷ r)) p) (s ++ p ∷ []) s) (sym (placed_at-end (namespace q.1) before q r (itself_text (namespace q.1)) none))

-- a packet that begins a stay adds one of itself alone
pub placed-begins : (before after : List PlacedPacket) (p : PlacedPacket) → begins_placed (before ++ after) p ≡ true → placed_from before (after ++ p ∷ []) ≡ placed_from before after ++ (p ∷ []) ∷ []
placed-begins before [] p e =
    let starts : begins_placed before p ≡ true = ap (λ l. begins_placed l p) (sym (append-nil before)) ∙ e in
    ap (λ b. cond b (placed_at before p [] ∷ []) []) starts ∙ ap (λ s. s ∷ []) (begun before p starts)
placed-begins before (q ∷ r) p e = grind (arith, placed-begins (before ++ q ∷ []) r p, append_assoc before (q ∷ []) r, same)
  where
    same : placed_at before q (r ++ p ∷ []) ≡ placed_at before q r
    same = elim (cases_Bool (bytes_eq (namespace p.1) (namespace q.1))) [
      | inr other ↦ placed_at-other before q r p other
      | inl is ↦ elim (cases_Bool (has_placed (namespace q.1) (placed_from (before ++ q ∷ []) r))) [
        | inl some ↦ placed_at-stopped before q r p is some
        | inr none ↦
            placed_at-more before q r p is none
            ∙ ap (λ b. cond b (placed_at before q r ++ p ∷ []) (placed_at before q r)) (ap (λ m. goes_on_placed (placed_after m (before ++ q ∷ r)) p) (sym (same_text (namespace p.1) (namespace q.1) is)) ∙ not-true _ e)
      ]
    ]

-- a packet that goes on with a stay adds itself to the last one of its namespace
pub placed-goes_on : (before after : List PlacedPacket) (p : PlacedPacket) → begins_placed (before ++ after) p ≡ false → placed_from before (after ++ p ∷ []) ≡ grow (namespace p.1) p (placed_from before after)
placed-goes_on before [] p e =
    let goes : begins_placed before p ≡ false = ap (λ l. begins_placed l p) (sym (append-nil before)) ∙ e in
    ap (λ b. cond b (placed_at before p [] ∷ []) []) goes
placed-goes_on before (q ∷ r) p e =
    grind (arith, placed-goes_on (before ++ q ∷ []) r p, append_assoc before (q ∷ []) r, of_placed_at (namespace p.1) before q r, here (bytes_eq (namespace q.1) (namespace p.1)) (has_placed (namespace p.1) (placed_from (before ++ q ∷ []) r)) refl refl)
  where
    here : (b h : Bool) → bytes_eq (namespace q.1) (namespace p.1) ≡ b → has_placed (namespace p.1) (placed_from (before ++ q ∷ []) r) ≡ h
        → placed_at before q (r ++ p ∷ []) ∷ grow (namespace p.1) p (placed_from (before ++ q ∷ []) r)
        ≡ cond (b && not h) ((placed_at before q r ++ p ∷ []) ∷ placed_from (before ++ q ∷ []) r) (placed_at before q r ∷ grow (namespace p.1) p (placed_from (before ++ q ∷ []) r))
    here false h is some = ap (λ s. s ∷ grow (namespace p.1) p (placed_from (before ++ q ∷ []) r)) (placed_at-other before q r p (swap_text (namespace q.1) (namespace p.1) is))
    here true true is some =
        let same = same_text (namespace q.1) (namespace p.1) is in
        ap (λ s. s ∷ grow (namespace p.1) p (placed_from (before ++ q ∷ []) r))
        (placed_at-stopped before q r p (ap (bytes_eq (namespace p.1)) same ∙ itself_text (namespace p.1)) (ap (λ m. has_placed m (placed_from (before ++ q ∷ []) r)) same ∙ some))
    here true false is none =
        let same = same_text (namespace q.1) (namespace p.1) is in
        ap (λ s. s ∷ grow (namespace p.1) p (placed_from (before ++ q ∷ []) r))
        (placed_at-more before q r p (ap (bytes_eq (namespace p.1)) same ∙ itself_text (namespace p.1)) (ap (λ m. has_placed m (placed_from (before ++ q ∷ []) r)) same ∙ none)
        ∙ ap (λ b. cond b (placed_at before q r ++ p ∷ []) (placed_at before q r)) (ap (λ m. goes_on_placed (placed_after m (before ++ q ∷ r)) p) same ∙ not-false _ e))
        ∙ ap (λ ss. (placed_at before q r ++ p ∷ []) ∷ ss) (grow-none (namespace p.1) p (placed_from (before ++ q ∷ []) r) none)

-- ---- the number of the last stay

-- the number of the last stay in the namespace
abbrev pub placed_number : List ℕ → List (List PlacedPacket) → Option ℕ
placed_number n [] = None
placed_number n (s ∷ ss) = cond (has_placed n ss) (option_map suc (placed_number n ss)) (cond (of_placed n s) (Some 0) None)

-- growing is a write at the place, where the last stay of the namespace is
abbrev pub GrowsAt : List ℕ → PlacedPacket → List (List PlacedPacket) → ℕ → Type 0
GrowsAt n p ss k =
    (grow n p ss ≡ set ss k (last_in n ss ++ p ∷ [])) × (slice_get ss k ≡ Some (last_in n ss)) × (of_placed n (last_in n ss) ≡ true)

pub grow-set : (n : List ℕ) (p : PlacedPacket) (ss : List (List PlacedPacket)) (k : ℕ) → placed_number n ss ≡ Some k → GrowsAt n p ss k
grow-set n p [] k e = absurd (none-some k e)
grow-set n p (s ∷ ss) k e = go (grow-set n p ss) (placed_number n ss) refl
  where
    go : ((j : ℕ) → placed_number n ss ≡ Some j → GrowsAt n p ss j) → (o : Option ℕ) → placed_number n ss ≡ o → GrowsAt n p (s ∷ ss) k
    go ih None none = grind arith
    go ih (Some j) at = grind (arith, ih j at)
