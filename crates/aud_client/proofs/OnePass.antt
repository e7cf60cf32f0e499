-- One packet more: it begins a stay at the end of the list, or it goes on with the last one of its namespace.
use Rattle.std.proofs.Common.{◌≡◌, ℕ, Bool, true, false, not, ◌&&◌, cond, List, [], ◌∷◌, ◌++◌, length, set, refl, sym, ap, ◌∙◌, arith, inl, inr, Option, Some, None, slice_get}
use Rattle.std.specs.Str.{bytes_eq}
use Rattle.std.proofs.lemmas.Bool.{false≢true, cases_Bool, not-true, not-false}
use Rattle.std.proofs.lemmas.List.{append_assoc, append-nil}
use Rattle.std.proofs.lemmas.List.Folds.{list_any-append}
use Rattle.std.proofs.lemmas.Option.{none-some}
use Rattle.aud_client.specs.TapPackets.{TapPacket}
use Rattle.aud_client.specs.Stays.{namespace, in_namespace, goes_on, whole_stay, stay_after, stay_at, begins_stay, stays_from, stays}
use Rattle.aud_client.specs.Open.{of_namespace, has_stay, place}
use Rattle.aud_base.proofs.SameText.{same_text, itself_text}
use Rattle.aud_client.proofs.Places.{swap_text, in_namespace-same, in_namespace-other, begun, of_stay_at, passed}

-- the last stay of the namespace, with the packet
abbrev pub grow : List ℕ → TapPacket → List (List TapPacket) → List (List TapPacket)
grow n p [] = []
grow n p (s ∷ ss) = cond (of_namespace n s && not (has_stay n ss)) ((s ++ p ∷ []) ∷ ss) (s ∷ grow n p ss)

-- the last stay of the namespace
abbrev pub last_in : List ℕ → List (List TapPacket) → List TapPacket
last_in n [] = []
last_in n (s ∷ ss) = cond (has_stay n ss) (last_in n ss) (cond (of_namespace n s) s [])

-- where no stay is in the namespace, none grows, and none is the last
grow-none : (n : List ℕ) (p : TapPacket) (ss : List (List TapPacket)) → has_stay n ss ≡ false → grow n p ss ≡ ss
grow-none n p [] e = refl
grow-none n p (s ∷ ss) e = grind (arith, grow-none n p ss)

pub last_in-none : (n : List ℕ) (ss : List (List TapPacket)) → has_stay n ss ≡ false → last_in n ss ≡ []
last_in-none n [] e = refl
last_in-none n (s ∷ ss) e = grind (arith, last_in-none n ss)

-- no packet goes on with no stay
pub whole_stay-nil : (m : List TapPacket) → whole_stay [] m ≡ []
whole_stay-nil [] = refl
whole_stay-nil (q ∷ m) = refl

-- where no packet after begins a stay in the namespace, the stay goes on to the end
stay_at-end : (n : List ℕ) (before : List TapPacket) (q : TapPacket) (r : List TapPacket) → bytes_eq (namespace q) n ≡ true
    → has_stay n (stays_from (before ++ q ∷ []) r) ≡ false → stay_at before q r ≡ stay_after n (before ++ q ∷ r)
stay_at-end n before q r e none =
    ap (λ m. whole_stay (stay_after m (before ++ q ∷ [])) (in_namespace m r)) (same_text (namespace q) n e)
    ∙ ap (whole_stay (stay_after n (before ++ q ∷ []))) (sym (append-nil (in_namespace n r)))
    ∙ (passed n (before ++ q ∷ []) r).on none []
    ∙ ap (stay_after n) (append_assoc before (q ∷ []) r)

-- where there is one, it is the stay in which the packets end
last_in-some : (n : List ℕ) (before after : List TapPacket) → has_stay n (stays_from before after) ≡ true → last_in n (stays_from before after) ≡ stay_after n (before ++ after)
last_in-some n before [] some = absurd (false≢true some)
last_in-some n before (q ∷ r) some =
    grind (arith, last_in-some n (before ++ q ∷ []) r, append_assoc before (q ∷ []) r, of_stay_at n before q r, stay_at-end n before q r)

-- the last stay of a namespace in the list is the one in which its packets end
pub last_in-stays : (n : List ℕ) (l : List TapPacket) → last_in n (stays l) ≡ stay_after n l
last_in-stays n l = elim (cases_Bool (has_stay n (stays l))) [
  | inl some ↦ last_in-some n [] l some
  | inr none ↦ last_in-none n (stays l) none ∙ sym (whole_stay-nil (in_namespace n l ++ [])) ∙ (passed n [] l).on none []
]

-- a packet of another namespace changes no stay
stay_at-other : (before : List TapPacket) (q : TapPacket) (r : List TapPacket) (p : TapPacket) → bytes_eq (namespace p) (namespace q) ≡ false → stay_at before q (r ++ p ∷ []) ≡ stay_at before q r
stay_at-other before q r p e = ap (whole_stay (stay_after (namespace q) (before ++ q ∷ []))) (in_namespace-other (namespace q) r p e)

-- nor does one after a later stay of the namespace began
stay_at-stopped : (before : List TapPacket) (q : TapPacket) (r : List TapPacket) (p : TapPacket) → bytes_eq (namespace p) (namespace q) ≡ true
    → has_stay (namespace q) (stays_from (before ++ q ∷ []) r) ≡ true → stay_at before q (r ++ p ∷ []) ≡ stay_at before q r
stay_at-stopped before q r p e some =
    ap (whole_stay (stay_after (namespace q) (before ++ q ∷ []))) (in_namespace-same (namespace q) r p e) ∙ (passed (namespace q) (before ++ q ∷ []) r).stopped some (p ∷ [])

-- a stay that goes on to the end, and one packet more of its namespace
stay_at-more : (before : List TapPacket) (q : TapPacket) (r : List TapPacket) (p : TapPacket) → bytes_eq (namespace p) (namespace q) ≡ true
    → has_stay (namespace q) (stays_from (before ++ q ∷ []) r) ≡ false
    → stay_at before q (r ++ p ∷ []) ≡ cond (goes_on (stay_after (namespace q) (before ++ q ∷ r)) p) (stay_at before q r ++ p ∷ []) (stay_at before q r)
stay_at-more before q r p e none =
    ap (whole_stay (stay_after (namespace q) (before ++ q ∷ []))) (in_namespace-same (namespace q) r p e)
    ∙ (passed (namespace q) (before ++ q ∷ []) r).on none (p ∷ [])
    ∙ ap (λ l. whole_stay (stay_after (namespace q) l) (p ∷ [])) (append_assoc before (q ∷ []) r)
    ∙ ap (λ s. cond (goes_on (stay_after (namespace q) (before ++ q ∷ r)) p) (s ++ p ∷ []) s) (sym (stay_at-end (namespace q) before q r (itself_text (namespace q)) none))

-- a packet that begins a stay adds one of itself alone
pub stays-begins : (before after : List TapPacket) (p : TapPacket) → begins_stay (before ++ after) p ≡ true → stays_from before (after ++ p ∷ []) ≡ stays_from before after ++ (p ∷ []) ∷ []
stays-begins before [] p e =
    let starts : begins_stay before p ≡ true = ap (λ l. begins_stay l p) (sym (append-nil before)) ∙ e in
    ap (λ b. cond b (stay_at before p [] ∷ []) []) starts ∙ ap (λ s. s ∷ []) (begun before p starts)
stays-begins before (q ∷ r) p e = grind (arith, stays-begins (before ++ q ∷ []) r p, append_assoc before (q ∷ []) r, same)
  where
    same : stay_at before q (r ++ p ∷ []) ≡ stay_at before q r
    same = elim (cases_Bool (bytes_eq (namespace p) (namespace q))) [
      | inr other ↦ stay_at-other before q r p other
      | inl is ↦ elim (cases_Bool (has_stay (namespace q) (stays_from (before ++ q ∷ []) r))) [
        | inl some ↦ stay_at-stopped before q r p is some
        | inr none ↦
            stay_at-more before q r p is none
            ∙ ap (λ b. cond b (stay_at before q r ++ p ∷ []) (stay_at before q r)) (ap (λ m. goes_on (stay_after m (before ++ q ∷ r)) p) (sym (same_text (namespace p) (namespace q) is)) ∙ not-true _ e)
      ]
    ]

-- a packet that goes on with a stay adds itself to the last one of its namespace
pub stays-goes_on : (before after : List TapPacket) (p : TapPacket) → begins_stay (before ++ after) p ≡ false → stays_from before (after ++ p ∷ []) ≡ grow (namespace p) p (stays_from before after)
stays-goes_on before [] p e =
    let goes : begins_stay before p ≡ false = ap (λ l. begins_stay l p) (sym (append-nil before)) ∙ e in
    ap (λ b. cond b (stay_at before p [] ∷ []) []) goes
stays-goes_on before (q ∷ r) p e =
    grind (arith, stays-goes_on (before ++ q ∷ []) r p, append_assoc before (q ∷ []) r, of_stay_at (namespace p) before q r, here (bytes_eq (namespace q) (namespace p)) (has_stay (namespace p) (stays_from (before ++ q ∷ []) r)) refl refl)
  where
    here : (b h : Bool) → bytes_eq (namespace q) (namespace p) ≡ b → has_stay (namespace p) (stays_from (before ++ q ∷ []) r) ≡ h
        → stay_at before q (r ++ p ∷ []) ∷ grow (namespace p) p (stays_from (before ++ q ∷ []) r)
        ≡ cond (b && not h) ((stay_at before q r ++ p ∷ []) ∷ stays_from (before ++ q ∷ []) r) (stay_at before q r ∷ grow (namespace p) p (stays_from (before ++ q ∷ []) r))
    here false h is some = ap (λ s. s ∷ grow (namespace p) p (stays_from (before ++ q ∷ []) r)) (stay_at-other before q r p (swap_text (namespace q) (namespace p) is))
    here true true is some =
        let same = same_text (namespace q) (namespace p) is in
        ap (λ s. s ∷ grow (namespace p) p (stays_from (before ++ q ∷ []) r))
        (stay_at-stopped before q r p (ap (bytes_eq (namespace p)) same ∙ itself_text (namespace p)) (ap (λ m. has_stay m (stays_from (before ++ q ∷ []) r)) same ∙ some))
    here true false is none =
        let same = same_text (namespace q) (namespace p) is in
        ap (λ s. s ∷ grow (namespace p) p (stays_from (before ++ q ∷ []) r))
        (stay_at-more before q r p (ap (bytes_eq (namespace p)) same ∙ itself_text (namespace p)) (ap (λ m. has_stay m (stays_from (before ++ q ∷ []) r)) same ∙ none)
        ∙ ap (λ b. cond b (stay_at before q r ++ p ∷ []) (stay_at before q r)) (ap (λ m. goes_on (stay_after m (before ++ q ∷ r)) p) same ∙ not-false _ e))
        ∙ ap (λ ss. (stay_at before q r ++ p ∷ []) ∷ ss) (grow-none (namespace p) p (stays_from (before ++ q ∷ []) r) none)

-- ---- the places of the last stays

-- a stay that grows stays in its namespace
of_grown : (n m : List ℕ) (p : TapPacket) (s : List TapPacket) → of_namespace n s ≡ true → of_namespace m (s ++ p ∷ []) ≡ of_namespace m s
of_grown n m p [] e = absurd (false≢true e)
of_grown n m p (x ∷ xs) e = refl

has-grow : (n m : List ℕ) (p : TapPacket) (ss : List (List TapPacket)) → has_stay m (grow n p ss) ≡ has_stay m ss
has-grow n m p [] = refl
has-grow n m p (s ∷ ss) = grind (arith, has-grow n m p ss, of_grown n m p s)

-- growing moves no stay
pub place-grow : (n m : List ℕ) (p : TapPacket) (ss : List (List TapPacket)) → place m (grow n p ss) ≡ place m ss
place-grow n m p [] = refl
place-grow n m p (s ∷ ss) = grind (arith, place-grow n m p ss, has-grow n m p ss, of_grown n m p s)

-- a stay at the end is the last one of its namespace
pub place-push : (m : List ℕ) (p : TapPacket) (ss : List (List TapPacket)) → place m (ss ++ (p ∷ []) ∷ []) ≡ cond (bytes_eq (namespace p) m) (Some (length ss)) (place m ss)
place-push m p [] = refl
place-push m p (s ∷ ss) = grind (arith, place-push m p ss, list_any-append (of_namespace m) ss ((p ∷ []) ∷ []))

-- growing is a write at the place, where the last stay of the namespace is
abbrev pub GrowsAt : List ℕ → TapPacket → List (List TapPacket) → ℕ → Type 0
GrowsAt n p ss k =
    (grow n p ss ≡ set ss k (last_in n ss ++ p ∷ [])) × (slice_get ss k ≡ Some (last_in n ss)) × (of_namespace n (last_in n ss) ≡ true)

pub grow-set : (n : List ℕ) (p : TapPacket) (ss : List (List TapPacket)) (k : ℕ) → place n ss ≡ Some k → GrowsAt n p ss k
grow-set n p [] k e = absurd (none-some k e)
grow-set n p (s ∷ ss) k e = go (grow-set n p ss) (place n ss) refl
  where
    go : ((j : ℕ) → place n ss ≡ Some j → GrowsAt n p ss j) → (o : Option ℕ) → place n ss ≡ o → GrowsAt n p (s ∷ ss) k
    go ih None none = grind arith
    go ih (Some j) at = grind (arith, ih j at)
