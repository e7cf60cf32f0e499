-- The stays of packets at their records, and one packet more: as `Places` has it of the packets alone.
use Rattle.std.proofs.Common.{◌≡◌, ℕ, Bool, true, false, not, cond, List, [], ◌∷◌, ◌++◌, refl, sym, ap, ◌∙◌, arith}
use Rattle.std.specs.Str.{bytes_eq}
use Rattle.std.proofs.lemmas.Bool.{false≢true, not-true}
use Rattle.std.proofs.lemmas.List.{append_assoc, append-nil}
use Rattle.std.proofs.lemmas.List.Elements.{filter-append}
use Rattle.aud_base.proofs.SameText.{same_text, itself_text}
use Rattle.std.specs.List.{list_any}
use Rattle.aud_client.specs.Stays.{namespace}
use Rattle.aud_client.specs.PlacedStays.{PlacedPacket, placed_in, goes_on_placed, whole_placed, last_placed, placed_after, placed_at, begins_placed, placed_from}

-- whether the stay is in the namespace
abbrev pub of_placed : List ℕ → List PlacedPacket → Bool
of_placed n [] = false
of_placed n (q ∷ s) = bytes_eq (namespace q.1) n

-- whether any of the stays is in the namespace
abbrev pub has_placed : List ℕ → List (List PlacedPacket) → Bool
has_placed n ss = list_any (of_placed n) ss

-- the last stay, after one packet more
abbrev pub joined : List PlacedPacket → PlacedPacket → List PlacedPacket
joined stay q = cond (goes_on_placed stay q) (stay ++ q ∷ []) (q ∷ [])

-- one packet more of the namespace
last_placed-more : (stay l : List PlacedPacket) (q : PlacedPacket) → last_placed stay (l ++ q ∷ []) ≡ joined (last_placed stay l) q
last_placed-more stay [] q = refl
last_placed-more stay (x ∷ l) q = last_placed-more (joined stay x) l q

-- a packet at the end, of the namespace or of another
pub placed_in-same : (n : List ℕ) (l : List PlacedPacket) (q : PlacedPacket) → bytes_eq (namespace q.1) n ≡ true → placed_in n (l ++ q ∷ []) ≡ placed_in n l ++ q ∷ []
placed_in-same n l q e = filter-append (λ p. bytes_eq (namespace p.1) n) l (q ∷ []) ∙ ap (λ b. placed_in n l ++ cond b (q ∷ []) []) e

pub placed_in-other : (n : List ℕ) (l : List PlacedPacket) (q : PlacedPacket) → bytes_eq (namespace q.1) n ≡ false → placed_in n (l ++ q ∷ []) ≡ placed_in n l
placed_in-other n l q e = filter-append (λ p. bytes_eq (namespace p.1) n) l (q ∷ []) ∙ ap (λ b. placed_in n l ++ cond b (q ∷ []) []) e ∙ append-nil _

-- the stay in which the packets end, with that packet
pub placed_after-same : (n : List ℕ) (l : List PlacedPacket) (q : PlacedPacket) → bytes_eq (namespace q.1) n ≡ true → placed_after n (l ++ q ∷ []) ≡ joined (placed_after n l) q
placed_after-same n l q e = ap (last_placed []) (placed_in-same n l q e) ∙ last_placed-more [] (placed_in n l) q

pub placed_after-other : (n : List ℕ) (l : List PlacedPacket) (q : PlacedPacket) → bytes_eq (namespace q.1) n ≡ false → placed_after n (l ++ q ∷ []) ≡ placed_after n l
placed_after-other n l q e = ap (last_placed []) (placed_in-other n l q e)

-- a packet that begins a stay stands in it alone
pub begun : (before : List PlacedPacket) (q : PlacedPacket) → begins_placed before q ≡ true → placed_after (namespace q.1) (before ++ q ∷ []) ≡ q ∷ []
begun before q e = placed_after-same (namespace q.1) before q (itself_text (namespace q.1)) ∙ ap (λ b. cond b (placed_after (namespace q.1) before ++ q ∷ []) (q ∷ [])) (not-true _ e)

-- a stay is in the namespace of its first packet
whole_placed-first : (n : List ℕ) (q : PlacedPacket) (s m : List PlacedPacket) → of_placed n (whole_placed (q ∷ s) m) ≡ bytes_eq (namespace q.1) n
whole_placed-first n q s [] = refl
whole_placed-first n q s (x ∷ m) = grind (arith, whole_placed-first n q (s ++ x ∷ []) m)

pub of_placed_at : (n : List ℕ) (before : List PlacedPacket) (q : PlacedPacket) (r : List PlacedPacket) → begins_placed before q ≡ true → of_placed n (placed_at before q r) ≡ bytes_eq (namespace q.1) n
of_placed_at n before q r e = ap (λ s. of_placed n (whole_placed s (placed_in (namespace q.1) r))) (begun before q e) ∙ whole_placed-first n q [] (placed_in (namespace q.1) r)

-- going through the packets m of a namespace, from the stay s: none begins another stay, and e is the last; or one does
pub record Pass (h : Bool) (s m e : List PlacedPacket) : Type 0 where
  pub on : h ≡ false → (x : List PlacedPacket) → whole_placed s (m ++ x) ≡ whole_placed e x
  pub stopped : h ≡ true → (x : List PlacedPacket) → whole_placed s (m ++ x) ≡ whole_placed s m

-- what going through the packets after gives in a namespace
abbrev pub Passed : List ℕ → List PlacedPacket → List PlacedPacket → Type 0
Passed n before after = Pass (has_placed n (placed_from before after)) (placed_after n before) (placed_in n after) (placed_after n (before ++ after))

-- which stays begin, after a packet of another namespace, one that goes on, one that begins a stay
has-other : (n : List ℕ) (before : List PlacedPacket) (q : PlacedPacket) (r : List PlacedPacket) → bytes_eq (namespace q.1) n ≡ false → has_placed n (placed_from (before ++ q ∷ []) r) ≡ has_placed n (placed_from before (q ∷ r))
has-other n before q r e = grind (arith, of_placed_at n before q r)

has-joins : (n : List ℕ) (before : List PlacedPacket) (q : PlacedPacket) (r : List PlacedPacket) → begins_placed before q ≡ false → has_placed n (placed_from (before ++ q ∷ []) r) ≡ has_placed n (placed_from before (q ∷ r))
has-joins n before q r stays_on = grind arith

has-begins : (n : List ℕ) (before : List PlacedPacket) (q : PlacedPacket) (r : List PlacedPacket) → bytes_eq (namespace q.1) n ≡ true → begins_placed before q ≡ true → has_placed n (placed_from before (q ∷ r)) ≡ true
has-begins n before q r e starts = grind (arith, of_placed_at n before q r)

-- a packet begins a stay where it goes on with none
pub begins-in : (n : List ℕ) (before : List PlacedPacket) (q : PlacedPacket) → bytes_eq (namespace q.1) n ≡ true → begins_placed before q ≡ not (goes_on_placed (placed_after n before) q)
begins-in n before q e = ap (λ m. not (goes_on_placed (placed_after m before) q)) (same_text (namespace q.1) n e)

-- packet after packet
pub passed : (n : List ℕ) (before after : List PlacedPacket) → Passed n before after
passed n before [] = record { on = λ none x. ap (λ l. whole_placed (placed_after n l) x) (sym (append-nil before)); stopped = λ some x. absurd (false≢true some) }
passed n before (q ∷ r) =
    let next = passed n (before ++ q ∷ []) r in
    record {
      on = λ none x. grind (arith, next.on, append_assoc before (q ∷ []) r, has-other n before q r, has-joins n before q r, has-begins n before q r, begins-in n before q, placed_after-same n before q, placed_after-other n before q);
      stopped = λ some x. grind (arith, next.stopped, has-other n before q r, has-joins n before q r, begins-in n before q, placed_after-same n before q, placed_after-other n before q);
    }
