-- The stays of packets, and one packet more.
use Rattle.std.proofs.Common.{◌≡◌, ℕ, Bool, true, false, not, cond, List, [], ◌∷◌, ◌++◌, refl, sym, ap, ◌∙◌, arith}
use Rattle.std.specs.Str.{bytes_eq}
use Rattle.std.proofs.lemmas.Bool.{true≢false, false≢true, not-true}
use Rattle.std.proofs.lemmas.List.{append_assoc, append-nil}
use Rattle.std.proofs.lemmas.List.Elements.{filter-append}
use Rattle.aud_base.proofs.SameText.{same_text, itself_text, other_text}
use Rattle.aud_client.specs.TapPackets.{TapPacket}
use Rattle.aud_client.specs.Open.{of_namespace, has_stay}
use Rattle.aud_client.specs.Stays.{namespace, in_namespace, goes_on, whole_stay, last_stay, stay_after, stay_at, begins_stay, stays_from}

-- texts that differ, the other way round
pub swap_text : (a b : List ℕ) → bytes_eq a b ≡ false → bytes_eq b a ≡ false
swap_text a b e = other_text b a (λ same. true≢false (sym (itself_text a) ∙ ap (bytes_eq a) (sym same) ∙ e))

-- the last stay, after one packet more
abbrev pub joined : List TapPacket → TapPacket → List TapPacket
joined stay q = cond (goes_on stay q) (stay ++ q ∷ []) (q ∷ [])

-- one packet more of the namespace
last_stay-more : (stay l : List TapPacket) (q : TapPacket) → last_stay stay (l ++ q ∷ []) ≡ joined (last_stay stay l) q
last_stay-more stay [] q = refl
last_stay-more stay (x ∷ l) q = last_stay-more (joined stay x) l q

-- a packet at the end, of the namespace or of another
pub in_namespace-same : (n : List ℕ) (l : List TapPacket) (q : TapPacket) → bytes_eq (namespace q) n ≡ true → in_namespace n (l ++ q ∷ []) ≡ in_namespace n l ++ q ∷ []
in_namespace-same n l q e = filter-append (λ p. bytes_eq (namespace p) n) l (q ∷ []) ∙ ap (λ b. in_namespace n l ++ cond b (q ∷ []) []) e

pub in_namespace-other : (n : List ℕ) (l : List TapPacket) (q : TapPacket) → bytes_eq (namespace q) n ≡ false → in_namespace n (l ++ q ∷ []) ≡ in_namespace n l
in_namespace-other n l q e = filter-append (λ p. bytes_eq (namespace p) n) l (q ∷ []) ∙ ap (λ b. in_namespace n l ++ cond b (q ∷ []) []) e ∙ append-nil _

-- the stay in which the packets end, with that packet
pub stay_after-same : (n : List ℕ) (l : List TapPacket) (q : TapPacket) → bytes_eq (namespace q) n ≡ true → stay_after n (l ++ q ∷ []) ≡ joined (stay_after n l) q
stay_after-same n l q e = ap (last_stay []) (in_namespace-same n l q e) ∙ last_stay-more [] (in_namespace n l) q

pub stay_after-other : (n : List ℕ) (l : List TapPacket) (q : TapPacket) → bytes_eq (namespace q) n ≡ false → stay_after n (l ++ q ∷ []) ≡ stay_after n l
stay_after-other n l q e = ap (last_stay []) (in_namespace-other n l q e)

-- a packet that begins a stay stands in it alone
pub begun : (before : List TapPacket) (q : TapPacket) → begins_stay before q ≡ true → stay_after (namespace q) (before ++ q ∷ []) ≡ q ∷ []
begun before q e = stay_after-same (namespace q) before q (itself_text (namespace q)) ∙ ap (λ b. cond b (stay_after (namespace q) before ++ q ∷ []) (q ∷ [])) (not-true _ e)

-- a stay is in the namespace of its first packet
whole_stay-first : (n : List ℕ) (q : TapPacket) (s m : List TapPacket) → of_namespace n (whole_stay (q ∷ s) m) ≡ bytes_eq (namespace q) n
whole_stay-first n q s [] = refl
whole_stay-first n q s (x ∷ m) = grind (arith, whole_stay-first n q (s ++ x ∷ []) m)

pub of_stay_at : (n : List ℕ) (before : List TapPacket) (q : TapPacket) (r : List TapPacket) → begins_stay before q ≡ true → of_namespace n (stay_at before q r) ≡ bytes_eq (namespace q) n
of_stay_at n before q r e = ap (λ s. of_namespace n (whole_stay s (in_namespace (namespace q) r))) (begun before q e) ∙ whole_stay-first n q [] (in_namespace (namespace q) r)

-- going through the packets m of a namespace, from the stay s: none begins another stay, and e is the last; or one does
pub record Pass (h : Bool) (s m e : List TapPacket) : Type 0 where
  pub on : h ≡ false → (x : List TapPacket) → whole_stay s (m ++ x) ≡ whole_stay e x
  pub stopped : h ≡ true → (x : List TapPacket) → whole_stay s (m ++ x) ≡ whole_stay s m

-- what going through the packets after gives in a namespace
abbrev pub Passed : List ℕ → List TapPacket → List TapPacket → Type 0
Passed n before after = Pass (has_stay n (stays_from before after)) (stay_after n before) (in_namespace n after) (stay_after n (before ++ after))

-- which stays begin, after a packet of another namespace, one that goes on, one that begins a stay
has-other : (n : List ℕ) (before : List TapPacket) (q : TapPacket) (r : List TapPacket) → bytes_eq (namespace q) n ≡ false → has_stay n (stays_from (before ++ q ∷ []) r) ≡ has_stay n (stays_from before (q ∷ r))
has-other n before q r e = grind (arith, of_stay_at n before q r)

has-joins : (n : List ℕ) (before : List TapPacket) (q : TapPacket) (r : List TapPacket) → begins_stay before q ≡ false → has_stay n (stays_from (before ++ q ∷ []) r) ≡ has_stay n (stays_from before (q ∷ r))
has-joins n before q r stays_on = grind arith

has-begins : (n : List ℕ) (before : List TapPacket) (q : TapPacket) (r : List TapPacket) → bytes_eq (namespace q) n ≡ true → begins_stay before q ≡ true → has_stay n (stays_from before (q ∷ r)) ≡ true
has-begins n before q r e starts = grind (arith, of_stay_at n before q r)

-- a packet begins a stay where it goes on with none
pub begins-in : (n : List ℕ) (before : List TapPacket) (q : TapPacket) → bytes_eq (namespace q) n ≡ true → begins_stay before q ≡ not (goes_on (stay_after n before) q)
begins-in n before q e = ap (λ m. not (goes_on (stay_after m before) q)) (same_text (namespace q) n e)

-- packet after packet
pub passed : (n : List ℕ) (before after : List TapPacket) → Passed n before after
passed n before [] = record { on = λ none x. ap (λ l. whole_stay (stay_after n l) x) (sym (append-nil before)); stopped = λ some x. absurd (false≢true some) }
passed n before (q ∷ r) =
    let next = passed n (before ++ q ∷ []) r in
    record {
      on = λ none x. grind (arith, next.on, append_assoc before (q ∷ []) r, has-other n before q r, has-joins n before q r, has-begins n before q r, begins-in n before q, stay_after-same n before q, stay_after-other n before q);
      stopped = λ some x. grind (arith, next.stopped, has-other n before q r, has-joins n before q r, begins-in n before q, stay_after-same n before q, stay_after-other n before q);
    }
