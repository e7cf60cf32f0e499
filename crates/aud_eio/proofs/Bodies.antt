-- Bodies, piece after piece.
use Rattle.std.proofs.Common.{◌≡◌, ℕ, List, [], ◌∷◌, ◌++◌, map, Option, Some, None, Result, Ok, Err, refl, sym, ap, ◌∙◌}
use Rattle.std.proofs.lemmas.List.{append_assoc}
use Rattle.std.proofs.lemmas.Iterator.{YieldsList}
use Rattle.aud_eio.specs.declared.packet.EioFault.{EioFault}
use Rattle.aud_eio.specs.Packet.{Packet, engine_packet_of, engine_text}
use Rattle.aud_eio.specs.Body.{before, packets_of_texts, body_of}

-- packets after those that stand already
abbrev pub after : List Packet → Result (List Packet) EioFault → Result (List Packet) EioFault
after done (Ok packets) = Ok (done ++ packets)
after done (Err fault) = Err fault

-- after no packets stand the rest alone
pub after-nil : (rest : Result (List Packet) EioFault) → rest ≡ after [] rest
after-nil (Ok packets) = refl
after-nil (Err fault) = refl

-- a packet before the rest is one more after those done
after-one : (done : List Packet) (packet : Packet) (rest : Result (List Packet) EioFault)
    → after done (before (Ok packet) rest) ≡ after (done ++ packet ∷ []) rest
after-one done packet (Ok packets) = rw append_assoc refl
after-one done packet (Err fault) = refl

-- the next text is a packet
pub after-ok : (done : List Packet) (text : List ℕ) (texts : List (List ℕ)) (packet : Packet) → engine_packet_of text ≡ Ok packet
    → after done (packets_of_texts (text ∷ texts)) ≡ after (done ++ packet ∷ []) (packets_of_texts texts)
after-ok done text texts packet is = rw is (after-one done packet (packets_of_texts texts))

-- the next text is none
pub after-err : (done : List Packet) (text : List ℕ) (texts : List (List ℕ)) (fault : EioFault) → engine_packet_of text ≡ Err fault
    → after done (packets_of_texts (text ∷ texts)) ≡ Err fault
after-err done text texts fault is = rw is refl

module _ {S A B : Type 0} {steps : S → Option A → S → Type 0} {v : A → B} {s t : S} where
  -- what an iterator still yields, after one more item
  pub after_some : (x : A) (all : List B) → YieldsList steps v s all → steps s (Some x) t
      → (rest : List B) × (all ≡ v x ∷ rest) × YieldsList steps v t rest
  after_some x [] yields step = absurd (yields.runs x t step)
  after_some x (y ∷ ys) yields step =
      let next = yields.runs.1 x t step in (ys, (λ i. sym next.0 i ∷ ys), record { runs = next.1 })

  -- and at its end
  pub after_none : (all : List B) → YieldsList steps v s all → steps s None t → all ≡ []
  after_none [] yields step = refl
  after_none (y ∷ ys) yields step = absurd (yields.runs.0 t step)

-- what stands between packets and one more
abbrev pub gap : {A : Type 0} → List A → List ℕ
gap [] = []
gap (x ∷ xs) = 30 ∷ []

pub gap-map : {A B : Type 0} (f : A → B) (xs : List A) → gap (map f xs) ≡ gap xs
gap-map f [] = refl
gap-map f (x ∷ xs) = refl

-- after one packet or more, a separator stands before the next
pub gap-one_more : {A : Type 0} (xs : List A) (x : A) → 30 ∷ [] ≡ gap (xs ++ x ∷ [])
gap-one_more [] x = refl
gap-one_more (y ∷ ys) x = refl

-- the body of one packet more
pub body-one_more : (packets : List Packet) (packet : Packet)
    → body_of (packets ++ packet ∷ []) ≡ body_of packets ++ gap packets ++ engine_text packet
body-one_more [] packet = refl
body-one_more (first ∷ []) packet = rw append_assoc refl
body-one_more (first ∷ next ∷ packets) packet =
    ap (λ rest. engine_text first ++ 30 ∷ rest) (body-one_more (next ∷ packets) packet) ∙ simp append_assoc refl
