-- What stands at the records of a stay gives what the stay tells.
use Rattle.std.proofs.Common.{◌≡◌, ℕ, suc, Bool, true, false, cond, List, [], ◌∷◌, ◌++◌, map, flat_map, refl, sym, subst, arith, inl, inr, unwrap_or, Option, Some, None, is_some}
use Rattle.std.specs.List.{All, AllZip, Contains, filter_map, cons_option}
use Rattle.std.specs.Option.{option_map}
use Rattle.std.specs.Str.{bytes_eq}
use Rattle.std.proofs.lemmas.List.Elements.{All-contains_itself}
use Rattle.aud_tap.specs.declared.records.StreamRec.{StreamRec}
use Rattle.aud_tap.specs.declared.records.ClientRec.{ClientRec}
use Rattle.aud_client.specs.TapPackets.{TapPacket, Connection, first_of, tap_packets}
use Rattle.aud_client.specs.Replies.{ReplySeen}
use Rattle.aud_client.specs.Stays.{namespace, is_reply}
use Rattle.aud_client.specs.StaySeen.{AskedSeen, namespace_of, stay_of, reply_of, before_reply, reply_at, ask_of, asked_of, last_of, frame_of}
use Rattle.aud_client.specs.Received.{stays_of, transcript_of}
use Rattle.aud_client.specs.PlacedStays.{PlacedPacket, forgotten, placed_in, goes_on_placed, whole_placed, last_placed, placed_after, placed_at, begins_placed, placed_from, placed_stays}
use Rattle.aud_client.specs.StayPlaces.{records_of, last_number, placed_before_reply, numbers_in, places_of, places_in}
use Rattle.aud_client.specs.AreRecordsOf.{placed_packets, GivesAt, MayGiveAt, StandsAt, AreRecordsOf}
use Rattle.aud_base.proofs.SameText.{same_text}
use Rattle.std.proofs.lemmas.Bool.{cases_Bool}
use Rattle.aud_client.proofs.PlacedIn.{begun}
use Rattle.aud_client.proofs.Forgetting.{told_placed_in}
use Rattle.aud_client.proofs.TellingPlaces.{is_reply-at}

-- P holds of each element, one after the other
abbrev pub Each : {X : Type 0} → (X → Type 0) → List X → Type 0
Each P [] = Unit {0}
Each P (x ∷ xs) = P x × Each P xs

module _ {X : Type 0} (P : X → Type 0) where
  pub each_of : (xs : List X) → All P xs → Each P xs
  each_of [] h = tt
  each_of (x ∷ xs) h = (h 0 x (omega arith), each_of xs (λ k d lt. h (suc k) d (omega (arith, lt))))

  each_append : (xs ys : List X) → Each P xs → Each P ys → Each P (xs ++ ys)
  each_append [] ys h k = k
  each_append (x ∷ xs) ys h k = (h.0, each_append xs ys h.1 k)

  each_left : (xs ys : List X) → Each P (xs ++ ys) → Each P xs
  each_left [] ys h = tt
  each_left (x ∷ xs) ys h = (h.0, each_left xs ys h.1)

  each_right : (xs ys : List X) → Each P (xs ++ ys) → Each P ys
  each_right [] ys h = h
  each_right (x ∷ xs) ys h = each_right xs ys h.1

  -- of one list or another
  each_cond : (b : Bool) (xs ys : List X) → (b ≡ true → Each P xs) → (b ≡ false → Each P ys) → Each P (cond b xs ys)
  each_cond true xs ys h k = h refl
  each_cond false xs ys h k = k refl

pub zip_append : {X Y : Type 0} (R : X → Y → Type 0) (xs : List X) (ys : List Y) (us : List X) (vs : List Y) → AllZip R xs ys → AllZip R us vs → AllZip R (xs ++ us) (ys ++ vs)
zip_append R [] [] us vs h k = k
zip_append R [] (y ∷ ys) us vs h k = absurd h
zip_append R (x ∷ xs) [] us vs h k = absurd h
zip_append R (x ∷ xs) (y ∷ ys) us vs h k = (h.0, zip_append R xs ys us vs h.1 k)

-- ---- each packet of a stay is one of the connection's

module _ (P : PlacedPacket → Type 0) where
  each_whole : (s l : List PlacedPacket) → Each P s → Each P l → Each P (whole_placed s l)
  each_whole s [] hs hl = hs
  each_whole s (q ∷ l) hs hl =
      each_cond P (goes_on_placed s q) (whole_placed (s ++ q ∷ []) l) s (λ on. each_whole (s ++ q ∷ []) l (each_append P s (q ∷ []) hs (hl.0, tt)) hl.1) (λ off. hs)

  each_last : (s l : List PlacedPacket) → Each P s → Each P l → Each P (last_placed s l)
  each_last s [] hs hl = hs
  each_last s (q ∷ l) hs hl =
      each_last (cond (goes_on_placed s q) (s ++ q ∷ []) (q ∷ [])) l
      (each_cond P (goes_on_placed s q) (s ++ q ∷ []) (q ∷ []) (λ on. each_append P s (q ∷ []) hs (hl.0, tt)) (λ off. (hl.0, tt))) hl.1

  each_in : (n : List ℕ) (l : List PlacedPacket) → Each P l → Each P (placed_in n l)
  each_in n [] h = tt
  each_in n (q ∷ l) h = each_cond P (bytes_eq (namespace q.1) n) (q ∷ placed_in n l) (placed_in n l) (λ is. (h.0, each_in n l h.1)) (λ other. each_in n l h.1)

  each_at : (before : List PlacedPacket) (q : PlacedPacket) (after : List PlacedPacket) → Each P (before ++ q ∷ []) → Each P after → Each P (placed_at before q after)
  each_at before q after hb ha =
      let n = namespace q.1 in
      each_whole (placed_after n (before ++ q ∷ [])) (placed_in n after) (each_last [] (placed_in n (before ++ q ∷ [])) tt (each_in n (before ++ q ∷ []) hb)) (each_in n after ha)

  each_from : (before after : List PlacedPacket) → Each P before → Each P after → Each (Each P) (placed_from before after)
  each_from before [] hb ha = tt
  each_from before (q ∷ after) hb ha =
      let more = each_append P before (q ∷ []) hb (ha.0, tt) in
      let rest = each_from (before ++ q ∷ []) after more ha.1 in
      each_cond (Each P) (begins_placed before q) (placed_at before q after ∷ placed_from (before ++ q ∷ []) after) (placed_from (before ++ q ∷ []) after)
      (λ begins. (each_at before q after more ha.1, rest)) (λ goes. rest)

  -- the packets in front of the reply
  each_before_reply : (s : List PlacedPacket) → Each P s → Each P (placed_before_reply s)
  each_before_reply [] h = tt
  each_before_reply (q ∷ s) h = each_cond P (is_reply q.1) [] (q ∷ placed_before_reply s) (λ is. tt) (λ other. (h.0, each_before_reply s h.1))

-- ---- a stay has a packet, and all are of one namespace

abbrev pub InText : List ℕ → PlacedPacket → Type 0
InText n q = namespace q.1 ≡ n

abbrev pub Starts : List PlacedPacket → Type 0
Starts [] = ⊥
Starts (q ∷ s) = Unit {0}

abbrev pub OneNamespace : List PlacedPacket → Type 0
OneNamespace s = (n : List ℕ) × Starts s × Each (InText n) s

each_named : (n : List ℕ) (l : List PlacedPacket) → Each (InText n) (placed_in n l)
each_named n [] = tt
each_named n (q ∷ l) =
    each_cond (InText n) (bytes_eq (namespace q.1) n) (q ∷ placed_in n l) (placed_in n l) (λ is. (same_text (namespace q.1) n is, each_named n l)) (λ other. each_named n l)

starts_whole : (q : PlacedPacket) (s l : List PlacedPacket) → Starts (whole_placed (q ∷ s) l)
starts_whole q s [] = tt
starts_whole q s (r ∷ l) = elim (cases_Bool (goes_on_placed (q ∷ s) r)) [
  | inl on ↦ subst (λ b. Starts (cond b (whole_placed (q ∷ (s ++ r ∷ [])) l) (q ∷ s))) (sym on) (starts_whole q (s ++ r ∷ []) l)
  | inr off ↦ subst (λ b. Starts (cond b (whole_placed (q ∷ (s ++ r ∷ [])) l) (q ∷ s))) (sym off) tt
]

one_at : (before : List PlacedPacket) (q : PlacedPacket) (after : List PlacedPacket) → begins_placed before q ≡ true → OneNamespace (placed_at before q after)
one_at before q after e =
    let n = namespace q.1 in
    subst (λ s. OneNamespace (whole_placed s (placed_in n after))) (sym (begun before q e))
    (n, starts_whole q [] (placed_in n after), each_whole (InText n) (q ∷ []) (placed_in n after) (refl, tt) (each_named n after))

one_from : (before after : List PlacedPacket) → Each OneNamespace (placed_from before after)
one_from before [] = tt
one_from before (q ∷ after) =
    each_cond OneNamespace (begins_placed before q) (placed_at before q after ∷ placed_from (before ++ q ∷ []) after) (placed_from (before ++ q ∷ []) after)
    (λ begins. (one_at before q after begins, one_from (before ++ q ∷ []) after)) (λ goes. one_from (before ++ q ∷ []) after)

-- ---- the packets in front of the reply, without their records

forgotten-before : (s : List PlacedPacket) → forgotten (placed_before_reply s) ≡ before_reply (forgotten s)
forgotten-before [] = refl
forgotten-before (q ∷ s) = grind (arith, forgotten-before s)

-- ---- a stay among the packets of a tap

module _ (placed : List PlacedPacket) where
  -- what packets give, and their records
  pub all_given : {X : Type 0} (gives : TapPacket → Option X) (s : List PlacedPacket) → Each (Contains placed) s → AllZip (GivesAt placed gives) (records_of gives s) (filter_map gives (forgotten s))
  all_given gives [] h = tt
  all_given {X = X} gives (q ∷ s) h = go (gives q.1) refl (all_given gives s h.1)
    where
      go : (o : Option X) → gives q.1 ≡ o → AllZip (GivesAt placed gives) (records_of gives s) (filter_map gives (forgotten s))
          → AllZip (GivesAt placed gives) (cons_option (option_map (λ x. q.0) o) (records_of gives s)) (cons_option o (filter_map gives (forgotten s)))
      go None e rest = rest
      go (Some x) e rest = (record { packet = q.1; stands = h.0; gives_it = e }, rest)

  -- the last of what was asked
  last_given : (ns : List ℕ) (xs : List AskedSeen) → AllZip (GivesAt placed ask_of) ns xs → MayGiveAt placed ask_of (last_number ns) (last_of xs)
  last_given [] [] h = tt
  last_given [] (x ∷ xs) h = absurd h
  last_given (n ∷ ns) [] h = absurd h
  last_given (n ∷ []) (x ∷ []) h = h.0
  last_given (n ∷ []) (x ∷ y ∷ ys) h = absurd h.1
  last_given (n ∷ m ∷ ns) (x ∷ []) h = absurd h.1
  last_given (n ∷ m ∷ ns) (x ∷ y ∷ ys) h = last_given (m ∷ ns) (y ∷ ys) h.1

  pub ask_given : (s : List PlacedPacket) → Each (Contains placed) s → MayGiveAt placed ask_of (last_number (records_of ask_of (placed_before_reply s))) (asked_of (forgotten s))
  ask_given s h =
      subst (λ ps. MayGiveAt placed ask_of (last_number (records_of ask_of (placed_before_reply s))) (last_of (filter_map ask_of ps))) (forgotten-before s)
      (last_given _ _ (all_given ask_of (placed_before_reply s) (each_before_reply (Contains placed) s h)))

  -- the reply
  pub reply_given : (s : List PlacedPacket) → Each (Contains placed) s → MayGiveAt placed reply_at (first_of (records_of reply_at s)) (reply_of (forgotten s))
  reply_given [] h = tt
  reply_given (q ∷ s) h =
      subst (λ b. MayGiveAt placed reply_at (first_of (records_of reply_at (q ∷ s))) (cond b (reply_at q.1) (reply_of (forgotten s)))) (is_reply-at q.1) (go (reply_at q.1) refl (reply_given s h.1))
    where
      go : (o : Option ReplySeen) → reply_at q.1 ≡ o → MayGiveAt placed reply_at (first_of (records_of reply_at s)) (reply_of (forgotten s))
          → MayGiveAt placed reply_at (first_of (cons_option (option_map (λ x. q.0) o) (records_of reply_at s))) (cond (is_some o) o (reply_of (forgotten s)))
      go None e rest = rest
      go (Some x) e rest = record { packet = q.1; stands = h.0; gives_it = e }

  -- the first packet
  first_stands : (s : List PlacedPacket) → Each (Contains placed) s → OneNamespace s → StandsAt placed (unwrap_or (first_of (numbers_in s)) 0) (namespace_of (forgotten s))
  first_stands [] h one = absurd one.1
  first_stands (q ∷ s) h one = record { packet = q.1; stands = h.0; is_in = refl }

  -- the last packet
  last_after : (n : List ℕ) (q : PlacedPacket) (s : List PlacedPacket) → Each (Contains placed) (q ∷ s) → Each (InText n) (q ∷ s) → StandsAt placed (unwrap_or (last_number (numbers_in (q ∷ s))) 0) n
  last_after n q [] h one = record { packet = q.1; stands = h.0; is_in = one.0 }
  last_after n q (r ∷ s) h one = last_after n r s h.1 one.1

  last_stands : (s : List PlacedPacket) → Each (Contains placed) s → OneNamespace s → StandsAt placed (unwrap_or (last_number (numbers_in s)) 0) (namespace_of (forgotten s))
  last_stands [] h one = absurd one.1
  last_stands (q ∷ s) h one = subst (StandsAt placed (unwrap_or (last_number (numbers_in (q ∷ s))) 0)) (sym one.2.0) (last_after one.0 q s h one.2)

  module _ (stream : List StreamRec) where
    -- all that a stay tells
    stay_given : (c : ℕ) (s : List PlacedPacket) → Each (Contains placed) s → OneNamespace s → AreRecordsOf stream placed (places_of stream s) (stay_of stream c (forgotten s))
    stay_given c s h one = record { first_is = first_stands s h one; last_is = last_stands s h one; frames_are = all_given (frame_of stream) s h; ask_is = ask_given s h; reply_is = reply_given s h }

    stays_given : (c : ℕ) (ss : List (List PlacedPacket)) → Each (Each (Contains placed)) ss → Each OneNamespace ss
        → AllZip (AreRecordsOf stream placed) (map (places_of stream) ss) (map (λ stay. stay_of stream c (forgotten stay)) ss)
    stays_given c [] h one = tt
    stays_given c (s ∷ ss) h one = (stay_given c s h.0 one.0, stays_given c ss h.1 one.1)

    -- of a connection
    connection_given : (connection : Connection) → Each (Contains placed) connection.packets → AllZip (AreRecordsOf stream placed) (places_in stream connection) (stays_of stream connection)
    connection_given connection h =
        subst (AllZip (AreRecordsOf stream placed) (places_in stream connection)) (told_placed_in stream connection.c connection.packets)
        (stays_given connection.c (placed_stays connection.packets) (each_from (Contains placed) [] connection.packets tt h) (one_from [] connection.packets))

    -- connection after connection
    connections_given : (connections : List Connection) → Each (Contains placed) (flat_map (λ (connection : Connection). connection.packets) connections)
        → AllZip (AreRecordsOf stream placed) (flat_map (places_in stream) connections) (flat_map (stays_of stream) connections)
    connections_given [] h = tt
    connections_given (connection ∷ connections) h =
        let packets = flat_map (λ (x : Connection). x.packets) connections in
        zip_append (AreRecordsOf stream placed) (places_in stream connection) (stays_of stream connection) (flat_map (places_in stream) connections) (flat_map (stays_of stream) connections)
        (connection_given connection (each_left (Contains placed) connection.packets packets h))
        (connections_given connections (each_right (Contains placed) connection.packets packets h))

-- of a tap
pub tap_given : (stream : List StreamRec) (recs : List ClientRec)
    → AllZip (AreRecordsOf stream (placed_packets recs)) (transcript_of stream recs).places (transcript_of stream recs).stays
tap_given stream recs = connections_given (placed_packets recs) stream (tap_packets recs).connections (each_of (Contains (placed_packets recs)) (placed_packets recs) (All-contains_itself (placed_packets recs)))
