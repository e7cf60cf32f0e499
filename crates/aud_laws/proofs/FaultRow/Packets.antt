-- The records of a client's tap at which packets stand, and the first that is none: they are there, in a connection.
use Rattle.std.proofs.Common.{◌≡◌, ◌<◌, ◌≤◌, ◌+◌, ◌-◌, ℕ, zero, suc, Bool, true, false, cond, List, [], ◌∷◌, ◌++◌, map, flat_map, length, refl, sym, ap, ◌∙◌, subst, arith, append_assoc, append-nil, length-append, nat_lt, Some, is_some, slice_get}
use Rattle.std.specs.List.{Contains, filter}
use Rattle.std.proofs.lemmas.Option.{none-some, same_Some, slice_get_within}
use Rattle.aud_tap.specs.declared.records.ClientRec.{ClientRec}
use Rattle.aud_tap.specs.declared.records.ClientRec.TheVariants.{Conn, TextIn, BytesIn, Poll, TextOut, Lost}
use Rattle.aud_base.specs.Lists.{numbers_from}
use Rattle.std.specs.Option.{option_and_then}
use Rattle.std.proofs.lemmas.List.Elements.{filter-append}
use Rattle.aud_base.proofs.Lists.{after_these}
use Rattle.aud_base.proofs.Numbers.{numbers_from-more}
use Rattle.aud_sio.specs.Message.{at}
use Rattle.aud_sio.specs.Wholes.{Answer}
use Rattle.aud_client.specs.TapPackets.{Connection, numbered_records, until_end, connections_in, answers_in, packets_at, packets_in, is_bad, bad_in, first_of, tap_packets}
use Rattle.aud_client.specs.AreRecordsOf.{placed_packets}
use Rattle.aud_client.specs.PlacedStays.{PlacedPacket}
use Rattle.aud_rows.specs.Marks.{is_mark, marks_of, last_of, last_before, conn_of, open_before}

-- ---- what holds of each number

-- P holds of the number of each
abbrev EachOf : {X : Type 0} → (ℕ → Type 0) → List (ℕ × X) → Type 0
EachOf P [] = Unit {0}
EachOf P (q ∷ qs) = P q.0 × EachOf P qs

-- and of those in each connection
abbrev EachIn : (ℕ → Type 0) → List (ℕ × List (ℕ × ClientRec)) → Type 0
EachIn P [] = Unit {0}
EachIn P (cut ∷ cuts) = EachOf P cut.1 × EachIn P cuts

module _ (P : ℕ → Type 0) where
  each_contains : {X : Type 0} (xs : List (ℕ × X)) (q : ℕ × X) → EachOf P xs → Contains xs q → P q.0
  each_contains [] q h (k, within, is) = absurd (omega (arith, within))
  each_contains {X = X} (x ∷ xs) q h (zero, within, is) = subst (λ (z : ℕ × X). P z.0) is h.0
  each_contains (x ∷ xs) q h (suc k, within, is) = each_contains xs q h.1 (k, omega (arith, within), is)

  each_append : {X : Type 0} (xs ys : List (ℕ × X)) → EachOf P xs → EachOf P ys → EachOf P (xs ++ ys)
  each_append [] ys h k = k
  each_append (x ∷ xs) ys h k = (h.0, each_append xs ys h.1 k)

  each_at : {X : Type 0} (n : ℕ) (xs : List X) → P n → EachOf P (at n xs)
  each_at n [] p = tt
  each_at n (x ∷ xs) p = (p, each_at n xs p)

  -- packets
  at_record : (answers : List (ℕ × Answer)) (n : ℕ) (r : ClientRec) → P n → EachOf P (packets_at answers (n, r))
  at_record answers n (Conn c) p = each_at n _ p
  at_record answers n (TextIn t) p = each_at n _ p
  at_record answers n (BytesIn b) p = each_at n _ p
  at_record answers n (Poll t) p = each_at n _ p
  at_record answers n (TextOut t) p = each_at n _ p
  at_record answers n Lost p = each_at n _ p

  at_records : (answers : List (ℕ × Answer)) (recs : List (ℕ × ClientRec)) → EachOf P recs → EachOf P (flat_map (packets_at answers) recs)
  at_records answers [] h = tt
  at_records answers ((n, r) ∷ recs) h =
      each_append (packets_at answers (n, r)) (flat_map (packets_at answers) recs) (at_record answers n r h.0) (at_records answers recs h.1)

  placed_in_cuts : (cuts : List (ℕ × List (ℕ × ClientRec))) → EachIn P cuts
      → EachOf P (flat_map (λ (connection : Connection). connection.packets) (map (λ (cut : ℕ × List (ℕ × ClientRec)). record { c = cut.0; packets = packets_in cut.1 }) cuts))
  placed_in_cuts [] h = tt
  placed_in_cuts (cut ∷ cuts) h = each_append (packets_in cut.1) _ (at_records (answers_in cut.1) cut.1 h.0) (placed_in_cuts cuts h.1)

  -- records that are no packets
  first_bad : (bad : ℕ × ClientRec → Bool) (recs : List (ℕ × ClientRec)) (more : List ℕ) (n : ℕ) → EachOf P recs → (first_of more ≡ Some n → P n)
      → first_of (map (λ (r : ℕ × ClientRec). r.0) (filter bad recs) ++ more) ≡ Some n → P n
  first_bad bad [] more n h k e = k e
  first_bad bad (r ∷ recs) more n h k e = go (bad r) (first_bad bad recs more n h.1 k) e
    where
      go : (b : Bool) → (first_of (map (λ (q : ℕ × ClientRec). q.0) (filter bad recs) ++ more) ≡ Some n → P n)
          → first_of (map (λ (q : ℕ × ClientRec). q.0) (cond b (r ∷ filter bad recs) (filter bad recs)) ++ more) ≡ Some n → P n
      go true rest e = subst P (same_Some r.0 n e) h.0
      go false rest e = rest e

  bad_in_cuts : (cuts : List (ℕ × List (ℕ × ClientRec))) (n : ℕ) → EachIn P cuts
      → first_of (flat_map (λ (cut : ℕ × List (ℕ × ClientRec)). bad_in cut.1) cuts) ≡ Some n → P n
  bad_in_cuts [] n h e = absurd (none-some n e)
  bad_in_cuts (cut ∷ cuts) n h e = first_bad (is_bad (answers_in cut.1)) cut.1 _ n h.0 (bad_in_cuts cuts n h.1) e

-- ---- the connection that goes on in front of a record

-- of ascending numbers those below one of them
none_below : (p : ℕ → Bool) (k first count : ℕ) → k ≤ first → filter (λ n. nat_lt n k) (filter p (numbers_from first count)) ≡ []
none_below p k first zero h = refl
none_below p k first (suc count) h = grind (arith, none_below p k (suc first) count, h)

below : (p : ℕ → Bool) (k first count more : ℕ) → first + count ≡ k → filter (λ n. nat_lt n k) (filter p (numbers_from first (count + more))) ≡ filter p (numbers_from first count)
below p k first zero more e = ap (λ m. filter (λ n. nat_lt n k) (filter p (numbers_from first m))) (omega arith) ∙ none_below p k first more (omega (arith, e))
below p k first (suc count) more e =
    let longer : suc count + more ≡ suc (count + more) = omega arith in
    let next : suc first + count ≡ k = omega (arith, e) in
    let within : nat_lt first k ≡ true = grind (arith, e) in
    ap (λ m. filter (λ n. nat_lt n k) (filter p (numbers_from first m))) longer ∙ grind (arith, below p k (suc first) count more next, within)

last_pushed : (xs : List ℕ) (x : ℕ) → last_of (xs ++ x ∷ []) ≡ Some x
last_pushed xs x =
    let one : length (xs ++ x ∷ []) - 1 ≡ length xs = omega (arith, length-append xs (x ∷ [])) in
    ap (slice_get (xs ++ x ∷ [])) one ∙ after_these xs [] x

module _ (recs : List ClientRec) where
  -- the record with this number begins a connection, or loses it
  abbrev marks_at : ℕ → Bool
  marks_at n = is_mark (slice_get recs n)

  marks_before : (n : ℕ) → n ≤ length recs → filter (λ mark. nat_lt mark n) (marks_of recs) ≡ filter marks_at (numbers_from 0 n)
  marks_before n h =
      let all : length recs ≡ n + (length recs - n) = omega (arith, h) in
      ap (λ m. filter (λ mark. nat_lt mark n) (filter marks_at (numbers_from 0 m))) all ∙ below marks_at n 0 n (length recs - n) (omega arith)

  marks_past : (n : ℕ) → n < length recs → filter (λ mark. nat_lt mark (suc n)) (marks_of recs) ≡ filter marks_at (numbers_from 0 n) ++ cond (marks_at n) (n ∷ []) []
  marks_past n h =
      let next : suc n ≡ n + 1 = omega arith in
      marks_before (suc n) (omega (arith, h)) ∙ ap (λ m. filter marks_at (numbers_from 0 m)) next ∙ ap (filter marks_at) (numbers_from-more n) ∙ filter-append marks_at (numbers_from 0 n) (n ∷ [])

  -- past a `conn` it is the one that begins there
  open_past_conn : (n c : ℕ) → slice_get recs n ≡ Some (Conn c) → open_before recs (suc n) ≡ Some c
  open_past_conn n c there =
      let marked : marks_at n ≡ true = ap is_mark there in
      let marks = marks_past n (slice_get_within recs n (Conn c) there) ∙ ap (λ b. filter marks_at (numbers_from 0 n) ++ cond b (n ∷ []) []) marked in
      let last : last_before (suc n) (marks_of recs) ≡ Some n = ap last_of marks ∙ last_pushed (filter marks_at (numbers_from 0 n)) n in
      ap (option_and_then (λ mark. conn_of (slice_get recs mark))) last ∙ ap conn_of there

  -- past another record but a `lost` it is the one in front of it
  open_past : (n : ℕ) (r : ClientRec) → slice_get recs n ≡ Some r → is_mark (Some r) ≡ false → open_before recs (suc n) ≡ open_before recs n
  open_past n r there other =
      let within = slice_get_within recs n r there in
      let unmarked : marks_at n ≡ false = ap is_mark there ∙ other in
      let marks = marks_past n within ∙ ap (λ b. filter marks_at (numbers_from 0 n) ++ cond b (n ∷ []) []) unmarked ∙ append-nil _ ∙ sym (marks_before n (omega (arith, within))) in
      ap (λ ms. option_and_then (λ mark. conn_of (slice_get recs mark)) (last_of ms)) marks

  -- ---- the records of connections

  -- there is a record with this number, and a connection goes on in front of it
  pub record IsInConnection (n : ℕ) : Type 0 where
    pub rec : ClientRec
    pub there : slice_get recs n ≡ Some rec
    pub is_open : is_some (open_before recs n) ≡ true

  -- one record more in front
  moved : (before after : List ClientRec) (r : ClientRec) → recs ≡ before ++ r ∷ after → recs ≡ (before ++ r ∷ []) ++ after
  moved before after r is = is ∙ sym (append_assoc before (r ∷ []) after)

  longer : (before : List ClientRec) (r : ClientRec) (n : ℕ) → length before ≡ n → length (before ++ r ∷ []) ≡ suc n
  longer before r n size = omega (arith, length-append before (r ∷ []), size)

  stands : (before after : List ClientRec) (r : ClientRec) (n : ℕ) → length before ≡ n → recs ≡ before ++ r ∷ after → slice_get recs n ≡ Some r
  stands before after r n size is = ap (λ xs. slice_get xs n) is ∙ sym (ap (slice_get (before ++ r ∷ after)) size) ∙ after_these before after r

  -- those before the end of the connection that goes on
  in_one : (before after : List ClientRec) (n : ℕ) → length before ≡ n → recs ≡ before ++ after → is_some (open_before recs n) ≡ true
      → EachOf IsInConnection (until_end (numbered_records n after))
  in_one before [] n size is on = tt
  in_one before (r ∷ after) n size is on =
      go r (stands before after r n size is) (in_one (before ++ r ∷ []) after (suc n) (longer before r n size) (moved before after r is))
    where
      going : (x : ClientRec) → slice_get recs n ≡ Some x → is_mark (Some x) ≡ false → (is_some (open_before recs (suc n)) ≡ true → EachOf IsInConnection (until_end (numbered_records (suc n) after)))
          → EachOf IsInConnection ((n, x) ∷ until_end (numbered_records (suc n) after))
      going x at other rest = (record { rec = x; there = at; is_open = on }, rest (ap is_some (open_past n x at other) ∙ on))

      go : (x : ClientRec) → slice_get recs n ≡ Some x → (is_some (open_before recs (suc n)) ≡ true → EachOf IsInConnection (until_end (numbered_records (suc n) after)))
          → EachOf IsInConnection (until_end ((n, x) ∷ numbered_records (suc n) after))
      go (Conn c) at rest = tt
      go (TextIn t) at rest = going (TextIn t) at refl rest
      go (BytesIn b) at rest = going (BytesIn b) at refl rest
      go (Poll t) at rest = going (Poll t) at refl rest
      go (TextOut t) at rest = going (TextOut t) at refl rest
      go Lost at rest = tt

  -- those of all connections
  in_all : (before after : List ClientRec) (n : ℕ) → length before ≡ n → recs ≡ before ++ after → EachIn IsInConnection (connections_in (numbered_records n after))
  in_all before [] n size is = tt
  in_all before (r ∷ after) n size is =
      go r (stands before after r n size is) (in_one (before ++ r ∷ []) after (suc n) (longer before r n size) (moved before after r is))
      (in_all (before ++ r ∷ []) after (suc n) (longer before r n size) (moved before after r is))
    where
      go : (x : ClientRec) → slice_get recs n ≡ Some x → (is_some (open_before recs (suc n)) ≡ true → EachOf IsInConnection (until_end (numbered_records (suc n) after)))
          → EachIn IsInConnection (connections_in (numbered_records (suc n) after)) → EachIn IsInConnection (connections_in ((n, x) ∷ numbered_records (suc n) after))
      go (Conn c) at one rest = (one (ap is_some (open_past_conn n c at)), rest)
      go (TextIn t) at one rest = rest
      go (BytesIn b) at one rest = rest
      go (Poll t) at one rest = rest
      go (TextOut t) at one rest = rest
      go Lost at one rest = rest

  cuts_are : EachIn IsInConnection (connections_in (numbered_records 0 recs))
  cuts_are = in_all [] recs 0 refl refl

  -- at each of the tap's packets
  pub packet_is : (q : PlacedPacket) → Contains (placed_packets recs) q → IsInConnection q.0
  packet_is q is = each_contains IsInConnection (placed_packets recs) q (placed_in_cuts IsInConnection (connections_in (numbered_records 0 recs)) cuts_are) is

  -- at the first record that is no packet
  pub bad_is : (n : ℕ) → (tap_packets recs).bad ≡ Some n → IsInConnection n
  bad_is n e = bad_in_cuts IsInConnection (connections_in (numbered_records 0 recs)) n cuts_are e
