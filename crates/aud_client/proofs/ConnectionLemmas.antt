-- A connection's records, with one more at the end.
use Rattle.std.proofs.Common.{◌≡◌, ◌+◌, ◌<◌, ◌≤◌, ℕ, suc, Bool, false, cond, List, [], ◌∷◌, ◌++◌, length, map, flat_map, refl, sym, ap, ◌∙◌, subst, Option, None, Ok, Err, ◌||◌, ◌&&◌, nat_eq, append-nil, append_assoc, length-append, arith}
use Rattle.std.specs.List.{list_any, filter}
use Rattle.std.proofs.lemmas.Grind.{flat_map-append}
use Rattle.std.proofs.lemmas.Bool.{ne_eqb}
use Rattle.aud_tap.specs.declared.records.ClientRec.{ClientRec}
use Rattle.aud_tap.specs.declared.records.ClientRec.TheVariants.{Conn, TextIn, BytesIn, Poll, TextOut, Lost}
use Rattle.aud_sio.specs.Message.{Message, at}
use Rattle.aud_sio.specs.Wholes.{Answer, wholes_of}
use Rattle.aud_sio.specs.Assembly.{Waits, wholes_after}
use Rattle.aud_client.specs.TapPackets.{TapPacket, FromServer, server_packets, numbered_records, messages_at, packets_at, is_bad, is_refused, engine_packets, first_of}
use Rattle.aud_client.specs.Private.ConnectionRead.{AreBefore, HasGiven, HasRead, ReadsRecord, packets_read, bad_or}
use Rattle.aud_client.specs.declared.connection.Reader.{Reader}

-- numbers of other records
differ_up : (a b : ℕ) → a < b → nat_eq b a ≡ false
differ_up a b h = ne_eqb b a (λ (e : b ≡ a). omega arith)

-- a refusal stands at the record
abbrev refused_at : ℕ → List (ℕ × Answer) → Bool
refused_at number answers = list_any (λ (answer : ℕ × Answer). nat_eq answer.0 number && is_refused answer.1) answers

-- of the record with this number, answers at lesser numbers tell nothing
received-before : (n : ℕ) (xs ys : List (ℕ × Answer)) → AreBefore n xs → server_packets n (xs ++ ys) ≡ server_packets n ys
received-before n [] ys h = refl
received-before n ((place, Ok whole) ∷ xs) ys h = grind (arith, received-before n xs ys, h.0, h.1)
received-before n ((place, Err fault) ∷ xs) ys h = received-before n xs ys h.1

refused_at-before : (n : ℕ) (xs ys : List (ℕ × Answer)) → AreBefore n xs → refused_at n (xs ++ ys) ≡ refused_at n ys
refused_at-before n [] ys h = refl
refused_at-before n (x ∷ xs) ys h = grind (arith, refused_at-before n xs ys, h.0, h.1)

-- nor do those at greater ones
received-elsewhere : (k n : ℕ) (xs : List Answer) → k < n → server_packets k (at n xs) ≡ []
received-elsewhere k n [] h = refl
received-elsewhere k n (Ok whole ∷ xs) h = grind (arith, received-elsewhere k n xs h)
received-elsewhere k n (Err fault ∷ xs) h = received-elsewhere k n xs h

refused_at-elsewhere : (k n : ℕ) (xs : List Answer) → k < n → refused_at k (at n xs) ≡ false
refused_at-elsewhere k n [] h = refl
refused_at-elsewhere k n (x ∷ xs) h = ap (λ b. (b && is_refused x) || refused_at k (at n xs)) (differ_up k n h) ∙ refused_at-elsewhere k n xs h

-- answers at a later record add nothing to an earlier one
received-other : (k n : ℕ) (xs : List (ℕ × Answer)) (ys : List Answer) → k < n → server_packets k (xs ++ at n ys) ≡ server_packets k xs
received-other k n [] ys h = received-elsewhere k n ys h
received-other k n ((place, Ok whole) ∷ xs) ys h = ap (λ r. cond (nat_eq place k) (FromServer whole ∷ r) r) (received-other k n xs ys h)
received-other k n ((place, Err fault) ∷ xs) ys h = received-other k n xs ys h

refused_at-other : (k n : ℕ) (xs : List (ℕ × Answer)) (ys : List Answer) → k < n → refused_at k (xs ++ at n ys) ≡ refused_at k xs
refused_at-other k n [] ys h = refused_at-elsewhere k n ys h
refused_at-other k n (x ∷ xs) ys h = ap (λ r. (nat_eq x.0 k && is_refused x.1) || r) (refused_at-other k n xs ys h)

-- the packets at a record, by what was received there
packets_at-same : (xs ys : List (ℕ × Answer)) (k : ℕ) (rec : ClientRec) → server_packets k xs ≡ server_packets k ys → packets_at xs (k, rec) ≡ packets_at ys (k, rec)
packets_at-same xs ys k (Conn c) e = ap (at k) e
packets_at-same xs ys k (TextIn t) e = ap (at k) e
packets_at-same xs ys k (BytesIn b) e = ap (at k) e
packets_at-same xs ys k (Poll t) e = ap (at k) e
packets_at-same xs ys k (TextOut t) e = refl
packets_at-same xs ys k Lost e = ap (at k) e

-- the numbers go on
numbered-append : (first : ℕ) (xs ys : List ClientRec) → numbered_records first (xs ++ ys) ≡ numbered_records first xs ++ numbered_records (first + length xs) ys
numbered-append first [] ys = let e : first ≡ first + 0 = omega arith in ap (λ n. numbered_records n ys) e
numbered-append first (x ∷ xs) ys =
    let e : suc first + length xs ≡ first + suc (length xs) = omega arith in
    ap (λ r. (first, x) ∷ r) (numbered-append (suc first) xs ys ∙ ap (λ n. numbered_records (suc first) xs ++ numbered_records n ys) e)

-- what the first records give doesn't change with answers at a later one
packets-other : (n first : ℕ) (xs : List (ℕ × Answer)) (ys : List Answer) (recs : List ClientRec) → first + length recs ≤ n
    → flat_map (packets_at (xs ++ at n ys)) (numbered_records first recs) ≡ flat_map (packets_at xs) (numbered_records first recs)
packets-other n first xs ys [] h = refl
packets-other n first xs ys (rec ∷ recs) h = grind (arith, packets_at-same (xs ++ at n ys) xs first rec, received-other first n xs ys, packets-other n (suc first) xs ys recs)

bad-other : (n first : ℕ) (xs : List (ℕ × Answer)) (ys : List Answer) (recs : List ClientRec) → first + length recs ≤ n
    → filter (is_bad (xs ++ at n ys)) (numbered_records first recs) ≡ filter (is_bad xs) (numbered_records first recs)
bad-other n first xs ys [] h = refl
bad-other n first xs ys (rec ∷ recs) h = grind (arith, refused_at-other first n xs ys, bad-other n (suc first) xs ys recs)

abbrev first_bad : (ℕ × ClientRec → Bool) → List (ℕ × ClientRec) → Option ℕ
first_bad p recs = first_of (map (λ (rec : ℕ × ClientRec). rec.0) (filter p recs))

-- the first bad record, with one record more
first_bad-last : (p : ℕ × ClientRec → Bool) (recs : List (ℕ × ClientRec)) (last : ℕ × ClientRec) → first_bad p (recs ++ last ∷ []) ≡ bad_or (first_bad p recs) last.0 (p last)
first_bad-last p [] last = grind arith
first_bad-last p (rec ∷ recs) last = grind (arith, first_bad-last p recs last)

-- answers at the next number stand before the one after it
AreBefore-more : (n m : ℕ) (xs : List (ℕ × Answer)) (ys : List Answer) → n < m → AreBefore n xs → AreBefore m (xs ++ at n ys)
AreBefore-more n m [] [] l h = tt
AreBefore-more n m [] (y ∷ ys) l h = (l, AreBefore-more n m [] ys l tt)
AreBefore-more n m (x ∷ xs) ys l h = (omega (arith, h.0), AreBefore-more n m xs ys l h.1)

-- no record
pub HasRead-none : (first : ℕ) (reader : Reader) → reader.assembler ≡ [] → packets_read reader ≡ [] → reader.bad ≡ None → HasRead first [] reader
HasRead-none first reader held packets bad =
    record {
      answers = [];
      before = tt;
      continues = λ l. ap (λ h. wholes_after h l) (sym held);
      packets_are = packets;
      bad_is = bad;
      waits = subst Waits (sym held) refl;
    }

-- one record more, whose messages have these answers
pub HasGiven-by : (first : ℕ) (recs : List ClientRec) (rec : ClientRec) (packets after : List (ℕ × TapPacket)) (old new : Reader) (answers : List Answer) → HasGiven first recs packets old
    → ((l : List (ℕ × Message)) → wholes_after old.assembler (messages_at (first + length recs, rec) ++ l) ≡ at (first + length recs) answers ++ wholes_after new.assembler l)
    → new.bad ≡ bad_or old.bad (first + length recs) (is_bad (at (first + length recs) answers) (first + length recs, rec)) → (Waits old.assembler → Waits new.assembler)
    → after ≡ packets ++ packets_at (at (first + length recs) answers) (first + length recs, rec)
    → HasGiven first (recs ++ rec ∷ []) after new
HasGiven-by first recs rec packets after old new answers before continues bad_is waits after_is =
    let n = first + length recs in
    let all = numbered-append first recs (rec ∷ []) in
    record {
      answers = before.answers ++ at n answers;
      before = AreBefore-more n (first + length (recs ++ rec ∷ [])) before.answers answers (omega (arith, length-append recs (rec ∷ []))) before.before;
      continues = λ l.
          ap (λ r. wholes_of (flat_map messages_at r ++ l)) all
          ∙ ap (λ m. wholes_of (m ++ l)) (flat_map-append messages_at (numbered_records first recs) ((n, rec) ∷ []) ∙ ap (λ m. flat_map messages_at (numbered_records first recs) ++ m) (append-nil (messages_at (n, rec))))
          ∙ ap wholes_of (append_assoc (flat_map messages_at (numbered_records first recs)) (messages_at (n, rec)) l)
          ∙ before.continues (messages_at (n, rec) ++ l)
          ∙ ap (λ r. before.answers ++ r) (continues l)
          ∙ sym (append_assoc before.answers (at n answers) (wholes_after new.assembler l));
      packets_are =
          after_is
          ∙ ap (λ r. r ++ packets_at (at n answers) (n, rec)) before.packets_are
          ∙ ap (λ r. r ++ packets_at (at n answers) (n, rec)) (sym (packets-other n first before.answers answers recs (omega arith)))
          ∙ ap (λ r. flat_map (packets_at (before.answers ++ at n answers)) (numbered_records first recs) ++ r) (packets_at-same (at n answers) (before.answers ++ at n answers) n rec (sym (received-before n before.answers (at n answers) before.before)))
          ∙ ap (λ r. flat_map (packets_at (before.answers ++ at n answers)) (numbered_records first recs) ++ r) (sym (append-nil (packets_at (before.answers ++ at n answers) (n, rec))))
          ∙ sym (ap (flat_map (packets_at (before.answers ++ at n answers))) all ∙ flat_map-append (packets_at (before.answers ++ at n answers)) (numbered_records first recs) ((n, rec) ∷ []));
      bad_is =
          bad_is
          ∙ ap (λ b. bad_or b n (is_bad (at n answers) (n, rec))) (before.bad_is ∙ ap (λ r. first_of (map (λ (rec : ℕ × ClientRec). rec.0) r)) (sym (bad-other n first before.answers answers recs (omega arith))))
          ∙ ap (λ b. bad_or (first_bad (is_bad (before.answers ++ at n answers)) (numbered_records first recs)) n (is_refused (engine_packets rec) || b)) (sym (refused_at-before n before.answers (at n answers) before.before))
          ∙ sym (ap (first_bad (is_bad (before.answers ++ at n answers))) all ∙ first_bad-last (is_bad (before.answers ++ at n answers)) (numbered_records first recs) (n, rec));
      waits = waits before.waits;
    }

-- one record more
pub HasGiven-more : (first : ℕ) (recs : List ClientRec) (rec : ClientRec) (packets after : List (ℕ × TapPacket)) (old new : Reader) → HasGiven first recs packets old
    → (more : ReadsRecord (first + length recs) rec old new) → after ≡ packets ++ packets_at (at (first + length recs) more.answers) (first + length recs, rec)
    → HasGiven first (recs ++ rec ∷ []) after new
HasGiven-more first recs rec packets after old new before more after_is =
    HasGiven-by first recs rec packets after old new more.answers before more.continues more.bad_is more.waits after_is

-- one record more, and all packets are held
pub HasRead-more : (first : ℕ) (recs : List ClientRec) (rec : ClientRec) (old new : Reader) → HasRead first recs old → ReadsRecord (first + length recs) rec old new → HasRead first (recs ++ rec ∷ []) new
HasRead-more first recs rec old new before more = HasGiven-more first recs rec (packets_read old) (packets_read new) old new before more more.packets_are

-- a reader that holds fewer packets gave the same
pub HasGiven-same : (first : ℕ) (recs : List ClientRec) (packets : List (ℕ × TapPacket)) (old new : Reader) → new.assembler ≡ old.assembler → new.bad ≡ old.bad
    → HasGiven first recs packets old → HasGiven first recs packets new
HasGiven-same first recs packets old new assembler bad h =
    record {
      answers = h.answers;
      before = h.before;
      continues = λ l. h.continues l ∙ ap (λ held. h.answers ++ wholes_after held l) (sym assembler);
      packets_are = h.packets_are;
      bad_is = bad ∙ h.bad_is;
      waits = subst Waits (sym assembler) h.waits;
    }
