-- Attachments that are awaited.
use Rattle.std.proofs.Common.{◌≡◌, ℕ, zero, suc, ◌+◌, ◌-◌, ◌<◌, ◌≤◌, cond, Bool, true, false, List, [], ◌∷◌, ◌++◌, length, flat_map, drop, take, get_or, slice_get, refl, sym, ap, ◌∙◌, subst, arith, Option, Some, None, unwrap_or, Result, Ok, Err}
use Rattle.std.specs.Option.{option_and_then, option_or}
use Rattle.std.specs.Result.{result_ok}
use Rattle.std.proofs.lemmas.List.{at_drop_more, length-drop, length-take}
use Rattle.std.proofs.Math.Nat.{min-le_left}
use Rattle.aud_tap.specs.declared.records.ClientRec.{ClientRec}
use Rattle.aud_eio.specs.Packet as eio
use Rattle.aud_eio.specs.declared.packet.EioFault.{EioFault}
use Rattle.aud_sio.specs.Message.{Message, Text, Bytes, at, messages_of}
use Rattle.aud_sio.specs.Packet.{packet_of}
use Rattle.aud_sio.specs.Wholes.{leading_bytes}
use Rattle.aud_client.specs.TapPackets.{engine_packets, messages_at, messages_or_none, numbered_records, tap_packets}
use Rattle.aud_node.specs.Cluster.{Cluster}
use Rattle.aud_rows.specs.Lacking.{attachments_in, last_text, missing_at_text, messages_before, messages_given, messages_in, lacks_said, lacking_after, lacking_said, lacking_in, lacking_at}
use Rattle.aud_rows.specs.Marks.{begin_from, is_mark, open_before}
use Rattle.aud_rows.specs.ClientSays.{ClientSays}
use Rattle.aud_rows.specs.Private.Awaited.{awaited}
use Rattle.aud_rows.specs.Seen.{Lacks}
use Rattle.aud_rows.specs.Rows.{Said}
use Rattle.aud_rows.proofs.TrueRows.{SaysAt}
use Rattle.aud_rows.proofs.EndsLemmas.{in_the_tap}

-- ---- message after message

-- messages and then others
pub awaited-append : (last : ℕ × ℕ) (xs ys : List (ℕ × Message)) → awaited last (xs ++ ys) ≡ awaited (awaited last xs) ys
awaited-append last [] ys = refl
awaited-append last ((place, Text text) ∷ xs) ys = awaited-append (place, attachments_in (packet_of text)) xs ys
awaited-append last ((place, Bytes blob) ∷ xs) ys = awaited-append (last.0, last.1 - 1) xs ys

-- past one record
pub awaited-next : (last : ℕ × ℕ) (begin : ℕ) (recs : List ClientRec) (i : ℕ) (d : ClientRec) → i < length recs
    → awaited last (flat_map messages_at (numbered_records (begin + i) (drop i recs)))
    ≡ awaited (awaited last (messages_at (begin + i, get_or recs i d))) (flat_map messages_at (numbered_records (begin + (i + 1)) (drop (i + 1) recs)))
awaited-next last begin recs i d lt =
    let rest = drop (i + 1) recs in
    let here = messages_at (begin + i, get_or recs i d) in
    let next : suc (begin + i) ≡ begin + (i + 1) = omega arith in
    at_drop_more (λ (rs : List ClientRec). awaited last (flat_map messages_at (numbered_records (begin + i) rs))) recs i d lt
    ∙ awaited-append last here (flat_map messages_at (numbered_records (suc (begin + i)) rest))
    ∙ ap (λ n. awaited (awaited last here) (flat_map messages_at (numbered_records n rest))) next

-- where no text comes, all are bytes
or-some : (o : Option (ℕ × ℕ)) (x : ℕ × ℕ) → option_or o (Some x) ≡ None → ⊥
or-some None x e = cc
or-some (Some y) x e = cc

all-bytes : (l : List (ℕ × Message)) → last_text l ≡ None → length (leading_bytes l) ≡ length l
all-bytes [] e = refl
all-bytes ((place, Text text) ∷ l) e = absurd (or-some (last_text l) (place, attachments_in (packet_of text) - length (leading_bytes l)) e)
all-bytes ((place, Bytes blob) ∷ l) e = ap suc (all-bytes l e)

or-last : (o : Option (ℕ × ℕ)) (x y z : ℕ × ℕ) → (o ≡ None → x ≡ y) → unwrap_or o x ≡ unwrap_or (option_or o (Some y)) z
or-last None x y z f = f refl
or-last (Some v) x y z f = refl

-- what is awaited after messages is what does not follow their last text; where they have none, each brought one
awaited-is : (place count : ℕ) (l : List (ℕ × Message)) → awaited (place, count) l ≡ unwrap_or (last_text l) (place, count - length l)
awaited-is place count [] =
    let none : count ≡ count - 0 = omega arith in
    ap (λ n. (place, n)) none
awaited-is place count ((there, Text text) ∷ l) =
    let many = attachments_in (packet_of text) in
    awaited-is there many l
    ∙ or-last (last_text l) (there, many - length l) (there, many - length (leading_bytes l)) (place, count - suc (length l)) (λ e. ap (λ n. (there, many - n)) (sym (all-bytes l e)))
awaited-is place count ((there, Bytes blob) ∷ l) =
    let one : count - 1 - length l ≡ count - suc (length l) = omega arith in
    awaited-is place (count - 1) l ∙ ap (λ n. unwrap_or (last_text l) (place, n)) one

missing-none : (l : List Message) → missing_at_text 0 l ≡ 0
missing-none [] = refl
missing-none (Text text ∷ l) = refl
missing-none (Bytes blob ∷ l) = missing-none l

-- ---- a record's messages

-- those of its packets, where it has some
pub at-packets : (number : ℕ) (rec : ClientRec) (packets : List eio.Packet) → Some packets ≡ result_ok (engine_packets rec) → messages_at (number, rec) ≡ at number (flat_map messages_of packets)
at-packets number rec packets e = go (engine_packets rec) e
  where
    go : (r : Result (List eio.Packet) EioFault) → Some packets ≡ result_ok r → messages_or_none number r ≡ at number (flat_map messages_of packets)
    go (Ok given) e =
        let same : given ≡ packets = cc in
        ap (λ (ps : List eio.Packet). at number (flat_map messages_of ps)) same
    go (Err fault) e = absurd (cc)

-- none, where it is refused
pub at-none : (number : ℕ) (rec : ClientRec) → None ≡ result_ok (engine_packets rec) → messages_at (number, rec) ≡ []
at-none number rec e = go (engine_packets rec) e
  where
    go : (r : Result (List eio.Packet) EioFault) → None ≡ result_ok r → messages_or_none number r ≡ []
    go (Ok given) e = absurd (cc)
    go (Err fault) e = refl

given-packets : (r : Result (List eio.Packet) EioFault) (packets : List eio.Packet) → Some packets ≡ result_ok r → messages_given r ≡ flat_map messages_of packets
given-packets (Ok given) packets e =
    let same : given ≡ packets = cc in
    ap (λ (ps : List eio.Packet). flat_map messages_of ps) same
given-packets (Err fault) packets e = absurd (cc)

-- ---- the record that is said

module _ (recs : List ClientRec) (number : ℕ) where
  -- by what is awaited
  pub said-by : (conn : ℕ) (rec : ClientRec) (packets : List eio.Packet) (last : ℕ × ℕ) (missing : ℕ)
      → Some conn ≡ open_before recs number → slice_get recs number ≡ Some rec → Some packets ≡ result_ok (engine_packets rec)
      → last ≡ awaited (0, 0) (messages_before (take number recs)) → missing ≡ missing_at_text last.1 (flat_map messages_of packets)
      → lacks_said conn last.0 missing ≡ lacking_said recs number
  said-by conn rec packets last missing there is given was left =
      let l = messages_before (take number recs) in
      let none : 0 - length l ≡ 0 = omega arith in
      let came : messages_in (slice_get recs number) ≡ flat_map messages_of packets = ap messages_in is ∙ given-packets (engine_packets rec) packets given in
      ap (lacks_said conn last.0) (left ∙ ap (missing_at_text last.1) (sym came))
      ∙ go (last_text l) (was ∙ awaited-is 0 0 l ∙ ap (λ n. unwrap_or (last_text l) (0, n)) none)
      ∙ ap (λ (o : Option ℕ). option_and_then (λ conn. option_and_then (lacking_after recs number conn) (last_text l)) o) there
    where
      go : (o : Option (ℕ × ℕ)) → last ≡ unwrap_or o (0, 0) → lacking_after recs number conn last ≡ option_and_then (lacking_after recs number conn) o
      go None e = ap (lacking_after recs number conn) e ∙ ap (lacks_said conn 0) (missing-none (messages_in (slice_get recs number)))
      go (Some given) e = ap (lacking_after recs number conn) e

-- attachments are missing
pub some-lacks : (conn earlier missing : ℕ) → ¬ (missing ≡ 0) → Some (earlier, Lacks conn missing) ≡ lacks_said conn earlier missing
some-lacks conn earlier zero h = absurd (h refl)
some-lacks conn earlier (suc missing) h = refl

-- ---- it stands before the record whose text comes

abbrev Below : ℕ → List (ℕ × Message) → Type 0
Below k [] = Unit {0}
Below k (message ∷ l) = (message.0 < k) × Below k l

below-append : (k : ℕ) (xs ys : List (ℕ × Message)) → Below k xs → Below k ys → Below k (xs ++ ys)
below-append k [] ys h g = g
below-append k (message ∷ xs) ys h g = (h.0, below-append k xs ys h.1 g)

last-below : (k : ℕ) (l : List (ℕ × Message)) → Below k l → (last : ℕ × ℕ) → last_text l ≡ Some last → last.0 < k
last-below k [] h last e = absurd (cc)
last-below k ((place, Text text) ∷ l) h last e = go (last_text l) (last-below k l h.1) e
  where
    go : (o : Option (ℕ × ℕ)) → ((x : ℕ × ℕ) → o ≡ Some x → x.0 < k) → option_or o (Some (place, attachments_in (packet_of text) - length (leading_bytes l))) ≡ Some last → last.0 < k
    go (Some x) f e = f last e
    go None f e =
        let same : (place, attachments_in (packet_of text) - length (leading_bytes l)) ≡ last = cc in
        subst (λ (x : ℕ × ℕ). x.0 < k) same h.0
last-below k ((place, Bytes blob) ∷ l) h last e = last-below k l h.1 last e

at-below : (k number : ℕ) (ms : List Message) → number < k → Below k (at number ms)
at-below k number [] lt = tt
at-below k number (m ∷ ms) lt = (lt, at-below k number ms lt)

none-below : (k number : ℕ) (r : Result (List eio.Packet) EioFault) → number < k → Below k (messages_or_none number r)
none-below k number (Ok packets) lt = at-below k number (flat_map messages_of packets) lt
none-below k number (Err fault) lt = tt

numbered-below : (k number : ℕ) (recs : List ClientRec) → number + length recs ≤ k → Below k (flat_map messages_at (numbered_records number recs))
numbered-below k number [] le = tt
numbered-below k number (rec ∷ recs) le =
    below-append k (messages_at (number, rec)) (flat_map messages_at (numbered_records (suc number) recs))
    (none-below k number (engine_packets rec) (omega (arith, le)))
    (numbered-below k (suc number) recs (omega (arith, le)))

chosen : (b : Bool) (begin number : ℕ) → begin ≤ number → cond b (suc number) begin ≤ suc number
chosen true begin number le = omega arith
chosen false begin number le = omega (arith, le)

begin-inside : (begin number : ℕ) (recs : List ClientRec) → begin ≤ number → begin_from begin number recs ≤ number + length recs
begin-inside begin number [] le = omega (arith, le)
begin-inside begin number (rec ∷ recs) le =
    let b = is_mark (Some rec) in
    let h : begin_from begin number (rec ∷ recs) ≤ suc number + length recs = begin-inside (cond b (suc number) begin) (suc number) recs (chosen b begin number le) in
    omega (arith, h)

before-below : (recs : List ClientRec) → Below (length recs) (messages_before recs)
before-below recs =
    let begin = begin_from 0 0 recs in
    let inside : begin ≤ 0 + length recs = begin-inside 0 0 recs (omega arith) in
    numbered-below (length recs) begin (drop begin recs) (omega (arith, inside, length-drop begin recs))

pub is-later : (recs : List ClientRec) (by : ℕ) (last : ℕ × ℕ) → last_text (messages_before (take by recs)) ≡ Some last → last.0 < by
is-later recs by last e =
    let h = last-below (length (take by recs)) (messages_before (take by recs)) (before-below (take by recs)) last e in
    omega (arith, h, length-take by recs, min-le_left by (length recs))

-- ---- what is said of it

module _ (c : Cluster) where
  module _ (recs : List ClientRec) (number : ℕ) (bad : (tap_packets recs).bad ≡ Some number) (said : Said) where
    spoiled : (conn : ℕ) (last : ℕ × ℕ) (missing : ℕ) → open_before recs number ≡ Some conn → last_text (messages_before (take number recs)) ≡ Some last
        → missing_at_text last.1 (messages_in (slice_get recs number)) ≡ missing → lacks_said conn last.0 missing ≡ Some said → ClientSays c.stream recs said.0 said.1
    spoiled conn last zero eo el em e = absurd (cc)
    spoiled conn last (suc missing) eo el em e =
        let same : (last.0, Lacks conn (suc missing)) ≡ said = cc in
        subst (λ (x : Said). ClientSays c.stream recs x.0 x.1) same (record {
          by = number;
          awaited = last.1;
          is_bad = bad;
          is_last = el;
          lacks = em;
          lacks_some = omega arith;
          is_later = is-later recs number last el;
          is_numbered = eo;
        })

    lacking_there : (o : Option ℕ) → open_before recs number ≡ o → (l : Option (ℕ × ℕ)) → last_text (messages_before (take number recs)) ≡ l
        → option_and_then (λ conn. option_and_then (lacking_after recs number conn) l) o ≡ Some said → ClientSays c.stream recs said.0 said.1
    lacking_there None eo l el e = absurd (cc)
    lacking_there (Some conn) eo None el e = absurd (cc)
    lacking_there (Some conn) eo (Some last) el e = spoiled conn last (missing_at_text last.1 (messages_in (slice_get recs number))) eo el refl e

  of_bad : (recs : List ClientRec) (o : Option ℕ) → (tap_packets recs).bad ≡ o → (said : Said) → option_and_then (lacking_said recs) o ≡ Some said → ClientSays c.stream recs said.0 said.1
  of_bad recs None eb said e = absurd (cc)
  of_bad recs (Some number) eb said e = lacking_there recs number eb said (open_before recs number) refl (last_text (messages_before (take number recs))) refl e

  pub lacking_says_it : (place : ℕ) (said : Said) → lacking_at c place ≡ Some said → SaysAt c place said.0 said.1
  lacking_says_it place said e = in_the_tap c place lacking_in (λ said e. cc) (λ recs said e. of_bad recs (tap_packets recs).bad refl said e) said e
