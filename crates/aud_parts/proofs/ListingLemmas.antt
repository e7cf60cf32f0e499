-- What the text of a listing reads as, and what is known of a listing that was read.
use Rattle.std.proofs.Common.{◌≡◌, ℕ, zero, suc, ◌+◌, ◌-◌, ◌^◌, ◌<◌, ◌≤◌, ◌==◌, ◌&&◌, not, nat_lt, nat_le, List, [], ◌∷◌, ◌++◌, length, map, take, drop, Bool, true, false, cond, Option, Some, None, option_map, Result, Ok, Err, refl, sym, ap, subst, ◌∙◌, arith, append_assoc, append-nil, flat_map, codes, decimal}
use Rattle.std.specs.List.{list_all}
use Rattle.std.specs.Option.{option_and_then}
use Rattle.std.specs.Result.{IfOk}
use Rattle.std.proofs.lemmas.Bool.{and_parts, and_from, eq-eqb, ltb-true, lt-ltb, leb-true, le-leb, ne_eqb, not_from_false}
use Rattle.std.specs.Str.{IsAscii, IsUtf8}
use Rattle.std.proofs.lemmas.Str.{IsUtf8-from_ascii}
use Rattle.std.proofs.lemmas.List.{take_all, take_at, drop_all, drop_at}
use Rattle.std.proofs.lemmas.List.Folds.{list_any-append}
use Rattle.aud_base.specs.Steps.{◌>>=◌, need}
use Rattle.aud_base.proofs.StepLemmas.{same-ok, part-of, guard-ok}
use Rattle.aud_base.proofs.SameText.{itself_text}
use Rattle.aud_tap.specs.Forms.{passing, is_id, is_visible}
use Rattle.aud_tap.specs.Limits.{fits, max_id}
use Rattle.aud_tap.specs.WellFormed.{is_session_id}
use Rattle.aud_parts.specs.declared.listing.Listing.{Listing}
use Rattle.aud_parts.specs.declared.listing.ListedSession.{ListedSession}
use Rattle.aud_parts.specs.declared.listing.fault.ListingFault.{ListingFault}
use Rattle.aud_parts.specs.declared.listing.fault.ListingFault.TheVariants.{NoListing, CutShort, NoPart, NoPid, PidTwice, EmptyPart}
use Rattle.aud_parts.specs.Cut.{cut_at, whole_lines, number_in, after_prefix}
use Rattle.aud_parts.specs.Listing.{Gives, session_line, listing_text, are_within, are_formed, are_new, is_full, is_listing, number_under, numbers_in_words, numbers_under, counts_in, session_of_words, session_in, sessions_in, checked, listing_after, listing_in, unended_fault, listing_of}
use Rattle.aud_parts.proofs.CutLemmas.{has_byte, cut-after, lines-ended, lines-flat}
use Rattle.aud_parts.proofs.NumberLemmas.{number-back, decimal-without}

-- ---- a loop over the lines

-- the sessions of lines before these
abbrev pub with_sessions : List ListedSession → Result (List ListedSession) ListingFault → Result (List ListedSession) ListingFault
with_sessions front rest = rest >>= (λ ss. Ok (front ++ ss))

-- after one more line
pub sessions_next : (parts : ℕ) (line : List ℕ) (lines : List (List ℕ)) (front : List ListedSession) (session : ListedSession) → session_in parts line ≡ Ok session
    → with_sessions front (sessions_in parts (line ∷ lines)) ≡ with_sessions (front ++ session ∷ []) (sessions_in parts lines)
sessions_next parts line lines front session is =
    ap (λ r. with_sessions front (r >>= (λ s. sessions_in parts lines >>= (λ ss. Ok (s ∷ ss))))) is ∙ onto (sessions_in parts lines)
  where
    onto : (rest : Result (List ListedSession) ListingFault) → with_sessions front (rest >>= (λ ss. Ok (session ∷ ss))) ≡ with_sessions (front ++ session ∷ []) rest
    onto (Ok ss) = ap Ok (sym (append_assoc front (session ∷ []) ss))
    onto (Err e) = refl

-- after all lines
pub sessions-done : (parts : ℕ) (lines : List (List ℕ)) (i : ℕ) (front : List ListedSession) → length lines ≤ i
    → with_sessions front (sessions_in parts (drop i lines)) ≡ sessions_in parts lines → sessions_in parts lines ≡ Ok front
sessions-done parts lines i front past before = sym before ∙ ap (λ ls. with_sessions front (sessions_in parts ls)) (drop_all i lines past) ∙ ap Ok (append-nil front)

-- ---- what was read

-- what holds of a value that the reading gives
pub if-read : (r reading : Result Listing ListingFault) (P : Listing → Type 0) → ((l : Listing) → reading ≡ Ok l → P l) → Gives (λ l. l) r reading → IfOk r P
if-read (Ok l) reading P holds gives = holds l gives
if-read (Err e) reading P holds gives = tt

passing-ok : (word pid : List ℕ) (b : Bool) → is_session_id word ≡ b → need NoPid (cond b (Some word) None) ≡ Ok pid → is_session_id pid ≡ true
passing-ok word pid true is e = ap is_session_id (sym (same-ok word pid e)) ∙ is
passing-ok word pid false is e = cc

-- a session that was read is of one of the parts, and its pid is formed
session-sound : (parts : ℕ) (words : List ℕ × List ℕ) (s : ListedSession) → session_of_words parts words ≡ Ok s
    → (nat_lt s.part parts ≡ true) × (is_session_id s.pid ≡ true)
unfolding session_of_words
session-sound parts words s e =
    let (number, reads, rest) = part-of (need NoListing (number_in words.0)) _ s e in
    let (within, rest) = guard-ok NoPart (nat_le 1 number && nat_le number parts) _ s rest in
    let (pid, formed, last) = part-of (need NoPid (passing is_session_id words.1)) _ s rest in
    let low = leb-true 1 number (and_parts (nat_le 1 number) (nat_le number parts) within).0 in
    let high = leb-true number parts (and_parts (nat_le 1 number) (nat_le number parts) within).1 in
    let made : ListedSession = record { part = number - 1; pid = pid } in
    subst (λ (t : ListedSession). (nat_lt t.part parts ≡ true) × (is_session_id t.pid ≡ true)) (same-ok made s last)
    (lt-ltb (number - 1) parts (omega arith), passing-ok words.1 pid (is_session_id words.1) refl formed)

-- what each step gave
split : (first : Result ListedSession ListingFault) (rest : Result (List ListedSession) ListingFault) (all : List ListedSession) → (first >>= (λ s. rest >>= (λ ss. Ok (s ∷ ss)))) ≡ Ok all
    → (s : ListedSession) × (ss : List ListedSession) × (first ≡ Ok s) × (rest ≡ Ok ss) × (all ≡ s ∷ ss)
split (Err e) rest all h = cc
split (Ok s) (Err e) all h = cc
split (Ok s) (Ok ss) all h = (s, ss, refl, refl, cc)

-- so are all of them
pub sessions-sound : (parts : ℕ) (lines : List (List ℕ)) (all : List ListedSession) → sessions_in parts lines ≡ Ok all
    → (list_all (λ (s : ListedSession). nat_lt s.part parts) all ≡ true) × (list_all (λ (s : ListedSession). is_session_id s.pid) all ≡ true)
sessions-sound parts [] all e = let none : all ≡ [] = cc in rw none (refl, refl)
sessions-sound parts (line ∷ lines) all e =
    let (s, ss, is, are, both) = split (session_in parts line) (sessions_in parts lines) all e in
    let (words, cut, reads) = part-of (need NoListing (cut_at 32 line)) (session_of_words parts) s is in
    let first = session-sound parts words s reads in
    let rest = sessions-sound parts lines ss are in
    rw both (and_from _ _ first.0 rest.0, and_from _ _ first.1 rest.1)

-- nothing was at fault
checked-ok : (count : ℕ) (l m : Listing) → checked count l ≡ Ok m → (l ≡ m) × (are_new [] l.sessions ≡ true) × (is_full l ≡ true)
unfolding checked
checked-ok count l m e =
    let (whole, rest) = guard-ok CutShort (length l.sessions == count) _ m e in
    let (once, rest) = guard-ok PidTwice (are_new [] l.sessions) _ m rest in
    let (full, rest) = guard-ok EmptyPart (is_full l) _ m rest in
    (same-ok l m rest, once, full)

after-sound : (lines : List (List ℕ)) (counts : ℕ × ℕ) (l : Listing) → listing_after lines counts ≡ Ok l → is_listing l ≡ true
unfolding listing_after
after-sound lines counts l e =
    let (all, reads, rest) = part-of (sessions_in counts.0 lines) _ l e in
    let sound = sessions-sound counts.0 lines all reads in
    let made : Listing = record { parts = counts.0; sessions = all } in
    let held = checked-ok counts.1 made l rest in
    subst (λ (m : Listing). is_listing m ≡ true) held.0
    (and_from _ _ (and_from _ _ (and_from (are_within made) (are_formed made) sound.0 sound.1) held.1) held.2)

pub in-sound : (lines : List (List ℕ)) (l : Listing) → listing_in lines ≡ Ok l → is_listing l ≡ true
in-sound [] l e = cc
in-sound (first ∷ lines) l e =
    let (counts, reads, rest) = part-of (need NoListing (counts_in first)) (listing_after lines) l e in
    after-sound lines counts l rest

-- the parts of a listing
pub listing-within : (l : Listing) → is_listing l ≡ true → are_within l ≡ true
listing-within l is = (and_parts _ _ (and_parts _ _ (and_parts _ _ is).0).0).0

-- ---- what was written

-- an id has no byte below the visible ones
pub id-without : (byte : ℕ) (t : List ℕ) → byte < 33 → is_id t ≡ true → has_byte byte t ≡ false
id-without byte [] low is = refl
id-without byte (b ∷ t) low is =
    let parts = and_parts (is_visible b) (is_id t) is in
    let above = leb-true 33 b (and_parts (nat_le 33 b) (nat_le b 126) parts.0).0 in
    rw (ne_eqb b byte (λ e. absurd (omega arith)), id-without byte t low parts.1) refl

-- a pid has none
pub pid-without : (byte : ℕ) (pid : List ℕ) → byte < 33 → is_session_id pid ≡ true → has_byte byte pid ≡ false
pid-without byte pid low is = id-without byte pid low (and_parts (is_id pid) (fits max_id pid) is).0

-- an id is ASCII
id-ascii : (t : List ℕ) → is_id t ≡ true → IsAscii t
id-ascii [] is i = omega arith
id-ascii (b ∷ t) is zero =
    let most = leb-true b 126 (and_parts (nat_le 33 b) (nat_le b 126) (and_parts (is_visible b) (is_id t) is).0).1 in omega arith
id-ascii (b ∷ t) is (suc i) = id-ascii t (and_parts (is_visible b) (is_id t) is).1 i

-- bytes that aren't UTF-8 are no pid
pub not_utf8-not_id : (t : List ℕ) → ¬ IsUtf8 t → is_session_id t ≡ false
not_utf8-not_id t h = elim (is_session_id t) as (λ b. is_session_id t ≡ b → b ≡ false) [
  | true ↦ λ e. absurd (h (IsUtf8-from_ascii t (id-ascii t (and_parts (is_id t) (fits max_id t) e).0)))
  | false ↦ λ e. refl
] refl

-- texts without a byte, one after the other
pub has_byte-append : (byte : ℕ) (a b : List ℕ) → has_byte byte a ≡ false → has_byte byte b ≡ false → has_byte byte (a ++ b) ≡ false
has_byte-append byte a b p q = rw (list_any-append (λ x. x == byte) a b, p) q

-- what follows a prefix that was written
pub prefix-back : (key text : List ℕ) → after_prefix key (key ++ text) ≡ Some text
prefix-back key text = rw (take_at key text (length key) refl, itself_text key, drop_at key text (length key) refl) refl

-- the line of a session, without its newline
abbrev pub session_words : ListedSession → List ℕ
session_words s = decimal (s.part + 1) ++ codes " " ++ s.pid

words-back : (parts : ℕ) (s : ListedSession) → s.part + 1 < 2 ^ 64 → s.part < parts → is_session_id s.pid ≡ true → session_of_words parts (decimal (s.part + 1), s.pid) ≡ Ok s
unfolding session_of_words
words-back parts s small within formed =
    let one : (s.part + 1) - 1 ≡ s.part = omega arith in
    rw (number-back (s.part + 1) small, le-leb 1 (s.part + 1) (omega arith), le-leb (s.part + 1) parts (omega arith), formed)
    (λ i. Ok (record { part = one i; pid = s.pid }))

-- the line of a session reads as that session
session-back : (parts : ℕ) (s : ListedSession) → parts < 2 ^ 64 → nat_lt s.part parts ≡ true → is_session_id s.pid ≡ true → session_in parts (session_words s) ≡ Ok s
session-back parts s small within formed =
    let below = ltb-true s.part parts within in
    let cut = ap (cut_at 32) (append_assoc (decimal (s.part + 1)) (codes " ") s.pid) ∙ cut-after 32 (decimal (s.part + 1)) s.pid (decimal-without 32 (s.part + 1) (omega arith)) refl in
    ap (λ (c : Option (List ℕ × List ℕ)). need NoListing c >>= session_of_words parts) cut ∙ words-back parts s (omega arith) below formed

sessions-back : (parts : ℕ) (all : List ListedSession) → parts < 2 ^ 64
    → list_all (λ (s : ListedSession). nat_lt s.part parts) all ≡ true → list_all (λ (s : ListedSession). is_session_id s.pid) all ≡ true
    → sessions_in parts (map session_words all) ≡ Ok all
sessions-back parts [] small within formed = refl
sessions-back parts (s ∷ all) small within formed =
    let here = and_parts (nat_lt s.part parts) (list_all (λ (t : ListedSession). nat_lt t.part parts) all) within in
    let form = and_parts (is_session_id s.pid) (list_all (λ (t : ListedSession). is_session_id t.pid) all) formed in
    rw (session-back parts s small here.0 form.0, sessions-back parts all small here.1 form.1) refl

-- the first line, without its newline
abbrev pub head_words : ℕ → ℕ → List ℕ
head_words parts count = codes "parts=" ++ decimal parts ++ codes " sessions=" ++ decimal count

-- two numbers that were written after these bytes
pub numbers-back : (one other : List ℕ) (first second : ℕ) (line : List ℕ) → has_byte 32 one ≡ false → first < 2 ^ 64 → second < 2 ^ 64
    → line ≡ (one ++ decimal first) ++ 32 ∷ (other ++ decimal second) → numbers_under one other line ≡ Some (first, second)
numbers-back one other first second line none small few is =
    let front = one ++ decimal first in
    let cut = ap (cut_at 32) is ∙ cut-after 32 front (other ++ decimal second) (has_byte-append 32 one (decimal first) none (decimal-without 32 first (omega arith))) refl in
    let here : number_under one front ≡ Some first = ap (option_and_then number_in) (prefix-back one (decimal first)) ∙ number-back first small in
    let there : number_under other (other ++ decimal second) ≡ Some second = ap (option_and_then number_in) (prefix-back other (decimal second)) ∙ number-back second few in
    ap (option_and_then (numbers_in_words one other)) cut
    ∙ (λ i. option_and_then (λ (n : ℕ). option_map (λ (m : ℕ). (n, m)) (there i)) (here i))

-- the first line reads as its counts
counts-back : (parts count : ℕ) → parts < 2 ^ 64 → count < 2 ^ 64 → counts_in (head_words parts count) ≡ Some (parts, count)
counts-back parts count small few =
    numbers-back (codes "parts=") (codes "sessions=") parts count (head_words parts count) refl small few
    (append_assoc (codes "parts=" ++ decimal parts) (codes " sessions=") (decimal count))

-- no line has a newline
lines-without : (all : List ListedSession) → list_all (λ (s : ListedSession). is_session_id s.pid) all ≡ true → list_all (λ (s : ListedSession). not (has_byte 10 (session_words s))) all ≡ true
lines-without [] formed = refl
lines-without (s ∷ all) formed =
    let form = and_parts (is_session_id s.pid) (list_all (λ (t : ListedSession). is_session_id t.pid) all) formed in
    let none = has_byte-append 10 (decimal (s.part + 1) ++ codes " ") s.pid (has_byte-append 10 (decimal (s.part + 1)) (codes " ") (decimal-without 10 (s.part + 1) (omega arith)) refl) (pid-without 10 s.pid (omega arith) form.0) in
    and_from _ _ (not_from_false _ none) (lines-without all form.1)

head-without : (parts count : ℕ) → has_byte 10 (head_words parts count) ≡ false
head-without parts count =
    has_byte-append 10 (codes "parts=" ++ decimal parts ++ codes " sessions=") (decimal count)
    (has_byte-append 10 (codes "parts=" ++ decimal parts) (codes " sessions=")
    (has_byte-append 10 (codes "parts=") (decimal parts) refl (decimal-without 10 parts (omega arith))) refl)
    (decimal-without 10 count (omega arith))

-- the text has the lines that were written
lines-back : (l : Listing) → are_formed l ≡ true → whole_lines (listing_text l) ≡ Some (head_words l.parts (length l.sessions) ∷ map session_words l.sessions)
lines-back l formed =
    let head = head_words l.parts (length l.sessions) in
    let flat = flat_map session_line l.sessions in
    lines-ended head flat (head-without l.parts (length l.sessions))
    ∙ ap (λ (text : List ℕ). option_map (λ (ls : List (List ℕ)). head ∷ ls) (whole_lines text)) (sym (append-nil flat))
    ∙ ap (option_map (λ (ls : List (List ℕ)). head ∷ ls)) (lines-flat session_words l.sessions [] (lines-without l.sessions formed))
    ∙ ap (λ (ls : List (List ℕ)). Some (head ∷ ls)) (append-nil (map session_words l.sessions))

checked-back : (l : Listing) → are_new [] l.sessions ≡ true → is_full l ≡ true → checked (length l.sessions) l ≡ Ok l
unfolding checked
checked-back l once full = rw (eq-eqb (length l.sessions) (length l.sessions) refl, once, full) refl

after-back : (l : Listing) → l.parts < 2 ^ 64 → is_listing l ≡ true → listing_after (map session_words l.sessions) (l.parts, length l.sessions) ≡ Ok l
unfolding listing_after
after-back l small is =
    let (most, full) = and_parts (are_within l && are_formed l && are_new [] l.sessions) (is_full l) is in
    let (both, once) = and_parts (are_within l && are_formed l) (are_new [] l.sessions) most in
    let (within, formed) = and_parts (are_within l) (are_formed l) both in
    rw (sessions-back l.parts l.sessions small within formed) (checked-back l once full)

-- what is written for a listing reads as that listing
pub listing-back : (l : Listing) → l.parts < 2 ^ 64 → length l.sessions < 2 ^ 64 → is_listing l ≡ true → listing_of (listing_text l) ≡ Ok l
listing-back l small few is =
    let (most, full) = and_parts (are_within l && are_formed l && are_new [] l.sessions) (is_full l) is in
    let (both, once) = and_parts (are_within l && are_formed l) (are_new [] l.sessions) most in
    let (within, formed) = and_parts (are_within l) (are_formed l) both in
    ap (λ (lines : Option (List (List ℕ))). need (unended_fault (listing_text l)) lines >>= listing_in) (lines-back l formed)
    ∙ ap (λ (counts : Option (ℕ × ℕ)). need NoListing counts >>= listing_after (map session_words l.sessions)) (counts-back l.parts (length l.sessions) small few)
    ∙ after-back l small is

-- the text that was written, after all sessions
pub text-done : (l : Listing) (sessions : List ListedSession) (i : ℕ) (out : List ℕ) → length sessions ≤ i → sessions ≡ l.sessions
    → out ≡ codes "parts=" ++ decimal l.parts ++ codes " sessions=" ++ decimal (length sessions) ++ codes "\n" ++ flat_map session_line (take i sessions) → out ≡ listing_text l
text-done l sessions i out past same are =
    are ∙ ap (λ ss. codes "parts=" ++ decimal l.parts ++ codes " sessions=" ++ decimal (length sessions) ++ codes "\n" ++ flat_map session_line ss) (take_all i sessions past)
    ∙ ap (λ ss. codes "parts=" ++ decimal l.parts ++ codes " sessions=" ++ decimal (length ss) ++ codes "\n" ++ flat_map session_line ss) same
