-- Which part has which session, and the text that says so.
use Rattle.std.specs.Prelude.{ℕ, ◌+◌, ◌-◌, ◌==◌, ◌&&◌, ◌||◌, not, nat_eq, nat_lt, nat_le, Bool, true, if◌then◌else◌, List, [], ◌∷◌, ◌++◌, length, map, filter, codes, decimal, flat_map, Option, option_map, option_and_then, Result, Ok, Err}
use Rattle.std.specs.List.{list_any, list_all, starts_with}
use Rattle.std.specs.Str.{bytes_eq}
use Rattle.aud_base.specs.Lists.{numbers_from}
use Rattle.aud_base.specs.Steps.{◌>>=◌, need, guard, GivesUnless}
use Rattle.aud_tap.specs.Forms.{passing}
use Rattle.aud_tap.specs.WellFormed.{is_session_id}
use Rattle.aud_node.specs.Lists.{is_empty}
use Rattle.aud_node.specs.Stream.{Text}
use Rattle.aud_parts.specs.declared.listing.Listing.{Listing}
use Rattle.aud_parts.specs.declared.listing.ListedSession.{ListedSession}
use Rattle.aud_parts.specs.declared.listing.fault.ListingFault.{ListingFault}
use Rattle.aud_parts.specs.declared.listing.fault.ListingFault.TheVariants.{NoListing, CutShort, NoPart, NoPid, PidTwice, EmptyPart, Memory}
use Rattle.aud_parts.specs.Cut.{cut_at, whole_lines, number_in, after_prefix}

-- ---- the text

-- the line of a session: the number of its part, from 1 on, and its pid
abbrev pub session_line : ListedSession → List ℕ
session_line s = decimal (s.part + 1) ++ codes " " ++ s.pid ++ codes "\n"

-- the text: how many parts and sessions there are, and a line for each session
abbrev pub listing_text : Listing → List ℕ
listing_text l =
    codes "parts=" ++ decimal l.parts ++ codes " sessions=" ++ decimal (length l.sessions)
    ++ codes "\n" ++ flat_map session_line l.sessions

-- ---- the sessions of a part

-- the session is one of the part's
abbrev pub is_of_part : ℕ → ListedSession → Bool
is_of_part part s = s.part == part

-- the pids of a part's sessions, in their order
abbrev pub pids_of_part : List ListedSession → ℕ → List Text
pids_of_part sessions part = map (λ (s : ListedSession). s.pid) (filter (is_of_part part) sessions)

-- those of each part
abbrev pub pids_by_part : Listing → List (List Text)
pids_by_part l = map (pids_of_part l.sessions) (numbers_from 0 l.parts)

-- ---- what a listing keeps to

-- the session is of one of so many parts
abbrev pub is_within : ℕ → ListedSession → Bool
is_within parts s = nat_lt s.part parts

-- so is each
abbrev pub are_within : Listing → Bool
are_within l = list_all (is_within l.parts) l.sessions

-- the pid is of the form that it has in a bundle
abbrev pub is_formed : ListedSession → Bool
is_formed s = is_session_id s.pid

-- so is each
abbrev pub are_formed : Listing → Bool
are_formed l = list_all is_formed l.sessions

-- no session has one of these pids, or that of a session before it
abbrev pub are_new : List Text → List ListedSession → Bool
are_new before [] = true
are_new before (s ∷ sessions) =
    not (list_any (bytes_eq s.pid) before) && are_new (before ++ s.pid ∷ []) sessions

-- there is one part and no session
abbrev pub is_bare : Listing → Bool
is_bare l = l.parts == 1 && is_empty l.sessions

-- the part has a session
abbrev pub has_some : List Text → Bool
has_some pids = not (is_empty pids)

-- so has each part; or there is one part and no session
abbrev pub is_full : Listing → Bool
is_full l =
    is_bare l || (nat_le l.parts (length l.sessions) && list_all has_some (pids_by_part l))

-- so is each listing that is read
abbrev pub is_listing : Listing → Bool
is_listing l = are_within l && are_formed l && are_new [] l.sessions && is_full l

-- ---- the reading

-- the number after these bytes
abbrev pub number_under : List ℕ → List ℕ → Option ℕ
number_under key word = option_and_then number_in (after_prefix key word)

-- the numbers of two words, after these bytes in the one and after those in the other
abbrev pub numbers_in_words : List ℕ → List ℕ → List ℕ × List ℕ → Option (ℕ × ℕ)
numbers_in_words one other words =
    option_and_then (λ first. option_map (λ second. (first, second)) (number_under other words.1)) (number_under one words.0)

-- those of a line
abbrev pub numbers_under : List ℕ → List ℕ → List ℕ → Option (ℕ × ℕ)
numbers_under one other line = option_and_then (numbers_in_words one other) (cut_at 32 line)

-- the first line, `parts=<number> sessions=<number>`: how many parts and sessions there are
abbrev pub counts_in : List ℕ → Option (ℕ × ℕ)
counts_in line = numbers_under (codes "parts=") (codes "sessions=") line

-- the number of one of so many parts, from 1 on, and a pid
unfoldable pub session_of_words : ℕ → List ℕ × List ℕ → Result ListedSession ListingFault
session_of_words parts words = do
  number ← need NoListing (number_in words.0)
  within ← guard NoPart (nat_le 1 number && nat_le number parts)
  pid ← need NoPid (passing is_session_id words.1)
  Ok (record { part = number - 1; pid = pid })

-- the session of a line
abbrev pub session_in : ℕ → List ℕ → Result ListedSession ListingFault
session_in parts line = need NoListing (cut_at 32 line) >>= session_of_words parts

-- the sessions of the lines; the first that is refused stands
abbrev pub sessions_in : ℕ → List (List ℕ) → Result (List ListedSession) ListingFault
sessions_in parts [] = Ok []
sessions_in parts (line ∷ lines) =
    session_in parts line >>= (λ s. sessions_in parts lines >>= (λ ss. Ok (s ∷ ss)))

-- the listing, if it has so many sessions, no pid twice and no empty part
unfoldable pub checked : ℕ → Listing → Result Listing ListingFault
checked count l = do
  whole ← guard CutShort (length l.sessions == count)
  once ← guard PidTwice (are_new [] l.sessions)
  full ← guard EmptyPart (is_full l)
  Ok l

-- the listing of a first line with these counts, and of the lines after it
unfoldable pub listing_after : List (List ℕ) → ℕ × ℕ → Result Listing ListingFault
listing_after lines counts = do
  sessions ← sessions_in counts.0 lines
  checked counts.1 (record { parts = counts.0; sessions = sessions })

-- the listing of the lines
abbrev pub listing_in : List (List ℕ) → Result Listing ListingFault
listing_in [] = Err NoListing
listing_in (first ∷ lines) = need NoListing (counts_in first) >>= listing_after lines

-- why a text isn't one whose last line is ended
abbrev pub unended_fault : List ℕ → ListingFault
unended_fault text = if starts_with nat_eq text (codes "parts=") then CutShort else NoListing

-- the listing that a text is, or why it is none
abbrev pub listing_of : List ℕ → Result Listing ListingFault
listing_of text = need (unended_fault text) (whole_lines text) >>= listing_in

-- what a function returned, seen by view, is what the reading gives, unless memory ran out
abbrev pub Gives : {X Y : Type 0} → (X → Y) → Result X ListingFault → Result Y ListingFault → Type 0
Gives = GivesUnless Memory
