-- Events that are joined, and that they tell of the same entries.
use Rattle.std.proofs.Common.{◌≡◌, ◌≤◌, ◌-◌, ◌+◌, ℕ, suc, Bool, true, false, nat_eq, List, [], ◌∷◌, ◌++◌, flat_map, length, Option, Some, None, refl, sym, ap, ◌∙◌, arith, append-nil, append_assoc}
use Rattle.std.specs.Prelude.{if◌then◌else◌, nat_le, option_to_list, slice_get}
use Rattle.std.specs.Option.{option_map, option_and_then}
use Rattle.aud_tap.specs.declared.records.StreamRec.{StreamRec}
use Rattle.aud_node.specs.Cluster.{Cluster}
use Rattle.aud_node.specs.Stream.{Text, position}
use Rattle.aud_client.specs.Replies.{is_this}
use Rattle.aud_client.specs.StaySeen.{StaySeen}
use Rattle.aud_input.specs.TapLines.{TapLines}
use Rattle.aud_input.proofs.LineRunsLemmas.{numbers_from-append}
use Rattle.aud_rows.specs.declared.row.Role.TheVariants as role
use Rattle.aud_rows.specs.EndRows.{lost_row}
use Rattle.aud_rows.specs.Seen.{RowSeen, SaysSeen}
use Rattle.aud_rows.specs.Seen as says
use Rattle.aud_rows.specs.StayRows.{ask_row, frame_row, reply_row, stays_at}
use Rattle.aud_base.specs.Lists.{numbers_from}
use Rattle.aud_explanation.specs.declared.event.ClientEvent.{ClientEvent}
use Rattle.aud_explanation.specs.declared.event.Happens.{Happens}
use Rattle.aud_explanation.specs.declared.event.Happens.TheVariants.{Asks, Got, Lost}
use Rattle.aud_findings.specs.InOrder.{put_in, in_order}
use Rattle.aud_findings.specs.ClientEvents.{answered, client_events, events_in, events_of_stays, first_line, happens_of, is_asked, may_be_of, row_events, stay_row_events}
use Rattle.aud_findings.specs.Runs.{extended, extended_by, joined, joined_as, joined_happens, one_or_two, positions_in, positions_told, run_on}

-- one event more, after a last one
pub extended-last : (events : List ClientEvent) (last next : ClientEvent) → extended (events ++ last ∷ []) next ≡ events ++ one_or_two last next (joined last next)
extended-last [] last next = refl
extended-last (event ∷ []) last next = refl
extended-last (event ∷ later ∷ events) last next = ap (λ es. event ∷ es) (extended-last (later ∷ events) last next)

-- ---- what is joined

-- the last of the entries isn't before the first
abbrev HappensUpward : Happens → Type 0
HappensUpward (Got from to) = from ≤ to
HappensUpward _ = Unit {0}

abbrev IsUpward : ClientEvent → Type 0
IsUpward event = HappensUpward event.happens

-- what happens as one tells of the entries of both
abbrev Fits : Happens → Happens → Option Happens → Type 0
Fits a b None = Unit {0}
Fits a b (Some both) = (positions_in both ≡ positions_in a ++ positions_in b) × HappensUpward both

run-fits : (from to after last : ℕ) → from ≤ to → after ≤ last → Fits (Got from to) (Got after last) (run_on from to after last)
run-fits from to after last up up' = either (nat_eq after (suc to)) refl
  where
    either : (b : Bool) → nat_eq after (suc to) ≡ b → Fits (Got from to) (Got after last) (if b then Some (Got from last) else None)
    either false e = tt
    either true e =
        let next : after ≡ suc to = grind (arith, e) in
        let here : from + (suc to - from) ≡ after = omega (arith, next, up) in
        let all : (suc to - from) + (suc last - after) ≡ suc last - from = omega (arith, next, up, up') in (
          sym (ap (λ n. numbers_from from (suc to - from) ++ numbers_from n (suc last - after)) (sym here) ∙ sym (numbers_from-append from (suc to - from) (suc last - after)) ∙ ap (numbers_from from) all),
          omega (arith, next, up, up'),
        )

fits : (one_line : Bool) (a b : Happens) → HappensUpward a → HappensUpward b → Fits a b (joined_happens one_line a b)
fits one_line (Got from to) (Got after last) up up' = run-fits from to after last up up'
fits true Lost Lost up up' = (refl, tt)
fits false Lost Lost up up' = tt
fits one_line _ _ up up' = tt

abbrev AllUp : List ClientEvent → Type 0
AllUp [] = Unit {0}
AllUp (event ∷ events) = IsUpward event × AllUp events

abbrev told : List ClientEvent → List ℕ
told events = flat_map positions_told events

-- the events tell of the entries of both
abbrev Keeps : List ClientEvent → List ClientEvent → ClientEvent → Type 0
Keeps all events next = (told all ≡ told events ++ positions_told next) × AllUp all

two-keep : (a b : List ℕ) → a ++ (b ++ []) ≡ (a ++ []) ++ b
two-keep a b = ap (λ xs. a ++ xs) (append-nil b) ∙ ap (λ xs. xs ++ b) (sym (append-nil a))

one-keeps : (a b both : List ℕ) → both ≡ a ++ b → both ++ [] ≡ (a ++ []) ++ b
one-keeps a b both e = append-nil both ∙ e ∙ ap (λ xs. xs ++ b) (sym (append-nil a))

pair-keeps : (event next : ClientEvent) (both : Option Happens) → IsUpward event → IsUpward next → Fits event.happens next.happens both
    → Keeps (one_or_two event next (joined_as event next both)) (event ∷ []) next
pair-keeps event next None up up' fit = (two-keep (positions_told event) (positions_told next), (up, (up', tt)))
pair-keeps event next (Some both) up up' fit = (one-keeps (positions_told event) (positions_told next) (positions_in both) fit.0, (fit.1, tt))

extended-keeps : (events : List ClientEvent) (next : ClientEvent) → AllUp events → IsUpward next → Keeps (extended events next) events next
extended-keeps [] next all up = (append-nil (positions_told next), (up, tt))
extended-keeps (event ∷ []) next all up =
    pair-keeps event next (joined_happens (nat_eq event.last next.first) event.happens next.happens) all.0 up
    (fits (nat_eq event.last next.first) event.happens next.happens all.0 up)
extended-keeps (event ∷ later ∷ events) next all up =
    let rest = extended-keeps (later ∷ events) next all.1 up in
    (ap (λ ps. positions_told event ++ ps) rest.0 ∙ sym (append_assoc (positions_told event) (told (later ∷ events)) (positions_told next)), (all.0, rest.1))

all-keep : (events more : List ClientEvent) → AllUp events → AllUp more → told (extended_by events more) ≡ told events ++ told more
all-keep events [] all up = sym (append-nil (told events))
all-keep events (next ∷ more) all up =
    let one = extended-keeps events next all up.0 in
    all-keep (extended events next) more one.1 up.1 ∙ ap (λ ps. ps ++ told more) one.0 ∙ append_assoc (told events) (positions_told next) (told more)

-- ---- what happened in stays

append-up : (xs ys : List ClientEvent) → AllUp xs → AllUp ys → AllUp (xs ++ ys)
append-up [] ys up up' = up'
append-up (x ∷ xs) ys up up' = (up.0, append-up xs ys up.1 up')

flat-up : (f : ℕ → List ClientEvent) → ((n : ℕ) → AllUp (f n)) → (ns : List ℕ) → AllUp (flat_map f ns)
flat-up f up [] = tt
flat-up f up (n ∷ ns) = append-up (f n) (flat_map f ns) (up n) (flat-up f up ns)

put-up : (x : ClientEvent) (ys : List ClientEvent) → IsUpward x → AllUp ys → AllUp (put_in first_line x ys)
put-up x [] up all = (up, tt)
put-up x (y ∷ ys) up all = either (nat_le (first_line x) (first_line y)) (put-up x ys up all.1)
  where
    either : (b : Bool) → AllUp (put_in first_line x ys) → AllUp (if b then x ∷ y ∷ ys else y ∷ put_in first_line x ys)
    either true rest = (up, all)
    either false rest = (all.0, rest)

in_order-up : (events : List ClientEvent) → AllUp events → AllUp (in_order first_line events)
in_order-up [] all = tt
in_order-up (event ∷ events) all = put-up event (in_order first_line events) all.0 (in_order-up events all.1)

abbrev MayUpward : Option Happens → Type 0
MayUpward None = Unit {0}
MayUpward (Some happens) = HappensUpward happens

answer-up : (asked names : Bool) → MayUpward (answered asked names)
answer-up true true = tt
answer-up false true = tt
answer-up true false = tt
answer-up false false = tt

ask-up : (asked : Bool) (after : Option ℕ) → MayUpward (if asked then Some (Asks after) else None)
ask-up true after = tt
ask-up false after = tt

happens-up : (stream : List StreamRec) (pid : Text) (asked : Bool) (says : SaysSeen) → MayUpward (happens_of stream pid asked says)
happens-up stream pid asked (says.Asks conn other off) = ask-up asked (option_and_then (position stream) off)
happens-up stream pid asked (says.Reply conn sid named) = answer-up asked (is_this pid named)
happens-up stream pid asked (says.Got conn at off) = omega arith
happens-up stream pid asked (says.Lost conn) = tt
happens-up stream pid asked _ = tt

told-up : (line : ℕ) (happens : Option Happens) → MayUpward happens
    → AllUp (option_to_list (option_map (λ h. let e : ClientEvent = record { first = line; last = line; happens = h } in e) happens))
told-up line None up = tt
told-up line (Some happens) up = (up, tt)

row-up : (stream : List StreamRec) (pid : Text) (asked : Bool) (row : Option RowSeen) → AllUp (row_events stream pid asked row)
row-up stream pid asked None = tt
row-up stream pid asked (Some row) = told-up row.line (happens_of stream pid asked row.says) (happens-up stream pid asked row.says)

if-up : (b : Bool) (events : List ClientEvent) → AllUp events → AllUp (if b then events else [])
if-up true events up = up
if-up false events up = tt

stay-up : (c : Cluster) (lines : List TapLines) (place : ℕ) (pid : Text) (number : ℕ) (stay : Option StaySeen) → AllUp (events_in c lines place pid number stay)
stay-up c lines place pid number None = tt
stay-up c lines place pid number (Some stay) =
    append-up _ _ (up (ask_row c lines place number role.Ask))
    (append-up _ _ (up (reply_row c lines place number role.Reply))
    (if-up (may_be_of pid stay) _
    (append-up _ _ (flat-up (λ frame. stay_row_events c.stream pid stay (frame_row c lines place number frame role.Later))
    (λ frame. up (frame_row c lines place number frame role.Later)) (numbers_from 0 (length stay.frames)))
    (up (lost_row c lines place number role.Later)))))
  where
    up : (row : Option RowSeen) → AllUp (stay_row_events c.stream pid stay row)
    up row = row-up c.stream pid (is_asked pid stay.asked) row

pub events-keep : (c : Cluster) (lines : List TapLines) (place : ℕ) (pid : Text) (numbers : List ℕ)
    → flat_map positions_told (client_events c lines place pid numbers) ≡ flat_map positions_told (in_order first_line (events_of_stays c lines place pid numbers))
events-keep c lines place pid numbers =
    all-keep [] (in_order first_line (events_of_stays c lines place pid numbers)) tt
    (in_order-up (events_of_stays c lines place pid numbers) (flat-up _ (λ number. stay-up c lines place pid number (slice_get (stays_at c place) number)) numbers))
