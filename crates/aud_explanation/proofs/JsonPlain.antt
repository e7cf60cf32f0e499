-- No explanation's JSON has a float.
use Rattle.std.proofs.Common.{◌≡◌, ℕ, Bool, true, false, ◌||◌, List, [], ◌∷◌, Option, Some, None, refl, codes}
use Rattle.std.specs.Borrow.{Bor}
use Rattle.std.specs.Option.{option_and_then, option_copied}
use Rattle.std.specs.Ordering.{nat_cmp, match_ordering}
use Rattle.std.specs.Cmp.Lexicographic.{slice_cmp}
use Rattle.std.specs.declared.cmp.Ordering.TheVariants.{Less, Equal, Greater}
use Rattle.serde_json.specs.Data.{Data, null, string, array, Members, no_members, member, put}
use Rattle.serde_json.specs.Written.{has_float, items_have_float, members_have_float}
use Rattle.aud_cert.specs.Text.{items, whole}
use Rattle.aud_cert.specs.declared.class.Class.{Class}
use Rattle.aud_verdict.specs.declared.verdict.Verdict.{Verdict}
use Rattle.aud_input.specs.declared.input_file.InputFile.{InputFile}
use Rattle.aud_input.specs.InputFiles.{place_told}
use Rattle.aud_rows.specs.declared.row.Row.{Row}
use Rattle.aud_explanation.specs.declared.also.Also.{Also}
use Rattle.aud_explanation.specs.declared.cause.Cause.{Cause}
use Rattle.aud_explanation.specs.declared.client.Account.{Account}
use Rattle.aud_explanation.specs.declared.client.Client as client
use Rattle.aud_explanation.specs.declared.event.ClientEvent.{ClientEvent}
use Rattle.aud_explanation.specs.declared.explanation.Explanation.{Explanation}
use Rattle.aud_explanation.specs.declared.refused.Missed.{Missed}
use Rattle.aud_explanation.specs.declared.refused.RefusedRecovery.{RefusedRecovery}
use Rattle.aud_explanation.specs.declared.turn.TurnShown.{TurnShown}
use Rattle.aud_explanation.specs.declared.turn.TurnEnd.{TurnEnd}
use Rattle.aud_explanation.specs.declared.turn.TurnEnd.TheVariants as end
use Rattle.aud_explanation.specs.ExplainedClass.{class_of_explained}
use Rattle.aud_explanation.specs.ShownTail.{shown_tail}
use Rattle.aud_explanation.specs.JsonValue.{text_data, text_or_null, number_or_null, with_shown}
use Rattle.aud_explanation.specs.Long.{all_shown, left_out}
use Rattle.aud_explanation.specs.JsonVerdict.{verdict_word, fault_named, off_under, class_data, with_verdict}
use Rattle.aud_explanation.specs.JsonAccount.{with_client, with_account}
use Rattle.aud_explanation.specs.Place.{with_place}
use Rattle.aud_explanation.specs.declared.name.Names.TheVariants.{Whole}
use Rattle.aud_explanation.specs.LongRows.{rows_left, rows_shown}
use Rattle.aud_explanation.specs.Record.{record_text, other_session}
use Rattle.aud_explanation.specs.JsonRow.{role_word, row_data, with_evidence}
use Rattle.aud_explanation.specs.JsonTurn.{high_at, lines_data, took_data, turn_data}
use Rattle.aud_explanation.specs.JsonAlso.{also_data, with_also}
use Rattle.aud_explanation.specs.JsonCause.{cause_data, of_line}
use Rattle.aud_explanation.specs.JsonEvent.{after_at, from_at, to_at, event_data}
use Rattle.aud_explanation.specs.JsonRefused.{missed_data, all_missed_data, missed_left_data, reply_data, refused_data}
use Rattle.aud_explanation.specs.Json.{explanation_data, with_causes, with_events, with_refuted}
use Rattle.aud_explanation.specs.WholeRecord.{whole_record_data}

-- ---- members and items

-- neither holds where one of both does not
or-parts : (a b : Bool) → (a || b) ≡ false → (a ≡ false) × (b ≡ false)
or-parts true b h = absurd (cc)
or-parts false b h = (refl, h)

-- one more member
put-plain : (k : List ℕ) (d : Data) (ms : Members) → has_float d ≡ false → members_have_float ms ≡ false → members_have_float (put k d ms) ≡ false
put-plain k d no_members plain rest = rw plain refl
put-plain k d (member l e ms) plain rest =
    let parts = or-parts (has_float e) (members_have_float ms) rest in
    elim (slice_cmp nat_cmp k l) as (λ o. members_have_float (match_ordering o (member k d (member l e ms)) (member l d ms) (member l e (put k d ms))) ≡ false) [
      | Less ↦ rw (plain, parts.0, parts.1) refl
      | Equal ↦ rw (plain, parts.1) refl
      | Greater ↦ rw (parts.0, put-plain k d ms plain parts.1) refl
    ]

-- several more, one after the other
abbrev puts : List (List ℕ × Data) → Members → Members
puts [] ms = ms
puts (n ∷ new) ms = puts new (put n.0 n.1 ms)

abbrev any_float : List (List ℕ × Data) → Bool
any_float [] = false
any_float (n ∷ new) = has_float n.1 || any_float new

puts-plain : (new : List (List ℕ × Data)) (ms : Members) → any_float new ≡ false → members_have_float ms ≡ false → members_have_float (puts new ms) ≡ false
puts-plain [] ms plain rest = rest
puts-plain (n ∷ new) ms plain rest =
    let parts = or-parts (has_float n.1) (any_float new) plain in
    puts-plain new (put n.0 n.1 ms) parts.1 (put-plain n.0 n.1 ms parts.0 rest)

-- an array of things of which none has a float
items-plain : {A : Type 0} (f : A → Data) → ((x : A) → has_float (f x) ≡ false) → (xs : List A) → items_have_float (items f xs) ≡ false
items-plain f plain [] = refl
items-plain f plain (x ∷ xs) = rw (plain x, items-plain f plain xs) refl

-- whole numbers
numbers-plain : (ns : List ℕ) → items_have_float (items whole ns) ≡ false
numbers-plain ns = items-plain whole (λ n. refl) ns

-- lists of texts
texts-plain : (texts : List (Bor (List ℕ))) → items_have_float (items text_data texts) ≡ false
texts-plain texts = items-plain text_data (λ text. refl) texts

-- a text that may be missing
text-plain : (text : Option (List ℕ)) → has_float (text_or_null text) ≡ false
text-plain None = refl
text-plain (Some text) = refl

-- a number that may be missing
number-plain : (n : Option ℕ) → has_float (number_or_null n) ≡ false
number-plain None = refl
number-plain (Some n) = refl

-- ---- the verdict

class-plain : (class : Option Class) → has_float (class_data class) ≡ false
class-plain None = refl
class-plain (Some class) = refl

verdict-plain : (pid : List ℕ) (v : Verdict) (class : Option Class) (ms : Members) → members_have_float ms ≡ false → members_have_float (with_verdict pid v class ms) ≡ false
unfolding with_verdict
verdict-plain pid v class ms rest =
    puts-plain
    ((codes "v", whole 1) ∷ (codes "pid", string pid) ∷ (codes "verdict", string (verdict_word v)) ∷ (codes "fault", text_or_null (fault_named v))
    ∷ (codes "off", text_or_null (off_under v)) ∷ (codes "class", class_data class) ∷ [])
    ms (rw (text-plain (fault_named v), text-plain (off_under v), class-plain class) refl) rest

-- ---- the client

client-plain : (c : Option client.Client) (ms : Members) → members_have_float ms ≡ false → members_have_float (with_client c ms) ≡ false
unfolding with_client
client-plain None ms rest = puts-plain ((codes "client", null) ∷ (codes "nsp", null) ∷ (codes "conn", null) ∷ []) ms refl rest
client-plain (Some c) ms rest =
    puts-plain ((codes "client", string c.tap.now) ∷ (codes "nsp", string c.nsp.now) ∷ (codes "conn", number_or_null c.conn) ∷ []) ms (rw (number-plain c.conn) refl) rest

account-plain : (v : Verdict) (a : Option Account) (ms : Members) → members_have_float ms ≡ false → members_have_float (with_account v a ms) ≡ false
unfolding with_account
account-plain v None ms rest = puts-plain ((codes "got", null) ∷ (codes "due", null) ∷ (codes "tail", null) ∷ (codes "at_frame", null) ∷ []) ms refl rest
account-plain v (Some a) ms rest =
    puts-plain ((codes "got", whole a.got) ∷ (codes "due", whole a.due) ∷ (codes "tail", number_or_null (shown_tail v a.tail)) ∷ (codes "at_frame", number_or_null a.at_frame) ∷ [])
    ms (rw (number-plain (shown_tail v a.tail), number-plain a.at_frame) refl) rest

-- ---- the lists

place-plain : (place : Option (List ℕ × ℕ)) → members_have_float (with_place place no_members) ≡ false
unfolding with_place
place-plain None = refl
place-plain (Some place) = refl

row-plain : (files : List InputFile) (pid : List ℕ) (row : Row) → has_float (row_data files pid row) ≡ false
unfolding row_data
row-plain files pid row =
    let other : Option (List ℕ) = other_session pid row.session in
    puts-plain
    ((codes "line", whole row.line) ∷ (codes "says", string (record_text Whole row.says)) ∷ (codes "of", text_or_null other)
    ∷ (codes "role", string (role_word row.role)) ∷ (codes "tap", string row.tap.now) ∷ [])
    (with_place (place_told files row.line) no_members) (rw (text-plain other) refl) (place-plain (place_told files row.line))

lines-plain : (begin : ℕ) (end : TurnEnd) → has_float (lines_data begin end) ≡ false
lines-plain begin (end.Break line high) = refl
lines-plain begin (end.Gone line high) = refl
lines-plain begin (end.Log line high) = refl
lines-plain begin end.Missing = refl

took-plain : (took : Option (ℕ × ℕ)) → has_float (took_data took) ≡ false
took-plain None = refl
took-plain (Some took) = refl

turn-plain : (turn : TurnShown) → has_float (turn_data turn) ≡ false
turn-plain turn = rw (number-plain (high_at turn.end), lines-plain turn.begin_line turn.end, took-plain turn.took) refl

also-plain : (also : Also) → has_float (also_data also) ≡ false
also-plain also = rw (numbers-plain also.lines.now) refl

cause-plain : (cause : Cause) → has_float (cause_data cause) ≡ false
cause-plain cause = rw (numbers-plain cause.lines.now, number-plain (of_line cause.of)) refl

event-plain : (event : ClientEvent) → has_float (event_data event) ≡ false
event-plain event = rw (number-plain (after_at event.happens), number-plain (from_at event.happens), number-plain (to_at event.happens)) refl

missed-plain : (m : Option (List Missed)) → has_float (all_missed_data m) ≡ false
missed-plain None = refl
missed-plain (Some entries) = items-plain missed_data (λ m. refl) (all_shown entries)

left-plain : (m : Option (List Missed)) → has_float (missed_left_data m) ≡ false
left-plain None = refl
left-plain (Some entries) = refl

reply-plain : (files : List InputFile) (pid : List ℕ) (reply : Option Row) → has_float (reply_data files pid reply) ≡ false
reply-plain files pid None = refl
reply-plain files pid (Some reply) = row-plain files pid reply

refused-plain : (files : List InputFile) (pid : List ℕ) (r : RefusedRecovery) → has_float (refused_data files pid r) ≡ false
refused-plain files pid r = rw (row-plain files pid r.ask, text-plain (option_copied r.instead), missed-plain (option_copied r.missed), left-plain (option_copied r.missed), texts-plain r.refuted.now, reply-plain files pid r.reply) refl

-- ---- the members of the lists

shown-plain : {A : Type 0} (f : A → Data) → ((x : A) → has_float (f x) ≡ false) → (name left : List ℕ) (xs : List A) (ms : Members) → members_have_float ms ≡ false → members_have_float (with_shown f name left xs ms) ≡ false
unfolding with_shown
shown-plain f plain name left xs ms rest =
    puts-plain ((name, array (items f (all_shown xs))) ∷ (left, whole (left_out xs)) ∷ []) ms (rw (items-plain f plain (all_shown xs)) refl) rest

evidence-plain : (files : List InputFile) (pid : List ℕ) (rows : List Row) (ms : Members) → members_have_float ms ≡ false → members_have_float (with_evidence files pid rows ms) ≡ false
unfolding with_evidence
evidence-plain files pid rows ms rest =
    puts-plain ((codes "evidence", array (items (row_data files pid) (rows_shown rows))) ∷ (codes "evidence_left", whole (rows_left rows)) ∷ [])
    ms (rw (items-plain (row_data files pid) (row-plain files pid) (rows_shown rows)) refl) rest

others-plain : (others : List Also) (left : ℕ) (pids : List (Bor (List ℕ))) (ms : Members) → members_have_float ms ≡ false → members_have_float (with_also others left pids ms) ≡ false
unfolding with_also
others-plain others left pids ms rest =
    puts-plain ((codes "also", array (items also_data others)) ∷ (codes "also_left", whole left) ∷ (codes "alike", array (items text_data pids)) ∷ [])
    ms (rw (items-plain also_data also-plain others, texts-plain pids) refl) rest

events-plain : (events : List ClientEvent) (ms : Members) → members_have_float ms ≡ false → members_have_float (with_events events ms) ≡ false
unfolding with_events
events-plain events ms rest = shown-plain event_data event-plain (codes "events") (codes "events_left") events ms rest

causes-plain : (causes : List Cause) (ms : Members) → members_have_float ms ≡ false → members_have_float (with_causes causes ms) ≡ false
unfolding with_causes
causes-plain causes ms rest = shown-plain cause_data cause-plain (codes "causes") (codes "causes_left") causes ms rest

refuted-plain : (refuted : List (Bor (List ℕ))) (ms : Members) → members_have_float ms ≡ false → members_have_float (with_refuted refuted ms) ≡ false
unfolding with_refuted
refuted-plain refuted ms rest = put-plain (codes "refuted") (array (items text_data refuted)) ms (texts-plain refuted) rest

-- ---- the whole

pub explanation-plain : (files : List InputFile) (e : Explanation) → has_float (explanation_data files e) ≡ false
explanation-plain files e =
    let class = class_of_explained e in
    let m1 : Members = with_verdict e.pid.now e.verdict.now class no_members in
    let m2 : Members = with_client e.client m1 in
    let m3 : Members = with_account e.verdict.now e.account m2 in
    let m4 : Members = with_shown turn_data (codes "turns") (codes "turns_left") e.turns.now m3 in
    let m5 : Members = with_evidence files e.pid.now e.evidence.now m4 in
    let m6 : Members = with_also e.also.now e.also_left e.alike.now m5 in
    let m7 : Members = with_shown (refused_data files e.pid.now) (codes "refused") (codes "refused_left") e.refused.now m6 in
    let m8 : Members = with_events e.events.now m7 in
    let m9 : Members = with_causes e.causes.now m8 in
    let p1 = verdict-plain e.pid.now e.verdict.now class no_members refl in
    let p2 = client-plain e.client m1 p1 in
    let p3 = account-plain e.verdict.now e.account m2 p2 in
    let p4 = shown-plain turn_data turn-plain (codes "turns") (codes "turns_left") e.turns.now m3 p3 in
    let p5 = evidence-plain files e.pid.now e.evidence.now m4 p4 in
    let p6 = others-plain e.also.now e.also_left e.alike.now m5 p5 in
    let p7 = shown-plain (refused_data files e.pid.now) (refused-plain files e.pid.now) (codes "refused") (codes "refused_left") e.refused.now m6 p6 in
    let p8 = events-plain e.events.now m7 p7 in
    let p9 = causes-plain e.causes.now m8 p8 in
    refuted-plain e.refuted.now m9 p9

-- ---- a record by its number

-- where its own JSON has none
pub record-plain : (files : List InputFile) (tap : List ℕ) (number : ℕ) (line : Option ℕ) (json : Data) → has_float json ≡ false → has_float (whole_record_data files tap number line json) ≡ false
unfolding whole_record_data
record-plain files tap number line json plain =
    let place : Option (List ℕ × ℕ) = option_and_then (place_told files) line in
    puts-plain ((codes "line", number_or_null line) ∷ (codes "number", whole number) ∷ (codes "record", json) ∷ (codes "tap", string tap) ∷ (codes "v", whole 1) ∷ [])
    (with_place place no_members) (rw (number-plain line, plain) refl) (place-plain place)
