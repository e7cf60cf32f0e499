-- The causes of a fault for which a session has no certificate, and those of what its client tells otherwise than the
-- nodes, or of nobody, have names of that fault's list.
use Rattle.std.proofs.Common.{◌≡◌, ℕ, suc, zero, Bool, true, false, List, [], ◌∷◌, ◌++◌, Option, Some, None, length, refl, slice_get}
use Rattle.std.specs.Prelude.{option_to_list}
use Rattle.std.specs.List.{list_all}
use Rattle.aud_base.specs.Lists.{numbers_from}
use Rattle.aud_tap.specs.declared.records.ClientRec.{ClientRec}
use Rattle.aud_tap.specs.declared.records.NodeRec.{NodeRec}
use Rattle.aud_tap.specs.declared.records.NodeRec.TheVariants as rec
use Rattle.aud_tap.specs.declared.records.StreamRec.{StreamRec}
use Rattle.aud_node.specs.Cluster.{Cluster}
use Rattle.aud_node.specs.OwnPlaces.{own_places}
use Rattle.aud_node.specs.Stream.{Text, position}
use Rattle.aud_client.specs.Replies.{ReplySeen}
use Rattle.aud_client.specs.StaySeen.{AskedSeen, StaySeen}
use Rattle.aud_cert.specs.Certificate.{TurnSeen}
use Rattle.aud_cert.specs.declared.fault.Fault.{Fault}
use Rattle.aud_cert.specs.declared.fault.Fault.TheVariants as fault
use Rattle.aud_session_facts.specs.Opened.{opened_in}
use Rattle.aud_session_facts.specs.Recoveries.{stays_at}
use Rattle.aud_session_facts.specs.declared.marks.TurnMark.{TurnMark}
use Rattle.aud_session_facts.specs.declared.place.RecordPlace.{RecordPlace}
use Rattle.aud_causes.specs.declared.cause.Cause.{Cause}
use Rattle.aud_causes.specs.declared.twice.Twice.{Twice}
use Rattle.aud_causes.specs.Candidates.{is_candidate}
use Rattle.aud_causes.specs.Chain.{chain_causes}
use Rattle.aud_causes.specs.Cleared.{broke_by, cleared_after_break, cleared_by, cleared_on, first_cleared, place_on}
use Rattle.aud_causes.specs.Logs.{first_cause, later_cause, order_cause, recoveries, take_cause, takes_cause, unknown}
use Rattle.aud_causes.specs.Names.{client_causes, names_by, names_causes}
use Rattle.aud_causes.specs.Orphans.{before_causes, causes_of_before, orphan_at, orphan_causes_of, replied_causes, reply_lost, without_reply}
use Rattle.aud_causes.specs.Recorded.{no_log_causes, open_not_recorded, order_causes}
use Rattle.aud_causes.specs.Turns.{begins_of, breaks_of, ends_of, missing_back, missing_break, missing_breaks, missing_by, not_tapped, recovery_after}
use Rattle.aud_causes.specs.Twice.{causes_of_twice, is_as_often, open_with, opened_twice, second_open, twice_by, twice_causes}
use Rattle.aud_causes.specs.Table.{id_text}
use Rattle.aud_causes.proofs.Listed.Each.{of_both, of_each, of_either, parts}

-- the fault's list has the name of the cause
abbrev pub is_listed : Fault → Cause → Bool
is_listed fault cause = is_candidate fault (id_text cause)

-- ---- NOLOG

open_listed : (c : Cluster) (first : Option RecordPlace) → list_all (is_listed fault.NoLog) (option_to_list (open_not_recorded c first)) ≡ true
open_listed c (Some first) = refl
open_listed c None = search parts

pub no_log_listed : (c : Cluster) (pid : Text) → list_all (is_listed fault.NoLog) (no_log_causes c pid) ≡ true
no_log_listed c pid = search (parts, open_listed) depth 9

-- ---- CHAIN

-- the cause has a name of its list
abbrev in_chain : Cause → Bool
in_chain = is_listed fault.Chain

not_tapped_listed : (broken : List Bool) (turn : ℕ) (begins : List (Option RecordPlace)) → list_all in_chain (option_to_list (not_tapped broken turn begins)) ≡ true
not_tapped_listed broken turn [] = refl
not_tapped_listed broken turn (begin ∷ begins) = search (parts, not_tapped_listed broken (suc turn) begins)

back_listed : (marks : List TurnMark) (begins : List (Option RecordPlace)) → list_all in_chain (option_to_list (missing_back marks begins)) ≡ true
back_listed marks begins = search parts

break_listed : (turn : ℕ) (begin : Option (Option RecordPlace)) (broken ended : Option Bool) (back : Option (Option RecordPlace)) (stay : Option ℕ)
    → list_all in_chain (option_to_list (missing_by turn begin broken ended back stay)) ≡ true
break_listed turn (Some (Some begin)) (Some false) (Some false) (Some (Some back)) (Some stay) = refl
break_listed turn (Some (Some begin)) (Some false) (Some false) (Some (Some back)) None = refl
break_listed turn _ _ _ _ stay = refl

breaks_listed : (begins : List (Option RecordPlace)) (broken ended : List Bool) (came : List ℕ) → list_all in_chain (missing_breaks begins broken ended came) ≡ true
breaks_listed begins broken ended came =
    of_each in_chain (λ turn. option_to_list (missing_break begins broken ended came turn)) (numbers_from 0 (length begins))
    (λ turn. break_listed turn (slice_get begins turn) (slice_get broken turn) (slice_get ended turn) (slice_get begins (suc turn)) (recovery_after (length begins) came turn))

cleared_by_listed : (broke place : RecordPlace) (r : Option NodeRec) → list_all in_chain (option_to_list (cleared_by broke place r)) ≡ true
cleared_by_listed broke place (Some (rec.Leave pid room)) = refl
cleared_by_listed broke place (Some (rec.Gone pid)) = refl
cleared_by_listed broke place _ = refl

first_cleared_listed : (log : List NodeRec) (node : ℕ) (broke : Option RecordPlace) (numbers : List ℕ) → list_all in_chain (option_to_list (first_cleared log node broke numbers)) ≡ true
first_cleared_listed log node broke [] = refl
first_cleared_listed log node broke (number ∷ numbers) =
    search (parts, cleared_by_listed, first_cleared_listed log node (broke_by (place_on node number) (slice_get log number) broke) numbers)

cleared_on_listed : (c : Cluster) (pid : Text) (node : ℕ) → list_all in_chain (option_to_list (cleared_on c pid node)) ≡ true
cleared_on_listed c pid node = search (parts, first_cleared_listed)

of_twice_listed : (ended : List Bool) (as_often : Bool) (twice : Option Twice) → list_all in_chain (causes_of_twice ended as_often twice) ≡ true
of_twice_listed ended as_often None = refl
of_twice_listed ended as_often (Some t) = search parts depth 9

twice_listed : (begins : List (Option RecordPlace)) (ended : List Bool) (as_often : Bool) (before : Option TurnMark) (marks : List TurnMark)
    → list_all in_chain (twice_causes begins ended as_often before marks) ≡ true
twice_listed begins ended as_often before [] = refl
twice_listed begins ended as_often before (m ∷ marks) =
    of_both in_chain (causes_of_twice ended as_often (twice_by begins before m)) (twice_causes begins ended as_often (Some m) marks)
    (of_twice_listed ended as_often (twice_by begins before m))
    (twice_listed begins ended as_often (Some m) marks)

second_open_listed : (first : Option RecordPlace) (marks : List TurnMark) → list_all in_chain (option_to_list (second_open first marks)) ≡ true
second_open_listed first [] = refl
second_open_listed first (m ∷ marks) = search (parts, second_open_listed (open_with first m) marks)

pub chain_listed : (c : Cluster) (pid : Text) (marks : List TurnMark) (stays : List StaySeen) → list_all in_chain (chain_causes c pid marks stays) ≡ true
chain_listed c pid marks stays =
    let begins = begins_of marks in
    let broken = breaks_of marks in
    let ended = ends_of marks in
    let came = recoveries stays in
    let as_often = is_as_often marks came in
    let untapped = option_to_list (not_tapped broken 0 begins) in
    let back = option_to_list (missing_back marks begins) in
    let breaks = missing_breaks begins broken ended came in
    let cleared = cleared_after_break c pid in
    let twice = twice_causes begins ended as_often None marks in
    of_both in_chain (untapped ++ back ++ breaks ++ cleared ++ twice) (option_to_list (opened_twice marks))
    (of_both in_chain (untapped ++ back ++ breaks ++ cleared) twice
    (of_both in_chain (untapped ++ back ++ breaks) cleared
    (of_both in_chain (untapped ++ back) breaks
    (of_both in_chain untapped back (not_tapped_listed broken 0 begins) (back_listed marks begins))
    (breaks_listed begins broken ended came))
    (of_each in_chain (λ node. option_to_list (cleared_on c pid node)) (own_places c pid) (cleared_on_listed c pid)))
    (twice_listed begins ended as_often None marks))
    (second_open_listed None marks)

-- ---- ORDER

-- the cause has a name of its list
abbrev in_order : Cause → Bool
in_order = is_listed fault.Order

unknown_listed : (place : RecordPlace) (p : Option ℕ) → list_all in_order (option_to_list (unknown place p)) ≡ true
unknown_listed place None = refl
unknown_listed place (Some p) = refl

first_listed : (stream : List StreamRec) (place : RecordPlace) (r : NodeRec) → list_all in_order (option_to_list (first_cause stream place r)) ≡ true
first_listed stream place (rec.Start off) = search (parts, unknown_listed)
first_listed stream place _ = refl

take_listed : (place : RecordPlace) (cursor : ℕ) (p : Option ℕ) → list_all in_order (option_to_list (take_cause place cursor p)) ≡ true
take_listed place cursor None = refl
take_listed place cursor (Some p) = search parts

takes_listed : (place : RecordPlace) (cursor : ℕ) (p : Option ℕ) → list_all in_order (option_to_list (takes_cause place cursor p)) ≡ true
takes_listed place cursor None = refl
takes_listed place cursor (Some p) = search parts

later_listed : (stream : List StreamRec) (place : RecordPlace) (cursor : ℕ) (r : NodeRec) → list_all in_order (option_to_list (later_cause stream place cursor r)) ≡ true
later_listed stream place cursor (rec.Start off) = refl
later_listed stream place cursor (rec.Take off) = take_listed place cursor (position stream off)
later_listed stream place cursor (rec.Takes off) = takes_listed place cursor (position stream off)
later_listed stream place cursor _ = refl

place_listed : (c : Cluster) (place : RecordPlace) → list_all in_order (option_to_list (order_cause c place)) ≡ true
place_listed c place = search (parts, first_listed, later_listed)

pub order_listed : (c : Cluster) (unordered : List RecordPlace) → list_all in_order (order_causes c unordered) ≡ true
order_listed c unordered = of_each in_order (λ place. option_to_list (order_cause c place)) unordered (place_listed c)

-- ---- CLIENT

pub client_listed : (c : Cluster) (pid : Text) (count : ℕ) → list_all (is_listed fault.Client) (client_causes c pid count) ≡ true
client_listed c pid zero = search parts depth 9
client_listed c pid (suc zero) = refl
client_listed c pid (suc (suc more)) = refl

-- ---- NAMES

pub names_listed : (turns : List TurnSeen) (stays : List StaySeen) → list_all (is_listed fault.Names) (names_causes turns stays) ≡ true
names_listed turns stays = of_opened (opened_in turns)
  where
    of_opened : (opened : Option (Text × Text × ℕ)) → list_all (is_listed fault.Names) (names_by opened stays) ≡ true
    of_opened None = refl
    of_opened (Some opened) = search parts depth 9

-- ---- ORPHAN

-- the cause has a name of its list
abbrev in_orphan : Cause → Bool
in_orphan = is_listed fault.Orphan

without_listed : (number : ℕ) (asked : Option AskedSeen) (next : Option ClientRec) (late : Bool) → list_all in_orphan (option_to_list (without_reply number asked next late)) ≡ true
without_listed number (Some asked) next late = search parts
without_listed number None next late = search parts

lost_listed : (client : ℕ) (asked : Option AskedSeen) (connected : Bool) (next : Option ClientRec) → list_all in_orphan (option_to_list (reply_lost client asked connected next)) ≡ true
lost_listed client (Some asked) connected next = search parts
lost_listed client None connected next = search parts

before_listed : (c : Cluster) (client number before : ℕ) (stay : Option StaySeen) → list_all in_orphan (before_causes c client number before stay) ≡ true
before_listed c client number before None = refl
before_listed c client number before (Some stay) = search (of_either, parts) depth 9

of_before_listed : (c : Cluster) (client number : ℕ) (before : Option ℕ) → list_all in_orphan (causes_of_before c client number before) ≡ true
of_before_listed c client number None = refl
of_before_listed c client number (Some before) = before_listed c client number before (slice_get (stays_at c client) before)

replied_listed : (c : Cluster) (client number : ℕ) (stay : StaySeen) (reply : Option ReplySeen) → list_all in_orphan (replied_causes c client number stay reply) ≡ true
replied_listed c client number stay None = search (of_both, parts, without_listed, lost_listed, of_before_listed) depth 9
replied_listed c client number stay (Some reply) = search (of_either, parts)

of_stay_listed : (c : Cluster) (client number : ℕ) (stay : Option StaySeen) → list_all in_orphan (orphan_causes_of c client number stay) ≡ true
of_stay_listed c client number None = refl
of_stay_listed c client number (Some stay) = replied_listed c client number stay stay.reply

pub orphan_listed : (c : Cluster) (client : ℕ) (orphan : Option ℕ) → list_all in_orphan (orphan_at c client orphan) ≡ true
orphan_listed c client None = refl
orphan_listed c client (Some number) = of_stay_listed c client number (slice_get (stays_at c client) number)
