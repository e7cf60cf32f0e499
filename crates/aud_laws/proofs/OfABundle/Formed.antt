-- A record that was read keeps to the forms and limits of its fields.
use Rattle.std.proofs.Common.{◌≡◌, ◌&&◌, ℕ, nat_le, List, length, Bool, true, false, cond, Option, Some, None, option_map, Result, Ok, refl, codes, subst}
use Rattle.std.specs.Bool.{⊤}
use Rattle.std.specs.Option.{option_and_then}
use Rattle.std.specs.Cmp.Derive.{both_true}
use Rattle.serde_json.specs.Data.{Data}
use Rattle.serde_json.specs.Find.{get, as_str, as_null}
use Rattle.aud_base.specs.Steps.{◌>>=◌, need}
use Rattle.aud_base.proofs.StepLemmas.{same-ok, part-of, guard-ok}
use Rattle.aud_tap.specs.declared.records.Event.{Event}
use Rattle.aud_tap.specs.declared.records.StreamRec.{StreamRec}
use Rattle.aud_tap.specs.declared.records.StreamRec.TheVariants.{Ev, Other}
use Rattle.aud_tap.specs.declared.records.NodeRec.{NodeRec}
use Rattle.aud_tap.specs.declared.records.NodeRec.TheVariants.{Start, Take, Takes, Opened, Join, Leave, Broke, Back, Gone}
use Rattle.aud_tap.specs.Limits.{fits, fit_rooms, max_id, max_offset, max_room, max_namespace, max_attachments, max_turn}
use Rattle.aud_tap.specs.Forms.{is_text, passing, is_id, is_namespace}
use Rattle.aud_tap.specs.Json.{text_at}
use Rattle.aud_tap.specs.WellFormed.{is_offset, is_session_id, is_room, is_full_namespace, stream_is_well_formed, node_is_well_formed}
use Rattle.aud_reader.specs.declared.fault.InputCode.{InputCode}
use Rattle.aud_reader.specs.declared.fault.InputCode.TheVariants.{Field, Limit}
use Rattle.aud_reader.specs.Fields.{number_at, id_at, bounded_id_at, namespace_at, if_null, id_or_null, id_or_null_at}
use Rattle.aud_reader.specs.StreamRecord.{lists_of, bounded_event, event_of, other_of, stream_record_of}
use Rattle.aud_reader.specs.NodeRecord.{fits_if_there, start_of, open_of, member_of, pid_and_turn, node_record_of}

-- ---- fields

-- a text that had to be there and to pass a test passes it
needed-passes : (test : List ℕ → Bool) (o : Option (List ℕ)) (x : List ℕ) → need Field (option_and_then (passing test) o) ≡ Ok x → test x ≡ true
needed-passes test None x e = cc
needed-passes test (Some t) x e =
    elim (test t) as (λ b. test t ≡ b → need Field (cond b (Some t) None) ≡ Ok x → test x ≡ true) [
      | true ↦ λ is h. subst (λ t. test t ≡ true) (same-ok t x h) is
      | false ↦ λ is h. cc
    ] refl e

-- an id of at most so many bytes
bounded-id : (most : ℕ) (key : List ℕ) (d : Data) (id : List ℕ) → bounded_id_at most key d ≡ Ok id → (is_id id && fits most id) ≡ true
unfolding bounded_id_at
bounded-id most key d id e =
    let read = part-of (need Field (id_at key d)) _ id e in
    let fit = guard-ok Limit (fits most read.0) _ id read.2 in
    subst (λ t. (is_id t && fits most t) ≡ true) (same-ok read.0 id fit.1) (both_true (needed-passes is_id (text_at key d) read.0 read.1) fit.0)

-- an id where null may stand in its place
id-or-null : (o : Option Data) (id : List ℕ) → need Field (option_and_then id_or_null o) ≡ Ok (Some id) → is_id id ≡ true
id-or-null None id e = cc
id-or-null (Some d) id e = go (as_null d) e
  where
    some : (o : Option (List ℕ)) → ((t : List ℕ) → need Field o ≡ Ok t → is_id t ≡ true) → need Field (option_map Some o) ≡ Ok (Some id) → is_id id ≡ true
    some None passes h = cc
    some (Some t) passes h = let same : t ≡ id = cc in passes id (let ok : Ok t ≡ Ok id = cc in ok)

    go : (null : Option ⊤) → need Field (if_null null (option_and_then (passing is_id) (as_str d))) ≡ Ok (Some id) → is_id id ≡ true
    go (Some u) h = cc
    go None h = some (option_and_then (passing is_id) (as_str d)) (needed-passes is_id (as_str d)) h

-- ---- the stream

-- an event, whose fields have their forms, within its limits
event-bounded : (off nsp text : List ℕ) (lists : List (List ℕ) × List (List ℕ) × List (List ℕ)) (r : StreamRec) → is_id off ≡ true → is_namespace nsp ≡ true → bounded_event off nsp text lists ≡ Ok r
    → stream_is_well_formed r ≡ true
unfolding bounded_event
event-bounded off nsp text lists r id namespace e =
    let offset = guard-ok Limit (fits max_offset off) _ r e in
    let named = guard-ok Limit (fits max_namespace nsp) _ r offset.1 in
    let rooms = guard-ok Limit (fit_rooms lists.0) _ r named.1 in
    let except = guard-ok Limit (fit_rooms lists.1) _ r rooms.1 in
    let bin = guard-ok Limit (nat_le (length lists.2) max_attachments) _ r except.1 in
    let event : Event = record { off = off; nsp = nsp; rooms = lists.0; except = lists.1; text = text; bin = lists.2 } in
    let is_off : is_offset off ≡ true = both_true id offset.0 in
    let is_nsp : is_full_namespace nsp ≡ true = both_true namespace named.0 in
    subst (λ rec. stream_is_well_formed rec ≡ true) (same-ok (Ev event) r bin.1) (rw (is_off, is_nsp, rooms.0, except.0, bin.0) refl)

event-formed : (d : Data) (r : StreamRec) → event_of d ≡ Ok r → stream_is_well_formed r ≡ true
unfolding event_of
event-formed d r e =
    let off = part-of (need Field (id_at (codes "off") d)) _ r e in
    let nsp = part-of (need Field (namespace_at (codes "nsp") d)) _ r off.2 in
    let text = part-of (need Field (text_at (codes "text") d)) _ r nsp.2 in
    let lists = part-of (lists_of d) _ r text.2 in
    event-bounded off.0 nsp.0 text.0 lists.0 r
    (needed-passes is_id (text_at (codes "off") d) off.0 off.1) (needed-passes is_namespace (text_at (codes "nsp") d) nsp.0 nsp.1) lists.2

other-formed : (d : Data) (r : StreamRec) → other_of d ≡ Ok r → stream_is_well_formed r ≡ true
other-formed d r e =
    let off = part-of (bounded_id_at max_offset (codes "off") d) _ r e in
    subst (λ rec. stream_is_well_formed rec ≡ true) (same-ok (Other off.0) r off.2) (bounded-id max_offset (codes "off") d off.0 off.1)

-- a record is read in the one way or in the other
either : {A P : Type 0} (b : Bool) (x y : Result A InputCode) (r : A) → cond b x y ≡ Ok r → (x ≡ Ok r → P) → (y ≡ Ok r → P) → P
either true x y r e one other = one e
either false x y r e one other = other e

-- an entry that was read keeps to its forms and limits
pub stream-formed : (kind : List ℕ) (d : Data) (r : StreamRec) → stream_record_of kind d ≡ Ok r → stream_is_well_formed r ≡ true
unfolding stream_record_of
stream-formed kind d r e =
    either (is_text kind (codes "ev")) _ _ r e (event-formed d r) (λ e1.
    either (is_text kind (codes "other")) _ _ r e1 (other-formed d r) (λ e2. cc))

-- ---- nodes

-- a record of what was read before it
made-formed : {A : Type 0} (read : Result A InputCode) (made : A → NodeRec) (r : NodeRec) → ((x : A) → read ≡ Ok x → node_is_well_formed (made x) ≡ true) → (read >>= λ x. Ok (made x)) ≡ Ok r → node_is_well_formed r ≡ true
made-formed read made r formed e =
    let x = part-of read _ r e in
    subst (λ rec. node_is_well_formed rec ≡ true) (same-ok (made x.0) r x.2) (formed x.0 x.1)

start-formed : (d : Data) (r : NodeRec) → start_of d ≡ Ok r → node_is_well_formed r ≡ true
unfolding start_of
start-formed d r e =
    let off = part-of (need Field (id_or_null_at (codes "off") d)) _ r e in
    let fit = guard-ok Limit (fits_if_there off.0) _ r off.2 in
    subst (λ rec. node_is_well_formed rec ≡ true) (same-ok (Start off.0) r fit.1) (go off.0 off.1 fit.0)
  where
    go : (off : Option (List ℕ)) → need Field (id_or_null_at (codes "off") d) ≡ Ok off → fits_if_there off ≡ true → node_is_well_formed (Start off) ≡ true
    go None read fit = refl
    go (Some id) read fit = both_true (id-or-null (get (codes "off") d) id read) fit

open-formed : (d : Data) (r : NodeRec) → open_of d ≡ Ok r → node_is_well_formed r ≡ true
unfolding open_of
open-formed d r e =
    let pid = part-of (need Field (id_at (codes "pid") d)) _ r e in
    let sid = part-of (need Field (id_at (codes "sid") d)) _ r pid.2 in
    let nsp = part-of (need Field (namespace_at (codes "nsp") d)) _ r sid.2 in
    let pid_fits = guard-ok Limit (fits max_id pid.0) _ r nsp.2 in
    let sid_fits = guard-ok Limit (fits max_id sid.0) _ r pid_fits.1 in
    let nsp_fits = guard-ok Limit (fits max_namespace nsp.0) _ r sid_fits.1 in
    let is_pid : is_session_id pid.0 ≡ true = both_true (needed-passes is_id (text_at (codes "pid") d) pid.0 pid.1) pid_fits.0 in
    let is_sid : is_session_id sid.0 ≡ true = both_true (needed-passes is_id (text_at (codes "sid") d) sid.0 sid.1) sid_fits.0 in
    let is_nsp : is_full_namespace nsp.0 ≡ true = both_true (needed-passes is_namespace (text_at (codes "nsp") d) nsp.0 nsp.1) nsp_fits.0 in
    subst (λ rec. node_is_well_formed rec ≡ true) (same-ok (Opened pid.0 sid.0 nsp.0) r nsp_fits.1) (rw (is_pid, is_sid, is_nsp) refl)

-- a pid and a room, each of its form
member-formed : (d : Data) (m : List ℕ × List ℕ) → member_of d ≡ Ok m → (is_session_id m.0 && is_room m.1) ≡ true
unfolding member_of
member-formed d m e =
    let pid = part-of (need Field (id_at (codes "pid") d)) _ m e in
    let room = part-of (need Field (text_at (codes "room") d)) _ m pid.2 in
    let pid_fits = guard-ok Limit (fits max_id pid.0) _ m room.2 in
    let room_fits = guard-ok Limit (fits max_room room.0) _ m pid_fits.1 in
    let is_pid : is_session_id pid.0 ≡ true = both_true (needed-passes is_id (text_at (codes "pid") d) pid.0 pid.1) pid_fits.0 in
    subst (λ (x : List ℕ × List ℕ). (is_session_id x.0 && is_room x.1) ≡ true) (same-ok (pid.0, room.0) m room_fits.1) (both_true is_pid room_fits.0)

-- a pid and the number of a turn, each of its form
turn-formed : (d : Data) (t : List ℕ × ℕ) → pid_and_turn d ≡ Ok t → (is_session_id t.0 && nat_le t.1 max_turn) ≡ true
unfolding pid_and_turn
turn-formed d t e =
    let pid = part-of (need Field (id_at (codes "pid") d)) _ t e in
    let turn = part-of (need Field (number_at (codes "turn") d)) _ t pid.2 in
    let pid_fits = guard-ok Limit (fits max_id pid.0) _ t turn.2 in
    let turn_fits = guard-ok Limit (nat_le turn.0 max_turn) _ t pid_fits.1 in
    let is_pid : is_session_id pid.0 ≡ true = both_true (needed-passes is_id (text_at (codes "pid") d) pid.0 pid.1) pid_fits.0 in
    subst (λ (x : List ℕ × ℕ). (is_session_id x.0 && nat_le x.1 max_turn) ≡ true) (same-ok (pid.0, turn.0) t turn_fits.1) (both_true is_pid turn_fits.0)

-- a node's record that was read keeps to its forms and limits
pub node-formed : (kind : List ℕ) (d : Data) (r : NodeRec) → node_record_of kind d ≡ Ok r → node_is_well_formed r ≡ true
unfolding node_record_of
node-formed kind d r e =
    either (is_text kind (codes "start")) _ _ r e (start-formed d r) (λ e1.
    either (is_text kind (codes "take")) _ _ r e1 (made-formed (bounded_id_at max_offset (codes "off") d) Take r (bounded-id max_offset (codes "off") d)) (λ e2.
    either (is_text kind (codes "takes")) _ _ r e2 (made-formed (bounded_id_at max_offset (codes "off") d) Takes r (bounded-id max_offset (codes "off") d)) (λ e3.
    either (is_text kind (codes "open")) _ _ r e3 (open-formed d r) (λ e4.
    either (is_text kind (codes "join")) _ _ r e4 (made-formed (member_of d) (λ m. Join m.0 m.1) r (member-formed d)) (λ e5.
    either (is_text kind (codes "leave")) _ _ r e5 (made-formed (member_of d) (λ m. Leave m.0 m.1) r (member-formed d)) (λ e6.
    either (is_text kind (codes "break")) _ _ r e6 (made-formed (pid_and_turn d) (λ t. Broke t.0 t.1) r (turn-formed d)) (λ e7.
    either (is_text kind (codes "back")) _ _ r e7 (made-formed (pid_and_turn d) (λ t. Back t.0 t.1) r (turn-formed d)) (λ e8.
    either (is_text kind (codes "gone")) _ _ r e8 (made-formed (bounded_id_at max_id (codes "pid") d) Gone r (bounded-id max_id (codes "pid") d)) (λ e9. cc)))))))))
