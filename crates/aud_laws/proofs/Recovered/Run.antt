-- The cluster in which a session is recovered: its run is one, and two events are due in it.
use Rattle.std.proofs.Common.{◌≡◌, ℕ, zero, suc, true, [], ◌∷◌, map, Some, None, Option, slice_get, refl, sym, ap, ◌∙◌, inl, inr, unwrap_or, option_map, codes, arith}
use Rattle.std.proofs.lemmas.Bool.{ne_eqb}
use Rattle.std.proofs.lemmas.Option.{same_Some, none-some, slice_get_within}
use Rattle.std.specs.Ordering.{nat_cmp}
use Rattle.std.specs.Cmp.Lexicographic.{slice_cmp, nat_list_cmp_total}
use Rattle.std.specs.FinMap as fin
use Rattle.std.specs.FinSet as set
use Rattle.serde_json.proofs.OnLiterals.{serde_json_on_literals}
use Rattle.aud_sio.specs.Kind.{kind_at}
use Rattle.aud_sio.specs.Attachments.{attachments_at}
use Rattle.aud_sio.specs.Namespace.{leading_namespace}
use Rattle.aud_sio.specs.AckId.{ack_id_at}
use Rattle.aud_sio.specs.Payload.{last_of_payload, payload_at}
use Rattle.aud_sio.specs.Packet.{packet_of}
use Rattle.aud_tap.specs.declared.records.NodeRec.{NodeRec}
use Rattle.aud_tap.specs.declared.records.NodeRec.TheVariants.{Opened, Join, Broke, Back}
use Rattle.aud_node.specs.Cluster.{node_log}
use Rattle.aud_node.specs.Recoverable.{is_recoverable}
use Rattle.aud_node.specs.Stream.{Text}
use Rattle.aud_node.specs.TurnRecords.{pid_of}
use Rattle.aud_rooms.specs.Rooms.{Rooms, own_room, is_for}
use Rattle.aud_rooms.specs.Turns.{AreTurns, IsChain, StandsIn, slice_of, ByBreak, ByLog}
use Rattle.aud_rooms.specs.TurnsDue.{turns_due}
use Rattle.aud_merge.specs.Machine.{State, start, after}
use Rattle.aud_merge.specs.Runs.{IsMerging, AreAllowed, IsRun}
use Rattle.aud_merge.specs.Sessions.{SessionState, Absent, Here, Away, session_after}
use Rattle.aud_merge.specs.ByTurns.{FallsAfter, IsPrefixOf}
use Rattle.aud_merge.specs.Due.{due, reach}
use Rattle.aud_laws.specs.Recovery.{who, event, logs, turns, step, live_take, back, run, received_positions}
use Rattle.aud_merge.proofs.Basics.{get_insert_same}
use Rattle.aud_merge.proofs.DueLaws.{reach-turns, chain-none, due-chain}

-- ---- the run

-- the run has all steps of each log, in order
merges : IsMerging logs run
merges zero = refl
merges (suc zero) = refl
merges (suc (suc zero)) = refl
merges (suc (suc (suc zero))) = refl
merges (suc (suc (suc (suc place)))) = grind (arith, ne_eqb 0 (suc (suc (suc (suc place)))), ne_eqb 1 (suc (suc (suc (suc place)))), ne_eqb 2 (suc (suc (suc (suc place)))))

-- the sessions by pid
abbrev Sessions : Type 0
Sessions = fin.FinMap (slice_cmp nat_cmp) SessionState

-- the rooms of the session, once it has joined one
abbrev pub held : Rooms
held = set.insert (own_room who.sid) (codes "r")

-- the sessions after the `open`
abbrev opened : Sessions
opened = fin.insert fin.empty who.pid (Here 1 0 who.sid who.nsp (own_room who.sid))

-- the sessions after the `join`
abbrev joined : Sessions
joined = fin.insert opened who.pid (Here 1 0 who.sid who.nsp held)

-- the sessions after the break
abbrev broken : Sessions
broken = fin.insert joined who.pid (Away 0 who.sid who.nsp held)

-- the sessions after the recovery
abbrev returned : Sessions
returned = fin.insert broken who.pid (Here 2 1 who.sid who.nsp held)

-- so many entries are appended; so many records of the two nodes were taken, with these cursors
abbrev at : ℕ → ℕ → ℕ → ℕ → ℕ → Sessions → State
at entries taken cursor taken' cursor' sessions =
    record {
      logs = record { taken = entries; cursor = 0 } ∷ record { taken = taken; cursor = cursor } ∷ record { taken = taken'; cursor = cursor' } ∷ record { taken = 0; cursor = 0 } ∷ [];
      sessions = sessions;
    }

-- what a record does to the session
does : (node : ℕ) (rec : NodeRec) (old : Sessions) (was : Option SessionState) (session : SessionState) (next : Sessions → State)
    → fin.get old who.pid ≡ was → session_after node rec (unwrap_or was Absent) ≡ Some session
    → option_map next (option_map (λ s. fin.insert old who.pid s) (session_after node rec (unwrap_or (fin.get old who.pid) Absent))) ≡ Some (next (fin.insert old who.pid session))
does node rec old was session next is becomes = grind arith

-- the `open` is allowed, and the session is on the first node
opens : after logs (at 0 1 0 0 0 fin.empty) (step 1 1) ≡ Some (at 0 2 0 0 0 opened)
opens = does 1 (Opened who.pid who.sid who.nsp) fin.empty None _ (at 0 2 0 0 0) (fin.get-empty (slice_cmp nat_cmp) who.pid) refl

-- the `join` is allowed, and the session holds the room
joins : after logs (at 0 2 0 0 0 opened) (step 1 2) ≡ Some (at 0 3 0 0 0 joined)
joins = does 1 (Join who.pid (codes "r")) opened _ _ (at 0 3 0 0 0) (get_insert_same fin.empty who.pid _) refl

-- the break is allowed, and the session waits to be recovered
breaks : after logs (at 1 4 1 0 0 joined) (step 1 4) ≡ Some (at 1 5 1 0 0 broken)
breaks = does 1 (Broke who.pid 0) joined _ _ (at 1 5 1 0 0) (get_insert_same opened who.pid _) refl

-- the recovery on the second node is allowed, with the rooms from before the break
recovers : after logs (at 2 5 1 3 2 broken) back ≡ Some (at 2 5 1 4 2 returned)
recovers = does 2 (Back who.pid 1) broken _ _ (at 2 5 1 4 2) (get_insert_same joined who.pid _) refl

-- from the first entry on
allowed_on : AreAllowed logs (at 0 3 0 0 0 joined) (step 0 0 ∷ live_take ∷ step 1 4 ∷ step 2 0 ∷ step 0 1 ∷ step 2 1 ∷ step 2 2 ∷ back ∷ [])
allowed_on = (
  at 1 3 0 0 0 joined,
  refl,
  (at 1 4 1 0 0 joined, refl, (at 1 5 1 0 0 broken, breaks, (at 1 5 1 1 0 broken, refl, (at 2 5 1 1 0 broken, refl, (at 2 5 1 2 1 broken, refl, (at 2 5 1 3 2 broken, refl, (at 2 5 1 4 2 returned, recovers, tt))))))),
)

-- all steps of the run are allowed, from the start on
allowed : AreAllowed logs (start logs) run
allowed = (at 0 1 0 0 0 fin.empty, refl, (at 0 2 0 0 0 opened, opens, (at 0 3 0 0 0 joined, joins, allowed_on)))

-- the order shown is a run
pub is_run : IsRun logs run
is_run = record { merges = merges; allowed = allowed }

-- ---- the turns

-- the two turns stand in the logs
are : AreTurns logs who 0 turns
are = (
  record { within = omega arith; some = omega arith; begins = refl; end = ByBreak; ends = refl; may_end = tt },
  (record { within = omega arith; some = omega arith; begins = refl; end = ByLog; ends = refl; may_end = (refl, refl) }, tt),
)

-- a record that names nobody doesn't name the session
nobody : (rec found : NodeRec) → Some rec ≡ Some found → pid_of rec ≡ None → pid_of found ≡ Some who.pid → ⊥
nobody rec found at none names = none-some who.pid (sym none ∙ ap pid_of (same_Some rec found at) ∙ names)

-- all records that name the session stand in them
covers : (node number : ℕ) (rec : NodeRec) → slice_get (node_log logs node) number ≡ Some rec → pid_of rec ≡ Some who.pid → StandsIn node number turns
covers zero number rec at names = absurd (none-some rec at)
covers (suc zero) zero rec at names = absurd (nobody _ rec at refl names)
covers (suc zero) (suc number) rec at names = inl (refl, omega arith, slice_get_within (node_log logs 1) (suc number) rec at)
covers (suc (suc zero)) zero rec at names = absurd (nobody _ rec at refl names)
covers (suc (suc zero)) (suc zero) rec at names = absurd (nobody _ rec at refl names)
covers (suc (suc zero)) (suc (suc zero)) rec at names = absurd (nobody _ rec at refl names)
covers (suc (suc zero)) (suc (suc (suc number))) rec at names = inr (inl (refl, omega arith, slice_get_within (node_log logs 2) (suc (suc (suc number))) rec at))
covers (suc (suc (suc zero))) number rec at names = absurd (none-some rec at)
covers (suc (suc (suc (suc node)))) number rec at names = absurd (none-some rec at)

-- the two turns are all of the session's
pub chain : IsChain logs who turns
chain = record { some = omega arith; are_turns = are; covers = covers }

-- ---- what is due

-- the first event is recoverable
first_is_recoverable : is_recoverable (event (codes "1-0") (codes "2[\"hi\",\"1-0\"]")) ≡ true
unfolding is_recoverable packet_of kind_at attachments_at leading_namespace ack_id_at payload_at last_of_payload serde_json_on_literals
first_is_recoverable = refl

-- the second event is recoverable
second_is_recoverable : is_recoverable (event (codes "2-0") (codes "2[\"hi\",\"2-0\"]")) ≡ true
unfolding is_recoverable packet_of kind_at attachments_at leading_namespace ack_id_at payload_at last_of_payload serde_json_on_literals
second_is_recoverable = refl

-- the session is in the room
pub in_room : set.contains held (codes "r") ≡ true
in_room = set.contains-insert nat_list_cmp_total (own_room who.sid) (codes "r") (codes "r")

-- a recoverable event for the room is for the session
is_for_it : (off text : Text) → is_recoverable (event off text) ≡ true → is_for (Some (event off text)) who.nsp held ≡ true
is_for_it off text recoverable = rw (recoverable, in_room) refl

-- by the turns both events are due
pub due_by_turns : turns_due logs.stream who (map (slice_of logs) turns) ≡ 1 ∷ 2 ∷ []
due_by_turns = grind (arith, is_for_it _ _ first_is_recoverable, first_is_recoverable, is_for_it _ _ second_is_recoverable, second_is_recoverable)

-- in the run both events are due
pub both_are_due : due logs run who.pid ≡ 1 ∷ 2 ∷ []
both_are_due = due-chain logs run who turns is_run chain ∙ due_by_turns

-- the session is on the first node as that takes the first event
pub first_is_live : FallsAfter run (reach logs run who.pid 1) (Some live_take)
first_is_live = reach-turns logs run who turns is_run are 1 (inr (chain-none logs who turns chain))

-- the second one waits for the session to come back
pub second_is_replayed : FallsAfter run (reach logs run who.pid 2) (Some back)
second_is_replayed = reach-turns logs run who turns is_run are 2 (inr (chain-none logs who turns chain))

-- what the client received is a front of what is due, here all of it
pub received_is_front : IsPrefixOf received_positions (due logs run who.pid)
received_is_front = ([], sym both_are_due)
