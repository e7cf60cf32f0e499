-- The certificate of the recovered session is accepted.
use Rattle.std.proofs.Common.{◌≡◌, ◌≤◌, ◌||◌, ℕ, zero, suc, Bool, true, false, [], ◌∷◌, drop, Some, slice_get, refl, sym, ap, subst, ◌∙◌, ◌⊎◌, inl, inr, codes, arith}
use Rattle.std.proofs.lemmas.Bool.{false≢true}
use Rattle.std.proofs.lemmas.Option.{same_Some, none-some}
use Rattle.std.specs.List.{Contains}
use Rattle.std.specs.Ordering.{nat_cmp, eq_by_cmp}
use Rattle.std.specs.Cmp.Lexicographic.{slice_cmp, nat_list_cmp_total, texts_ties, bytes_decides}
use Rattle.std.specs.FinSet as set
use Rattle.serde_json.proofs.OnLiterals.{serde_json_on_literals}
use Rattle.aud_sio.specs.Kind.{kind_at}
use Rattle.aud_sio.specs.Attachments.{attachments_at}
use Rattle.aud_sio.specs.Namespace.{leading_namespace}
use Rattle.aud_sio.specs.AckId.{ack_id_at}
use Rattle.aud_sio.specs.Payload.{last_of_payload, payload_at}
use Rattle.aud_sio.specs.Packet.{packet_of}
use Rattle.aud_node.specs.Recoverable.{is_recoverable}
use Rattle.aud_node.specs.Stream.{Text}
use Rattle.aud_rooms.specs.Rooms.{own_room}
use Rattle.aud_rooms.specs.Turns.{ByBreak, ByLog}
use Rattle.aud_rooms.specs.Spans.{RoomSpan, IsMaximal, AreSpansOfTurns, rooms_by_turns}
use Rattle.aud_laws.specs.Recovery.{who, logs}
use Rattle.aud_laws.proofs.Recovered.Run.{held, in_room, due_by_turns}
use Rattle.aud_cert.specs.Certificate.{TurnSeen, IsOver}
use Rattle.aud_check.specs.Faults.{IsReceived, positions_in}
use Rattle.aud_check.specs.NamedStays.{are_of_session}
use Rattle.aud_check.specs.Refusals.{IsAccepted, certificate_case}
use Rattle.aud_check.specs.Shown.{who_of, slices_of}
use Rattle.aud_check.specs.TurnRefusals.{IsTurnAccepted, AreTurnsAccepted}
use Rattle.aud_laws.specs.RecoveredCertificate.{certificate}

-- ---- the turns

-- their records are those of the logs
pub is_over : IsOver logs certificate
is_over zero none within = refl
is_over (suc zero) none within = refl
is_over (suc (suc k)) none within = absurd (omega (arith, within))

-- the turn on the first node is accepted
first_accepted : (t : TurnSeen) → slice_get certificate.turns 0 ≡ Some t → IsTurnAccepted logs certificate.pid 0 t (drop 1 certificate.turns)
first_accepted t at =
    subst (λ t. IsTurnAccepted logs certificate.pid 0 t (drop 1 certificate.turns)) (same_Some _ t at)
    (record { begins = refl; ends = record { within = omega arith; end = ByBreak; is_end = refl; may_end = tt }; cursors = record { ordered = refl; low_is = refl; high_is = refl } })

-- the turn on the second node is accepted
second_accepted : (t : TurnSeen) → slice_get certificate.turns 1 ≡ Some t → IsTurnAccepted logs certificate.pid 1 t []
second_accepted t at =
    subst (λ t. IsTurnAccepted logs certificate.pid 1 t []) (same_Some _ t at)
    (record { begins = refl; ends = record { within = omega arith; end = ByLog; is_end = refl; may_end = (refl, refl) }; cursors = record { ordered = refl; low_is = refl; high_is = refl } })

-- both turns are accepted
are_turns : AreTurnsAccepted logs certificate.pid certificate.turns
are_turns zero t at = first_accepted t at
are_turns (suc zero) t at = second_accepted t at
are_turns (suc (suc k)) t at = absurd (none-some t at)

-- ---- the spans

-- a room that the session has after it joined one is held at both positions
held_at_both : (room : Text) → set.contains held room ≡ true → (p : ℕ) → 1 ≤ p → p ≤ 2 → set.contains (rooms_by_turns logs.stream (who_of certificate) (slices_of logs certificate) p) room ≡ true
held_at_both room is zero low high = absurd (omega (arith, low))
held_at_both room is (suc zero) low high = is
held_at_both room is (suc (suc zero)) low high = is
held_at_both room is (suc (suc (suc p))) low high = absurd (omega (arith, high))

-- a room that the session holds after its `join` is held at both positions, and at no others
maximal : (room : Text) → set.contains held room ≡ true → IsMaximal (rooms_by_turns logs.stream (who_of certificate) (slices_of logs certificate)) 0 2 (record { room = room; first = 1; last = 2 })
maximal room is =
    record {
      past_low = omega arith;
      some = omega arith;
      to_high = omega arith;
      held = held_at_both room is;
      not_before = λ p past e. absurd (omega (arith, past, e));
      not_after = λ p upto e. absurd (omega (arith, upto, e));
    }

-- the session is in its own room
in_own_room : set.contains held (codes "s1") ≡ true
in_own_room =
    set.contains-insert nat_list_cmp_total (own_room who.sid) (codes "r") (codes "s1")
    ∙ set.contains-insert nat_list_cmp_total set.empty who.sid (codes "s1")

-- the session has no other room
its_rooms : (room : Text) → set.contains held room ≡ true → (room ≡ codes "r") ⊎ (room ≡ codes "s1")
its_rooms room is =
    go (eq_by_cmp (slice_cmp nat_cmp) room (codes "r")) (eq_by_cmp (slice_cmp nat_cmp) room (codes "s1")) refl refl
    (sym (set.contains-insert nat_list_cmp_total (own_room who.sid) (codes "r") room
    ∙ ap (λ b. eq_by_cmp (slice_cmp nat_cmp) room (codes "r") || b)
    (set.contains-insert nat_list_cmp_total set.empty who.sid room ∙ ap (λ b. eq_by_cmp (slice_cmp nat_cmp) room (codes "s1") || b) (set.contains-empty (slice_cmp nat_cmp) room)))
    ∙ is)
  where
    same : (other : Text) → eq_by_cmp (slice_cmp nat_cmp) room other ≡ true → room ≡ other
    same other e = (bytes_decides room other).0 (texts_ties room other ∙ e)

    go : (r s : Bool) → eq_by_cmp (slice_cmp nat_cmp) room (codes "r") ≡ r → eq_by_cmp (slice_cmp nat_cmp) room (codes "s1") ≡ s
        → (eq_by_cmp (slice_cmp nat_cmp) room (codes "r") || (eq_by_cmp (slice_cmp nat_cmp) room (codes "s1") || false)) ≡ true
        → (room ≡ codes "r") ⊎ (room ≡ codes "s1")
    go true s is_r is_s one = inl (same (codes "r") is_r)
    go false true is_r is_s one = inr (same (codes "s1") is_s)
    go false false is_r is_s one = absurd (false≢true (sym (ap (λ b. b || (eq_by_cmp (slice_cmp nat_cmp) room (codes "s1") || false)) is_r ∙ ap (λ b. b || false) is_s) ∙ one))

-- both rooms have their span in the certificate
among : (room : Text) → (room ≡ codes "r") ⊎ (room ≡ codes "s1") → Contains certificate.spans (record { room = room; first = 1; last = 2 })
among room (inl is) = (0, omega arith, ap (λ room. record { room = room; first = 1; last = 2 }) (sym is))
among room (inr is) = (1, omega arith, ap (λ room. record { room = room; first = 1; last = 2 }) (sym is))

-- each maximal interval of a room is one of the certificate's spans
all : (room : Text) (first last : ℕ) → IsMaximal (rooms_by_turns logs.stream (who_of certificate) (slices_of logs certificate)) 0 2 (record { room = room; first = first; last = last })
    → Contains certificate.spans (record { room = room; first = first; last = last })
all room zero last m = let past = m.past_low in absurd (omega (arith, past))
all room (suc zero) zero m = let some = m.some in absurd (omega (arith, some))
all room (suc zero) (suc zero) m = absurd (false≢true (sym (m.not_after 2 (omega arith) refl) ∙ m.held 1 (omega arith) (omega arith)))
all room (suc zero) (suc (suc zero)) m = among room (its_rooms room (m.held 1 (omega arith) (omega arith)))
all room (suc zero) (suc (suc (suc last))) m = let high = m.to_high in absurd (omega (arith, high))
all room (suc (suc zero)) zero m = let some = m.some in absurd (omega (arith, some))
all room (suc (suc zero)) (suc zero) m = let some = m.some in absurd (omega (arith, some))
all room (suc (suc zero)) (suc (suc last)) m =
    let high = m.to_high in
    absurd (false≢true (sym (m.not_before 1 (omega arith) refl) ∙ m.held 2 (omega arith) (omega (arith, high))))
all room (suc (suc (suc first))) last m =
    let some = m.some in
    let high = m.to_high in
    absurd (omega (arith, some, high))

-- each of the certificate's spans is a maximal interval of its room
each : (s : RoomSpan) → Contains certificate.spans s → IsMaximal (rooms_by_turns logs.stream (who_of certificate) (slices_of logs certificate)) 0 2 s
each s (zero, within, is) = subst (IsMaximal (rooms_by_turns logs.stream (who_of certificate) (slices_of logs certificate)) 0 2) is (maximal (codes "r") in_room)
each s (suc zero, within, is) = subst (IsMaximal (rooms_by_turns logs.stream (who_of certificate) (slices_of logs certificate)) 0 2) is (maximal (codes "s1") in_own_room)
each s (suc (suc k), within, is) = absurd (omega (arith, within))

-- the certificate's spans are those of the turns
are_spans : AreSpansOfTurns logs.stream (who_of certificate) (slices_of logs certificate) certificate.spans
are_spans = record { each = each; all = λ s m. all s.room s.first s.last m; in_order = ((inl refl, tt), (tt, tt)) }

-- ---- the client

-- the client's stays have the session's sid and namespace
are_named : are_of_session (who_of certificate) (certificate_case logs certificate).stays ≡ true
unfolding is_recoverable packet_of kind_at attachments_at leading_namespace ack_id_at payload_at last_of_payload serde_json_on_literals
are_named = refl

-- the client received both events, in order
pub received : positions_in (certificate_case logs certificate) ≡ 1 ∷ 2 ∷ []
unfolding is_recoverable packet_of kind_at attachments_at leading_namespace ack_id_at payload_at last_of_payload serde_json_on_literals
received = refl

-- nothing is wrong with what the client received
is_received : IsReceived (certificate_case logs certificate)
unfolding is_recoverable packet_of kind_at attachments_at leading_namespace ack_id_at payload_at last_of_payload serde_json_on_literals
is_received =
    record {
      decodes = refl;
      has_no_orphan = refl;
      are_entries = ((refl, refl), ((refl, refl), tt));
      is_prefix = ([], sym due_by_turns);
      has_no_window = refl;
    }

-- the certificate is accepted
pub is_accepted : IsAccepted logs certificate
is_accepted = record { are_turns = are_turns; are_spans = are_spans; are_named = are_named; is_received = is_received }
