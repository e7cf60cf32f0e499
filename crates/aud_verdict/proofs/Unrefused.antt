-- What nothing refuses is accepted.
use Rattle.std.proofs.Common.{◌≡◌, ◌≤◌, ℕ, suc, Bool, true, false, ◌&&◌, ◌||◌, List, [], ◌∷◌, length, map, drop, slice_get, Option, Some, None, refl, sym, ap, subst, ◌∙◌, inl, inr, nat_eq, nat_lt, arith}
use Rattle.std.specs.Bool.{Decides}
use Rattle.std.specs.Cmp.Lexicographic.{pointwise, slice_cmp}
use Rattle.std.specs.FinSet as set
use Rattle.std.specs.Option.{is_some}
use Rattle.std.specs.Ordering.{nat_cmp, is_lt}
use Rattle.std.specs.Set.{is_member}
use Rattle.std.specs.Str.{bytes_eq}
use Rattle.std.specs.declared.cmp.Ordering.{Ordering}
use Rattle.std.specs.declared.cmp.Ordering.TheVariants.{Less}
use Rattle.std.proofs.lemmas.Bool.{true≢false, false≢true, cases_lt, true_from_ne_false, false_from_ne_true}
use Rattle.std.proofs.lemmas.Bool.Decides.{Decides-and, Decides-or, Decides-eqb, Decides-ltb, Decides-like}
use Rattle.std.proofs.lemmas.Map.Made.{is_member-Decides}
use Rattle.std.proofs.lemmas.Option.{same_Some, none-some}
use Rattle.std.proofs.lemmas.Slice.Eq.{bytes_eq-Decides, slice_eq-Decides}
use Rattle.aud_tap.specs.declared.records.StreamRec.{StreamRec}
use Rattle.aud_tap.specs.declared.records.StreamRec.TheVariants.{Ev}
use Rattle.aud_tap.specs.declared.records.NodeRec.{NodeRec}
use Rattle.aud_node.specs.Stream.{Text, entry}
use Rattle.aud_node.specs.Cluster.{Cluster, node_log}
use Rattle.aud_node.specs.Cursors.{cursor_at}
use Rattle.aud_node.specs.Ordered.{is_ordered}
use Rattle.aud_rooms.specs.Rooms.{Rooms}
use Rattle.aud_rooms.specs.Turns.{Turn, End, ByBreak, ByGone, ByLog, MayEnd}
use Rattle.aud_rooms.specs.TurnsDue.{greatest_high}
use Rattle.aud_rooms.specs.Spans.{RoomSpan, IsMaximalInterval, ComesBefore, ComesBeforeAll, AreInOrder, AreSpans, first_low, rooms_by_turns}
use Rattle.aud_client.specs.StaySeen.{FrameSeen}
use Rattle.aud_cert.specs.Certificate.{TurnSeen, CertificateSeen, turn_at, log_named}
use Rattle.aud_cert.specs.declared.fault.Fault.{Fault}
use Rattle.aud_cert.specs.declared.fault.Fault.TheVariants.{Frame, Orphan, Content, Window}
use Rattle.aud_check.specs.declared.refusal.Refusal.{Refusal}
use Rattle.aud_check.specs.declared.refusal.Refusal.TheVariants.{NotItsTurn, NoEnd, Cursor, Span, Names, Received}
use Rattle.aud_check.specs.Faults.{Case, HasFault, IsReceived, positions_in}
use Rattle.aud_check.specs.Frames.{IsOf, IsEntry, AreEntries, IsFirstAltered, offset_at, wrong_window}
use Rattle.aud_check.specs.NamedStays.{are_of_session}
use Rattle.aud_check.specs.Shown.{who_of, slices_of}
use Rattle.aud_check.specs.TurnRefusals.{Ends, HasCursors, end_of, is_begun_by}
use Rattle.aud_check.specs.Refusals.{Place, AtTurn, AtWhole, Refuses, IsAccepted, certificate_case}
use Rattle.aud_check.proofs.Agreed.{difference-none}
use Rattle.aud_check.proofs.Different.{no_difference}

-- ---- what can't fail holds

-- what a test decides
stable : {P : Type 0} (r : Bool) → Decides r P → ((P → ⊥) → ⊥) → P
stable true d h = d.0 refl
stable false d h = absurd (h (λ p. false≢true (d.1 p)))

-- that a number is at most another
at_most : (m n : ℕ) → ((m ≤ n → ⊥) → ⊥) → m ≤ n
at_most m n h = elim (cases_lt n m) [ inl less ↦ absurd (h (λ le. omega arith)) | inr le ↦ le ]

-- ---- what was received

-- that a frame is its entry, byte for byte
is_of : (frame : FrameSeen) (at : Option StreamRec) → ((IsOf frame at → ⊥) → ⊥) → IsOf frame at
is_of frame (Some (Ev event)) h = (
  stable (bytes_eq frame.text event.text) (bytes_eq-Decides frame.text event.text) (λ no. h (λ is. no is.0)),
  stable (pointwise bytes_eq frame.bin event.bin) (slice_eq-Decides bytes_eq-Decides frame.bin event.bin (pointwise bytes_eq frame.bin event.bin) refl) (λ no. h (λ is. no is.1)),
)
is_of frame _ h = h (λ is. is)

-- frames of which none is the first that isn't its entry are their entries
entries : (stream : List StreamRec) (frames : List FrameSeen) → ((altered : FrameSeen) → IsFirstAltered stream frames altered → ⊥) → AreEntries stream frames
entries stream [] none = tt
entries stream (frame ∷ frames) none =
    let is : IsEntry stream frame =
    is_of frame (entry stream frame.position) (λ not. none frame (record { before = []; after = frames; parts = refl; are_entries = tt; is_altered = not })) in (
      is,
      entries stream frames (λ altered first.
          none altered (record { before = frame ∷ first.before; after = first.after; parts = ap (λ (fs : List FrameSeen). frame ∷ fs) first.parts; are_entries = (is, first.are_entries); is_altered = first.is_altered })),
    )

-- an option that is no value has none
nothing : (o : Option ℕ) → ((n : ℕ) → o ≡ Some n → ⊥) → o ≡ None
nothing None h = refl
nothing (Some n) h = absurd (h n refl)

-- where no fault of what was received holds, nothing is wrong with it
pub all_received : (case : Case) → ((fault : Fault) → HasFault case fault → ⊥) → IsReceived case
all_received case no_fault =
    record {
      decodes = nothing case.transcript.bad (λ n e. no_fault Frame (ap is_some e));
      has_no_orphan = false_from_ne_true case.transcript.orphan (no_fault Orphan);
      are_entries = entries case.stream case.frames (λ altered first. no_fault (Content (offset_at case.stream altered.position)) (altered, first, refl));
      is_prefix = (difference-none (positions_in case) case.due).0 (no_difference case no_fault);
      has_no_window = nothing (wrong_window case.stream [] case.stays) (λ n e. no_fault (Window n) e);
    }

-- ---- spans

-- a span as a text
abbrev key : RoomSpan → Text
key s = s.first ∷ s.last ∷ s.room

-- two spans are one where their texts are
same_key-Decides : (a b : RoomSpan) → Decides (bytes_eq (key a) (key b)) (a ≡ b)
same_key-Decides a b = Decides-like (bytes_eq (key a) (key b)) there (ap key) (bytes_eq-Decides (key a) (key b))
  where
    there : key a ≡ key b → a ≡ b
    there e =
        let room : a.room ≡ b.room = cc in
        let first : a.first ≡ b.first = cc in
        let last : a.last ≡ b.last = cc in
        λ i. record { room = room i; first = first i; last = last i }

-- an order is less where it passes the test
is_less : (o : Ordering) → Decides (is_lt o) (o ≡ Less)
is_less o = grind arith

-- that a span comes before another
comes_before : (a b : RoomSpan) → ((ComesBefore a b → ⊥) → ⊥) → ComesBefore a b
comes_before a b =
    let order = slice_cmp nat_cmp a.room b.room in
    stable (is_lt order || (bytes_eq a.room b.room && nat_lt a.first b.first))
    (Decides-or (is_lt order) (bytes_eq a.room b.room && nat_lt a.first b.first) (is_less order)
    (Decides-and (bytes_eq a.room b.room) (nat_lt a.first b.first) (bytes_eq-Decides a.room b.room) (Decides-ltb a.first b.first)))

-- that a span comes before all of these
comes_before_all : (a : RoomSpan) (spans : List RoomSpan) → ((ComesBeforeAll a spans → ⊥) → ⊥) → ComesBeforeAll a spans
comes_before_all a [] h = tt
comes_before_all a (b ∷ spans) h = (comes_before a b (λ no. h (λ is. no is.0)), comes_before_all a spans (λ no. h (λ is. no is.1)))

-- that spans stand in order
in_order : (spans : List RoomSpan) → ((AreInOrder spans → ⊥) → ⊥) → AreInOrder spans
in_order [] h = tt
in_order (a ∷ spans) h = (comes_before_all a spans (λ no. h (λ is. no is.0)), in_order spans (λ no. h (λ is. no is.1)))

-- that an interval is maximal
maximal : (test : ℕ → Bool) (low high first last : ℕ) → ((IsMaximalInterval test low high first last → ⊥) → ⊥) → IsMaximalInterval test low high first last
maximal test low high first last h =
    record {
      past_low = at_most (suc low) first (λ no. h (λ is. no is.past_low));
      some = at_most first last (λ no. h (λ is. no is.some));
      to_high = at_most last high (λ no. h (λ is. no is.to_high));
      held = λ p from to. true_from_ne_false (test p) (λ no. h (λ is. true≢false (sym (is.held p from to) ∙ no)));
      not_before = λ p past next. false_from_ne_true (test p) (λ yes. h (λ is. false≢true (sym (is.not_before p past next) ∙ yes)));
      not_after = λ p within next. false_from_ne_true (test p) (λ yes. h (λ is. false≢true (sym (is.not_after p within next) ∙ yes)));
    }

-- that spans are those of the rooms
are_spans : (rooms_at : ℕ → Rooms) (low high : ℕ) (spans : List RoomSpan) → ((AreSpans rooms_at low high spans → ⊥) → ⊥) → AreSpans rooms_at low high spans
are_spans rooms_at low high spans h =
    record {
      each = λ s at. maximal (λ p. set.contains (rooms_at p) s.room) low high s.first s.last (λ no. h (λ are. no (are.each s at)));
      all = λ s is. stable (is_member (λ a b. bytes_eq (key a) (key b)) spans s) (is_member-Decides same_key-Decides spans s) (λ no. h (λ are. no (are.all s is)));
      in_order = in_order spans (λ no. h (λ are. no are.in_order));
    }

-- ---- turns

-- that a turn may end so before these later turns
may_end : (c : Cluster) (t : Turn) (later : List Turn) (end : End) → ((MayEnd c t later end → ⊥) → ⊥) → MayEnd c t later end
may_end c t later ByBreak h = tt
may_end c t [] ByGone h = refl
may_end c t (u ∷ later) ByGone h = absurd (h (λ (e : u ∷ later ≡ []). cc))
may_end c t [] ByLog h = (refl, stable (nat_eq t.to (length (node_log c t.node))) (Decides-eqb t.to (length (node_log c t.node))) (λ no. h (λ is. no is.1)))
may_end c t (u ∷ later) ByLog h = absurd (h (λ is. let e : u ∷ later ≡ [] = is.0 in cc))

-- that a turn ends
ends : (c : Cluster) (pid : Text) (k : ℕ) (t : TurnSeen) (later : List TurnSeen) → ((Ends c pid k t later → ⊥) → ⊥) → Ends c pid k t later
ends c pid k t later h = go (end_of pid k t.recs) refl
  where
    go : (end : Option End) → end_of pid k t.recs ≡ end → Ends c pid k t later
    go None e = absurd (h (λ is. none-some is.end (sym e ∙ is.is_end)))
    go (Some end) e =
        record {
          within = at_most t.to (length (log_named c t.node)) (λ no. h (λ is. no is.within));
          end = end;
          is_end = e;
          may_end = may_end c (turn_at c t) (map (turn_at c) later) end (λ no. h (λ is. no (subst (MayEnd c (turn_at c t) (map (turn_at c) later)) (same_Some is.end end (sym is.is_end ∙ e)) is.may_end)));
        }

-- that a turn has the cursors of its log
cursors : (stream : List StreamRec) (log : List NodeRec) (t : TurnSeen) → ((HasCursors stream log t → ⊥) → ⊥) → HasCursors stream log t
cursors stream log t h =
    record {
      ordered = true_from_ne_false (is_ordered stream log) (λ no. h (λ has. true≢false (sym has.ordered ∙ no)));
      low_is = stable (nat_eq t.low (cursor_at stream log (suc t.from))) (Decides-eqb t.low (cursor_at stream log (suc t.from))) (λ no. h (λ has. no has.low_is));
      high_is = stable (nat_eq t.high (cursor_at stream log t.to)) (Decides-eqb t.high (cursor_at stream log t.to)) (λ no. h (λ has. no has.high_is));
    }

-- ---- certificates

-- a certificate that nothing refuses is accepted
pub accepted : (c : Cluster) (cert : CertificateSeen) → ((place : Place) (refusal : Refusal) → Refuses c cert place refusal → ⊥) → IsAccepted c cert
accepted c cert free =
    record {
      are_turns = λ k t at. record {
        begins = true_from_ne_false (is_begun_by cert.pid k (slice_get t.recs 0)) (λ no. free (AtTurn k) NotItsTurn (t, at, no));
        ends = ends c cert.pid k t (drop (suc k) cert.turns) (λ no. free (AtTurn k) NoEnd (t, at, no));
        cursors = cursors c.stream (log_named c t.node) t (λ no. free (AtTurn k) Cursor (t, at, no));
      };
      are_spans = are_spans (rooms_by_turns c.stream (who_of cert) (slices_of c cert)) (first_low (slices_of c cert)) (greatest_high (slices_of c cert)) cert.spans (free AtWhole Span);
      are_named = true_from_ne_false (are_of_session (who_of cert) (certificate_case c cert).stays) (free AtWhole Names);
      is_received = all_received (certificate_case c cert) (λ fault. free AtWhole (Received fault));
    }
