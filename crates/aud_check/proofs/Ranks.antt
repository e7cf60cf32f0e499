-- What comes first.
use Rattle.std.proofs.Common.{◌≡◌, ◌<◌, ◌≤◌, ◌+◌, ◌*◌, ℕ, suc, false, List, ◌∷◌, ◌++◌, [], length, drop, Option, Some, None, slice_get, refl, sym, ap, subst, ◌∙◌, ◌⊎◌, inl, inr, arith, true≢false}
use Rattle.std.specs.Option.{IsSome, option_map}
use Rattle.std.proofs.lemmas.Bool.{cases_lt}
use Rattle.std.proofs.lemmas.Option.{none-some, same_Some, slice_get_within}
use Rattle.aud_node.specs.Stream.{Text}
use Rattle.aud_node.specs.Cluster.{Cluster}
use Rattle.aud_tap.specs.declared.records.StreamRec.{StreamRec}
use Rattle.aud_client.specs.StaySeen.{FrameSeen}
use Rattle.aud_cert.specs.Certificate.{CertificateSeen, TurnSeen}
use Rattle.aud_cert.specs.declared.fault.Fault.{Fault}
use Rattle.aud_cert.specs.declared.fault.Fault.TheVariants as fault
use Rattle.aud_check.specs.declared.refusal.Refusal.{Refusal}
use Rattle.aud_check.specs.declared.refusal.Refusal.TheVariants.{Span, Names, Received}
use Rattle.aud_check.specs.Difference.{difference}
use Rattle.aud_check.specs.Frames.{AreEntries, IsEntry, IsFirstAltered, wrong_window}
use Rattle.aud_check.specs.Faults.{Case, HasFault, IsReceived, fault_of, difference_fault, positions_in, fault_rank}
use Rattle.aud_check.specs.Faults.{IsFirstFault}
use Rattle.aud_check.specs.TurnRefusals.{RefusesTurn, AreTurnsAccepted, refusal_rank}
use Rattle.aud_check.specs.Private.TurnCheck.{IsFirstOfTurns}
use Rattle.aud_check.specs.Refusals.{Place, AtTurn, AtWhole, Refuses, RefusesWhole, RefusesFirst, IsAccepted, place_rank, certificate_case}
use Rattle.aud_check.proofs.Agreed.{difference-none}
use Rattle.aud_check.proofs.TurnRefusals.{not_refused}

-- a turn is refused by the first four alone
turn_rank : (c : Cluster) (pid : Text) (k : ℕ) (t : TurnSeen) (later : List TurnSeen) (refusal : Refusal) → RefusesTurn c pid k t later refusal → refusal_rank refusal ≤ 3
turn_rank c pid k t later refusal h = grind arith

module _ (c : Cluster) (cert : CertificateSeen) where
  -- the first that refuses the turns is the first of all
  pub first_of_turns : (refusal : Refusal) → IsFirstOfTurns c cert.pid cert.turns refusal → RefusesFirst c cert refusal
  first_of_turns refusal is =
      record { place = AtTurn is.number; refuses = (is.turn, is.stands, is.is_first.refuses); none_before = go }
    where
      own : refusal_rank refusal ≤ 3
      own = turn_rank c cert.pid is.number is.turn (drop (suc is.number) cert.turns) refusal is.is_first.refuses

      at_turn : (k : ℕ) (other : Refusal) → 4 * k + refusal_rank other < 4 * is.number + refusal_rank refusal → (t : TurnSeen) → slice_get cert.turns k ≡ Some t
          → RefusesTurn c cert.pid k t (drop (suc k) cert.turns) other → (k < is.number) ⊎ (is.number ≤ k) → ⊥
      at_turn k other before t at h (inl less) = not_refused c cert.pid k t (drop (suc k) cert.turns) (is.accepted k t less at) other h
      at_turn k other before t at h (inr more) =
          let four = own in
          let same : k ≡ is.number = omega arith in
          let turn : t ≡ is.turn = same_Some t is.turn (sym at ∙ ap (slice_get cert.turns) same ∙ is.stands) in
          is.is_first.none_before other (omega arith)
          (subst (λ s. RefusesTurn c cert.pid is.number s (drop (suc is.number) cert.turns) other) turn (subst (λ n. RefusesTurn c cert.pid n t (drop (suc n) cert.turns) other) same h))

      go : (place : Place) (other : Refusal) → place_rank cert place other < 4 * is.number + refusal_rank refusal → Refuses c cert place other → ⊥
      go (AtTurn k) other before (t, at, h) = at_turn k other before t at h (cases_lt k is.number)
      go AtWhole other before h =
          let within = slice_get_within cert.turns is.number is.turn is.stands in
          let four = own in
          omega arith

  -- where the turns are accepted, the first that refuses the whole is the first of all
  pub first_of_whole : AreTurnsAccepted c cert.pid cert.turns → (refusal : Refusal) → RefusesWhole c cert refusal
      → ((other : Refusal) → refusal_rank other < refusal_rank refusal → RefusesWhole c cert other → ⊥) → RefusesFirst c cert refusal
  first_of_whole turns refusal h none = record { place = AtWhole; refuses = h; none_before = go }
    where
      go : (place : Place) (other : Refusal) → place_rank cert place other < 4 * length cert.turns + refusal_rank refusal → Refuses c cert place other → ⊥
      go (AtTurn k) other before (t, at, refuses) = not_refused c cert.pid k t (drop (suc k) cert.turns) (turns k t at) other refuses
      go AtWhole other before refuses = none other (omega arith) refuses

-- ---- faults

-- a frame among frames that are all their entries is its entry
entry_of : (stream : List StreamRec) (before : List FrameSeen) (altered : FrameSeen) (after : List FrameSeen) → AreEntries stream (before ++ altered ∷ after) → IsEntry stream altered
entry_of stream [] altered after (is, rest) = is
entry_of stream (frame ∷ before) altered after (is, rest) = entry_of stream before altered after rest

-- where all frames are their entries there is no first one that isn't
pub no_altered : (stream : List StreamRec) (frames : List FrameSeen) (altered : FrameSeen) → AreEntries stream frames → IsFirstAltered stream frames altered → ⊥
no_altered stream frames altered are is = is.is_altered (entry_of stream is.before altered is.after (subst (AreEntries stream) is.parts are))

-- where what was received begins what was due, there is no fault of a difference
pub not_different : (case : Case) → difference (positions_in case) case.due ≡ None → (f : Fault) → difference_fault case ≡ Some f → ⊥
not_different case none f h = none-some f (sym (ap (option_map (fault_of case.stream)) none) ∙ h)

-- nothing is both there and missing
pub some_or_none : {A : Type 0} (o : Option A) → o ≡ None → IsSome o → ⊥
some_or_none o e h = grind arith

module _ (case : Case) (decodes : case.transcript.bad ≡ None) (has_no_orphan : case.transcript.orphan ≡ false) (are_entries : AreEntries case.stream case.frames) where
  -- where the tap decodes, has no orphan and each frame is its entry, a fault is a difference or a window
  pub what_is_left : (f : Fault) → HasFault case f → ((difference_fault case ≡ Some f) × (fault_rank f ≡ 3)) ⊎ ((wrong_window case.stream [] case.stays ≡ None → ⊥) × (fault_rank f ≡ 4))
  what_is_left fault.Frame h = absurd (some_or_none case.transcript.bad decodes h)
  what_is_left fault.Orphan h = absurd (true≢false (sym h ∙ has_no_orphan))
  what_is_left (fault.Content off) (altered, first, named) = absurd (no_altered case.stream case.frames altered are_entries first)
  what_is_left (fault.Extra off) h = inl (h, refl)
  what_is_left (fault.Doubled off) h = inl (h, refl)
  what_is_left (fault.Swapped off) h = inl (h, refl)
  what_is_left (fault.Lost off) h = inl (h, refl)
  what_is_left (fault.Window n) h = inr ((λ none. none-some n (sym none ∙ h)), refl)
  what_is_left _ h = absurd h

-- nothing is wrong with what was received
pub no_fault : (case : Case) → IsReceived case → (f : Fault) → HasFault case f → ⊥
no_fault case is f h =
    elim (what_is_left case is.decodes is.has_no_orphan is.are_entries f h) [
      | inl found ↦ not_different case ((difference-none (positions_in case) case.due).1 is.is_prefix) f found.0
      | inr found ↦ found.0 is.has_no_window
    ]

module _ (c : Cluster) (cert : CertificateSeen) where
  -- where the turns are accepted, wrong spans come first
  pub first_span : AreTurnsAccepted c cert.pid cert.turns → RefusesWhole c cert Span → RefusesFirst c cert Span
  first_span turns h = first_of_whole c cert turns Span h (λ other before refuses. absurd (omega arith))

  -- after the spans come the names
  pub first_names : AreTurnsAccepted c cert.pid cert.turns → (RefusesWhole c cert Span → ⊥) → RefusesWhole c cert Names → RefusesFirst c cert Names
  first_names turns spans h = first_of_whole c cert turns Names h go
    where
      go : (other : Refusal) → refusal_rank other < 1 → RefusesWhole c cert other → ⊥
      go Span before refuses = spans refuses
      go Names before refuses = absurd (omega arith)
      go (Received f) before refuses = absurd (omega arith)
      go _ before refuses = refuses

  -- and after the names the first fault
  pub first_fault : AreTurnsAccepted c cert.pid cert.turns → (RefusesWhole c cert Span → ⊥) → (RefusesWhole c cert Names → ⊥) → (f : Fault) → IsFirstFault (certificate_case c cert) f → RefusesFirst c cert (Received f)
  first_fault turns spans names f is = first_of_whole c cert turns (Received f) is.holds go
    where
      go : (other : Refusal) → refusal_rank other < 2 + fault_rank f → RefusesWhole c cert other → ⊥
      go Span before refuses = spans refuses
      go Names before refuses = names refuses
      go (Received g) before refuses = is.none_before g (omega arith) refuses
      go _ before refuses = refuses

  -- nothing refuses an accepted certificate
  pub nothing_refuses : IsAccepted c cert → (place : Place) (refusal : Refusal) → Refuses c cert place refusal → ⊥
  nothing_refuses is place refusal h = grind (arith, not_refused c cert.pid, no_fault (certificate_case c cert))
