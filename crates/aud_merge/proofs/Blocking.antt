-- A record that isn't allowed stays so until a step tells what can make it so.
use Rattle.std.proofs.Common.{◌≡◌, ℕ, zero, suc, true, cond, List, [], ◌∷◌, set, take, Option, Some, None, slice_get, refl, sym, ap, ◌∙◌, ◌⊎◌, inl, inr, nat_eq, arith, option_map, option_and_then}
use Rattle.std.proofs.lemmas.Bool.{false≢true, cases_eq, eq-eqb}
use Rattle.std.proofs.lemmas.Bool.Decides.{nat_tests}
use Rattle.std.proofs.lemmas.Option.{none-some}
use Rattle.std.specs.Ordering.{nat_cmp}
use Rattle.std.specs.Cmp.Lexicographic.{slice_cmp}
use Rattle.std.specs.FinMap as fin
use Rattle.aud_tap.specs.declared.records.StreamRec.{StreamRec}
use Rattle.aud_tap.specs.declared.records.NodeRec.{NodeRec}
use Rattle.aud_tap.specs.declared.taps.Tap.{Tap}
use Rattle.aud_tap.specs.declared.taps.Records.{Records}
use Rattle.aud_tap.specs.declared.taps.Records.TheVariants.{Stream, Node, Client}
use Rattle.aud_base.proofs.SameText.{same_text}
use Rattle.aud_node.specs.Cluster.{Cluster, stream_place, is_stream, log_at, node_log, node_recs}
use Rattle.aud_node.specs.Stream.{Text, position, offset_of}
use Rattle.aud_node.specs.TurnRecords.{pid_of}
use Rattle.aud_node.proofs.ListLemmas.{first_index-found}
use Rattle.aud_rooms.specs.Rooms.{Rooms}
use Rattle.aud_merge.specs.declared.step.Step.{Step}
use Rattle.aud_merge.specs.declared.progress.Progress.{Progress}
use Rattle.aud_merge.specs.Machine.{State, after, after_next, after_record, after_entry, allowed_cursor, sessions_after, session_of, appended, taken_at, taken_in, taken_of}
use Rattle.aud_merge.specs.Runs.{front}
use Rattle.aud_merge.specs.Sessions.{SessionState, Absent, Here, Away, Ended, session_after}
use Rattle.aud_merge.proofs.Steps.{Stepped, stepped, moved}
use Rattle.aud_merge.specs.Private.Causes.{Cause, awaited, awaited_by, told, told_by, told_or, told_entry, entry_cause, is_at}

-- one more entry gives no other offset a position
position-one : (a : ℕ) (stream : List StreamRec) (off : Text) → ((e : StreamRec) → slice_get stream a ≡ Some e → offset_of e ≡ off → ⊥)
    → position (take (suc a) stream) off ≡ position (take a stream) off
position-one zero [] off other = refl
position-one (suc a) [] off other = refl
position-one zero (x ∷ xs) off other = grind (arith, other x refl, same_text)
position-one (suc a) (x ∷ xs) off other = grind (arith, position-one a xs off other)

-- nor does it allow a record that doesn't wait for it
cursor-one : (a : ℕ) (stream : List StreamRec) (i : ℕ) (rec : NodeRec) (cursor : ℕ)
    → ((e : StreamRec) → slice_get stream a ≡ Some e → awaited_by rec ≡ Some (entry_cause e) → ⊥)
    → allowed_cursor (take (suc a) stream) i rec cursor ≡ allowed_cursor (take a stream) i rec cursor
cursor-one a stream i rec cursor other = grind (arith, position-one a stream)

-- a session that a node's record leaves on a node is on this one
here-after : (l : ℕ) (rec : NodeRec) (s : SessionState) (at turn : ℕ) (sid nsp : Text) (held : Rooms)
    → session_after l rec s ≡ Some (Here at turn sid nsp held) → at ≡ l
here-after l rec s at turn sid nsp held e = grind (arith, nat_tests)

-- one that it leaves away may begin the next turn, which the record tells
away-after : (l : ℕ) (rec : NodeRec) (s : SessionState) (turn : ℕ) (sid nsp : Text) (held : Rooms) (pid : Text)
    → pid_of rec ≡ Some pid → session_after l rec s ≡ Some (Away turn sid nsp held) → told_by rec ≡ Some (pid, suc turn)
away-after l rec s turn sid nsp held pid names e = grind (arith, nat_tests)

-- it leaves none that was never opened
absent-after : (l : ℕ) (rec : NodeRec) (s : SessionState) → session_after l rec s ≡ Some Absent → ⊥
absent-after l rec s e = grind (arith, nat_tests)

-- of a session on a node no other node's record is allowed
here-other : (m : ℕ) (rec : NodeRec) (at turn : ℕ) (sid nsp : Text) (held : Rooms) → (at ≡ m → ⊥) → session_after m rec (Here at turn sid nsp held) ≡ None
here-other m rec at turn sid nsp held n = grind (arith, nat_tests)

-- of one that is away, none but that which waits for its next turn
away-other : (m : ℕ) (rec : NodeRec) (turn : ℕ) (sid nsp : Text) (held : Rooms) (pid : Text)
    → pid_of rec ≡ Some pid → (awaited_by rec ≡ Some (pid, suc turn) → ⊥) → session_after m rec (Away turn sid nsp held) ≡ None
away-other m rec turn sid nsp held pid names n = grind (arith, nat_tests)

-- of one that is over, none
ended-other : (m : ℕ) (rec : NodeRec) → session_after m rec Ended ≡ None
ended-other m rec = grind arith

-- after a record of one node, of another node no record of the session is allowed, but the one that waits for what it
-- tells
session-one : (l m : ℕ) (one other : NodeRec) (pid : Text) (s s' : SessionState) → (l ≡ m → ⊥) → pid_of one ≡ Some pid → pid_of other ≡ Some pid
    → session_after l one s ≡ Some s' → ((cause : Cause) → told_by one ≡ Some cause → awaited_by other ≡ Some cause → ⊥)
    → session_after m other s' ≡ None
session-one l m one other pid s Absent n names names' e apart = absurd (absent-after l one s e)
session-one l m one other pid s (Here at turn sid nsp held) n names names' e apart =
    here-other m other at turn sid nsp held (λ same. n (sym (here-after l one s at turn sid nsp held e) ∙ same))
session-one l m one other pid s (Away turn sid nsp held) n names names' e apart =
    away-other m other turn sid nsp held pid names' (λ waits. apart (pid, suc turn) (away-after l one s turn sid nsp held pid names e) waits)
session-one l m one other pid s Ended n names names' e apart = ended-other m other

-- what a missing pair says of its parts
module _ {A B C : Type 0} (g : A → B → C) where
  -- one of them is missing
  neither : (a : Option A) (b : Option B) → option_and_then (λ x. option_map (g x) b) a ≡ None → (a ≡ None) ⊎ (b ≡ None)
  neither None b e = inl refl
  neither (Some x) None e = inr refl
  neither (Some x) (Some y) e = absurd (none-some (g x y) (sym e))

  -- where one is, so is the pair
  no_second : (a : Option A) (b : Option B) → b ≡ None → option_and_then (λ x. option_map (g x) b) a ≡ None
  no_second None b e = refl
  no_second (Some x) b e = ap (option_map (g x)) e

-- where there is nothing after a map, there was nothing before
map_none : {A B : Type 0} (f : A → B) (o : Option A) → option_map f o ≡ None → o ≡ None
map_none f None e = refl
map_none f (Some x) e = absurd (none-some (f x) (sym e))

-- the stream's records are no node's
not_node : (records : Records) → is_stream records ≡ true → node_recs (Some records) ≡ []
not_node (Stream recs) e = refl
not_node (Node recs) e = absurd (false≢true e)
not_node (Client recs) e = absurd (false≢true e)

-- at the stream's place there is no node's log
stream_log : (c : Cluster) (p : ℕ) → stream_place c.taps ≡ Some p → node_log c p ≡ []
stream_log c p at =
    let (tap, there, is) = first_index-found (λ (tap : Tap). is_stream tap.records) c.taps p at in
    ap (λ o. node_recs (option_map (λ (t : Tap). t.records) o)) there ∙ not_node tap.records is

-- a step of the stream tells its entry
told-stream : (c : Cluster) (s : Step) (e : StreamRec) → stream_place c.taps ≡ Some s.log → slice_get c.stream s.index ≡ Some e → told c s ≡ Some (entry_cause e)
told-stream c s e at there =
    ap (λ log. told_or (told_entry c s) (slice_get log s.index)) (stream_log c s.log at)
    ∙ ap (λ o. cond (is_at o s.log) (option_map entry_cause (slice_get c.stream s.index)) None) at
    ∙ ap (λ b. cond b (option_map entry_cause (slice_get c.stream s.index)) None) (eq-eqb s.log s.log refl)
    ∙ ap (option_map entry_cause) there

-- the sessions by pid
abbrev Sessions : Type 0
Sessions = fin.FinMap (slice_cmp nat_cmp) SessionState

-- a step of another log that doesn't tell what the record waits for
module _ (c : Cluster) (st st' : State) (s : Step) (step : Stepped c st st' s.log s.index) (place : ℕ) (n : place ≡ s.log → ⊥) (rec : NodeRec) (apart : (cause : Cause) → told c s ≡ Some cause → awaited_by rec ≡ Some cause → ⊥) where
  -- the cursor that the record may leave is as it was
  cursor-stays : (i cursor : ℕ) → allowed_cursor (take (appended c st') c.stream) i rec cursor ≡ allowed_cursor (take (appended c st) c.stream) i rec cursor
  cursor-stays i cursor = go (stream_place c.taps) refl
    where
      one_more : (p : ℕ) → p ≡ s.log → taken_of st' p ≡ suc (taken_of st p)
      one_more p same = ap (taken_of st') same ∙ step.now ∙ ap suc (sym (ap (taken_of st) same ∙ step.was))

      go : (o : Option ℕ) → stream_place c.taps ≡ o → allowed_cursor (take (taken_at st' o) c.stream) i rec cursor ≡ allowed_cursor (take (taken_at st o) c.stream) i rec cursor
      go None at = refl
      go (Some p) at = elim (cases_eq p s.log) as (λ _. allowed_cursor (take (taken_of st' p) c.stream) i rec cursor ≡ allowed_cursor (take (taken_of st p) c.stream) i rec cursor) [
        | inl same ↦
            ap (λ a. allowed_cursor (take a c.stream) i rec cursor) (one_more p same)
            ∙ cursor-one (taken_of st p) c.stream i rec cursor
            (λ e there waits. apart (entry_cause e) (told-stream c s e (at ∙ ap Some same) (ap (slice_get c.stream) (sym (ap (taken_of st) same ∙ step.was)) ∙ there)) waits)
        | inr other ↦ ap (λ o. allowed_cursor (take (taken_in o) c.stream) i rec cursor) (step.others p other)
      ]

  -- a session of which the record wasn't allowed is one of which it isn't
  session-stays : (pid : Text) → pid_of rec ≡ Some pid → session_after place rec (session_of st pid) ≡ None → session_after place rec (session_of st' pid) ≡ None
  session-stays pid names blocked = elim (moved c st st' s.log s.index pid step.kind) as (λ _. session_after place rec (session_of st' pid) ≡ None) [
    | inl one ↦
        session-one s.log place one.rec rec pid (session_of st pid) (session_of st' pid) (λ same. n (sym same)) one.names names one.becomes
        (λ cause tells waits. apart cause (ap (told_or (told_entry c s)) one.at ∙ tells) waits)
    | inr quiet ↦ ap (session_after place rec) quiet.session ∙ blocked
  ]

  -- so are the sessions
  sessions-stay : (named : Option Text) → pid_of rec ≡ named → sessions_after place rec named st.sessions ≡ None → sessions_after place rec named st'.sessions ≡ None
  sessions-stay None names e = absurd (none-some st.sessions (sym e))
  sessions-stay (Some pid) names e =
      ap (option_map (λ session. fin.insert st'.sessions pid session)) (session-stays pid names (map_none (λ session. fin.insert st.sessions pid session) (session_after place rec (session_of st pid)) e))

  -- the record isn't allowed
  record-stays : (done : Progress) → after_record c st place done rec ≡ None → after_record c st' place done rec ≡ None
  record-stays done blocked = elim (neither (next st) (cursor st) (left st) blocked) as (λ _. after_record c st' place done rec ≡ None) [
    | inl e ↦ ap (option_and_then (λ x. option_map (next st' x) (left st'))) (cursor-stays done.taken done.cursor ∙ e)
    | inr e ↦ no_second (next st') (cursor st') (left st') (sessions-stay (pid_of rec) refl e)
  ]
    where
      next : State → ℕ → Sessions → State
      next u x sessions = record { logs = set u.logs place (record { taken = suc done.taken; cursor = x }); sessions = sessions }

      cursor : State → Option ℕ
      cursor u = allowed_cursor (take (appended c u) c.stream) done.taken rec done.cursor

      left : State → Option Sessions
      left u = sessions_after place rec (pid_of rec) u.sessions

-- what the next record of a log does
after-front : (c : Cluster) (u : State) (place : ℕ) (done : Progress) → slice_get u.logs place ≡ Some done
    → after c u (front u place) ≡ option_and_then (after_next c u place done) (log_at c place)
after-front c u place done at = let was : done.taken ≡ taken_of u place = sym (ap taken_in at) in grind (arith, eq-eqb done.taken (taken_of u place) was)

-- a log's next record that isn't allowed stays so, while the steps of other logs don't tell what it waits for
module _ (c : Cluster) (st st' : State) (s : Step) (step : Stepped c st st' s.log s.index) (place : ℕ) (n : place ≡ s.log → ⊥) (apart : (cause : Cause) → told c s ≡ Some cause → awaited c (front st place) ≡ Some cause → ⊥) (done : Progress) (at : slice_get st.logs place ≡ Some done) where
  -- of the stream, only where there is none
  entry-stays : (o : Option StreamRec) → option_and_then (after_entry st place done) o ≡ None → option_and_then (after_entry st' place done) o ≡ None
  entry-stays None e = refl
  entry-stays (Some entry) e = absurd (none-some _ (sym e))

  -- of a node
  next-stays : (recs : List NodeRec) → log_at c place ≡ Some (Node recs) → (o : Option NodeRec) → slice_get recs done.taken ≡ o
      → option_and_then (after_record c st place done) o ≡ None → option_and_then (after_record c st' place done) o ≡ None
  next-stays recs log None found e = refl
  next-stays recs log (Some rec) found e =
      let is : awaited c (front st place) ≡ awaited_by rec =
      ap (λ o. option_and_then awaited_by (slice_get (node_recs o) (taken_of st place))) log
      ∙ ap (λ k. option_and_then awaited_by (slice_get recs k)) (ap taken_in at)
      ∙ ap (option_and_then awaited_by) found in
      record-stays c st st' s step place n rec (λ cause tells waits. apart cause tells (is ∙ waits)) done e

  -- of any log
  log-stays : (o : Option Records) → log_at c place ≡ o → option_and_then (after_next c st place done) o ≡ None → option_and_then (after_next c st' place done) o ≡ None
  log-stays None log e = refl
  log-stays (Some (Stream recs)) log e = entry-stays (slice_get recs done.taken) e
  log-stays (Some (Node recs)) log e = next-stays recs log (slice_get recs done.taken) refl e
  log-stays (Some (Client recs)) log e = refl

-- A RECORD THAT ISN'T ALLOWED stays so until a step tells what it waits for
pub stays_blocked : (c : Cluster) (st st' : State) (s : Step) (place : ℕ) → after c st s ≡ Some st' → (place ≡ s.log → ⊥) → after c st (front st place) ≡ None
    → ((cause : Cause) → told c s ≡ Some cause → awaited c (front st place) ≡ Some cause → ⊥)
    → after c st' (front st' place) ≡ None
stays_blocked c st st' s place e n blocked apart = go (slice_get st.logs place) refl
  where
    step : Stepped c st st' s.log s.index
    step = stepped c st st' s e

    go : (o : Option Progress) → slice_get st.logs place ≡ o → after c st' (front st' place) ≡ None
    go None at =
        ap (option_and_then (λ (done : Progress). cond (nat_eq done.taken (taken_of st' place)) (option_and_then (after_next c st' place done) (log_at c place)) None))
        (step.others place n ∙ at)
    go (Some done) at =
        after-front c st' place done (step.others place n ∙ at)
        ∙ log-stays c st st' s step place n apart done at (log_at c place) refl (sym (after-front c st place done at) ∙ blocked)
