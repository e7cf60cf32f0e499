-- A pid has one session at most, and that has one verdict.
use Rattle.std.proofs.Common.{◌≡◌, ◌≤◌, Bool, true, false, ◌&&◌, not, List, [], ◌∷◌, length, Option, refl, sym, ap, subst, ◌∙◌, arith, ◌+◌, ◌++◌}
use Rattle.std.specs.List.{filter, list_any, list_all}
use Rattle.std.proofs.lemmas.Bool.{false≢true, and_right, cases_lt}
use Rattle.std.proofs.lemmas.Option.{some_pair_parts, same_Some}
use Rattle.std.proofs.lemmas.List.Elements.{All-head, All-same, filter_passes}
use Rattle.std.proofs.lemmas.List.Folds.{list_all_at}
use Rattle.aud_tap.specs.declared.records.ClientRec.{ClientRec}
use Rattle.aud_tap.specs.declared.records.StreamRec.{StreamRec}
use Rattle.aud_node.specs.Lists.{numbers_from}
use Rattle.aud_node.specs.Stream.{Text}
use Rattle.aud_node.specs.Cluster.{Cluster}
use Rattle.aud_node.specs.NodeTaps.{client_at}
use Rattle.aud_rooms.specs.Turns.{Who, Turn, IsChain}
use Rattle.aud_client.specs.Replies.{is_naming, tap_names, naming_places}
use Rattle.aud_client.specs.StaySeen.{StaySeen, FrameSeen}
use Rattle.aud_client.specs.Received.{stay_names_pid}
use Rattle.aud_client.proofs.Named.{named_by_replies}
use Rattle.aud_cert.specs.declared.fault.Fault.{Fault}
use Rattle.aud_cert.specs.declared.fault.Fault.TheVariants.{NoLog, Chain, Order, Client, Names, Frame, Orphan, Content, Extra, Doubled, Swapped, Lost, Window, Tail}
use Rattle.aud_maker.proofs.EndedLemmas.{opening-names}
use Rattle.aud_maker.proofs.BegunLemmas.{one_chain}
use Rattle.aud_maker.proofs.FirstFault.{one_fails}
use Rattle.aud_check.specs.NamedStays.{is_of_session, is_empty, are_of_session}
use Rattle.aud_check.specs.Shown.{recs_or_none}
use Rattle.aud_check.specs.Frames.{AreEntries, IsEntry, IsFirstAltered, offset_at}
use Rattle.aud_verdict.specs.declared.verdict.Verdict.{Verdict}
use Rattle.aud_verdict.specs.declared.verdict.Verdict.TheVariants.{Yes, No}
use Rattle.aud_verdict.specs.Session.{SessionLogs, IsSession, client_log, transcript, own_stays, received_by, due_to}
use Rattle.aud_verdict.specs.Faults.{HasOtherNames, HoldsOf, Holds, verdict_rank, HoldsFirst}
use Rattle.aud_verdict.specs.Verdict.{IsVerdict}

-- a chain has one `open`, so the names that go with its turns are settled
one_who : (c : Cluster) (one other : Who) (turns : List Turn) → one.pid ≡ other.pid → IsChain c one turns → IsChain c other turns → one ≡ other
one_who c one other turns same is too =
    let opened = opening-names c one turns is.some is.are_turns in
    let again = opening-names c other turns too.some too.are_turns in
    let parts = some_pair_parts one.sid other.sid one.nsp other.nsp (sym opened ∙ again) in
    λ i. record { pid = same i; sid = parts.0 i; nsp = parts.1 i }

-- a pid has one session at most
pub one_session : (c : Cluster) (pid : Text) (one other : SessionLogs) → IsSession c pid one → IsSession c pid other → one ≡ other
one_session c pid one other is too =
    let named : other.who.pid ≡ one.who.pid = too.names ∙ sym is.names in
    let turns : other.turns ≡ one.turns = one_chain c one.who other.who one.turns other.turns named is.chain too.chain in
    let back : one.turns ≡ other.turns = sym turns in
    let who = one_who c one.who other.who one.turns (sym named) is.chain (subst (IsChain c other.who) turns too.chain) in
    let only : one.client ∷ [] ≡ other.client ∷ [] = sym is.only ∙ too.only in
    let client : one.client ≡ other.client = cc in
    λ i. record { who = who i; turns = back i; client = client i }

-- ---- faults of a session that is there

module _ (c : Cluster) (pid : Text) (s : SessionLogs) (is : IsSession c pid s) where
  -- a fault of the session of the pid is one of this session
  moved : (whole : Bool) (fault : Fault) → (t : SessionLogs) × IsSession c pid t × HoldsOf c whole t fault → HoldsOf c whole s fault
  moved whole fault (t, too, h) = subst (λ (x : SessionLogs). HoldsOf c whole x fault) (one_session c pid t s too is) h

  -- a fault that needs a session holds of this one
  pub at_session : (whole : Bool) (fault : Fault) → 4 ≤ verdict_rank fault → Holds c whole pid fault → HoldsOf c whole s fault
  at_session whole fault late h = grind (arith, moved whole fault)

  -- where a fault holds of this session, it holds
  pub held : (whole : Bool) (fault : Fault) → 4 ≤ verdict_rank fault → HoldsOf c whole s fault → Holds c whole pid fault
  held whole fault late h = grind (arith, is)

  -- ---- the stays that name it

  -- its client's tap has a reply that names it
  pub naming : is_naming pid (client_at c s.client) ≡ true
  naming =
      All-head (λ place. is_naming pid (client_at c place) ≡ true) s.client []
      (All-same (λ place. is_naming pid (client_at c place) ≡ true) (s.client ∷ []) (naming_places c.taps pid) (sym is.only)
      (filter_passes (λ place. is_naming pid (client_at c place)) (numbers_from 0 (length c.taps))))

  -- where a tap names the session, its records do
  its_tap : (o : Option (List ClientRec)) → is_naming pid o ≡ true → tap_names pid (recs_or_none o) ≡ true
  its_tap o e = grind arith

  -- one of that tap's stays names it
  any_stay : list_any (stay_names_pid s.who.pid) (transcript c s).stays ≡ true
  any_stay =
      ap (λ p. list_any (stay_names_pid p) (transcript c s).stays) is.names
      ∙ named_by_replies c.stream (client_log c s) pid
      ∙ its_tap (client_at c s.client) naming

  -- where some element passes, those that pass are not none
  kept : (test : StaySeen → Bool) (stays : List StaySeen) → list_any test stays ≡ true → is_empty (filter test stays) ≡ false
  kept test [] e = absurd (false≢true e)
  kept test (stay ∷ stays) e = grind (arith, kept test stays)

  -- there is a stay whose reply names it
  some_stay : is_empty (own_stays c s) ≡ false
  some_stay = kept (stay_names_pid s.who.pid) (transcript c s).stays any_stay

  -- where they aren't all of the session, one of them has other names
  pub other_names : are_of_session s.who (own_stays c s) ≡ false → HasOtherNames c s
  other_names e =
      one_fails (is_of_session s.who) (own_stays c s)
      (sym (ap (λ b. not b && list_all (is_of_session s.who) (own_stays c s)) some_stay) ∙ e)

  -- where one has other names, they aren't all of the session
  pub not_of_session : HasOtherNames c s → are_of_session s.who (own_stays c s) ≡ false
  not_of_session (stay, (k, h, at), fails) =
      and_right _ _ (list_all_at (is_of_session s.who) (own_stays c s) k stay h (ap (is_of_session s.who) at ∙ fails))

-- ---- one verdict

-- of the frames one alone is the first that isn't its entry
one_altered : (stream : List StreamRec) (before first : List FrameSeen) (altered other : FrameSeen) (after rest : List FrameSeen)
    → before ++ altered ∷ after ≡ first ++ other ∷ rest → AreEntries stream before → (IsEntry stream altered → ⊥)
    → AreEntries stream first → (IsEntry stream other → ⊥) → altered ≡ other
one_altered stream [] [] altered other after rest e are not too nor = cc
one_altered stream [] (frame ∷ first) altered other after rest e are not too nor =
    let here : frame ≡ altered = cc in absurd (not (subst (IsEntry stream) here too.0))
one_altered stream (frame ∷ before) [] altered other after rest e are not too nor =
    let here : frame ≡ other = cc in absurd (nor (subst (IsEntry stream) here are.0))
one_altered stream (frame ∷ before) (head ∷ first) altered other after rest e are not too nor =
    let later : before ++ altered ∷ after ≡ first ++ other ∷ rest = cc in
    one_altered stream before first altered other after rest later are.1 not too.1 nor

-- one frame at most is the first that isn't its entry
same_altered : (stream : List StreamRec) (frames : List FrameSeen) (altered other : FrameSeen) → IsFirstAltered stream frames altered → IsFirstAltered stream frames other → altered ≡ other
same_altered stream frames altered other is too =
    one_altered stream is.before too.before altered other is.after too.after (sym is.parts ∙ too.parts) is.are_entries is.is_altered too.are_entries too.is_altered

module _ (c : Cluster) (whole : Bool) (pid : Text) where
  -- one fault at most of each rank holds
  same_fault : (fault other : Fault) → Holds c whole pid fault → Holds c whole pid other → verdict_rank fault ≡ verdict_rank other → fault ≡ other
  same_fault NoLog NoLog h too e = refl
  same_fault Chain Chain h too e = refl
  same_fault Order Order h too e = refl
  same_fault Client Client h too e = refl
  same_fault Names Names h too e = refl
  same_fault Frame Frame h too e = refl
  same_fault Orphan Orphan h too e = refl
  same_fault (Content off) (Content named) (s, is, (altered, first, called)) too e =
      let (other, first_too, so_called) = moved c pid s is whole (Content named) too in
      let one : altered ≡ other = same_altered c.stream (received_by c s) altered other first first_too in
      ap Content (called ∙ ap (λ (frame : FrameSeen). offset_at c.stream frame.position) one ∙ sym so_called)
  same_fault (Extra off) (Extra named) (s, is, h) too e = same_Some (Extra off) (Extra named) (sym h ∙ moved c pid s is whole (Extra named) too)
  same_fault (Doubled off) (Doubled named) (s, is, h) too e = same_Some (Doubled off) (Doubled named) (sym h ∙ moved c pid s is whole (Doubled named) too)
  same_fault (Swapped off) (Swapped named) (s, is, h) too e = same_Some (Swapped off) (Swapped named) (sym h ∙ moved c pid s is whole (Swapped named) too)
  same_fault (Lost off) (Lost named) (s, is, h) too e = same_Some (Lost off) (Lost named) (sym h ∙ moved c pid s is whole (Lost named) too)
  same_fault (Window n) (Window m) (s, is, h) too e = ap Window (same_Some n m (sym h ∙ moved c pid s is whole (Window m) too))
  same_fault (Tail n) (Tail m) (s, is, (asked, some, count)) too e =
      let (asked_too, some_too, count_too) = moved c pid s is whole (Tail m) too in
      ap Tail (count ∙ sym count_too)
  same_fault fault other _ _ e = absurd (omega arith)

  -- one fault at most is the first
  pub one_first : (fault other : Fault) → HoldsFirst c whole pid fault → HoldsFirst c whole pid other → fault ≡ other
  one_first fault other is too = grind (arith, is.none_before, too.none_before, same_fault fault other, cases_lt (verdict_rank fault) (verdict_rank other), cases_lt (verdict_rank other) (verdict_rank fault))

  -- a session has one verdict
  pub one_verdict : (one other : Verdict) → IsVerdict c whole pid one → IsVerdict c whole pid other → one ≡ other
  one_verdict (Yes got tail turns) (Yes count rest number) is too =
      let same : is.session ≡ too.session = one_session c pid is.session too.session is.is_session too.is_session in
      let counts : got ≡ count = is.got_is ∙ ap (λ (s : SessionLogs). length (received_by c s)) same ∙ sym too.got_is in
      let sums : got + tail ≡ count + rest = is.tail_is ∙ ap (λ (s : SessionLogs). length (due_to c s)) same ∙ sym too.tail_is in
      let tails : tail ≡ rest = omega arith in
      let numbers : turns ≡ number = is.turns_are ∙ ap (λ (s : SessionLogs). length s.turns) same ∙ sym too.turns_are in
      cc
  one_verdict (Yes got tail turns) (No fault) is too = absurd (is.none_holds fault too.holds)
  one_verdict (No fault) (Yes got tail turns) is too = absurd (too.none_holds fault is.holds)
  one_verdict (No fault) (No other) is too = ap No (one_first fault other is too)
