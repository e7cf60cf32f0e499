-- NAMES: the reply that names the session otherwise is among the rows.
use Rattle.std.proofs.Common.{◌≡◌, ◌<◌, ◌≤◌, ◌+◌, ◌++◌, ◌&&◌, ◌||◌, ℕ, zero, suc, Bool, true, false, not, cond, List, [], ◌∷◌, length, flat_map, refl, sym, ap, ◌∙◌, subst, arith, ◌⊎◌, inl, inr, nat_eq, Option, Some, None, slice_get}
use Rattle.std.specs.List.{Contains, filter_map, cons_option, find, list_any}
use Rattle.std.specs.Option.{option_map}
use Rattle.std.specs.Str.{bytes_eq}
use Rattle.std.proofs.lemmas.Bool.{and_parts, cases_eq, true≢false}
use Rattle.std.proofs.lemmas.List.Folds.{list_any-append}
use Rattle.std.proofs.lemmas.Bool.Decides.{nat_tests}
use Rattle.std.proofs.lemmas.List.Elements.{filter_passes}
use Rattle.std.proofs.lemmas.Option.{none-some, same_Some, slice_get_within}
use Rattle.aud_base.proofs.SameText.{same_text, itself_text}
use Rattle.aud_tap.specs.declared.records.NodeRec.{NodeRec}
use Rattle.aud_tap.specs.declared.records.NodeRec.TheVariants as recs
use Rattle.aud_node.specs.Cluster.{Cluster, node_log}
use Rattle.aud_node.specs.Lists.{numbers_from}
use Rattle.aud_node.specs.Stream.{Text}
use Rattle.aud_node.specs.TurnRecords.{begins_turn}
use Rattle.aud_maker.proofs.BegunLemmas.{tap_of}
use Rattle.aud_client.specs.Received.{stays_naming, numbers_naming, stay_names_pid}
use Rattle.aud_client.specs.Replies.{ReplySeen, reply_names}
use Rattle.aud_client.specs.StaySeen.{StaySeen}
use Rattle.aud_client.proofs.Giving.{Each}
use Rattle.aud_client.proofs.Numbers.{numbered_naming}
use Rattle.aud_rooms.specs.Turns.{Who, Turn, beginning, AreTurns, IsChain}
use Rattle.aud_check.specs.NamedStays.{is_of_session}
use Rattle.aud_session_facts.specs.declared.marks.Mark.{Mark}
use Rattle.aud_session_facts.specs.declared.marks.Mark.TheVariants as mark
use Rattle.aud_session_facts.specs.declared.marks.TurnMark.{TurnMark}
use Rattle.aud_session_facts.specs.declared.misfit.Misfit.TheVariants.{BegunTwice}
use Rattle.aud_session_facts.specs.declared.place.RecordPlace.{RecordPlace}
use Rattle.aud_session_facts.specs.Marks.{mark_of, mark_at, marks_on, turn_marks}
use Rattle.aud_session_facts.specs.Misfit.{HasChain}
use Rattle.aud_session_facts.specs.Places.{record_at}
use Rattle.aud_session_facts.proofs.Chains.{no-chain}
use Rattle.aud_verdict.specs.Faults.{HasOtherNames}
use Rattle.aud_verdict.specs.Session.{SessionLogs, IsSession}
use Rattle.aud_verdict.proofs.Sessions.{one_session}
use Rattle.aud_input.specs.TapLines.{TapLines}
use Rattle.aud_rows.specs.declared.row.Role.TheVariants.{Earlier, Fault}
use Rattle.aud_rows.specs.Rows.{node_row}
use Rattle.aud_rows.specs.Seen.{RowSeen}
use Rattle.aud_rows.specs.StayRows.{stays_at, reply_row}
use Rattle.aud_session_facts.specs.RowLists.{row_and}
use Rattle.aud_findings.specs.Evidence.{ShowsOr}
use Rattle.aud_findings.specs.ShowsNames.{ShowsNames, AreNamedAlike, IsOpenedAs, is_open_mark, is_open, is_named_otherwise, is_some_otherwise, first_otherwise}
use Rattle.aud_laws.specs.FaultRows.{KnowsEachRecord, has_fault_row}
use Rattle.aud_laws.proofs.FaultRow.Chain.{same_place}
use Rattle.aud_laws.proofs.FaultRow.Rows.{Marked, marked_and, marked_after}
use Rattle.aud_laws.proofs.FaultRow.Sessions.{told_at}
use Rattle.aud_laws.proofs.FaultRow.Stays.{reply_marked}

-- ---- lists

-- what holds of each of two lists holds of both
each_append : {X : Type 0} (P : X → Type 0) (xs ys : List X) → Each P xs → Each P ys → Each P (xs ++ ys)
each_append P [] ys h k = k
each_append P (x ∷ xs) ys h k = (h.0, each_append P xs ys h.1 k)

module _ {X : Type 0} (p : X → Bool) where
  any_left : (xs ys : List X) → list_any p xs ≡ true → list_any p (xs ++ ys) ≡ true
  any_left xs ys h = list_any-append p xs ys ∙ ap (λ b. b || list_any p ys) h

  any_right : (xs ys : List X) → list_any p ys ≡ true → list_any p (xs ++ ys) ≡ true
  any_right [] ys h = h
  any_right (x ∷ xs) ys h = grind (arith, any_right xs ys h)

  -- of what numbers give, where one of them gives one that passes
  any_cons : (o : Option X) (xs : List X) → list_any p xs ≡ true → list_any p (cons_option o xs) ≡ true
  any_cons None xs h = h
  any_cons (Some x) xs h = grind (arith, h)

  any_given : (f : ℕ → Option X) (first count n : ℕ) (x : X) → first ≤ n → n < first + count → f n ≡ Some x → p x ≡ true → list_any p (filter_map f (numbers_from first count)) ≡ true
  any_given f first zero n x from to is passes = absurd (omega (arith, from, to))
  any_given f first (suc count) n x from to is passes = go (cases_eq first n) (λ later. any_given f (suc first) count n x later (omega (arith, to)) is passes)
    where
      go : (first ≡ n) ⊎ (first ≡ n → ⊥) → (suc first ≤ n → list_any p (filter_map f (numbers_from (suc first) count)) ≡ true)
          → list_any p (cons_option (f first) (filter_map f (numbers_from (suc first) count))) ≡ true
      go (inl e) later =
          subst (λ o. list_any p (cons_option o (filter_map f (numbers_from (suc first) count))) ≡ true) (sym (ap f e ∙ is))
          (ap (λ b. b || list_any p (filter_map f (numbers_from (suc first) count))) passes)
      go (inr e) later = any_cons (f first) (filter_map f (numbers_from (suc first) count)) (later (omega (arith, from, e)))

  -- of the lists that numbers give, where one of them gives one that has such an element
  any_in : (f : ℕ → List X) (first count n : ℕ) → first ≤ n → n < first + count → list_any p (f n) ≡ true → list_any p (flat_map f (numbers_from first count)) ≡ true
  any_in f first zero n from to has = absurd (omega (arith, from, to))
  any_in f first (suc count) n from to has = go (cases_eq first n) (λ later. any_in f (suc first) count n later (omega (arith, to)) has)
    where
      go : (first ≡ n) ⊎ (first ≡ n → ⊥) → (suc first ≤ n → list_any p (flat_map f (numbers_from (suc first) count)) ≡ true)
          → list_any p (f first ++ flat_map f (numbers_from (suc first) count)) ≡ true
      go (inl e) later = any_left (f first) (flat_map f (numbers_from (suc first) count)) (ap (λ k. list_any p (f k)) e ∙ has)
      go (inr e) later = any_right (f first) (flat_map f (numbers_from (suc first) count)) (later (omega (arith, from, e)))

  -- the first that passes is one of which this holds, if it holds of each
  found : (P : X → Type 0) (xs : List X) → Each P xs → list_any p xs ≡ true → (x : X) × (find p xs ≡ Some x) × (p x ≡ true) × P x
  found P [] each any = absurd (true≢false (sym any))
  found P (x ∷ xs) each any = go (p x) refl any (found P xs each.1)
    where
      go : (b : Bool) → p x ≡ b → (b || list_any p xs) ≡ true → (list_any p xs ≡ true → (y : X) × (find p xs ≡ Some y) × (p y ≡ true) × P y)
          → (y : X) × (cond b (Some x) (find p xs) ≡ Some y) × (p y ≡ true) × P y
      go true is any rest = (x, refl, is, each.0)
      go false is any rest = rest any

-- ---- the `open` of a session

module _ (c : Cluster) (pid : Text) where
  -- the mark is that of a record of the session
  record IsMarkOf (m : TurnMark) : Type 0 where
    rec : NodeRec
    there : record_at c m.place ≡ Some rec
    is : mark_of pid (Some rec) ≡ Some m.mark

  mark_is : (node number : ℕ) (m : TurnMark) → mark_at c pid node number ≡ Some m → IsMarkOf m
  mark_is node number m e = by_record (slice_get (node_log c node) number) refl e
    where
      marked : Mark → TurnMark
      marked k = record { place = record { node = node; number = number }; mark = k }

      by_mark : (rec : NodeRec) → slice_get (node_log c node) number ≡ Some rec → (o : Option Mark) → mark_of pid (Some rec) ≡ o → option_map marked o ≡ Some m → IsMarkOf m
      by_mark rec at None is e = absurd (none-some m e)
      by_mark rec at (Some k) is e = subst IsMarkOf (same_Some (marked k) m e) (record { rec = rec; there = at; is = is })

      by_record : (o : Option NodeRec) → slice_get (node_log c node) number ≡ o → option_map marked (mark_of pid o) ≡ Some m → IsMarkOf m
      by_record None at e = absurd (none-some m e)
      by_record (Some rec) at e = by_mark rec at (mark_of pid (Some rec)) refl e

  marks_are_on : (node : ℕ) (numbers : List ℕ) → Each IsMarkOf (filter_map (mark_at c pid node) numbers)
  marks_are_on node [] = tt
  marks_are_on node (number ∷ numbers) = go (mark_at c pid node number) (mark_is node number) (marks_are_on node numbers)
    where
      go : (o : Option TurnMark) → ((m : TurnMark) → o ≡ Some m → IsMarkOf m) → Each IsMarkOf (filter_map (mark_at c pid node) numbers) → Each IsMarkOf (cons_option o (filter_map (mark_at c pid node) numbers))
      go None is rest = rest
      go (Some m) is rest = (is m refl, rest)

  marks_are : (nodes : List ℕ) → Each IsMarkOf (flat_map (marks_on c pid) nodes)
  marks_are [] = tt
  marks_are (node ∷ nodes) = each_append IsMarkOf (marks_on c pid node) (flat_map (marks_on c pid) nodes) (marks_are_on node (numbers_from 0 (length (node_log c node)))) (marks_are nodes)

  -- a mark that is an `open` is that of the session's `open`
  record IsOpening (m : TurnMark) : Type 0 where
    sid : Text
    nsp : Text
    named : record_at c m.place ≡ Some (recs.Opened pid sid nsp)

  opening_is : (m : TurnMark) → IsMarkOf m → is_open_mark m ≡ true → IsOpening m
  opening_is m of opens = go of.rec of.there (ap is_open_or (of.is) ∙ opens)
    where
      is_open_or : Option Mark → Bool
      is_open_or None = false
      is_open_or (Some k) = is_open k

      by_pid : (other sid nsp : Text) (b : Bool) → bytes_eq other pid ≡ b → record_at c m.place ≡ Some (recs.Opened other sid nsp) → is_open_or (cond b (Some mark.Open) None) ≡ true → IsOpening m
      by_pid other sid nsp false eb at e = absurd (true≢false (sym e))
      by_pid other sid nsp true eb at e = record { sid = sid; nsp = nsp; named = at ∙ ap (λ p. Some (recs.Opened p sid nsp)) (same_text other pid eb) }

      not_open : (b : Bool) (k : Mark) → is_open k ≡ false → is_open_or (cond b (Some k) None) ≡ true → ⊥
      not_open false k is e = true≢false (sym e)
      not_open true k is e = true≢false (sym e ∙ is)

      go : (rec : NodeRec) → record_at c m.place ≡ Some rec → is_open_or (mark_of pid (Some rec)) ≡ true → IsOpening m
      go (recs.Opened other sid nsp) at e = by_pid other sid nsp (bytes_eq other pid) refl at e
      go (recs.Back other turn) at e = absurd (not_open (bytes_eq other pid) (mark.Back turn) refl e)
      go (recs.Broke other turn) at e = absurd (not_open (bytes_eq other pid) (mark.Break turn) refl e)
      go (recs.Gone other) at e = absurd (not_open (bytes_eq other pid) mark.Gone refl e)
      go _ at e = absurd (true≢false (sym e))

  -- there is one where a node has the `open`
  any_open : (node number : ℕ) (sid nsp : Text) → slice_get (node_log c node) number ≡ Some (recs.Opened pid sid nsp) → list_any is_open_mark (turn_marks c pid) ≡ true
  any_open node number sid nsp at =
      let (tap, there) = tap_of c node number (recs.Opened pid sid nsp) at in
      let m : TurnMark = record { place = record { node = node; number = number }; mark = mark.Open } in
      let marked : mark_at c pid node number ≡ Some m =
      ap (λ o. option_map (λ k. let x : TurnMark = record { place = record { node = node; number = number }; mark = k } in x) (mark_of pid o)) at
      ∙ ap (λ b. option_map (λ k. let x : TurnMark = record { place = record { node = node; number = number }; mark = k } in x) (cond b (Some mark.Open) None)) (itself_text pid) in
      any_in is_open_mark (marks_on c pid) 0 (length c.taps) node (omega arith) (omega (arith, slice_get_within c.taps node tap there))
      (any_given is_open_mark (mark_at c pid node) 0 (length (node_log c node)) number m (omega arith) (omega (arith, slice_get_within (node_log c node) number (recs.Opened pid sid nsp) at)) marked refl)

  itself_place : (p : RecordPlace) → (nat_eq p.node p.node && nat_eq p.number p.number) ≡ true
  itself_place p = grind (arith, nat_tests)

  -- two of them break the chain
  one_open : (p q : RecordPlace) (one other : NodeRec) → record_at c p ≡ Some one → begins_turn pid 0 one ≡ true → record_at c q ≡ Some other → begins_turn pid 0 other ≡ true
      → HasChain c pid → p ≡ q
  one_open p q one other at begins there begun chain = go (nat_eq p.node q.node && nat_eq p.number q.number) refl
    where
      go : (b : Bool) → (nat_eq p.node q.node && nat_eq p.number q.number) ≡ b → p ≡ q
      go true e = same_place p q e
      go false e =
          absurd
          (no-chain c pid (BegunTwice 0 p q)
          (record {
            first_begins = record { rec = one; there = at; begins = begins };
            again_begins = record { rec = other; there = there; begins = begun };
            two = λ same. true≢false (sym (itself_place p) ∙ ap (λ (r : RecordPlace). nat_eq p.node r.node && nat_eq p.number r.number) same ∙ e);
          })
          chain.who chain.turns chain.names chain.chain)

-- the first `open` of a session that has turns is the one that names it
module _ (c : Cluster) (who : Who) where
  first_begins : (turns : List Turn) → 0 < length turns → AreTurns c who 0 turns → (t : Turn) × (slice_get (node_log c t.node) t.from ≡ Some (beginning who 0))
  first_begins [] some are = absurd (omega (arith, some))
  first_begins (t ∷ later) some are = (t, are.0.begins)

  opened_as : (turns : List Turn) → IsChain c who turns → (opening : TurnMark) × IsOpenedAs c who.pid opening who.sid who.nsp
  opened_as turns chain =
      let pid = who.pid in
      let (t, at) = first_begins turns chain.some chain.are_turns in
      let (m, first, opens, of) =
      found is_open_mark (IsMarkOf c pid) (turn_marks c pid) (marks_are c pid (numbers_from 0 (length c.taps))) (any_open c pid t.node t.from who.sid who.nsp at) in
      let is = opening_is c pid m of opens in
      let same =
      one_open c pid (record { node = t.node; number = t.from }) m.place (recs.Opened pid who.sid who.nsp) (recs.Opened pid is.sid is.nsp) at (itself_text pid) is.named (itself_text pid)
      (record { who = who; turns = turns; names = refl; chain = chain }) in
      (m, record { is_first = first; named = ap (record_at c) (sym same) ∙ at })

-- ---- the stays of a session

-- where none of the stays with these numbers is named otherwise, none of them is
alike : (who : Who) (ss : List StaySeen) (numbers : List ℕ) (stay : StaySeen) → find (λ number. is_some_otherwise who (slice_get ss number)) numbers ≡ None
    → Contains (filter_map (slice_get ss) numbers) stay → is_named_otherwise who stay ≡ false
alike who ss [] stay none (k, within, is) = absurd (omega (arith, within))
alike who ss (number ∷ numbers) stay none has = go (slice_get ss number) none has (alike who ss numbers stay)
  where
    rest : Option ℕ
    rest = find (λ n. is_some_otherwise who (slice_get ss n)) numbers

    none_of : (b : Bool) → cond b (Some number) rest ≡ None → (b ≡ false) × (rest ≡ None)
    none_of true e = absurd (none-some number (sym e))
    none_of false e = (refl, e)

    go : (o : Option StaySeen) → cond (is_some_otherwise who o) (Some number) rest ≡ None → Contains (cons_option o (filter_map (slice_get ss) numbers)) stay
        → (rest ≡ None → Contains (filter_map (slice_get ss) numbers) stay → is_named_otherwise who stay ≡ false) → is_named_otherwise who stay ≡ false
    go None none has later = later none has
    go (Some x) none (zero, within, is) later = subst (λ (y : StaySeen). is_named_otherwise who y ≡ false) is (none_of (is_named_otherwise who x) none).0
    go (Some x) none (suc k, within, is) later = later (none_of (is_named_otherwise who x) none).1 (k, omega (arith, within), is)

names_it : (pid : Text) (ss : List StaySeen) (stay : StaySeen) → Contains (stays_naming pid ss) stay → stay_names_pid pid stay ≡ true
names_it pid ss stay (k, within, is) = subst (λ (x : StaySeen). stay_names_pid pid x ≡ true) is (filter_passes (stay_names_pid pid) ss k stay within)

names_not : (c : Cluster) (s : SessionLogs) → IsSession c s.who.pid s → HasOtherNames c s → AreNamedAlike c s.who.pid s.client → ⊥
names_not c s is (stay, own, other) alike_are =
    let pid = s.who.pid in
    let ss = stays_at c s.client in
    let (opening, opened) = opened_as c s.who s.turns is.chain in
    let none = ap (first_otherwise s.who ss) (sym alike_are.are_its_stays) ∙ alike_are.each opening s.who.sid s.who.nsp opened in
    let its : Contains (stays_naming pid ss) stay = subst (λ l. Contains (stays_naming pid l) stay) (told_at c s) own in
    let numbered : Contains (filter_map (slice_get ss) (numbers_naming pid ss)) stay = subst (λ l. Contains l stay) (sym (numbered_naming pid ss)) its in
    let not_otherwise = alike s.who ss (numbers_naming pid ss) stay none numbered in
    let otherwise : is_named_otherwise s.who stay ≡ true = ap (λ b. b && not (is_of_session s.who stay)) (names_it pid ss stay its) ∙ ap not other in
    true≢false (sym otherwise ∙ not_otherwise)

-- ---- the rows

-- what is found passes
found_passes : (p : ℕ → Bool) (xs : List ℕ) (x : ℕ) → find p xs ≡ Some x → p x ≡ true
found_passes p [] x e = absurd (none-some x e)
found_passes p (y ∷ ys) x e = go (p y) refl e (found_passes p ys x)
  where
    go : (b : Bool) → p y ≡ b → cond b (Some y) (find p ys) ≡ Some x → (find p ys ≡ Some x → p x ≡ true) → p x ≡ true
    go true is e rest = ap p (sym (same_Some y x e)) ∙ is
    go false is e rest = rest e

-- a stay whose reply names a session has a reply
replied : (pid : Text) (o : Option ReplySeen) → reply_names pid o ≡ true → (reply : ReplySeen) × (o ≡ Some reply)
replied pid None e = absurd (true≢false (sym e))
replied pid (Some reply) e = (reply, refl)

module _ (c : Cluster) (lines : List TapLines) (known : KnowsEachRecord c.taps lines) where
  names_marked : (pid : Text) (place : ℕ) (rows : List RowSeen) → ShowsNames c lines pid place rows → has_fault_row rows ≡ true
  names_marked pid place rows shows =
      ap has_fault_row shows.are_its_rows
      ∙ marked_after (node_row c lines shows.opening.place.node shows.opening.place.number Earlier) (row_and (reply_row c lines place shows.stay Fault) [])
      (marked_and (reply_row c lines place shows.stay Fault) [] (go (slice_get (stays_at c place) shows.stay) refl (found_passes (λ number. is_some_otherwise who (slice_get (stays_at c place) number)) shows.numbers shows.stay shows.is_first)))
    where
      who : Who
      who = record { pid = pid; sid = shows.sid; nsp = shows.nsp }

      go : (o : Option StaySeen) → slice_get (stays_at c place) shows.stay ≡ o → is_some_otherwise who (slice_get (stays_at c place) shows.stay) ≡ true → Marked (reply_row c lines place shows.stay Fault)
      go None at is = absurd (true≢false (sym is ∙ ap (is_some_otherwise who) at))
      go (Some stay) at is =
          let (names, other) = and_parts (stay_names_pid pid stay) (not (is_of_session who stay)) (sym (ap (is_some_otherwise who) at) ∙ is) in
          let (reply, has) = replied pid stay.reply names in
          reply_marked c lines known place shows.stay stay reply at has

  pub names_shown : (pid : Text) (s t : SessionLogs) (rows : List RowSeen) → IsSession c pid s → HasOtherNames c s → IsSession c pid t
      → ShowsOr (ShowsNames c lines pid t.client) (AreNamedAlike c pid t.client) rows → has_fault_row rows ≡ true
  names_shown pid s t rows is has it (inl shows) = names_marked pid t.client rows shows
  names_shown pid s t rows is has it (inr (are, none)) =
      absurd
      (names_not c s (subst (λ p. IsSession c p s) (sym is.names) is) has
      (subst (λ client. AreNamedAlike c s.who.pid client) (sym (ap (λ (u : SessionLogs). u.client) (one_session c pid s t is it))) (subst (λ p. AreNamedAlike c p t.client) (sym is.names) are)))
