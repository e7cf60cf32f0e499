-- Chains of turns in taps that differ in how their nodes' takes are written alone.
use Rattle.std.proofs.Common.{◌≡◌, ◌<◌, ◌≤◌, ◌+◌, ◌-◌, ℕ, zero, suc, false, List, [], ◌∷◌, ◌++◌, ◌⊎◌, inl, inr, length, take, drop, Some, None, slice_get, refl, sym, ap, subst, ◌∙◌, arith, append_assoc, length-append}
use Rattle.std.proofs.lemmas.List.{take-append-drop, drop_all, length-drop, length-take-le}
use Rattle.std.proofs.lemmas.Bool.{cases_lt}
use Rattle.std.proofs.Math.Seq.{take-append_seam}
use Rattle.aud_tap.specs.declared.records.StreamRec.{StreamRec}
use Rattle.aud_tap.specs.declared.records.NodeRec.{NodeRec}
use Rattle.aud_tap.specs.declared.records.NodeRec.TheVariants.{Start, Take, Takes, Opened, Join, Leave, Broke, Back, Gone}
use Rattle.aud_tap.specs.declared.taps.Tap.{Tap}
use Rattle.aud_base.specs.Lists.{between}
use Rattle.aud_base.proofs.Lists.{between-more}
use Rattle.aud_node.specs.Stream.{Text}
use Rattle.aud_node.specs.Cluster.{Cluster, node_log}
use Rattle.aud_node.specs.Cursors.{cursor_at}
use Rattle.aud_node.specs.TurnRecords.{pid_of}
use Rattle.aud_rooms.specs.Turns.{Who, Turn, End, ByBreak, ByGone, ByLog, beginning, turn_end, slice_of, MayEnd, IsTurn, AreTurns, StandsIn, IsChain}
use Rattle.aud_upgrade.specs.Private.Told.{is_taking, told, cursor_over}
use Rattle.aud_upgrade.specs.Private.Alike.{AreAlike, Turned, Matched}
use Rattle.aud_upgrade.specs.Private.Same.{over, HasAlikeLogs, AreSameSlices, AreSameTurns, AreAllSame}
use Rattle.aud_upgrade.proofs.TurnLemmas.{over-append, told-append, matched, turned}
use Rattle.aud_upgrade.proofs.ListLemmas.{parts_at, front-length, at_seam, between_seams, cursor_at-front, count_more, count_one}

-- what begins a turn takes nothing
beginning-quiet : (who : Who) (k : ℕ) → is_taking (beginning who k) ≡ false
beginning-quiet who zero = refl
beginning-quiet who (suc k) = refl

-- a record that names a session takes nothing
pub naming-quiet : (rec : NodeRec) (pid : Text) → pid_of rec ≡ Some pid → is_taking rec ≡ false
naming-quiet (Start off) pid e = refl
naming-quiet (Take off) pid e = absurd (let no : None ≡ Some pid = e in cc)
naming-quiet (Takes off) pid e = absurd (let no : None ≡ Some pid = e in cc)
naming-quiet (Opened other sid nsp) pid e = refl
naming-quiet (Join other room) pid e = refl
naming-quiet (Leave other room) pid e = refl
naming-quiet (Broke other turn) pid e = refl
naming-quiet (Back other turn) pid e = refl
naming-quiet (Gone other) pid e = refl

module _ (stream : List StreamRec) (taps taps' : List Tap) (alike : HasAlikeLogs stream taps taps') where
  c : Cluster
  c = over stream taps

  c' : Cluster
  c' = over stream taps'

  -- a turn is a turn of the other taps
  pub same_turn : (who : Who) (k : ℕ) (t : Turn) (before before' : List Turn) → (before ≡ [] → before' ≡ []) → IsTurn (over stream taps) who k t before
      → (t' : Turn) × IsTurn (over stream taps') who k t' before' × AreSameTurns stream taps taps' t t'
  same_turn who k t others others' none is = (t', is', same)
    where
      log : List NodeRec
      log = node_log (over stream taps) t.node

      log' : List NodeRec
      log' = node_log (over stream taps') t.node

      first : NodeRec
      first = beginning who k

      quiet : is_taking (beginning who k) ≡ false
      quiet = beginning-quiet who k

      front : List NodeRec
      front = take t.from log

      rest : List NodeRec
      rest = between log (suc t.from) t.to

      back : List NodeRec
      back = drop (t.to - suc t.from) (drop (suc t.from) log)

      parts : log ≡ front ++ first ∷ (rest ++ back)
      parts = parts_at log t.from first is.begins ∙ ap (λ xs. front ++ first ∷ xs) (sym (take-append-drop (t.to - suc t.from) (drop (suc t.from) log)))

      front-long : length front ≡ t.from
      front-long = front-length log t.from first is.begins

      rest-long : length rest ≡ t.to - suc t.from
      rest-long =
          let left : length (drop (suc t.from) log) ≡ length log - suc t.from = length-drop (suc t.from) log in
          let within = is.within in
          length-take-le (t.to - suc t.from) (drop (suc t.from) log) (omega (arith, left, within))

      whole : is.end ≡ ByLog → back ≡ []
      whole e = go is.end e is.may_end
        where
          go : (end : End) → end ≡ ByLog → MayEnd (over stream taps) t others end → back ≡ []
          go ByBreak e may = absurd (let no : ByBreak ≡ ByLog = e in cc)
          go ByGone e may = absurd (let no : ByGone ≡ ByLog = e in cc)
          go ByLog e may =
              let left : length (drop (suc t.from) log) ≡ length log - suc t.from = length-drop (suc t.from) log in
              let to : t.to ≡ length log = may.1 in
              drop_all (t.to - suc t.from) (drop (suc t.from) log) (omega (arith, left, to))

      m : Turned stream who.pid k front first rest is.end log'
      m = turned who.pid k stream front first rest back is.end log' quiet
          (subst (λ xs. AreAlike stream 0 0 xs 0 0 log') parts (alike t.node)) is.ends whole

      t' : Turn
      t' = record { node = t.node; from = length m.front'; to = length m.front' + suc (length m.rest') }

      long : length log' ≡ length m.front' + suc (length m.rest' + length m.back')
      long =
          let inside : length (m.rest' ++ m.back') ≡ length m.rest' + length m.back' = length-append m.rest' m.back' in
          let all : length log' ≡ length m.front' + suc (length (m.rest' ++ m.back')) = ap length m.is ∙ length-append m.front' (first ∷ (m.rest' ++ m.back')) in
          omega (arith, inside, all)

      inside' : between log' (suc t'.from) t'.to ≡ m.rest'
      inside' = ap (λ xs. between xs (suc t'.from) t'.to) m.is ∙ between_seams m.front' first m.rest' m.back'

      begins' : slice_get log' t'.from ≡ Some first
      begins' = ap (λ xs. slice_get xs t'.from) m.is ∙ at_seam m.front' first (m.rest' ++ m.back')

      may' : MayEnd (over stream taps') t' others' is.end
      may' = go is.end refl is.may_end
        where
          go : (end : End) → is.end ≡ end → MayEnd (over stream taps) t others end → MayEnd (over stream taps') t' others' end
          go ByBreak e may = tt
          go ByGone e may = none may
          go ByLog e may =
              let empty : length m.back' ≡ 0 = ap length (m.whole e) in
              (none may.0, omega (arith, long, empty))

      is' : IsTurn (over stream taps') who k t' others'
      is' = record {
        within = omega (arith, long);
        some = omega arith;
        begins = begins';
        end = is.end;
        ends = ap (turn_end who.pid k) inside' ∙ m.ends;
        may_end = may';
      }

      low : ℕ
      low = cursor_over stream 0 0 (front ++ first ∷ [])

      low-is : cursor_at stream log (suc t.from) ≡ low
      low-is =
          let n : length (front ++ first ∷ []) ≡ length front + 1 = length-append front (first ∷ []) in
          cursor_at-front stream log (front ++ first ∷ []) (rest ++ back) (suc t.from) (parts ∙ sym (append_assoc front (first ∷ []) (rest ++ back))) (omega (arith, n, front-long))

      low-is' : cursor_at stream log' (suc t'.from) ≡ low
      low-is' =
          let n : length (m.front' ++ first ∷ []) ≡ length m.front' + 1 = length-append m.front' (first ∷ []) in
          cursor_at-front stream log' (m.front' ++ first ∷ []) (m.rest' ++ m.back') (suc t'.from) (m.is ∙ sym (append_assoc m.front' (first ∷ []) (m.rest' ++ m.back'))) (omega (arith, n))
          ∙ m.here

      through : log ≡ (front ++ first ∷ rest) ++ back
      through = parts ∙ sym (append_assoc front (first ∷ rest) back)

      through' : log' ≡ (m.front' ++ first ∷ m.rest') ++ m.back'
      through' = m.is ∙ sym (append_assoc m.front' (first ∷ m.rest') m.back')

      to-is : t.to ≡ length (front ++ first ∷ rest)
      to-is =
          let n : length (front ++ first ∷ rest) ≡ length front + suc (length rest) = length-append front (first ∷ rest) in
          let some = is.some in
          omega (arith, n, front-long, rest-long, some)

      to-is' : t'.to ≡ length (m.front' ++ first ∷ m.rest')
      to-is' = sym (length-append m.front' (first ∷ m.rest'))

      high-is : cursor_at stream log t.to ≡ cursor_over stream 1 low rest
      high-is = cursor_at-front stream log (front ++ first ∷ rest) back t.to through to-is ∙ over-append stream 0 0 front first rest

      high-is' : cursor_at stream log' t'.to ≡ cursor_over stream 1 low m.rest'
      high-is' =
          cursor_at-front stream log' (m.front' ++ first ∷ m.rest') m.back' t'.to through' to-is'
          ∙ over-append stream 0 0 m.front' first m.rest'
          ∙ ap (λ l. cursor_over stream 1 l m.rest') m.here

      slices : AreSameSlices stream (slice_of (over stream taps) t) (slice_of (over stream taps') t')
      slices = record {
        low = low-is' ∙ sym low-is;
        high = high-is' ∙ sym m.rests.ends ∙ sym high-is;
        first = first;
        quiet = quiet;
        rest = rest;
        rest' = m.rest';
        recs = between-more log t.from t.to first is.some is.begins;
        recs' = between-more log' t'.from t'.to first (omega arith) begins' ∙ ap (λ xs. first ∷ xs) inside';
        rests = ap (λ l. told stream 1 l rest) low-is ∙ m.rests.tells ∙ ap (λ l. told stream 1 l m.rest') (sym low-is);
      }

      taken : take t.to log ≡ front ++ first ∷ rest
      taken = ap (λ n. take n log) to-is ∙ ap (take (length (front ++ first ∷ rest))) through ∙ take-append_seam (front ++ first ∷ rest) back

      taken' : take t'.to log' ≡ m.front' ++ first ∷ m.rest'
      taken' = ap (λ n. take n log') to-is' ∙ ap (take (length (m.front' ++ first ∷ m.rest'))) through' ∙ take-append_seam (m.front' ++ first ∷ m.rest') m.back'

      same : AreSameTurns stream taps taps' t t'
      same = record {
        node = refl;
        slices = slices;
        fronts = m.fronts ∙ ap (told stream 0 0) (sym (ap (take (length m.front')) m.is ∙ take-append_seam m.front' (first ∷ (m.rest' ++ m.back'))));
        throughs =
            ap (told stream 0 0) taken
            ∙ told-append stream 0 0 front first rest quiet
            ∙ ap (λ ts. told stream 0 0 front ++ record { rec = first; cursor = low } ∷ ts) m.rests.tells
            ∙ ap (λ ts. ts ++ record { rec = first; cursor = low } ∷ told stream 1 low m.rest') m.fronts
            ∙ ap (λ l. told stream 0 0 m.front' ++ record { rec = first; cursor = l } ∷ told stream 1 l m.rest') (sym m.here)
            ∙ sym (told-append stream 0 0 m.front' first m.rest' quiet)
            ∙ ap (told stream 0 0) (sym taken');
      }

  -- turns are turns of the other taps
  pub same_turns : (who : Who) (k : ℕ) (ts : List Turn) → AreTurns (over stream taps) who k ts
      → (ts' : List Turn) × AreTurns (over stream taps') who k ts' × AreAllSame stream taps taps' ts ts'
  same_turns who k [] are = ([], tt, tt)
  same_turns who k (t ∷ ts) are =
      let (ts', are', all) = same_turns who (suc k) ts are.1 in
      let (t', is', same) = same_turn who k t ts ts' (empty ts ts' all) are.0 in
      (t' ∷ ts', (is', are'), (same, all))
    where
      empty : (ts ts' : List Turn) → AreAllSame stream taps taps' ts ts' → ts ≡ [] → ts' ≡ []
      empty [] [] all e = refl
      empty [] (x ∷ xs) all e = absurd all
      empty (x ∷ xs) ts' all e = absurd (let no : x ∷ xs ≡ [] = e in cc)

  -- a record stands in the same turns as the one that it is in the other taps
  pub stands : (node i i' : ℕ) (rec : NodeRec) → slice_get (node_log (over stream taps) node) i ≡ Some rec → slice_get (node_log (over stream taps') node) i' ≡ Some rec → is_taking rec ≡ false
      → told stream 0 0 (take i (node_log (over stream taps) node)) ≡ told stream 0 0 (take i' (node_log (over stream taps') node))
      → (ts ts' : List Turn) → AreAllSame stream taps taps' ts ts' → StandsIn node i ts → StandsIn node i' ts'
  stands node i i' rec at at' quiet same [] ts' all in_ = absurd in_
  stands node i i' rec at at' quiet same (t ∷ ts) [] all in_ = absurd all
  stands node i i' rec at at' quiet same (t ∷ ts) (t' ∷ ts') all (inr later) = inr (stands node i i' rec at at' quiet same ts ts' all.1 later)
  stands node i i' rec at at' quiet same (t ∷ ts) (t' ∷ ts') all (inl here) = inl (all.0.node ∙ here.0, from, to)
    where
      log : List NodeRec
      log = node_log (over stream taps) node

      log' : List NodeRec
      log' = node_log (over stream taps') node

      fronts : told stream 0 0 (take t.from log) ≡ told stream 0 0 (take t'.from log')
      fronts = subst (λ n. told stream 0 0 (take t.from (node_log (over stream taps) n)) ≡ told stream 0 0 (take t'.from (node_log (over stream taps') n))) here.0 all.0.fronts

      throughs : told stream 0 0 (take t.to log) ≡ told stream 0 0 (take t'.to log')
      throughs = subst (λ n. told stream 0 0 (take t.to (node_log (over stream taps) n)) ≡ told stream 0 0 (take t'.to (node_log (over stream taps') n))) here.0 all.0.throughs

      one : length (told stream 0 0 (take (suc i) log)) ≡ suc (length (told stream 0 0 (take i log)))
      one = count_one stream log i rec at quiet

      one' : length (told stream 0 0 (take (suc i') log')) ≡ suc (length (told stream 0 0 (take i' log')))
      one' = count_one stream log' i' rec at' quiet

      from : t'.from ≤ i'
      from = go (cases_lt i' t'.from)
        where
          go : (i' < t'.from) ⊎ (t'.from ≤ i') → t'.from ≤ i'
          go (inr h) = h
          go (inl h) =
              let a = count_more stream 0 0 log t.from i here.1 in
              let b = count_more stream 0 0 log' (suc i') t'.from (omega (arith, h)) in
              let e = ap length fronts in
              let f = ap length same in
              absurd (omega (arith, a, b, e, f, one'))

      to : i' < t'.to
      to = go (cases_lt i' t'.to)
        where
          go : (i' < t'.to) ⊎ (t'.to ≤ i') → i' < t'.to
          go (inl h) = h
          go (inr h) =
              let past = here.2 in
              let a = count_more stream 0 0 log (suc i) t.to (omega (arith, past)) in
              let b = count_more stream 0 0 log' t'.to i' h in
              let e = ap length throughs in
              let f = ap length same in
              absurd (omega (arith, a, b, e, f, one))

  pub same_count : (ts ts' : List Turn) → AreAllSame stream taps taps' ts ts' → length ts ≡ length ts'
  same_count [] [] all = refl
  same_count [] (t ∷ ts') all = absurd all
  same_count (t ∷ ts) [] all = absurd all
  same_count (t ∷ ts) (t' ∷ ts') all = ap suc (same_count ts ts' all.1)

  -- a chain of turns is one in the other taps
  pub same_chain : HasAlikeLogs stream taps' taps → (who : Who) (ts : List Turn) → IsChain (over stream taps) who ts
      → (ts' : List Turn) × IsChain (over stream taps') who ts' × AreAllSame stream taps taps' ts ts'
  same_chain back who ts chain =
      let (ts', are', all) = same_turns who 0 ts chain.are_turns in
      (ts', record { some = (let n = same_count ts ts' all in let some = chain.some in omega (arith, n, some)); are_turns = are'; covers = covers ts' all }, all)
    where
      covers : (ts' : List Turn) → AreAllSame stream taps taps' ts ts'
          → (node number : ℕ) (rec : NodeRec) → slice_get (node_log (over stream taps') node) number ≡ Some rec → pid_of rec ≡ Some who.pid → StandsIn node number ts'
      covers ts' all node number rec at names =
          let log' = node_log (over stream taps') node in
          let log = node_log (over stream taps) node in
          let quiet = naming-quiet rec who.pid names in
          let m : Matched stream 0 0 (take number log') rec (drop (suc number) log') 0 0 log =
          matched stream 0 0 (take number log') rec (drop (suc number) log') 0 0 log quiet (subst (λ xs. AreAlike stream 0 0 xs 0 0 log) (parts_at log' number rec at) (back node)) in
          let here : slice_get log (length m.front') ≡ Some rec = ap (λ xs. slice_get xs (length m.front')) m.is ∙ at_seam m.front' rec m.back' in
          let fronts : told stream 0 0 (take (length m.front') log) ≡ told stream 0 0 (take number log') =
          ap (told stream 0 0) (ap (take (length m.front')) m.is ∙ take-append_seam m.front' (rec ∷ m.back')) ∙ sym m.fronts in
          stands node (length m.front') number rec here at quiet fronts ts ts' all (chain.covers node (length m.front') rec here names)
