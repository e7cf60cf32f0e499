-- The records of an upgraded log: not more than those that it was made from, each well formed, and with the same pids.
use Rattle.std.proofs.Common.{◌⊎◌, inl, inr, append-nil, ◌≡◌, ℕ, zero, suc, ◌+◌, ◌≤◌, Bool, true, false, List, [], ◌∷◌, ◌++◌, length, drop, flat_map, Option, Some, None, option_to_list, slice_get, refl, sym, ap, ◌∙◌, arith, subst, true≢false, length-append}
use Rattle.std.specs.List.{All, cons_option, filter_map}
use Rattle.std.proofs.lemmas.List.{drop_all}
use Rattle.std.proofs.lemmas.List.Elements.{All-nil, All-cons, All-append, filter_map-append}
use Rattle.std.proofs.lemmas.Option.{slice_get_within, get_or_from_slice_get}
use Rattle.aud_base.specs.Lists.{numbers_from}
use Rattle.aud_base.proofs.Lists.{element_at, drop_at}
use Rattle.aud_tap.specs.declared.records.StreamRec.{StreamRec}
use Rattle.aud_tap.specs.declared.records.NodeRec.{NodeRec}
use Rattle.aud_tap.specs.declared.records.NodeRec.TheVariants.{Start, Take, Takes, Opened, Join, Leave, Broke, Back, Gone}
use Rattle.aud_tap.specs.RecordFields.{pid_of}
use Rattle.aud_tap.specs.WellFormed.{node_is_well_formed}
use Rattle.aud_node.specs.Cursors.{cursor_at}
use Rattle.aud_upgrade.specs.declared.joins.Joins.{Joins}
use Rattle.aud_upgrade.specs.Upgraded.{takes_after, takes_next, took_next, joined, upgraded_at, upgraded_log}

-- ---- what stands for one record

-- a `takes` stands for a `take`
record IsTaken (rec : NodeRec) (records : List NodeRec) : Type 0 where
  off : List ℕ
  take : rec ≡ Take off
  takes : records ≡ Takes off ∷ []

-- what stands for a record: nothing, the record itself, or a `takes`
abbrev Stand : NodeRec → List NodeRec → Type 0
Stand rec records = (records ≡ []) ⊎ ((records ≡ rec ∷ []) ⊎ IsTaken rec records)

stands : (before here after : Bool) (rec : NodeRec) → Stand rec (joined before here after (Some rec))
stands true true true rec = inl refl
stands false true true rec = inl refl
stands true false after rec = inr (inl refl)
stands false false after rec = inr (inl refl)
stands false true false rec = inr (inl refl)
stands true true false (Take off) = inr (inr (record { off = off; take = refl; takes = refl }))
stands true true false (Takes off) = inr (inl refl)
stands true true false (Start off) = inr (inl refl)
stands true true false (Opened pid sid nsp) = inr (inl refl)
stands true true false (Join pid room) = inr (inl refl)
stands true true false (Leave pid room) = inr (inl refl)
stands true true false (Broke pid turn) = inr (inl refl)
stands true true false (Back pid turn) = inr (inl refl)
stands true true false (Gone pid) = inr (inl refl)

-- at most one record stands for one
joined-few : (before here after : Bool) (o : Option NodeRec) → length (joined before here after o) ≤ 1
joined-few before here after None = omega arith
joined-few before here after (Some rec) = elim (stands before here after rec) [
  | inl none ↦ rw none (omega arith)
  | inr some ↦ elim some [ inl itself ↦ rw itself (omega arith) | inr taken ↦ rw taken.takes (omega arith) ]
]

abbrev IsFormed : NodeRec → Type 0
IsFormed rec = node_is_well_formed rec ≡ true

-- one record is well formed
alone : (rec : NodeRec) → IsFormed rec → All IsFormed (rec ∷ [])
alone rec formed = All-cons IsFormed rec [] formed (All-nil IsFormed)

-- what stands for a record that is well formed is
joined-formed : (before here after : Bool) (rec : NodeRec) → IsFormed rec → All IsFormed (joined before here after (Some rec))
joined-formed before here after rec formed =
    let all : List NodeRec → Type 0 = All IsFormed in
    elim (stands before here after rec) [
      | inl none ↦ subst all (sym none) (All-nil IsFormed)
      | inr some ↦ elim some [
        | inl itself ↦ subst all (sym itself) (alone rec formed)
        | inr taken ↦ subst all (sym taken.takes) (alone (Takes taken.off) (subst IsFormed taken.take formed))
      ]
    ]

-- the pid of the first of several records, if it names one
first-pid : (rec : NodeRec) (recs : List NodeRec) → filter_map pid_of (rec ∷ recs) ≡ option_to_list (pid_of rec) ++ filter_map pid_of recs
first-pid rec recs = go (pid_of rec)
  where
    go : (o : Option (List ℕ)) → cons_option o (filter_map pid_of recs) ≡ option_to_list o ++ filter_map pid_of recs
    go None = refl
    go (Some pid) = refl

-- what stands for a record that takes entries names no pid
joined-take : (before after : Bool) (off : List ℕ) → filter_map pid_of (joined before true after (Some (Take off))) ≡ []
joined-take true true off = refl
joined-take false true off = refl
joined-take true false off = refl
joined-take false false off = refl

joined-takes : (before after : Bool) (off : List ℕ) → filter_map pid_of (joined before true after (Some (Takes off))) ≡ []
joined-takes true true off = refl
joined-takes false true off = refl
joined-takes true false off = refl
joined-takes false false off = refl

-- a record that isn't joined stands for itself
joined-itself : (before after : Bool) (rec : NodeRec) → joined before false after (Some rec) ≡ rec ∷ []
joined-itself true after rec = refl
joined-itself false after rec = refl

-- what stands for a record names the pid that the record names
joined-pids : (joins : Joins) (stream : List StreamRec) (cursor : ℕ) (before here after : Bool) (rec : NodeRec) → takes_after joins stream cursor (Some rec) ≡ here → filter_map pid_of (joined before here after (Some rec)) ≡ option_to_list (pid_of rec)
joined-pids joins stream cursor before false after rec is = ap (filter_map pid_of) (joined-itself before after rec) ∙ first-pid rec [] ∙ append-nil (option_to_list (pid_of rec))
joined-pids joins stream cursor before true after (Take off) is = joined-take before after off
joined-pids joins stream cursor before true after (Takes off) is = joined-takes before after off
joined-pids joins stream cursor before true after (Start off) is = absurd (true≢false (sym is))
joined-pids joins stream cursor before true after (Opened pid sid nsp) is = absurd (true≢false (sym is))
joined-pids joins stream cursor before true after (Join pid room) is = absurd (true≢false (sym is))
joined-pids joins stream cursor before true after (Leave pid room) is = absurd (true≢false (sym is))
joined-pids joins stream cursor before true after (Broke pid turn) is = absurd (true≢false (sym is))
joined-pids joins stream cursor before true after (Back pid turn) is = absurd (true≢false (sym is))
joined-pids joins stream cursor before true after (Gone pid) is = absurd (true≢false (sym is))

-- ---- a log

module _ (joins : Joins) (stream : List StreamRec) (log : List NodeRec) where
  -- what stands for the records with these numbers
  abbrev stand : ℕ → ℕ → List NodeRec
  stand first count = flat_map (upgraded_at joins stream log) (numbers_from first count)

  few-from : (first count : ℕ) → length (stand first count) ≤ count
  few-from first zero = omega arith
  few-from first (suc count) =
      let here = joined-few (took_next joins stream log first) (takes_next joins stream log first) (takes_next joins stream log (suc first)) (slice_get log first) in
      let rest = few-from (suc first) count in
      let long = length-append (upgraded_at joins stream log first) (stand (suc first) count) in
      omega (arith, here, rest, long)

  -- an upgraded log has no more records
  pub upgraded-few : length (upgraded_log joins stream log) ≤ length log
  upgraded-few = few-from 0 (length log)

  formed-from : (first count : ℕ) → first + count ≡ length log → All IsFormed log → All IsFormed (stand first count)
  formed-from first zero e formed = All-nil IsFormed
  formed-from first (suc count) e formed =
      let (rec, at) = element_at log first (omega (arith, e)) in
      let is : IsFormed rec = ap node_is_well_formed (sym (get_or_from_slice_get log first rec rec at)) ∙ formed first rec (slice_get_within log first rec at) in
      let before = took_next joins stream log first in
      let itself = takes_next joins stream log first in
      let after = takes_next joins stream log (suc first) in
      let here : All IsFormed (upgraded_at joins stream log first) = subst (λ o. All IsFormed (joined before itself after o)) (sym at) (joined-formed before itself after rec is) in
      All-append IsFormed (upgraded_at joins stream log first) (stand (suc first) count) here (formed-from (suc first) count (omega (arith, e)) formed)

  -- and each of them is well formed, where those of the log are
  pub upgraded-formed : All IsFormed log → All IsFormed (upgraded_log joins stream log)
  upgraded-formed = formed-from 0 (length log) (omega arith)

  pids-from : (first count : ℕ) → first + count ≡ length log → filter_map pid_of (stand first count) ≡ filter_map pid_of (drop first log)
  pids-from first zero e = sym (ap (filter_map pid_of) (drop_all first log (omega (arith, e))))
  pids-from first (suc count) e =
      let (rec, at) = element_at log first (omega (arith, e)) in
      let before = took_next joins stream log first in
      let here = takes_next joins stream log first in
      let after = takes_next joins stream log (suc first) in
      let cursor = cursor_at stream log first in
      let test : takes_after joins stream cursor (Some rec) ≡ here = sym (ap (takes_after joins stream cursor) at) in
      filter_map-append pid_of (upgraded_at joins stream log first) (stand (suc first) count)
      ∙ ap (λ ps. ps ++ filter_map pid_of (stand (suc first) count)) (ap (λ o. filter_map pid_of (joined before here after o)) at ∙ joined-pids joins stream cursor before here after rec test)
      ∙ ap (λ ps. option_to_list (pid_of rec) ++ ps) (pids-from (suc first) count (omega (arith, e)))
      ∙ sym (ap (filter_map pid_of) (drop_at log first rec at) ∙ first-pid rec (drop (suc first) log))

  -- the pids that it names are those that the log names
  pub upgraded-pids : filter_map pid_of (upgraded_log joins stream log) ≡ filter_map pid_of log
  upgraded-pids = pids-from 0 (length log) (omega arith)
