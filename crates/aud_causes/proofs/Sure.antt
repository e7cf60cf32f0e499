-- Causes are certain exactly where there is one, and the fault can have others.
use Rattle.std.proofs.Common.{◌≡◌, ◌<◌, ◌&&◌, ◌||◌, ℕ, Bool, true, false, cond, List, get_or, length, map, nat_eq, refl, sym, ap, subst, ◌∙◌}
use Rattle.std.proofs.lemmas.List.{length-map, get_or-map}
use Rattle.std.specs.Prelude.{Option}
use Rattle.std.specs.List.{All}
use Rattle.aud_explanation.specs.CauseState.{is_certain}
use Rattle.aud_node.specs.Cluster.{Cluster}
use Rattle.aud_input.specs.TapLines.{TapLines}
use Rattle.aud_causes.specs.declared.cause.Cause.{Cause}
use Rattle.aud_causes.specs.declared.cause.Cause.TheVariants.{NoClientTap}
use Rattle.aud_causes.specs.declared.found.CauseFound.{CauseFound}
use Rattle.aud_causes.specs.Found.{CauseSeen, cause_seen, shown_among, shown_causes}
use Rattle.aud_causes.specs.State.{has_one_other, is_apart, lone_state, state_beside, state_of}

-- of all states it is certain where the cause is the only one, and there are others
certain_by : (others lone free : Bool) → is_certain (cond lone (lone_state others) (state_beside free)) ≡ (others && lone)
certain_by true true free = refl
certain_by true false true = refl
certain_by true false false = refl
certain_by false true free = refl
certain_by false false true = refl
certain_by false false false = refl

certain_alone : (others : Bool) (found : List Cause) (cause : Cause) → is_certain (state_of others found cause) ≡ (others && nat_eq (length found) 1)
certain_alone others found cause = certain_by others (nat_eq (length found) 1) (is_apart cause || has_one_other found)

module _ (c : Cluster) (lines : List TapLines) (client : Option ℕ) (numbers : List ℕ) (others : Bool) (found : List Cause) (causes : List CauseFound)
    (told : map cause_seen causes ≡ shown_causes c lines client numbers others found) where
  -- a cause, as it is told beside these
  abbrev told_of : Cause → CauseSeen
  told_of cause = shown_among c lines client numbers others found cause

  -- there are as many
  same : length found ≡ length causes
  same = sym (length-map found told_of) ∙ sym (ap length told) ∙ length-map causes cause_seen

  -- each is certain exactly where it is the only one, and there can be others
  pub sure_alone : All (λ (f : CauseFound). is_certain f.state ≡ (others && nat_eq (length causes) 1)) causes
  sure_alone = λ k d h.
      ap (λ (s : CauseSeen). is_certain s.state)
      (sym (get_or-map cause_seen causes k d (cause_seen d) h)
      ∙ ap (λ seen. get_or seen k (cause_seen d)) told
      ∙ get_or-map told_of found k NoClientTap (cause_seen d) (subst (λ n. k < n) (sym same) h))
      ∙ certain_alone others found (get_or found k NoClientTap)
      ∙ ap (λ n. others && nat_eq n 1) same
