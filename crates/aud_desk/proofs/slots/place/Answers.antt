use Rattle.std.proofs.Common.{rules, ◌≡◌, ℕ, ◌<◌, ◌⊎◌, inl, inr, ⊎_elim, List, Option, length, vec_len, All, Contains, [], ◌∷◌, arith, subst, sym}
use Rattle.std.proofs.lemmas.List.Elements.{Contains-append_left, Contains-push}
use Rattle.aud_desk.specs.declared.entry.Entry.{Entry}
use Rattle.aud_verdict.specs.declared.verdict.Verdict.{Verdict}
use Rattle.aud_desk.specs.Draws.{times}
use Rattle.aud_desk.specs.Slots.{HasVerdict, IsFull}
use Rattle.aud_desk.specs.Workers.{indices}
use Rattle.aud_desk.proofs.Lists.{all-init, all-last}
use Rattle.aud_desk.proofs.Filled.{put-found, put-full, times-last}
use Rattle.aud_desk.proofs.slots.place.Goals as goal

pub loop-entry-preserved : goal.loop-entry-preserved
loop-entry-preserved c =
    let e : Entry = c.in-Some.entry in
    let rest = c.pop.new.self.items in
    let items = c.in-Some.ensures.items in
    let slots = c.loop-entry.slots.items in
    let inv = c.loop-entry.invariant in
    let Low : Entry → Type 0 = λ x. x.index < vec_len c.args.slots.now in
    let low = subst (All Low) items inv.low in
    let room : e.index < length slots = omega (arith, all-last Low rest e low, inv.len, c.loop-entry.slots.ok.0, c.args.slots.now.ok.0) in
    let within : (x : Entry) → Contains rest x → Contains c.args.entries.items x = λ x has. inv.rest x (subst (λ (es : List Entry). Contains es x) (sym items) (Contains-append_left rest (e ∷ []) x has)) in
    let here : Contains c.args.entries.items e = inv.rest e (subst (λ (es : List Entry). Contains es e) (sym items) (Contains-push rest e)) in
    let filled_up : (i : ℕ) → (i ≡ e.index) ⊎ IsFull slots i → IsFull c.put.new.slots.items i =
    λ i was. subst (λ (s : List (Option Verdict)). IsFull s i) (sym c.put.ensures) (put-full slots e i room was) in record {
      len = search rules;
      low = all-init Low rest e low;
      rest = within;
      found = λ i verdict has. ⊎_elim (λ old. inv.found i verdict old) (λ new. inr (subst (Contains c.args.entries.items) new here))
          (put-found slots e i verdict room (subst (λ (s : List (Option Verdict)). HasVerdict s i verdict) c.put.ensures has));
      kept = λ i was. filled_up i (inr (inv.kept i was));
      full = λ i t. ⊎_elim
          (λ before. ⊎_elim (λ same. inr (filled_up i (inl same))) inl (times-last rest e i (subst (λ (es : List Entry). 0 < times i (indices es)) items before)))
          (λ done. inr (filled_up i (inr done)))
          (inv.full i t);
    }
