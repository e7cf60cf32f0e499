-- Cursors past the end of a log, and the first record that reaches a position.
use Rattle.std.proofs.Common.{◌≡◌, ◌<◌, ◌≤◌, ◌+◌, ◌-◌, ℕ, zero, suc, List, [], length, min, Some, option_map, unwrap_or, slice_get, refl, sym, ap, ◌∙◌, arith}
use Rattle.std.proofs.lemmas.Bool.{lt-leb, le-leb}
use Rattle.std.proofs.lemmas.Option.{slice_get_past}
use Rattle.aud_tap.specs.declared.records.StreamRec.{StreamRec}
use Rattle.aud_tap.specs.declared.records.NodeRec.{NodeRec}
use Rattle.aud_node.specs.Cursors.{cursor_at, cursor_past}
use Rattle.aud_base.proofs.Lists.{element_at}
use Rattle.aud_node.proofs.RecordLemmas.{cursor_at-rises}
use Rattle.aud_merge.specs.ByTurns.{first_reaching}

module _ (stream : List StreamRec) (log : List NodeRec) where
  -- past the last record the cursor stays
  past : (extra : ℕ) → cursor_at stream log (extra + length log) ≡ cursor_at stream log (length log)
  past zero = let none : 0 + length log ≡ length log = omega arith in ap (cursor_at stream log) none
  past (suc extra) =
      let next : suc extra + length log ≡ suc (extra + length log) = omega arith in
      ap (cursor_at stream log) next
      ∙ ap (λ o. cursor_past stream (extra + length log) o (cursor_at stream log (extra + length log))) (slice_get_past log (extra + length log) (omega arith))
      ∙ past extra

  -- so it is that after the records there are
  pub cursor_clipped : (count : ℕ) → cursor_at stream log (min count (length log)) ≡ cursor_at stream log count
  cursor_clipped count = grind (arith, past (count - length log))

  -- the cursor after the last of so many records is read off it
  pub cursor_there : (count m : ℕ) → m ≡ min count (length log) → 0 < m → unwrap_or (option_map (λ _. cursor_at stream log (suc (m - 1))) (slice_get log (m - 1))) 0 ≡ cursor_at stream log count
  cursor_there count m is some =
      let (rec, at) = element_at log (m - 1) (omega (arith, is)) in
      let next : suc (m - 1) ≡ m = omega arith in
      ap (λ o. unwrap_or (option_map (λ _. cursor_at stream log (suc (m - 1))) o) 0) at ∙ ap (cursor_at stream log) (next ∙ is) ∙ cursor_clipped count

-- where there are no records it is 0
pub cursor_none : (stream : List StreamRec) (count : ℕ) → cursor_at stream [] count ≡ 0
cursor_none stream zero = refl
cursor_none stream (suc count) = cursor_none stream count

module _ (stream : List StreamRec) (log : List NodeRec) (p : ℕ) where
  -- records after the last of which the cursor doesn't reach the position are passed over
  pub passed_over : (k low count : ℕ) → k ≤ count → cursor_at stream log (low + k) < p
      → first_reaching stream log p low count ≡ first_reaching stream log p (low + k) (count - k)
  passed_over zero low count h below = grind arith
  passed_over (suc k) low zero h below = absurd (omega arith)
  passed_over (suc k) low (suc count) h below =
      let up = cursor_at-rises stream log (suc low) (low + suc k) (omega arith) in
      grind (arith, lt-leb (cursor_at stream log (suc low)) p, passed_over k (suc low) count)

  -- so are those up to a record after which it doesn't
  pub passed_half : (low to middle : ℕ) → low ≤ middle → middle < to → cursor_at stream log (middle + 1) < p
      → first_reaching stream log p (middle + 1) (to - (middle + 1)) ≡ first_reaching stream log p low (to - low)
  passed_half low to middle from within below =
      let after : low + (middle + 1 - low) ≡ middle + 1 = omega arith in
      let left : to - low - (middle + 1 - low) ≡ to - (middle + 1) = omega arith in
      let over = passed_over (middle + 1 - low) low (to - low) (omega arith) (omega (arith, below, ap (cursor_at stream log) after)) in
      sym (over ∙ (λ i. first_reaching stream log p (after i) (left i)))

  -- a record after which it does is the first of those from it on
  pub found_first : (low count : ℕ) → 0 < count → p ≤ cursor_at stream log (suc low) → first_reaching stream log p low count ≡ Some low
  found_first low zero some h = absurd (omega arith)
  found_first low (suc count) some h = grind (arith, le-leb p (cursor_at stream log (suc low)))
