-- The lines of a tap are read again, piece after piece, of which the first is its header.
use Rattle.std.proofs.Common.{◌≡◌, ℕ, zero, suc, ◌-◌, List, [], ◌∷◌, ◌++◌, drop, length, sym, ap, ◌∙◌, arith, append_assoc, append-nil, length-append}
use Rattle.aud_reader.specs.declared.line.Line.{Line}
use Rattle.aud_parts.specs.declared.tap_index.tap_runs.Run.{Run}
use Rattle.aud_parts.specs.TapRuns.{TapRuns, runs_lines}
use Rattle.aud_parts.specs.Private.ServerSteps.{ArePassed}

-- without the first of two lists together
drop_both : (n : ℕ) (xs ys : List Line) → drop n (xs ++ ys) ≡ drop n xs ++ drop (n - length xs) ys
drop_both zero xs ys = grind arith
drop_both (suc n) [] ys =
    let same : suc n ≡ suc n - 0 = omega arith in
    ap (λ k. drop k ys) same
drop_both (suc n) (x ∷ xs) ys =
    let same : n - length xs ≡ suc n - suc (length xs) = omega arith in
    drop_both n xs ys ∙ ap (λ k. drop n xs ++ drop k ys) same

module _ (files : List (List ℕ)) (tap : TapRuns) where
  -- a piece more
  pub passed-more : (done lines : List Line) (left rest : List Run) (skipped still : ℕ) → ArePassed files tap done left skipped → runs_lines files left ≡ lines ++ runs_lines files rest
      → still ≡ skipped - length lines → ArePassed files tap (done ++ lines) rest still
  passed-more done lines left rest skipped still p same skips = record {
    whole = append_assoc done lines (runs_lines files rest) ∙ ap (λ ls. done ++ ls) (sym same) ∙ p.whole;
    skips =
        let past = length-append done lines in
        let before = p.skips in
        omega (arith, past, before, skips);
  }

  -- the lines past the header
  pub past-more : (done lines : List Line) (left : List Run) (skipped : ℕ) → ArePassed files tap done left skipped → drop 1 (done ++ lines) ≡ drop 1 done ++ drop skipped lines
  past-more done lines left skipped p = drop_both 1 done lines ∙ ap (λ n. drop 1 done ++ drop n lines) (sym p.skips)

  -- all were passed
  pub passed-all : (done : List Line) (left : List Run) (skipped : ℕ) → ArePassed files tap done left skipped → left ≡ [] → done ≡ runs_lines files tap.runs
  passed-all done left skipped p none = sym (append-nil done) ∙ ap (λ (runs : List Run). done ++ runs_lines files runs) (sym none) ∙ p.whole
