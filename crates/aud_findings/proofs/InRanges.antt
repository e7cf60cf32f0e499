-- Ranges of positions, and the lines that show their ends.
use Rattle.std.proofs.Common.{◌≡◌, ◌+◌, ◌∙◌, ◌++◌, ℕ, zero, suc, List, [], ◌∷◌, length, map, drop, refl, sym, ap, subst, arith, append-nil}
use Rattle.aud_node.specs.Cluster.{Cluster}
use Rattle.aud_client.specs.StaySeen.{FrameSeen}
use Rattle.aud_input.specs.TapLines.{TapLines}
use Rattle.aud_findings.specs.declared.ranges.Range.{Range}
use Rattle.aud_findings.specs.declared.also.LinesOf.{LinesOf}
use Rattle.aud_findings.specs.declared.also.LinesOf.TheVariants.{Entry}
use Rattle.aud_findings.specs.Also.{AlsoSeen, entry_lines, following, frame_lines, lines_of, past_ranges, range_also, ranges, told_of}

-- there are no more of them
pub no_ranges : (positions : List ℕ) → ranges zero positions ≡ []
unfolding ranges
no_ranges [] = refl
no_ranges (p ∷ positions) = refl

pub none_past : (positions : List ℕ) → past_ranges zero positions ≡ positions
unfolding past_ranges
none_past [] = refl
none_past (p ∷ positions) = refl

-- the first one
pub ranges_one : (most p : ℕ) (positions : List ℕ)
    → ranges (suc most) (p ∷ positions) ≡ record { first = p; last = p + following p positions } ∷ ranges most (drop (following p positions) positions)
unfolding ranges
ranges_one most p positions = refl

pub past_one : (most p : ℕ) (positions : List ℕ) → past_ranges (suc most) (p ∷ positions) ≡ past_ranges most (drop (following p positions) positions)
unfolding past_ranges
past_one most p positions = refl

-- without any positions none are left either
pub same_of_none : (more : ℕ) (positions : List ℕ) → length positions ≡ 0 → ranges more positions ≡ ranges (suc more) positions
unfolding ranges
same_of_none more [] e = refl
same_of_none more (p ∷ positions) e = absurd (omega arith)

pub same_past_none : (more : ℕ) (positions : List ℕ) → length positions ≡ 0 → past_ranges more positions ≡ past_ranges (suc more) positions
unfolding past_ranges
same_past_none more [] e = refl
same_past_none more (p ∷ positions) e = absurd (omega arith)

-- the first range was taken, and these positions are after it
module _ (more p last count : ℕ) (positions others after : List ℕ) (parts : positions ≡ p ∷ others) (last_is : last ≡ p + count)
    (count_is : count ≡ following p others) (after_is : after ≡ drop count others) where
  there : after ≡ drop (following p others) others
  there = after_is ∙ ap (λ n. drop n others) count_is

  pub one_taken : ranges (suc more) positions ≡ record { first = p; last = last } ∷ ranges more after
  one_taken =
      ap (ranges (suc more)) parts ∙ ranges_one more p others
      ∙ sym (λ i. record { first = p; last = (last_is ∙ ap (λ n. p + n) count_is) i } ∷ ranges more (there i))

  pub past_taken : past_ranges more after ≡ past_ranges (suc more) positions
  past_taken = sym (ap (past_ranges (suc more)) parts ∙ past_one more p others ∙ sym (ap (past_ranges more) there))

-- what is told of the positions, by their ranges as they are found
pub told_all : (lines_at : ℕ → List ℕ) (positions : List ℕ) (told : List AlsoSeen) (found : List Range) (left : ℕ)
    → told ≡ map (range_also lines_at) found → found ≡ ranges 100 positions → left ≡ length (past_ranges 100 positions)
    → record { ranges = told; left = left } ≡ told_of lines_at positions
told_all lines_at positions told found left told_is found_is left_is =
    λ i. record { ranges = (told_is ∙ ap (map (range_also lines_at)) found_is) i; left = left_is i }

-- ---- an entry that never came

none_shown : (c : Cluster) (lines : List TapLines) (place : ℕ) (numbers : List ℕ) (p number : ℕ) (frames : List FrameSeen)
    → frame_lines Entry c lines place numbers p number frames ≡ []
none_shown c lines place numbers p number [] = refl
none_shown c lines place numbers p number (frame ∷ frames) = none_shown c lines place numbers p (suc number) frames

-- its line alone shows it
pub entry_alone : (by : LinesOf) → by ≡ Entry → (c : Cluster) (lines : List TapLines) (place : ℕ) (numbers : List ℕ) (frames : List FrameSeen) (p : ℕ)
    → entry_lines by c lines p ≡ lines_of by c lines place numbers frames p
entry_alone by is c lines place numbers frames p =
    subst (λ b. entry_lines b c lines p ≡ lines_of b c lines place numbers frames p) (sym is)
    (sym (ap (λ later. entry_lines Entry c lines p ++ later) (none_shown c lines place numbers p 0 frames) ∙ append-nil (entry_lines Entry c lines p)))
