-- What is written of a bundle so far.
use Rattle.std.specs.Prelude.{◌≡◌, ℕ, suc, nat_lt, List, ◌∷◌, ◌++◌, length, Bool, true, false, Result, MatchResult}
use Rattle.std.specs.List.{All, list_any}
use Rattle.aud_tap.specs.declared.records.Rec.{Rec}
use Rattle.aud_tap.specs.Limits.{max_line}
use Rattle.aud_reader.specs.declared.fault.InputCode.TheVariants.{LineTooLong}
use Rattle.aud_reader.specs.declared.fault.ReadFault.{ReadFault}
use Rattle.aud_reader.specs.declared.fault.ReadFault.TheVariants.{Input, Memory}
use Rattle.aud_writer.specs.declared.bundle.Lines.{Lines}
use Rattle.aud_writer.specs.WrittenBundle.{ReadsBack, line_texts, ended}

-- a line is too long
abbrev pub is_long : List ℕ → Bool
is_long line = nat_lt max_line (length line)

-- these lines are written, none of them is too long, and each reads as its record
pub record AreWritten (lines : Lines) (done : List (List ℕ × Rec)) : Type 0 where
  pub bytes : lines.bytes.items ≡ ended (line_texts done)
  pub count : lines.count ≡ length done
  pub short : list_any is_long (line_texts done) ≡ false
  pub back : All ReadsBack done

-- the first of these lines that is too long has this number
pub record IsLongAt (n : ℕ) (lines : List (List ℕ)) : Type 0 where
  pub before : List (List ℕ)
  pub line : List ℕ
  pub after : List (List ℕ)
  pub is : lines ≡ before ++ line ∷ after
  pub number : n ≡ suc (length before)
  pub short : list_any is_long before ≡ false
  pub long : is_long line ≡ true

-- one of these lines is refused so; running out of memory says nothing of them
abbrev pub AreRefused : ReadFault → List (List ℕ × Rec) → Type 0
AreRefused Memory recs = Unit {0}
AreRefused (Input n code) recs = (code ≡ LineTooLong) × IsLongAt n (line_texts recs)

-- these lines are put after those that are written, or one is refused
abbrev pub Puts : Result (Unit {0}) ReadFault → Lines → Lines → List (List ℕ × Rec) → Type 0
Puts result old new recs = (done : List (List ℕ × Rec)) → AreWritten old done → MatchResult result (λ _. AreWritten new (done ++ recs)) (λ e. AreRefused e (done ++ recs))
