-- The lines of an input that is read as a bundle: none is too long, and they are read as its taps.
use Rattle.std.proofs.Common.{◌≡◌, ℕ, ◌+◌, ◌<◌, ◌≤◌, List, [], ◌∷◌, length, map, true, false, cond, nat_lt, nat_le, Option, Some, None, Result, Ok, Err, refl, sym, ap, ◌∙◌, true≢false, arith}
use Rattle.std.proofs.lemmas.Bool.{leb-true, ltb-true}
use Rattle.aud_base.specs.Steps.{◌>>=◌}
use Rattle.aud_base.proofs.StepLemmas.{part-of, guard-ok}
use Rattle.aud_tap.specs.declared.taps.Tap.{Tap}
use Rattle.aud_tap.specs.Limits.{max_line}
use Rattle.aud_reader.specs.declared.fault.InputCode.TheVariants.{LineTooLong}
use Rattle.aud_reader.specs.declared.fault.ReadFault.{ReadFault}
use Rattle.aud_reader.specs.declared.fault.ReadFault.TheVariants.{Input}
use Rattle.aud_reader.specs.declared.line.Line.{Line}
use Rattle.aud_reader.specs.Lines.{without_return, is_too_long, line_then, lines_from, lines_of, line_pieces}
use Rattle.aud_reader.specs.Record.{opened_line}
use Rattle.aud_reader.specs.Bundle.{with_line, taps_after, taps_from, taps_of}
use Rattle.aud_input.specs.declared.input.Layout.TheVariants.{Bundle}
use Rattle.aud_input.specs.Input.{InputSeen, certificates_in, bundle_in, with_certificates, unless_cut, input_of}
use Rattle.aud_laws.specs.Order.{AreSameButForOrder, AreReadAlike}
use Rattle.aud_laws.specs.Inputs.{line_texts}
use Rattle.aud_laws.proofs.AnyOrder.Readings.{Leads, AreRead, leads-from, leads-to, same-back, read-same, alike}

-- ---- the lengths of lines

-- a line that is too long is refused
long-refused : (ts next : List Tap) (line : List ℕ) → nat_lt max_line (length line) ≡ true → Leads ts line next → ⊥
unfolding with_line opened_line
long-refused ts next [] long leads = true≢false (sym long)
long-refused ts next (b ∷ line) long leads =
    let opened = part-of (opened_line (b ∷ line)) _ next leads in
    let fits = guard-ok LineTooLong (nat_le (length (b ∷ line)) max_line) _ opened.0 opened.1 in
    let more : max_line < length (b ∷ line) = ltb-true _ _ long in
    let less : length (b ∷ line) ≤ max_line = leb-true _ _ fits.0 in
    omega arith

-- the line of this number, with the taps that it leads to, and the lines after it
abbrev IsReadFrom : List Tap → Result Line ReadFault → ℕ → List (List ℕ) → List Tap → Type 0
IsReadFrom ts first n pieces last = ((line_then first (lines_from n pieces)).fault ≡ None) × (taps_from ts (line_then first (lines_from n pieces)).lines ≡ Ok last)

-- texts that are read are lines none of which is too long
numbered : (pieces : List (List ℕ)) (n : ℕ) (ts last : List Tap) → AreRead ts (map without_return pieces) last → ((lines_from n pieces).fault ≡ None) × (taps_from ts (lines_from n pieces).lines ≡ Ok last)
numbered [] n ts last read = (refl, ap (λ (us : List Tap). Ok us) (sym read))
numbered (p ∷ ps) n ts last read =
    let rest = numbered ps (n + 1) read.0 last read.2 in
    elim (is_too_long p) as (λ v. is_too_long p ≡ v → IsReadFrom ts (cond v (Err (Input n LineTooLong)) (Ok (record { number = n; bytes = without_return p }))) (n + 1) ps last) [
      | true ↦ λ long. absurd (long-refused ts read.0 (without_return p) long read.1)
      | false ↦ λ short. (
        rest.0,
        ap (λ (r : Result (List Tap) ReadFault). r >>= (λ more. taps_from more (lines_from (n + 1) ps).lines)) (leads-to ts read.0 n (without_return p) read.1) ∙ rest.1,
      )
    ] refl

-- and back
texts-read : (pieces : List (List ℕ)) (n : ℕ) (ts last : List Tap) → (lines_from n pieces).fault ≡ None → taps_from ts (lines_from n pieces).lines ≡ Ok last → AreRead ts (map without_return pieces) last
texts-read [] n ts last whole e = let same : ts ≡ last = cc in sym same
texts-read (p ∷ ps) n ts last whole e =
    elim (is_too_long p) as (λ v. (line_then (cond v (Err (Input n LineTooLong)) (Ok (record { number = n; bytes = without_return p }))) (lines_from (n + 1) ps)).fault ≡ None
    → taps_from ts (line_then (cond v (Err (Input n LineTooLong)) (Ok (record { number = n; bytes = without_return p }))) (lines_from (n + 1) ps)).lines ≡ Ok last
    → AreRead ts (map without_return (p ∷ ps)) last) [
      | true ↦ λ fault taps. cc
      | false ↦ λ fault taps.
          let line : Line = record { number = n; bytes = without_return p } in
          let first = part-of (taps_after ts line) _ last taps in
          (first.0, leads-from ts first.0 n (without_return p) first.1, texts-read ps (n + 1) first.0 last fault first.2)
    ] whole e

-- ---- a bundle without certificates

-- no line of a bundle is a certificate
no-certificates : (lines : List Line) → certificates_in Bundle lines ≡ []
no-certificates [] = refl
no-certificates (line ∷ lines) = no-certificates lines

-- and each is one of its own
pub all-lines : (lines : List Line) → bundle_in Bundle lines ≡ lines
all-lines [] = refl
all-lines (line ∷ lines) = ap (λ ls. line ∷ ls) (all-lines lines)

-- an input that is read has no line that is too long, and the taps of its lines
pub record IsWhole (cut : Option ReadFault) (certificates : List Line) (read : Result (List Tap) ReadFault) (input : InputSeen) : Type 0 where
  pub none : cut ≡ None
  pub taps : read ≡ Ok input.taps
  pub rest : input.certificates ≡ certificates

-- what an input that is read tells
pub whole : (cut : Option ReadFault) (certificates : List Line) (read : Result (List Tap) ReadFault) (input : InputSeen) → unless_cut cut (with_certificates certificates read) ≡ Ok input → IsWhole cut certificates read input
whole None certificates (Ok taps) input e =
    let same : record { taps = taps; certificates = certificates } ≡ input = cc in
    record { none = refl; taps = ap (λ (i : InputSeen). Ok i.taps) same; rest = ap (λ (i : InputSeen). i.certificates) (sym same) }
whole None certificates (Err fault) input e = cc
whole (Some cut) certificates (Ok taps) input e = cc
whole (Some cut) certificates (Err fault) input e = cc

-- the texts of a bundle that is read are read as its taps
input-read : (bytes : List ℕ) (input : InputSeen) → input_of Bundle bytes ≡ Ok input → AreRead [] (line_texts bytes) input.taps × (input.certificates ≡ [])
input-read bytes input e =
    let lines = (lines_of bytes).lines in
    let is = whole (lines_of bytes).fault (certificates_in Bundle lines) (taps_of (bundle_in Bundle lines)) input e in
    (texts-read (line_pieces bytes) 1 [] input.taps is.none (ap taps_of (sym (all-lines lines)) ∙ is.taps), is.rest ∙ no-certificates lines)

-- and back
input-from : (bytes : List ℕ) (taps : List Tap) → AreRead [] (line_texts bytes) taps → input_of Bundle bytes ≡ Ok (record { taps = taps; certificates = [] })
input-from bytes taps read =
    let lines = (lines_of bytes).lines in
    let is = numbered (line_pieces bytes) 1 [] taps read in
    rw (is.0, all-lines lines, no-certificates lines, is.1) refl

-- ---- the law

-- an input in one order is read in the other
input-again : (bytes others : List ℕ) (input : InputSeen) → AreSameButForOrder (line_texts bytes) (line_texts others) → input_of Bundle bytes ≡ Ok input → input_of Bundle others ≡ Ok input
input-again bytes others input same e =
    let (read, none) = input-read bytes input e in
    input-from others input.taps (read-same (line_texts bytes) (line_texts others) input.taps same read)
    ∙ ap (λ (cs : List Line). Ok (record { taps = input.taps; certificates = cs })) (sym none)

-- inputs that are the same but for the order of their lines are read alike
pub inputs-alike : (bytes others : List ℕ) → AreSameButForOrder (line_texts bytes) (line_texts others) → AreReadAlike (input_of Bundle bytes) (input_of Bundle others)
inputs-alike bytes others same =
    alike (input_of Bundle bytes) (input_of Bundle others)
    (λ input. input-again bytes others input same)
    (λ input. input-again others bytes input (same-back (line_texts bytes) (line_texts others) same))
