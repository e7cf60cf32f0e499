-- Lines of taps that are there.
use Rattle.std.proofs.Common.{◌≡◌, ℕ, List, Some, Result, Ok, sym, ap, ◌∙◌}
use Rattle.serde_json.specs.Data.{Data}
use Rattle.aud_base.specs.Steps.{◌>>=◌}
use Rattle.aud_base.proofs.StepLemmas.{same-ok, part-of}
use Rattle.aud_reader.specs.declared.fault.InputCode.{InputCode}
use Rattle.aud_reader.specs.declared.fault.LineFault.{LineFault}
use Rattle.aud_tap.specs.declared.records.Rec.{Rec}
use Rattle.aud_tap.specs.declared.taps.Tap.{Tap}
use Rattle.aud_tap.specs.Names.{place_of}
use Rattle.aud_reader.specs.Steps.{Fails}
use Rattle.aud_reader.specs.Record.{json_of, opened_line, value_record, line_record}
use Rattle.aud_reader.specs.Bundle.{with_line}
use Rattle.aud_reader.specs.Private.KnownLine.{IsOfTapAt}
use Rattle.aud_reader.proofs.KeptLemmas.{fails-then}

module _ (ts : List Tap) (line : List ℕ) (place : ℕ) (text : List ℕ) (is : IsOfTapAt ts line place text) where
  -- where the text after the name is JSON, the line opens
  pub known-opens : (d : Data) → json_of text ≡ Ok d → opened_line line ≡ Ok (is.name, d)
  known-opens d reads = is.opens ∙ ap (λ (r : Result Data InputCode). r >>= (λ d. Ok (is.name, d))) reads

  -- where it isn't, the line is refused as the text is
  pub known-refused : (e : LineFault) → Fails e (json_of text) → Fails e (with_line ts line)
  unfolding with_line
  known-refused e failed = rw is.opens (fails-then e _ _ (fails-then e (json_of text) _ failed))

  -- and tells no record
  pub known-unread : (e : LineFault) → Fails e (json_of text) → Fails e (line_record line)
  unfolding line_record
  known-unread e failed = rw is.opens (fails-then e _ _ (fails-then e (json_of text) _ failed))

  -- the record that it tells is of the tap at this place
  pub known-place : (name : List ℕ) (rec : Rec) → line_record line ≡ Ok (name, rec) → place_of ts name ≡ Some place
  unfolding line_record
  known-place name rec reads =
      let parts = part-of (opened_line line) _ (name, rec) reads in
      let opened = part-of (json_of text) _ parts.0 (sym is.opens ∙ parts.1) in
      let value = part-of (value_record parts.0.1) _ (name, rec) parts.2 in
      let first : (is.name, opened.0) ≡ parts.0 = same-ok _ _ opened.2 in
      let second : (parts.0.0, value.0) ≡ (name, rec) = same-ok _ _ value.2 in
      ap (λ (p : List ℕ × Rec). place_of ts p.0) (sym second) ∙ ap (λ (p : List ℕ × Data). place_of ts p.0) (sym first) ∙ is.at
