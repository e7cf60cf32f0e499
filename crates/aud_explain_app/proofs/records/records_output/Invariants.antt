use Rattle.std.proofs.Common.{◌≡◌, ◌++◌, drop, option_map, string_bytes}
use Rattle.aud_explain_app.specs.Records.{first_lacking, lacking_from, records_text}
use Rattle.aud_explain_app.proofs.records.records_output.Given as goal

-- the records so far, with those that are left, are all; and so many were there
abbrev pub invariant-loop-number : goal.invariant-loop-number
invariant-loop-number l = record {
  text :
      option_map (λ rest. string_bytes l.out ++ rest) (records_text l.layout.form l.layout.files.now l.taps l.lines (drop l.number l.records))
      ≡ records_text l.layout.form l.layout.files.now l.taps l.lines l.records;
  lacking : lacking_from l.number l.taps (drop l.number l.records) ≡ first_lacking l.taps l.records;
}
