use Rattle.std.proofs.Common.{◌≡◌, ◌∙◌, Result, Err, inl, inr, ap, sym, arith}
use Rattle.aud_base.specs.declared.run_fault.RunFault.{RunFault}
use Rattle.aud_base.specs.Watched.{calls_of}
use Rattle.aud_input.specs.Reader.{input_to_come}
use Rattle.aud_input.proofs.Takes.{input_read}
use Rattle.aud_input.proofs.reading.read_input.Goals as goal

pub returns-in-Ok-clause-input : goal.returns-in-Ok-clause-input
returns-in-Ok-clause-input g c = λ other.
    input_read c.args.layout _ c.new-feeding.result c.read_file.new.feeding c.finish.result (λ bytes. ap (λ s. input_to_come s bytes) c.new-feeding.ensures.reader ∙ c.new.ensures.input bytes) c.in-Ok.ensures.read
    c.finish.ensures.read c.finish.ensures.refused other

pub returns-clause-read : goal.returns-clause-read
returns-clause-read g c = λ is.
    let same : c.in-Err.fault ≡ RunFault.Read = cc in
    let read : ◌≡◌ {A = Result (Unit {0}) RunFault} (Err c.in-Err.fault) (Err RunFault.Read) = ap (λ f. Err f) same in
    let counted : calls_of c.args.input.now ≡ c.new-feeding.result.pieces = c.requires ∙ sym c.new-feeding.ensures.pieces in
    elim (c.in-Err.ensures.failed read) [
      | inl failed ↦ inl failed
      | inr many ↦ let calls = c.in-Err.ensures.calls counted read in inr (omega (arith, many, calls))
    ]

pub returns-clause-others : goal.returns-clause-others
returns-clause-others g c = elim c.in-Err.ensures.others [
  | inl read ↦ let same : c.in-Err.fault ≡ RunFault.Read = cc in inl (ap (λ f. Err f) same)
  | inr memory ↦ let same : c.in-Err.fault ≡ RunFault.Memory = cc in inr (ap (λ f. Err f) same)
]
