use Rattle.std.proofs.Common.{◌≡◌, is_some, true, sym, ◌∙◌}
use Rattle.aud_sio.proofs.Halves.{text_held}
use Rattle.aud_sio.proofs.assembler.Assembler.take_text.Goals as goal

pub returns-then-is_some-clause-answers : goal.returns-then-is_some-clause-answers
returns-then-is_some-clause-answers c = λ other.
    let awaits : is_some c.args.half ≡ true = sym c.is_some.ensures ∙ c.if-is_some.true in
    rw c.requires (text_held c.args.half c.args.text.now awaits)
