use Rattle.std.proofs.Common.{Some, sym, refl, subst}
use Rattle.aud_input.specs.Private.Going.{reader_of}
use Rattle.aud_input.specs.Reader.{HasLines}
use Rattle.aud_input.proofs.GivenLemmas.{holds-some, waited}
use Rattle.aud_input.proofs.reader.InputReader.read_waiting.Goals as goal

pub returns-in-Err-clause-lines : goal.returns-in-Err-clause-lines
returns-in-Err-clause-lines g c = λ other bytes has.
    let s = c.self.inside in
    waited bytes (reader_of s.splitter s.parts s.index s.fault) (reader_of s.splitter c.read_waiting.new.self s.index (Some c.in-Err.fault)) c.in_default.is refl refl c.in-Err.ensures.waits
    (holds-some c.read_waiting.new.self.waiting c.in-Err.fault c.in-Err.ensures.held) (subst (HasLines bytes) (sym c.self.view_is) has)
