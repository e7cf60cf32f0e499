use Rattle.std.proofs.Common.{◌≡◌, ◌++◌, None, sym, ap, ◌∙◌, subst}
use Rattle.aud_reader.proofs.LinesLemmas.{some_of}
use Rattle.aud_input.specs.Reader.{Holds, PartsSoFar}
use Rattle.aud_input.proofs.InputLemmas.{read-at_once, refused-at_once}
use Rattle.aud_input.proofs.RefusedLemmas.{held-refused}
use Rattle.aud_input.proofs.parts.PartsReader.read_at_once.Goals as goal

pub returns-in-Ok-clause-parts : goal.returns-in-Ok-clause-parts
returns-in-Ok-clause-parts g c = λ more.
    let old = c.self.inside in
    let s : PartsSoFar = record { layout = old.layout; taps = old.taps; waiting = old.waiting; certificates = old.certificates.items } in
    let bundle = ap (λ (s : PartsSoFar). s.layout) c.self.view_is ∙ c.requires.bundle in
    let none = ap (λ (s : PartsSoFar). s.waiting) c.self.view_is ∙ c.requires.none in
    rw (← c.self.view_is) (read-at_once s c.lines.new.self c.args.lines.now more bundle none (c.in-Ok.ensures.taps more (λ e. cc)))

pub returns-in_ok-append-in-Err-clause-refused : goal.returns-in_ok-append-in-Err-clause-refused
returns-in_ok-append-in-Err-clause-refused g c = λ other more.
    let old = c.self.inside in
    let s : PartsSoFar = record { layout = old.layout; taps = old.taps; waiting = old.waiting; certificates = old.certificates.items } in
    let bundle = ap (λ (s : PartsSoFar). s.layout) c.self.view_is ∙ c.requires.bundle in
    let none = ap (λ (s : PartsSoFar). s.waiting) c.self.view_is ∙ c.requires.none in
    let refused = some_of c.lines.new.self.fault c.in-Err.fault c.in-Err.ensures.value in
    rw (← c.self.view_is) (refused-at_once s c.lines.new.self c.args.lines.now more c.in-Err.fault bundle none refused (c.in-Err.ensures.taps more (λ memory. other (cc))))

pub returns-in_ok-append-in-Err-clause-held : goal.returns-in_ok-append-in-Err-clause-held
returns-in_ok-append-in-Err-clause-held g c = λ other.
    let going : c.self.inside.taps.fault ≡ None = ap (λ (s : PartsSoFar). s.taps.fault) c.self.view_is ∙ c.requires.going in
    let none = ap (λ (s : PartsSoFar). s.waiting) c.self.view_is ∙ c.requires.none in
    subst (Holds c.in-Err.fault) (sym (c.in_ok-append-in-Err.ensures ∙ ap (λ waiting. waiting ++ c.args.lines.now) none))
    (held-refused c.self.inside.taps c.lines.new.self c.args.lines.now c.in-Err.fault going c.in-Err.ensures.value c.in-Err.ensures.taps other)
