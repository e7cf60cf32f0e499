-- What lines that wait, and the end of an input, bring to its reader.
use Rattle.std.proofs.Common.{◌≡◌, List, [], ◌∷◌, ◌++◌, None, Some, Err, refl, sym, ap, ◌∙◌, append-nil, append_assoc}
use Rattle.aud_reader.specs.declared.line.Line.{Line}
use Rattle.aud_reader.specs.declared.fault.ReadFault.{ReadFault}
use Rattle.aud_reader.specs.Lines.{lines_to_come}
use Rattle.aud_reader.specs.Bundle.{Reading, taps_from, taps_to_come, unless_refused}
use Rattle.aud_input.specs.declared.input.Layout.TheVariants.{Bundle}
use Rattle.aud_input.specs.Input.{bundle_in, certificates_in, with_certificates}
use Rattle.aud_input.specs.Reader.{PartsSoFar, InputSoFar, parts_to_come, input_over, input_to_come}

-- none of a bundle's lines is a certificate
no_certificates : (lines : List Line) → certificates_in Bundle lines ≡ []
no_certificates [] = refl
no_certificates (line ∷ lines) = no_certificates lines

all_of_bundle : (lines : List Line) → bundle_in Bundle lines ≡ lines
all_of_bundle [] = refl
all_of_bundle (line ∷ lines) = ap (λ ls. line ∷ ls) (all_of_bundle lines)

-- so the next ones wait as they are
pub more_wait : (old new : PartsSoFar) (lines more : List Line) → old.layout ≡ Bundle → new ≡ record old { waiting = old.waiting ++ lines } → parts_to_come new more ≡ parts_to_come old (lines ++ more)
more_wait old new lines more bundle is =
    rw (is, bundle, no_certificates more, no_certificates (lines ++ more), all_of_bundle more, all_of_bundle (lines ++ more), append_assoc old.waiting lines more) refl

-- where no other line waits, what comes of a bundle's lines is what comes of them by themselves
over_bundle : (s : PartsSoFar) (lines : List Line) → s.layout ≡ Bundle → s.waiting ≡ [] → parts_to_come s lines ≡ with_certificates (s.certificates ++ []) (taps_to_come s.taps lines)
over_bundle s lines bundle none = rw (bundle, none, no_certificates lines, all_of_bundle lines) refl

-- so they can be read at once
pub read-at_once : (s : PartsSoFar) (read : Reading) (lines more : List Line) → s.layout ≡ Bundle → s.waiting ≡ [] → taps_to_come read more ≡ taps_to_come s.taps (lines ++ more)
    → parts_to_come (record s { taps = read }) more ≡ parts_to_come s (lines ++ more)
read-at_once s read lines more bundle none taps =
    over_bundle (record s { taps = read }) more bundle none ∙ ap (with_certificates (s.certificates ++ [])) taps ∙ sym (over_bundle s (lines ++ more) bundle none)

-- or one of them is refused
pub refused-at_once : (s : PartsSoFar) (read : Reading) (lines more : List Line) (e : ReadFault) → s.layout ≡ Bundle → s.waiting ≡ [] → read.fault ≡ Some e
    → taps_to_come read more ≡ taps_to_come s.taps (lines ++ more) → parts_to_come s (lines ++ more) ≡ Err e
refused-at_once s read lines more e bundle none refused taps =
    over_bundle s (lines ++ more) bundle none
    ∙ ap (with_certificates (s.certificates ++ [])) (sym taps ∙ ap (λ fault. unless_refused fault (taps_from read.taps more)) refused)

-- the last lines are what is still to come
last-lines : (s : InputSoFar) (ls : List Line) → s.fault ≡ None → lines_to_come s.cut [] ≡ record { lines = ls; fault = None }
    → input_to_come s [] ≡ parts_to_come s.parts (ls ++ [])
last-lines s ls none last =
    ap (λ fault. unless_refused fault (input_over s.parts (lines_to_come s.cut []))) none
    ∙ ap (input_over s.parts) last
    ∙ ap (parts_to_come s.parts) (sym (append-nil ls))

-- they were read
pub last-read : (s : InputSoFar) (new : PartsSoFar) (ls : List Line) → s.fault ≡ None → lines_to_come s.cut [] ≡ record { lines = ls; fault = None }
    → ((more : List Line) → parts_to_come new more ≡ parts_to_come s.parts (ls ++ more)) → input_to_come s [] ≡ parts_to_come new []
last-read s new ls none last read = last-lines s ls none last ∙ sym (read [])
