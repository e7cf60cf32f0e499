use Rattle.std.proofs.Common.{◌≡◌, ◌-◌, ◌<◌, suc, length, map, ap, sym, ◌∙◌, arith}
use Rattle.std.proofs.lemmas.List.{length-map}
use Rattle.aud_sio.specs.Assembly.{blob_view, whole_view}
use Rattle.aud_sio.specs.Private.Awaited.{gives_with}
use Rattle.aud_sio.proofs.Assembling.{any_place}
use Rattle.aud_sio.proofs.Halves.{after_next, whole_held, whole_waits}
use Rattle.aud_sio.proofs.assembler.Assembler.keep.Goals as goal

pub returns-clause-answers : goal.returns-clause-answers
returns-clause-answers c = λ place l.
    let w = c.args.whole in
    let awaits : length w.bin.items < w.packet.attachments = omega (arith, c.requires.few, c.len.ensures, c.if-len-whole.false) in
    let more : w.packet.attachments - length (map blob_view w.bin.items) ≡ suc (after_next w) = rw length-map (omega arith) in
    ap (λ n. gives_with place (whole_view w) n l) more
    ∙ any_place place 0 (whole_view w) (after_next w) l
    ∙ sym (whole_held w l c.requires.read awaits)

pub returns-clause-waits : goal.returns-clause-waits
returns-clause-waits c =
    let w = c.args.whole in
    let awaits : length w.bin.items < w.packet.attachments = omega (arith, c.requires.few, c.len.ensures, c.if-len-whole.false) in
    whole_waits w c.requires.read awaits
