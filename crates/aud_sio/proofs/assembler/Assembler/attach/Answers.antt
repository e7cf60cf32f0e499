use Rattle.std.proofs.Common.{◌≡◌, ◌-◌, ◌++◌, ◌∷◌, [], length, map, ap, sym, ◌∙◌, arith}
use Rattle.std.proofs.lemmas.List.{length-map, map-append, length-append}
use Rattle.aud_sio.specs.Message.{Bytes}
use Rattle.aud_sio.specs.Assembly.{blob_view, whole_view}
use Rattle.aud_sio.specs.Private.Awaited.{gives_with}
use Rattle.aud_sio.proofs.Assembling.{one_attached, with_bin}
use Rattle.aud_sio.proofs.Halves.{after_next, whole_held}
use Rattle.aud_sio.proofs.assembler.Assembler.attach.Goals as goal

pub returns-clause-answers : goal.returns-clause-answers
returns-clause-answers c = λ place l.
    let half = c.args.half in
    let w = half.whole in
    let blob = blob_view c.args.blob in
    let bin : map blob_view c.push.new.self.items ≡ map blob_view w.bin.items ++ blob ∷ [] =
    ap (map blob_view) c.in_ok-push.ensures.items ∙ map-append blob_view w.bin.items (c.args.blob ∷ []) in
    let count : w.packet.attachments - length (map blob_view w.bin.items ++ blob ∷ []) ≡ after_next w =
    rw (length-append, length-map) (omega arith) in
    whole_held w ((place, Bytes blob) ∷ l) half.read half.awaits
    ∙ one_attached 0 place (whole_view w) (after_next w) blob l
    ∙ ap (λ n. gives_with place (with_bin (whole_view w) (blob ∷ [])) n l) (sym count)
    ∙ ap (λ b. gives_with place (record (whole_view w) { bin = b }) (w.packet.attachments - length b) l) (sym bin)
    ∙ c.keep.ensures.answers place l
