use Rattle.std.proofs.Common.{◌≡◌, ◌++◌, ◌+◌, ◌∷◌, [], List, ℕ, take, ap, sym, ◌∙◌, subst, append-nil}
use Rattle.std.proofs.lemmas.List.{take_more}
use Rattle.std.proofs.lemmas.Grind.{flat_map-append}
use Rattle.aud_sio.specs.Message.{Message}
use Rattle.aud_client.specs.TapPackets.{messages_at}
use Rattle.aud_refusals.specs.NoPacket.{messages_before}
use Rattle.aud_refusals.specs.Private.Fed.{Passes}
use Rattle.aud_refusals.proofs.Feeding.{Passes-append}
use Rattle.aud_refusals.proofs.before.assembler_after.Goals as goal

pub loop-rec-preserved : goal.loop-rec-preserved
loop-rec-preserved c =
    let i = c.loop-rec.rec-index in
    let rec = c.rec-item.result in
    let front = take i c.args.recs.now in
    let more : take (i + 1) c.args.recs.now ≡ front ++ rec ∷ [] = take_more c.args.recs.now i rec c.loop-rec-test.true ∙ ap (λ r. front ++ r ∷ []) (sym c.rec-item.is) in
    subst (λ (ms : List (ℕ × Message)). Passes [] ms c.pass.new.assembler)
    (sym (ap messages_before more ∙ flat_map-append (λ r. messages_at (0, r)) front (rec ∷ []) ∙ ap (λ ms. messages_before front ++ ms) (append-nil (messages_at (0, rec)))))
    (Passes-append [] c.loop-rec.assembler c.pass.new.assembler (messages_before front) (messages_at (0, rec)) c.loop-rec.invariant c.in_ok-pass.ensures)
