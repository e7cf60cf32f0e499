use Rattle.std.proofs.Common.{◌≡◌, ◌+◌, ◌++◌, Some, length, slice_get, ap, refl, sym, ◌∙◌, subst, arith, append-nil}
use Rattle.std.specs.Io.KnownBytes.{Appends}
use Rattle.std.proofs.KnownBytes.{Appends-nil}
use Rattle.std.proofs.lemmas.Option.{get_or_from_slice_get, slice_get_read}
use Rattle.aud_base.specs.Watched.{inner_of}
use Rattle.aud_input.specs.LineRuns.{lines_of_runs}
use Rattle.aud_parts.specs.PartLines.{no_part, part_of_client, part_of_server}
use Rattle.aud_parts.specs.TapRuns.{MayBeRead}
use Rattle.aud_parts.proofs.PartLinesLemmas.{from-client, from-other, from-server, number-client, number-server, tap-more}
use Rattle.aud_parts.proofs.part.text.Planned.write.Goals.{then-is_server+in_ok-write_server, else-is_server, then-has_client+in_ok-write_client, else-has_client}
use Rattle.aud_parts.proofs.part.text.Planned.write.Goals as goal

pub loop-place-preserved : goal.loop-place-preserved
loop-place-preserved g c =
    let servers = c.args.servers.now in
    let plan = c.args.self.now.plan.now in
    let part = c.args.part in
    let kinds = c.args.indexed.now.kinds.now in
    let taps = c.args.indexed.now.taps.now in
    let i = c.loop-place.place in
    let n = c.loop-place.client in
    let tap = c.tap-item.result in
    let before = c.loop-place.invariant in
    let at : slice_get taps i ≡ Some tap = slice_get_read taps (length taps) i tap refl c.loop-place-test.true c.tap-item.is in
    elim c.if-is_server.branch [
      | then-is_server+in_ok-write_server w ↦ record {
        source = ap g.S.RunSource.files w.source-is ∙ before.source;
        clients = grind (arith, w.client-is, before.clients);
        number = w.client-is ∙ before.number ∙ sym (number-server kinds i (sym c.is_server.ensures ∙ w.if-is_server.true));
        written = λ files known readable.
            rw (w.output-is, w.runs-is)
            (tap-more _ _ _ (part_of_server servers tap.name) _ _ _ _ _ (before.written files known readable)
            (from-server files servers plan part kinds taps i tap at (sym c.is_server.ensures ∙ w.if-is_server.true))
            (subst (λ name. Appends (g.W.Write.contents (inner_of c.loop-place.output)) (g.W.Write.contents (inner_of w.write_server.new.output)) (part_of_server servers name).text) w.name.ensures.value w.in_ok-write_server.ensures.text)
            (w.in_ok-write_server.ensures.lines ∙ ap (λ name. lines_of_runs c.loop-place.runs ++ (part_of_server servers name).numbers) w.name.ensures.value));
      }
      | else-is_server w ↦
          let client = sym c.is_server.ensures ∙ w.if-is_server.false in
          elim w.if-has_client.branch [
            | then-has_client+in_ok-write_client v ↦ record {
              source = ap g.S.RunSource.files (w.source-is ∙ v.source-is) ∙ v.in_ok-write_client.ensures.source ∙ before.source;
              clients = grind (arith, w.client-is, before.clients);
              number = w.client-is ∙ ap (λ k. k + 1) before.number ∙ sym (number-client kinds i client);
              written = λ files known readable.
                  let own = (subst (MayBeRead files) (get_or_from_slice_get taps i tap tap at) (readable i tap c.loop-place-test.true)).readable in
                  rw (w.output-is, v.output-is, w.runs-is, v.runs-is)
                  (tap-more _ _ _ (part_of_client files tap) _ _ _ _ _ (before.written files known readable)
                  (from-client files servers plan part kinds taps i tap at n before.number client (sym w.has_client.ensures ∙ v.if-has_client.true))
                  (v.in_ok-write_client.ensures.text files (before.source ∙ known) own)
                  (v.in_ok-write_client.ensures.lines files (before.source ∙ known) own));
            }
            | else-has_client v ↦ record {
              source = ap g.S.RunSource.files (w.source-is ∙ v.source-is) ∙ before.source;
              clients = grind (arith, w.client-is, before.clients);
              number = w.client-is ∙ ap (λ k. k + 1) before.number ∙ sym (number-client kinds i client);
              written = λ files known readable.
                  rw (w.output-is, v.output-is, w.runs-is, v.runs-is)
                  (tap-more _ _ _ no_part _ _ _ _ _ (before.written files known readable)
                  (from-other files servers plan part kinds taps i tap at n before.number client (sym w.has_client.ensures ∙ v.if-has_client.false))
                  (Appends-nil _)
                  (sym (append-nil (lines_of_runs c.loop-place.runs))));
            }
          ]
    ]
