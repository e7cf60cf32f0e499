use Rattle.std.proofs.Common.{◌≡◌, true, false, Some, ap, length, refl, slice_get, sym, subst, take, ◌∙◌, arith}
use Rattle.std.proofs.lemmas.Bool.Decides.{nat_tests}
use Rattle.std.proofs.lemmas.Option.{get_or_from_slice_get, slice_get_read}
use Rattle.aud_parts.specs.declared.clients.ClientsReading.{ClientsReading}
use Rattle.aud_parts.specs.ClientsRead.{others_among}
use Rattle.aud_parts.specs.PartLines.{is_server_at}
use Rattle.aud_parts.specs.TapRuns.{MayBeRead}
use Rattle.aud_parts.specs.Private.ClientSteps.{AreSoFar}
use Rattle.aud_parts.proofs.ClientsLemmas.{others-client, others-server}
use Rattle.aud_parts.proofs.clients.read_clients.Goals.{then-not-is_server+in_ok-next, else-not-is_server}
use Rattle.aud_parts.proofs.clients.read_clients.Goals as goal

pub loop-place-preserved : goal.loop-place-preserved
loop-place-preserved g c =
    let taps = c.args.indexed.now.taps.now in
    let kinds = c.args.indexed.now.kinds.now in
    let i = c.loop-place.place in
    let tap = c.tap-item.result in
    let before = c.loop-place.invariant in
    let within = c.loop-place-test.true in
    let at : slice_get taps i ≡ Some tap = slice_get_read taps (length taps) i tap refl within c.tap-item.is in
    elim c.if-not-is_server.branch [
      | then-not-is_server+in_ok-next w ↦ record {
        source = ap g.S.RunSource.files w.source-is ∙ w.in_ok-next.ensures.source ∙ before.source;
        stream = ap (λ (r : ClientsReading). r.stream.now) w.reading-is ∙ ap (λ s. s.now) w.in_ok-next.ensures.stream ∙ before.stream;
        told = λ files known may are.
            let client : is_server_at kinds i ≡ false = grind (arith, nat_tests, c.is_server.ensures, w.if-not-is_server.true) in
            rw w.reading-is
            (subst (λ ts. AreSoFar files ts w.next.new.self) (sym (others-client files taps kinds are i tap at within client))
            (w.in_ok-next.ensures.told files (others_among files (take i taps)) (before.source ∙ known) (subst (MayBeRead files) (get_or_from_slice_get taps i tap tap at) (may i tap within))
            (before.told files known may are)));
      }
      | else-not-is_server w ↦ record {
        source = ap g.S.RunSource.files w.source-is ∙ before.source;
        stream = ap (λ (r : ClientsReading). r.stream.now) w.reading-is ∙ before.stream;
        told = λ files known may are.
            let server : is_server_at kinds i ≡ true = grind (arith, nat_tests, c.is_server.ensures, w.if-not-is_server.false) in
            rw w.reading-is (subst (λ ts. AreSoFar files ts c.loop-place.reading) (sym (others-server files taps kinds are i tap at within server)) (before.told files known may are));
      }
    ]
