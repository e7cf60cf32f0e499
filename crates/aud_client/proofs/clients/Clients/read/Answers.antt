use Rattle.std.proofs.Common.{ap, ◌∙◌}
use Rattle.aud_client.specs.Private.Clients.{naming_transcripts}
use Rattle.aud_client.proofs.ClientTaps.{places_naming}
use Rattle.aud_client.proofs.clients.Clients.read.Goals as goal

pub returns : goal.returns
returns g c =
    let kept = c.in_ok-transcripts.ensures in
    record {
      transcripts_are = kept;
      naming_are = λ pid. c.in_ok-naming.ensures pid ∙ ap (λ it. naming_transcripts it pid) c.as_slice.ensures.value ∙ places_naming c.args.logs.now c.in_ok-transcripts.transcripts.items pid kept;
    }
