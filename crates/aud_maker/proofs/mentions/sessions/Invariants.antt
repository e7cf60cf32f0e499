use Rattle.std.proofs.Common.{◌≡◌, [], take, flat_map}
use Rattle.aud_base.specs.FirstTexts.{with_texts}
use Rattle.aud_node.specs.NamedPids.{named_pids}
use Rattle.aud_node.specs.NodeTaps.{client_recs}
use Rattle.aud_maker.specs.Sessions.{node_pids, reply_pids}
use Rattle.aud_maker.proofs.mentions.sessions.Given as goal

abbrev pub invariant-loop-number : goal.invariant-loop-number
invariant-loop-number l = l.mentioned ≡ with_texts [] (take l.number (named_pids l.recording.taps))

abbrev pub invariant-loop-place : goal.invariant-loop-place
invariant-loop-place l =
    l.mentioned ≡ with_texts (with_texts [] (flat_map node_pids l.recording.taps)) (flat_map (λ tap. reply_pids l.recording.stream (client_recs tap)) (take l.place l.recording.taps))
