-- The sessions that the logs mention, in the order of their first mentions.
use Rattle.std.specs.Prelude.{List, [], ◌++◌, flat_map, Option, Some, None}
use Rattle.std.specs.List.{filter_map}
use Rattle.std.specs.Option.{option_and_then}
use Rattle.aud_base.specs.FirstTexts.{first_texts}
use Rattle.aud_tap.specs.declared.records.StreamRec.{StreamRec}
use Rattle.aud_tap.specs.declared.records.ClientRec.{ClientRec}
use Rattle.aud_node.specs.Stream.{Text}
use Rattle.aud_node.specs.Cluster.{Cluster}
pub use Rattle.aud_node.specs.NamedPids.{node_pids}
use Rattle.aud_node.specs.NodeTaps.{client_recs}
use Rattle.aud_client.specs.StaySeen.{StaySeen}
use Rattle.aud_client.specs.Received.{transcript_of}

-- the session that the stay's reply names
abbrev pub stay_pid : StaySeen → Option Text
stay_pid stay = option_and_then (λ reply. reply.pid) stay.reply

-- the pids that the replies of a client's tap name, stay after stay
abbrev pub reply_pids : List StreamRec → Option (List ClientRec) → List Text
reply_pids stream None = []
reply_pids stream (Some recs) = filter_map stay_pid (transcript_of stream recs).stays

-- all mentions: in the nodes' taps, and then in the clients' taps
abbrev pub mentions : Cluster → List Text
mentions c = flat_map node_pids c.taps ++ flat_map (λ tap. reply_pids c.stream (client_recs tap)) c.taps

-- each session once, where it is first mentioned
abbrev pub sessions_of : Cluster → List Text
sessions_of c = first_texts (mentions c)
