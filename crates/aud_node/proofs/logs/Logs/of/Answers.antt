use Rattle.std.proofs.Common.{◌∙◌, [], ap}
use Rattle.std.specs.List.{flat_map}
use Rattle.aud_base.specs.FirstTexts.{with_texts}
use Rattle.aud_node.specs.Private.NodePids.{log_pids, places_naming}
use Rattle.aud_node.proofs.NodePids.{named-kept, naming-kept}
use Rattle.aud_node.proofs.logs.Logs.of.Goals as goal

pub invariant_of-result : goal.invariant_of-result
invariant_of-result c =
    let taps = c.args.taps.now in
    let logs = c.args.nodes.items in
    record {
      places_are = c.in_ok-names.ensures;
      place_is = c.place_of_stream.ensures;
      stream_is = c.requires.stream;
      nodes_are = c.requires.nodes;
      own_are = λ pid. c.in_ok-own.ensures.places pid ∙ ap (λ ls. places_naming ls pid) c.deref.ensures.value ∙ naming-kept c.args.stream taps logs pid c.requires.nodes;
      pids_are = c.in_ok-own.ensures.pids ∙ ap (λ ls. with_texts [] (flat_map log_pids ls)) c.deref.ensures.value ∙ named-kept c.args.stream taps logs c.requires.nodes;
    }
