use Rattle.std.proofs.Common.{ap, ◌∙◌, bytes_eq, Some}
use Rattle.std.specs.List.{list_any}
use Rattle.aud_base.specs.FirstTexts.{with_texts}
use Rattle.aud_base.specs.Places.{noted, places_of, texts_of}
use Rattle.aud_base.proofs.FirstTexts.{with_texts-once}
use Rattle.aud_node.proofs.NodePids.{any-named-once}
use Rattle.aud_node.specs.Private.NodePids.{log_pids}
use Rattle.aud_node.proofs.by_name.note_node.Goals as goal

pub returns-in_ok-note_pids-in-Some-clause-places : goal.returns-in_ok-note_pids-in-Some-clause-places
returns-in_ok-note_pids-in-Some-clause-places c = λ q.
    rw c.in-Some.is
    (c.in_ok-note_pids-in-Some.ensures.places q
    ∙ ap (λ b. noted c.args.place b (places_of c.args.places.now q)) (ap (list_any (λ t. bytes_eq t q)) c.pids.ensures ∙ any-named-once q c.in-Some.log.now.recs))

pub returns-in_ok-note_pids-in-Some-clause-pids : goal.returns-in_ok-note_pids-in-Some-clause-pids
returns-in_ok-note_pids-in-Some-clause-pids c =
    rw c.in-Some.is
    (c.in_ok-note_pids-in-Some.ensures.pids ∙ ap (with_texts (texts_of c.args.places.now)) c.pids.ensures
    ∙ with_texts-once (texts_of c.args.places.now) (log_pids (Some c.in-Some.log.now)))
