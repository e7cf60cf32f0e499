use Rattle.std.proofs.Common.{◌≡◌, ◌<◌, ◌∙◌, ℕ, List, [], length, map, ap, sym, take, arith}
use Rattle.std.specs.List.{flat_map}
use Rattle.std.specs.String.{string_bytes}
use Rattle.std.proofs.lemmas.List.{take_all}
use Rattle.std.proofs.lemmas.Option.{get_or_from_slice_get}
use Rattle.std.proofs.lemmas.Result.{IfOk-weaker}
use Rattle.aud_base.specs.FirstTexts.{with_text, with_texts}
use Rattle.aud_base.proofs.FirstTexts.{first-texts, with_texts-append, with_texts-more, with_texts-once, with_texts-one}
use Rattle.aud_base.proofs.Lists.{element_at}
use Rattle.aud_tap.specs.declared.taps.Tap.{Tap}
use Rattle.aud_node.specs.NamedPids.{named_pids}
use Rattle.aud_node.specs.NodeTaps.{client_recs}
use Rattle.aud_maker.specs.Sessions.{node_pids, reply_pids, mentions, sessions_of}
use Rattle.aud_maker.proofs.mentions.sessions.Goals as goal

pub loop-number-preserved : goal.loop-number-preserved
loop-number-preserved c =
    let l = c.loop-number in
    let pids = named_pids c.args.recording.now.taps in
    let pid = c.named_pid.result.now in
    let count = rw c.logs-logs.ensures at c.named_count-number-end.ensures in
    let at = rw c.logs-logs.ensures at c.named_pid.ensures in
    let read = sym (get_or_from_slice_get pids l.number pid pid at) in
    c.in_ok-mention.ensures ∙ ap (λ ts. with_text ts pid) l.invariant ∙ with_texts-one [] pids l.number pid (omega (arith, count)) read

pub loop-place-init : goal.loop-place-init
loop-place-init c =
    let l = c.loop-number in
    let taps = c.args.recording.now.taps in
    let named = flat_map node_pids taps in
    let count = rw c.logs-logs.ensures at c.named_count-number-end.ensures in
    let all : take l.number (named_pids taps) ≡ named_pids taps = grind (arith, take_all l.number (named_pids taps), count) in
    l.invariant ∙ ap (with_texts []) (all ∙ sym (first-texts named)) ∙ with_texts-once [] named

pub loop-place-preserved : goal.loop-place-preserved
loop-place-preserved c =
    let stream = c.args.recording.now.stream in
    let taps = c.args.recording.now.taps in
    let place = c.loop-place.place in
    let h : place < length taps = grind arith in
    let (tap, at) = element_at taps place h in
    let read = get_or_from_slice_get taps place tap tap at in
    grind (arith, at, read, with_texts-more taps place tap h (sym read) (λ tap. reply_pids stream (client_recs tap)) (with_texts [] (flat_map node_pids taps)))

pub returns : goal.returns
returns c =
    let logs = c.args.recording.now in
    let replies : Tap → List (List ℕ) = λ tap. reply_pids logs.stream (client_recs tap) in
    let all : c.loop-place.mentioned ≡ sessions_of logs =
    grind (arith, take_all c.loop-place.place logs.taps, with_texts-append [] (flat_map node_pids logs.taps) (flat_map replies logs.taps), first-texts (mentions logs)) in
    IfOk-weaker c.into_pids.result
    (λ pids. map string_bytes pids.items ≡ c.loop-place.mentioned)
    (λ pids. map string_bytes pids.items ≡ sessions_of logs)
    (λ pids e. e ∙ all)
    c.into_pids.ensures
