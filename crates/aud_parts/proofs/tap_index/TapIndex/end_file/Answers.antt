use Rattle.std.proofs.Common.{arith}
use Rattle.aud_parts.specs.Private.IndexSteps.{HasEndedLast}
use Rattle.aud_parts.proofs.IndexLemmas.{counted-file, last-none, last-some, may-end, read-file}
use Rattle.aud_parts.proofs.PieceLemmas.{count-few}
use Rattle.aud_parts.proofs.tap_index.TapIndex.end_file.Goals as goal
use Rattle.aud_parts.proofs.tap_index.TapIndex.end_file.Goals.{else-self-gt0, then-self-gt0+in_ok-end_line}

pub returns : goal.returns
returns c = λ files bytes has counted.
    let small = counted-file files bytes counted in
    let s = c.args.self.now in
    let t = c.if-self-gt0.self in
    let read = has (omega (arith, small)) in
    let may = may-end s files bytes small read in
    let ended : HasEndedLast s t read.text =
    elim c.if-self-gt0.branch [
      | then-self-gt0+in_ok-end_line w ↦ rw w.self-is (last-some s w.end_line.new.self read.text w.if-self-gt0.true read.unended may (w.in_ok-end_line.ensures read.text may))
      | else-self-gt0 w ↦ rw w.self-is (last-none s read.text w.if-self-gt0.false may)
    ] in
    let few = count-few files in
    let was = read.file in
    let same = ended.file in
    read-file s t c.begin.new.self c.saturating_add-self.result files bytes read ended
    (omega (arith, c.saturating_add-self.ensures, small, few, was, same)) c.begin.ensures
