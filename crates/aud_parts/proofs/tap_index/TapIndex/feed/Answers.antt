use Rattle.std.proofs.Common.{◌++◌, ◌∷◌, [], arith, append_assoc, length, subst}
use Rattle.std.proofs.lemmas.Result.{on_ok_weaker}
use Rattle.aud_parts.specs.declared.tap_index.TapIndex.{TapIndex}
use Rattle.aud_parts.specs.IndexSoFar.{IsCounted, ReadSoFar, all_ended}
use Rattle.aud_parts.proofs.IndexLemmas.{counted-ended, counted-front, counted-left, counted-line, counted-text, fed-all, fed-line, fed-none, may-end, on_ok_later, read-front, read-line}
use Rattle.aud_parts.proofs.tap_index.TapIndex.feed.Goals as goal

pub lines-init : goal.lines-init
lines-init c = λ files bytes has counted. fed-none c.args.self.now files bytes c.args.piece.now (has (counted-front files bytes c.args.piece.now counted))

pub lines-preserved : goal.lines-preserved
lines-preserved c = λ files bytes has counted.
    let piece = c.args.piece.now in
    let left = c.lines.left.now in
    let front = c.in-Some.front.now in
    let others = c.in-Some.others.now in
    let f = c.lines.invariant files bytes has counted in
    let found = c.in-Some.ensures.found in
    let s = c.lines.self in
    let now : TapIndex = record s { begun = c.add.new.self } in
    let before = bytes ++ f.done in
    let more = counted-ended files before front (counted-line files bytes piece f.done left front others counted f.cut found.0) in
    let mid =
    read-front s c.add.new.self files before front found.1 f.read
    (c.in_ok-add.ensures (length (all_ended f.read.lines)) f.read.text (counted-text s files before front (omega (arith, more)) f.read) f.read.begun) in
    fed-line s c.end_line.new.self files bytes piece left front others found.0 f
    (subst (ReadSoFar c.end_line.new.self files) (append_assoc before front (10 ∷ []))
    (read-line now c.end_line.new.self files (before ++ front) mid (c.in_ok-end_line.ensures mid.text (may-end now files (before ++ front) more mid))))

pub returns : goal.returns
returns c = λ files bytes has.
    let s = c.lines.self in
    let now : TapIndex = record s { begun = c.add-2.new.self } in
    on_ok_later (IsCounted files (bytes ++ c.args.piece.now)) (ReadSoFar now files (bytes ++ c.args.piece.now)) c.add-2.result
    (λ counted.
    let piece = c.args.piece.now in
    let left = c.lines.left.now in
    let f = c.lines.invariant files bytes has counted in
    let read = f.read in
    on_ok_weaker c.add-2.result
    (λ begun. fed-all s now files bytes piece left f (read-front s c.add-2.new.self files (bytes ++ f.done) left c.in_default.ensures.none read begun))
    (c.add-2.ensures (length (all_ended read.lines)) read.text (counted-text s files (bytes ++ f.done) left (counted-left files bytes piece f.done left counted f.cut) read) read.begun))
