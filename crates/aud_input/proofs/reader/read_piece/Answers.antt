use Rattle.std.proofs.Common.{None, Some, sym}
use Rattle.std.proofs.lemmas.Option.{none-some}
use Rattle.aud_input.specs.Private.Going.{Cuts, Notes}
use Rattle.aud_input.proofs.GivenLemmas.{holds-long, holds-none, holds-some, in-front, piece_read}
use Rattle.aud_input.proofs.reader.read_piece.Goals as goal

pub returns-in-Err-clause-lines : goal.returns-in-Err-clause-lines
returns-in-Err-clause-lines g c = λ other bytes has.
    let both = c.cut_and_read-cut in
    let cut : Cuts c.args.splitter.now both.new.splitter c.args.piece.now c.in_ok-too_long.too_long = rw c.in_ok-too_long.was at both.ensures.cut in
    let notes : Notes c.args.index.now both.new.index both.new.splitter.waiting = rw c.in_ok-too_long.was at both.ensures.noted in
    piece_read bytes c.args.piece.now c.args.splitter.now both.new.splitter both.new.splitter c.args.parts.now both.new.parts both.new.parts c.args.index.now both.new.index c.in_ok-too_long.too_long (Some c.in-Err.fault)
    cut notes (λ none. absurd (none-some c.in-Err.fault (sym none))) both.ensures.read.waits (λ line is. in-front both.new.parts.waiting both.new.splitter.waiting line is)
    (holds-some both.new.parts.waiting c.in-Err.fault (rw c.in-Err.is at both.ensures.read.held)) has

pub returns-in-Err-take_lines-clause-lines : goal.returns-in-Err-take_lines-clause-lines
returns-in-Err-take_lines-clause-lines g c = λ other bytes has.
    let both = c.cut_and_read-cut in
    let fault = c.in-Err-take_lines.fault in
    let cut : Cuts c.args.splitter.now both.new.splitter c.args.piece.now c.in_ok-too_long.too_long = rw c.in_ok-too_long.was at both.ensures.cut in
    let notes : Notes c.args.index.now both.new.index both.new.splitter.waiting = rw c.in_ok-too_long.was at both.ensures.noted in
    piece_read bytes c.args.piece.now c.args.splitter.now both.new.splitter c.take_lines.new.cut c.args.parts.now both.new.parts c.take_lines.new.self c.args.index.now both.new.index c.in_ok-too_long.too_long (Some fault)
    cut notes (λ none. absurd (none-some fault (sym none))) both.ensures.read.waits (c.in-Err-take_lines.ensures.waits other) (holds-some c.take_lines.new.self.waiting fault c.in-Err-take_lines.ensures.held) has

pub returns-in-None-clause-lines : goal.returns-in-None-clause-lines
returns-in-None-clause-lines g c = λ other bytes has.
    let both = c.cut_and_read-cut in
    let cut : Cuts c.args.splitter.now both.new.splitter c.args.piece.now c.in_ok-too_long.too_long = rw c.in_ok-too_long.was at both.ensures.cut in
    let notes : Notes c.args.index.now both.new.index both.new.splitter.waiting = rw c.in_ok-too_long.was at both.ensures.noted in
    piece_read bytes c.args.piece.now c.args.splitter.now both.new.splitter c.take_lines.new.cut c.args.parts.now both.new.parts c.take_lines.new.self c.args.index.now both.new.index c.in_ok-too_long.too_long None
    cut notes (λ none. (c.in-None.is, c.in-Ok-take_lines.ensures.cut)) both.ensures.read.waits (c.in-Ok-take_lines.ensures.waits (λ e. cc)) (holds-none c.take_lines.new.self.waiting) has

pub returns-in-Ok-read_waiting-clause-lines : goal.returns-in-Ok-read_waiting-clause-lines
returns-in-Ok-read_waiting-clause-lines g c = λ other bytes has.
    let both = c.cut_and_read-cut in
    let fault = c.in-Some.fault in
    let cut : Cuts c.args.splitter.now both.new.splitter c.args.piece.now c.in_ok-too_long.too_long = rw c.in_ok-too_long.was at both.ensures.cut in
    let notes : Notes c.args.index.now both.new.index both.new.splitter.waiting = rw c.in_ok-too_long.was at both.ensures.noted in
    piece_read bytes c.args.piece.now c.args.splitter.now both.new.splitter c.take_lines.new.cut c.args.parts.now both.new.parts c.read_waiting.new.self c.args.index.now both.new.index c.in_ok-too_long.too_long (Some fault)
    cut notes (λ none. absurd (none-some fault (sym none))) both.ensures.read.waits (λ line is. c.in-Ok-take_lines.ensures.waits (λ e. cc) line (c.in-Ok-read_waiting.ensures.waits line is))
    (holds-long c.read_waiting.new.self.waiting c.args.splitter.now both.new.splitter c.args.piece.now fault c.requires.going.cuts (rw c.in-Some.is at cut)) has

pub returns-in-Err-read_waiting-clause-lines : goal.returns-in-Err-read_waiting-clause-lines
returns-in-Err-read_waiting-clause-lines g c = λ other bytes has.
    let both = c.cut_and_read-cut in
    let fault = c.in-Err-read_waiting.earlier in
    let cut : Cuts c.args.splitter.now both.new.splitter c.args.piece.now c.in_ok-too_long.too_long = rw c.in_ok-too_long.was at both.ensures.cut in
    let notes : Notes c.args.index.now both.new.index both.new.splitter.waiting = rw c.in_ok-too_long.was at both.ensures.noted in
    piece_read bytes c.args.piece.now c.args.splitter.now both.new.splitter c.take_lines.new.cut c.args.parts.now both.new.parts c.read_waiting.new.self c.args.index.now both.new.index c.in_ok-too_long.too_long (Some fault)
    cut notes (λ none. absurd (none-some fault (sym none))) both.ensures.read.waits (λ line is. c.in-Ok-take_lines.ensures.waits (λ e. cc) line (c.in-Err-read_waiting.ensures.waits line is))
    (holds-some c.read_waiting.new.self.waiting fault c.in-Err-read_waiting.ensures.held) has
