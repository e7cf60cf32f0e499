use Rattle.std.proofs.Common.{◌≡◌, ◌<◌, ◌++◌, ◌∷◌, [], length, arith, rules}
use Rattle.aud_base.specs.Watched.{inner_of}
use Rattle.aud_input.proofs.Files.{lefts-all, lefts_read, no_memory, one_more, rest_kept, told_more, told_same}
use Rattle.aud_input.proofs.reading.read_all.Goals as goal

pub files-preserved : goal.files-preserved
files-preserved g c =
    let place = c.files.place in
    let before = c.files.invariant.read in
    let read = c.in-Ok.ensures.read in
    let within : place < length c.args.files.now = omega arith in
    let lefts = lefts_read g.R.Read.remaining c.args.files.now c.files.files place c.index-files-place.result c.files.invariant.rest within c.index-files-place.is in
    let told = told_same g.R.Read.remaining c.index-files-place.result _ read.0 c.index-files-place.is read.1 in
    record {
      within = c.in_ok-end_file.ensures.within;
      room = search rules;
      rest = rest_kept c.args.files.now c.files.files place c.read_file.new.file c.files.invariant.rest;
      read = (
        before.0 ++ read.0 ∷ [],
        rw lefts (told_more _ before.0 (g.R.Read.remaining (inner_of c.index-files-place.result)) read.0 before.1 told),
        rw (c.in_ok-end_file.ensures.counts, c.lines-before.ensures) (one_more before.0 c.files.counts.items read.0 c.files.feeding c.read_file.new.feeding c.end_file.new.feeding before.2 read.2 c.in_ok-end_file.ensures.ended),
      );
    }

pub returns-in_err-end_file-clause-unread : goal.returns-in_err-end_file-clause-unread
returns-in_err-end_file-clause-unread g c =
    let within : c.files.place < length c.args.files.now = omega arith in
    no_memory (length c.args.files.now) c.files.place c.from_residual.result within c.from_residual.ensures.1

pub returns-clause-read : goal.returns-clause-read
returns-clause-read g c =
    let at : c.files.place ≡ length c.args.files.now = omega (arith, c.files-test.false, c.files.auto.place-end) in
    lefts-all g.R.Read.remaining c.args.files.now c.files.counts.items c.files.feeding c.files.place at c.files.invariant.read
