use Rattle.std.proofs.Common.{◌≡◌, true, length, nat_le, arith}
use Rattle.std.proofs.lemmas.Grind.{common_steps}
use Rattle.std.proofs.lemmas.Bool.Decides.{nat_tests}
use Rattle.aud_tap.specs.Limits.{max_line}
use Rattle.aud_writer.proofs.LineBack.{line-back}
use Rattle.aud_writer.proofs.line.write_line.Goals as goal

pub returns-clause-reads_back : goal.returns-clause-reads_back
returns-clause-reads_back c =
    let line = c.in_ok-line.ensures in
    let fit : nat_le (length c.in_ok-line.line.items) max_line ≡ true = grind (arith, nat_tests, common_steps) in
    rw line.bytes (line-back c.args.name.now c.args.rec.now c.requires.name c.requires.record (rw line.bytes at fit) line.reads line.back)
