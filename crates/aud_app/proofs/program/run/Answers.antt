use Rattle.std.proofs.Common.{rules}
use Rattle.aud_base.specs.Watched.{inner_of}
use Rattle.std.specs.Io.KnownBytes.{Appends}
use Rattle.aud_app.specs.Output.{IsOutputOf}
use Rattle.aud_base.specs.Written.{AppendsFront}
use Rattle.aud_app.proofs.Pieces.{output_read}
use Rattle.aud_app.proofs.EveryRun.{audit_holds, whole_audit_holds}
use Rattle.aud_app.proofs.program.run.Goals as goal

pub returns-clause-ok : goal.returns-clause-ok
returns-clause-ok g c =
    let output = c.in_ok-status.field-0 in
    let of : IsOutputOf c.args.options.mode c.args.options.whole (g.R.Read.remaining (inner_of c.args.input.now)) output = output_read c.args.options.mode c.args.options.whole _ c.in_ok-read.read output (rw (← c.layout_of.ensures) c.in_ok-read.ensures.input) c.in_ok-status.ensures.output in
    let appends : Appends (g.W.Write.contents (inner_of c.args.output.now)) (g.W.Write.contents (inner_of c.write_out.new.output)) output.text = search rules in
    (output, of, search rules, appends)

pub returns-clause-every_run : goal.returns-clause-every_run
returns-clause-every_run g c = λ audit. audit_holds c.args.options.mode c.args.options.whole audit _ _ _ _ (returns-clause-ok g c)

pub returns-clause-whole : goal.returns-clause-whole
returns-clause-whole g c = λ audit asked. whole_audit_holds c.args.options.mode c.args.options.whole audit asked _ _ _ _ (returns-clause-ok g c)

pub returns-in_err-write_out-clause-front : goal.returns-in_err-write_out-clause-front
returns-in_err-write_out-clause-front g c = λ write.
    let output = c.in_ok-status.field-0 in
    let of : IsOutputOf c.args.options.mode c.args.options.whole (g.R.Read.remaining (inner_of c.args.input.now)) output = output_read c.args.options.mode c.args.options.whole _ c.in_ok-read.read output (rw (← c.layout_of.ensures) c.in_ok-read.ensures.input) c.in_ok-status.ensures.output in
    let front : AppendsFront (g.W.Write.contents (inner_of c.args.output.now)) (g.W.Write.contents (inner_of c.write_out.new.output)) output.text = search rules in
    (output, of, front)
