use Rattle.std.proofs.lemmas.Result.{IfOk-weaker}
use Rattle.aud_writer.proofs.line.line_bytes.Goals as goal

pub returns : goal.returns
returns c =
    let shows = c.in_ok-value.ensures.data in
    record {
      bytes = c.value_line.ensures.bytes c.args.rec.now shows;
      reads = c.value_line.ensures.reads c.args.rec.now shows;
      back = IfOk-weaker c.value_line.result _ _ (λ line reads. c.in_ok-value.ensures.back) (c.value_line.ensures.reads c.args.rec.now shows);
    }
