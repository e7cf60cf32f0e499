use Rattle.std.proofs.Common.{arith}
use Rattle.std.proofs.lemmas.Result.{IfOk-weaker}
use Rattle.aud_writer.proofs.WrittenBack.{decoded-encoded}
use Rattle.aud_wire.proofs.socket.encoded.Goals as goal

pub returns-clause-back : goal.returns-clause-back
returns-clause-back c = IfOk-weaker c.encode.result _ _ (λ text is. decoded-encoded c.args.bytes.now (λ i. let fits = c.type_inv.bytes i in omega arith)) c.encode.ensures.text
