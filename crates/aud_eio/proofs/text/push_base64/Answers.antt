use Rattle.std.proofs.Common.{refl, arith}
use Rattle.base64.specs.Engines.{standard}
use Rattle.base64.proofs.EngineFacts.{decode_of-encode_of}
use Rattle.aud_eio.proofs.text.push_base64.Goals as goal

pub returns-clause-reads_back : goal.returns-clause-reads_back
returns-clause-reads_back c = decode_of-encode_of standard c.args.bytes.now refl (λ i. let f = c.type_inv.bytes i in omega arith)

pub returns-in_err-push-clause-reads_back : goal.returns-in_err-push-clause-reads_back
returns-in_err-push-clause-reads_back c = decode_of-encode_of standard c.args.bytes.now refl (λ i. let f = c.type_inv.bytes i in omega arith)
