use Rattle.std.proofs.Common.{refl}
use Rattle.aud_input.specs.declared.refusal.Refusal.{Refusal}
use Rattle.aud_input.proofs.Files.{refusal-of}
use Rattle.aud_input.proofs.reading.refusal.Goals as goal

pub returns : goal.returns
returns c =
    let line = c.in_ok-line.line in
    let header = c.in_ok-line.header in
    let told : Refusal = record { number = c.args.number; code = c.args.code; at = c.file_line.result; line = line; header = header; header_at = c.header_stands.result } in
    record { refused = λ text read. refusal-of text c.args.counts.now c.args.reader c.args.number c.args.code told c.requires.refused read refl refl c.file_line.ensures c.in_ok-line.ensures.line c.in_ok-line.ensures.header c.header_stands.ensures }
