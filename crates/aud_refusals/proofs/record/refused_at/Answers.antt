use Rattle.std.proofs.Common.{◌∙◌, ap, drop, sym}
use Rattle.std.specs.Option.{option_copied}
use Rattle.aud_base.proofs.Lists.{got}
use Rattle.aud_refusals.specs.NoPacket.{refused_at}
use Rattle.aud_refusals.specs.Private.Fed.{refused_to}
use Rattle.aud_refusals.proofs.Records.{found-is, record-of}
use Rattle.aud_refusals.proofs.record.refused_at.Goals as goal

pub returns : goal.returns
returns c =
    let held = c.in_ok-assembler.assembler in
    let same = record-of c.args.recs.now c.args.number c.in-Some.rec.now c.split_at.result.0.now c.split_at-2.result.1.now held
    (sym (got c.args.recs.now c.args.number c.get.result c.get.ensures.lookup.3) ∙ ap option_copied c.in-Some.is)
    c.split_at.ensures.front
    (c.split_at-2.ensures.back ∙ ap (λ n. drop n c.split_at.result.0.now) c.begin_of.ensures.begin)
    c.in_ok-assembler.ensures in
    found-is c.refusal_of.result (refused_to held c.in-Some.rec.now) (refused_at c.args.recs.now c.args.number) same c.refusal_of.ensures
