use Rattle.std.proofs.Common.{subst}
use Rattle.std.proofs.lemmas.Result.{on_ok_weaker}
use Rattle.aud_client.specs.Private.ConnectionRead.{ReadsRecord}
use Rattle.aud_client.proofs.KeptRecords.{HasKept-more}
use Rattle.aud_client.proofs.told.read_record.Goals as goal

pub returns : goal.returns
returns c = λ first done told recs number held.
    let old = c.args.reader.now in
    let read = c.read.new.self in
    on_ok_weaker c.packets.result
    (λ keeps. HasKept-more c.args.stream.now c.args.c first done told recs c.args.rec.now old read c.take_packets.new.self c.take_packets.result.items c.args.stays.now c.packets.new.self held
    (subst (λ n. ReadsRecord n c.args.rec.now old read) number c.in_ok-read.ensures)
    c.take_packets.ensures.packets c.take_packets.ensures.rest c.take_packets.ensures.assembler c.take_packets.ensures.bad keeps)
    (c.packets.ensures done told held.packets held.keeps)
