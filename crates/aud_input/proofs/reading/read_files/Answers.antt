use Rattle.std.proofs.Common.{refl}
use Rattle.aud_input.proofs.Files.{recorded, unread_one, unrecorded}
use Rattle.aud_input.proofs.reading.read_files.Goals as goal

pub returns-in-Ok-clause-recorded : goal.returns-in-Ok-clause-recorded
returns-in-Ok-clause-recorded g c = recorded _ c.in-Ok.counts.items c.read_all.new.feeding c.finish.result c.in-Ok.ensures.read c.finish.ensures.recorded c.finish.ensures.bytes c.finish.ensures.counts

pub returns-in-Ok-clause-unrecorded : goal.returns-in-Ok-clause-unrecorded
returns-in-Ok-clause-unrecorded g c =
    unrecorded _ c.in-Ok.counts.items c.in-Ok.counts.items c.read_all.new.feeding c.finish.result c.in-Ok.ensures.read refl c.finish.ensures.refused

pub returns-in-Err-clause-unrecorded : goal.returns-in-Err-clause-unrecorded
returns-in-Err-clause-unrecorded g c =
    let told = c.in-Err.ensures.unread in
    unread_one g.R.Read.remaining c.args.files.now c.in-Err.fault told.0 told.1 told.2

pub read_all-requires-clause-begins : goal.read_all-requires-clause-begins
read_all-requires-clause-begins g c = λ κs lives. rw c.new-feeding.ensures.reader (record { input = c.indexed.ensures.input; lines = c.indexed.ensures.lines })
