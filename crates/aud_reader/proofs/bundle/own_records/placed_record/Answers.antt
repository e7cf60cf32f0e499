use Rattle.std.proofs.Common.{refl, sym}
use Rattle.aud_reader.proofs.bundle.own_records.placed_record.Goals as goal

pub returns-in-Some : goal.returns-in-Some
returns-in-Some c = c.at_place.ensures _ _ c.args.name.now (rw (c.in_ok-value_record.ensures.reads, c.in_ok-rec.ensures) refl) (sym c.in-Some.ensures)

pub returns-in-None : goal.returns-in-None
returns-in-None c = (c.args.name.now, rw (c.in_ok-value_record.ensures.reads, c.in_ok-rec.ensures) refl)
