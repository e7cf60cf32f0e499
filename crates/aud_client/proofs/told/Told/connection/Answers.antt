use Rattle.std.proofs.Common.{◌++◌, sym, ap, ◌∙◌, subst, append-nil, arith}
use Rattle.std.specs.Option.{option_or}
use Rattle.aud_client.specs.TapPackets.{numbered_records}
use Rattle.aud_client.specs.Received.{stays_of}
use Rattle.aud_client.specs.StayPlaces.{places_in}
use Rattle.aud_client.specs.Private.ConnectionRead.{inside}
use Rattle.aud_client.specs.Private.ClientRead.{cut_seen}
use Rattle.aud_client.specs.Private.Told.{HasKept}
use Rattle.aud_client.proofs.ClientLemmas.{bad-given}
use Rattle.aud_client.proofs.KeptRecords.{HasKept-none, HasKept-all, HasKept-places}
use Rattle.aud_client.proofs.told.Told.connection.Goals as goal

pub returns-clause-stays : goal.returns-clause-stays
returns-clause-stays c =
    let stream = c.args.stream.now in
    let done = c.args.self.now.stays.stays.items in
    let told = c.args.self.now.stays.places.items in
    let inside_them = inside c.args.recs.now in
    let none = HasKept-none stream c.args.c c.args.first done told c.new-reader.result c.begin_connection.new.self c.new-reader.ensures.assembler c.new-reader.ensures.packets c.new-reader.ensures.bad (c.begin_connection.ensures stream c.args.c) in
    HasKept-all stream c.args.c c.args.first done told inside_them c.read_records.new.reader c.read_records.new.stays (subst (λ r. HasKept stream c.args.c c.args.first done told r c.read_records.new.reader c.read_records.new.stays) c.inside.ensures.value (c.in_ok-read_records.ensures done told none))
    ∙ ap (λ ss. done ++ ss) (sym (append-nil (stays_of stream (cut_seen (c.args.c, numbered_records c.args.first inside_them)))))

pub returns-clause-places : goal.returns-clause-places
returns-clause-places c =
    let stream = c.args.stream.now in
    let done = c.args.self.now.stays.stays.items in
    let told = c.args.self.now.stays.places.items in
    let inside_them = inside c.args.recs.now in
    let none = HasKept-none stream c.args.c c.args.first done told c.new-reader.result c.begin_connection.new.self c.new-reader.ensures.assembler c.new-reader.ensures.packets c.new-reader.ensures.bad (c.begin_connection.ensures stream c.args.c) in
    HasKept-places stream c.args.c c.args.first done told inside_them c.read_records.new.reader c.read_records.new.stays (subst (λ r. HasKept stream c.args.c c.args.first done told r c.read_records.new.reader c.read_records.new.stays) c.inside.ensures.value (c.in_ok-read_records.ensures done told none))
    ∙ ap (λ ss. told ++ ss) (sym (append-nil (places_in stream (cut_seen (c.args.c, numbered_records c.args.first inside_them)))))

pub returns-clause-bad : goal.returns-clause-bad
returns-clause-bad c =
    let stream = c.args.stream.now in
    let done = c.args.self.now.stays.stays.items in
    let told = c.args.self.now.stays.places.items in
    let none = HasKept-none stream c.args.c c.args.first done told c.new-reader.result c.begin_connection.new.self c.new-reader.ensures.assembler c.new-reader.ensures.packets c.new-reader.ensures.bad (c.begin_connection.ensures stream c.args.c) in
    let kept = subst (λ r. HasKept stream c.args.c c.args.first done told r c.read_records.new.reader c.read_records.new.stays) c.inside.ensures.value (c.in_ok-read_records.ensures done told none) in
    c.or-self.ensures ∙ ap (option_or c.args.self.now.bad) (bad-given c.args.first (inside c.args.recs.now) kept.packets c.read_records.new.reader kept.given)

pub read_records-requires : goal.read_records-requires
read_records-requires c =
    omega (arith, c.inside.ensures.short, c.requires.fits)
