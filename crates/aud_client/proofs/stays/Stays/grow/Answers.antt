use Rattle.std.proofs.Common.{◌∙◌, ap, set, slice_get}
use Rattle.std.proofs.lemmas.Result.{on_ok_weaker}
use Rattle.aud_client.specs.Seen.{packet_seen, placed_seen}
use Rattle.aud_client.specs.Private.Kept.{part_of, with_part}
use Rattle.aud_client.proofs.Kept.{always}
use Rattle.aud_client.proofs.TellingPlaces.{grown_by}
use Rattle.aud_client.proofs.stays.Stays.grow.Goals as goal

pub returns-clause-stays : goal.returns-clause-stays
returns-clause-stays c = λ s at. always c.note.result (c.note.ensures.stays ∙ c.in_ok-part.ensures.stays s at)

pub returns-clause-places : goal.returns-clause-places
returns-clause-places c = λ s t at there.
    let number = c.in_ok-short.short in
    let same = c.in_ok-part.ensures.places in
    let grows = ap (with_part t number) (c.in_ok-part.ensures.part s at) ∙ ap (λ n. with_part t n (part_of c.args.stream.now (packet_seen c.args.placed.packet))) c.in_ok-short.ensures ∙ grown_by c.args.stream.now t (placed_seen c.args.placed) in
    on_ok_weaker c.note.result
    (λ noted. noted ∙ ap (λ ts. set ts c.args.place (with_part t number c.in_ok-part.part)) same ∙ ap (set c.args.self.now.places.items c.args.place) grows)
    (c.note.ensures.places t (ap (λ ts. slice_get ts c.args.place) same ∙ there))
