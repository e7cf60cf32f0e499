use Rattle.std.proofs.Common.{◌≡◌, slice_get, refl, Some}
use Rattle.aud_tap.specs.declared.records.StreamRec.{StreamRec}
use Rattle.aud_node.specs.Addressees.{excepts_room, is_excepting, is_to_all, is_to_room, names_no_room, names_room}
use Rattle.aud_node.specs.Private.AddresseeIndex.{kept_of, kept_to_room}
use Rattle.aud_node.proofs.AddresseeLemmas.{flag-read, noted-entry}
use Rattle.aud_node.proofs.addressees.Addressees.build.Goals as goal

pub loop-i-preserved : goal.loop-i-preserved
loop-i-preserved c =
    let i = c.loop-i.i in
    let stream = c.args.entries.now in
    let e = c.at.result.now in
    let here : slice_get stream i ≡ Some e = c.at.ensures.value in
    let was = c.loop-i.addressees in
    let flag = flag-read stream c.args.recoverable.now i e c.requires here in
    record {
      rooms = λ nsp room.
          noted-entry stream (λ o. is_to_room o nsp room) (λ (x : StreamRec). names_room x nsp room) i e _ (kept_to_room was nsp room) _
          refl refl here flag (c.loop-i.invariant.rooms nsp room) (c.in_ok-note.ensures.rooms nsp room);
      everyone = λ nsp.
          noted-entry stream (λ o. is_to_all o nsp) (λ (x : StreamRec). names_no_room x nsp) i e _ (kept_of was.everyone nsp) _
          refl refl here flag (c.loop-i.invariant.everyone nsp) (c.in_ok-note.ensures.everyone nsp);
      excepted = λ room.
          noted-entry stream (λ o. is_excepting o room) (λ (x : StreamRec). excepts_room x room) i e _ (kept_of was.excepted room) _
          refl refl here flag (c.loop-i.invariant.excepted room) (c.in_ok-note.ensures.excepted room);
    }
