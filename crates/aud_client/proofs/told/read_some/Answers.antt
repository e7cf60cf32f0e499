use Rattle.std.proofs.Common.{◌≡◌, ◌+◌, ◌∷◌, ◌++◌, [], ℕ, List, Some, take, length, slice_get, refl, sym, ap, ◌∙◌, subst, arith, append_assoc, length-append}
use Rattle.std.specs.Option.{IsSomeAnd}
use Rattle.std.proofs.lemmas.List.{take_more, length-take-le}
use Rattle.std.proofs.lemmas.Option.{MatchOption-at_some, slice_get_read}
use Rattle.std.proofs.lemmas.Slice.Zip.{AllZip-left, AllZip-long}
use Rattle.aud_tap.specs.declared.records.ClientRec.{ClientRec}
use Rattle.aud_client.specs.TapPackets.{FromServer}
use Rattle.aud_node.specs.Known.{spelled}
use Rattle.aud_client.specs.declared.connection.Reader.{Reader}
use Rattle.aud_client.specs.declared.stays.Stays.{Stays}
use Rattle.aud_client.specs.Private.Ahead.{Carries}
use Rattle.aud_client.specs.Private.Kept.{Keeps}
use Rattle.aud_client.specs.Private.Told.{HasKept}
use Rattle.aud_client.proofs.KeptRecords.{HasKept-known}
use Rattle.aud_client.proofs.told.read_some.Goals.{in-Some+in_ok-take_known-in-Some, in-None+in_ok-read_record-in-None}
use Rattle.aud_client.proofs.told.read_some.Goals as goal

pub index-requires : goal.index-requires
index-requires c =
    omega (arith, AllZip-long (Carries c.args.stream.now) c.args.some.now c.in_ok-known.known.items c.in_ok-known.ensures, c.in_ok-known.known.ok.0)

pub take_known-requires : goal.take_known-requires
take_known-requires c =
    let stream = c.args.stream.now in
    let some = c.args.some.now in
    let i = c.loop-i.i in
    let rec = c.index-some-i.result in
    let known = c.in_ok-known.known.items in
    let there : slice_get some i ≡ Some rec = slice_get_read some (length some) i rec refl (omega arith) c.index-some-i.is in
    let beside : slice_get known i ≡ Some c.index.result.now = slice_get_read known (length some) i c.index.result.now (sym (AllZip-long (Carries stream) some known c.in_ok-known.ensures)) (omega arith) c.index.ensures in
    let carries = subst (λ k. IsSomeAnd k (Carries stream rec)) beside (MatchOption-at_some (Unit {0}) (λ r. IsSomeAnd (slice_get known i) (Carries stream r)) rec there (AllZip-left (Carries stream) some known c.in_ok-known.ensures i)) in
    (subst (Carries stream rec) (sym c.in-Some.ensures.known) carries).stands

pub loop-i-preserved : goal.loop-i-preserved
loop-i-preserved c = λ first done told recs number held.
    let stream = c.args.stream.now in
    let some = c.args.some.now in
    let i = c.loop-i.i in
    let rec = c.index-some-i.result in
    let read = recs ++ take i some in
    let before = c.loop-i.invariant first done told recs number held in
    let count : c.args.number + i ≡ first + length read = omega (arith, number, length-append recs (take i some), length-take-le i some (omega arith)) in
    let more : recs ++ take (i + 1) some ≡ read ++ rec ∷ [] =
    ap (λ t. recs ++ t) (take_more some i rec (omega arith) ∙ ap (λ r. take i some ++ r ∷ []) (sym c.index-some-i.is)) ∙ sym (append_assoc recs (take i some) (rec ∷ [])) in
    let known = c.in_ok-known.known.items in
    let there : slice_get some i ≡ Some rec = slice_get_read some (length some) i rec refl (omega arith) c.index-some-i.is in
    let beside : slice_get known i ≡ Some c.index.result.now = slice_get_read known (length some) i c.index.result.now (sym (AllZip-long (Carries stream) some known c.in_ok-known.ensures)) (omega arith) c.index.ensures in
    let carries = subst (λ k. IsSomeAnd k (Carries stream rec)) beside (MatchOption-at_some (Unit {0}) (λ r. IsSomeAnd (slice_get known i) (Carries stream r)) rec there (AllZip-left (Carries stream) some known c.in_ok-known.ensures i)) in
    let kept : (reader : Reader) (st : Stays) → c.match-at_rest.reader ≡ reader → c.match-at_rest.stays ≡ st → HasKept stream c.args.c first done told (read ++ rec ∷ []) reader st
    → HasKept stream c.args.c first done told (recs ++ take (i + 1) some) c.match-at_rest.reader c.match-at_rest.stays =
    λ reader st same_reader same_stays it.
    subst (λ (r : List ClientRec). HasKept stream c.args.c first done told r c.match-at_rest.reader c.match-at_rest.stays) (sym more)
    (subst (λ (r : Reader). HasKept stream c.args.c first done told (read ++ rec ∷ []) r c.match-at_rest.stays) (sym same_reader)
    (subst (λ (s : Stays). HasKept stream c.args.c first done told (read ++ rec ∷ []) reader s) (sym same_stays) it)) in
    elim c.match-at_rest.branch [
      | in-Some+in_ok-take_known-in-Some w ↦
          let event = w.in-Some.event in
          kept c.loop-i.reader w.take_known.new.stays w.reader-is w.stays-is
          (HasKept-known stream c.args.c first done told read rec event.event.now c.loop-i.reader c.loop-i.stays w.take_known.new.stays event.sent_alone before w.in-Some.ensures.rest
          (subst (Carries stream rec) (sym w.in-Some.ensures.known) carries).is
          (subst (λ (n : ℕ). Keeps stream c.args.c w.take_known.new.stays done told (before.packets ++ (n, FromServer (spelled event.event.now.text)) ∷ [])) count
          (w.in_ok-take_known-in-Some.ensures done told before.packets before.keeps)))
      | in-None+in_ok-read_record-in-None w ↦
          kept w.read_record.new.reader w.read_record.new.stays w.reader-is w.stays-is
          (w.in_ok-read_record-in-None.ensures first done told read count before)
    ]
