use Rattle.std.proofs.Common.{◌≡◌, ◌∙◌, ◌++◌, ℕ, List, ap, flat_map, get_or, map, sym}
use Rattle.std.proofs.lemmas.List.Folds.{flat_map-map}
use Rattle.std.proofs.lemmas.List.{take_all}
use Rattle.aud_rows.specs.declared.client_places.ClientPlaces.{ClientPlaces}
use Rattle.aud_rows.specs.Seen.{RowSeen, row_seen}
use Rattle.aud_client.specs.Replies.{naming_places}
use Rattle.aud_findings.specs.Unplaced.{replies_at, replies_of}
use Rattle.aud_findings.proofs.Naming.{named_tap, one_more, taps_named}
use Rattle.aud_findings.proofs.unplaced.client_rows.Goals as goal

pub loop-place-preserved : goal.loop-place-preserved
loop-place-preserved c =
    let s = c.args.sheet.now in
    let places = c.naming-place-items.result.now in
    let i = c.loop-place.place-index in
    let rows : ℕ → List RowSeen = λ place. replies_of s.recording.now s.lines.now (named_tap s.recording.now c.args.pid.now place) in
    let at : c.places.result.now.place ≡ get_or places i 0 = ap (λ (p : ClientPlaces). p.place) c.places.ensures ∙ c.in_ok-tap.ensures.place in (
      one_more rows places i 0 _ _ c.loop-place-test.true c.loop-place.invariant.0
          (c.in_ok-push_replies.ensures.rows
          ∙ (λ j. map row_seen c.loop-place.rows.items ++ replies_at s.recording.now s.lines.now (at j) (c.numbers_naming-numbers.ensures j))),
      c.in_ok-push_replies.ensures.truth c.loop-place.invariant.1,
    )

pub returns-clause-shown : goal.returns-clause-shown
returns-clause-shown c not_one =
    let s = c.args.sheet.now in
    let here = s.recording.now in
    let pid = c.args.pid.now in
    let places = c.naming-place-items.result.now in
    let rows : ℕ → List RowSeen = λ place. replies_of here s.lines.now (named_tap here pid place) in
    record {
      not_one = not_one;
      taps = map (named_tap here pid) (naming_places here.taps pid);
      are_its_taps = taps_named here pid (naming_places here.taps pid);
      are_its_rows =
          c.loop-place.invariant.0
          ∙ ap (flat_map rows) (take_all c.loop-place.place-index places c.loop-place-test.false ∙ c.naming-place-items.ensures)
          ∙ sym (flat_map-map (replies_of here s.lines.now) (named_tap here pid) (naming_places here.taps pid));
    }
