-- The positions of the entries by whom they are addressed to.
use Rattle.std.proofs.Common.{◌≡◌, ℕ, ◌+◌, suc, Bool, false, List, ◌∙◌, arith, slice_get, ◌&&◌, Some, None, Option, map, get_or}
use Rattle.std.specs.List.{filter}
use Rattle.std.proofs.lemmas.Grind.{common_steps}
use Rattle.std.proofs.lemmas.Option.{gets, slice_get-map}
use Rattle.aud_tap.specs.declared.records.StreamRec.{StreamRec}
use Rattle.aud_base.specs.Places.{places_where, noted}
use Rattle.aud_base.proofs.NotedPlaces.{noted-next}
use Rattle.aud_node.specs.Stream.{entry, positions_after}
use Rattle.aud_node.specs.Recoverable.{is_recoverable}

-- the flag that was read is that of the entry
pub flag-read : (stream : List StreamRec) (flags : List Bool) (i : ℕ) (e : StreamRec) → flags ≡ map is_recoverable stream → slice_get stream i ≡ Some e → get_or flags i false ≡ is_recoverable e
flag-read stream flags i e are here = grind (arith, common_steps, gets, are, here, slice_get-map is_recoverable stream i)

-- the positions that pass are places, of which 0 doesn't pass
are-places : (test : ℕ → Bool) → test 0 ≡ false → (count : ℕ) → filter test (positions_after 0 count) ≡ places_where test (count + 1)
are-places test none count =
    let e : suc count ≡ count + 1 = omega arith in
    grind (arith, none, e)

-- the entry after so many, noted where it is recoverable and passes
pub noted-entry : (stream : List StreamRec) (test : Option StreamRec → Bool) (names : StreamRec → Bool) (i : ℕ) (e : StreamRec) (b : Bool) (old new : List ℕ)
    → test None ≡ false → test (Some e) ≡ (is_recoverable e && names e) → slice_get stream i ≡ Some e → b ≡ is_recoverable e
    → old ≡ filter (λ p. test (entry stream p)) (positions_after 0 i) → new ≡ noted (i + 1) (b && names e) old
    → new ≡ filter (λ p. test (entry stream p)) (positions_after 0 (i + 1))
noted-entry stream test names i e b old new none is here flag before after =
    let passes = λ (p : ℕ). test (entry stream p) in
    grind (arith, after, flag, is, here, noted-next passes (i + 1) old (before ∙ are-places passes none i), are-places passes none (i + 1))
