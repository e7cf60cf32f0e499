use Rattle.std.proofs.Common.{◌≡◌, ◌+◌, ◌++◌, ℕ, List, take, length}
use Rattle.aud_tap.specs.declared.records.ClientRec.{ClientRec}
use Rattle.aud_client.specs.StaySeen.{StaySeen}
use Rattle.aud_client.specs.StayPlaces.{PlacesSeen}
use Rattle.aud_client.specs.Private.Told.{HasKept}
use Rattle.aud_client.proofs.told.read_some.Given as goal

abbrev pub invariant-loop-i : goal.invariant-loop-i
invariant-loop-i l =
    (first : ℕ) (done : List StaySeen) (told : List PlacesSeen) (recs : List ClientRec) → l.number ≡ first + length recs
    → HasKept l.stream l.c first done told recs l.fn.reader l.fn.stays → HasKept l.stream l.c first done told (recs ++ take l.i l.some) l.reader l.stays
