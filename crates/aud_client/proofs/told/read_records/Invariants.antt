use Rattle.std.proofs.Common.{◌≡◌, ◌+◌, ◌++◌, [], List, length}
use Rattle.std.specs.Slice.Iter.{chunks_rest, chunks_size}
use Rattle.aud_tap.specs.declared.records.ClientRec.{ClientRec}
use Rattle.aud_client.specs.StaySeen.{StaySeen}
use Rattle.aud_client.specs.StayPlaces.{PlacesSeen}
use Rattle.aud_client.specs.Private.Told.{HasKept}
use Rattle.aud_client.proofs.told.read_records.Given as goal

abbrev pub invariant-loop-some : goal.invariant-loop-some
invariant-loop-some l = record {
  can_next : goal.iterator-loop-some.can_next l.some-iterator;
  is_finite : goal.iterator-loop-some.is_finite l.some-iterator;
  size : chunks_size l.some-iterator ≡ 256;
  read : List ClientRec;
  all : read ++ chunks_rest l.some-iterator ≡ l.recs;
  number : l.number ≡ l.first + length read;
  kept : (done : List StaySeen) (told : List PlacesSeen) → HasKept l.stream l.c l.first done told [] l.fn.reader l.fn.stays → HasKept l.stream l.c l.first done told read l.reader l.stays;
}
