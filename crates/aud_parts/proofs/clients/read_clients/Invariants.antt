use Rattle.std.proofs.Common.{◌≡◌, List, ℕ, Some, map, take}
use Rattle.std.specs.List.{All}
use Rattle.aud_parts.specs.ClientsRead.{others_among}
use Rattle.aud_parts.specs.ServersRead.{kind_told}
use Rattle.aud_parts.specs.TapRuns.{MayBeRead}
use Rattle.aud_parts.specs.Private.ClientSteps.{AreSoFar}
use Rattle.aud_parts.proofs.clients.read_clients.Given as goal

-- the clients' taps so far are held, or what they tell was added
abbrev pub invariant-loop-place : goal.invariant-loop-place
invariant-loop-place g l = record {
  source : g.S.RunSource.files l.source ≡ g.S.RunSource.files l.fn.source;
  stream : l.reading.stream.now ≡ l.stream;
  told : (files : List (List ℕ)) → g.S.RunSource.files l.fn.source ≡ Some files → All (MayBeRead files) l.indexed.taps.now → l.indexed.kinds.now ≡ map (kind_told files) l.indexed.taps.now
      → AreSoFar files (others_among files (take l.place l.indexed.taps.now)) l.reading;
}
