use Rattle.std.proofs.Common.{◌≡◌, List, ℕ, None, Some, take}
use Rattle.std.specs.List.{All}
use Rattle.aud_parts.specs.ServersRead.{AreServers}
use Rattle.aud_parts.specs.TapRuns.{MayBeRead}
use Rattle.aud_parts.proofs.servers.read_servers.Given as goal

-- the taps so far were read, where no line was refused
abbrev pub invariant-loop-tap : goal.invariant-loop-tap
invariant-loop-tap g l = record {
  source : g.S.RunSource.files l.source ≡ g.S.RunSource.files l.fn.source;
  kept : l.refusal ≡ None → l.fn.refusal ≡ None;
  read : (files : List (List ℕ)) → g.S.RunSource.files l.fn.source ≡ Some files → All (MayBeRead files) l.taps → l.refusal ≡ None
      → AreServers files (take l.tap-index l.taps) l.reading.kinds.items l.reading.taps.items l.reading.lines.items;
}
