use Rattle.std.proofs.Common.{inr}
use Rattle.aud_merge.proofs.DueLaws.{rooms-turns, shown-settled, chain-none}
use Rattle.aud_merge.proofs.laws.rooms_by_turns.Goals as goal

pub returns : goal.returns
returns c =
    record {
      all = λ k run who turns p is chain. rooms-turns k run who turns is chain.are_turns p (inr (chain-none k who turns chain));
      shown = λ k run who turns p is are some h. rooms-turns k run who turns is are p (shown-settled k who turns p some h);
    }
