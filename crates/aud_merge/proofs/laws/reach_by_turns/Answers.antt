use Rattle.std.proofs.Common.{inr}
use Rattle.aud_merge.proofs.DueLaws.{reach-turns, shown-settled, chain-none}
use Rattle.aud_merge.proofs.laws.reach_by_turns.Goals as goal

pub returns : goal.returns
returns c =
    record {
      all = λ k run who turns is chain p. reach-turns k run who turns is chain.are_turns p (inr (chain-none k who turns chain));
      shown = λ k run who turns is are p some h. reach-turns k run who turns is are p (shown-settled k who turns p some h);
    }
