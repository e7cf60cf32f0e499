-- What is found of an account is told of its session.
use Rattle.std.proofs.Common.{ℕ, List, subst}
use Rattle.aud_node.specs.Cluster.{Cluster}
use Rattle.aud_node.specs.Stream.{Text}
use Rattle.aud_client.specs.StaySeen.{StaySeen}
use Rattle.aud_check.specs.declared.difference.Difference.{Difference}
use Rattle.aud_check.specs.Difference.{IsDifference}
use Rattle.aud_check.specs.Window.{positions_received}
use Rattle.aud_verdict.specs.Session.{own_stays}
use Rattle.aud_session_facts.specs.Account.{IsAccount, IsDifferenceOf}

pub difference_told : (c : Cluster) (pid : Text) (client : ℕ) (stays : List StaySeen) (due : List ℕ) → IsAccount c pid client stays due
    → (d : Difference) → IsDifference (positions_received stays) due d → IsDifferenceOf c pid d
difference_told c pid client stays due account d shown =
    record {
      session = account.session;
      is_session = account.is_session;
      shown = subst (λ ds. IsDifference (positions_received (own_stays c account.session)) ds d) account.due_is (subst (λ ss. IsDifference (positions_received ss) due d) account.stays_are shown);
    }
