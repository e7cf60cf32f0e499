use Rattle.std.proofs.Common.{ℕ, List, Bor, arith}
use Rattle.aud_merge.proofs.waiting.Waiting.add.Goals as goal

pub returns-clause-others : goal.returns-clause-others
returns-clause-others c = λ other apart.
    let key : (Bor (List ℕ)) × ℕ = (record { ref_ptr = (0, 0); now = other.0 }, other.1) in
    let put = c.in_ok-insert.ensures.updates.2 key apart in
    let out = c.remove.ensures.updates.2 key apart in
    grind arith
