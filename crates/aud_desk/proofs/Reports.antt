-- The verdicts of a report.
use Rattle.std.proofs.Common.{◌≡◌, ◌≤◌, ℕ, suc, Bool, List, [], ◌∷◌, length, map, zip, Some, String, sym, subst, refl, arith}
use Rattle.std.proofs.lemmas.List.Sums.{count_by-le-length}
use Rattle.std.specs.Prelude.{count_by, slice_get, string_bytes}
use Rattle.aud_node.specs.Cluster.{Cluster}
use Rattle.aud_verdict.specs.declared.verdict.Verdict.{Verdict}
use Rattle.aud_verdict.specs.declared.verdict.SessionVerdict.{SessionVerdict}
use Rattle.aud_verdict.specs.YesOf.{is_yes}
use Rattle.aud_verdict.specs.Verdicts.{IsVerdictOn, IsVerdictAt, AreVerdicts}
use Rattle.aud_desk.specs.Named.{session_verdict}

-- no more are yes than there are
pub yes_at_most : (entries : List SessionVerdict) → count_by is_yes entries ≤ length entries
yes_at_most = count_by-le-length is_yes

-- the verdict at each index, under the pid of that index
pub named-each : {Z : Type 0} (c : Cluster) (whole : Bool) (pids : List (String Z)) (verdicts : List Verdict) → length verdicts ≡ length pids
    → ((i : ℕ) (verdict : Verdict) → slice_get verdicts i ≡ Some verdict → IsVerdictAt c whole (map string_bytes pids) i verdict)
    → AreVerdicts c whole (map string_bytes pids) (map session_verdict (zip pids verdicts))
named-each c whole [] [] len each = tt
named-each c whole [] (v ∷ vs) len each = absurd (omega arith)
named-each c whole (p ∷ ps) [] len each = absurd (omega arith)
named-each c whole (p ∷ ps) (v ∷ vs) len each =
    let at = each 0 v refl in
    let pid : string_bytes p ≡ at.0 = some_same at.1 in
    ((refl, subst (λ q. IsVerdictOn c whole q v) (sym pid) at.2), named-each c whole ps vs (omega arith) (λ i w is. each (suc i) w is))
  where
    some_same : {X : Type 0} {x y : X} → Some x ≡ Some y → x ≡ y
    some_same e = cc
