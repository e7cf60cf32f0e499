use Rattle.std.proofs.Common.{Bool, sym, subst, refl}
use Rattle.aud_node.specs.Stream.{Text}
use Rattle.aud_node.specs.Cluster.{Cluster}
use Rattle.aud_merge.specs.Due.{due}
use Rattle.aud_merge.specs.ByTurns.{IsPrefixOf}
use Rattle.aud_check.specs.Frames.{AreEntries}
use Rattle.aud_cert.specs.declared.fault.Fault.TheVariants.{Tail}
use Rattle.aud_verdict.specs.declared.verdict.Verdict.{Verdict}
use Rattle.aud_verdict.specs.declared.verdict.Verdict.TheVariants.{Yes, No}
use Rattle.aud_verdict.specs.Session.{SessionLogs, positions, received_by}
use Rattle.aud_verdict.specs.Verdict.{IsVerdict}
use Rattle.aud_verdict.specs.EveryRun.{HoldsInEveryRun}
use Rattle.aud_verdict.proofs.Delivery.{in_every_run, all_in_every_run}
use Rattle.aud_verdict.proofs.laws.verdict_in_every_run.Goals as goal

pub returns : goal.returns
returns c =
    let law : (C : Cluster) (whole : Bool) (pid : Text) (verdict : Verdict) → IsVerdict C whole pid verdict → HoldsInEveryRun C pid verdict =
    λ C whole pid. in_every_run c.due_by_turns.ensures.all C pid whole in
    record {
      all = law;
      yes = λ C whole pid got tail turns s run is one is_run.
          let said = law C whole pid (Yes got tail turns) is in
          subst (λ (t : SessionLogs). IsPrefixOf (positions C t) (due C run pid)) (sym (said.is_only s one)) (said.is_front run is_run);
      counts = λ C whole pid got tail turns run is is_run. (law C whole pid (Yes got tail turns) is).are_all run is_run;
      entries = λ C whole pid got tail turns s is one.
          let said = law C whole pid (Yes got tail turns) is in
          subst (λ (t : SessionLogs). AreEntries C.stream (received_by C t)) (sym (said.is_only s one)) said.are_entries;
      whole = λ C pid got tail turns s run is one is_run. all_in_every_run c.due_by_turns.ensures.all C pid got tail turns is s one run is_run;
      no = λ C whole pid fault s run is about one is_run prefix.
          let said = (law C whole pid (No fault) is).0 about in
          said.is_no_front run is_run (subst (λ (t : SessionLogs). IsPrefixOf (positions C t) (due C run pid)) (said.is_only s one) prefix);
      tail = λ C whole pid count is. (law C whole pid (No (Tail count)) is).1 count refl;
    }
