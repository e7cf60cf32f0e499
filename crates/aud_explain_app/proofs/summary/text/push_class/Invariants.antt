use Rattle.std.proofs.Common.{◌≡◌, ◌++◌, codes, decimal, string_bytes, take}
use Rattle.aud_explain_app.specs.Summary.Counts.{faults_seen}
use Rattle.aud_explain_app.specs.Summary.Text.{fault_items}
use Rattle.aud_explain_app.proofs.summary.text.push_class.Given as goal

abbrev pub invariant-loop-word : goal.invariant-loop-word
invariant-loop-word l =
    string_bytes l.out
    ≡ string_bytes l.fn.out ++ (codes "  " ++ l.name ++ codes " " ++ decimal l.fn.count ++ codes ":" ++ fault_items (faults_seen (take l.word-index l.faults)))
