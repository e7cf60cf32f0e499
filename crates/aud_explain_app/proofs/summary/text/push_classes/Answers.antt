use Rattle.std.proofs.Common.{◌≡◌, ◌∙◌, ◌++◌, ap, append_assoc, codes, drop, string_bytes, take}
use Rattle.std.proofs.lemmas.Result.{on_ok_weaker}
use Rattle.aud_explain_app.specs.Summary.Counts.{faults_seen}
use Rattle.aud_explain_app.specs.Summary.Text.{class_line}
use Rattle.aud_explain_app.proofs.summary.text.push_classes.Goals as goal

pub returns : goal.returns
returns c =
    let old = string_bytes c.args.out.now in
    let classes = c.args.classes.now in
    let faults = c.args.faults.now in
    let recording = class_line (codes "recording") classes.recording (faults_seen (take 5 faults)) in
    let packets = class_line (codes "packets") classes.packets (faults_seen (take 2 (drop 5 faults))) in
    let delivery = class_line (codes "delivery") classes.delivery (faults_seen (drop 2 (drop 5 faults))) in
    let first : string_bytes c.push_class.new.out ≡ old ++ recording =
    c.in_ok-push_class.ensures ∙ ap (λ part. old ++ class_line (codes "recording") classes.recording (faults_seen part)) c.split_at.ensures.front in
    let others : c.split_at.result.1.now ≡ drop 5 faults = c.split_at.ensures.back in
    let next : string_bytes c.push_class-2.new.out ≡ string_bytes c.push_class.new.out ++ packets =
    c.in_ok-push_class-2.ensures
    ∙ ap (λ part. string_bytes c.push_class.new.out ++ class_line (codes "packets") classes.packets (faults_seen part)) (c.split_at-2.ensures.front ∙ ap (take 2) others) in
    let more : string_bytes c.push_class-2.new.out ++ delivery ≡ old ++ (recording ++ packets ++ delivery) =
    ap (λ front. front ++ delivery) (next ∙ ap (λ front. front ++ packets) first)
    ∙ ap (λ front. front ++ delivery) (append_assoc old recording packets) ∙ append_assoc old (recording ++ packets) delivery
    in
    let last = ap (λ part. string_bytes c.push_class-2.new.out ++ class_line (codes "delivery") classes.delivery (faults_seen part)) (c.split_at-2.ensures.back ∙ ap (drop 2) others) in
    on_ok_weaker {P = string_bytes c.push_class-3.new.out ≡ string_bytes c.push_class-2.new.out ++ class_line (codes "delivery") classes.delivery (faults_seen c.split_at-2.result.1.now)}
    c.push_class-3.result (λ is. is ∙ last ∙ more) c.push_class-3.ensures
