use Rattle.std.proofs.Common.{rules, ◌≡◌, ◌∙◌, map, refl, ap}
use Rattle.std.proofs.lemmas.Result.{IfOk-weaker}
use Rattle.serde_json.specs.View.{view}
use Rattle.aud_tap.specs.declared.records.Rec.TheVariants as rec
use Rattle.aud_reader.specs.OwnLines.{recs_in}
use Rattle.aud_writer.specs.Written.{client_data, node_data, stream_data}
use Rattle.aud_writer.proofs.ByNumber.{as_rec, plain}
use Rattle.aud_writer.proofs.numbered.value_at.Goals as goal

pub returns-in-Stream-clause-plain : goal.returns-in-Stream-clause-plain
returns-in-Stream-clause-plain c =
    IfOk-weaker c.entry_at.result _ _ (λ value is. plain (λ v. view v) value _ (is ∙ as_rec stream_data rec.Stream _ c.args.number (λ x. refl))) c.entry_at.ensures

pub returns-in-Node-clause-data : goal.returns-in-Node-clause-data
returns-in-Node-clause-data c =
    IfOk-weaker c.node_record_at.result _ _ (λ value is. is ∙ as_rec node_data rec.Node _ c.args.number (λ x. refl) ∙ rw c.in-Node.is refl) c.node_record_at.ensures

pub returns-in-Node-clause-plain : goal.returns-in-Node-clause-plain
returns-in-Node-clause-plain c =
    IfOk-weaker c.node_record_at.result _ _ (λ value is. plain (λ v. view v) value _ (is ∙ as_rec node_data rec.Node _ c.args.number (λ x. refl))) c.node_record_at.ensures

pub returns-in-Client-clause-data : goal.returns-in-Client-clause-data
returns-in-Client-clause-data c =
    IfOk-weaker c.client_record_at.result _ _ (λ value is. is ∙ as_rec client_data rec.Client _ c.args.number (λ x. refl) ∙ rw (c.in-Client.is, ← c.as_slice.ensures) refl) c.client_record_at.ensures

pub returns-in-Client-clause-plain : goal.returns-in-Client-clause-plain
returns-in-Client-clause-plain c =
    IfOk-weaker c.client_record_at.result _ _ (λ value is. plain (λ v. view v) value _ (is ∙ as_rec client_data rec.Client _ c.args.number (λ x. refl))) c.client_record_at.ensures
