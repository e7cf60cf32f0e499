use Rattle.std.proofs.Common.{◌≡◌, ◌<◌, ◌+◌, ◌-◌, length, slice_get, refl, sym, ap, ◌∙◌, arith}
use Rattle.std.proofs.lemmas.List.{length-drop}
use Rattle.std.proofs.lemmas.Option.{slice_get_read}
use Rattle.aud_node.specs.Private.LentList.{lent_list}
use Rattle.aud_base.proofs.Lists.{slice_get-drop}
use Rattle.aud_node.proofs.rest.Rest.at.Goals as goal

pub returns-clause-value : goal.returns-clause-value
returns-clause-value g c =
    let r = c.self.inside in
    let list = c.in-Some.list.now in
    let n = c.args.number in
    let lent : lent_list r.list ≡ list = ap lent_list c.in-Some.is in
    let count : length c.args.self.now ≡ length (lent_list r.list) - r.from = ap length (sym c.self.view_is) ∙ length-drop r.from (lent_list r.list) in
    let size : length (lent_list r.list) ≡ length list = ap length lent in
    let within : r.from + n < length list = omega (arith, count, size, c.requires) in
    ap (λ xs. slice_get xs n) (sym c.self.view_is) ∙ slice_get-drop r.from (lent_list r.list) n (r.from + n) refl
    ∙ ap (λ xs. slice_get xs (r.from + n)) lent ∙ slice_get_read list (length list) (r.from + n) c.index.result.now refl within c.index.ensures
