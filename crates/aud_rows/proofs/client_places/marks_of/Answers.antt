use Rattle.std.proofs.Common.{◌≡◌, ◌++◌, ◌∷◌, [], ◌∙◌, Some, cond, length, refl, sym, ap, slice_get}
use Rattle.std.proofs.lemmas.Option.{slice_get_read}
use Rattle.aud_base.proofs.Numbers.{filter-more}
use Rattle.aud_rows.specs.Marks.{is_mark}
use Rattle.aud_rows.proofs.client_places.marks_of.Goals as goal

pub loop-number-preserved : goal.loop-number-preserved
loop-number-preserved c =
    let recs = c.args.recs.now in
    let i = c.loop-number.number in
    let rec = c.index-recs-number.result in
    let marks = c.loop-number.marks.items in
    let given : is_mark (slice_get recs i) ≡ is_mark (Some rec) = ap is_mark (slice_get_read recs (length recs) i rec refl c.loop-number-test.true c.index-recs-number.is) in
    c.in_ok-note_mark.ensures ∙ ap (λ b. cond b (marks ++ i ∷ []) marks) (sym given) ∙ filter-more (λ number. is_mark (slice_get recs number)) i marks c.loop-number.invariant
