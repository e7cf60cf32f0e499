use Rattle.std.proofs.Common.{ap, ◌∙◌, sym, take}
use Rattle.aud_book.specs.History.{lines_at, project, pairs}
use Rattle.aud_book.proofs.Taps.{empty-merging}
use Rattle.aud_book.proofs.book.Book.new.Goals as goal

pub invariant_of-result : goal.invariant_of-result
invariant_of-result c = record {
  projected = λ place. ap (λ ts. lines_at ts place) c.loop-i.invariant.1 ∙ empty-merging (take c.loop-i.i c.args.names.now) place ∙ sym (ap (λ h. project place (pairs h)) c.new-2.ensures.items);
}
