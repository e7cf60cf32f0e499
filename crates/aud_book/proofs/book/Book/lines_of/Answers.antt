use Rattle.std.proofs.Common.{rules, ◌≡◌, ap, ◌∙◌, sym, List, ℕ, Vec, Global}
use Rattle.std.specs.Borrow.{Bor}
use Rattle.std.proofs.lemmas.Result.{IfOk-weaker}
use Rattle.aud_book.specs.History.{texts, lines_at}
use Rattle.aud_book.specs.Taps.{seen_taps}
use Rattle.aud_book.proofs.Taps.{at-get}
use Rattle.aud_book.proofs.book.Book.lines_of.Goals as goal

pub returns : goal.returns
returns c = IfOk-weaker c.copied.result (λ (v : Vec (Bor (List ℕ)) Global). v.items ≡ c.deref.result.now) (λ v. texts v.items ≡ lines_at (seen_taps c.args.self.now.taps.items) c.args.tap)
    (λ v is. ap texts is ∙ ap texts (c.deref.ensures.value) ∙ ap (λ t. texts t.lines.items) c.index.ensures ∙ sym (at-get c.args.self.now.taps.items c.args.tap _ (search rules))) c.copied.ensures
