use Rattle.std.proofs.Common.{◌≡◌, length, slice_get, ◌-◌, ◌*◌, ◌/◌, ◌%◌, refl, sym, ap, ◌∙◌, arith}
use Rattle.std.proofs.lemmas.Nat.{div-add-mod'}
use Rattle.std.proofs.lemmas.Option.{slice_get_read}
use Rattle.aud_base.specs.Private.Pages.{elements}
use Rattle.aud_base.proofs.PageLemmas.{in-full, in-last, length-elements}
use Rattle.aud_base.proofs.paged.element.Goals as goal

pub bounds-last-number : goal.bounds-last-number
bounds-last-number g c =
    let count = length-elements c.args.full.now c.args.last.now c.requires.full in
    omega (arith, count, c.requires.within)

pub offset_bounds-last-number : goal.offset_bounds-last-number
offset_bounds-last-number g c =
    let count = length-elements c.args.full.now c.args.last.now c.requires.full in
    omega (arith, count, c.requires.within)

pub returns-then-page-full : goal.returns-then-page-full
returns-then-page-full g c =
    let full = c.args.full.now in
    let last = c.args.last.now in
    let i = c.args.number in
    let page = c.index-full-page.result in
    let size : length page.items ≡ 4096 = ap (λ p. length p.items) c.index-full-page.is ∙ c.requires.full (i / 4096) page c.if-page-full.true in
    let lent : length c.as_slice.result.now ≡ 4096 = ap length c.as_slice.ensures.value ∙ size in
    ap (slice_get (elements full last)) (sym (div-add-mod' i 4096))
    ∙ in-full full last (i / 4096) (i % 4096) page _ c.requires.full
    (slice_get_read full (length full) (i / 4096) page refl c.if-page-full.true c.index-full-page.is)
    (ap (λ items. slice_get items (i % 4096)) (sym c.as_slice.ensures.value)
    ∙ slice_get_read c.as_slice.result.now (length c.as_slice.result.now) (i % 4096) c.index-as_slice-number.result refl (omega (arith, lent)) c.index-as_slice-number.is)

pub returns-else-page-full : goal.returns-else-page-full
returns-else-page-full g c =
    let full = c.args.full.now in
    let last = c.args.last.now in
    let count = length-elements full last c.requires.full in
    in-last full last c.args.number (c.args.number - length full * 4096) c.requires.full (omega arith)
    ∙ slice_get_read last (length last) (c.args.number - length full * 4096) c.index-last-number.result refl (omega (arith, count, c.requires.within)) c.index-last-number.is
