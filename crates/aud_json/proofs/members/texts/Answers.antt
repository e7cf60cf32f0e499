use Rattle.std.proofs.Common.{◌≡◌, ◌-◌, ◌<◌, length, Some, None, sym, ap, ◌∙◌, arith}
use Rattle.json.specs.Json.{parse_map, after_end_array, value}
use Rattle.serde_json.specs.Data.{no_items}
use Rattle.aud_json.specs.View.{list_view}
use Rattle.aud_json.proofs.Reading.{item_read, item_refused, items_over}
use Rattle.aud_json.proofs.Growing.{items_after, item_pushed, items_after-no_items, one_more_item, none_before, list_grows}
use Rattle.aud_json.proofs.members.texts.Goals as goal

pub items-init : goal.items-init
items-init c = (length c.args.reader.now, omega arith, (no_items, none_before _, ap list_view (sym c.new-found.ensures.items)), omega arith)

pub returns-in_err-text-clause-refused : goal.returns-in_err-text-clause-refused
returns-in_err-text-clause-refused c refused =
    let p = value c.args.depth in
    let l = c.items in
    let n = l.invariant.0 in
    let old = l.invariant.2 in
    let going : (after_end_array l.reader ≡ None) × (c.take_end_array.new.self ≡ l.reader) = grind arith in
    old.1 ∙ ap (parse_map (items_after old.0)) (item_refused p n l.reader going.0 (rw (← going.1) c.in_err-text.ensures.refused))

pub items-preserved : goal.items-preserved
items-preserved c =
    let p = value c.args.depth in
    let l = c.items in
    let n = l.invariant.0 in
    let old = l.invariant.2 in
    let going : (after_end_array l.reader ≡ None) × (c.take_end_array.new.self ≡ l.reader) = grind arith in
    let found = c.in_ok-text.ensures.shows in
    let r = c.item_text.new.reader in
    let less : length r < length l.reader = rw (← going.1) c.in_ok-text.ensures.shorter in
    let turn = item_read p n l.reader r found.0 (omega (arith, l.invariant.1)) going.0 (rw (← going.1) found.1) in (
      n - 1,
      omega (arith, l.invariant.1),
      (
        item_pushed old.0 found.0,
        old.1 ∙ ap (parse_map (items_after old.0)) turn ∙ one_more_item old.0 found.0 _,
        list_grows old.0 found.0 l.found.items c.in_ok-text.text old.2 found.2 ∙ ap list_view (sym c.in_ok-push.ensures.items),
      ),
      omega (arith, l.invariant.3),
    )

pub returns-clause-shows : goal.returns-clause-shows
returns-clause-shows c =
    let p = value c.args.depth in
    let l = c.items in
    let n = l.invariant.0 in
    let old = l.invariant.2 in
    let r = c.take_end_array.new.self in
    (old.0, old.1 ∙ ap (parse_map (items_after old.0)) (items_over p n l.reader r l.invariant.1 (grind arith)) ∙ ap (λ ds. Some (ds, r)) (items_after-no_items old.0), old.2)
