use Rattle.std.proofs.Common.{◌≡◌, ◌-◌, ◌<◌, [], ◌∷◌, length, Some, None, refl, ap, ◌∙◌, arith}
use Rattle.json.specs.Json.{after_end_array, read_key, value}
use Rattle.json.specs.Reads.{token_of}
use Rattle.json.proofs.Grammar.{value_is, read_key-shorter, left_none}
use Rattle.serde_json.specs.Data.{no_members}
use Rattle.aud_json.specs.Private.Passed.{left, passed}
use Rattle.aud_json.proofs.Reading.{item_refused, items_over, member_refused, key_refused, members_over}
use Rattle.aud_json.proofs.Passing.{passed_nothing, passed_number, passed_deep_array, passed_deep_object, passed_array, passed_object, pass_item, pass_member}
use Rattle.aud_json.proofs.pass.+pass.Goals as goal

pub pass-returns-in_err-token-clause-value : goal.pass-returns-in_err-token-clause-value
pass-returns-in_err-token-clause-value t c =
    let empty : c.args.reader.now ≡ [] = grind arith in
    let none : passed c.args.depth c.args.reader.now ≡ None = ap (passed c.args.depth) empty ∙ passed_nothing c.args.depth in
    grind (arith, none)

pub pass_from-returns-then-depth-eq0-clause-value : goal.pass_from-returns-then-depth-eq0-clause-value
pass_from-returns-then-depth-eq0-clause-value t c =
    let none : c.args.depth ≡ 0 = omega arith in
    rw (none, c.in-BeginArray.is) (passed_deep_array _)

pub pass_from-returns-then-depth-eq0-2-clause-value : goal.pass_from-returns-then-depth-eq0-2-clause-value
pass_from-returns-then-depth-eq0-2-clause-value t c =
    let none : c.args.depth ≡ 0 = omega arith in
    rw (none, c.in-BeginObject.is) (passed_deep_object _)

pub pass_from-returns-in-String-clause-value : goal.pass_from-returns-in-String-clause-value
pass_from-returns-in-String-clause-value t c = rw (value_is c.args.depth (token_of c.args.token ∷ c.args.reader.now)) (grind arith)

pub pass_from-returns-in-Some-clause-value : goal.pass_from-returns-in-Some-clause-value
pass_from-returns-in-Some-clause-value t c = rw (c.in-Number.is, passed_number, ← c.in-Some.ensures)

pub pass_from-returns-in-None-clause-value : goal.pass_from-returns-in-None-clause-value
pass_from-returns-in-None-clause-value t c = rw (c.in-Number.is, passed_number, ← c.in-None.ensures)

pub pass_from-returns-in-EndObject-clause-value : goal.pass_from-returns-in-EndObject-clause-value
pass_from-returns-in-EndObject-clause-value t c = rw (value_is c.args.depth (token_of c.args.token ∷ c.args.reader.now)) (grind arith)

pub pass_from-returns-else-depth-eq0-clause-value : goal.pass_from-returns-else-depth-eq0-clause-value
pass_from-returns-else-depth-eq0-clause-value t c = rw (c.in-BeginArray.is, passed_array c.args.depth c.args.reader.now (omega arith)) c.pass_items.ensures.value

pub pass_from-returns-else-depth-eq0-2-clause-value : goal.pass_from-returns-else-depth-eq0-2-clause-value
pass_from-returns-else-depth-eq0-2-clause-value t c = rw (c.in-BeginObject.is, passed_object c.args.depth c.args.reader.now (omega arith)) c.pass_members.ensures.value

pub pass_items-items-preserved : goal.pass_items-items-preserved
pass_items-items-preserved t c =
    let p = value c.args.depth in
    let l = c.items in
    let n = l.invariant.0 in
    let going : (after_end_array l.reader ≡ None) × (c.take_end_array.new.self ≡ l.reader) = grind arith in
    let less : length c.pass.new.reader < length l.reader = rw (← going.1) c.in_ok-pass.ensures.shorter in
    (n - 1, omega (arith, l.invariant.1), l.invariant.2 ∙ pass_item p n l.reader _ (omega (arith, l.invariant.1)) going.0 (rw (← going.1) c.in_ok-pass.ensures.value), omega (arith, l.invariant.3))

pub pass_items-returns-in_err-pass-clause-value : goal.pass_items-returns-in_err-pass-clause-value
pass_items-returns-in_err-pass-clause-value t c =
    let p = value c.args.depth in
    let l = c.items in
    let n = l.invariant.0 in
    let going : (after_end_array l.reader ≡ None) × (c.take_end_array.new.self ≡ l.reader) = grind arith in
    let none = l.invariant.2 ∙ ap left (item_refused p n l.reader going.0 (left_none _ (rw (← going.1) c.in_err-pass.ensures.value))) in
    grind (arith, none)

pub pass_items-returns-clause-value : goal.pass_items-returns-clause-value
pass_items-returns-clause-value t c =
    let p = value c.args.depth in
    let l = c.items in
    let n = l.invariant.0 in
    l.invariant.2 ∙ ap left (items_over p n l.reader c.take_end_array.new.self l.invariant.1 (grind arith))

pub pass_members-members-init : goal.pass_members-members-init
pass_members-members-init t c = (length c.args.reader.now, omega arith, (no_members, refl), omega arith)

pub pass_members-returns-in_err-next_key-clause-value : goal.pass_members-returns-in_err-next_key-clause-value
pass_members-returns-in_err-next_key-clause-value t c =
    let p = value c.args.depth in
    let l = c.members in
    let n = l.invariant.0 in
    let none = l.invariant.2.1 ∙ ap left (key_refused p l.invariant.2.0 n l.reader c.in_err-next_key.ensures.value) in
    grind (arith, none)

pub pass_members-members-preserved : goal.pass_members-members-preserved
pass_members-members-preserved t c =
    let p = value c.args.depth in
    let l = c.members in
    let n = l.invariant.0 in
    let k = c.in-Some.field-0.now in
    let s = c.next_key.new.self in
    let key : read_key l.reader ≡ Some (Some k, s) = grind arith in
    let less = read_key-shorter l.reader (Some k) s key in
    let lesser = c.in_ok-pass.ensures.shorter in
    let turn = pass_member p l.invariant.2.0 n k l.reader s c.pass.new.reader (omega (arith, l.invariant.1)) key c.in_ok-pass.ensures.value in
    (n - 1, omega (arith, l.invariant.1), (turn.0, l.invariant.2.1 ∙ turn.1), omega (arith, l.invariant.3))

pub pass_members-returns-in_err-pass-clause-value : goal.pass_members-returns-in_err-pass-clause-value
pass_members-returns-in_err-pass-clause-value t c =
    let p = value c.args.depth in
    let l = c.members in
    let n = l.invariant.0 in
    let k = c.in-Some.field-0.now in
    let s = c.next_key.new.self in
    let key : read_key l.reader ≡ Some (Some k, s) = grind arith in
    let none = l.invariant.2.1 ∙ ap left (member_refused p l.invariant.2.0 n k l.reader s key (left_none _ c.in_err-pass.ensures.value)) in
    grind (arith, none)

pub pass_members-returns-clause-value : goal.pass_members-returns-clause-value
pass_members-returns-clause-value t c =
    let p = value c.args.depth in
    let l = c.members in
    let n = l.invariant.0 in
    l.invariant.2.1 ∙ ap left (members_over p l.invariant.2.0 n l.reader c.next_key.new.self l.invariant.1 (grind arith))
