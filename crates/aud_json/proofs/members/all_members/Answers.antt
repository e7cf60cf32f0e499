use Rattle.std.proofs.Common.{◌≡◌, ◌-◌, length, Some, refl, sym, ap, ◌∙◌, arith}
use Rattle.json.specs.Json.{read_key, value}
use Rattle.json.proofs.Grammar.{read_key-shorter}
use Rattle.serde_json.specs.Data.{no_members, put}
use Rattle.aud_json.specs.View.{members_view}
use Rattle.aud_json.proofs.Growing.{members_grow}
use Rattle.aud_json.proofs.Reading.{member_read, member_refused, key_refused, members_over}
use Rattle.aud_json.proofs.members.all_members.Goals as goal

pub members-init : goal.members-init
members-init c = (length c.args.reader.now, omega arith, (no_members, refl, ap members_view (sym c.in_ok-found.ensures.items)), omega arith)

pub returns-in_err-key-clause-refused : goal.returns-in_err-key-clause-refused
returns-in_err-key-clause-refused c refused =
    let p = value c.args.depth in
    let l = c.members in
    let n = l.invariant.0 in
    let old = l.invariant.2 in
    old.1 ∙ key_refused p old.0 n l.reader c.in_err-key.ensures.value

pub returns-in_err-field-clause-refused : goal.returns-in_err-field-clause-refused
returns-in_err-field-clause-refused c refused =
    let p = value c.args.depth in
    let l = c.members in
    let n = l.invariant.0 in
    let old = l.invariant.2 in
    let k = c.in-Some.key.now in
    let s = c.next_key.new.self in
    let named : read_key l.reader ≡ Some (Some k, s) = grind arith in
    old.1 ∙ member_refused p old.0 n k l.reader s named (c.next_field.ensures.refused (grind arith))

pub members-preserved : goal.members-preserved
members-preserved c =
    let p = value c.args.depth in
    let l = c.members in
    let n = l.invariant.0 in
    let old = l.invariant.2 in
    let k = c.in-Some.key in
    let s = c.next_key.new.self in
    let named : read_key l.reader ≡ Some (Some k.now, s) = grind arith in
    let less = read_key-shorter l.reader (Some k.now) s named in
    let lesser = c.in_ok-field.ensures.shorter in
    let r = c.next_field.new.reader in
    let found = c.in_ok-field.ensures.shows in (
      n - 1,
      omega (arith, l.invariant.1),
      (
        put k.now found.0 old.0,
        old.1 ∙ member_read p old.0 n k.now l.reader s r found.0 (omega (arith, l.invariant.1)) named found.1,
        members_grow old.0 k found.0 l.found.items c.in_ok-field.field old.2 found.2 ∙ ap members_view (sym c.in_ok-push.ensures.items),
      ),
      omega (arith, l.invariant.3),
    )

pub returns-clause-shows : goal.returns-clause-shows
returns-clause-shows c =
    let p = value c.args.depth in
    let l = c.members in
    let n = l.invariant.0 in
    let old = l.invariant.2 in
    (old.0, old.1 ∙ members_over p old.0 n l.reader c.next_key.new.self l.invariant.1 (grind arith), old.2)
