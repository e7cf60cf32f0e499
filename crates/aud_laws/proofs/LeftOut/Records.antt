-- A record of another session, which is left out.
use Rattle.std.proofs.Common.{◌≡◌, ℕ, suc, Bool, true, false, List, Some, arith, bytes_eq}
use Rattle.aud_tap.specs.declared.records.StreamRec.{StreamRec}
use Rattle.aud_tap.specs.declared.records.NodeRec.{NodeRec}
use Rattle.aud_node.specs.Cursors.{later_cursor, next_cursor}
use Rattle.aud_node.specs.Ordered.{is_in_order}
use Rattle.aud_node.specs.Stream.{Text}
use Rattle.aud_node.specs.TurnRecords.{pid_of}
use Rattle.aud_parts.specs.LeftOut.{is_start}

-- the record names another session
pub record IsOfAnother (pid : Text) (rec : NodeRec) : Type 0 where
  pub other : Text
  pub names : pid_of rec ≡ Some other
  pub differs : bytes_eq other pid ≡ false

-- the test leaves out records of other sessions alone
abbrev pub LeavesOthers : (NodeRec → Bool) → Text → Type 0
LeavesOthers keep pid = (rec : NodeRec) → keep rec ≡ false → IsOfAnother pid rec

module _ (pid : Text) (rec : NodeRec) (is : IsOfAnother pid rec) where
  names : pid_of rec ≡ Some is.other
  names = is.names

  -- it leaves the cursor
  pub another-later : (stream : List StreamRec) (cursor : ℕ) → later_cursor stream rec cursor ≡ cursor
  another-later stream cursor = grind (arith, names)

  pub another-next : (stream : List StreamRec) (number cursor : ℕ) → next_cursor stream number rec cursor ≡ cursor
  another-next stream number cursor = grind (arith, names)

  -- after the first record it is in order
  pub another-in_order : (stream : List StreamRec) (number cursor : ℕ) → is_in_order stream (suc number) cursor rec ≡ true
  another-in_order stream number cursor = grind (arith, names)

  -- it is no `start`
  pub another-start : is_start rec ≡ false
  another-start = grind (arith, names)

-- the number of a record doesn't matter to the cursor, but for the first one, and there for a `start` alone
pub next-later : (stream : List StreamRec) (number : ℕ) (rec : NodeRec) (cursor : ℕ) → is_start rec ≡ false → next_cursor stream number rec cursor ≡ later_cursor stream rec cursor
next-later stream number rec cursor e = grind arith

pub next-suc : (stream : List StreamRec) (number : ℕ) (rec : NodeRec) (cursor : ℕ) → next_cursor stream (suc number) rec cursor ≡ later_cursor stream rec cursor
next-suc stream number rec cursor = grind arith

-- nor to whether it is in order
pub in_order-suc : (stream : List StreamRec) (one other : ℕ) (rec : NodeRec) (cursor : ℕ) → is_in_order stream (suc one) cursor rec ≡ is_in_order stream (suc other) cursor rec
in_order-suc stream one other rec cursor = grind arith

-- the first record is in order where it is a `start` alone
pub in_order-first : (stream : List StreamRec) (rec : NodeRec) (cursor : ℕ) → is_in_order stream 0 cursor rec ≡ true → is_start rec ≡ true
in_order-first stream rec cursor e = grind arith
