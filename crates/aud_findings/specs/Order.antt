-- The first record of a node's log that is out of order.
use Rattle.std.specs.Prelude.{◌≡◌, ◌<◌, ℕ, Bool, true, false, List, length, slice_get}
use Rattle.aud_tap.specs.declared.records.StreamRec.{StreamRec}
use Rattle.aud_tap.specs.declared.records.NodeRec.{NodeRec}
use Rattle.aud_node.specs.Cursors.{cursor_at}
use Rattle.aud_node.specs.Ordered.{is_some_in_order}

-- there is a record with this number, and it is in order after the cursor to which those before it lead
abbrev pub is_record_in_order : List StreamRec → List NodeRec → ℕ → Bool
is_record_in_order stream log number = is_some_in_order stream number (cursor_at stream log number) (slice_get log number)

-- each record of the log is in order
abbrev pub AreInOrder : List StreamRec → List NodeRec → Type 0
AreInOrder stream log = (number : ℕ) → number < length log → is_record_in_order stream log number ≡ true

-- the record with this number is out of order, and each one before it is in order
pub record IsFirstOutOfOrder (stream : List StreamRec) (log : List NodeRec) (number : ℕ) : Type 0 where
  pub within : number < length log
  pub is_out : is_record_in_order stream log number ≡ false
  pub before : (earlier : ℕ) → earlier < number → is_record_in_order stream log earlier ≡ true
