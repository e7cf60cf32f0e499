-- What the tap of a socket tells of a message.
use Rattle.std.specs.Prelude.{◌≡◌, ⊤, ℕ, nat_le, List, ◌∷◌, ◌++◌, length, true, Option, Some, None, Result, Ok, Err}
use Rattle.std.specs.declared.vec.Vec.{Vec}
use Rattle.std.specs.declared.alloc.Global.{Global}
use Rattle.serde_json.specs.Written.{compact_text}
use Rattle.tungstenite.specs.declared.error.Error.{Error}
use Rattle.tungstenite.specs.declared.error.Error.TheVariants.{OutOfMemory}
use Rattle.tungstenite.specs.declared.message.Message.{Message}
use Rattle.tungstenite.specs.declared.message.Message.TheVariants as message
use Rattle.tungstenite.specs.Socket.{Socket, Reads}
use Rattle.aud_tap.specs.declared.records.ClientRec.{ClientRec}
use Rattle.aud_tap.specs.declared.records.ClientRec.TheVariants.{TextIn, BytesIn, Lost}
use Rattle.aud_tap.specs.declared.records.Rec.TheVariants.{Client}
use Rattle.aud_tap.specs.Limits.{max_line}
use Rattle.aud_tap.specs.TapName.{is_tap_name}
use Rattle.aud_reader.specs.Record.{line_record}
use Rattle.aud_writer.specs.Written.{client_data}
use Rattle.aud_wire.specs.declared.fault.WireFault.{WireFault}
use Rattle.aud_wire.specs.declared.fault.WireFault.TheVariants as fault

-- the record of a message from the server; of a ping and of a pong there is none
abbrev pub record_of : Message → Option ClientRec
record_of (message.Text t) = Some (TextIn t)
record_of (message.Binary b) = Some (BytesIn b)
record_of (message.Ping b) = None
record_of (message.Pong b) = None
record_of (message.Close frame) = Some Lost

-- after any tap's name and a blank the bytes read as this record, unless that line is too long
abbrev pub ReadAs : ClientRec → List ℕ → Type 0
ReadAs rec json =
    (name : List ℕ) → is_tap_name name ≡ true → nat_le (length (name ++ 32 ∷ json)) max_line ≡ true
    → line_record (name ++ 32 ∷ json) ≡ Ok (name, Client rec)

-- the bytes are the record's JSON as a bundle's writer has it, and read as the record
pub record Spells (rec : ClientRec) (json : List ℕ) : Type 0 where
  pub written : json ≡ compact_text (client_data rec)
  pub reads_back : ReadAs rec json

-- bytes that spell this record, and none where there is none
abbrev pub SpellsIfAny : Option ClientRec → Option (Vec ℕ Global) → Type 0
SpellsIfAny (Some rec) (Some json) = Spells rec json.items
SpellsIfAny None None = ⊤
SpellsIfAny rec json = ⊥

-- what there is of a record, or running out of memory
abbrev pub Told : Result (Option (Vec ℕ Global)) WireFault → Option ClientRec → Type 0
Told (Ok json) rec = SpellsIfAny rec json
Told (Err e) rec = e ≡ fault.Memory

-- what the tap gives where the socket's read gave this: the message's record, unless memory ran out
abbrev pub Tells : Result Message Error → Result (Option (Vec ℕ Global)) WireFault → Type 0
Tells (Ok m) told = Told told (record_of m)
Tells (Err e) (Ok json) = ⊥
Tells (Err e) (Err fault.Memory) = e ≡ OutOfMemory
Tells (Err e) (Err fault.Socket) = ¬ (e ≡ OutOfMemory)

-- one read of the socket, and what the tap gave of what it read
abbrev pub TapsOne : {S : Type 0} → (S → Option (List ℕ)) → Socket S → Socket S → Result (Option (Vec ℕ Global)) WireFault → Type 0
TapsOne remaining old new told = (r : Result Message Error) × Reads remaining old new r × Tells r told
