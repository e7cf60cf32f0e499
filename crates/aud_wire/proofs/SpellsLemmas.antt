-- Texts that are written for a client's record spell it.
use Rattle.std.proofs.Common.{◌≡◌, ◌≤◌, String, string_bytes, Some, Ok, Err, Result, Global, false, refl, ap, ◌∙◌, arith, IfOk}
use Rattle.std.proofs.lemmas.Str.{IsUtf8-string_bytes}
use Rattle.serde_json.specs.Data.{Data, depth}
use Rattle.serde_json.specs.Read.{read}
use Rattle.serde_json.specs.Written.{has_float, compact_text}
use Rattle.aud_tap.specs.declared.records.ClientRec.{ClientRec}
use Rattle.aud_tap.specs.declared.records.Rec.TheVariants.{Client}
use Rattle.aud_tap.proofs.Json.{json_or-read}
use Rattle.aud_reader.specs.Record.{json_of}
use Rattle.aud_reader.specs.declared.fault.InputCode.TheVariants.{NotJson}
use Rattle.aud_writer.specs.Written.{client_data}
use Rattle.aud_writer.specs.BytesBack.{DecodeBack, client_bytes}
use Rattle.aud_writer.proofs.JsonText.{record-plain}
use Rattle.aud_writer.proofs.LineBack.{line-back}
use Rattle.aud_wire.specs.Wire.{Spells}

-- the text that is written for the value of a record spells the record
pub spells : {E : Type 0} (r : Result (String Global) E) (v : Data) (rec : ClientRec) → v ≡ client_data rec → DecodeBack (client_bytes rec)
    → IfOk r (λ s. has_float v ≡ false → string_bytes s ≡ compact_text v)
    → IfOk r (λ s. depth v ≤ 127 → read (string_bytes s) ≡ Some v)
    → IfOk r (λ s. Spells rec (string_bytes s))
unfolding json_of
spells (Ok s) v rec is back text reads =
    let plain = record-plain (Client rec) in
    let shallow : depth v ≤ 127 = rw is (let d = plain.0 in omega arith) in
    let no_float : has_float v ≡ false = rw is plain.1 in
    let bytes : string_bytes s ≡ compact_text (client_data rec) = text no_float ∙ ap compact_text is in
    let parsed : json_of (compact_text (client_data rec)) ≡ Ok (client_data rec) =
    rw (← bytes) (json_or-read NotJson (string_bytes s) (client_data rec) (IsUtf8-string_bytes s, reads shallow ∙ ap Some is)) in
    record {
      written = bytes;
      reads_back = λ name named fits. rw bytes (line-back name (Client rec) named refl (rw bytes at fits) parsed back);
    }
spells (Err e) v rec is back text reads = tt
