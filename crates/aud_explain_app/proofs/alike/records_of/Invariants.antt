use Rattle.std.proofs.Common.{◌≡◌, ◌++◌, flat_map, slice_get, string_bytes, take}
use Rattle.aud_cert.specs.FaultWord.{fault_word}
use Rattle.aud_explain_app.specs.Alike.{tap_name}
use Rattle.aud_explain_app.proofs.alike.records_of.Given as goal

abbrev pub invariant-loop-place : goal.invariant-loop-place
invariant-loop-place l = string_bytes l.name ≡ fault_word l.fn.fault ++ flat_map (λ place. tap_name (slice_get l.fn.taps place)) (take l.place-index l.places)
