-- The words of a refusal, and of what an accepted certificate shows.
use Rattle.std.specs.Prelude.{ℕ, List, ◌++◌, codes, decimal}
use Rattle.aud_cert.specs.Fault.{fault_text}
use Rattle.aud_check.specs.declared.refusal.Refusal.{Refusal}
use Rattle.aud_check.specs.declared.refusal.Refusal.TheVariants.{NotItsTurn, EndInside, NoEnd, Cursor, Span, Names, Received, Memory}
use Rattle.aud_check.specs.declared.certificate.Accepted.{Accepted}

-- the code and the name of a refusal, and the fault where what the client received is at fault
abbrev pub refusal_text : Refusal → List ℕ
refusal_text NotItsTurn = codes "K5 NotItsTurn"
refusal_text EndInside = codes "K6 EndInside"
refusal_text NoEnd = codes "K7 NoEnd"
refusal_text Cursor = codes "K8 Cursor"
refusal_text Span = codes "K9 Span"
refusal_text Names = codes "K10 Names"
refusal_text (Received fault) = codes "K11 Received " ++ fault_text fault
refusal_text Memory = codes "K12 Memory"

-- how many due events were received, how many after them were not, and over how many turns
abbrev pub accepted_text : Accepted → List ℕ
accepted_text a = codes "got=" ++ decimal a.got ++ codes " tail=" ++ decimal a.tail ++ codes " turns=" ++ decimal a.turns
