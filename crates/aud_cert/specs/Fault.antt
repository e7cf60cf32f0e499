-- The words of faults.
use Rattle.std.specs.Prelude.{ℕ, List, ◌++◌, codes, decimal}
use Rattle.aud_cert.specs.declared.fault.Fault.{Fault}
use Rattle.aud_cert.specs.declared.fault.Fault.TheVariants.{NoLog, Chain, Order, Client, Names, Frame, Orphan, Content, Extra, Doubled, Swapped, Lost, Window, Tail}

-- a fault's word, with the offset, the connection or the count that it is about
abbrev pub fault_text : Fault → List ℕ
fault_text NoLog = codes "NOLOG"
fault_text Chain = codes "CHAIN"
fault_text Order = codes "ORDER"
fault_text Client = codes "CLIENT"
fault_text Names = codes "NAMES"
fault_text Frame = codes "FRAME"
fault_text Orphan = codes "ORPHAN"
fault_text (Content off) = codes "CONTENT " ++ off
fault_text (Extra off) = codes "EXTRA " ++ off
fault_text (Doubled off) = codes "DOUBLED " ++ off
fault_text (Swapped off) = codes "SWAPPED " ++ off
fault_text (Lost off) = codes "LOST " ++ off
fault_text (Window c) = codes "WINDOW " ++ decimal c
fault_text (Tail count) = codes "TAIL " ++ decimal count
