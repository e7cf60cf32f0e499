-- The words of faults.
use Rattle.std.specs.Prelude.{ℕ, List, codes}
use Rattle.aud_cert.specs.declared.fault.Fault.{Fault}
use Rattle.aud_cert.specs.declared.fault.Fault.TheVariants.{NoLog, Chain, Order, Client, Names, Frame, Orphan, Content, Extra, Doubled, Swapped, Lost, Window, Tail}

-- a fault's word, without the offset, the connection or the count that it is about
abbrev pub fault_word : Fault → List ℕ
fault_word NoLog = codes "NOLOG"
fault_word Chain = codes "CHAIN"
fault_word Order = codes "ORDER"
fault_word Client = codes "CLIENT"
fault_word Names = codes "NAMES"
fault_word Frame = codes "FRAME"
fault_word Orphan = codes "ORPHAN"
fault_word (Content off) = codes "CONTENT"
fault_word (Extra off) = codes "EXTRA"
fault_word (Doubled off) = codes "DOUBLED"
fault_word (Swapped off) = codes "SWAPPED"
fault_word (Lost off) = codes "LOST"
fault_word (Window conn) = codes "WINDOW"
fault_word (Tail count) = codes "TAIL"
