-- The classes of faults.
use Rattle.std.specs.Prelude.{ℕ, List, codes}
use Rattle.aud_cert.specs.declared.fault.Fault.{Fault}
use Rattle.aud_cert.specs.declared.fault.Fault.TheVariants.{NoLog, Chain, Order, Client, Names, Frame, Orphan}
use Rattle.aud_cert.specs.declared.class.Class.{Class}
use Rattle.aud_cert.specs.declared.class.Class.TheVariants.{Delivery, Packets, Recording}

-- of the recording: the logs have no session of turns on ordered nodes with one client and the same names. Of packets:
-- the client's tap has a record that is none, or an event without a session. Of delivery: all others
abbrev pub class_of : Fault → Class
class_of NoLog = Recording
class_of Chain = Recording
class_of Order = Recording
class_of Client = Recording
class_of Names = Recording
class_of Frame = Packets
class_of Orphan = Packets
class_of _ = Delivery

-- the word for a class
abbrev pub class_text : Class → List ℕ
class_text Delivery = codes "delivery"
class_text Packets = codes "packets"
class_text Recording = codes "recording"
