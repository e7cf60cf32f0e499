-- What is made for sessions.
use Rattle.std.specs.Prelude.{List, Result, Ok, Err}
use Rattle.aud_node.specs.Stream.{Text}
use Rattle.aud_node.specs.Cluster.{Cluster}
use Rattle.aud_cert.specs.declared.fault.Fault.{Fault}
use Rattle.aud_cert.specs.Certificate.{CertificateSeen}
use Rattle.aud_maker.specs.declared.maker.MakeFault.TheVariants.{Fault as Because}
use Rattle.aud_maker.specs.Faults.{HasNoMakeFault, IsWhy}
use Rattle.aud_maker.specs.Made.{IsMade}
use Rattle.aud_base.specs.OneForEach.{OneForEach}

-- the session's certificate, where none of the maker's faults holds; else the first that does
abbrev pub IsMadeOf : Cluster → Text → Result CertificateSeen Fault → Type 0
IsMadeOf c pid (Ok cert) = IsMade c pid cert × HasNoMakeFault c pid
IsMadeOf c pid (Err fault) = IsWhy c pid (Because fault)

-- what is made for these sessions, one for each, in order
abbrev pub AreMadeOf : Cluster → List Text → List (Result CertificateSeen Fault) → Type 0
AreMadeOf c = OneForEach (IsMadeOf c)
