-- The words of why a certificate is not read.
use Rattle.std.specs.Prelude.{ℕ, List, codes}
use Rattle.aud_cert.specs.declared.text_fault.CertFault.{CertFault}
use Rattle.aud_cert.specs.declared.text_fault.CertFault.TheVariants.{Syntax, UnknownTap, Range, Memory}

-- the code and the name of a refusal
abbrev pub cert_fault_text : CertFault → List ℕ
cert_fault_text Syntax = codes "K1 Syntax"
cert_fault_text UnknownTap = codes "K2 UnknownTap"
cert_fault_text Range = codes "K3 Range"
cert_fault_text Memory = codes "K4 Memory"
