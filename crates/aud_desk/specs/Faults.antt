-- Why an audit gives no report.
use Rattle.aud_desk.specs.declared.fault.AuditFault.{AuditFault}
use Rattle.aud_desk.specs.declared.fault.AuditFault.TheVariants.{Workers, Spawn, Memory}

-- memory could not be had
abbrev pub IsMemory : AuditFault → Type 0
IsMemory (Memory n) = Unit {0}
IsMemory Workers = ⊥
IsMemory Spawn = ⊥

-- the number of workers is not what is refused
abbrev pub IsNotWorkers : AuditFault → Type 0
IsNotWorkers Workers = ⊥
IsNotWorkers Spawn = Unit {0}
IsNotWorkers (Memory n) = Unit {0}
