-- The members of the verdict.
use Rattle.std.specs.Prelude.{ℕ, List, codes, Option, Some, None}
use Rattle.serde_json.specs.Data.{Data, null, string, Members, put}
use Rattle.aud_cert.specs.Text.{whole}
use Rattle.aud_cert.specs.declared.class.Class.{Class}
use Rattle.aud_cert.specs.Class.{class_text}
use Rattle.aud_cert.specs.FaultWord.{fault_word}
use Rattle.aud_verdict.specs.declared.verdict.Verdict.{Verdict}
use Rattle.aud_verdict.specs.declared.verdict.Verdict.TheVariants.{Yes, No}
use Rattle.aud_cert.specs.declared.fault.Fault.{Fault}
use Rattle.aud_cert.specs.declared.fault.Fault.TheVariants.{Content, Extra, Doubled, Swapped, Lost}
use Rattle.aud_explanation.specs.JsonValue.{text_or_null}

-- the offset of the entry that the fault is of
abbrev pub fault_off : Fault → Option (List ℕ)
fault_off (Content off) = Some off
fault_off (Extra off) = Some off
fault_off (Doubled off) = Some off
fault_off (Swapped off) = Some off
fault_off (Lost off) = Some off
fault_off _ = None

-- `yes` or `no`
abbrev pub verdict_word : Verdict → List ℕ
verdict_word (Yes got tail turns) = codes "yes"
verdict_word (No fault) = codes "no"

-- the name of the fault
abbrev pub fault_named : Verdict → Option (List ℕ)
fault_named (Yes got tail turns) = None
fault_named (No fault) = Some (fault_word fault)

-- the offset of the entry that it is of
abbrev pub off_under : Verdict → Option (List ℕ)
off_under (Yes got tail turns) = None
off_under (No fault) = fault_off fault

-- the class
abbrev pub class_data : Option Class → Data
class_data (Some class) = string (class_text class)
class_data None = null

-- the version, the session, the verdict on it, the fault, the offset of its entry, and its class
unfoldable pub with_verdict : List ℕ → Verdict → Option Class → Members → Members
with_verdict pid verdict class ms =
    put (codes "class") (class_data class)
    (put (codes "off") (text_or_null (off_under verdict))
    (put (codes "fault") (text_or_null (fault_named verdict))
    (put (codes "verdict") (string (verdict_word verdict))
    (put (codes "pid") (string pid)
    (put (codes "v") (whole 1) ms)))))
