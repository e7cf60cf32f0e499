-- The line of the verdict.
use Rattle.std.specs.Prelude.{ℕ, List, [], ◌++◌, codes, decimal, Option, Some, None}
use Rattle.aud_cert.specs.Fault.{fault_text}
use Rattle.aud_verdict.specs.declared.verdict.Verdict.{Verdict}
use Rattle.aud_verdict.specs.declared.verdict.Verdict.TheVariants.{Yes, No}
use Rattle.aud_cert.specs.declared.class.Class.{Class}
use Rattle.aud_cert.specs.Class.{class_text}
use Rattle.aud_explanation.specs.declared.name.Names.TheVariants.{Short}
use Rattle.aud_explanation.specs.Named.{name_words}
use Rattle.aud_explanation.specs.Page.{laid_line}

-- as an audit prints it, but for a pid that isn't plain
abbrev pub verdict_words : List ℕ → Verdict → List ℕ
verdict_words pid (Yes got tail turns) = codes "yes " ++ name_words Short pid ++ codes " got=" ++ decimal got ++ codes " tail=" ++ decimal tail ++ codes " turns=" ++ decimal turns
verdict_words pid (No fault) = codes "no " ++ name_words Short pid ++ codes " " ++ fault_text fault

-- the class, where there is one
abbrev pub class_words : Option Class → List ℕ
class_words (Some class) = codes " [" ++ class_text class ++ codes "]"
class_words None = []

-- the line of the verdict
abbrev pub verdict_text : List ℕ → Verdict → Option Class → List ℕ
verdict_text pid verdict class = laid_line (verdict_words pid verdict ++ class_words class)
