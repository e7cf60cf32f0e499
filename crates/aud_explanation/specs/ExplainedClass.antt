-- The class of what is explained.
use Rattle.std.specs.Prelude.{List, [], ◌∷◌, Option, Some, None}
use Rattle.aud_cert.specs.declared.class.Class.{Class}
use Rattle.aud_cert.specs.declared.class.Class.TheVariants.{Delivery}
use Rattle.aud_cert.specs.Class.{class_of}
use Rattle.aud_verdict.specs.declared.verdict.Verdict.{Verdict}
use Rattle.aud_verdict.specs.declared.verdict.Verdict.TheVariants.{Yes, No}
use Rattle.aud_explanation.specs.declared.refused.RefusedRecovery.{RefusedRecovery}
use Rattle.aud_explanation.specs.declared.explanation.Explanation.{Explanation}

-- that of the fault; of delivery, where there is none and a recovery was refused
abbrev pub class_under : Verdict → List RefusedRecovery → Option Class
class_under (No fault) refused = Some (class_of fault)
class_under (Yes got tail turns) [] = None
class_under (Yes got tail turns) (r ∷ refused) = Some Delivery

-- the class of what is explained
abbrev pub class_of_explained : Explanation → Option Class
class_of_explained e = class_under e.verdict.now e.refused.now
