use Rattle.std.proofs.Common.{Some, refl, ap, inl, inr}
use Rattle.std.specs.Str.{is_utf8}
use Rattle.std.proofs.lemmas.Bool.{cases_Bool}
use Rattle.std.proofs.lemmas.Str.{IsUtf8-from_is_utf8, is_utf8-from_IsUtf8}
use Rattle.aud_parts.proofs.cut.text_in.Goals as goal

pub returns-in_default : goal.returns-in_default
returns-in_default c =
    elim (cases_Bool (is_utf8 c.args.bytes.now)) [
      | inl is ↦ absurd (c.in_default.ensures.cases.0 (IsUtf8-from_is_utf8 c.args.bytes.now is))
      | inr is ↦ rw is refl
    ]

pub returns : goal.returns
returns c = let h = c.in-Ok.ensures.cases in rw (is_utf8-from_IsUtf8 c.args.bytes.now h.1) (ap Some h.0)
