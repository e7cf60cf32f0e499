-- What is written for inputs that are read alike.
use Rattle.std.proofs.Common.{◌≡◌, inl, inr, ℕ, Bool, List, Result, Ok, Err, refl, sym, ap, subst, ◌∙◌}
use Rattle.aud_reader.specs.declared.fault.ReadFault.{ReadFault}
use Rattle.aud_input.specs.declared.input.Layout.{Layout}
use Rattle.aud_input.specs.declared.input.Layout.TheVariants.{Bundle}
use Rattle.aud_input.specs.Input.{InputSeen, input_of}
use Rattle.aud_cli.specs.declared.choice.Mode.{Mode}
use Rattle.aud_app.specs.Output.{IsOutputOver, layout_of}
use Rattle.aud_laws.specs.Order.{AreSameButForOrder, AreReadAlike}
use Rattle.aud_laws.specs.Inputs.{line_texts}
use Rattle.aud_laws.specs.Outputs.{AreWrittenAlike}
use Rattle.aud_laws.proofs.AnyOrder.InputReadings.{inputs-alike}

-- inputs that are read alike have the same outputs, or none
read-written : (mode : Mode) (whole : Bool) (bytes others : List ℕ) → AreReadAlike (input_of (layout_of mode) bytes) (input_of (layout_of mode) others) → AreWrittenAlike mode whole bytes others
read-written mode whole bytes others alike = by (input_of (layout_of mode) bytes) (input_of (layout_of mode) others) refl refl alike
  where
    by : (one other : Result InputSeen ReadFault) → input_of (layout_of mode) bytes ≡ one → input_of (layout_of mode) others ≡ other → AreReadAlike one other → AreWrittenAlike mode whole bytes others
    by (Ok one) (Ok other) is_one is_other same =
        let both : input_of (layout_of mode) bytes ≡ input_of (layout_of mode) others = is_one ∙ ap (λ (i : InputSeen). Ok i) same ∙ sym is_other in
        inl (λ output. (λ o. subst (λ read. IsOutputOver mode whole read output) both o, λ o. subst (λ read. IsOutputOver mode whole read output) (sym both) o))
    by (Ok one) (Err other) is_one is_other same = absurd same
    by (Err one) (Ok other) is_one is_other same = absurd same
    by (Err one) (Err other) is_one is_other same = inr ((one, is_one), (other, is_other))

-- inputs that are the same but for the order of their lines, where all lines are of the bundle
pub outputs-alike : (mode : Mode) (whole : Bool) (bytes others : List ℕ) → layout_of mode ≡ Bundle → AreSameButForOrder (line_texts bytes) (line_texts others) → AreWrittenAlike mode whole bytes others
outputs-alike mode whole bytes others layout same =
    read-written mode whole bytes others (subst (λ (l : Layout). AreReadAlike (input_of l bytes) (input_of l others)) (sym layout) (inputs-alike bytes others same))
