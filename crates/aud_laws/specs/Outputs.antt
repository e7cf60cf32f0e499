-- What is written for inputs that are the same but for the order of their lines.
use Rattle.std.specs.Prelude.{◌≡◌, ◌⊎◌, ◌↔◌, ℕ, Bool, List, Err}
use Rattle.aud_reader.specs.declared.fault.ReadFault.{ReadFault}
use Rattle.aud_input.specs.Input.{input_of}
use Rattle.aud_cli.specs.declared.choice.Mode.{Mode}
use Rattle.aud_verdict.specs.Output.{OutputSeen}
use Rattle.aud_app.specs.Output.{IsOutput, layout_of}

-- a line of a mode's input is refused
abbrev pub IsRefused : Mode → List ℕ → Type 0
IsRefused mode bytes = (fault : ReadFault) × (input_of (layout_of mode) bytes ≡ Err fault)

-- the outputs of a mode for both inputs are the same, where the whole is asked for of both or of neither, or in both a
-- line is refused
abbrev pub AreWrittenAlike : Mode → Bool → List ℕ → List ℕ → Type 0
AreWrittenAlike mode whole bytes others = ((output : OutputSeen) → IsOutput mode whole bytes output ↔ IsOutput mode whole others output) ⊎ (IsRefused mode bytes × IsRefused mode others)
