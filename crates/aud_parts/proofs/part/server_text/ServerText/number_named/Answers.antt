use Rattle.std.proofs.Common.{◌∙◌, ap, bytes_eq, position, refl}
use Rattle.aud_parts.specs.declared.part.server_text.PlacedTap.{PlacedTap}
use Rattle.aud_parts.specs.ServerTexts.{TapText}
use Rattle.aud_parts.specs.Private.PlacedTexts.{placed_text}
use Rattle.aud_parts.proofs.ListSteps.{position-first_index}
use Rattle.aud_parts.proofs.part.server_text.ServerText.number_named.Goals as goal

pub returns : goal.returns
returns c =
    let name = c.args.name.now in
    let taps = c.self.inside.taps.items in
    rw (← c.self.view_is)
    (c.place_named.ensures ∙ ap (position (λ (tap : PlacedTap). bytes_eq tap.name name)) c.deref.ensures.value
    ∙ position-first_index (λ (tap : PlacedTap). bytes_eq tap.name name) (λ (tap : TapText). bytes_eq tap.name name) (placed_text c.self.inside.text.items) (λ tap. refl) taps)
