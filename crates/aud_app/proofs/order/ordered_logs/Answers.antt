use Rattle.std.proofs.Common.{◌≡◌, ap, ◌∙◌, string_bytes}
use Rattle.aud_verdict.specs.Output.{OutputSeen}
use Rattle.aud_merge.specs.Text.{order_text}
use Rattle.aud_app.proofs.order.ordered_logs.Goals as goal

pub returns : goal.returns
returns c =
    let shown = c.in_ok-shown.shown in
    let text : string_bytes c.in_ok-text.text ≡ order_text c.args.logs.now.taps shown = c.in_ok-text.ensures in
    let seen : OutputSeen = record { status = c.order_status-status.result; text = order_text c.args.logs.now.taps shown } in (
      shown,
      c.in_ok-shown.ensures,
      ap (λ t. record seen { text = t }) text ∙ ap (λ s. record seen { status = s }) c.order_status-status.ensures,
    )
