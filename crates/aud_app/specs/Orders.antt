-- The output that shows a run of the logs, or that there is none.
use Rattle.std.specs.Prelude.{◌≡◌}
use Rattle.aud_node.specs.Cluster.{Cluster}
use Rattle.aud_verdict.specs.declared.output.Status.{Status}
use Rattle.aud_verdict.specs.declared.output.Status.TheVariants.{AllYes, SomeNo}
use Rattle.aud_verdict.specs.Output.{OutputSeen}
use Rattle.aud_merge.specs.declared.answer.Order.{Order}
use Rattle.aud_merge.specs.declared.answer.Order.TheVariants.{Run, Blocked}
use Rattle.aud_merge.specs.Shown.{IsShown}
use Rattle.aud_merge.specs.Text.{order_text}

-- a run was shown, or there is none
abbrev pub order_status : Order → Status
order_status (Run steps) = AllYes
order_status (Blocked fronts) = SomeNo

-- the text of a run, or of the records that block
abbrev pub IsOrdering : Cluster → OutputSeen → Type 0
IsOrdering c output = (order : Order) × IsShown c order × (output ≡ record { status = order_status order; text = order_text c.taps order })
