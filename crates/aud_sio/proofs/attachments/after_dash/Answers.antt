use Rattle.aud_sio.proofs.DashLemmas.{after_dash-is}
use Rattle.aud_sio.proofs.attachments.after_dash.Goals as goal

pub returns : goal.returns
returns c = after_dash-is c.args.text.now c.strip_prefix.result c.strip_prefix.ensures.cases
