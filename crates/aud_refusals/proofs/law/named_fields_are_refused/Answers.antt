use Rattle.aud_refusals.proofs.KindsTold.{field-named, limit-named}
use Rattle.aud_refusals.proofs.law.named_fields_are_refused.Goals as goal

pub returns-clause-field : goal.returns-clause-field
returns-clause-field c = field-named

pub returns-clause-limit : goal.returns-clause-limit
returns-clause-limit c = limit-named
