use Rattle.std.proofs.Common.{rules}
use Rattle.aud_explain_app.proofs.explained.explained_by.Goals as goal

pub returns : goal.returns
returns c = record {
  account = c.in_ok-account.account;
  is_account = search rules;
  noted = c.in_ok-noted.noted;
  is_noted = search rules;
  rows_are_true = c.in_ok-outcome.ensures.truth;
  evidence = search rules;
  client = c.in_ok-outcome.ensures.client;
  received = search rules;
  also = search rules;
  turns = search rules;
  recoveries = search rules;
  events = search rules;
  causes = search rules;
  sure = search rules;
}
