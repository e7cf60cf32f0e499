use Rattle.aud_json.proofs.fields.Fields.read.Goals as goal

pub returns-in-Some-clause-shows : goal.returns-in-Some-clause-shows
returns-in-Some-clause-shows c = rw c.in-Some.is at c.in_ok-members.ensures
