use Rattle.aud_explanation.proofs.text.record.push_record.Goals as goal

-- each is what its pieces say

pub returns-in-Takes : goal.returns-in-Takes
returns-in-Takes c = rw c.in-Takes.is c.push_pieces-in-Takes.ensures

pub returns-in-Reply : goal.returns-in-Reply
returns-in-Reply c = rw c.in-Reply.is c.push_pieces-in-Reply.ensures
