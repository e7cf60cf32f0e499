use Rattle.aud_json.proofs.Runs.{copied}
use Rattle.aud_json.proofs.run.copy_plain.Goals as goal

pub returns-clause-copied : goal.returns-clause-copied
returns-clause-copied c =
    let a = c.args in
    copied a.bytes.now a.room.now a.from a.to c.plain_len.result c.requires.0 c.requires.1 c.plain_len.ensures
