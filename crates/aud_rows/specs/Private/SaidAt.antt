-- What a record says, by its number.
use Rattle.aud_rows.specs.declared.client.SaidAt.{SaidAt}
use Rattle.aud_rows.specs.Seen.{says_seen}
use Rattle.aud_rows.specs.Rows.{Said}

abbrev pub said_seen : SaidAt → Said
said_seen at = (at.number, says_seen at.says)
