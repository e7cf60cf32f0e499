-- Reasons for which an entry is not due to a session.
use Rattle.aud_node.specs.Stream.{Text}

-- the node on which the session was opened had taken the entry before; the session reached it in no turn; it is an
-- event of another namespace; it is none that is sent again after a recovery; it is for rooms of which the session held
-- none; it excepts this room, the first of those it excepts that the session held
pub data Reason : Type 0 where
  BeforeBirth : Reason
  InNoTurn : Reason
  OtherNamespace : Reason
  NotRecoverable : Reason
  NoCommonRoom : Reason
  Excepted : Text → Reason
