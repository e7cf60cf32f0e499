use Rattle.aud_desk.proofs.Drawn.{apart, once, below_word, some_seat, all_below, bounded}
use Rattle.aud_desk.proofs.laws.drawn_once.Goals as goal

pub returns : goal.returns
returns c = record { apart = apart; once = once; below = below_word; drawn = some_seat; all = all_below; bounded = bounded }
