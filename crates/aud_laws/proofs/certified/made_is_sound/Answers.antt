use Rattle.aud_laws.proofs.ReadBack.Sound.{made-sound}
use Rattle.aud_laws.proofs.certified.made_is_sound.Goals as goal

pub returns : goal.returns
returns c = λ cluster pid cert once named made. made-sound cluster once named pid cert made
