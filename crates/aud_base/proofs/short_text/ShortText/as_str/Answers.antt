use Rattle.std.proofs.Common.{subst, sym}
use Rattle.std.proofs.lemmas.Str.{IsUtf8-had}
use Rattle.std.specs.Prelude.{IsUtf8, take}
use Rattle.aud_base.proofs.short_text.ShortText.as_str.Goals as goal

-- src/short_text.rt:64:18
pub from_utf8_unchecked-requires : goal.from_utf8_unchecked-requires
from_utf8_unchecked-requires c = subst (λ n. IsUtf8 (take n c.self.inside.bytes)) (sym c.count_of-count.ensures) (IsUtf8-had _ c.self.invariant)
