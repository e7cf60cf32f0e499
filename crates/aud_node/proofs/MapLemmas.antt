-- Maps from borrowed texts.
use Rattle.std.proofs.Common.{◌≡◌, cond, List, ℕ, Bor, Option}
use Rattle.std.specs.HashMap as hash
use Rattle.std.specs.HashMap.{HashMap}
use Rattle.std.specs.Str.{bytes_eq}
use Rattle.std.proofs.lemmas.Map.Text.{hash_map_updates_str}

-- what the map has for a text after a change at the key
pub get-updated : {X S : Type 0} (old new : HashMap (Bor (List ℕ)) X S) (key : List ℕ) (w : Option X)
    → hash.UpdatesBy (λ x y. bytes_eq x.now y.now) (λ k. bytes_eq key k.now) old new w → (text : List ℕ)
    → hash.get_by (λ k. bytes_eq text k.now) new ≡ cond (bytes_eq key text) w (hash.get_by (λ k. bytes_eq text k.now) old)
get-updated old new key w updates text = hash_map_updates_str key old new w updates text
