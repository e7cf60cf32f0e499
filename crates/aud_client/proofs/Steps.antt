-- What the code keeps, through one packet more.
use Rattle.std.proofs.Common.{◌≡◌, ℕ, true, false, ◌&&◌, cond, List, [], ◌∷◌, ◌++◌, length, set, refl, arith, Some, None, slice_get}
use Rattle.std.specs.List.{list_any}
use Rattle.std.specs.Str.{bytes_eq}
use Rattle.std.proofs.lemmas.List.Folds.{list_any-append}
use Rattle.aud_client.specs.TapPackets.{TapPacket}
use Rattle.aud_client.specs.Stays.{namespace, is_connect, is_disconnect, is_reply, stay_after, begins_stay, stays}
use Rattle.aud_client.specs.Open.{has_stay, place, open_place}
use Rattle.aud_base.proofs.SameText.{same_text}
use Rattle.aud_client.proofs.Places.{stay_after-same, stay_after-other}
use Rattle.aud_client.proofs.OnePass.{grow, last_in-none, last_in-stays, stays-begins, stays-goes_on, place-grow, place-push, grow-set}

-- no place, no stay
place-some : (n : List ℕ) (ss : List (List TapPacket)) → place n ss ≡ None → has_stay n ss ≡ false
place-some n [] e = refl
place-some n (s ∷ ss) e = grind (arith, place-some n ss)

-- where no stay goes on in its namespace, a packet begins one
pub open-none : (l : List TapPacket) (p : TapPacket) → open_place (namespace p) l ≡ None → begins_stay l p ≡ true
open-none l p e = grind (arith, last_in-stays (namespace p) l, last_in-none (namespace p) (stays l), place-some (namespace p) (stays l))

-- where one does: which it is, and when the packet goes on with it
pub open-some : (l : List TapPacket) (p : TapPacket) (k : ℕ) → open_place (namespace p) l ≡ Some k
    → (slice_get (stays l) k ≡ Some (stay_after (namespace p) l))
    × (begins_stay l p ≡ (is_connect p && list_any is_reply (stay_after (namespace p) l)))
    × (grow (namespace p) p (stays l) ≡ set (stays l) k (stay_after (namespace p) l ++ p ∷ []))
open-some l p k e = grind (arith, grow-set (namespace p) p (stays l) k, last_in-stays (namespace p) l)

-- ---- what stands open after the packet

-- after a packet that begins a stay
pub open-begins : (l : List TapPacket) (p : TapPacket) → begins_stay l p ≡ true → (m : List ℕ)
    → open_place m (l ++ p ∷ []) ≡ cond (bytes_eq (namespace p) m) (cond (is_disconnect p) None (Some (length (stays l)))) (open_place m l)
open-begins l p e m = grind (arith, stays-begins [] l p, place-push m p (stays l), stay_after-same m l p, stay_after-other m l p, same_text (namespace p) m)

-- after a packet that goes on with one
pub open-goes_on : (l : List TapPacket) (p : TapPacket) → begins_stay l p ≡ false → (m : List ℕ)
    → open_place m (l ++ p ∷ []) ≡ cond (bytes_eq (namespace p) m) (cond (is_disconnect p) None (open_place m l)) (open_place m l)
open-goes_on l p e m =
    grind (arith, stays-goes_on [] l p, place-grow (namespace p) m p (stays l), stay_after-same m l p, stay_after-other m l p, same_text (namespace p) m, list_any-append is_disconnect (stay_after m l) (p ∷ []))
