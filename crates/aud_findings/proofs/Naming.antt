-- The taps that name a session, one more at a time.
use Rattle.std.proofs.Common.{◌≡◌, ◌<◌, ◌+◌, ◌++◌, ℕ, List, [], ◌∷◌, length, map, flat_map, take, get_or, refl, sym, ap, ◌∙◌, append-nil}
use Rattle.std.specs.List.{AllZip}
use Rattle.std.proofs.lemmas.List.{take_more}
use Rattle.std.proofs.lemmas.Grind.{flat_map-append}
use Rattle.aud_node.specs.Cluster.{Cluster}
use Rattle.aud_node.specs.Stream.{Text}
use Rattle.aud_client.specs.Received.{numbers_naming}
use Rattle.aud_rows.specs.StayRows.{stays_at}
use Rattle.aud_findings.specs.Unplaced.{IsNamingTap, NamingSeen}

-- the tap at the place, with the numbers of its stays whose reply names the session
abbrev pub named_tap : Cluster → Text → ℕ → NamingSeen
named_tap c pid place = record { place = place; numbers = numbers_naming pid (stays_at c place) }

pub taps_named : (c : Cluster) (pid : Text) (places : List ℕ) → AllZip (IsNamingTap c pid) places (map (named_tap c pid) places)
taps_named c pid [] = tt
taps_named c pid (place ∷ places) = (record { place_is = refl; are_its_stays = refl }, taps_named c pid places)

-- what is made of one more
pub one_more : {X Z : Type 0} (f : X → List Z) (xs : List X) (i : ℕ) (d : X) (old new : List Z) → i < length xs
    → old ≡ flat_map f (take i xs) → new ≡ old ++ f (get_or xs i d) → new ≡ flat_map f (take (i + 1) xs)
one_more f xs i d old new h was more =
    more
    ∙ ap (λ zs. zs ++ f (get_or xs i d)) was
    ∙ ap (λ zs. flat_map f (take i xs) ++ zs) (sym (append-nil (f (get_or xs i d))))
    ∙ sym (flat_map-append f (take i xs) (get_or xs i d ∷ []))
    ∙ sym (ap (flat_map f) (take_more xs i d h))
