-- What an index keeps of a list: the numbers, ascending, of the elements that pass a test.
use Rattle.std.proofs.Common.{◌≡◌, ℕ, ◌+◌, ◌<◌, suc, Bool, false, List, [], ◌∷◌, ◌++◌, length, take, get_or, refl, sym, ap, ◌∙◌, arith, append_assoc, length-append, Option, slice_get}
use Rattle.std.specs.List.{filter, filter_map, cons_option}
use Rattle.std.specs.Option.{option_map_or}
use Rattle.std.proofs.lemmas.List.{take_more}
use Rattle.std.proofs.lemmas.List.Elements.{filter_map-append}
use Rattle.aud_base.specs.Lists.{numbers_from}
use Rattle.aud_base.specs.Places.{places_where}
use Rattle.aud_base.proofs.Lists.{after_these}
use Rattle.aud_node.specs.Stream.{Text}
use Rattle.aud_client.specs.StaySeen.{StaySeen}
use Rattle.aud_client.specs.Received.{numbers_naming, stay_names_pid, stays_naming, stays_numbered}

module _ {X : Type 0} where
  -- the elements with the numbers kept are those that pass: of the last ones, which stand after n others
  numbered : (p : X → Bool) (all xs ys : List X) (n : ℕ) → xs ++ ys ≡ all → length xs ≡ n
      → filter_map (slice_get all) (filter (λ k. option_map_or p (slice_get all k) false) (numbers_from n (length ys))) ≡ filter p ys
  numbered p all xs [] n e l = refl
  numbered p all xs (y ∷ ys) n e l =
      grind (
        arith,
        sym (ap (slice_get all) l) ∙ sym (ap (λ zs. slice_get zs (length xs)) e) ∙ after_these xs ys y,
        numbered p all (xs ++ y ∷ []) ys (suc n) (append_assoc xs (y ∷ []) ys ∙ e) (omega (arith, length-append xs (y ∷ []), l)),
      )

  -- all elements
  pub numbered_all : (p : X → Bool) (xs : List X) → filter_map (slice_get xs) (places_where (λ k. option_map_or p (slice_get xs k) false) (length xs)) ≡ filter p xs
  numbered_all p xs = numbered p xs [] xs 0 refl refl

  -- the elements with the first of these numbers, with one number more
  pub numbered-next : (xs : List X) (numbers : List ℕ) (i : ℕ) (o : Option X) (old new : List X) → i < length numbers → o ≡ slice_get xs (get_or numbers i 0)
      → old ≡ filter_map (slice_get xs) (take i numbers) → new ≡ old ++ cons_option o [] → new ≡ filter_map (slice_get xs) (take (i + 1) numbers)
  numbered-next xs numbers i o old new within is before after =
      after ∙ ap (λ zs. zs ++ cons_option o []) before ∙ ap (λ u. filter_map (slice_get xs) (take i numbers) ++ cons_option u []) is
      ∙ sym (ap (filter_map (slice_get xs)) (take_more numbers i 0 within) ∙ filter_map-append (slice_get xs) (take i numbers) (get_or numbers i 0 ∷ []))

-- the stays with the numbers of those that name a session are those that name it
pub numbered_naming : (pid : Text) (ss : List StaySeen) → stays_numbered ss (numbers_naming pid ss) ≡ stays_naming pid ss
numbered_naming pid ss = numbered_all (stay_names_pid pid) ss
