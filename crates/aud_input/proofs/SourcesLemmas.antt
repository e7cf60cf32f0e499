-- What a read of one of the files leaves of all.
use Rattle.std.proofs.Common.{◌≡◌, ℕ, suc, ◌-◌, ◌<◌, ◌==◌, List, [], ◌∷◌, ◌++◌, length, Bool, true, false, not, cond, Option, Some, None, option_map, slice_index, refl, sym, ap, ◌∙◌, arith, append_assoc}
use Rattle.std.specs.Io.KnownBytes.{Keeps, Consumes, IsAtEnd}
use Rattle.aud_input.specs.Sources.{is_begun, ended, joined_after, all_known, left_of}
use Rattle.aud_input.proofs.GivenLemmas.{begun-append}

-- ---- bytes in two parts

ended-append : (begun : Bool) (a b : List ℕ) → ended begun (a ++ b) ≡ a ++ ended (is_begun begun a) b
ended-append begun a b = rw begun-append (append_assoc a b (cond (is_begun (is_begun begun a) b) (10 ∷ []) []))

-- what was read of the first file is the front of all
joined-read : (begun : Bool) (bs ys : List ℕ) (files : List (List ℕ)) → joined_after begun ((bs ++ ys) ∷ files) ≡ bs ++ joined_after (is_begun begun bs) (ys ∷ files)
joined-read begun bs ys [] = refl
joined-read begun bs ys (f ∷ files) =
    ap (λ t. t ++ joined_after false (f ∷ files)) (ended-append begun bs ys) ∙ append_assoc bs (ended (is_begun begun bs) ys) (joined_after false (f ∷ files))

-- the last byte says whether a line has begun
pub begun-last : (begun : Bool) (bytes : List ℕ) → 0 < length bytes → is_begun begun bytes ≡ not (slice_index bytes (length bytes - 1) == 10)
begun-last begun [] h = absurd (omega arith)
begun-last begun (x ∷ []) h = refl
begun-last begun (x ∷ y ∷ bytes) h =
    let more : length (x ∷ y ∷ bytes) - 1 ≡ suc (length (y ∷ bytes) - 1) = omega arith in
    begun-last (not (x == 10)) (y ∷ bytes) (omega arith) ∙ sym (ap (λ i. not (slice_index (x ∷ y ∷ bytes) i == 10)) more)

-- ---- a read

-- bytes that were kept and are then consumed
pub consumes-after : (a b c : Option (List ℕ)) (bs : List ℕ) → Keeps a b → Consumes b c bs → Consumes a c bs
consumes-after None b c bs kept read = tt
consumes-after (Some xs) None c bs kept read = absurd kept
consumes-after (Some xs) (Some ys) None bs kept read = read
consumes-after (Some xs) (Some ys) (Some zs) bs kept read = sym kept ∙ read

-- bytes of the file that is read
pub left-read : (begun : Bool) (o p : Option (List ℕ)) (os : List (Option (List ℕ))) (bs : List ℕ) → Consumes o p bs → Consumes (left_of begun o os) (left_of (is_begun begun bs) p os) bs
left-read begun None p os bs read = tt
left-read begun (Some xs) None os bs read = absurd read
left-read begun (Some xs) (Some ys) os bs read = go (all_known os)
  where
    go : (known : Option (List (List ℕ))) → Consumes (option_map (joined_after begun) (option_map (λ others. xs ∷ others) known)) (option_map (joined_after (is_begun begun bs)) (option_map (λ others. ys ∷ others) known)) bs
    go None = tt
    go (Some files) = ap (λ t. joined_after begun (t ∷ files)) read ∙ joined-read begun bs ys files

-- a file that has come to its end, where a line had begun, is followed by a newline
pub left-ended : (o p next : Option (List ℕ)) (os : List (Option (List ℕ))) → Consumes o p [] → IsAtEnd p → Consumes (left_of true o (next ∷ os)) (left_of false next os) (10 ∷ [])
left-ended None p next os read end = tt
left-ended (Some xs) None next os read end = absurd read
left-ended (Some xs) (Some ys) None os read end = tt
left-ended (Some xs) (Some ys) (Some zs) os read end = go (all_known os)
  where
    empty : xs ≡ []
    empty = read ∙ end

    go : (known : Option (List (List ℕ))) → Consumes (option_map (joined_after true) (option_map (λ others. xs ∷ others) (option_map (λ others. zs ∷ others) known))) (option_map (joined_after false) (option_map (λ others. zs ∷ others) known)) (10 ∷ [])
    go None = tt
    go (Some files) = ap (λ t. joined_after true (t ∷ zs ∷ files)) empty
