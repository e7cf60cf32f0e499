-- Positions among the entries that were appended.
use Rattle.std.proofs.Common.{◌≡◌, ◌≤◌, ℕ, zero, suc, cond, List, [], ◌∷◌, take, Option, Some, None, refl, sym, ap, ◌∙◌, nat_le, arith}
use Rattle.std.proofs.lemmas.Bool.{le-leb}
use Rattle.std.proofs.lemmas.Bool.Decides.{nat_tests}
use Rattle.aud_tap.specs.declared.records.StreamRec.{StreamRec}
use Rattle.aud_node.specs.Stream.{Text, position}

-- a position, where it is no more than this number
abbrev pub up_to : ℕ → Option ℕ → Option ℕ
up_to a None = None
up_to a (Some p) = cond (nat_le p a) (Some p) None

-- among the first entries an offset has its position in the whole stream, where that is among them
pub position-taken : (a : ℕ) (stream : List StreamRec) (off : Text) → position (take a stream) off ≡ up_to a (position stream off)
position-taken zero [] off = refl
position-taken (suc a) [] off = refl
position-taken zero (x ∷ xs) off = grind (arith, nat_tests)
position-taken (suc a) (x ∷ xs) off = grind (arith, nat_tests, position-taken a xs off)

-- a position up to a number is that position, and no more than the number
up_to-is : (a : ℕ) (o : Option ℕ) (q : ℕ) → up_to a o ≡ Some q → (o ≡ Some q) × (q ≤ a)
up_to-is a o q e = grind (arith, nat_tests)

-- an offset of an appended entry has its position in the whole stream
pub position-take : (a : ℕ) (stream : List StreamRec) (off : Text) (q : ℕ) → position (take a stream) off ≡ Some q → position stream off ≡ Some q
position-take a stream off q e = (up_to-is a (position stream off) q (sym (position-taken a stream off) ∙ e)).0

-- and where more entries are appended
pub position-more : (a b : ℕ) (stream : List StreamRec) (off : Text) (q : ℕ) → a ≤ b → position (take a stream) off ≡ Some q → position (take b stream) off ≡ Some q
position-more a b stream off q h e =
    let (is, within) = up_to-is a (position stream off) q (sym (position-taken a stream off) ∙ e) in
    position-taken b stream off ∙ ap (up_to b) is ∙ ap (λ t. cond t (Some q) None) (le-leb q b (omega (arith, within)))

pub ruleset appended_positions = (position-taken, nat_tests)
