-- Lists of which one has something for each element of the other.
use Rattle.std.proofs.Common.{List, [], ◌∷◌, map}
use Rattle.std.specs.List.{All, AllZip}
use Rattle.std.proofs.lemmas.List.Elements.{All-nil, All-cons}
use Rattle.aud_base.specs.OneForEach.{OneForEach}

-- what a relation of the elements at each place says of them
pub one_for_each : {A B : Type 0} (Is R : A → B → Type 0) → ((x : A) (y : B) → R x y → Is x y)
    → (xs : List A) (ys : List B) → AllZip R xs ys → OneForEach Is xs ys
one_for_each Is R turn [] [] h = tt
one_for_each Is R turn [] (y ∷ ys) h = absurd h
one_for_each Is R turn (x ∷ xs) [] h = absurd h
one_for_each Is R turn (x ∷ xs) (y ∷ ys) h = (turn x y h.0, one_for_each Is R turn xs ys h.1)

-- the same, where what they stand for is told by a function
pub one_for_each-map : {A B C : Type 0} (Is : B → C → Type 0) (f : A → B) (R : A → C → Type 0) → ((x : A) (y : C) → R x y → Is (f x) y)
    → (xs : List A) (ys : List C) → AllZip R xs ys → OneForEach Is (map f xs) ys
one_for_each-map Is f R turn [] [] h = tt
one_for_each-map Is f R turn [] (y ∷ ys) h = absurd h
one_for_each-map Is f R turn (x ∷ xs) [] h = absurd h
one_for_each-map Is f R turn (x ∷ xs) (y ∷ ys) h = (turn x y h.0, one_for_each-map Is f R turn xs ys h.1)

-- what is made of things that were made for others
pub by_way_of : {A B C : Type 0} (Is : A → B → Type 0) (R : B → C → Type 0) (Are : A → C → Type 0) → ((x : A) (y : B) (z : C) → Is x y → R y z → Are x z)
    → (xs : List A) (ys : List B) (zs : List C) → OneForEach Is xs ys → OneForEach R ys zs → OneForEach Are xs zs
by_way_of Is R Are turn [] [] [] is r = tt
by_way_of Is R Are turn [] [] (z ∷ zs) is r = absurd r
by_way_of Is R Are turn [] (y ∷ ys) zs is r = absurd is
by_way_of Is R Are turn (x ∷ xs) [] zs is r = absurd is
by_way_of Is R Are turn (x ∷ xs) (y ∷ ys) [] is r = absurd r
by_way_of Is R Are turn (x ∷ xs) (y ∷ ys) (z ∷ zs) is r = (turn x y z is.0 r.0, by_way_of Is R Are turn xs ys zs is.1 r.1)

-- what holds of each thing that stands for another
pub each-All : {A B : Type 0} (Is : A → B → Type 0) (P : B → Type 0) → ((x : A) (y : B) → Is x y → P y)
    → (xs : List A) (ys : List B) → OneForEach Is xs ys → All P ys
each-All Is P turn [] [] is = All-nil P
each-All Is P turn [] (y ∷ ys) is = absurd is
each-All Is P turn (x ∷ xs) [] is = absurd is
each-All Is P turn (x ∷ xs) (y ∷ ys) is = All-cons P y ys (turn x y is.0) (each-All Is P turn xs ys is.1)
