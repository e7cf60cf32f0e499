-- The records that begin, break and end turns, noted one after the other.
use Rattle.std.proofs.Common.{◌≡◌, ◌<◌, ◌+◌, ◌++◌, ◌||◌, ℕ, Bool, true, false, cond, List, [], ◌∷◌, length, map, set, take, replicate, get_or, nat_eq, nat_lt, Option, Some, None, option_map, slice_get, refl, sym, ap, subst, ◌∙◌, arith, append_assoc, flat_map, zero-add}
use Rattle.std.specs.List.{find, list_any}
use Rattle.std.specs.Option.{option_or}
use Rattle.std.proofs.lemmas.Bool.Decides.{nat_tests}
use Rattle.std.proofs.lemmas.List.{get_or-map, get_or-replicate, length-map, length-replicate, length-set, same_lists, take_more}
use Rattle.std.proofs.lemmas.List.Folds.{find-append, list_any-append}
use Rattle.std.proofs.lemmas.Option.{none-some, same_Some, get_or_from_slice_get, slice_get-get_or}
use Rattle.aud_base.specs.Lists.{numbers_from}
use Rattle.aud_base.proofs.Numbers.{numbers_from-more, slice_get-numbers}
use Rattle.aud_merge.proofs.Basics.{slice_get-set_same, slice_get-set_other}
use Rattle.aud_session_facts.proofs.Steps.{given-more}
use Rattle.aud_rooms.proofs.Ascending.{length-numbers}
use Rattle.aud_session_facts.specs.declared.marks.TurnMark.{TurnMark}
use Rattle.aud_session_facts.specs.declared.place.RecordPlace.{RecordPlace}
use Rattle.aud_causes.specs.Private.Noting.{begin_at, begin_in, with_begin, break_in}
use Rattle.aud_causes.specs.Turns.{begin_of, begins_of, begun_turn, breaks_of, broken_turn, ended_by, ends_of, is_broken, is_ended_in, is_turn, turn_count}

-- ---- numbers and lists

-- each of so many is the one that all are
given_all : {X : Type 0} (count : ℕ) (x : X) (k : ℕ) → k < count → slice_get (replicate count x) k ≡ Some x
given_all count x k within =
    slice_get-get_or (replicate count x) k x (subst (λ n. k < n) (sym (length-replicate count x)) within) ∙ ap Some (get_or-replicate count k x x within)

number_at : (count k : ℕ) → k < count → get_or (numbers_from 0 count) k 0 ≡ k
number_at count k within =
    let at : slice_get {X = ℕ} (replicate count 0) k ≡ Some 0 = given_all count 0 k within in
    get_or_from_slice_get (numbers_from 0 count) k k 0
    (ap (λ n. slice_get (numbers_from 0 n) k) (sym (length-replicate count 0)) ∙ slice_get-numbers 0 (replicate count 0) k ∙ ap (option_map (λ _. 0 + k)) at ∙ ap Some (zero-add k))

-- a list is what a function gives of the numbers, where each of its elements is
by_number : {X : Type 0} (f : ℕ → X) (count : ℕ) (xs : List X) → length xs ≡ count → ((k : ℕ) → k < count → slice_get xs k ≡ Some (f k)) → xs ≡ map f (numbers_from 0 count)
by_number f count xs long each =
    same_lists xs (map f (numbers_from 0 count)) (long ∙ sym (length-map (numbers_from 0 count) f ∙ length-numbers 0 count))
    (λ k d h.
    let within : k < count = subst (λ n. k < n) long h in
    get_or_from_slice_get xs k (f k) d (each k within)
    ∙ sym (get_or-map f (numbers_from 0 count) k 0 d (subst (λ n. k < n) (sym (length-numbers 0 count)) within) ∙ ap f (number_at count k within)))

-- ---- the begins

pub record AreBegins (count : ℕ) (seen : List TurnMark) (begins : List (Option RecordPlace)) : Type 0 where
  pub long : length begins ≡ count
  pub each : (k : ℕ) → k < count → slice_get begins k ≡ Some (begin_of seen k)

pub none_begun : (count : ℕ) → AreBegins count [] (replicate count None)
none_begun count = record { long = length-replicate count None; each = given_all count None }

-- the begin of a turn, after a record that begins it or doesn't
abbrev noted : Bool → Option RecordPlace → RecordPlace → Option RecordPlace
noted false begin place = begin
noted true None place = Some place
noted true (Some begin) place = Some begin

begin_more : (seen : List TurnMark) (m : TurnMark) (k : ℕ) → begin_of (seen ++ m ∷ []) k ≡ noted (is_turn k (begun_turn m.mark)) (begin_of seen k) m.place
begin_more seen m k =
    ap (option_map (λ (n : TurnMark). n.place)) (find-append (λ (n : TurnMark). is_turn k (begun_turn n.mark)) seen (m ∷ []))
    ∙ go (find (λ (n : TurnMark). is_turn k (begun_turn n.mark)) seen) (is_turn k (begun_turn m.mark)) refl
  where
    go : (o : Option TurnMark) (b : Bool) → is_turn k (begun_turn m.mark) ≡ b
        → option_map (λ (n : TurnMark). n.place) (option_or o (find (λ (n : TurnMark). is_turn k (begun_turn n.mark)) (m ∷ []))) ≡ noted b (option_map (λ (n : TurnMark). n.place) o) m.place
    go (Some n) true e = refl
    go (Some n) false e = refl
    go None true e = ap (λ b. option_map (λ (n : TurnMark). n.place) (cond b (Some m) None)) e
    go None false e = ap (λ b. option_map (λ (n : TurnMark). n.place) (cond b (Some m) None)) e

begin_at_more : (o : Option (Option RecordPlace)) (b : Option RecordPlace) (turn k : ℕ) (place : RecordPlace) (begins : List (Option RecordPlace)) → slice_get begins turn ≡ o → slice_get begins k ≡ Some b
    → slice_get (begin_at turn place o begins) k ≡ Some (noted (nat_eq k turn) b place)
begin_at_more o b turn k place begins at was = go o at (nat_eq k turn) refl
  where
    go : (o : Option (Option RecordPlace)) → slice_get begins turn ≡ o → (e : Bool) → nat_eq k turn ≡ e → slice_get (begin_at turn place o begins) k ≡ Some (noted e b place)
    go (Some None) at true e =
        let same : k ≡ turn = grind (arith, nat_tests, e) in
        let none : b ≡ None = same_Some b None (sym was ∙ ap (slice_get begins) same ∙ at) in
        ap (slice_get (set begins turn (Some place))) same ∙ slice_get-set_same begins turn (Some place) None at ∙ ap (λ o. Some (noted true o place)) (sym none)
    go (Some None) at false e = slice_get-set_other begins turn k (Some place) (λ same. grind (arith, nat_tests, e, same)) ∙ was
    go (Some (Some other)) at true e =
        let same : k ≡ turn = grind (arith, nat_tests, e) in
        let some : b ≡ Some other = same_Some b (Some other) (sym was ∙ ap (slice_get begins) same ∙ at) in
        was ∙ ap Some some ∙ ap (λ o. Some (noted true o place)) (sym some)
    go (Some (Some other)) at false e = was
    go None at true e =
        let same : k ≡ turn = grind (arith, nat_tests, e) in
        absurd (none-some b (sym at ∙ ap (slice_get begins) (sym same) ∙ was))
    go None at false e = was

begin_in_more : (t : Option ℕ) (b : Option RecordPlace) (k : ℕ) (place : RecordPlace) (begins : List (Option RecordPlace)) → slice_get begins k ≡ Some b
    → slice_get (begin_in t place begins) k ≡ Some (noted (is_turn k t) b place)
begin_in_more None b k place begins was = was
begin_in_more (Some turn) b k place begins was = begin_at_more (slice_get begins turn) b turn k place begins refl was

length-begin_at : (o : Option (Option RecordPlace)) (turn : ℕ) (place : RecordPlace) (begins : List (Option RecordPlace)) → length (begin_at turn place o begins) ≡ length begins
length-begin_at (Some None) turn place begins = length-set begins turn (Some place)
length-begin_at (Some (Some other)) turn place begins = refl
length-begin_at None turn place begins = refl

length-begin_in : (t : Option ℕ) (place : RecordPlace) (begins : List (Option RecordPlace)) → length (begin_in t place begins) ≡ length begins
length-begin_in None place begins = refl
length-begin_in (Some turn) place begins = length-begin_at (slice_get begins turn) turn place begins

-- one record more
pub begins_more : (count : ℕ) (marks : List TurnMark) (i : ℕ) (m d : TurnMark) (old new : List (Option RecordPlace)) → i < length marks → m ≡ get_or marks i d
    → new ≡ with_begin m old → AreBegins count (take i marks) old → AreBegins count (take (i + 1) marks) new
begins_more count marks i m d old new within at is were =
    subst (λ (p : List TurnMark × List (Option RecordPlace)). AreBegins count p.0 p.1) (λ j. (sym more j, sym is j))
    (record {
      long = length-begin_in (begun_turn m.mark) m.place old ∙ were.long;
      each = λ k h. begin_in_more (begun_turn m.mark) (begin_of (take i marks) k) k m.place old (were.each k h) ∙ ap Some (sym (begin_more (take i marks) m k));
    })
  where
    more : take (i + 1) marks ≡ take i marks ++ m ∷ []
    more = take_more marks i d within ∙ ap (λ x. take i marks ++ x ∷ []) (sym at)

-- those of all
pub begins_are : (marks : List TurnMark) (begins : List (Option RecordPlace)) → AreBegins (turn_count 0 marks) marks begins → begins ≡ begins_of marks
begins_are marks begins are = by_number (begin_of marks) (turn_count 0 marks) begins are.long are.each

-- ---- what is noted of turns

-- of each of so many turns it is noted whether the function gives it of one of these
pub record AreNoted {X : Type 0} (f : X → Option ℕ) (count : ℕ) (seen : List X) (noted : List Bool) : Type 0 where
  pub long : length noted ≡ count
  pub each : (k : ℕ) → k < count → slice_get noted k ≡ Some (list_any (λ x. is_turn k (f x)) seen)

pub none_noted : {X : Type 0} (f : X → Option ℕ) (count : ℕ) → AreNoted f count [] (replicate count false)
none_noted f count = record { long = length-replicate count false; each = given_all count false }

or_false : (b : Bool) → b ≡ (b || false)
or_false true = refl
or_false false = refl

or_true : (b : Bool) → true ≡ (b || true)
or_true true = refl
or_true false = refl

-- it holds of one of these with one more, or of that
any_with : {X : Type 0} (p : X → Bool) (xs : List X) (x : X) → list_any p (xs ++ x ∷ []) ≡ (list_any p xs || p x)
any_with p xs x = list_any-append p xs (x ∷ []) ∙ ap (λ b. list_any p xs || b) (sym (or_false (p x)))

pub any-more : (p : ℕ → Bool) (i : ℕ) → list_any p (numbers_from 0 (i + 1)) ≡ (list_any p (numbers_from 0 i) || p i)
any-more p i = ap (list_any p) (numbers_from-more i) ∙ any_with p (numbers_from 0 i) i

break_in_more : (t : Option ℕ) (b : Bool) (k : ℕ) (broken : List Bool) → k < length broken → slice_get broken k ≡ Some b
    → slice_get (break_in t broken) k ≡ Some (b || is_turn k t)
break_in_more None b k broken within was = was ∙ ap Some (or_false b)
break_in_more (Some turn) b k broken within was = go (nat_lt turn (length broken)) refl (nat_eq k turn) refl
  where
    go : (l : Bool) → nat_lt turn (length broken) ≡ l → (e : Bool) → nat_eq k turn ≡ e → slice_get (cond l (set broken turn true) broken) k ≡ Some (b || e)
    go true l true e =
        let same : k ≡ turn = grind (arith, nat_tests, e) in
        ap (slice_get (set broken turn true)) same ∙ slice_get-set_same broken turn true b (ap (slice_get broken) (sym same) ∙ was) ∙ ap Some (or_true b)
    go true l false e = slice_get-set_other broken turn k true (λ same. grind (arith, nat_tests, e, same)) ∙ was ∙ ap Some (or_false b)
    go false l true e = absurd (grind (arith, nat_tests, l, e, within))
    go false l false e = was ∙ ap Some (or_false b)

length-break_in : (t : Option ℕ) (broken : List Bool) → length (break_in t broken) ≡ length broken
length-break_in None broken = refl
length-break_in (Some turn) broken = go (nat_lt turn (length broken))
  where
    go : (l : Bool) → length (cond l (set broken turn true) broken) ≡ length broken
    go true = length-set broken turn true
    go false = refl

noted_more : {X : Type 0} (f : X → Option ℕ) (count : ℕ) (seen : List X) (x : X) (old new : List Bool)
    → new ≡ break_in (f x) old → AreNoted f count seen old → AreNoted f count (seen ++ x ∷ []) new
noted_more f count seen x old new is were =
    subst (AreNoted f count (seen ++ x ∷ [])) (sym is)
    (record {
      long = length-break_in (f x) old ∙ were.long;
      each = λ k h.
          break_in_more (f x) (list_any (λ y. is_turn k (f y)) seen) k old (subst (λ n. k < n) (sym were.long) h) (were.each k h)
          ∙ ap Some (sym (any_with (λ y. is_turn k (f y)) seen x));
    })

-- what is broken: one record more, and those of all
abbrev pub breaks : TurnMark → Option ℕ
breaks m = broken_turn m.mark

pub broken_more : (count : ℕ) (marks : List TurnMark) (i : ℕ) (m d : TurnMark) (old new : List Bool) → i < length marks → m ≡ get_or marks i d
    → new ≡ break_in (breaks m) old → AreNoted breaks count (take i marks) old → AreNoted breaks count (take (i + 1) marks) new
broken_more count marks i m d old new within at is were =
    subst (λ seen. AreNoted breaks count seen new) (sym (take_more marks i d within ∙ ap (λ x. take i marks ++ x ∷ []) (sym at)))
    (noted_more breaks count (take i marks) m old new is were)

pub broken_are : (marks : List TurnMark) (broken : List Bool) → AreNoted breaks (turn_count 0 marks) marks broken → broken ≡ breaks_of marks
broken_are marks broken are = by_number (is_broken marks) (turn_count 0 marks) broken are.long are.each

-- what is ended, by the numbers of the records
pub ended_more : (count : ℕ) (marks : List TurnMark) (i : ℕ) (old new : List Bool) → new ≡ break_in (ended_by marks i) old
    → AreNoted (ended_by marks) count (numbers_from 0 i) old → AreNoted (ended_by marks) count (numbers_from 0 (i + 1)) new
ended_more count marks i old new is were =
    subst (λ seen. AreNoted (ended_by marks) count seen new) (sym (numbers_from-more i))
    (noted_more (ended_by marks) count (numbers_from 0 i) i old new is were)

pub ended_are : (marks : List TurnMark) (i : ℕ) (ended : List Bool) → i ≡ length marks → AreNoted (ended_by marks) (turn_count 0 marks) (numbers_from 0 i) ended
    → ended ≡ ends_of marks
ended_are marks i ended all are =
    by_number (is_ended_in marks) (turn_count 0 marks) ended are.long
    (λ k h. are.each k h ∙ ap (λ n. Some (list_any (λ number. is_turn k (ended_by marks number)) (numbers_from 0 n))) all)

-- ---- what is given turn after turn

-- what one number more gives comes after what those before it gave
pub given-next : {Y : Type 0} (f : ℕ → List Y) (i : ℕ) (first old new : List Y) → old ≡ first ++ flat_map f (numbers_from 0 i) → new ≡ old ++ f i → new ≡ first ++ flat_map f (numbers_from 0 (i + 1))
given-next f i first old new was more =
    more ∙ ap (λ ys. ys ++ f i) was ∙ append_assoc first (flat_map f (numbers_from 0 i)) (f i) ∙ ap (λ ys. first ++ ys) (sym (given-more f i))
