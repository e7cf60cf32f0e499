-- A value is refused for a field or a limit exactly where help names it.
use Rattle.std.proofs.Common.{◌≡◌, ℕ, ◌+◌, ◌<◌, ◌≤◌, ◌&&◌, List, [], ◌∷◌, length, codes, nat_lt, nat_le, Bool, true, false, not, cond, Option, Some, None, is_some, option_map, option_and_then, Result, Ok, Err, refl, ◌∙◌, inl, inr, arith}
use Rattle.std.specs.Prelude.{is_none}
use Rattle.std.specs.Option.{option_or}
use Rattle.std.specs.List.{list_all}
use Rattle.std.proofs.lemmas.Bool.{cases_Bool, ltb-true, ltb-false, le-leb, lt-leb}
use Rattle.serde_json.specs.Data.{Data, null, boolean, number, string, array, object, Items, no_items, item}
use Rattle.serde_json.specs.Find.{get, as_str, as_array}
use Rattle.aud_base.specs.Steps.{◌>>=◌, need, guard}
use Rattle.aud_tap.specs.Forms.{passing, is_id, is_namespace}
use Rattle.aud_tap.specs.Json.{text_at}
use Rattle.aud_tap.specs.Limits.{fits, fit_rooms, max_attachments, max_id, max_offset, max_namespace, max_room, max_rooms, max_turn}
use Rattle.aud_reader.specs.declared.fault.InputCode.{InputCode}
use Rattle.aud_reader.specs.declared.fault.InputCode.TheVariants as code
use Rattle.aud_reader.specs.Fields.{all_items, as_blob, id_at, id_or_null, list_or_empty, bounded_id_at, namespace_at, number_at, texts_at, blobs_at, id_or_null_at}
use Rattle.aud_reader.specs.StreamRecord.{lists_of, bounded_event, event_of}
use Rattle.aud_reader.specs.NodeRecord.{fits_if_there, start_of, open_of, member_of, pid_and_turn}
use Rattle.aud_refusals.specs.declared.member.Member.{Member}
use Rattle.aud_refusals.specs.declared.member.Member.TheVariants as member
use Rattle.aud_refusals.specs.declared.excess.Excess.{Excess}
use Rattle.aud_refusals.specs.declared.excess.Excess.TheVariants.{Length, Item}
use Rattle.aud_refusals.specs.Members.{first_unformed}
use Rattle.aud_refusals.specs.Excess.{excess_of, first_excess, length_excess, items_count, items_excess, count_excess, number_excess}

-- why something is refused
abbrev pub code_of : {A : Type 0} → Result A InputCode → Option InputCode
code_of (Ok x) = None
code_of (Err e) = Some e

-- the refusal that help tells of
abbrev pub told : Option Member → Option Excess → Option InputCode
told (Some m) e = Some code.Field
told None (Some e) = Some code.Limit
told None None = None

-- what is refused so is refused so in another form
pub code-map : {A B : Type 0} (r : Result A InputCode) (f : A → B) → code_of (r >>= (λ x. Ok (f x))) ≡ code_of r
code-map (Ok x) f = refl
code-map (Err e) f = refl

-- a member that has to be of its form
need-told : {A B : Type 0} (o : Option A) (f : A → Result B InputCode) (m : Member) (u : Option Member) (e : Option Excess)
    → ((a : A) → o ≡ Some a → code_of (f a) ≡ told u e) → code_of (need code.Field o >>= f) ≡ told (cond (not (is_some o)) (Some m) u) e
need-told None f m u e then = refl
need-told (Some a) f m u e then = then a refl

-- a limit
guard-told : {B : Type 0} (b : Bool) (f : Unit {0} → Result B InputCode) (x e : Option Excess) → b ≡ is_none x
    → code_of (f tt) ≡ told None e → code_of (guard code.Limit b >>= f) ≡ told None (option_or x e)
guard-told true f None e is then = then
guard-told true f (Some x) e is then = absurd (cc)
guard-told false f None e is then = absurd (cc)
guard-told false f (Some x) e is then = refl

-- ---- limits

-- what passes a test is what there was
passing-some : (test : List ℕ → Bool) (o : Option (List ℕ)) (t : List ℕ) → option_and_then (passing test) o ≡ Some t → o ≡ Some t
passing-some test None t is = absurd (cc)
passing-some test (Some s) t is =
    elim (test s) as (λ b. cond b (Some s) None ≡ Some t → Some s ≡ Some t) [ true ↦ λ same. same | false ↦ λ same. absurd (cc) ] is

-- a text is within its limit where nothing is told of it
length-none : (m : Member) (most : ℕ) (t : List ℕ) → fits most t ≡ is_none (length_excess m most (Some t))
length-none m most t = elim (fits most t) as (λ b. b ≡ is_none (cond b None (Some (Length m (length t) most)))) [ true ↦ refl | false ↦ refl ]

fits-told : (m : Member) (most : ℕ) (o : Option (List ℕ)) (t : List ℕ) → o ≡ Some t → fits most t ≡ is_none (length_excess m most o)
fits-told m most o t is = rw is (length-none m most t)

-- there are not too many items where nothing is told of their count
count-none : (m : Member) (most : ℕ) (ds : Items) (n : ℕ) → items_count ds ≡ n → nat_le n most ≡ is_none (count_excess m most ds)
count-none m most ds n is =
    elim (cases_Bool (nat_lt most (items_count ds))) [
      | inl more ↦ let above : most < n = omega (arith, ltb-true most (items_count ds) more, is) in rw (more, lt-leb n most above) refl
      | inr few ↦ let below : n ≤ most = omega (arith, ltb-false most (items_count ds) few, is) in rw (few, le-leb n most below) refl
    ]

-- a list has as many elements as items
all-more : {A : Type 0} (o : Option A) (rest : Option (List A)) (xs : List A) → option_and_then (λ y. option_map (λ ys. y ∷ ys) rest) o ≡ Some xs
    → (y : A) × (ys : List A) × (o ≡ Some y) × (rest ≡ Some ys) × (xs ≡ y ∷ ys)
all-more None rest xs is = absurd (cc)
all-more (Some y) None xs is = absurd (cc)
all-more (Some y) (Some ys) xs is = (y, ys, refl, refl, cc)

items-count : {A : Type 0} (f : Data → Option A) (ds : Items) (xs : List A) → all_items f ds ≡ Some xs → items_count ds ≡ length xs
items-count f no_items [] is = refl
items-count f no_items (x ∷ xs) is = absurd (cc)
items-count f (item d ds) xs is =
    let parts = all-more (f d) (all_items f ds) xs is in
    let rest = items-count f ds parts.1 parts.3 in
    rw (parts.4) (omega (arith, rest))

-- each item is within its limit where nothing is told of one
items-step : (m : Member) (place most : ℕ) (d : Data) (ds : Items) (y : List ℕ) (ys xs : List (List ℕ)) → as_str d ≡ Some y → xs ≡ y ∷ ys
    → list_all (fits most) ys ≡ is_none (items_excess m (place + 1) most ds) → list_all (fits most) xs ≡ is_none (items_excess m place most (item d ds))
items-step m place most d ds y ys xs text is rest =
    rw (is, text) (elim (fits most y) as (λ b. (b && list_all (fits most) ys) ≡ is_none (option_or (cond b None (Some (Item m place (length y) most))) (items_excess m (place + 1) most ds))) [
      | true ↦ rest
      | false ↦ refl
    ])

items-none : (m : Member) (place most : ℕ) (ds : Items) (xs : List (List ℕ)) → all_items as_str ds ≡ Some xs → list_all (fits most) xs ≡ is_none (items_excess m place most ds)
items-none m place most no_items [] is = refl
items-none m place most no_items (x ∷ xs) is = absurd (cc)
items-none m place most (item d ds) xs is =
    let parts = all-more (as_str d) (all_items as_str ds) xs is in
    items-step m place most d ds parts.0 parts.1 xs parts.2 parts.4 (items-none m (place + 1) most ds parts.1 parts.3)

-- rooms are within their limits where nothing is told of them
none-or : {X : Type 0} (a b : Option X) → is_none (option_or a b) ≡ (is_none a && is_none b)
none-or None b = refl
none-or (Some x) b = refl

rooms-none : (m : Member) (ds : Items) (xs : List (List ℕ)) → all_items as_str ds ≡ Some xs → fit_rooms xs ≡ is_none (option_or (count_excess m max_rooms ds) (items_excess m 1 max_room ds))
rooms-none m ds xs is =
    rw (none-or (count_excess m max_rooms ds) (items_excess m 1 max_room ds), ← count-none m max_rooms ds (length xs) (items-count as_str ds xs is), ← items-none m 1 max_room ds xs is) refl

rooms-told : (m : Member) (o : Option Data) (xs : List (List ℕ)) → list_or_empty as_str o ≡ Some xs
    → fit_rooms xs ≡ is_none (option_and_then (λ ds. option_or (count_excess m max_rooms ds) (items_excess m 1 max_room ds)) (option_and_then as_array o))
rooms-told m None xs is = let none : xs ≡ [] = cc in rw none refl
rooms-told m (Some d) xs is = go (as_array d) is
  where
    go : (a : Option Items) → option_and_then (all_items as_str) a ≡ Some xs → fit_rooms xs ≡ is_none (option_and_then (λ ds. option_or (count_excess m max_rooms ds) (items_excess m 1 max_room ds)) a)
    go None is = absurd (cc)
    go (Some ds) is = rooms-none m ds xs is

-- attachments are not too many where nothing is told of them
bin-told : (m : Member) (o : Option Data) (xs : List (List ℕ)) → list_or_empty as_blob o ≡ Some xs
    → nat_le (length xs) max_attachments ≡ is_none (option_and_then (count_excess m max_attachments) (option_and_then as_array o))
bin-told m None xs is = let none : xs ≡ [] = cc in rw none refl
bin-told m (Some d) xs is = go (as_array d) is
  where
    go : (a : Option Items) → option_and_then (all_items as_blob) a ≡ Some xs → nat_le (length xs) max_attachments ≡ is_none (option_and_then (count_excess m max_attachments) a)
    go None is = absurd (cc)
    go (Some ds) is = count-none m max_attachments ds (length xs) (items-count as_blob ds xs is)

-- a number is within its limit where nothing is told of it
number-told : (m : Member) (most : ℕ) (o : Option ℕ) (n : ℕ) → o ≡ Some n → nat_le n most ≡ is_none (number_excess m most o)
number-told m most o n is = rw is (elim (cases_Bool (nat_lt most n)) [
  | inl more ↦ rw (more, lt-leb n most (ltb-true most n more)) refl
  | inr few ↦ rw (few, le-leb n most (ltb-false most n few)) refl
])

-- an offset that may be null
null-told : (o : Option Data) (off : Option (List ℕ)) → option_and_then id_or_null o ≡ Some off → fits_if_there off ≡ is_none (length_excess member.OffOrNull max_offset (option_and_then as_str o))
null-told None off is = absurd (cc)
null-told (Some null) None is = refl
null-told (Some null) (Some t) is = absurd (cc)
null-told (Some (boolean b)) off is = absurd (cc)
null-told (Some (number n)) off is = absurd (cc)
null-told (Some (string s)) None is = elim (is_id s) as (λ b. option_map Some (cond b (Some s) None) ≡ Some None → fits_if_there None ≡ is_none (length_excess member.OffOrNull max_offset (Some s))) [ true ↦ λ h. absurd (cc) | false ↦ λ h. absurd (cc) ] is
null-told (Some (string s)) (Some t) is =
    elim (is_id s) as (λ b. option_map Some (cond b (Some s) None) ≡ Some (Some t) → fits max_offset t ≡ is_none (length_excess member.OffOrNull max_offset (Some s))) [
      | true ↦ λ h. let same : s ≡ t = cc in rw (← same) (length-none member.OffOrNull max_offset s)
      | false ↦ λ h. absurd (cc)
    ] is
null-told (Some (array ds)) off is = absurd (cc)
null-told (Some (object ms)) off is = absurd (cc)

-- ---- records

-- one member, and no limit
pub one-told : {A B : Type 0} (o : Option A) (m : Member) (f : A → B) → code_of (need code.Field o >>= (λ x. Ok (f x))) ≡ told (cond (not (is_some o)) (Some m) None) None
one-told None m f = refl
one-told (Some x) m f = refl

-- an id and its limit
pub id-told : {B : Type 0} (m : Member) (most : ℕ) (key : List ℕ) (d : Data) (f : List ℕ → B) → code_of (bounded_id_at most key d >>= (λ t. Ok (f t))) ≡ told (cond (not (is_some (id_at key d))) (Some m) None) (option_or (length_excess m most (text_at key d)) None)
unfolding bounded_id_at
id-told m most key d f =
    code-map (bounded_id_at most key d) f
    ∙ need-told (id_at key d) (λ id. guard code.Limit (fits most id) >>= (λ ok. Ok id)) m None (option_or (length_excess m most (text_at key d)) None)
    (λ t is. guard-told (fits most t) (λ ok. Ok t) (length_excess m most (text_at key d)) None (fits-told m most (text_at key d) t (passing-some is_id (text_at key d) t is)) refl)

-- the node begins
pub start-told : (d : Data) → code_of (start_of d) ≡ told (first_unformed (member.OffOrNull ∷ []) d) (first_excess (member.OffOrNull ∷ []) d)
unfolding start_of
start-told d =
    need-told (id_or_null_at (codes "off") d) _ member.OffOrNull None (first_excess (member.OffOrNull ∷ []) d)
    (λ off is. guard-told (fits_if_there off) _ (excess_of member.OffOrNull d) None (null-told (get (codes "off") d) off is) refl)

-- a text at a key that passes a test is within its limit where nothing is told of it
id-fits : (m : Member) (most : ℕ) (test : List ℕ → Bool) (key : List ℕ) (d : Data) (t : List ℕ) → option_and_then (passing test) (text_at key d) ≡ Some t → fits most t ≡ is_none (length_excess m most (text_at key d))
id-fits m most test key d t is = fits-told m most (text_at key d) t (passing-some test (text_at key d) t is)

-- a session opens
pub open-told : (d : Data) → code_of (open_of d) ≡ told (first_unformed (member.Pid ∷ member.Sid ∷ member.Nsp ∷ []) d) (first_excess (member.Pid ∷ member.Sid ∷ member.Nsp ∷ []) d)
unfolding open_of
open-told d =
    let e = first_excess (member.Pid ∷ member.Sid ∷ member.Nsp ∷ []) d in
    need-told (id_at (codes "pid") d) _ member.Pid (first_unformed (member.Sid ∷ member.Nsp ∷ []) d) e (λ pid is-pid.
    need-told (id_at (codes "sid") d) _ member.Sid (first_unformed (member.Nsp ∷ []) d) e (λ sid is-sid.
    need-told (namespace_at (codes "nsp") d) _ member.Nsp None e (λ nsp is-nsp.
    guard-told (fits max_id pid) _ (excess_of member.Pid d) (first_excess (member.Sid ∷ member.Nsp ∷ []) d) (id-fits member.Pid max_id is_id (codes "pid") d pid is-pid)
    (guard-told (fits max_id sid) _ (excess_of member.Sid d) (first_excess (member.Nsp ∷ []) d) (id-fits member.Sid max_id is_id (codes "sid") d sid is-sid)
    (guard-told (fits max_namespace nsp) _ (excess_of member.Nsp d) None (id-fits member.Nsp max_namespace is_namespace (codes "nsp") d nsp is-nsp) refl)))))

-- a session and a room
pub member-told : (d : Data) → code_of (member_of d) ≡ told (first_unformed (member.Pid ∷ member.Room ∷ []) d) (first_excess (member.Pid ∷ member.Room ∷ []) d)
unfolding member_of
member-told d =
    let e = first_excess (member.Pid ∷ member.Room ∷ []) d in
    need-told (id_at (codes "pid") d) _ member.Pid (first_unformed (member.Room ∷ []) d) e (λ pid is-pid.
    need-told (text_at (codes "room") d) _ member.Room None e (λ room is-room.
    guard-told (fits max_id pid) _ (excess_of member.Pid d) (first_excess (member.Room ∷ []) d) (id-fits member.Pid max_id is_id (codes "pid") d pid is-pid)
    (guard-told (fits max_room room) _ (excess_of member.Room d) None (fits-told member.Room max_room (text_at (codes "room") d) room is-room) refl)))

-- a session and a turn
pub turn-told : (d : Data) → code_of (pid_and_turn d) ≡ told (first_unformed (member.Pid ∷ member.Turn ∷ []) d) (first_excess (member.Pid ∷ member.Turn ∷ []) d)
unfolding pid_and_turn
turn-told d =
    let e = first_excess (member.Pid ∷ member.Turn ∷ []) d in
    need-told (id_at (codes "pid") d) _ member.Pid (first_unformed (member.Turn ∷ []) d) e (λ pid is-pid.
    need-told (number_at (codes "turn") d) _ member.Turn None e (λ turn is-turn.
    guard-told (fits max_id pid) _ (excess_of member.Pid d) (first_excess (member.Turn ∷ []) d) (id-fits member.Pid max_id is_id (codes "pid") d pid is-pid)
    (guard-told (nat_le turn max_turn) _ (excess_of member.Turn d) None (number-told member.Turn max_turn (number_at (codes "turn") d) turn is-turn) refl)))

-- three lists
lists-told : {A B C D : Type 0} (a : Option A) (b : Option B) (c : Option C) (f : A × B × C → Result D InputCode) (e : Option Excess)
    → ((x : A) (y : B) (z : C) → a ≡ Some x → b ≡ Some y → c ≡ Some z → code_of (f (x, y, z)) ≡ told None e)
    → code_of ((need code.Field a >>= (λ x. need code.Field b >>= (λ y. need code.Field c >>= (λ z. Ok (x, y, z))))) >>= f)
    ≡ told (cond (not (is_some a)) (Some member.Rooms) (cond (not (is_some b)) (Some member.Except) (cond (not (is_some c)) (Some member.Bin) None))) e
lists-told None b c f e then = refl
lists-told (Some x) None c f e then = refl
lists-told (Some x) (Some y) None f e then = refl
lists-told (Some x) (Some y) (Some z) f e then = then x y z refl refl refl

-- an event
pub event-told : (d : Data) → code_of (event_of d) ≡ told (first_unformed (member.Off ∷ member.Nsp ∷ member.Text ∷ member.Rooms ∷ member.Except ∷ member.Bin ∷ []) d) (first_excess (member.Off ∷ member.Nsp ∷ member.Text ∷ member.Rooms ∷ member.Except ∷ member.Bin ∷ []) d)
unfolding event_of lists_of bounded_event
event-told d =
    let e = first_excess (member.Off ∷ member.Nsp ∷ member.Text ∷ member.Rooms ∷ member.Except ∷ member.Bin ∷ []) d in
    need-told (id_at (codes "off") d) _ member.Off (first_unformed (member.Nsp ∷ member.Text ∷ member.Rooms ∷ member.Except ∷ member.Bin ∷ []) d) e (λ off is-off.
    need-told (namespace_at (codes "nsp") d) _ member.Nsp (first_unformed (member.Text ∷ member.Rooms ∷ member.Except ∷ member.Bin ∷ []) d) e (λ nsp is-nsp.
    need-told (text_at (codes "text") d) _ member.Text (first_unformed (member.Rooms ∷ member.Except ∷ member.Bin ∷ []) d) e (λ text is-text.
    lists-told (texts_at (codes "rooms") d) (texts_at (codes "except") d) (blobs_at (codes "bin") d) (λ lists. bounded_event off nsp text lists) e (λ rooms except bin is-rooms is-except is-bin.
    guard-told (fits max_offset off) _ (excess_of member.Off d) (first_excess (member.Nsp ∷ member.Text ∷ member.Rooms ∷ member.Except ∷ member.Bin ∷ []) d) (id-fits member.Off max_offset is_id (codes "off") d off is-off)
    (guard-told (fits max_namespace nsp) _ (excess_of member.Nsp d) (first_excess (member.Text ∷ member.Rooms ∷ member.Except ∷ member.Bin ∷ []) d) (id-fits member.Nsp max_namespace is_namespace (codes "nsp") d nsp is-nsp)
    (guard-told (fit_rooms rooms) _ (excess_of member.Rooms d) (first_excess (member.Except ∷ member.Bin ∷ []) d) (rooms-told member.Rooms (get (codes "rooms") d) rooms is-rooms)
    (guard-told (fit_rooms except) _ (excess_of member.Except d) (first_excess (member.Bin ∷ []) d) (rooms-told member.Except (get (codes "except") d) except is-except)
    (guard-told (nat_le (length bin) max_attachments) _ (excess_of member.Bin d) None (bin-told member.Bin (get (codes "bin") d) bin is-bin) refl))))))))
