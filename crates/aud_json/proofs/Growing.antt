-- Lists of items and members that grow at their end.
use Rattle.std.proofs.Common.{◌≡◌, ℕ, List, [], ◌∷◌, ◌++◌, Bool, true, false, cond, Option, Some, None, Ordering, Less, Equal, Greater, Bor, bytes_eq, refl, sym, ap, ◌∙◌}
use Rattle.std.proofs.lemmas.Slice.Eq.{bytes_eq-Decides}
use Rattle.std.specs.Cmp.Lexicographic.{slice_cmp}
use Rattle.std.specs.Ordering.{match_ordering, nat_cmp}
use Rattle.json.specs.Token.{Token}
use Rattle.json.specs.Json.{parse_map}
use Rattle.serde_json.specs.Data.{Data, Items, no_items, item, Members, no_members, member, put}
use Rattle.serde_json.specs.Find.{get_member}
use Rattle.serde_json.proofs.Views.{get_member-put, get_member-put_other}
use Rattle.aud_json.specs.Shown.{shown_item, shown_items, shown_field, shown_members}
use Rattle.aud_json.specs.View.{text_view, list_view, field_view, members_from, members_view}
use Rattle.aud_json.specs.declared.field.Field.{Field}

-- ---- items

-- these items, then the rest
abbrev pub items_after : Items → Items → Items
items_after no_items rest = rest
items_after (item d ds) rest = item d (items_after ds rest)

-- one more, at the end
abbrev pub item_pushed : Items → Data → Items
item_pushed ds d = items_after ds (item d no_items)

-- no items after these
pub items_after-no_items : (ds : Items) → items_after ds no_items ≡ ds
items_after-no_items no_items = refl
items_after-no_items (item d ds) = ap (item d) (items_after-no_items ds)

-- one more item before the rest
after_pushed : (ds : Items) (d : Data) (rest : Items) → items_after ds (item d rest) ≡ items_after (item_pushed ds d) rest
after_pushed no_items d rest = refl
after_pushed (item e ds) d rest = ap (item e) (after_pushed ds d rest)

-- an item that was read goes to the end of those before it
pub one_more_item : (ds : Items) (d : Data) (r : Option (Items × List Token)) → parse_map (items_after ds) (parse_map (item d) r) ≡ parse_map (items_after (item_pushed ds d)) r
one_more_item ds d None = refl
one_more_item ds d (Some p) = ap (λ es. Some (es, p.1)) (after_pushed ds d p.0)

-- no items before these
pub none_before : (r : Option (Items × List Token)) → r ≡ parse_map (items_after no_items) r
none_before None = refl
none_before (Some p) = refl

-- the items with one more, as they are shown
shown_items-pushed : (ds : Items) (d : Data) → shown_items (item_pushed ds d) ≡ item_pushed (shown_items ds) (shown_item d)
shown_items-pushed no_items d = refl
shown_items-pushed (item e ds) d = ap (item (shown_item e)) (shown_items-pushed ds d)

-- the texts with one more, as items
list_view-push : (os : List (Option (Bor (List ℕ)))) (o : Option (Bor (List ℕ))) → list_view (os ++ o ∷ []) ≡ item_pushed (list_view os) (text_view o)
list_view-push [] o = refl
list_view-push (x ∷ os) o = ap (item (text_view x)) (list_view-push os o)

-- the items so far are shown by the texts so far
pub list_grows : (ds : Items) (d : Data) (os : List (Option (Bor (List ℕ)))) (o : Option (Bor (List ℕ))) → shown_items ds ≡ list_view os → shown_item d ≡ text_view o
    → shown_items (item_pushed ds d) ≡ list_view (os ++ o ∷ [])
list_grows ds d os o e f = shown_items-pushed ds d ∙ ap (λ es. item_pushed es (shown_item d)) e ∙ ap (item_pushed (list_view os)) f ∙ sym (list_view-push os o)

-- ---- members

-- members chosen by an order, as they are shown
shown_members-match_ordering : (o : Ordering) (a b c : Members) → shown_members (match_ordering o a b c) ≡ match_ordering o (shown_members a) (shown_members b) (shown_members c)
shown_members-match_ordering Less a b c = refl
shown_members-match_ordering Equal a b c = refl
shown_members-match_ordering Greater a b c = refl

-- the members with one put to them, as they are shown
shown_members-put : (k : List ℕ) (d : Data) (ms : Members) → shown_members (put k d ms) ≡ put k (shown_field d) (shown_members ms)
shown_members-put k d no_members = refl
shown_members-put k d (member l e ms) = shown_members-match_ordering (slice_cmp nat_cmp k l) _ _ _ ∙ rw (shown_members-put k d ms)

-- the fields with one more, as members
members_from-push : (ms : List (Bor (List ℕ) × Field)) (m : Bor (List ℕ) × Field) (found : Members) → members_from (ms ++ m ∷ []) found ≡ put m.0.now (field_view m.1) (members_from ms found)
members_from-push [] m found = refl
members_from-push (x ∷ ms) m found = members_from-push ms m (put x.0.now (field_view x.1) found)

-- the members so far are shown by the fields so far
pub members_grow : (old : Members) (k : Bor (List ℕ)) (d : Data) (ms : List (Bor (List ℕ) × Field)) (f : Field) → shown_members old ≡ members_view ms → shown_field d ≡ field_view f
    → shown_members (put k.now d old) ≡ members_view (ms ++ (k, f) ∷ [])
members_grow old k d ms f e g =
    shown_members-put k.now d old ∙ ap (put k.now (shown_field d)) e ∙ ap (λ x. put k.now x (members_view ms)) g ∙ sym (members_from-push ms (k, f) no_members)

-- a member put last is found by its own key alone
found_in : (b : Bool) (q k : List ℕ) (d : Data) (ms : Members) → bytes_eq k q ≡ b → get_member q (put k d ms) ≡ cond b (Some d) (get_member q ms)
found_in true q k d ms e = rw ((bytes_eq-Decides k q).0 e) (get_member-put q d ms)
found_in false q k d ms e = get_member-put_other q k d ms (λ same. absurd (cc (e, (bytes_eq-Decides k q).1 (sym same))))

-- the last field is found by its own name, and an earlier one by another
pub get_member-push : (q : List ℕ) (ms : List (Bor (List ℕ) × Field)) (m : Bor (List ℕ) × Field)
    → get_member q (members_view (ms ++ m ∷ [])) ≡ cond (bytes_eq m.0.now q) (Some (field_view m.1)) (get_member q (members_view ms))
get_member-push q ms m = ap (get_member q) (members_from-push ms m no_members) ∙ found_in _ q m.0.now (field_view m.1) (members_view ms) refl
