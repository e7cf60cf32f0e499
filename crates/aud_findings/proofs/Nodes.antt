-- The nodes whose logs are out of order, and what was read of a tap.
use Rattle.std.proofs.Common.{◌≡◌, ◌<◌, ◌+◌, ◌++◌, ℕ, suc, Bool, true, false, List, [], ◌∷◌, length, take, get_or, nat_eq, Option, Some, None, slice_get, refl, sym, ap, subst, ◌∙◌, arith}
use Rattle.std.specs.List.{All, AllZip, Contains, list_any}
use Rattle.std.proofs.lemmas.List.{take_more}
use Rattle.std.proofs.lemmas.List.Elements.{All-cons, All-nil}
use Rattle.std.proofs.lemmas.Option.{none-some, same_Some}
use Rattle.aud_node.specs.Cluster.{Cluster, node_log}
use Rattle.aud_session_facts.specs.declared.place.RecordPlace.{RecordPlace}
use Rattle.aud_findings.specs.Order.{AreInOrder, IsFirstOutOfOrder}
use Rattle.aud_rows.specs.declared.client_places.ClientPlaces.{ClientPlaces}
use Rattle.aud_findings.specs.declared.prepared.Prepared.{Prepared}
use Rattle.aud_findings.specs.declared.prepared.PreparedTap.{PreparedTap}
use Rattle.aud_findings.specs.declared.prepared.PreparedTap.TheVariants.{Client, Order}
use Rattle.aud_findings.specs.Prepared.{IsClientRead, IsOrderRead, IsPreparedOf, IsRead}
use Rattle.aud_findings.specs.ShowsOrder.{AreOutOfOrder, places_in}
use Rattle.aud_findings.proofs.Read.{zip_append}

-- ---- the nodes that are out of order

places_more : (c : Cluster) (nodes more : List ℕ) (firsts others : List (Option ℕ)) → AllZip (IsOrderRead c) nodes firsts
    → places_in (nodes ++ more) (firsts ++ others) ≡ places_in nodes firsts ++ places_in more others
places_more c [] more [] others are = refl
places_more c [] more (first ∷ firsts) others are = absurd are
places_more c (node ∷ nodes) more [] others are = absurd are
places_more c (node ∷ nodes) more (None ∷ firsts) others are = places_more c nodes more firsts others are.1
places_more c (node ∷ nodes) more (Some number ∷ firsts) others are =
    ap (λ found. record { node = node; number = number } ∷ found) (places_more c nodes more firsts others are.1)

-- none at first
pub none_yet : (c : Cluster) (found : List RecordPlace) → found ≡ [] → AreOutOfOrder c [] found
none_yet c found none = record { firsts = []; are_read = tt; are_found = none }

-- one more
pub out_of_order_more : (c : Cluster) (nodes : List ℕ) (i : ℕ) (first : Option ℕ) (old new : List RecordPlace) → i < length nodes → IsOrderRead c (get_or nodes i 0) first
    → new ≡ old ++ places_in (get_or nodes i 0 ∷ []) (first ∷ []) → AreOutOfOrder c (take i nodes) old → AreOutOfOrder c (take (i + 1) nodes) new
out_of_order_more c nodes i first old new within read is were =
    let node = get_or nodes i 0 in
    subst (λ ns. AreOutOfOrder c ns new) (sym (take_more nodes i 0 within))
    (record {
      firsts = were.firsts ++ first ∷ [];
      are_read = zip_append (IsOrderRead c) (take i nodes) were.firsts (node ∷ []) (first ∷ []) were.are_read (read, tt);
      are_found = is ∙ ap (λ found. found ++ places_in (node ∷ []) (first ∷ [])) were.are_found ∙ sym (places_more c (take i nodes) (node ∷ []) were.firsts (first ∷ []) were.are_read);
    })

-- where there is none, the logs of all are in order
none_in : (c : Cluster) (nodes : List ℕ) (firsts : List (Option ℕ)) → AllZip (IsOrderRead c) nodes firsts → [] ≡ places_in nodes firsts
    → All (λ node. AreInOrder c.stream (node_log c node)) nodes
none_in c [] firsts are none = All-nil (λ node. AreInOrder c.stream (node_log c node))
none_in c (node ∷ nodes) [] are none = absurd are
none_in c (node ∷ nodes) (None ∷ firsts) are none =
    All-cons (λ node. AreInOrder c.stream (node_log c node)) node nodes are.0 (none_in c nodes firsts are.1 none)
none_in c (node ∷ nodes) (Some number ∷ firsts) are none = absurd (none-some (record { node = node; number = number }) (ap (λ places. slice_get places 0) none))

pub none_unordered : (c : Cluster) (nodes : List ℕ) (found : List RecordPlace) → AreOutOfOrder c nodes found → slice_get found 0 ≡ None
    → All (λ node. AreInOrder c.stream (node_log c node)) nodes
none_unordered c nodes [] are none = none_in c nodes are.firsts are.are_read are.are_found
none_unordered c nodes (place ∷ found) are none = absurd (none-some place (sym none))

-- the first of them is one of the nodes, with its first record out of order
first_in : (c : Cluster) (nodes : List ℕ) (firsts : List (Option ℕ)) (at : RecordPlace) → AllZip (IsOrderRead c) nodes firsts → slice_get (places_in nodes firsts) 0 ≡ Some at
    → Contains nodes at.node × IsFirstOutOfOrder c.stream (node_log c at.node) at.number
first_in c [] firsts at are e = absurd (none-some at e)
first_in c (node ∷ nodes) [] at are e = absurd are
first_in c (node ∷ nodes) (None ∷ firsts) at are e =
    let ((k, within, there), is) = first_in c nodes firsts at are.1 e in
    ((suc k, omega (arith, within), there), is)
first_in c (node ∷ nodes) (Some number ∷ firsts) at are e =
    let same = same_Some (record { node = node; number = number }) at e in
    subst (λ (place : RecordPlace). Contains (node ∷ nodes) place.node × IsFirstOutOfOrder c.stream (node_log c place.node) place.number) same ((0, omega arith, refl), are.0)

pub first_unordered_is : (c : Cluster) (nodes : List ℕ) (found : List RecordPlace) (at : RecordPlace) → AreOutOfOrder c nodes found → slice_get found 0 ≡ Some at
    → Contains nodes at.node × IsFirstOutOfOrder c.stream (node_log c at.node) at.number
first_unordered_is c nodes found at are e = first_in c nodes are.firsts at are.are_read (ap (λ places. slice_get places 0) (sym are.are_found) ∙ e)

-- ---- what was read of a tap

order_read : (c : Cluster) (asked orders : Bool) (node : ℕ) (unordered : Option ℕ) → IsRead c asked orders node (Order unordered) → IsOrderRead c node unordered
order_read c true orders node unordered read = absurd read
order_read c false true node unordered read = read
order_read c false false node unordered read = absurd read

-- what was read of a node's log
pub order_told : (c : Cluster) (prepared : Prepared) (node : ℕ) (tap : PreparedTap) (unordered : Option ℕ) → IsPreparedOf c prepared
    → Some tap ≡ slice_get prepared.taps.items node → tap ≡ Order unordered → IsOrderRead c node unordered
order_told c prepared node tap unordered of at is =
    order_read c (list_any (nat_eq node) of.places) of.orders node unordered
    (subst (IsRead c (list_any (nat_eq node) of.places) of.orders node) is (of.are_read.each node tap (sym at)))

client_read : (c : Cluster) (asked orders : Bool) (place : ℕ) (places : ClientPlaces) (orphan : Option ℕ) → IsRead c asked orders place (Client places orphan)
    → IsClientRead c place places orphan
client_read c true orders place places orphan read = read
client_read c false true place places orphan read = absurd read
client_read c false false place places orphan read = absurd read

-- what was read of a client's tap
pub client_told : (c : Cluster) (prepared : Prepared) (place : ℕ) (tap : PreparedTap) (places : ClientPlaces) (orphan : Option ℕ) → IsPreparedOf c prepared
    → Some tap ≡ slice_get prepared.taps.items place → tap ≡ Client places orphan → IsClientRead c place places orphan
client_told c prepared place tap places orphan of at is =
    client_read c (list_any (nat_eq place) of.places) of.orders place places orphan
    (subst (IsRead c (list_any (nat_eq place) of.places) of.orders place) is (of.are_read.each place tap (sym at)))
