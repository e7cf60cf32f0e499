-- The numbers of a session's records, between two numbers.
use Rattle.std.proofs.Common.{◌≡◌, ◌<◌, ◌≤◌, ◌+◌, ◌-◌, ℕ, zero, suc, Bool, true, false, List, [], ◌++◌, length, filter, refl, arith, slice_get, append-nil}
use Rattle.std.specs.List.Sorted.{IsNonDecreasing}
use Rattle.std.proofs.lemmas.Bool.Decides.{nat_tests}
use Rattle.std.proofs.lemmas.List.Elements.{filter-append}
use Rattle.aud_tap.specs.declared.records.NodeRec.{NodeRec}
use Rattle.aud_node.specs.Lists.{numbers_from}
use Rattle.aud_node.specs.Stream.{Text}
use Rattle.aud_node.specs.OwnRecords.{record_names, own_numbers}
use Rattle.aud_rooms.specs.TurnPlaces.{is_between, own_between}
use Rattle.aud_rooms.proofs.Ascending.{numbers_more, non_decreasing}

-- the numbers of a session's records in a log ascend
pub own_ascend : (log : List NodeRec) (pid : Text) → IsNonDecreasing (own_numbers log pid)
own_ascend log pid = non_decreasing (λ number. record_names (slice_get log number) pid) 0 (length log)

module _ (p own : ℕ → Bool) where
  -- where all numbers pass, the filter keeps them
  filter_all : (first count : ℕ) → ((n : ℕ) → first ≤ n → n < first + count → p n ≡ true) → filter p (filter own (numbers_from first count)) ≡ filter own (numbers_from first count)
  filter_all first zero all = refl
  filter_all first (suc count) all = grind (arith, filter_all (suc first) count)

  -- where none passes, it keeps none
  filter_no : (first count : ℕ) → ((n : ℕ) → first ≤ n → n < first + count → p n ≡ false) → filter p (filter own (numbers_from first count)) ≡ []
  filter_no first zero none = refl
  filter_no first (suc count) none = grind (arith, filter_no (suc first) count)

module _ (log : List NodeRec) (pid : Text) (from to : ℕ) (h : from ≤ to) (within : to ≤ length log) where
  -- the record with the number is the session's
  abbrev own : ℕ → Bool
  own number = record_names (slice_get log number) pid

  -- the session's records between two numbers are those of the numbers in between
  pub own_between-is : own_between log pid from to ≡ filter own (numbers_from from (to - from))
  own_between-is =
      let test = is_between from to in
      let front = numbers_from 0 from in
      let middle = numbers_from from (to - from) in
      let back = numbers_from to (length log - to) in
      let parts : numbers_from 0 (length log) ≡ front ++ (middle ++ back) = grind (arith, numbers_more 0 from ((to - from) + (length log - to)), numbers_more from (to - from) (length log - to)) in
      let none = filter_no test own 0 from (λ n _ b. grind (arith, nat_tests)) in
      let all = filter_all test own from (to - from) (λ n a b. grind (arith, nat_tests)) in
      let past = filter_no test own to (length log - to) (λ n a _. grind (arith, nat_tests)) in
      grind (arith, parts, none, all, past, filter-append own front (middle ++ back), filter-append own middle back, filter-append test (filter own front), filter-append test (filter own middle), append-nil)
