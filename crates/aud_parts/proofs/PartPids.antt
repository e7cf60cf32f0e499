-- The sessions and the clients of a part, one after another.
use Rattle.std.proofs.Common.{◌≡◌, Option, ◌<◌, ◌≤◌, ◌+◌, ℕ, suc, Bool, true, false, cond, List, [], ◌∷◌, ◌++◌, length, drop, Some, slice_get, nat_eq, refl, sym, ap, ◌∙◌, ◌⊎◌, inl, inr, arith, append_assoc, append-nil}
use Rattle.std.specs.List.{count_by}
use Rattle.std.specs.Option.{option_flatten}
use Rattle.std.proofs.lemmas.Bool.{cases_lt}
use Rattle.std.proofs.lemmas.List.{drop_all}
use Rattle.std.proofs.lemmas.List.Sums.{sum_by-cons}
use Rattle.std.proofs.lemmas.Option.{slice_get_past}
use Rattle.aud_base.proofs.Lists.{drop_at, element_at}
use Rattle.aud_node.specs.Stream.{Text}
use Rattle.aud_parts.specs.Plan.{is_part, pids_with, came_with}
use Rattle.aud_parts.specs.declared.clients.measured.MeasuredClient.{MeasuredClient}

-- from a session on: it, where it has the part, and those after it
pids_with-from : (part : ℕ) (pids : List Text) (parts : List ℕ) (i : ℕ) (pid : Text) (own : ℕ) → slice_get pids i ≡ Some pid → slice_get parts i ≡ Some own
    → pids_with part (drop i pids) (drop i parts)
    ≡ cond (nat_eq own part) (pid ∷ pids_with part (drop (suc i) pids) (drop (suc i) parts)) (pids_with part (drop (suc i) pids) (drop (suc i) parts))
pids_with-from part pids parts i pid own at_pid at_own = rw (drop_at pids i pid at_pid, drop_at parts i own at_own) refl

-- one session more, kept where it has the part
pub pids_with-more : (part : ℕ) (pids : List Text) (parts : List ℕ) (i : ℕ) (pid : Text) (own : ℕ) (done new whole : List Text) → slice_get pids i ≡ Some pid → slice_get parts i ≡ Some own
    → new ≡ cond (nat_eq own part) (done ++ pid ∷ []) done → done ++ pids_with part (drop i pids) (drop i parts) ≡ whole
    → new ++ pids_with part (drop (i + 1) pids) (drop (i + 1) parts) ≡ whole
pids_with-more part pids parts i pid own done new whole at_pid at_own is before =
    ap (λ n. new ++ pids_with part (drop n pids) (drop n parts)) next
    ∙ ap (λ xs. xs ++ rest) is ∙ go (nat_eq own part)
    ∙ sym (ap (λ xs. done ++ xs) (pids_with-from part pids parts i pid own at_pid at_own)) ∙ before
  where
    next : i + 1 ≡ suc i
    next = omega arith

    rest : List Text
    rest = pids_with part (drop (suc i) pids) (drop (suc i) parts)

    go : (b : Bool) → cond b (done ++ pid ∷ []) done ++ rest ≡ done ++ cond b (pid ∷ rest) rest
    go true = append_assoc done (pid ∷ []) rest
    go false = refl

no_parts : (part : ℕ) (pids : List Text) → pids_with part pids [] ≡ []
no_parts part [] = refl
no_parts part (pid ∷ pids) = refl

-- past the last session, or past the last part
past : (part : ℕ) (pids : List Text) (parts : List ℕ) (i : ℕ) → (length pids ≤ i) ⊎ (length parts ≤ i) → pids_with part (drop i pids) (drop i parts) ≡ []
past part pids parts i (inl h) = ap (λ ps. pids_with part ps (drop i parts)) (drop_all i pids h)
past part pids parts i (inr h) = ap (pids_with part (drop i pids)) (drop_all i parts h) ∙ no_parts part (drop i pids)

-- there all are kept
pub pids_with-all : (part : ℕ) (pids : List Text) (parts : List ℕ) (i : ℕ) (done whole : List Text) → (length pids ≤ i) ⊎ (length parts ≤ i)
    → done ++ pids_with part (drop i pids) (drop i parts) ≡ whole → done ≡ whole
pids_with-all part pids parts i done whole h is = sym (append-nil done) ∙ ap (λ xs. done ++ xs) (sym (past part pids parts i h)) ∙ is

-- ---- what came to the clients of a part

no_owns : (part : ℕ) (told : List MeasuredClient) → came_with part told [] ≡ []
no_owns part [] = refl
no_owns part (client ∷ told) = refl

-- from a client on: what came to it, where it has the part, and to those after it
came_with-from : (part : ℕ) (told : List MeasuredClient) (owns : List (Option ℕ)) (i : ℕ) (client : MeasuredClient) → slice_get told i ≡ Some client → (i < length owns) ⊎ (length owns ≤ i)
    → came_with part (drop i told) (drop i owns)
    ≡ cond (is_part part (option_flatten (slice_get owns i))) (client.facts.came.items ++ came_with part (drop (suc i) told) (drop (suc i) owns)) (came_with part (drop (suc i) told) (drop (suc i) owns))
came_with-from part told owns i client at (inl below) =
    let (own, there) = element_at owns i below in
    ap (λ cs. came_with part cs (drop i owns)) (drop_at told i client at) ∙ ap (came_with part (client ∷ drop (suc i) told)) (drop_at owns i own there)
    ∙ ap (λ o. cond (is_part part (option_flatten o)) (client.facts.came.items ++ came_with part (drop (suc i) told) (drop (suc i) owns)) (came_with part (drop (suc i) told) (drop (suc i) owns))) (sym there)
came_with-from part told owns i client at (inr past) =
    ap (came_with part (drop i told)) (drop_all i owns past) ∙ no_owns part (drop i told)
    ∙ sym (ap (came_with part (drop (suc i) told)) (drop_all (suc i) owns (omega (arith, past))) ∙ no_owns part (drop (suc i) told))
    ∙ ap (λ o. cond (is_part part (option_flatten o)) (client.facts.came.items ++ came_with part (drop (suc i) told) (drop (suc i) owns)) (came_with part (drop (suc i) told) (drop (suc i) owns))) (sym (slice_get_past owns i past))

-- one client more
pub came_with-more : (part : ℕ) (told : List MeasuredClient) (owns : List (Option ℕ)) (i : ℕ) (client : MeasuredClient) (done new whole : List ℕ) → slice_get told i ≡ Some client
    → new ≡ cond (is_part part (option_flatten (slice_get owns i))) (done ++ client.facts.came.items) done → done ++ came_with part (drop i told) (drop i owns) ≡ whole
    → new ++ came_with part (drop (i + 1) told) (drop (i + 1) owns) ≡ whole
came_with-more part told owns i client done new whole at is before =
    ap (λ n. new ++ came_with part (drop n told) (drop n owns)) next
    ∙ ap (λ xs. xs ++ rest) is ∙ go (is_part part (option_flatten (slice_get owns i)))
    ∙ sym (ap (λ xs. done ++ xs) (came_with-from part told owns i client at (cases_lt i (length owns)))) ∙ before
  where
    next : i + 1 ≡ suc i
    next = omega arith

    rest : List ℕ
    rest = came_with part (drop (suc i) told) (drop (suc i) owns)

    go : (b : Bool) → cond b (done ++ client.facts.came.items) done ++ rest ≡ done ++ cond b (client.facts.came.items ++ rest) rest
    go true = append_assoc done client.facts.came.items rest
    go false = refl

-- there all are added
pub came_with-all : (part : ℕ) (told : List MeasuredClient) (owns : List (Option ℕ)) (i : ℕ) (done whole : List ℕ) → length told ≤ i
    → done ++ came_with part (drop i told) (drop i owns) ≡ whole → done ≡ whole
came_with-all part told owns i done whole past is =
    sym (append-nil done) ∙ ap (λ xs. done ++ xs) (sym (ap (λ cs. came_with part cs (drop i owns)) (drop_all i told past))) ∙ is

-- ---- how many sessions a part has

-- not more than there are sessions with the part
pub length-pids_with : (part : ℕ) (pids : List Text) (parts : List ℕ) → length (pids_with part pids parts) ≤ count_by (λ own. nat_eq own part) parts
length-pids_with part [] parts = omega arith
length-pids_with part (pid ∷ pids) [] = omega arith
length-pids_with part (pid ∷ pids) (own ∷ parts) =
    let more = sum_by-cons (λ n. cond (nat_eq n part) 1 0) own parts in
    let le = go (nat_eq own part) (pids_with part pids parts) (count_by (λ n. nat_eq n part) parts) (length-pids_with part pids parts) in
    omega (arith, more, le)
  where
    go : (b : Bool) (rest : List Text) (count : ℕ) → length rest ≤ count → length (cond b (pid ∷ rest) rest) ≤ cond b 1 0 + count
    go true rest count h = omega (arith, h)
    go false rest count h = omega (arith, h)
