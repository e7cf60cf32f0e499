-- What a schedule gains, act by act.
use Rattle.std.proofs.Common.{◌≡◌, ℕ, ◌≤◌, ◌+◌, true, List, [], ◌∷◌, ◌++◌, Option, Some, None, refl, sym, ap, subst, ◌∙◌, arith, option_to_list}
use Rattle.std.proofs.lemmas.Bool.{false≢true}
use Rattle.std.proofs.lemmas.Option.{none-some}
use Rattle.std.proofs.lemmas.List.{append_assoc, append-nil, length-append}
use Rattle.std.specs.List.{All}
use Rattle.std.proofs.lemmas.List.Elements.{All-append, All-cons, All-nil}
use Rattle.aud_sim.specs.declared.act.Act.{Act}
use Rattle.aud_schedule.specs.declared.course.Size.{Size}
use Rattle.aud_sim.specs.declared.act.Act.TheVariants.{LoseLine, RepeatLine}
use Rattle.aud_schedule.specs.Acts.{Kind, LostOther, RepeatedOther, next_act, fault_of, faults, IsWithin, IsQuiet}
use Rattle.aud_schedule.specs.Private.Grown.{is_settled, are_settled, Grown}

-- whichever act comes next, an act that is settled is the same fault
fault-alone : (act : Act) (next : Option Act) → is_settled act ≡ true → fault_of act next ≡ fault_of act None
fault-alone LoseLine next h = absurd (false≢true h)
fault-alone RepeatLine next h = absurd (false≢true h)
fault-alone act next h = refl

-- an act that is no fault is settled
pub quiet-settled : (act : Act) → fault_of act None ≡ None → is_settled act ≡ true
quiet-settled LoseLine h = absurd (none-some LostOther (sym h))
quiet-settled RepeatLine h = absurd (none-some RepeatedOther (sym h))
quiet-settled act h = refl

-- the last of the acts decides
settled-end : (acts : List Act) (act : Act) → are_settled (acts ++ act ∷ []) ≡ is_settled act
settled-end [] act = refl
settled-end (x ∷ []) act = refl
settled-end (x ∷ y ∷ acts) act = settled-end (y ∷ acts) act

-- the faults of acts and of those after them, in their order
faults-append : (xs ys : List Act) → are_settled xs ≡ true → faults (xs ++ ys) ≡ faults xs ++ faults ys
faults-append [] ys h = refl
faults-append (x ∷ []) ys h =
    ap (λ f. option_to_list f ++ faults ys) (fault-alone x (next_act ys) h) ∙ ap (λ fs. fs ++ faults ys) (sym (append-nil (option_to_list (fault_of x None))))
faults-append (x ∷ y ∷ xs) ys h =
    let first = option_to_list (fault_of x (Some y)) in
    ap (λ fs. first ++ fs) (faults-append (y ∷ xs) ys h) ∙ sym (append_assoc first (faults (y ∷ xs)) (faults ys))

-- an act more
pub grown-one : (size : Size) (act : Act) (old : List Act) → is_settled act ≡ true → IsWithin size.nodes size.clients act
    → Grown size 1 (option_to_list (fault_of act None)) old (old ++ act ∷ [])
grown-one size act old settled is_within = record {
  at_most = omega (arith, length-append old (act ∷ []));
  settles = λ h. settled-end old act ∙ settled;
  gains = λ h. faults-append old (act ∷ []) h ∙ ap (λ fs. faults old ++ fs) (append-nil (option_to_list (fault_of act None)));
  within = λ all.
      let P : Act → Type 0 = IsWithin size.nodes size.clients in
      All-append P old (act ∷ []) all (All-cons P act [] is_within (All-nil P));
}

-- an act that is no fault
pub grown-quiet : (size : Size) (act : Act) (a b : List Act) → IsQuiet size act → Grown size 1 (option_to_list (fault_of act None)) a b → Grown size 1 [] a b
grown-quiet size act a b quiet grown = subst (λ f. Grown size 1 (option_to_list f) a b) quiet.no_fault grown

-- the faults of an act, and of one after it that is none
two-faults : (fault act : Act) → fault_of act None ≡ None → faults (fault ∷ act ∷ []) ≡ option_to_list (fault_of fault (Some act))
two-faults fault act h =
    let first = option_to_list (fault_of fault (Some act)) in
    ap (λ f. first ++ (option_to_list f ++ [])) h ∙ append-nil first

-- a fault more, and the act whose line it takes
pub grown-two : (size : Size) (fault act : Act) (old : List Act) → IsWithin size.nodes size.clients fault → IsQuiet size act
    → Grown size 2 (option_to_list (fault_of fault (Some act))) old ((old ++ fault ∷ []) ++ act ∷ [])
grown-two size fault act old is_within quiet =
    let same : (old ++ fault ∷ []) ++ act ∷ [] ≡ old ++ fault ∷ act ∷ [] = append_assoc old (fault ∷ []) (act ∷ []) in
    let P : Act → Type 0 = IsWithin size.nodes size.clients in
    record {
      at_most = omega (arith, length-append (old ++ fault ∷ []) (act ∷ []), length-append old (fault ∷ []));
      settles = λ h. settled-end (old ++ fault ∷ []) act ∙ quiet-settled act quiet.no_fault;
      gains = λ h. ap faults same ∙ faults-append old (fault ∷ act ∷ []) h ∙ ap (λ fs. faults old ++ fs) (two-faults fault act quiet.no_fault);
      within = λ all. All-append P (old ++ fault ∷ []) (act ∷ []) (All-append P old (fault ∷ []) all (All-cons P fault [] is_within (All-nil P))) (All-cons P act [] quiet.within (All-nil P));
    }

-- acts, and acts after them
pub grown-then : (size : Size) (m n : ℕ) (g h : List Kind) (a b c : List Act) → Grown size m g a b → Grown size n h b c → Grown size (m + n) (g ++ h) a c
grown-then size m n g h a b c first second = record {
  at_most = omega arith;
  settles = λ settled. second.settles (first.settles settled);
  gains = λ settled. second.gains (first.settles settled) ∙ ap (λ fs. fs ++ h) (first.gains settled) ∙ append_assoc (faults a) g h;
  within = λ all. second.within (first.within all);
}

-- at most so many acts, and so at most more
pub grown-more : (size : Size) (m n : ℕ) (g : List Kind) (a b : List Act) → m ≤ n → Grown size m g a b → Grown size n g a b
grown-more size m n g a b more grown = record { at_most = omega arith; settles = grown.settles; gains = grown.gains; within = grown.within }

-- acts, and acts after them that are no faults
pub grown-on : (size : Size) (m n : ℕ) (g : List Kind) (a b c : List Act) → Grown size m g a b → Grown size n [] b c → Grown size (m + n) g a c
grown-on size m n g a b c first second =
    subst (λ h. Grown size (m + n) h a c) (append-nil g) (grown-then size m n g [] a b c first second)

-- the same size under another name
pub grown-at : (s t : Size) (m : ℕ) (g : List Kind) (a b : List Act) → s ≡ t → Grown s m g a b → Grown t m g a b
grown-at s t m g a b same grown = subst (λ size. Grown size m g a b) same grown

-- a schedule from nothing: its first acts, with these faults among them, and its other acts
pub grown-whole : (size : Size) (n : ℕ) (g : List Kind) (a b c : List Act) → a ≡ [] → Grown size n g a b → Grown size n [] b c
    → (faults c ≡ g) × All (IsWithin size.nodes size.clients) c
grown-whole size n g a b c empty first second =
    let all = grown-on size n n g a b c first second in
    let P : Act → Type 0 = IsWithin size.nodes size.clients in
    (all.gains (ap are_settled empty) ∙ ap (λ xs. faults xs ++ g) empty, all.within (subst (All P) (sym empty) (All-nil P)))
