-- The sessions of a part.
use Rattle.std.proofs.Common.{◌≡◌, Bool, true, false, ◌||◌, List, [], ◌∷◌, filter, refl, sym, ap, ◌∙◌, bytes_eq}
use Rattle.std.specs.List.{All, list_any}
use Rattle.std.proofs.lemmas.Bool.{false≢true, or_left, or_right, false_from_ne_true}
use Rattle.std.proofs.lemmas.List.Elements.{All-weaker}
use Rattle.aud_tap.specs.declared.taps.Records.{Records}
use Rattle.aud_base.proofs.SameText.{same_text, itself_text}
use Rattle.aud_node.specs.Stream.{Text}
use Rattle.aud_parts.specs.LeftOut.{tell_of}
use Rattle.aud_parts.specs.Part.{is_among}
use Rattle.aud_laws.proofs.MadeOther.Lists.{any-wider}
use Rattle.aud_laws.proofs.InParts.Lists.{filter-none}

-- where one of the sessions passes, some does
pub among-any : (pids : List Text) (pid : Text) (test : Text → Bool) → is_among pids pid ≡ true → test pid ≡ true → list_any test pids ≡ true
among-any pids pid test among is = any-wider (λ own. bytes_eq own pid) test (λ own same. ap test (same_text own pid same) ∙ is) pids among

-- where some session passes, it is one of them
pub one-among : (pids : List Text) (test : Text → Bool) → list_any test pids ≡ true → (pid : Text) × (is_among pids pid ≡ true) × (test pid ≡ true)
one-among [] test is = absurd (false≢true is)
one-among (own ∷ pids) test is = go (test own) refl is (one-among pids test)
  where
    go : (b : Bool) → test own ≡ b → (b || list_any test pids) ≡ true → (list_any test pids ≡ true → (pid : Text) × (is_among pids pid ≡ true) × (test pid ≡ true))
        → (pid : Text) × (is_among (own ∷ pids) pid ≡ true) × (test pid ≡ true)
    go true here h ih = (own, or_left (bytes_eq own own) (is_among pids own) (itself_text own), here)
    go false none h ih = let (pid, among, passes) = ih h in (pid, or_right (bytes_eq own pid) (is_among pids pid) among, passes)

-- records that tell of none of the sessions name none of them
pub none-own : (pids : List Text) (records : Records) → list_any (λ own. tell_of own records) pids ≡ false → (named : List Text) → All (λ pid. tell_of pid records ≡ true) named → filter (is_among pids) named ≡ []
none-own pids records untold named tells =
    filter-none (is_among pids) named
    (All-weaker (λ pid. tell_of pid records ≡ true) (λ pid. is_among pids pid ≡ false)
    (λ pid told. false_from_ne_true (is_among pids pid) (λ among. false≢true (sym untold ∙ among-any pids pid (λ own. tell_of own records) among told))) named tells)
