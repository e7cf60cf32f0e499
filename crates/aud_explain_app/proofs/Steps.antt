-- What loops do, one step more.
use Rattle.std.proofs.Common.{◌≡◌, ◌<◌, ◌≤◌, ◌+◌, ◌-◌, ◌++◌, ℕ, zero, suc, Bool, true, false, if◌then◌else◌, List, [], ◌∷◌, length, take, drop, get_or, flat_map, map, Option, Some, option_to_list, slice_get, string_bytes, refl, sym, ap, subst, ◌∙◌, append_assoc, append-nil, arith}
use Rattle.std.specs.List.{AllZip}
use Rattle.std.proofs.lemmas.List.{drop-drop, length-take-le, map-append, take-append-drop, take_more, take_rest}
use Rattle.std.proofs.lemmas.List.Elements.{All-append, All-cons, All-nil}
use Rattle.std.proofs.lemmas.Grind.{flat_map-append}
use Rattle.aud_base.specs.Places.{noted, places_where}
use Rattle.aud_base.proofs.NotedPlaces.{noted-at}
use Rattle.aud_node.specs.Cluster.{Cluster}
use Rattle.aud_findings.proofs.Read.{zip_append}
use Rattle.aud_explain_app.specs.declared.written.Form.{Form}
use Rattle.aud_input.specs.declared.input_file.InputFile.{InputFile}
use Rattle.aud_input.specs.TapLines.{TapLines}
use Rattle.aud_verdict.specs.declared.verdict.SessionVerdict.{SessionVerdict}
use Rattle.aud_explain_app.specs.Strangers.{AreAdded, IsJudged, asked_in_vain, has_pid, pid_in_vain, pids_of, with_pids}
use Rattle.aud_explain_app.specs.Alike.{Telling}
use Rattle.aud_explain_app.specs.Explained.{IsExplained}
use Rattle.aud_explain_app.specs.CausesTold.{AreCausesTold}
use Rattle.aud_explain_app.specs.Texts.{AddTexts, IsTextOf, causes_in, text_in}
use Rattle.aud_explain_app.specs.declared.sessions.ToldText.{ToldText}
use Rattle.aud_explain_app.specs.declared.summary.causes.CausesTold.{CausesTold}
use Rattle.aud_explain_app.specs.Written.{IsWritten}
use Rattle.aud_explain_app.specs.declared.explained.Explained.{Explained}
use Rattle.aud_explain_app.specs.Asked.{asked_for}
use Rattle.aud_node.specs.Stream.{Text}
use Rattle.aud_session_facts.specs.declared.asked.Recovery.{Recovery}

-- an element is read alike, whatever is read where there is none
same : {X : Type 0} (xs : List X) (i : ℕ) (d e : X) → i < length xs → get_or xs i d ≡ get_or xs i e
same [] i d e h = absurd (omega arith)
same (x ∷ xs) zero d e h = refl
same (x ∷ xs) (suc i) d e h = same xs i d e (omega arith)

-- a place that is noted by what stands there
pub noted-get : {X : Type 0} (p : Option X → Bool) (xs : List X) (i : ℕ) (d : X) (old new : List ℕ) → i < length xs
    → old ≡ places_where (λ k. p (slice_get xs k)) i → new ≡ noted i (p (Some (get_or xs i d))) old → new ≡ places_where (λ k. p (slice_get xs k)) (i + 1)
noted-get p xs i d old new h was more = noted-at p xs i (get_or xs i d) old new h (same xs i d (get_or xs i d) h) was more

-- what each element adds, one more
pub flat_item : {X Y : Type 0} (f : X → List Y) (xs : List X) (i : ℕ) (d : X) (old new : List Y) → i < length xs → old ≡ flat_map f (take i xs)
    → new ≡ old ++ f (get_or xs i d) → new ≡ flat_map f (take (i + 1) xs)
flat_item f xs i d old new h was more =
    more ∙ ap (λ ys. ys ++ f (get_or xs i d)) was
    ∙ sym (ap (flat_map f) (take_more xs i d h) ∙ flat_map-append f (take i xs) (get_or xs i d ∷ []) ∙ ap (λ t. flat_map f (take i xs) ++ t) (append-nil (f (get_or xs i d))))

-- ---- strangers

-- pids that come after others
with-append : (pids xs ys : List Text) → with_pids pids (xs ++ ys) ≡ with_pids (with_pids pids xs) ys
with-append pids [] ys = refl
with-append pids (x ∷ xs) ys = with-append (if has_pid pids x then pids else pids ++ x ∷ []) xs ys

-- more verdicts
added_more : (c : Cluster) (whole : Bool) (xs ys : List Text) (a b d : List SessionVerdict) → AreAdded c whole xs a b → AreAdded c whole ys b d → AreAdded c whole (xs ++ ys) a d
added_more c whole xs ys a b d first next =
    record {
      others = first.others ++ next.others;
      are_judged = All-append (IsJudged c whole) first.others next.others first.are_judged next.are_judged;
      are_added = next.are_added ∙ ap (λ zs. zs ++ next.others) first.are_added ∙ append_assoc a first.others next.others;
      are_asked = next.are_asked ∙ ap (λ pids. with_pids pids ys) first.are_asked ∙ sym (with-append (pids_of a) xs ys);
    }

-- the same in a loop
pub added_item : (c : Cluster) (whole : Bool) (xs : List Recovery) (i : ℕ) (x : Recovery) (a b d : List SessionVerdict) → i < length xs
    → AreAdded c whole (asked_in_vain c (take i xs)) a b → AreAdded c whole (option_to_list (pid_in_vain c (get_or xs i x))) b d
    → AreAdded c whole (asked_in_vain c (take (i + 1) xs)) a d
added_item c whole xs i x a b d h was more =
    subst (λ pids. AreAdded c whole pids a d)
    (sym (ap (asked_in_vain c) (take_more xs i x h) ∙ flat_map-append of (take i xs) (get_or xs i x ∷ []) ∙ ap (λ t. asked_in_vain c (take i xs) ++ t) (append-nil (of (get_or xs i x)))))
    (added_more c whole (asked_in_vain c (take i xs)) (of (get_or xs i x)) a b d was more)
  where
    of : Recovery → List Text
    of r = option_to_list (pid_in_vain c r)

-- the verdict on one more session was added
pub added_one : (c : Cluster) (whole : Bool) (pid : Text) (s : SessionVerdict) (old new : List SessionVerdict) → IsJudged c whole s → s.pid ≡ pid → has_pid (pids_of old) pid ≡ false → new ≡ old ++ s ∷ []
    → AreAdded c whole (pid ∷ []) old new
added_one c whole pid s old new judged is unknown added =
    record {
      others = s ∷ [];
      are_judged = All-cons (IsJudged c whole) s [] judged (All-nil (IsJudged c whole));
      are_added = added;
      are_asked = ap pids_of added ∙ map-append (λ (v : SessionVerdict). v.pid) old (s ∷ []) ∙ ap (λ p. pids_of old ++ p ∷ []) is
          ∙ sym (ap (λ b. if b then pids_of old else pids_of old ++ pid ∷ []) unknown);
    }

-- the pid has a verdict already: none is added
pub added_none : (c : Cluster) (whole : Bool) (pid : Text) (old : List SessionVerdict) → has_pid (pids_of old) pid ≡ true → AreAdded c whole (pid ∷ []) old old
added_none c whole pid old has =
    record {
      others = [];
      are_judged = All-nil (IsJudged c whole);
      are_added = sym (append-nil old);
      are_asked = sym (ap (λ b. if b then pids_of old else pids_of old ++ pid ∷ []) has);
    }

-- ---- texts

-- what code reads of a list from a place on
abbrev from : {X : Type 0} → List X → ℕ → List X
from xs i = take (length xs - i) (drop i xs)

-- the texts of sessions, and then those of others
texts_joined : (c : Cluster) (lines : List TapLines) (form : Form) (files : List InputFile) (xs ys : List Telling) (a b e : List ℕ) (k m n : List CausesTold)
    → AddTexts c lines form files xs a b k m → AddTexts c lines form files ys b e m n → AddTexts c lines form files (xs ++ ys) a e k n
texts_joined c lines form files xs ys a b e k m n first next =
    record {
      told = first.told ++ next.told;
      are_told = zip_append (IsTextOf c lines form files) xs first.told ys next.told first.are_told next.are_told;
      added = next.added ∙ ap (λ t. t ++ flat_map text_in next.told) first.added ∙ append_assoc a (flat_map text_in first.told) (flat_map text_in next.told)
          ∙ ap (λ t. a ++ t) (sym (flat_map-append text_in first.told next.told));
      causes_added = next.causes_added ∙ ap (λ t. t ++ map causes_in next.told) first.causes_added ∙ append_assoc k (map causes_in first.told) (map causes_in next.told)
          ∙ ap (λ t. k ++ t) (sym (map-append causes_in first.told next.told));
    }

-- a list from a place on is its next part, and what comes after that
part_of : {X : Type 0} (xs : List X) (i k : ℕ) → k ≤ length (from xs i) → take k (from xs i) ++ drop (i + length (take k (from xs i))) xs ≡ drop i xs
part_of xs i k h =
    let rest = take_rest xs i in
    let others = ap (λ n. drop (i + n) xs) (length-take-le k (from xs i) h) ∙ sym (drop-drop k i xs) ∙ ap (drop k) (sym rest) in
    ap (λ ys. take k (from xs i) ++ ys) others ∙ take-append-drop k (from xs i) ∙ rest

-- the texts of the next part of a list, and then those of what comes after it
pub texts_part : {X : Type 0} (c : Cluster) (lines : List TapLines) (form : Form) (files : List InputFile) (f : X → Telling) (xs : List X) (i k : ℕ) (a b e : List ℕ) (before between after : List CausesTold)
    → k ≤ length (from xs i) → AddTexts c lines form files (map f (take k (from xs i))) a b before between
    → AddTexts c lines form files (map f (drop (i + length (take k (from xs i))) xs)) b e between after → AddTexts c lines form files (map f (drop i xs)) a e before after
texts_part c lines form files f xs i k a b e before between after h first next =
    let part = take k (from xs i) in
    let others = drop (i + length part) xs in
    subst (λ ys. AddTexts c lines form files ys a e before after) (sym (map-append f part others) ∙ ap (map f) (part_of xs i k h))
    (texts_joined c lines form files (map f part) (map f others) a b e before between after first next)

-- no texts
pub texts_none : {X : Type 0} (c : Cluster) (lines : List TapLines) (form : Form) (files : List InputFile) (f : X → Telling) (xs : List X) (a : List ℕ) (causes : List CausesTold) → xs ≡ []
    → AddTexts c lines form files (map f xs) a a causes causes
texts_none c lines form files f xs a causes is =
    subst (λ ys. AddTexts c lines form files (map f ys) a a causes causes) (sym is)
    (record { told = []; are_told = tt; added = sym (append-nil a); causes_added = sym (append-nil causes) })

-- the texts of sessions, made apart from each other, are put one after the other
pub texts_put : {X : Type 0} (c : Cluster) (lines : List TapLines) (form : Form) (files : List InputFile) (f : X → Telling) (xs : List X) (told : List ToldText) (a b : List ℕ) (before after : List CausesTold)
    → AllZip (λ x t. IsTextOf c lines form files (f x) t) xs told → b ≡ a ++ flat_map text_in told → after ≡ before ++ map causes_in told
    → AddTexts c lines form files (map f xs) a b before after
texts_put {X} c lines form files f xs told a b before after made put causes = record { told = told; are_told = each xs told made; added = put; causes_added = causes }
  where
    each : (xs : List X) (ts : List ToldText) → AllZip (λ x t. IsTextOf c lines form files (f x) t) xs ts → AllZip (IsTextOf c lines form files) (map f xs) ts
    each [] [] h = tt
    each [] (t ∷ ts) h = absurd h
    each (x ∷ xs) [] h = absurd h
    each (x ∷ xs) (t ∷ ts) h = (h.0, each xs ts h.1)

-- what is told of a session by its pid and the recoveries that were asked for it
pub text_by : (c : Cluster) (lines : List TapLines) (form : Form) (files : List InputFile) (t : Telling) (pid : Text) (own : List Recovery) (explained : Explained) (told : ToldText)
    → pid ≡ t.session.pid → own ≡ asked_for c t.session.pid → IsExplained c lines pid t.session.verdict own explained
    → IsWritten form files pid t.session.verdict t.alike explained (string_bytes told.text) → AreCausesTold t.session.verdict (length t.alike) explained told.causes → IsTextOf c lines form files t told
text_by c lines form files t pid own explained told is are are_explained written causes = record {
  explained = explained;
  is_explained = subst (λ p. IsExplained c lines p t.session.verdict (asked_for c t.session.pid) explained) is (subst (λ r. IsExplained c lines pid t.session.verdict r explained) are are_explained);
  is_written = subst (λ p. IsWritten form files p t.session.verdict t.alike explained (string_bytes told.text)) is written;
  are_causes = causes;
}
