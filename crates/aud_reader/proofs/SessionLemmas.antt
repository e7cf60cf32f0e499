-- Calls of a splitter one after another.
use Rattle.std.proofs.Common.{◌≡◌, ℕ, List, [], ◌∷◌, ◌++◌, Option, Some, None, Result, Ok, Err, IfSome, refl, sym, ap, subst, ◌∙◌, append_assoc, append-nil}
use Rattle.std.proofs.lemmas.Grind.{flat_map-append}
use Rattle.aud_reader.specs.declared.line.Line.{Line}
use Rattle.aud_reader.specs.declared.fault.ReadFault.{ReadFault}
use Rattle.aud_reader.specs.declared.fault.ReadFault.TheVariants.{Input, Memory}
use Rattle.aud_reader.specs.Lines.{Lines, Split, IsFront, lines_of, lines_to_come, result_of, after_lines}
use Rattle.aud_reader.specs.Session.{FeedsPiece, Takes, Finishes, SplitterCall, Feed, Take, SplitterCallsFollow, bytes_fed, lines_taken, fed, taken, new_splitter, TakenAndLastAreLines, TakenAreLinesBefore, TakenAreFront}
use Rattle.aud_reader.proofs.LinesLemmas.{some_of}
use Rattle.aud_reader.proofs.Fronts.{front-of-front, front-after}

-- a splitter that has refused stays as it is
same-if_some : (s t : Split) (result : Result (Unit {0}) ReadFault) (had : Option ReadFault) (fault : ReadFault)
    → IfSome had (λ f. (result ≡ Err f) × (t ≡ s)) → had ≡ Some fault → t ≡ s
same-if_some s t result None fault refused e = cc
same-if_some s t result (Some f) fault refused e = refused.1

-- a refusal stays
refusal_stays : (s t : Split) (calls : List SplitterCall) (fault : ReadFault) → SplitterCallsFollow s calls t → s.fault ≡ Some fault → t.fault ≡ Some fault
refusal_stays s t [] fault follow e = rw follow e
refusal_stays s t (Feed piece result new ∷ calls) fault follow e =
    refusal_stays new t calls fault follow.1 (rw (same-if_some s new result s.fault fault follow.0.refused e) e)
refusal_stays s t (Take given new ∷ calls) fault follow e = refusal_stays new t calls fault follow.1 (rw follow.0.left e)

-- lines taken, and then those to come, are what was to come before the take
taken-then : (given : List Line) (s : Split) (text : List ℕ) → given ≡ s.waiting
    → after_lines given (lines_to_come (record s { waiting = [] }) text) ≡ lines_to_come s text
taken-then given s text e = rw e refl

-- lines given in two parts are given in one
after_lines-append : (a b : List Line) (ls : Lines) → after_lines (a ++ b) ls ≡ after_lines a (after_lines b ls)
after_lines-append a b ls = rw append_assoc refl

-- what was taken, and what is still to come, unless memory ran out
to_come-follow : (s t : Split) (calls : List SplitterCall) (more : List ℕ) → SplitterCallsFollow s calls t → ¬ (t.fault ≡ Some Memory)
    → after_lines (taken calls) (lines_to_come t more) ≡ lines_to_come s (fed calls ++ more)
to_come-follow s t [] more follow memory = rw follow refl
to_come-follow s t (Feed piece result new ∷ calls) more follow memory =
    to_come-follow new t calls more follow.1 memory
    ∙ follow.0.lines (fed calls ++ more) (λ e. memory (refusal_stays new t calls Memory follow.1 (some_of new.fault Memory (sym e ∙ follow.0.value))))
    ∙ ap (lines_to_come s) (sym (append_assoc piece (fed calls) more))
to_come-follow s t (Take given new ∷ calls) more follow memory =
    after_lines-append given (taken calls) (lines_to_come t more)
    ∙ ap (after_lines given) (to_come-follow new t calls more follow.1 memory)
    ∙ ap (λ n. after_lines given (lines_to_come n (fed calls ++ more))) follow.0.left
    ∙ taken-then given s (fed calls ++ more) follow.0.lines

-- after a refusal a splitter gives what waits, and the refusal
refused-gives : (t : Split) (text : List ℕ) (fault : ReadFault) → t.fault ≡ Some fault → lines_to_come t text ≡ record { lines = t.waiting; fault = Some fault }
refused-gives t text fault e = rw (e, append-nil) refl

-- what one call of `feed` does to a front of what comes after it
front-fed : (s t : Split) (piece : List ℕ) (result : Result (Unit {0}) ReadFault) (front : List Line) (text : List ℕ) → FeedsPiece s piece result t
    → IsFront front (lines_to_come t text).lines → IsFront front (lines_to_come s (piece ++ text)).lines
front-fed s t piece result front text feeds first =
    let going : ¬ (result ≡ Err Memory) → IsFront front (lines_to_come s (piece ++ text)).lines = λ other. subst (λ ls. IsFront front ls.lines) (feeds.lines text other) first in
    elim t.fault as (λ o. t.fault ≡ o → IsFront front (lines_to_come s (piece ++ text)).lines) [
      | None ↦ λ e. going (λ m. let is : Err Memory ≡ result_of None = sym m ∙ feeds.value ∙ ap result_of e in cc)
      | Some (Input n code) ↦ λ e. going (λ m. let is : Err Memory ≡ result_of (Some (Input n code)) = sym m ∙ feeds.value ∙ ap result_of e in cc)
      | Some Memory ↦ λ e. front-of-front front t.waiting _ (subst (λ ls. IsFront front ls.lines) (refused-gives t text Memory e) first) (feeds.front text)
    ] refl

-- what calls have taken, and what waits, is a front of the lines of any text that goes on
front-follow : (s t : Split) (calls : List SplitterCall) (more : List ℕ) → SplitterCallsFollow s calls t
    → IsFront (taken calls ++ t.waiting) (lines_to_come s (fed calls ++ more)).lines
front-follow s t [] more follow = rw follow (record { rest = _; is = refl })
front-follow s t (Feed piece result new ∷ calls) more follow =
    subst (λ text. IsFront (taken calls ++ t.waiting) (lines_to_come s text).lines) (sym (append_assoc piece (fed calls) more))
    (front-fed s new piece result (taken calls ++ t.waiting) (fed calls ++ more) follow.0 (front-follow new t calls more follow.1))
front-follow s t (Take given new ∷ calls) more follow =
    let first = front-follow new t calls more follow.1 in
    let same = ap (λ n. after_lines given (lines_to_come n (fed calls ++ more))) follow.0.left ∙ taken-then given s (fed calls ++ more) follow.0.lines in
    subst (λ front. IsFront front (lines_to_come s (fed calls ++ more)).lines) (sym (append_assoc given (taken calls) t.waiting))
    (subst (λ ls. IsFront (given ++ (taken calls ++ t.waiting)) ls.lines) same (front-after given (taken calls ++ t.waiting) _ first))

-- a splitter that ends without a refusal has none
going-at_end : (t : Split) (ls : List Line) → lines_to_come t [] ≡ record { lines = ls; fault = None } → ¬ (t.fault ≡ Some Memory)
going-at_end t ls ends e =
    let both : Some Memory ≡ None = ap (λ l. l.fault) (sym (refused-gives t [] Memory e) ∙ ends) in cc

-- where the end is no refusal, the lines taken and the last ones are those of the whole input
pub taken_and_last : TakenAndLastAreLines
taken_and_last = λ calls last ls follow finish.
    ap lines_of (sym (append-nil (fed calls)))
    ∙ sym (to_come-follow new_splitter last calls [] follow (going-at_end last ls finish.ok))
    ∙ ap (after_lines (taken calls)) finish.ok

-- after a line was refused, those taken and those that wait are all the lines before it
pub taken_before : TakenAreLinesBefore
taken_before = λ calls last fault follow e other more.
    let going : ¬ (last.fault ≡ Some Memory) = λ m. let is : Some fault ≡ Some Memory = sym e ∙ m in other (cc) in
    sym (to_come-follow new_splitter last calls more follow going) ∙ ap (after_lines (taken calls)) (refused-gives last more fault e)

-- lines taken are a front of those of the input, whatever follows
pub taken_front : TakenAreFront
taken_front = λ calls last follow more. front-follow new_splitter last calls more follow

-- a splitter that came, from the begin of an input, by calls that fed this text and took these lines
pub record Came (text : List ℕ) (given : List Line) (s : Split) : Type 0 where
  pub calls : List SplitterCall
  pub follow : SplitterCallsFollow new_splitter calls s
  pub feeds : fed calls ≡ text
  pub takes : taken calls ≡ given

-- calls that follow one another, and then others, follow as one list
follow-append : (s t u : Split) (xs ys : List SplitterCall) → SplitterCallsFollow s xs t → SplitterCallsFollow t ys u → SplitterCallsFollow s (xs ++ ys) u
follow-append s t u [] ys first second = subst (λ start. SplitterCallsFollow start ys u) first second
follow-append s t u (Feed piece result new ∷ xs) ys first second = (first.0, follow-append new t u xs ys first.1 second)
follow-append s t u (Take given new ∷ xs) ys first second = (first.0, follow-append new t u xs ys first.1 second)

-- one more call
came-call : (text : List ℕ) (given : List Line) (s t : Split) (call : SplitterCall) → Came text given s → SplitterCallsFollow s (call ∷ []) t → Came (text ++ bytes_fed call) (given ++ lines_taken call) t
came-call text given s t call came follow =
    record {
      calls = came.calls ++ call ∷ [];
      follow = follow-append new_splitter s t came.calls (call ∷ []) came.follow follow;
      feeds = flat_map-append bytes_fed came.calls (call ∷ []) ∙ rw (came.feeds, append-nil (bytes_fed call)) refl;
      takes = flat_map-append lines_taken came.calls (call ∷ []) ∙ rw (came.takes, append-nil (lines_taken call)) refl;
    }

-- one more piece
pub came-feed : (text : List ℕ) (given : List Line) (s t : Split) (piece : List ℕ) (result : Result (Unit {0}) ReadFault)
    → Came text given s → FeedsPiece s piece result t → Came (text ++ piece) given t
came-feed text given s t piece result came feeds = subst (λ lines. Came (text ++ piece) lines t) (append-nil given) (came-call text given s t (Feed piece result t) came (feeds, refl))

-- one more take
pub came-take : (text : List ℕ) (given ls : List Line) (s t : Split) → Came text given s → Takes s ls t → Came text (given ++ ls) t
came-take text given ls s t came takes = subst (λ bytes. Came bytes (given ++ ls) t) (append-nil text) (came-call text given s t (Take ls t) came (takes, refl))

-- the end of the input
pub came-finish : (text : List ℕ) (given ls : List Line) (s : Split) → Came text given s → Finishes s (Ok ls)
    → lines_of text ≡ record { lines = given ++ ls; fault = None }
came-finish text given ls s came finish =
    ap lines_of (sym came.feeds) ∙ taken_and_last came.calls s ls came.follow finish ∙ ap (λ g. record { lines = g ++ ls; fault = None }) came.takes
