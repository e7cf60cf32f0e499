-- Bytes that are taken in, one piece after the other.
use Rattle.std.proofs.Common.{◌≡◌, ℕ, List, [], ◌++◌, Option, Some, None, Result, Ok, Err, IfOk, IfErr, IfSome, refl, sym, ap, ◌∙◌, subst, append_assoc, append-nil, length-append, arith}
use Rattle.std.specs.Io.KnownBytes.{Consumes}
use Rattle.std.proofs.KnownBytes.{Consumes-nil, Consumes-trans}
use Rattle.aud_reader.specs.declared.fault.ReadFault.{ReadFault}
use Rattle.aud_reader.specs.declared.fault.ReadFault.TheVariants.{Memory}
use Rattle.aud_input.specs.declared.input.Layout.{Layout}
use Rattle.aud_input.specs.Input.{InputSeen, IsInputOf, input_of}
use Rattle.aud_input.specs.Reader.{HasLines, InputSoFar, input_to_come}
use Rattle.aud_input.specs.Sources.{is_begun}
use Rattle.aud_input.specs.declared.feeding.Feeding.{Feeding}
use Rattle.aud_input.specs.Private.Feeding.{IsReadWhole, Takes, TakesIn}
use Rattle.aud_input.proofs.GivenLemmas.{begun-append}
use Rattle.aud_input.proofs.PiecesLemmas.{answer-is}

-- a refusal stays
stays-refused : (s : InputSoFar) (fault : Option ReadFault) → s.fault ≡ fault → IfSome fault (λ f. s.fault ≡ Some f)
stays-refused s None is = tt
stays-refused s (Some f) is = is

pub stays-more : (a b c : Option ReadFault) → IfSome a (λ f. b ≡ Some f) → IfSome b (λ f. c ≡ Some f) → IfSome a (λ f. c ≡ Some f)
stays-more None b c first then = tt
stays-more (Some f) b c first then = rw first at then

-- nothing is taken in
pub Takes-nil : (s : InputSoFar) → Takes s s []
Takes-nil s = record { input = λ more. refl; lines = λ before has. subst (λ bytes. HasLines bytes s) (sym (append-nil before)) has; stays = stays-refused s s.fault refl }

-- bytes, and then others
Takes-more : (a b c : InputSoFar) (x y : List ℕ) → Takes a b x → Takes b c y → Takes a c (x ++ y)
Takes-more a b c x y first then = record {
  input = λ more. then.input more ∙ first.input (y ++ more) ∙ ap (input_to_come a) (sym (append_assoc x y more));
  lines = λ before has. subst (λ bytes. HasLines bytes c) (append_assoc before x y) (then.lines (before ++ x) (first.lines before has));
  stays = stays-more a.fault b.fault c.fault first.stays then.stays;
}

TakesIn-nil : (s : Feeding) → TakesIn s s []
TakesIn-nil s = record { takes = Takes-nil s.reader; begun = refl; size = omega arith }

TakesIn-more : (a b c : Feeding) (x y : List ℕ) → TakesIn a b x → TakesIn b c y → TakesIn a c (x ++ y)
TakesIn-more a b c x y first then = record {
  takes = Takes-more a.reader b.reader c.reader x y first.takes then.takes;
  begun = then.begun ∙ ap (λ begun. is_begun begun y) first.begun ∙ sym (begun-append a.begun x y);
  size = omega (arith, first.size, then.size, length-append x y);
}

-- what was read of a file so far was taken in
pub record IsReadUpTo (before left : Option (List ℕ)) (old new : Feeding) : Type 0 where
  pub front : List ℕ
  pub consumed : Consumes before left front
  pub taken : TakesIn old new front

pub none_read : (before : Option (List ℕ)) (s : Feeding) → IsReadUpTo before before s s
none_read before s = record { front = []; consumed = Consumes-nil before; taken = TakesIn-nil s }

-- one more piece
pub more_read : (a b c : Option (List ℕ)) (s t u : Feeding) (piece : List ℕ) → IsReadUpTo a b s t → Consumes b c piece → TakesIn t u piece → IsReadUpTo a c s u
more_read a b c s t u piece so_far given taken = record {
  front = so_far.front ++ piece;
  consumed = Consumes-trans a b c so_far.front piece so_far.consumed given;
  taken = TakesIn-more s t u so_far.front piece so_far.taken taken;
}

-- what a reader gives of an input that was read whole
pub input_read : (layout : Layout) (left : Option (List ℕ)) (s t : Feeding) (answer : Result InputSeen ReadFault) → ((bytes : List ℕ) → input_to_come s.reader bytes ≡ input_of layout bytes)
    → IsReadWhole left s t → IfOk answer (λ input. input_to_come t.reader [] ≡ Ok input) → IfErr answer (λ e. ¬ (e ≡ Memory) → input_to_come t.reader [] ≡ Err e)
    → ¬ (answer ≡ Err Memory) → IsInputOf layout left answer
input_read layout left s t answer begins read ok err other = (
  read.0,
  read.1,
  ap (input_of layout) (sym (append-nil read.0)) ∙ sym (begins (read.0 ++ [])) ∙ sym (read.2.takes.input []) ∙ answer-is (input_to_come t.reader []) answer ok err other,
)
