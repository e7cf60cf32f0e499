-- The lines of a bundle, put one after another.
use Rattle.std.proofs.Common.{◌≡◌, ◌≢◌, ℕ, suc, ◌+◌, ◌<◌, List, [], ◌∷◌, ◌++◌, length, map, take, drop, get_or, true, false, Some, None, Result, Ok, Err, IfErr, refl, sym, ap, ◌∙◌, arith, append_assoc, append-nil, add-one, position, nat_lt, option_map, inl, inr}
use Rattle.std.specs.List.{list_any, position_or_len}
use Rattle.std.proofs.Math.Seq.{take-suc}
use Rattle.std.proofs.lemmas.Bool.{cases_Bool, lt-ltb, ltb-true, or_parts}
use Rattle.std.proofs.lemmas.Grind.{flat_map-append}
use Rattle.std.proofs.lemmas.List.{map-append, take-append-drop, length-append}
use Rattle.std.proofs.lemmas.List.Elements.{All-push}
use Rattle.std.proofs.lemmas.List.Folds.{list_any-append}
use Rattle.aud_tap.specs.declared.records.TapKind.{TapKind}
use Rattle.aud_tap.specs.declared.records.Rec.{Rec}
use Rattle.aud_tap.specs.declared.records.Rec.TheVariants.{Header}
use Rattle.aud_tap.specs.declared.taps.Tap.{Tap}
use Rattle.aud_reader.specs.declared.fault.ReadFault.{ReadFault}
use Rattle.aud_reader.specs.declared.fault.ReadFault.TheVariants.{Input, Memory}
use Rattle.aud_reader.specs.Bundle.{kind_of_tap}
use Rattle.aud_reader.specs.OwnLines.{recs_in}
use Rattle.aud_writer.specs.declared.bundle.Lines.{Lines}
use Rattle.aud_writer.specs.Written.{line_text}
use Rattle.aud_writer.specs.WrittenBundle.{ReadsBack, named, named_recs, line_texts, ended, recs_of_taps, written_bundle, unless_too_long}
use Rattle.aud_writer.specs.Private.SoFar.{is_long, AreWritten, AreRefused, Puts}

-- ---- one more line

-- the lines, and one more
line_texts-push : (done : List (List ℕ × Rec)) (r : List ℕ × Rec) → line_texts (done ++ r ∷ []) ≡ line_texts done ++ line_text r.0 r.1 ∷ []
line_texts-push done r = map-append (λ (x : List ℕ × Rec). line_text x.0 x.1) done (r ∷ [])

-- a line that is put, with its newline
pub written-put : (old new : Lines) (r : List ℕ × Rec) (line : List ℕ) (done : List (List ℕ × Rec)) → line ≡ line_text r.0 r.1 → new.bytes.items ≡ (old.bytes.items ++ line) ++ 10 ∷ [] → new.count ≡ old.count + 1
    → is_long line ≡ false → ReadsBack r → AreWritten old done → AreWritten new (done ++ r ∷ [])
written-put old new r line done is bytes count short back written =
    record {
      bytes = bytes ∙ rw (line_texts-push done r, flat_map-append (λ (l : List ℕ). l ++ 10 ∷ []) (line_texts done) (line_text r.0 r.1 ∷ []), append-nil, ← is, written.bytes) (append_assoc (ended (line_texts done)) line (10 ∷ []));
      count = count ∙ ap (λ n. n + 1) written.count ∙ sym (length-append done (r ∷ []));
      short = rw (line_texts-push done r, list_any-append is_long (line_texts done) (line_text r.0 r.1 ∷ []), written.short, ← is, short) refl;
      back = All-push ReadsBack done r written.back back;
    }

-- ---- lines after lines

-- a line that is too long is so whatever follows
pub refused-more : (e : ReadFault) (recs more : List (List ℕ × Rec)) → AreRefused e recs → AreRefused e (recs ++ more)
refused-more Memory recs more refused = tt
refused-more (Input n code) recs more refused =
    let at = refused.1 in (
      refused.0,
      record {
        before = at.before;
        line = at.line;
        after = at.after ++ line_texts more;
        is = map-append (λ (x : List ℕ × Rec). line_text x.0 x.1) recs more ∙ ap (λ ls. ls ++ line_texts more) at.is ∙ append_assoc at.before (at.line ∷ at.after) (line_texts more);
        number = at.number;
        short = at.short;
        long = at.long;
      },
    )

-- lines, and then others
pub puts-both : (r : Result (Unit {0}) ReadFault) (old mid new : Lines) (a b : List (List ℕ × Rec)) → Puts (Ok tt) old mid a → Puts r mid new b → Puts r old new (a ++ b)
puts-both (Ok u) old mid new a b first second = λ done written. rw (← append_assoc) (second (done ++ a) (first done written))
puts-both (Err e) old mid new a b first second = λ done written. rw (← append_assoc) (second (done ++ a) (first done written))

-- a refusal among the first of them
pub puts-front : (r : Result (Unit {0}) ReadFault) (e f : ReadFault) (old new next : Lines) (a more : List (List ℕ × Rec)) → r ≡ Err e → e ≡ f → Puts (Err f) old new a → Puts r old next (a ++ more)
puts-front (Ok u) e f old new next a more is same refused = cc
puts-front (Err g) e f old new next a more is same refused = λ done written.
    let known : g ≡ f = cc in
    rw known (rw (← append_assoc) (refused-more f (done ++ a) more (refused done written)))

-- ---- the records of a list

module _ {R : Type 0} (name : List ℕ) (f : R → Rec) (xs : List R) where
  -- the records so far, and one more
  named-suc : (i : ℕ) (x : R) → i < length xs → x ≡ get_or xs i x → named name (map f (take (i + 1) xs)) ≡ named name (map f (take i xs)) ++ (name, f x) ∷ []
  named-suc i x within at =
      rw (add-one, take-suc xs i x within, ← at, map-append f (take i xs) (x ∷ []))
      (map-append (λ (rec : Rec). (name, rec)) (map f (take i xs)) (f x ∷ []))

  -- all of them: those so far, one more, and the others
  named-all : (i : ℕ) (x : R) → i < length xs → x ≡ get_or xs i x → named name (map f xs) ≡ (named name (map f (take i xs)) ++ (name, f x) ∷ []) ++ named name (map f (drop (i + 1) xs))
  named-all i x within at =
      ap (λ ys. named name (map f ys)) (sym (take-append-drop (i + 1) xs))
      ∙ ap (λ rs. named name rs) (map-append f (take (i + 1) xs) (drop (i + 1) xs))
      ∙ map-append (λ (rec : Rec). (name, rec)) (map f (take (i + 1) xs)) (map f (drop (i + 1) xs))
      ∙ ap (λ rs. rs ++ named name (map f (drop (i + 1) xs))) (named-suc i x within at)

  -- the records put so far, and one more
  pub puts-more : (old mid new : Lines) (i : ℕ) (x : R) → i < length xs → x ≡ get_or xs i x → Puts (Ok tt) old mid (named name (map f (take i xs))) → Puts (Ok tt) mid new ((name, f x) ∷ [])
      → Puts (Ok tt) old new (named name (map f (take (i + 1) xs)))
  puts-more old mid new i x within at first second = rw (named-suc i x within at) (puts-both (Ok tt) old mid new (named name (map f (take i xs))) ((name, f x) ∷ []) first second)

  -- one of them is refused
  pub puts-refused : (r : Result (Unit {0}) ReadFault) (e g : ReadFault) (old mid new next : Lines) (i : ℕ) (x : R) → i < length xs → x ≡ get_or xs i x → Puts (Ok tt) old mid (named name (map f (take i xs)))
      → r ≡ Err e → e ≡ g → Puts (Err g) mid new ((name, f x) ∷ []) → Puts r old next (named name (map f xs))
  puts-refused r e g old mid new next i x within at first is same refused =
      rw (named-all i x within at)
      (puts-front r e g old new next _ (named name (map f (drop (i + 1) xs))) is same (puts-both (Err g) old mid new (named name (map f (take i xs))) ((name, f x) ∷ []) first refused))

-- ---- the taps

-- lines none of which is too long
none_long : (lines : List (List ℕ)) → list_any is_long lines ≡ false → position is_long lines ≡ None
none_long lines short = rw (at_end lines short, lt-irrefl (length lines)) refl
  where
    at_end : (ls : List (List ℕ)) → list_any is_long ls ≡ false → position_or_len is_long ls ≡ length ls
    at_end [] h = refl
    at_end (l ∷ ls) h = let parts = or_parts (is_long l) (list_any is_long ls) h in rw (parts.0, at_end ls parts.1) (omega arith)

    lt-irrefl : (n : ℕ) → nat_lt n n ≡ false
    lt-irrefl n = elim (cases_Bool (nat_lt n n)) [ inl e ↦ absurd (let below = ltb-true n n e in omega arith) | inr e ↦ e ]

-- the place of the first that is
long_at : (before : List (List ℕ)) (line : List ℕ) (after : List (List ℕ)) → list_any is_long before ≡ false → is_long line ≡ true → position is_long (before ++ line ∷ after) ≡ Some (length before)
long_at before line after short long =
    let within : length before < length (before ++ line ∷ after) = rw (length-append before (line ∷ after)) (omega arith) in
    rw (index before short, lt-ltb (length before) (length (before ++ line ∷ after)) within) refl
  where
    index : (ls : List (List ℕ)) → list_any is_long ls ≡ false → position_or_len is_long (ls ++ line ∷ after) ≡ length ls
    index [] h = rw long refl
    index (l ∷ ls) h = let parts = or_parts (is_long l) (list_any is_long ls) h in rw (parts.0, index ls parts.1) (omega arith)

-- all lines are written: these are the bytes
all-written : (lines : Lines) (taps : List Tap) → AreWritten lines (recs_of_taps taps) → written_bundle taps ≡ Ok lines.bytes.items
all-written lines taps written = rw (none_long (line_texts (recs_of_taps taps)) written.short) (ap Ok (sym written.bytes))

-- a line is too long: that is the refusal
one-refused : (e : ReadFault) (taps : List Tap) → AreRefused e (recs_of_taps taps) → e ≢ Memory → written_bundle taps ≡ Err e
one-refused Memory taps refused other = absurd (other refl)
one-refused (Input n code) taps refused other =
    let at = refused.1 in
    ap (λ o. unless_too_long (option_map suc o) (ended (line_texts (recs_of_taps taps)))) (ap (position is_long) at.is ∙ long_at at.before at.line at.after at.short at.long)
    ∙ rw (refused.0, at.number) refl

-- the same, of taps that are borrowed
pub bundle-written : (lines : Lines) (taps lent : List Tap) → lent ≡ taps → AreWritten lines (recs_of_taps lent) → written_bundle taps ≡ Ok lines.bytes.items
bundle-written lines taps lent same written = rw (← same) (all-written lines lent written)

pub bundle-refused : {X : Type 0} (r : Result X ReadFault) (e f : ReadFault) (taps lent : List Tap) → r ≡ Err e → e ≡ f → lent ≡ taps → AreRefused f (recs_of_taps lent)
    → IfErr r (λ g. g ≢ Memory → written_bundle taps ≡ Err g)
bundle-refused (Ok x) e f taps lent is same lends refused = tt
bundle-refused (Err g) e f taps lent is same lends refused = λ other.
    let known : f ≡ g = cc in
    rw (← lends) (one-refused g lent (rw (← known) refused) other)

-- ---- the lines of a tap

-- the same lines
puts-same : (r : Result (Unit {0}) ReadFault) (old new : Lines) (a b : List (List ℕ × Rec)) → a ≡ b → Puts r old new a → Puts r old new b
puts-same r old new a b e puts = rw (← e) puts

module _ (t : Tap) (name : List ℕ) (of : TapKind) (is : name ≡ t.name) (kind : of ≡ kind_of_tap t.records) where
  -- a header, and then the records
  header-first : (name, Header of t.version) ∷ named name (recs_in t.records) ≡ named_recs t
  header-first =
      ap (λ n. (n, Header of t.version) ∷ named n (recs_in t.records)) is
      ∙ ap (λ k. (t.name, Header k t.version) ∷ named t.name (recs_in t.records)) kind

  -- both are put
  pub tap-put : (r : Result (Unit {0}) ReadFault) (old mid new : Lines) → Puts (Ok tt) old mid ((name, Header of t.version) ∷ []) → Puts r mid new (named name (recs_in t.records)) → Puts r old new (named_recs t)
  tap-put r old mid new first second = puts-same r old new _ (named_recs t) header-first (puts-both r old mid new ((name, Header of t.version) ∷ []) (named name (recs_in t.records)) first second)

  -- the header is refused
  pub header-refused : (r : Result (Unit {0}) ReadFault) (e f : ReadFault) (old new next : Lines) → r ≡ Err e → e ≡ f → Puts (Err f) old new ((name, Header of t.version) ∷ []) → Puts r old next (named_recs t)
  header-refused r e f old new next err same refused =
      puts-same r old next _ (named_recs t) header-first (puts-front r e f old new next ((name, Header of t.version) ∷ []) (named name (recs_in t.records)) err same refused)

-- ---- the taps, one after another

module _ (taps : List Tap) (i : ℕ) (t : Tap) (within : i < length taps) (at : t ≡ get_or taps i t) where
  -- the lines of the taps so far, and of one more
  taps-suc : recs_of_taps (take (i + 1) taps) ≡ recs_of_taps (take i taps) ++ named_recs t
  taps-suc = rw (add-one, take-suc taps i t within, ← at, flat_map-append named_recs (take i taps) (t ∷ []), append-nil) refl

  -- they are written
  pub taps-written : (lines : Lines) → AreWritten lines (recs_of_taps (take i taps) ++ named_recs t) → AreWritten lines (recs_of_taps (take (i + 1) taps))
  taps-written lines written = rw taps-suc written

  -- all of them
  taps-all : recs_of_taps taps ≡ (recs_of_taps (take i taps) ++ named_recs t) ++ recs_of_taps (drop (i + 1) taps)
  taps-all =
      ap recs_of_taps (sym (take-append-drop (i + 1) taps))
      ∙ flat_map-append named_recs (take (i + 1) taps) (drop (i + 1) taps)
      ∙ ap (λ rs. rs ++ recs_of_taps (drop (i + 1) taps)) taps-suc

  -- a line of the tap is refused
  pub taps-refused : {X : Type 0} (r : Result X ReadFault) (e f : ReadFault) → r ≡ Err e → e ≡ f → AreRefused f (recs_of_taps (take i taps) ++ named_recs t) → IfErr r (λ g. AreRefused g (recs_of_taps taps))
  taps-refused (Ok x) e f is same refused = tt
  taps-refused (Err g) e f is same refused =
      let known : g ≡ f = cc in
      rw (known, taps-all) (refused-more f (recs_of_taps (take i taps) ++ named_recs t) (recs_of_taps (drop (i + 1) taps)) refused)
