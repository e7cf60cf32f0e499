-- The runs of each tap have the lines that begin with its name: one line more.
use Rattle.std.proofs.Common.{◌≡◌, ℕ, ◌+◌, ◌≤◌, List, [], ◌∷◌, ◌++◌, length, map, get_or, Bool, true, false, cond, ◌⊎◌, inl, inr, Option, Some, None, is_some, slice_get, bytes_eq, refl, sym, ap, ◌∙◌, subst, arith, append_assoc, append-nil, length-append}
use Rattle.std.specs.List.{AllByRecursion, cons_option, filter_map}
use Rattle.std.specs.Option.{option_map, option_map_or}
use Rattle.std.proofs.lemmas.Bool.{cases_Bool}
use Rattle.std.proofs.lemmas.List.{flat_map_more}
use Rattle.std.proofs.lemmas.List.Elements.{filter-append, filter_map-append}
use Rattle.std.proofs.lemmas.Option.{none-some, same_Some}
use Rattle.aud_base.specs.FirstTexts.{with_text, with_texts}
use Rattle.aud_base.specs.Lists.{between}
use Rattle.aud_base.proofs.FirstTexts.{with_texts-append}
use Rattle.aud_base.proofs.SameText.{same_text}
use Rattle.aud_node.specs.Lists.{is_empty}
use Rattle.aud_reader.specs.declared.fault.InputCode.{InputCode}
use Rattle.aud_reader.specs.declared.fault.InputCode.TheVariants.{LineTooLong, NoTapName}
use Rattle.aud_reader.specs.declared.fault.ReadFault.{ReadFault}
use Rattle.aud_reader.specs.declared.fault.ReadFault.TheVariants.{Input}
use Rattle.aud_reader.specs.declared.line.Line.{Line}
use Rattle.aud_reader.specs.Lines.{has_newline, is_too_long, line_pieces, without_return}
use Rattle.aud_reader.proofs.LinesLemmas.{pieces_of-last}
use Rattle.aud_input.specs.LineName.{name_of}
use Rattle.aud_input.proofs.ReturnLemmas.{name-without_return}
use Rattle.aud_parts.specs.declared.tap_index.tap_runs.Run.{Run}
use Rattle.aud_parts.specs.TapRuns.{BeginsWithBytes, TapRuns, line_with_bytes, lines_with_bytes, run_bytes, run_lines, runs_lines}
use Rattle.aud_parts.specs.FileLines.{before_refusal, front_code, front_refusal, is_named, lines_named, refused_or}
use Rattle.aud_parts.specs.IndexSoFar.{AreOnce, Indexed, Noted, PlacedLine, all_ended, longer, noted, refused, run_of, with_bytes, with_line, with_name}
use Rattle.aud_parts.proofs.ListSteps.{all-both, all-parts}
use Rattle.aud_parts.proofs.NotedLemmas.{GoesOn, Grows, grows, last_of, last_of-push, last_run, longer-is, runs_by}
use Rattle.aud_parts.proofs.PieceLemmas.{AreWhole, all_ended-push, between-middle, lines-append, lines-one, pieces-ended, whole-push}
use Rattle.aud_parts.proofs.RefusalLemmas.{before-none, refusal-after, refusal-none}

-- the name of a line
abbrev pub name_in : Line → Option (List ℕ)
name_in line = name_of line.bytes

-- the taps so far are those of these lines
pub record Holds (files : List (List ℕ)) (lines : List Line) (s : Noted) : Type 0 where
  pub names : map (λ (t : TapRuns). t.name) s.taps ≡ with_texts [] (filter_map name_in lines)
  pub runs : (name : List ℕ) → runs_lines files (runs_by name s.taps) ≡ lines_named name lines
  pub begun : (name : List ℕ) → AllByRecursion (BeginsWithBytes files) (runs_by name s.taps)
  pub once : AreOnce s.taps

-- the lines from the run's first one on are those that end before here, and after the run's last one come none with bytes
pub record Follows (files : List (List ℕ)) (run : Run) (before : List ℕ) (number : ℕ) : Type 0 where
  pub skipped : List ℕ
  pub lines : List (List ℕ)
  pub is : before ≡ skipped ++ all_ended lines
  pub from : run.from ≡ length skipped
  pub counts : run.number + length lines ≡ number
  pub whole : AreWhole lines
  pub same : run_lines files run ≡ lines_with_bytes run.number lines

-- what is known of the last run at this place of a file
abbrev pub IsLast : List (List ℕ) → ℕ → List ℕ → ℕ → Run → Type 0
IsLast files file before number run = (run.file ≤ file) × (run.file ≡ file → Follows files run before number)

-- an index of these lines, before the line of this number, which begins after these bytes of the file
pub record At (files : List (List ℕ)) (lines : List Line) (x : Indexed) (file : ℕ) (before : List ℕ) (number : ℕ) : Type 0 where
  pub holds : Holds files (before_refusal lines) x.noted
  pub fault : x.fault ≡ front_refusal lines
  pub last : x.fault ≡ None → (run : Run) → last_run x.noted ≡ Some run → IsLast files file before number run

-- ---- a line that has a run

-- the runs of a name, with a line more
runs-longer : (files : List (List ℕ)) (goes_on : Bool) (line : Run) (runs : List Run) (l : Line) → run_lines files line ≡ l ∷ []
    → ((run : Run) → goes_on ≡ true → last_of runs ≡ Some run → run.file ≡ line.file → run_lines files (record run { to = line.to }) ≡ run_lines files run ++ l ∷ [])
    → runs_lines files (longer goes_on line runs) ≡ runs_lines files runs ++ l ∷ []
runs-longer files goes_on line runs l own more = go (longer-is goes_on line runs)
  where
    go : (longer goes_on line runs ≡ runs ++ line ∷ []) ⊎ GoesOn goes_on line runs → runs_lines files (longer goes_on line runs) ≡ runs_lines files runs ++ l ∷ []
    go (inl e) = ap (runs_lines files) e ∙ sym (flat_map_more (run_lines files) [] runs line) ∙ ap (λ ls. runs_lines files runs ++ ls) own
    go (inr g) =
        ap (runs_lines files) g.with_line
        ∙ sym (flat_map_more (run_lines files) [] g.front (record g.run { to = line.to }))
        ∙ ap (λ ls. runs_lines files g.front ++ ls) (more g.run g.may g.last g.in_file)
        ∙ sym (append_assoc (runs_lines files g.front) (run_lines files g.run) (l ∷ []))
        ∙ ap (λ ls. ls ++ l ∷ []) (flat_map_more (run_lines files) [] g.front g.run ∙ ap (runs_lines files) (sym g.are))

-- each run begins with a line, also with a line more
begun-more : (files : List (List ℕ)) (run more : Run) (l : Line) → more.number ≡ run.number → run_lines files more ≡ run_lines files run ++ l ∷ [] → BeginsWithBytes files run
    → BeginsWithBytes files more
begun-more files run more l same is begins = go (run_lines files run) is begins
  where
    go : (lines : List Line) → run_lines files more ≡ lines ++ l ∷ [] → option_map (λ (line : Line). line.number) (slice_get lines 0) ≡ Some run.number → BeginsWithBytes files more
    go [] is at = absurd (none-some run.number at)
    go (x ∷ lines) is at = ap (λ ls. option_map (λ (line : Line). line.number) (slice_get ls 0)) is ∙ at ∙ ap Some (sym same)

begun-longer : (files : List (List ℕ)) (goes_on : Bool) (line : Run) (runs : List Run) (l : Line) → run_lines files line ≡ l ∷ [] → l.number ≡ line.number
    → ((run : Run) → goes_on ≡ true → last_of runs ≡ Some run → run.file ≡ line.file → run_lines files (record run { to = line.to }) ≡ run_lines files run ++ l ∷ [])
    → AllByRecursion (BeginsWithBytes files) runs → AllByRecursion (BeginsWithBytes files) (longer goes_on line runs)
begun-longer files goes_on line runs l own numbered more all = go (longer-is goes_on line runs)
  where
    go : (longer goes_on line runs ≡ runs ++ line ∷ []) ⊎ GoesOn goes_on line runs → AllByRecursion (BeginsWithBytes files) (longer goes_on line runs)
    go (inl e) =
        subst (AllByRecursion (BeginsWithBytes files)) (sym e)
        (all-both (BeginsWithBytes files) runs (line ∷ []) all (ap (λ ls. option_map (λ (line : Line). line.number) (slice_get ls 0)) own ∙ ap Some numbered, tt))
    go (inr g) =
        let parts = all-parts (BeginsWithBytes files) g.front (g.run ∷ []) (subst (AllByRecursion (BeginsWithBytes files)) g.are all) in
        subst (AllByRecursion (BeginsWithBytes files)) (sym g.with_line)
        (all-both (BeginsWithBytes files) g.front (record g.run { to = line.to } ∷ []) parts.0
        (begun-more files g.run (record g.run { to = line.to }) l refl (more g.run g.may g.last g.in_file) parts.1.0, tt))

-- the last run, with a line more
last-longer : {P : Type 0} (goes_on : Bool) (line : Run) (runs : List Run) (run : Run) → last_of (longer goes_on line runs) ≡ Some run
    → (run ≡ line → P) → ((was : Run) → goes_on ≡ true → last_of runs ≡ Some was → was.file ≡ line.file → run ≡ record was { to = line.to } → P) → P
last-longer {P} goes_on line runs run at new more = go (longer-is goes_on line runs)
  where
    go : (longer goes_on line runs ≡ runs ++ line ∷ []) ⊎ GoesOn goes_on line runs → P
    go (inl e) = new (sym (same_Some line run (sym (ap last_of e ∙ last_of-push runs line) ∙ at)))
    go (inr g) =
        more g.run g.may g.last g.in_file
        (sym (same_Some (record g.run { to = line.to }) run (sym (ap last_of g.with_line ∙ last_of-push g.front (record g.run { to = line.to })) ∙ at)))

-- the line of this number and text
abbrev kept : ℕ → List ℕ → Line
kept n text = record { number = n; bytes = without_return text }

-- a line by itself
pieces-one : (text : List ℕ) → has_newline text ≡ false → is_empty (without_return text) ≡ false → line_pieces text ≡ text ∷ []
pieces-one [] whole some = cc
pieces-one (b ∷ text) whole some = pieces_of-last (b ∷ text) whole (omega arith)

with-some : (n : ℕ) (text : List ℕ) → is_empty (without_return text) ≡ false → line_with_bytes n text ≡ record { number = n; bytes = without_return text } ∷ []
with-some n text some = ap (λ b. cond b [] (record { number = n; bytes = without_return text } ∷ [])) some

with-none : (n : ℕ) (text : List ℕ) → is_empty (without_return text) ≡ true → line_with_bytes n text ≡ []
with-none n text none = ap (λ b. cond b [] (record { number = n; bytes = without_return text } ∷ [])) none

module _ (files : List (List ℕ)) (file : ℕ) (before : List ℕ) (n : ℕ) (text rest : List ℕ) (stands : get_or files file [] ≡ before ++ (text ++ rest)) (whole : has_newline text ≡ false) where
  abbrev line : PlacedLine
  line = record { file = file; from = length before; number = n; text = text }

  -- a line without bytes goes on with what stands before it
  follows-none : (run : Run) → is_empty (without_return text) ≡ true → Follows files run before n → Follows files run (before ++ (text ++ 10 ∷ [])) (n + 1)
  follows-none run none f =
      let one = length-append f.lines (text ∷ []) in
      record {
        skipped = f.skipped;
        lines = f.lines ++ text ∷ [];
        is = ap (λ l. l ++ (text ++ 10 ∷ [])) f.is ∙ append_assoc f.skipped (all_ended f.lines) (text ++ 10 ∷ []) ∙ ap (λ l. f.skipped ++ l) (sym (all_ended-push f.lines text));
        from = f.from;
        counts = omega (arith, f.counts, one);
        whole = whole-push f.lines text f.whole whole;
        same =
            f.same ∙ sym (append-nil (lines_with_bytes run.number f.lines))
            ∙ ap (λ ls. lines_with_bytes run.number f.lines ++ ls) (sym (lines-one (run.number + length f.lines) text ∙ with-none (run.number + length f.lines) text none))
            ∙ sym (lines-append run.number f.lines (text ∷ []));
      }

  -- the line as a run
  own-bytes : run_bytes files (run_of line) ≡ text
  own-bytes = ap (λ l. between l (length before) (length before + length text)) stands ∙ between-middle before text rest (length before) (length before + length text) refl refl

  own-lines : is_empty (without_return text) ≡ false → run_lines files (run_of line) ≡ record { number = n; bytes = without_return text } ∷ []
  own-lines some =
      ap (λ l. lines_with_bytes n (line_pieces l)) own-bytes ∙ ap (lines_with_bytes n) (pieces-one text whole some) ∙ lines-one n text ∙ with-some n text some

  own-follows : is_empty (without_return text) ≡ false → Follows files (run_of line) (before ++ (text ++ 10 ∷ [])) (n + 1)
  own-follows some = record {
    skipped = before;
    lines = text ∷ [];
    is = ap (λ l. before ++ l) (sym (append-nil (text ++ 10 ∷ [])));
    from = refl;
    counts = omega arith;
    whole = (whole, tt);
    same = own-lines some ∙ sym (lines-one n text ∙ with-some n text some);
  }

  -- a run that goes on with the line
  longer-bytes : (run : Run) → run.file ≡ file → (f : Follows files run before n) → run_bytes files (record run { to = length before + length text }) ≡ all_ended f.lines ++ text
  longer-bytes run in_file f =
      let sizes = ap length f.is ∙ length-append f.skipped (all_ended f.lines) in
      let own = length-append (all_ended f.lines) text in
      let all : before ++ (text ++ rest) ≡ f.skipped ++ ((all_ended f.lines ++ text) ++ rest) =
      ap (λ l. l ++ (text ++ rest)) f.is ∙ append_assoc f.skipped (all_ended f.lines) (text ++ rest) ∙ ap (λ l. f.skipped ++ l) (sym (append_assoc (all_ended f.lines) text rest)) in
      ap (λ i. between (get_or files i []) run.from (length before + length text)) in_file
      ∙ ap (λ l. between l run.from (length before + length text)) (stands ∙ all)
      ∙ between-middle f.skipped (all_ended f.lines ++ text) rest run.from (length before + length text) f.from (omega (arith, sizes, own))

  longer-lines : (run : Run) → is_empty (without_return text) ≡ false → run.file ≡ file → Follows files run before n
      → run_lines files (record run { to = length before + length text }) ≡ run_lines files run ++ record { number = n; bytes = without_return text } ∷ []
  longer-lines run some in_file f =
      ap (λ l. lines_with_bytes run.number (line_pieces l)) (longer-bytes run in_file f)
      ∙ ap (lines_with_bytes run.number) (pieces-ended f.lines text f.whole ∙ ap (λ ls. f.lines ++ ls) (pieces-one text whole some))
      ∙ lines-append run.number f.lines (text ∷ [])
      ∙ ap (λ ls. lines_with_bytes run.number f.lines ++ ls) (ap (λ k. lines_with_bytes k (text ∷ [])) f.counts ∙ lines-one n text ∙ with-some n text some)
      ∙ ap (λ ls. ls ++ record { number = n; bytes = without_return text } ∷ []) (sym f.same)

  longer-follows : (run : Run) → is_empty (without_return text) ≡ false → run.file ≡ file → Follows files run before n
      → Follows files (record run { to = length before + length text }) (before ++ (text ++ 10 ∷ [])) (n + 1)
  longer-follows run some in_file f =
      let one = length-append f.lines (text ∷ []) in
      record {
        skipped = f.skipped;
        lines = f.lines ++ text ∷ [];
        is = ap (λ l. l ++ (text ++ 10 ∷ [])) f.is ∙ append_assoc f.skipped (all_ended f.lines) (text ++ 10 ∷ []) ∙ ap (λ l. f.skipped ++ l) (sym (all_ended-push f.lines text));
        from = f.from;
        counts = omega (arith, f.counts, one);
        whole = whole-push f.lines text f.whole whole;
        same =
            longer-lines run some in_file f
            ∙ ap (λ ls. ls ++ record { number = n; bytes = without_return text } ∷ []) f.same
            ∙ ap (λ ls. lines_with_bytes run.number f.lines ++ ls) (sym (ap (λ k. lines_with_bytes k (text ∷ [])) f.counts ∙ lines-one n text ∙ with-some n text some))
            ∙ sym (lines-append run.number f.lines (text ∷ []));
      }

  -- ---- a line more

  -- a line of a tap
  holds-noted : (lines : List Line) (s : Noted) (name : List ℕ) → is_empty (without_return text) ≡ false → name_of text ≡ Some name → Holds files lines s
      → ((run : Run) → last_run s ≡ Some run → IsLast files file before n run)
      → Holds files (lines ++ kept n text ∷ []) (noted s name (run_of line))
  holds-noted lines s name some named h last = record {
    names =
        g.names ∙ ap (λ ns. with_text ns name) h.names ∙ sym (with_texts-append [] (filter_map name_in lines) (name ∷ []))
        ∙ ap (with_texts []) (ap (λ o. filter_map name_in lines ++ cons_option o []) (sym by_name) ∙ sym (filter_map-append name_in lines (kept n text ∷ [])));
    runs = λ q. ap (runs_lines files) (g.runs q) ∙ of_name q (bytes_eq name q) refl;
    begun = λ q. subst (AllByRecursion (BeginsWithBytes files)) (sym (g.runs q)) (begun_of q (bytes_eq name q) refl);
    once = g.once;
  }
    where
      g : Grows s name (run_of line)
      g = grows s name (run_of line) h.once

      by_name : name_of (without_return text) ≡ Some name
      by_name = name-without_return text ∙ named

      filtered : (q : List ℕ) (b : Bool) → bytes_eq name q ≡ b → lines_named q (lines ++ kept n text ∷ []) ≡ lines_named q lines ++ cond b (kept n text ∷ []) []
      filtered q b e =
          filter-append (is_named q) lines (kept n text ∷ []) ∙ ap (λ t. lines_named q lines ++ cond t (kept n text ∷ []) []) (ap (λ o. option_map_or (λ own. bytes_eq own q) o false) by_name ∙ e)

      of_name : (q : List ℕ) (b : Bool) → bytes_eq name q ≡ b
          → runs_lines files (cond (bytes_eq name q) (longer g.goes_on (run_of line) (runs_by q s.taps)) (runs_by q s.taps)) ≡ lines_named q (lines ++ kept n text ∷ [])
      of_name q true e =
          ap (λ b. runs_lines files (cond b (longer g.goes_on (run_of line) (runs_by q s.taps)) (runs_by q s.taps))) e
          ∙ runs-longer files g.goes_on (run_of line) (runs_by q s.taps) (kept n text) (own-lines some)
          (λ run may at in_file.
          let own : last_run s ≡ Some run = g.before may ∙ ap (λ m. last_of (runs_by m s.taps)) (same_text name q e) ∙ at in
          longer-lines run some in_file ((last run own).1 in_file))
          ∙ ap (λ ls. ls ++ kept n text ∷ []) (h.runs q) ∙ sym (filtered q true e)
      of_name q false e =
          ap (λ b. runs_lines files (cond b (longer g.goes_on (run_of line) (runs_by q s.taps)) (runs_by q s.taps))) e
          ∙ h.runs q ∙ sym (append-nil (lines_named q lines)) ∙ sym (filtered q false e)

      begun_of : (q : List ℕ) (b : Bool) → bytes_eq name q ≡ b
          → AllByRecursion (BeginsWithBytes files) (cond b (longer g.goes_on (run_of line) (runs_by q s.taps)) (runs_by q s.taps))
      begun_of q true e =
          begun-longer files g.goes_on (run_of line) (runs_by q s.taps) (kept n text) (own-lines some) refl
          (λ run may at in_file.
          let own : last_run s ≡ Some run = g.before may ∙ ap (λ m. last_of (runs_by m s.taps)) (same_text name q e) ∙ at in
          longer-lines run some in_file ((last run own).1 in_file)) (h.begun q)
      begun_of q false e = h.begun q

  last-noted : (lines : List Line) (s : Noted) (name : List ℕ) → is_empty (without_return text) ≡ false → Holds files lines s
      → ((run : Run) → last_run s ≡ Some run → IsLast files file before n run)
      → (run : Run) → last_run (noted s name (run_of line)) ≡ Some run → IsLast files file (before ++ (text ++ 10 ∷ [])) (n + 1) run
  last-noted lines s name some h last run at =
      let g = grows s name (run_of line) h.once in
      last-longer g.goes_on (run_of line) (runs_by name s.taps) run (sym g.last ∙ at)
      (λ new. subst (IsLast files file (before ++ (text ++ 10 ∷ [])) (n + 1)) (sym new) (omega arith, λ in_file. own-follows some))
      (λ was may from in_file is.
      let f = (last was (g.before may ∙ from)).1 in_file in
      subst (IsLast files file (before ++ (text ++ 10 ∷ [])) (n + 1)) (sym is) (omega (arith, in_file), λ same. longer-follows was some in_file f))

  abbrev After : List Line → Indexed → Type 0
  After ls y = At files ls y file (before ++ (text ++ 10 ∷ [])) (n + 1)

  pub at-line : (lines : List Line) (x : Indexed) → At files lines x file before n → At files (lines ++ line_with_bytes n text) (with_line x line) file (before ++ (text ++ 10 ∷ [])) (n + 1)
  at-line lines x a = by_bytes (cases_Bool (is_empty (without_return text)))
    where
      -- after a refusal
      past : (fault : ReadFault) → x.fault ≡ Some fault → After (lines ++ kept n text ∷ []) x
      past fault e =
          let same = refusal-after lines (kept n text ∷ []) fault (sym a.fault ∙ e) in
          record {
            holds = subst (λ ls. Holds files ls x.noted) (sym same.0) a.holds;
            fault = e ∙ sym same.1;
            last = λ none. absurd (none-some fault (sym none ∙ e));
          }

      -- a line that is refused
      stops : (code : InputCode) → x.fault ≡ None → front_code (kept n text) ≡ Some code → After (lines ++ kept n text ∷ []) (refused x (Input n code))
      stops code none e =
          let free = sym a.fault ∙ none in
          let same = refusal-none lines (kept n text ∷ []) free in
          let short : before_refusal (lines ++ kept n text ∷ []) ≡ before_refusal lines =
          same.0 ∙ ap (λ o. lines ++ cond (is_some o) [] (kept n text ∷ [])) e ∙ append-nil lines ∙ sym (before-none lines free) in
          record {
            holds = subst (λ ls. Holds files ls x.noted) (sym short) a.holds;
            fault = sym (same.1 ∙ ap (λ o. refused_or n o None) e);
            last = λ free_now. absurd (none-some (Input n code) (sym free_now));
          }

      -- a line of a tap
      goes : (name : List ℕ) → is_empty (without_return text) ≡ false → x.fault ≡ None → front_code (kept n text) ≡ None → name_of text ≡ Some name
          → After (lines ++ kept n text ∷ []) (record { noted = noted x.noted name (run_of line); fault = x.fault })
      goes name some none e named =
          let free = sym a.fault ∙ none in
          let same = refusal-none lines (kept n text ∷ []) free in
          let all = before-none lines free in
          let longer_by : before_refusal (lines ++ kept n text ∷ []) ≡ lines ++ kept n text ∷ [] = same.0 ∙ ap (λ o. lines ++ cond (is_some o) [] (kept n text ∷ [])) e in
          let held = subst (λ ls. Holds files ls x.noted) all a.holds in
          record {
            holds = subst (λ ls. Holds files ls (noted x.noted name (run_of line))) (sym longer_by) (holds-noted lines x.noted name some named held (a.last none));
            fault = none ∙ sym (same.1 ∙ ap (λ o. refused_or n o None) e);
            last = λ free_now. last-noted lines x.noted name some held (a.last none);
          }

      by_name : (o : Option (List ℕ)) → is_empty (without_return text) ≡ false → x.fault ≡ None → is_too_long text ≡ false → name_of text ≡ o → After (lines ++ kept n text ∷ []) (with_name x line o)
      by_name None some none short named =
          stops NoTapName none
          (ap (λ b. cond b (Some LineTooLong) (cond (is_some (name_of (without_return text))) None (Some NoTapName))) short
          ∙ ap (λ o. cond (is_some o) None (Some NoTapName)) (name-without_return text ∙ named))
      by_name (Some name) some none short named =
          goes name some none
          (ap (λ b. cond b (Some LineTooLong) (cond (is_some (name_of (without_return text))) None (Some NoTapName))) short
          ∙ ap (λ o. cond (is_some o) None (Some NoTapName)) (name-without_return text ∙ named))
          named

      by_length : (is_too_long text ≡ true) ⊎ (is_too_long text ≡ false) → is_empty (without_return text) ≡ false → x.fault ≡ None → After (lines ++ kept n text ∷ []) (with_bytes x line)
      by_length (inl long) some none =
          subst (After (lines ++ kept n text ∷ [])) (sym (ap (λ b. cond b (refused x (Input n LineTooLong)) (with_name x line (name_of text))) long))
          (stops LineTooLong none (ap (λ b. cond b (Some LineTooLong) (cond (is_some (name_of (without_return text))) None (Some NoTapName))) long))
      by_length (inr short) some none =
          subst (After (lines ++ kept n text ∷ [])) (sym (ap (λ b. cond b (refused x (Input n LineTooLong)) (with_name x line (name_of text))) short))
          (by_name (name_of text) some none short refl)

      by_fault : (o : Option ReadFault) → x.fault ≡ o → is_empty (without_return text) ≡ false → After (lines ++ kept n text ∷ []) (cond (is_some o) x (with_bytes x line))
      by_fault None e some = by_length (cases_Bool (is_too_long text)) some e
      by_fault (Some fault) e some = past fault e

      by_bytes : (is_empty (without_return text) ≡ true) ⊎ (is_empty (without_return text) ≡ false) → At files (lines ++ line_with_bytes n text) (with_line x line) file (before ++ (text ++ 10 ∷ [])) (n + 1)
      by_bytes (inl none) =
          subst (λ ls. At files ls (with_line x line) file (before ++ (text ++ 10 ∷ [])) (n + 1)) (sym (append-nil lines) ∙ ap (λ ls. lines ++ ls) (sym (with-none n text none)))
          (subst (λ y. At files lines y file (before ++ (text ++ 10 ∷ [])) (n + 1)) (sym (ap (λ b. cond b x (cond (is_some x.fault) x (with_bytes x line))) none))
          (record {
            holds = a.holds;
            fault = a.fault;
            last = λ free run at. let was = a.last free run at in (was.0, λ in_file. follows-none run none (was.1 in_file));
          }))
      by_bytes (inr some) =
          subst (λ ls. At files ls (with_line x line) file (before ++ (text ++ 10 ∷ [])) (n + 1)) (ap (λ ls. lines ++ ls) (sym (with-some n text some)))
          (subst (λ y. At files (lines ++ kept n text ∷ []) y file (before ++ (text ++ 10 ∷ [])) (n + 1))
          (sym (ap (λ b. cond b x (cond (is_some x.fault) x (with_bytes x line))) some))
          (by_fault x.fault refl some))
