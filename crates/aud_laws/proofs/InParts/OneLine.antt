-- The answers on the sessions of a recording are of one line each: no offset of a well-formed entry has a newline.
use Rattle.std.proofs.Common.{◌≡◌, ◌≤◌, ◌==◌, ℕ, Bool, true, false, List, [], ◌∷◌, ◌++◌, codes, decimal, nat_le, not, Option, Some, None, option_map, refl, ap, subst, ◌∙◌, arith}
use Rattle.std.specs.List.{All, list_all}
use Rattle.std.proofs.lemmas.Bool.{and_parts, and_from, or_from, false_from_ne_true, eqb-true, leb-true}
use Rattle.std.proofs.lemmas.List.Elements.{All-head, All-tail, All-nil}
use Rattle.std.proofs.lemmas.List.Folds.{list_any-append}
use Rattle.std.proofs.lemmas.Option.{none-some, same_Some}
use Rattle.aud_tap.specs.declared.records.StreamRec.{StreamRec}
use Rattle.aud_tap.specs.declared.taps.Records.{Records}
use Rattle.aud_tap.specs.declared.taps.Records.TheVariants.{Stream, Node, Client}
use Rattle.aud_tap.specs.declared.taps.Tap.{Tap}
use Rattle.aud_tap.specs.Forms.{is_visible, is_id}
use Rattle.aud_tap.specs.Limits.{fits, max_offset}
use Rattle.aud_tap.specs.RecordFields.{offset_of}
use Rattle.aud_tap.specs.WellFormed.{stream_is_well_formed}
use Rattle.aud_base.specs.OneForEach.{OneForEach}
use Rattle.aud_reader.specs.Lines.{has_newline}
use Rattle.aud_writer.specs.OfABundle.{AreRecords}
use Rattle.aud_node.specs.Cluster.{Cluster, entries_or, stream_of}
use Rattle.aud_node.specs.Stream.{Text, entry}
use Rattle.aud_cert.specs.declared.fault.Fault.{Fault}
use Rattle.aud_cert.specs.declared.fault.Fault.TheVariants.{NoLog, Chain, Order, Client as NotOneClient, Names, Frame, Orphan, Content, Extra, Doubled, Swapped, Lost, Window, Tail}
use Rattle.aud_cert.specs.Fault.{fault_text}
use Rattle.aud_check.specs.declared.difference.Difference.{Difference}
use Rattle.aud_check.specs.declared.difference.Difference.TheVariants as parted
use Rattle.aud_check.specs.Difference.{difference}
use Rattle.aud_check.specs.Faults.{Case, positions_in, fault_of, difference_fault}
use Rattle.aud_check.specs.Frames.{offset_or_empty, offset_at}
use Rattle.aud_verdict.specs.declared.verdict.Verdict.{Verdict}
use Rattle.aud_verdict.specs.declared.verdict.Verdict.TheVariants.{Yes, No}
use Rattle.aud_verdict.specs.declared.verdict.SessionVerdict.{SessionVerdict}
use Rattle.aud_verdict.specs.Session.{session_case}
use Rattle.aud_verdict.specs.Faults.{Holds}
use Rattle.aud_verdict.specs.Verdict.{IsVerdict}
use Rattle.aud_parts.specs.MergeLaws.{is_one_line}
use Rattle.aud_parts.proofs.NumberLemmas.{decimal-without}
use Rattle.aud_laws.specs.Parts.{IsAnswer}
use Rattle.aud_laws.proofs.MadeOther.Due.{all-entries}
use Rattle.aud_laws.proofs.InParts.Bundles.{offset-formed}

-- the text has no newline
abbrev IsPlain : Text → Type 0
IsPlain text = has_newline text ≡ false

-- ---- offsets

visible-plain : (text : Text) → is_id text ≡ true → IsPlain text
visible-plain [] is = refl
visible-plain (b ∷ text) is =
    let (first, rest) = and_parts (is_visible b) (is_id text) is in
    or_from (b == 10) (has_newline text) (false_from_ne_true (b == 10) (λ same. no_newline first same)) (visible-plain text rest)
  where
    no_newline : is_visible b ≡ true → (b == 10) ≡ true → ⊥
    no_newline visible same =
        let low : 33 ≤ b = leb-true 33 b (and_parts (nat_le 33 b) (nat_le b 126) visible).0 in
        let ten : b ≡ 10 = eqb-true b 10 same in
        omega (arith, low, ten)

entry-plain : (e : StreamRec) → stream_is_well_formed e ≡ true → IsPlain (offset_of e)
entry-plain e formed = visible-plain (offset_of e) (and_parts (is_id (offset_of e)) (fits max_offset (offset_of e)) (offset-formed e formed)).0

-- each entry of the stream is well formed
abbrev pub AreWellFormed : List StreamRec → Type 0
AreWellFormed stream = All (λ e. stream_is_well_formed e ≡ true) stream

position-plain : (stream : List StreamRec) → AreWellFormed stream → (p : ℕ) → IsPlain (offset_at stream p)
position-plain stream formed p = go (entry stream p) refl
  where
    go : (o : Option StreamRec) → entry stream p ≡ o → IsPlain (offset_or_empty o)
    go None none = refl
    go (Some e) at = entry-plain e (all-entries (λ x. stream_is_well_formed x ≡ true) stream p e formed at)

pub entries-formed : (taps : List Tap) → All (λ (tap : Tap). AreRecords tap.version tap.records) taps → AreWellFormed (stream_of taps)
entries-formed [] all = All-nil (λ e. stream_is_well_formed e ≡ true)
entries-formed (tap ∷ taps) all =
    go tap.records (All-head (λ (t : Tap). AreRecords t.version t.records) tap taps all) (entries-formed taps (All-tail (λ (t : Tap). AreRecords t.version t.records) tap taps all))
  where
    go : (records : Records) → AreRecords tap.version records → AreWellFormed (stream_of taps) → AreWellFormed (entries_or (stream_of taps) records)
    go (Stream entries) are rest = are.formed
    go (Node records) are rest = rest
    go (Client records) are rest = rest

-- ---- faults

after-word : (word text : Text) → IsPlain word → IsPlain text → IsPlain (word ++ text)
after-word word text one two = list_any-append (λ b. b == 10) word text ∙ or_from (has_newline word) (has_newline text) one two

-- the offset of a fault about a first wrong place
abbrev offset_in : Fault → Text
offset_in (Extra off) = off
offset_in (Doubled off) = off
offset_in (Swapped off) = off
offset_in (Lost off) = off
offset_in _ = []

module _ (stream : List StreamRec) (formed : AreWellFormed stream) where
  plain : (p : ℕ) → IsPlain (offset_at stream p)
  plain = position-plain stream formed

  difference-plain : (d : Difference) → IsPlain (offset_in (fault_of stream d))
  difference-plain (parted.Extra frame p) = plain p
  difference-plain (parted.Doubled first again p) = plain p
  difference-plain (parted.Swapped frame p later) = plain p
  difference-plain (parted.Lost frame p) = plain p

  found-plain : (found : Option Difference) (fault : Fault) → option_map (fault_of stream) found ≡ Some fault → IsPlain (offset_in fault)
  found-plain None fault is = absurd (none-some fault is)
  found-plain (Some d) fault is = subst (λ f. IsPlain (offset_in f)) (same_Some (fault_of stream d) fault is) (difference-plain d)

wrong-plain : (case : Case) → AreWellFormed case.stream → (fault : Fault) → difference_fault case ≡ Some fault → IsPlain (offset_in fault)
wrong-plain case formed = found-plain case.stream formed (difference (positions_in case) case.due)

module _ (c : Cluster) (whole : Bool) (pid : Text) (formed : AreWellFormed c.stream) where
  fault-plain : (fault : Fault) → Holds c whole pid fault → IsPlain (fault_text fault)
  fault-plain NoLog holds = refl
  fault-plain Chain holds = refl
  fault-plain Order holds = refl
  fault-plain NotOneClient holds = refl
  fault-plain Names holds = refl
  fault-plain Frame holds = refl
  fault-plain Orphan holds = refl
  fault-plain (Content off) (s, is, (altered, first, at)) = after-word (codes "CONTENT ") off refl (ap has_newline at ∙ position-plain c.stream formed altered.position)
  fault-plain (Extra off) (s, is, holds) = after-word (codes "EXTRA ") off refl (wrong-plain (session_case c s) formed (Extra off) holds)
  fault-plain (Doubled off) (s, is, holds) = after-word (codes "DOUBLED ") off refl (wrong-plain (session_case c s) formed (Doubled off) holds)
  fault-plain (Swapped off) (s, is, holds) = after-word (codes "SWAPPED ") off refl (wrong-plain (session_case c s) formed (Swapped off) holds)
  fault-plain (Lost off) (s, is, holds) = after-word (codes "LOST ") off refl (wrong-plain (session_case c s) formed (Lost off) holds)
  fault-plain (Window connection) holds = after-word (codes "WINDOW ") (decimal connection) refl (decimal-without 10 connection (omega arith))
  fault-plain (Tail count) holds = after-word (codes "TAIL ") (decimal count) refl (decimal-without 10 count (omega arith))

  answer-plain : (entry : SessionVerdict) → IsAnswer c whole pid entry → is_one_line entry ≡ true
  answer-plain entry is = go entry.verdict is.1
    where
      with_verdict : Verdict → SessionVerdict
      with_verdict verdict = record { pid = entry.pid; verdict = verdict }

      go : (verdict : Verdict) → IsVerdict c whole pid verdict → is_one_line (with_verdict verdict) ≡ true
      go (Yes got tail turns) is = refl
      go (No fault) is = ap not (fault-plain fault is.holds)

-- all of them
pub answers-plain : (c : Cluster) (whole : Bool) → AreWellFormed c.stream → (pids : List Text) (entries : List SessionVerdict) → OneForEach (IsAnswer c whole) pids entries → list_all is_one_line entries ≡ true
answers-plain c whole formed [] [] are = refl
answers-plain c whole formed [] (entry ∷ entries) are = absurd are
answers-plain c whole formed (pid ∷ pids) [] are = absurd are
answers-plain c whole formed (pid ∷ pids) (entry ∷ entries) are =
    and_from (is_one_line entry) (list_all is_one_line entries) (answer-plain c whole pid formed entry are.0) (answers-plain c whole formed pids entries are.1)
