-- What the taps of a bundle keep to, line after line.
use Rattle.std.proofs.Common.{◌≡◌, ℕ, zero, suc, ◌+◌, ◌<◌, ◌≤◌, List, [], ◌∷◌, ◌++◌, length, map, false, cond, not, inl, inr, Ok, refl, sym, ap, ◌∙◌, arith, nat_lt, get_or, option_map}
use Rattle.std.specs.List.{list_any}
use Rattle.std.specs.Str.{bytes_eq}
use Rattle.std.proofs.lemmas.Bool.{ltb-true, not-true}
use Rattle.std.proofs.lemmas.List.{map-append}
use Rattle.std.proofs.lemmas.Option.{slice_get-map, slice_get_within, get_or_from_slice_get}
use Rattle.std.proofs.lemmas.List.Elements.{All-nil, All-set, All-push}
use Rattle.std.proofs.lemmas.List.Sums.{sum_by-append}
use Rattle.aud_base.proofs.SameText.{itself_text, other_text}
use Rattle.aud_base.proofs.StepLemmas.{part-of, guard-ok}
use Rattle.serde_json.specs.Data.{Data}
use Rattle.aud_reader.specs.declared.fault.InputCode.TheVariants.{Limit, OffsetTwice, SecondStream}
use Rattle.aud_tap.specs.declared.records.Version.{Version}
use Rattle.aud_tap.specs.declared.records.TapKind.{TapKind}
use Rattle.aud_tap.specs.declared.records.TapKind.TheVariants as tap
use Rattle.aud_tap.specs.declared.taps.Records.{Records}
use Rattle.aud_tap.specs.declared.taps.Records.TheVariants.{Stream, Node, Client}
use Rattle.aud_tap.specs.declared.taps.Tap.{Tap}
use Rattle.aud_tap.specs.Forms.{is_text}
use Rattle.aud_tap.specs.Names.{AreNamedOnce}
use Rattle.aud_tap.specs.RecordFields.{offset_of}
use Rattle.aud_base.specs.Steps.{guard}
use Rattle.aud_reader.specs.Bundle.{max_entries, with_entry, with_tap_record, kind_of_tap, same_kind, taps_on, no_records, another_tap, with_line}
use Rattle.aud_reader.specs.TapLaws.{AreDifferent, offsets_in}
use Rattle.aud_reader.specs.Sound.{names_of, AreSoundTaps}
use Rattle.aud_reader.proofs.KeptLemmas.{replaced, taps_on-set, different-push, names-push, names-set}
use Rattle.aud_reader.proofs.LineSteps.{guarded, put_entry, one_more, Begins, Adds, line_step}

-- ---- the streams

-- a new tap leaves at most one stream, as a second one is refused
streams-new : (of : TapKind) (version : Version) (name : List ℕ) (ts : List Tap) → taps_on tap.Stream ts ≤ 1 → another_tap of ts ≡ Ok tt → taps_on tap.Stream (ts ++ record { name = name; version = version; records = no_records of } ∷ []) ≤ 1
streams-new of version name ts few room =
    rw (sum_by-append (λ (t : Tap). cond (same_kind tap.Stream (kind_of_tap t.records)) 1 0) ts (record { name = name; version = version; records = no_records of } ∷ [])) (go of room)
  where
    go : (of : TapKind) → another_tap of ts ≡ Ok tt → taps_on tap.Stream ts + taps_on tap.Stream (record { name = name; version = version; records = no_records of } ∷ []) ≤ 1
    go tap.Stream room = let none : taps_on tap.Stream ts < 1 = ltb-true _ _ (guarded SecondStream (nat_lt (taps_on tap.Stream ts) 1) room) in omega arith
    go tap.Node room = omega arith
    go tap.Client room = omega arith

-- ---- the offsets

-- records of a node or a client have no offsets
offsets-absent : (records : Records) → (kind_of_tap records ≡ tap.Stream → ⊥) → AreDifferent (offsets_in records)
offsets-absent (Stream entries) other = absurd (other refl)
offsets-absent (Node records) other = λ i j d l m. absurd (omega arith)
offsets-absent (Client records) other = λ i j d l m. absurd (omega arith)

-- a new tap has no offsets yet
offsets-none : (of : TapKind) → AreDifferent (offsets_in (no_records of))
offsets-none tap.Stream = λ i j d l m. absurd (omega arith)
offsets-none tap.Node = λ i j d l m. absurd (omega arith)
offsets-none tap.Client = λ i j d l m. absurd (omega arith)

-- one more record leaves a tap's offsets different, as one that is there is refused
offsets-more : (version : Version) (pids : List (List ℕ)) (old new : Records) (kind : List ℕ) (d : Data) → with_tap_record version pids old kind d ≡ Ok new → AreDifferent (offsets_in old) → AreDifferent (offsets_in new)
offsets-more version pids (Stream entries) new kind d e different =
    let more = part-of (with_entry entries kind d) _ new e in
    let (put, room) = put_entry entries more.0 kind d more.1 in
    let known = list_any (is_text (offset_of put.value)) (map offset_of entries) in
    let test = guard-ok Limit (nat_lt (length entries) max_entries) (guard OffsetTwice (not known)) tt room in
    let is : new ≡ Stream (entries ++ put.value ∷ []) = cc in
    rw (is, map-append offset_of entries (put.value ∷ [])) (different-push (map offset_of entries) (offset_of put.value) different (not-true known (guarded OffsetTwice (not known) test.1)))
offsets-more version pids (Node records) new kind d e different = offsets-absent new (λ is. let same = (one_more version pids (Node records) new kind d e).same in cc)
offsets-more version pids (Client records) new kind d e different = offsets-absent new (λ is. let same = (one_more version pids (Client records) new kind d e).same in cc)

-- ---- one more line

-- a header leaves the names different, one stream at most, and each offset once
sound-begins : (ts more : List Tap) (line : List ℕ) → AreSoundTaps ts → Begins ts line more → AreSoundTaps more
sound-begins ts more line sound b =
    let t : Tap = record { name = b.name; version = b.version; records = no_records b.of } in
    rw b.is (record {
      names = names-push ts t b.new sound.names;
      stream = streams-new b.of b.version b.name ts sound.stream b.room;
      offsets = All-push (λ (x : Tap). AreDifferent (offsets_in x.records)) ts t sound.offsets (offsets-none b.of);
    })

-- a later line leaves the names different, one stream at most, and each offset once
sound-adds : (ts more : List Tap) (line : List ℕ) → AreSoundTaps ts → Adds ts line more → AreSoundTaps more
sound-adds ts more line sound a =
    let (i, within, at, put) = replaced a.name a.records ts a.found a.is_found in
    rw (a.is, put) (record {
      names = rw (names-set ts i a.found (record a.found { records = a.records }) at refl) sound.names;
      stream = rw (taps_on-set tap.Stream ts i a.found (record a.found { records = a.records }) within at a.grown.same) sound.stream;
      offsets = All-set (λ (t : Tap). AreDifferent (offsets_in t.records)) ts i (record a.found { records = a.records })
          (offsets-more (a.found).version _ (a.found).records a.records a.kind a.d a.added (rw at at (sound.offsets i a.found within))) sound.offsets;
    })

-- before the first line nothing is there that could break what the taps keep to
pub sound-none : AreSoundTaps []
sound-none = record { names = λ i j d l m. absurd (omega arith); stream = omega arith; offsets = All-nil _ }

-- a line that isn't empty leaves the taps as they are to be
pub sound-line : (ts more : List Tap) (line : List ℕ) → AreSoundTaps ts → with_line ts line ≡ Ok more → AreSoundTaps more
sound-line ts more line sound e = elim (line_step ts more line e) [
  | inl b ↦ sound-begins ts more line sound b
  | inr a ↦ sound-adds ts more line sound a
]

-- ---- the places of names

-- each tap is the first with its name
pub first_with_name : (ts : List Tap) → AreDifferent (names_of ts) → AreNamedOnce ts
first_with_name [] different place tap at = cc
first_with_name (t ∷ ts) different zero tap at =
    let is : t ≡ tap = cc in
    rw (is, itself_text tap.name) refl
first_with_name (t ∷ ts) different (suc place) tap at =
    let names = names_of ts in
    let within : place < length names = slice_get_within names place tap.name (slice_get-map (λ (x : Tap). x.name) ts place ∙ ap (option_map (λ (x : Tap). x.name)) at) in
    let here : get_or names place tap.name ≡ tap.name = get_or_from_slice_get names place tap.name tap.name (slice_get-map (λ (x : Tap). x.name) ts place ∙ ap (option_map (λ (x : Tap). x.name)) at) in
    let other : bytes_eq t.name tap.name ≡ false = other_text t.name tap.name (λ same. different 0 (suc place) tap.name (omega arith) (omega arith) (same ∙ sym here)) in
    let rest : AreDifferent names = λ i j d l m. different (suc i) (suc j) d (omega arith) (omega arith) in
    rw (other, first_with_name ts rest place tap at) refl
