-- Which events are found by their offset, and which the index of known texts keeps.
use Rattle.std.proofs.Common.{◌≡◌, ℕ, ◌+◌, ◌-◌, ◌<◌, zero, suc, Bool, true, false, cond, List, length, get_or, drop, refl, sym, ap, ◌∙◌, arith, Option, Some, None, option_map, slice_get, ◌==◌}
use Rattle.std.specs.Option.{option_and_then}
use Rattle.std.specs.Str.{bytes_eq}
use Rattle.std.proofs.lemmas.Bool.{false≢true, false_from_ne_true}
use Rattle.std.proofs.lemmas.Option.{none-some, same_Some, cond_some, option_and_then_some, slice_get_read}
use Rattle.aud_tap.specs.declared.records.Event.{Event}
use Rattle.aud_tap.specs.declared.records.StreamRec.{StreamRec}
use Rattle.aud_tap.specs.declared.records.StreamRec.TheVariants.{Ev, Other}
use Rattle.aud_sio.specs.Packet.{packet_of}
use Rattle.aud_node.specs.Lists.{first_index}
use Rattle.aud_node.specs.Recoverable.{is_recoverable}
use Rattle.aud_node.specs.Known.{is_sent_as, known_entry, packet_read}
use Rattle.aud_node.specs.Stream.{Text, position, offset_of}
use Rattle.aud_node.specs.Private.KnownIndex.{kept_entry, ending, spells_its_offset, is_some_sent_as, sent_at, found_by_offset}
use Rattle.aud_node.specs.Private.OffsetIndex.{AreFirst}
use Rattle.aud_node.specs.declared.known.KnownTexts.{KnownTexts}
use Rattle.aud_node.proofs.ListLemmas.{drop-read, index_next, first_index-found, first_index-narrowed}
use Rattle.aud_node.proofs.PositionLemmas.{has_this_offset, position-first_index}
use Rattle.aud_node.proofs.KnownLemmas.{known-event, ends_there, sent_alone}

-- ---- found by the offset

-- events that are sent again as one text have one offset: the text's packet ends in it
same_offset : (text : Text) (x y : StreamRec) → is_sent_as text x ≡ true → is_sent_as text y ≡ true → offset_of x ≡ offset_of y
same_offset text (Other off) y x_sent y_sent = absurd (false≢true x_sent)
same_offset text (Ev a) (Other off) x_sent y_sent = absurd (false≢true y_sent)
same_offset text (Ev a) (Ev b) x_sent y_sent =
    let (a_text, a_alone) = known-event text a x_sent in
    let (b_text, b_alone) = known-event text b y_sent in
    same_Some a.off b.off (sym (sent_alone a a_alone).last_is ∙ ap (λ t. (packet_read (packet_of t)).last) (a_text ∙ sym b_text) ∙ (sent_alone b b_alone).last_is)

-- where the first entry with an offset is sent again as the text, it is the first that is
first_sent : (stream : List StreamRec) (text off : Text) (i : ℕ) (e : StreamRec) → position stream off ≡ Some (suc i) → slice_get stream i ≡ Some e → is_sent_as text e ≡ true → known_entry stream text ≡ Some i
first_sent stream text off i e first here sent =
    let at = index_next (first_index (has_this_offset off) stream) i (sym (position-first_index stream off) ∙ first) in
    let (other, there, has) = first_index-found (has_this_offset off) stream i at in
    let same : bytes_eq (offset_of e) off ≡ true = ap (has_this_offset off) (same_Some e other (sym here ∙ there)) ∙ has in
    first_index-narrowed (is_sent_as text) (has_this_offset off) (λ x x_sent. ap (λ o. bytes_eq o off) (same_offset text x e x_sent sent) ∙ same) stream i e at here sent

-- where each entry is the first with its offset, one that is sent again as the text is the one that is known
pub sent-known : (stream : List StreamRec) (text : Text) (i : ℕ) (e : StreamRec) → AreFirst stream → slice_get stream i ≡ Some e → is_sent_as text e ≡ true → known_entry stream text ≡ Some i
sent-known stream text i e first here sent = first_sent stream text (offset_of e) i e (first i e here) here sent

-- the same of the entry at a position
sent_at-known : (stream : List StreamRec) (text off : Text) (p n : ℕ) → position stream off ≡ Some p → sent_at stream text p ≡ Some n → known_entry stream text ≡ Some n
sent_at-known stream text off zero n first sent = absurd (none-some n sent)
sent_at-known stream text off (suc i) n first sent =
    let (is, before) = cond_some (is_some_sent_as text (slice_get stream i)) (suc i - 1) n sent in
    let same : i ≡ n = omega arith in
    go (slice_get stream i) refl is ∙ ap Some same
  where
    go : (o : Option StreamRec) → slice_get stream i ≡ o → is_some_sent_as text o ≡ true → known_entry stream text ≡ Some i
    go None here is = absurd (false≢true is)
    go (Some e) here is = first_sent stream text off i e first here is

-- what is found by an offset is the entry that is known by the text
pub found-known : (stream : List StreamRec) (text : Text) (n : ℕ) → found_by_offset stream text ≡ Some n → known_entry stream text ≡ Some n
found-known stream text n found =
    option_and_then_some (sent_at stream text) (option_and_then (position stream) (ending text)) n found
    (λ p at sent. option_and_then_some (position stream) (ending text) p at (λ off ends first. sent_at-known stream text off p n first sent))

-- an event whose text ends in its offset is found, where each entry is the first with its own
found-sent : (stream : List StreamRec) (text : Text) (i : ℕ) (e : StreamRec) → AreFirst stream → slice_get stream i ≡ Some e → spells_its_offset e ≡ true → is_sent_as text e ≡ true
    → found_by_offset stream text ≡ Some i
found-sent stream text i (Other off) first here spells sent = absurd (false≢true sent)
found-sent stream text i (Ev event) first here spells sent =
    let (same, alone) = known-event text event sent in
    let ends : ending text ≡ Some event.off = ap ending (sym same) ∙ ends_there (ending event.text) event.off spells in
    let before : suc i - 1 ≡ i = omega arith in
    ap (λ o. option_and_then (sent_at stream text) (option_and_then (position stream) o)) ends
    ∙ ap (option_and_then (sent_at stream text)) (first i (Ev event) here)
    ∙ ap (λ o. cond (is_some_sent_as text o) (Some (suc i - 1)) None) here
    ∙ ap (λ b. cond b (Some (suc i - 1)) None) sent
    ∙ ap Some before

-- ---- the index

-- the known entries from one on, of the texts that aren't found by an offset
abbrev pub KnownFrom : List StreamRec → ℕ → KnownTexts → Type 0
KnownFrom stream i known = (text : Text) → found_by_offset stream text ≡ None → kept_entry known text ≡ option_map (λ k. i + k) (first_index (is_sent_as text) (drop i stream))

-- an event that is recoverable and has no attachments is known by its text
pub known-here : (text key : Text) (rec : StreamRec) (e : Event) (flag : Bool) → rec ≡ Ev e → key ≡ e.text → flag ≡ is_recoverable rec → flag ≡ true → (length e.bin == 0) ≡ true
    → bytes_eq key text ≡ is_sent_as text rec
known-here text key rec e flag is spells kept recoverable alone = grind (arith, is, spells, kept, recoverable, alone)

-- one entry more in front
pub KnownFrom-step : (stream : List StreamRec) (n : ℕ) (e : StreamRec) (old new : KnownTexts) → 0 < n → n - 1 < length stream → e ≡ get_or stream (n - 1) e → KnownFrom stream n old
    → ((text : Text) → found_by_offset stream text ≡ None → kept_entry new text ≡ cond (is_sent_as text e) (Some (n - 1)) (kept_entry old text)) → KnownFrom stream (n - 1) new
KnownFrom-step stream n e old new some within read held noted text lost =
    let front = drop-read stream n e some within read in
    noted text lost ∙ ap (cond (is_sent_as text e) (Some (n - 1))) (held text lost)
    ∙ first_next n (is_sent_as text e) (first_index (is_sent_as text) (drop n stream)) some
    ∙ ap (λ es. option_map (λ k. n - 1 + k) (first_index (is_sent_as text) es)) (sym front)
  where
    first_next : (n : ℕ) (b : Bool) (o : Option ℕ) → 0 < n → cond b (Some (n - 1)) (option_map (λ k. n + k) o) ≡ option_map (λ k. n - 1 + k) (cond b (Some 0) (option_map suc o))
    first_next n true o some = let e : n - 1 ≡ n - 1 + 0 = omega arith in ap Some e
    first_next n false None some = refl
    first_next n false (Some k) some = let e : n + k ≡ n - 1 + suc k = omega arith in ap Some e

-- one entry more in front, which is left out
pub KnownFrom-left_out : (stream : List StreamRec) (n : ℕ) (e : StreamRec) (known : KnownTexts) → 0 < n → n - 1 < length stream → e ≡ get_or stream (n - 1) e → AreFirst stream → spells_its_offset e ≡ true
    → KnownFrom stream n known → KnownFrom stream (n - 1) known
KnownFrom-left_out stream n e known some within read first spells held =
    let here = slice_get_read stream (length stream) (n - 1) e refl within read in
    KnownFrom-step stream n e known known some within read held
    (λ text lost. ap (λ b. cond b (Some (n - 1)) (kept_entry known text))
    (sym (false_from_ne_true (is_sent_as text e) (λ sent. none-some (n - 1) (sym lost ∙ found-sent stream text (n - 1) e first here spells sent)))))
