-- The texts that are known, and what each of them spells.
use Rattle.std.proofs.Common.{◌≡◌, ℕ, true, ◌&&◌, List, length, refl, sym, ap, ◌∙◌, arith, Option, Some, None, slice_get, Result, Ok, Err, is_none, nat_eq, ◌==◌}
use Rattle.std.specs.Str.{bytes_eq}
use Rattle.std.proofs.lemmas.Bool.{and_parts, false≢true}
use Rattle.std.proofs.lemmas.Bool.Decides.{nat_tests}
use Rattle.std.proofs.lemmas.Option.{same_Some}
use Rattle.std.proofs.lemmas.Slice.Eq.{bytes_eq-Decides}
use Rattle.aud_tap.specs.declared.records.Event.{Event}
use Rattle.aud_tap.specs.declared.records.StreamRec.{StreamRec}
use Rattle.aud_tap.specs.declared.records.StreamRec.TheVariants.{Ev}
use Rattle.aud_sio.specs.declared.fault.SioFault.{SioFault}
use Rattle.aud_sio.specs.Packet.{PacketSeen, packet_of}
use Rattle.aud_node.specs.Recoverable.{is_event, is_packet_of, is_recoverable, reads_as, ends_in}
use Rattle.aud_node.specs.Known.{is_sent_alone, is_sent_as, known_entry, packet_read}
use Rattle.aud_node.specs.Stream.{Text}
use Rattle.aud_node.proofs.ListLemmas.{first_index-found}

-- ---- a known entry

-- there is an entry where one is known
pub known-there : (stream : List StreamRec) (text : Text) (i : ℕ) → known_entry stream text ≡ Some i → (rec : StreamRec) × (slice_get stream i ≡ Some rec)
known-there stream text i found = let (rec, at, sent) = first_index-found (is_sent_as text) stream i found in (rec, at)

-- and it passes
pub known-at : (stream : List StreamRec) (text : Text) (i : ℕ) (rec : StreamRec) → known_entry stream text ≡ Some i → slice_get stream i ≡ Some rec → is_sent_as text rec ≡ true
known-at stream text i rec found here =
    let (other, at, sent) = first_index-found (is_sent_as text) stream i found in
    ap (is_sent_as text) (same_Some rec other (sym here ∙ at)) ∙ sent

-- an event that passes has this text, and is sent alone
pub known-event : (text : Text) (e : Event) → is_sent_as text (Ev e) ≡ true → (e.text ≡ text) × (is_sent_alone e ≡ true)
known-event text e sent = let (same, alone) = and_parts (bytes_eq e.text text) (is_sent_alone e) sent in ((bytes_eq-Decides e.text text).0 same, alone)

-- ---- what its text spells

-- what was read is one packet: an event of this one's namespace, without acknowledgement id and attachments, that ends
-- in its offset
pub record IsReadAlone (event : Event) (read : Result PacketSeen SioFault) : Type 0 where
  pub reads : read ≡ Ok (packet_read read)
  pub kind_is : is_event (packet_read read).kind ≡ true
  pub nsp_is : (packet_read read).nsp ≡ event.nsp
  pub id_is : (packet_read read).id ≡ None
  pub last_is : (packet_read read).last ≡ Some event.off
  pub attachments_are : (packet_read read).attachments ≡ 0

none_there : {X : Type 0} (o : Option X) → is_none o ≡ true → o ≡ None
none_there None e = refl
none_there (Some x) e = absurd (false≢true e)

-- a text that is the ending
pub ends_there : (o : Option (List ℕ)) (off : List ℕ) → ends_in o off ≡ true → o ≡ Some off
ends_there None off e = absurd (false≢true e)
ends_there (Some last) off e = ap Some ((bytes_eq-Decides last off).0 e)

none_attached : {X : Type 0} (n : ℕ) (xs : List X) → nat_eq n (length xs) ≡ true → (length xs == 0) ≡ true → n ≡ 0
none_attached n xs same none = grind (arith, nat_tests)

read_alone : (event : Event) (read : Result PacketSeen SioFault) → (reads_as event read && (length event.bin == 0)) ≡ true → IsReadAlone event read
read_alone event (Err fault) e = absurd (false≢true e)
read_alone event (Ok packet) e =
    let (is, alone) = and_parts (is_packet_of event packet) (length event.bin == 0) e in
    let (kind, rest) = and_parts (is_event packet.kind) _ is in
    let (nsp, rest) = and_parts (bytes_eq packet.nsp event.nsp) _ rest in
    let (id, rest) = and_parts (is_none packet.id) _ rest in
    let (last, attached) = and_parts (ends_in packet.last event.off) _ rest in
    record {
      reads = refl;
      kind_is = kind;
      nsp_is = (bytes_eq-Decides packet.nsp event.nsp).0 nsp;
      id_is = none_there packet.id id;
      last_is = ends_there packet.last event.off last;
      attachments_are = none_attached packet.attachments event.bin attached alone;
    }

-- what the text of an event that is sent alone spells
pub sent_alone : (event : Event) → is_sent_alone event ≡ true → IsReadAlone event (packet_of event.text)
unfolding is_recoverable
sent_alone event alone = read_alone event (packet_of event.text) alone
