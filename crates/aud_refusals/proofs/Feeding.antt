-- Messages given to an assembler, and their refusals.
use Rattle.std.proofs.Common.{◌≡◌, ℕ, suc, List, [], ◌∷◌, ◌++◌, flat_map, refl, sym, ap, ◌∙◌, subst, Option, Some, None, Result, Ok, Err, IfOk, OnOk}
use Rattle.std.specs.Result.{result_ok}
use Rattle.std.proofs.lemmas.List.{append-nil, append_assoc}
use Rattle.std.proofs.lemmas.Option.{none-some}
use Rattle.aud_sio.specs.declared.fault.SioFault.{SioFault}
use Rattle.aud_sio.specs.declared.fault.SioFault.TheVariants.{Memory}
use Rattle.aud_eio.specs.Packet as eio
use Rattle.aud_tap.specs.declared.records.ClientRec.{ClientRec}
use Rattle.aud_client.specs.TapPackets.{engine_packets, messages_at}
use Rattle.aud_rows.proofs.LackingLemmas.{at-none, at-packets}
use Rattle.aud_sio.specs.Message.{Message, at, messages_of}
use Rattle.aud_sio.specs.Wholes.{Answer}
use Rattle.aud_sio.specs.Assembly.{Feeds, Waits, wholes_after}
use Rattle.aud_refusals.specs.NoPacket.{first_refusal}
use Rattle.aud_refusals.specs.declared.no_packet.Refusal.TheVariants.{Socket}
use Rattle.aud_refusals.specs.Private.Fed.{Fed, OnFed, Passes, first_fault, refusal_to}

-- refusals at place 0 are past
past : (answers : List Answer) (rest : List (ℕ × Answer)) → first_refusal (at 0 answers ++ rest) ≡ first_refusal rest
past [] rest = refl
past (Ok whole ∷ answers) rest = past answers rest
past (Err fault ∷ answers) rest = past answers rest

-- answers without a fault refuse nothing
quiet : (i : ℕ) (answers : List Answer) (rest : List (ℕ × Answer)) → None ≡ first_fault answers → first_refusal (at (suc i) answers ++ rest) ≡ first_refusal rest
quiet i [] rest e = refl
quiet i (Ok whole ∷ answers) rest e = quiet i answers rest e
quiet i (Err fault ∷ answers) rest e = absurd (none-some _ e)

-- and those with one are refused by the first
refused : (i : ℕ) (fault : SioFault) (answers : List Answer) (rest : List (ℕ × Answer)) → Some fault ≡ first_fault answers
    → first_refusal (at (suc i) answers ++ rest) ≡ Some (record { refusal = Socket fault; packet = Some (suc i) })
refused i fault [] rest e = absurd (none-some _ (sym e))
refused i fault (Ok whole ∷ answers) rest e = refused i fault answers rest e
refused i fault (Err other ∷ answers) rest e = ap (λ (o : Option SioFault). elim o [ None ↦ None | Some f ↦ Some (record { refusal = Socket f; packet = Some (suc i) }) ]) (sym e)

-- messages that were given, none of which is refused
pub Fed-none : (i : ℕ) (old messages new : List Message) (rest : List (ℕ × Message)) → Fed old messages new None
    → refusal_to old (at (suc i) messages ++ rest) ≡ refusal_to new rest
Fed-none i old messages new rest fed = ap first_refusal (fed.continues (suc i) rest) ∙ quiet i fed.answers (wholes_after new rest) fed.fault_is

-- and of which one is
pub Fed-some : (i : ℕ) (fault : SioFault) (old messages new : List Message) (rest : List (ℕ × Message)) → Fed old messages new (Some fault)
    → refusal_to old (at (suc i) messages ++ rest) ≡ Some (record { refusal = Socket fault; packet = Some (suc i) })
Fed-some i fault old messages new rest fed = ap first_refusal (fed.continues (suc i) rest) ∙ refused i fault fed.answers (wholes_after new rest) fed.fault_is

-- a refusal that is not running out of memory
pub OnFed-refused : {E : Type 0} (r : Result (Option SioFault) E) (old messages new : List Message) (fault : SioFault) → OnOk r (¬ (fault ≡ Memory)) → IfOk r (λ found. found ≡ Some fault)
    → Feeds old messages (Err fault) new → Waits new → OnFed old messages new r
OnFed-refused (Ok found) old messages new fault other is feeds waits =
    record { answers = Err fault ∷ []; continues = feeds other; fault_is = is; waits = λ _. waits }
OnFed-refused (Err e) old messages new fault other is feeds waits = tt

-- ---- the records before

-- what was given at place 0 is past
pub Passes-fed : (old new : List Message) (packet : eio.Packet) (fault : Option SioFault) → Fed old (messages_of packet) new fault → Passes old (at 0 (flat_map messages_of (packet ∷ []))) new
Passes-fed old new packet fault fed =
    record {
      next = λ l.
          ap (λ (ms : List Message). refusal_to old (at 0 ms ++ l)) (append-nil (messages_of packet))
          ∙ ap first_refusal (fed.continues 0 l)
          ∙ past fed.answers (wholes_after new l);
      waits = fed.waits;
    }

-- messages and then others
pub Passes-append : (old mid new : List Message) (xs ys : List (ℕ × Message)) → Passes old xs mid → Passes mid ys new → Passes old (xs ++ ys) new
Passes-append old mid new xs ys a b =
    record {
      next = λ l. ap (refusal_to old) (append_assoc xs ys l) ∙ a.next (ys ++ l) ∙ b.next l;
      waits = λ w. b.waits (a.waits w);
    }

-- the messages of a record
pub OnOk-packets : {E : Type 0} (r : Result (Unit {0}) E) (rec : ClientRec) (packets : List eio.Packet) (old new : List Message) → Some packets ≡ result_ok (engine_packets rec)
    → OnOk r (Passes old (at 0 (flat_map messages_of packets)) new) → OnOk r (Passes old (messages_at (0, rec)) new)
OnOk-packets r rec packets old new given passes =
    subst (λ (ms : List (ℕ × Message)). OnOk r (Passes old ms new)) (sym (at-packets 0 rec packets given)) passes

-- and none, where it is refused
pub Passes-none : (old : List Message) (rec : ClientRec) → None ≡ result_ok (engine_packets rec) → Passes old (messages_at (0, rec)) old
Passes-none old rec none = record {
  next = λ l. ap (λ (ms : List (ℕ × Message)). refusal_to old (ms ++ l)) (at-none 0 rec none);
  waits = λ w. w;
}
