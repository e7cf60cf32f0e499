-- Records of a connection, one after another.
use Rattle.std.proofs.Common.{◌≡◌, ℕ, Bool, true, false, List, [], ◌∷◌, ◌++◌, flat_map, refl, sym, ap, ◌∙◌, subst, Option, Some, None, Result, Ok, Err, OnOk, ◌||◌, ◌&&◌, nat_eq, cond, append-nil, append_assoc}
use Rattle.std.specs.List.{list_any}
use Rattle.std.proofs.lemmas.List.{map-append}
use Rattle.aud_sio.specs.Message.{Message, messages_of, at}
use Rattle.aud_sio.specs.Wholes.{Answer}
use Rattle.aud_sio.specs.Assembly.{Continues, Waits, wholes_after}
use Rattle.aud_eio.specs.Packet as eio
use Rattle.std.proofs.lemmas.List.Folds.{list_any-append}
use Rattle.std.proofs.lemmas.Grind.{flat_map-append}
use Rattle.std.proofs.lemmas.Bool.{eq-eqb}
use Rattle.aud_eio.specs.declared.packet.EioFault.{EioFault}
use Rattle.aud_tap.specs.declared.records.ClientRec.{ClientRec}
use Rattle.aud_client.specs.TapPackets.{is_refused, FromServer, server_packets, engine_packets, packets_at, messages_or_none}
use Rattle.aud_client.specs.Private.ConnectionRead.{Reads, ReadsEngine, ReadsRecord, packets_read, wholes_in, bad_or}
use Rattle.aud_client.specs.declared.connection.Reader.{Reader}

-- what follows of two facts that a call gave
pub OnOk-two : {A E : Type 0} (r : Result A E) (P Q R : Type 0) → (P → Q → R) → OnOk r P → OnOk r Q → OnOk r R
OnOk-two (Ok x) P Q R f p q = f p q
OnOk-two (Err e) P Q R f p q = p

-- a record that is not bad
pub bad_or-false : (bad : Option ℕ) (number : ℕ) → bad_or bad number false ≡ bad
bad_or-false None number = refl
bad_or-false (Some first) number = refl

-- messages whose answers are these
pub Reads-by : (number : ℕ) (messages : List Message) (old new : Reader) (held : List Message) (answers : List Answer)
    → Continues old.assembler messages answers held → new.assembler ≡ held
    → packets_read new ≡ packets_read old ++ at number (wholes_in answers)
    → new.bad ≡ bad_or old.bad number (list_any is_refused answers) → Waits held → Reads number messages old new
Reads-by number messages old new held answers continues is packets bad waits =
    record {
      answers = answers;
      continues = subst (λ (h : List Message). Continues old.assembler messages answers h) (sym is) continues;
      packets_are = packets;
      bad_is = bad;
      waits = λ _. subst Waits (sym is) waits;
    }

-- whole packets of two lists of answers
wholes_in-append : (xs ys : List Answer) → wholes_in (xs ++ ys) ≡ wholes_in xs ++ wholes_in ys
wholes_in-append [] ys = refl
wholes_in-append (Ok whole ∷ xs) ys = ap (λ ws. FromServer whole ∷ ws) (wholes_in-append xs ys)
wholes_in-append (Err fault ∷ xs) ys = wholes_in-append xs ys

bad_or-twice : (bad : Option ℕ) (number : ℕ) (a b : Bool) → bad_or (bad_or bad number a) number b ≡ bad_or bad number (a || b)
bad_or-twice (Some first) number a b = refl
bad_or-twice None number true b = refl
bad_or-twice None number false b = refl

-- what stands at a record, of two lists
at-append : {A : Type 0} (place : ℕ) (xs ys : List A) → at place (xs ++ ys) ≡ at place xs ++ at place ys
at-append place xs ys = map-append (λ x. (place, x)) xs ys

-- messages and then others
pub Reads-append : (number : ℕ) (ms ns : List Message) (old mid new : Reader) → Reads number ms old mid → Reads number ns mid new → Reads number (ms ++ ns) old new
Reads-append number ms ns old mid new a b =
    record {
      answers = a.answers ++ b.answers;
      continues = λ place l.
          cc (
            at-append place ms ns,
            append_assoc (at place ms) (at place ns) l,
            a.continues place (at place ns ++ l),
            b.continues place l,
            append_assoc (at place a.answers) (at place b.answers) (wholes_after new.assembler l),
            at-append place a.answers b.answers,
          );
      packets_are =
          cc (
            append_assoc (packets_read old) (at number (wholes_in a.answers)) (at number (wholes_in b.answers)),
            wholes_in-append a.answers b.answers,
            at-append number (wholes_in a.answers) (wholes_in b.answers),
          );
      bad_is =
          cc (bad_or-twice old.bad number (list_any is_refused a.answers) (list_any is_refused b.answers), list_any-append is_refused a.answers b.answers);
      waits = λ w. b.waits (a.waits w);
    }

-- the messages of one packet more
pub Reads-more : (number : ℕ) (ps : List eio.Packet) (p : eio.Packet) (old mid new : Reader) → Reads number (flat_map messages_of ps) old mid → Reads number (messages_of p) mid new
    → Reads number (flat_map messages_of (ps ++ p ∷ [])) old new
Reads-more number ps p old mid new a b =
    subst (λ (ms : List Message). Reads number ms old new) (sym (flat_map-append messages_of ps (p ∷ []) ∙ ap (λ ms. flat_map messages_of ps ++ ms) (append-nil (messages_of p))))
    (Reads-append number (flat_map messages_of ps) (messages_of p) old mid new a b)

pub Reads-one : (number : ℕ) (p : eio.Packet) (old new : Reader) → Reads number (messages_of p) old new → Reads number (flat_map messages_of (p ∷ [])) old new
Reads-one number p old new a = subst (λ (ms : List Message). Reads number ms old new) (sym (append-nil (messages_of p))) a

-- the answers at a record are its own
pub received-at : (number : ℕ) (xs : List Answer) → server_packets number (at number xs) ≡ wholes_in xs
received-at number [] = refl
received-at number (Ok whole ∷ xs) =
    ap (λ b. cond b (FromServer whole ∷ server_packets number (at number xs)) (server_packets number (at number xs))) (eq-eqb number number refl)
    ∙ ap (λ ws. FromServer whole ∷ ws) (received-at number xs)
received-at number (Err fault ∷ xs) = received-at number xs

pub refused-at : (number : ℕ) (xs : List Answer) → list_any (λ (answer : ℕ × Answer). nat_eq answer.0 number && is_refused answer.1) (at number xs) ≡ list_any is_refused xs
refused-at number [] = refl
refused-at number (x ∷ xs) =
    ap (λ b. (b && is_refused x) || list_any (λ (answer : ℕ × Answer). nat_eq answer.0 number && is_refused answer.1) (at number xs)) (eq-eqb number number refl)
    ∙ ap (λ b. is_refused x || b) (refused-at number xs)

-- a record from the server, whose Engine.IO packets are these
ReadsRecord-server : (number : ℕ) (rec : ClientRec) (r : Result (List eio.Packet) EioFault) (old new : Reader) → engine_packets rec ≡ r
    → ((answers : List (ℕ × Answer)) → packets_at answers (number, rec) ≡ at number (server_packets number answers))
    → ReadsEngine number r old new → ReadsRecord number rec old new
ReadsRecord-server number rec (Ok packets) old new is from_server reads =
    record {
      answers = reads.answers;
      continues = λ l. ap (λ e. wholes_after old.assembler (messages_or_none number e ++ l)) is ∙ reads.continues number l;
      packets_are =
          reads.packets_are
          ∙ ap (λ ps. packets_read old ++ ps) (sym (from_server (at number reads.answers) ∙ ap (at number) (received-at number reads.answers)));
      bad_is =
          reads.bad_is
          ∙ ap (bad_or old.bad number) (sym (ap (λ e. is_refused e || list_any (λ (answer : ℕ × Answer). nat_eq answer.0 number && is_refused answer.1) (at number reads.answers)) is ∙ refused-at number reads.answers));
      waits = reads.waits;
    }
ReadsRecord-server number rec (Err fault) old new is from_server reads =
    record {
      answers = [];
      continues = λ l. ap (λ e. wholes_after old.assembler (messages_or_none number e ++ l)) is ∙ ap (λ h. wholes_after h l) (sym reads.assembler_is);
      packets_are = reads.packets_are ∙ sym (append-nil (packets_read old)) ∙ ap (λ ps. packets_read old ++ ps) (sym (from_server []));
      bad_is = reads.bad_is ∙ ap (bad_or old.bad number) (sym (ap (λ e. is_refused e || false) is));
      waits = λ w. subst Waits (sym reads.assembler_is) w;
    }

-- the same, of a call that reads the record given
pub OnOk-server : {A E : Type 0} (c : Result A E) (number : ℕ) (rec given : ClientRec) (r : Result (List eio.Packet) EioFault) (old new : Reader) → rec ≡ given → engine_packets given ≡ r
    → ((answers : List (ℕ × Answer)) → packets_at answers (number, given) ≡ at number (server_packets number answers))
    → OnOk c (ReadsEngine number r old new) → OnOk c (ReadsRecord number rec old new)
OnOk-server (Ok x) number rec given r old new same is from_server reads =
    subst (λ (it : ClientRec). ReadsRecord number it old new) (sym same) (ReadsRecord-server number given r old new is from_server reads)
OnOk-server (Err e) number rec given r old new same is from_server reads = reads
