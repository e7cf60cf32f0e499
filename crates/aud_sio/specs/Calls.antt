-- Calls of `feed` one after another.
use Rattle.std.specs.Prelude.{◌≡◌, ℕ, List, [], ◌∷◌, flat_map, Option, Result, Ok, Err}
use Rattle.aud_eio.specs.Packet as eio
use Rattle.aud_sio.specs.declared.fault.SioFault.{SioFault}
use Rattle.aud_sio.specs.declared.fault.SioFault.TheVariants.{Memory}
use Rattle.aud_sio.specs.declared.whole.Whole.{Whole}
use Rattle.aud_sio.specs.Message.{Message, messages_of, at}
use Rattle.aud_sio.specs.Wholes.{Answer, wholes_of}
use Rattle.aud_sio.specs.Assembly.{Feeds, Waits, answer_of}

-- one call: a packet at its place, what is returned, and the messages that are held after it
pub record FeedCall : Type 0 where
  pub place : ℕ
  pub packet : eio.Packet
  pub result : Result (Option Whole) SioFault
  pub held : List Message

-- a packet given, or a refusal, is one answer
abbrev pub answers_of : Result (Option Whole) SioFault → List Answer
answers_of (Ok given) = answer_of given
answers_of (Err fault) = Err fault ∷ []

-- each call begins with what the one before it holds, and has memory
abbrev pub FeedCallsFollow : List Message → List FeedCall → Type 0
FeedCallsFollow held [] = Waits held
FeedCallsFollow held (call ∷ calls) =
    Feeds held (messages_of call.packet) call.result call.held × ¬ (call.result ≡ Err Memory) × FeedCallsFollow call.held calls

abbrev pub answers : List FeedCall → List (ℕ × Answer)
answers calls = flat_map (λ call. at call.place (answers_of call.result)) calls

abbrev pub messages : List FeedCall → List (ℕ × Message)
messages calls = flat_map (λ call. at call.place (messages_of call.packet)) calls

-- the answers of a new assembler to any packets are the whole packets of their messages, each at its place
abbrev pub AnswersAreWholes : Type 0
AnswersAreWholes = (calls : List FeedCall) → FeedCallsFollow [] calls → answers calls ≡ wholes_of (messages calls)
