-- Calls of `feed` one after another.
use Rattle.std.proofs.Common.{◌≡◌, List, [], ◌∷◌, ◌++◌, Option, Result, Ok, Err, sym, ap, ◌∙◌}
use Rattle.aud_sio.specs.declared.fault.SioFault.{SioFault}
use Rattle.aud_sio.specs.declared.fault.SioFault.TheVariants.{Memory}
use Rattle.aud_sio.specs.declared.whole.Whole.{Whole}
use Rattle.aud_sio.specs.Message.{Message, messages_of, at}
use Rattle.aud_sio.specs.Assembly.{Feeds, Continues, wholes_after}
use Rattle.aud_sio.specs.Calls.{FeedCall, answers_of, FeedCallsFollow, answers, messages, AnswersAreWholes}

-- what a call with memory says
continues : (old messages : List Message) (result : Result (Option Whole) SioFault) (new : List Message)
    → Feeds old messages result new → ¬ (result ≡ Err Memory) → Continues old messages (answers_of result) new
continues old messages (Ok given) new feeds memory = feeds
continues old messages (Err fault) new feeds memory = feeds (λ same. memory (ap Err same))

-- the whole packets of the messages of a list of calls are what the calls answered
follows : (held : List Message) (calls : List FeedCall) → FeedCallsFollow held calls → wholes_after held (messages calls) ≡ answers calls
follows held [] waits = waits
follows held (call ∷ calls) follow =
    continues held (messages_of call.packet) call.result call.held follow.0 follow.1 call.place (messages calls)
    ∙ ap (λ rest. at call.place (answers_of call.result) ++ rest) (follows call.held calls follow.2)

pub answers_are_wholes : AnswersAreWholes
answers_are_wholes = λ calls follow. sym (follows [] calls follow)
