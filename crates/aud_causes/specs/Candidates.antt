-- Which causes a fault can have, and which of them were refuted.
use Rattle.std.specs.Prelude.{Bool, not, List, [], ◌∷◌, codes}
use Rattle.std.specs.Borrow.{Bor}
use Rattle.std.specs.List.{filter, list_all, list_any}
use Rattle.std.specs.Str.{bytes_eq}
use Rattle.aud_node.specs.Stream.{Text}
use Rattle.aud_cert.specs.declared.fault.Fault.{Fault}
use Rattle.aud_cert.specs.declared.fault.Fault.TheVariants as fault
use Rattle.aud_verdict.specs.declared.verdict.Verdict.{Verdict}
use Rattle.aud_verdict.specs.declared.verdict.Verdict.TheVariants.{Yes, No}
use Rattle.aud_causes.specs.declared.found.CauseFound.{CauseFound}

-- the names of the causes that such a fault can have, in the order in which those that hold are told; a tail has none
abbrev pub candidates : Fault → List Text
candidates fault.NoLog = codes "open-not-recorded" ∷ codes "node-not-tapped" ∷ []
candidates fault.Chain =
    codes "node-not-tapped" ∷ codes "missing-back" ∷ codes "missing-break" ∷ codes "cleared-after-break"
    ∷ codes "turn-not-stored" ∷ codes "recovered-twice" ∷ codes "opened-twice" ∷ []
candidates fault.Order =
    codes "no-start" ∷ codes "restarted-in-old-log" ∷ codes "entries-skipped-by-node"
    ∷ codes "entry-taken-again" ∷ codes "not-in-stream" ∷ []
candidates fault.Client = codes "two-taps" ∷ codes "no-client-tap" ∷ codes "reply-missing" ∷ codes "client-tap-has-no-packets" ∷ []
candidates fault.Names = codes "sid-differs" ∷ codes "namespace-differs" ∷ []
candidates fault.Frame = codes "not-a-packet" ∷ []
candidates fault.Orphan =
    codes "cut-before-reply" ∷ codes "tap-began-late" ∷ codes "reply-missing" ∷ codes "after-disconnect"
    ∷ codes "out-after-answer" ∷ codes "second-connect" ∷ codes "reply-without-pid" ∷ []
candidates (fault.Content off) = codes "another-encoder" ∷ codes "attachments-reordered" ∷ codes "altered" ∷ codes "another-event" ∷ []
candidates (fault.Extra off) =
    codes "node-behind-break" ∷ codes "rooms-at-break" ∷ codes "offset-of-another-session" ∷ codes "log-ended-early" ∷ codes "sent-after-end" ∷ codes "late-leave"
    ∷ codes "before-birth" ∷ codes "extra-live" ∷ codes "join-missing" ∷ codes "leave-missing"
    ∷ codes "recovery-not-recorded" ∷ []
candidates (fault.Doubled off) =
    codes "node-behind-break" ∷ codes "sent-again-after-replay" ∷ codes "replay-includes-offset" ∷ codes "stale-offset"
    ∷ codes "body-came-twice" ∷ codes "doubled-in-replay" ∷ codes "doubled-live" ∷ codes "recovery-not-recorded" ∷ []
candidates (fault.Swapped off) = codes "node-behind-break" ∷ codes "swapped-in-replay" ∷ codes "swapped-live" ∷ codes "recovery-not-recorded" ∷ []
candidates (fault.Lost off) =
    codes "rooms-at-break" ∷ codes "skipped-in-window" ∷ codes "offset-of-another-session" ∷ codes "frame-not-recorded"
    ∷ codes "lost-live" ∷ codes "leave-missing" ∷ codes "recovery-not-recorded" ∷ []
candidates (fault.Window conn) = codes "no-offset" ∷ codes "unknown-offset" ∷ codes "stale-offset" ∷ codes "offset-of-another-session" ∷ []
candidates (fault.Tail count) = []

-- the fault can have a cause of this name
abbrev pub is_candidate : Fault → Text → Bool
is_candidate fault id = list_any (bytes_eq id) (candidates fault)

-- each of the causes that are told has a name of the fault's list
abbrev pub are_candidates : Fault → List CauseFound → Bool
are_candidates fault told = list_all (λ (cause : CauseFound). is_candidate fault cause.id.now) told

-- those of the fault, where the verdict is no
abbrev pub candidates_for : Verdict → List Text
candidates_for (Yes got tail turns) = []
candidates_for (No fault) = candidates fault

-- one of the causes that are told has this name
abbrev pub is_told : List CauseFound → Text → Bool
is_told told id = list_any (λ (cause : CauseFound). bytes_eq cause.id.now id) told

-- none has
abbrev pub is_untold : List CauseFound → Text → Bool
is_untold told id = not (is_told told id)

-- those of them that were refuted: the test of none of these names holds
abbrev pub refuted : Verdict → List CauseFound → List Text
refuted verdict told = filter (is_untold told) (candidates_for verdict)

-- ---- of a refused recovery

-- the names of the causes that it can have, in the order in which those that hold are told
abbrev pub refusal_candidates : List Text
refusal_candidates =
    codes "no-offset" ∷ codes "unknown-offset" ∷ codes "session-over" ∷ codes "node-ended-in-turn" ∷ codes "never-broken"
    ∷ codes "asked-too-early" ∷ []

-- it can have a cause of this name
abbrev pub is_refusal_candidate : Text → Bool
is_refusal_candidate id = list_any (bytes_eq id) refusal_candidates

-- those of them that were refuted
abbrev pub refuted_of_refusal : List CauseFound → List Text
refuted_of_refusal told = filter (is_untold told) refusal_candidates

-- the text that is borrowed
abbrev pub text_of : Bor Text → Text
text_of text = text.now
