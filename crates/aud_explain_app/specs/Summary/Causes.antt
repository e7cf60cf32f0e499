-- The causes that explanations told, counted by sessions.
use Rattle.std.specs.Prelude.{◌^◌, ◌-◌, ℕ, suc, Bool, true, false, List, [], ◌∷◌, codes, min, sum_by, Option, Some, None}
use Rattle.std.specs.Borrow.{Bor}
use Rattle.std.specs.List.{list_any}
use Rattle.std.specs.Str.{bytes_eq}
use Rattle.aud_node.specs.Stream.{Text}
use Rattle.aud_explain_app.specs.declared.summary.causes.CausesTold.{CausesTold}

-- the names of all causes, in the order in which a summary has them
unfoldable pub cause_names : List Text
cause_names =
    codes "node-behind-break" ∷ codes "sent-again-after-replay" ∷ codes "replay-includes-offset" ∷ codes "doubled-in-replay"
    ∷ codes "swapped-in-replay" ∷ codes "rooms-at-break" ∷ codes "skipped-in-window" ∷ codes "stale-offset"
    ∷ codes "body-came-twice" ∷ codes "offset-of-another-session" ∷ codes "frame-not-recorded" ∷ codes "unknown-offset"
    ∷ codes "no-offset" ∷ codes "lost-live" ∷ codes "doubled-live" ∷ codes "swapped-live"
    ∷ codes "another-encoder" ∷ codes "attachments-reordered" ∷ codes "another-event" ∷ codes "altered"
    ∷ codes "log-ended-early" ∷ codes "sent-after-end" ∷ codes "late-leave" ∷ codes "before-birth" ∷ codes "extra-live"
    ∷ codes "join-missing" ∷ codes "leave-missing" ∷ codes "recovery-not-recorded" ∷ codes "missing-break"
    ∷ codes "missing-back" ∷ codes "cleared-after-break" ∷ codes "turn-not-stored" ∷ codes "recovered-twice" ∷ codes "opened-twice"
    ∷ codes "node-not-tapped" ∷ codes "open-not-recorded" ∷ codes "no-start" ∷ codes "restarted-in-old-log"
    ∷ codes "entries-skipped-by-node" ∷ codes "entry-taken-again" ∷ codes "not-in-stream" ∷ codes "two-taps"
    ∷ codes "no-client-tap" ∷ codes "reply-missing" ∷ codes "client-tap-has-no-packets" ∷ codes "sid-differs"
    ∷ codes "namespace-differs" ∷ codes "not-a-packet" ∷ codes "cut-before-reply" ∷ codes "reply-without-pid"
    ∷ codes "tap-began-late" ∷ codes "out-after-answer" ∷ codes "second-connect" ∷ codes "after-disconnect"
    ∷ codes "session-over" ∷ codes "asked-too-early" ∷ codes "node-ended-in-turn" ∷ codes "never-broken" ∷ []

-- the text that is borrowed
abbrev pub name_of : Bor Text → Text
name_of name = name.now

-- the explanation told the cause of this name, however often
abbrev pub tells : Text → CausesTold → Bool
tells id told = list_any (λ (name : Bor Text). bytes_eq name.now id) told.ids.items

-- of how many sessions it was told, if it was: of the one that was explained, and of the others that it names
abbrev pub sessions_if : Bool → CausesTold → ℕ
sessions_if true told = suc told.others
sessions_if false told = 0

-- the explanation told the cause of this name, or, where no name is given, that no known cause of the fault holds
abbrev pub has_told : Option Text → CausesTold → Bool
has_told (Some id) told = tells id told
has_told None told = told.is_unknown

-- the sessions of which it did
abbrev pub sessions_with : Option Text → CausesTold → ℕ
sessions_with id told = sessions_if (has_told id told) told

-- how many these are
abbrev pub count_with : List CausesTold → Option Text → ℕ
count_with told id = min (sum_by (sessions_with id) told) (2 ^ 64 - 1)
