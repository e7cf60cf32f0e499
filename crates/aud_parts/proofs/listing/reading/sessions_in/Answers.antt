use Rattle.std.proofs.Common.{◌+◌, ◌∷◌, drop, sym, ap, ◌∙◌}
use Rattle.std.proofs.lemmas.List.{drop_more}
use Rattle.aud_parts.specs.Listing.{session_in, sessions_in}
use Rattle.aud_parts.proofs.ListingLemmas.{sessions_next, sessions-done, sessions-sound, with_sessions}
use Rattle.aud_parts.proofs.listing.reading.sessions_in.Goals as goal

pub loop-line-preserved : goal.loop-line-preserved
loop-line-preserved c =
    let parts = c.args.parts in
    let lines = c.args.lines.now in
    let i = c.loop-line.line-index in
    let line = c.line-item.result in
    let front = c.loop-line.sessions.items in
    let rest = drop (i + 1) lines in
    let here = drop_more lines i line c.loop-line-test.true ∙ ap (λ l. l ∷ rest) (sym c.line-item.is) in
    ap (λ ss. with_sessions ss (sessions_in parts rest)) c.in-Ok.ensures.items
    ∙ sym (sessions_next parts line rest front c.in_ok-session.session (ap (session_in parts) (sym c.as_slice.ensures) ∙ c.in_ok-session.ensures))
    ∙ ap (λ ls. with_sessions front (sessions_in parts ls)) (sym here)
    ∙ c.loop-line.invariant

pub returns-clause-within : goal.returns-clause-within
returns-clause-within c =
    (sessions-sound c.args.parts c.args.lines.now c.loop-line.sessions.items
    (sessions-done c.args.parts c.args.lines.now c.loop-line.line-index c.loop-line.sessions.items c.loop-line-test.false c.loop-line.invariant)).0
