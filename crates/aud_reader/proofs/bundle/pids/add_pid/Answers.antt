use Rattle.std.proofs.Common.{◌<◌, ◌≤◌, ◌∷◌, ◌++◌, [], ℕ, List, length, arith, sym}
use Rattle.aud_reader.specs.Bundle.{max_pids}
use Rattle.aud_reader.specs.Private.Texts.{HasPids}
use Rattle.aud_reader.proofs.TextsLemmas.{fit-ok, pids-known, pids-put, pids-full}
use Rattle.aud_reader.proofs.bundle.pids.add_pid.Goals as goal

pub returns-then-contains : goal.returns-then-contains
returns-then-contains c =
    let known = λ (all : List (List ℕ)) (has : HasPids c.args.pids.now all). pids-known c.args.pids.now all c.args.pid.now c.len-count.ensures.unique has (sym c.if-contains.ensures) in
    record { fit = λ all has. fit-ok (all ++ c.args.pid.now ∷ []) (known all has).few; pids = known }

pub returns-then-count-ge-MAX_PIDS-clause-fit : goal.returns-then-count-ge-MAX_PIDS-clause-fit
returns-then-count-ge-MAX_PIDS-clause-fit c = λ all has.
    let full : max_pids ≤ length c.args.pids.now.keys = omega (arith, c.len-count.ensures.len, c.if-count-ge-MAX_PIDS.true) in
    pids-full c.args.pids.now all c.args.pid.now c.len-count.ensures.unique has (sym c.if-contains.ensures) full

pub returns : goal.returns
returns c =
    let room : length c.args.pids.now.keys < max_pids = omega (arith, c.len-count.ensures.len, c.if-count-ge-MAX_PIDS.false) in
    let put = λ (all : List (List ℕ)) (has : HasPids c.args.pids.now all).
    pids-put c.args.pids.now c.insert.new.self all c.args.pid.now c.len-count.ensures.unique has (sym c.if-contains.ensures) room (rw (← c.in_ok-share.ensures) c.in_ok-insert.ensures.updates) in
    record { fit = λ all has. fit-ok (all ++ c.args.pid.now ∷ []) (put all has).few; pids = put }
