use Rattle.std.proofs.Common.{◌≡◌, ◌++◌, flat_map, take, string_bytes}
use Rattle.aud_explanation.specs.AlikeText.{pid_listed}
use Rattle.aud_explanation.proofs.text.alike.push_pids.Given as goal

-- the pids so far
abbrev pub invariant-loop-pid : goal.invariant-loop-pid
invariant-loop-pid l = string_bytes l.line ≡ string_bytes l.fn.line ++ flat_map pid_listed (take l.pid-index l.pids)
