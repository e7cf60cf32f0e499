use Rattle.std.proofs.Common.{◌≡◌, ◌<◌, ◌≤◌, true, not, eqb, get_or, take}
use Rattle.std.specs.List.{list_all}
use Rattle.std.specs.Option.{MatchOption}
use Rattle.aud_explanation.specs.Private.Front.{is_plain}
use Rattle.aud_explanation.proofs.text.page.front_len.Given as goal

-- so far all are plain, and the last blank is known
abbrev pub invariant-loop-n : goal.invariant-loop-n
invariant-loop-n l = record {
  within : l.n ≤ l.most;
  plain : list_all is_plain (take l.n l.bytes) ≡ true;
  blank : MatchOption l.end (list_all (λ c. not (eqb c 32)) (take l.n l.bytes) ≡ true) (λ k. (k < l.n) × (get_or l.bytes k 0 ≡ 32));
}
