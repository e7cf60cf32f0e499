-- The recoveries that clients asked for, by session.
use Rattle.std.specs.Prelude.{◌≡◌, ℕ, Bool, false, List, flat_map, length, Option, option_to_list, slice_get}
use Rattle.std.specs.List.{list_any}
use Rattle.std.specs.Option.{option_map_or}
use Rattle.aud_base.specs.Places.{places_of, places_where}
use Rattle.aud_node.specs.Cluster.{Cluster}
use Rattle.aud_node.specs.Stream.{Text}
use Rattle.aud_client.specs.Replies.{is_this}
use Rattle.aud_session_facts.specs.declared.asked.Recovery.{Recovery}
use Rattle.aud_session_facts.specs.Recoveries.{is_refused, recoveries_of, stays_at}
use Rattle.aud_findings.specs.Refused.{asked_in}
use Rattle.aud_explain_app.specs.declared.asked.Asked.{Asked}

-- the session that was asked for
abbrev pub pid_asked : Cluster → Recovery → Option Text
pid_asked c r = asked_in (slice_get (stays_at c r.client) r.stay)

-- the recovery is of the session with this pid
abbrev pub is_for : Cluster → Text → Recovery → Bool
is_for c pid r = is_this pid (pid_asked c r)

-- the numbers of those of these recoveries
abbrev pub numbers_for : Cluster → List Recovery → Text → List ℕ
numbers_for c all pid = places_where (λ k. option_map_or (is_for c pid) (slice_get all k) false) (length all)

-- those of the recoveries with these numbers
abbrev pub numbered : List Recovery → List ℕ → List Recovery
numbered all numbers = flat_map (λ k. option_to_list (slice_get all k)) numbers

-- the recoveries of the session
abbrev pub asked_for : Cluster → Text → List Recovery
asked_for c pid = numbered (recoveries_of c) (numbers_for c (recoveries_of c) pid)

-- one of the recoveries with these numbers was refused
abbrev pub is_one_refused : List Recovery → List ℕ → Bool
is_one_refused all numbers = list_any (λ k. option_map_or is_refused (slice_get all k) false) numbers

-- one of the session's was
abbrev pub has_refused : Cluster → Text → Bool
has_refused c pid = is_one_refused (recoveries_of c) (numbers_for c (recoveries_of c) pid)

-- these are the recoveries that the recording's clients asked for
pub record AreAsked (c : Cluster) (asked : Asked) : Type 0 where
  pub all_are : asked.all.items ≡ recoveries_of c
  pub numbers_are : (pid : Text) → places_of asked.numbers pid ≡ numbers_for c (recoveries_of c) pid
