use Rattle.std.proofs.Common.{◌≡◌, slice_get}
use Rattle.std.specs.Option.{option_and_then}
use Rattle.aud_base.specs.Places.{places_of, places_where}
use Rattle.aud_node.specs.Stream.{Text}
use Rattle.aud_client.specs.Private.Clients.{has_naming_stay}
use Rattle.aud_client.proofs.clients.naming_of.Given as goal

abbrev pub invariant-loop-place : goal.invariant-loop-place
invariant-loop-place l = (q : Text) → places_of l.naming q ≡ places_where (λ k. has_naming_stay q (option_and_then (λ transcript. transcript) (slice_get l.transcripts k))) l.place
