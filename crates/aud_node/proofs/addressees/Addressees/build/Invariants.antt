use Rattle.std.proofs.Common.{◌≡◌}
use Rattle.std.specs.List.{filter}
use Rattle.aud_node.specs.Stream.{Text, entry, positions_after}
use Rattle.aud_node.specs.Addressees.{is_excepting, is_to_all, is_to_room}
use Rattle.aud_node.specs.Private.AddresseeIndex.{kept_of, kept_to_room}
use Rattle.aud_node.proofs.addressees.Addressees.build.Given as goal

abbrev pub invariant-loop-i : goal.invariant-loop-i
invariant-loop-i l =
    record {
      rooms : (nsp room : Text) → kept_to_room l.addressees nsp room ≡ filter (λ p. is_to_room (entry l.entries p) nsp room) (positions_after 0 l.i);
      everyone : (nsp : Text) → kept_of l.addressees.everyone nsp ≡ filter (λ p. is_to_all (entry l.entries p) nsp) (positions_after 0 l.i);
      excepted : (room : Text) → kept_of l.addressees.excepted room ≡ filter (λ p. is_excepting (entry l.entries p) room) (positions_after 0 l.i);
    }
