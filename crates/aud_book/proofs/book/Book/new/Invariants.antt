use Rattle.std.proofs.Common.{◌≡◌, map, take, vec_len}
use Rattle.aud_book.specs.Taps.{seen_taps, unposted}
use Rattle.aud_book.proofs.book.Book.new.Given as goal

abbrev pub invariant-loop-i : goal.invariant-loop-i
invariant-loop-i l = (vec_len l.taps ≡ l.i) × (seen_taps l.taps.items ≡ map unposted (take l.i l.names))
