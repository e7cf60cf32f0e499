use Rattle.std.proofs.Common.{◌≡◌, ◌∙◌, ap, arith, length}
use Rattle.aud_parts.specs.Listing.{listing_of}
use Rattle.aud_parts.proofs.ListingLemmas.{listing-back, text-done}
use Rattle.aud_parts.proofs.listing.listing_text.Goals as goal

pub returns-clause-reads_back : goal.returns-clause-reads_back
returns-clause-reads_back c = λ is.
    let size : length c.as_slice-sessions.result.now ≡ length c.args.listing.now.sessions = ap length c.as_slice-sessions.ensures in
    ap listing_of (text-done c.args.listing.now c.as_slice-sessions.result.now c.loop-session.session-index _ c.loop-session-test.false c.as_slice-sessions.ensures c.loop-session.invariant)
    ∙ listing-back c.args.listing.now (omega arith) (omega arith) is
