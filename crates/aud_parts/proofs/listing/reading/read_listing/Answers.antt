use Rattle.aud_parts.proofs.ListingLemmas.{if-read, in-sound, listing-within}
use Rattle.aud_parts.proofs.listing.reading.read_listing.Goals as goal

pub returns-in-Some-clause-sound : goal.returns-in-Some-clause-sound
returns-in-Some-clause-sound c = if-read c.listing_in.result _ _ (in-sound c.deref.result.now) c.listing_in.ensures

pub returns-in-Some-clause-within : goal.returns-in-Some-clause-within
returns-in-Some-clause-within c = if-read c.listing_in.result _ _ (λ l is. listing-within l (in-sound c.deref.result.now l is)) c.listing_in.ensures
