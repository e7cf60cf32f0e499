mod AroundLemmas
mod AtBreakLemmas
mod Told
mod Sure
mod TurnLemmas
mod ItemLemmas
mod Listed
