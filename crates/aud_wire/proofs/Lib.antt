mod SpellsLemmas
