use Rattle.memory_tests.proofs.desk.given.Given as goal

abbrev pub ghosts-at_desk-L-Ledger : goal.ghosts-at_desk-L-Ledger
ghosts-at_desk-L-Ledger g a = record { name = a.blank.name; parts = a.blank.parts }

abbrev pub ghosts-at_desk-L-Posts : goal.ghosts-at_desk-L-Posts
ghosts-at_desk-L-Posts g a = record { count = a.blank.parts }
