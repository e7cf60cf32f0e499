use Rattle.layer_tests.proofs.desk.desks.at_desk.Given as goal

abbrev pub ghosts-open-L-Ledger : goal.ghosts-open-L-Ledger
ghosts-open-L-Ledger g a = record { name = a.blank.name; parts = a.blank.parts }

abbrev pub ghosts-open-L-Posts : goal.ghosts-open-L-Posts
ghosts-open-L-Posts g a = record { count = a.blank.parts }
