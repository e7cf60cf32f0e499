use Rattle.embedding.proofs.service.report.Given as goal

abbrev pub ghosts-record-L-Ledger : goal.ghosts-record-L-Ledger
ghosts-record-L-Ledger g a = record { name = a.blank.name; parts = a.blank.parts }

abbrev pub ghosts-record-L-Posts : goal.ghosts-record-L-Posts
ghosts-record-L-Posts g a = record { count = a.blank.parts }
