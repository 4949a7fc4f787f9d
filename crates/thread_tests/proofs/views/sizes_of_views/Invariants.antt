use Rattle.thread_tests.proofs.views.sizes_of_views.Given as goal

abbrev pub ghosts-sizes_of-N-Name : goal.ghosts-sizes_of-N-Name
ghosts-sizes_of-N-Name g a = record { labels = a.opened.labels }

abbrev pub ghosts-sizes_of-L-Ledger : goal.ghosts-sizes_of-L-Ledger
ghosts-sizes_of-L-Ledger g a = record { name = a.blank.name; parts = a.blank.parts }
