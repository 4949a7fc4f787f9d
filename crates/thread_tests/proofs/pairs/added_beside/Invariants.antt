use Rattle.thread_tests.proofs.pairs.added_beside.Given as goal

abbrev pub ghosts-last_of_both : goal.ghosts-last_of_both
ghosts-last_of_both g a = record { labels = a.opened.labels }
