use Rattle.thread_tests.proofs.labels.while_held.Given as goal

abbrev pub ghosts-known_beside : goal.ghosts-known_beside
ghosts-known_beside g a = record { labels = a.opened.labels }
