use Rattle.thread_tests.proofs.leases.read_while_published.Given as goal

abbrev pub ghosts-held_opened : goal.ghosts-held_opened
ghosts-held_opened g a = record { labels = a.opened.labels }
