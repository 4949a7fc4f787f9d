use Rattle.thread_tests.proofs.labels.in_room_for.Given as goal

abbrev pub ghosts-ordinals_of : goal.ghosts-ordinals_of
ghosts-ordinals_of g a = record { labels = a.opened.labels }
