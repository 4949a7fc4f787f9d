use Rattle.label_tests.proofs.views.views_are_right.Given as goal

abbrev pub ghosts-are_right : goal.ghosts-are_right
ghosts-are_right a = record { name = a.blank.name; parts = a.blank.parts }
