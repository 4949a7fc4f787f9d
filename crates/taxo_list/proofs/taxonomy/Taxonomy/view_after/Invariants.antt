use Rattle.taxo_list.proofs.taxonomy.Taxonomy.view_after.Given as goal

abbrev pub ghosts-uncounted : goal.ghosts-uncounted
ghosts-uncounted a = record { name = a.blank.name; parts = a.blank.parts }
