-- The plain data of changes.
use Rattle.facet_model.specs.declared.change.Change.{Change as Made}
use Rattle.facet_model.specs.declared.change.Change.TheVariants as made
use Rattle.facet_model.specs.Histories.{Change, add, delete, replace}

abbrev pub change_view : Made → Change
change_view (made.Add doc) = add doc
change_view (made.Delete id) = delete id
change_view (made.Replace doc) = replace doc
