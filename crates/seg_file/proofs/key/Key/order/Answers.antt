use Rattle.std.proofs.Common.{◌∙◌, sym, ap}
use Rattle.std.specs.Ordering.{nat_cmp}
use Rattle.std.specs.Cmp.Lexicographic.{slice_cmp}
use Rattle.seg_file.specs.Search.{text_of}
use Rattle.seg_file.proofs.Search.{other_first}
use Rattle.seg_file.proofs.key.Key.order.Goals as goal

pub returns-in-None : goal.returns-in-None
returns-in-None c = c.cmp-in-None.ensures ∙ other_first c.args.text.now c.in-Word.word.now c.in-None.ensures.cases ∙ ap (λ k. slice_cmp nat_cmp c.args.text.now (text_of k)) (sym c.in-Word.is)
