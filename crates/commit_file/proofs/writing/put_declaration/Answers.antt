use Rattle.std.proofs.Common.{arith, subst, ap, length}
use Rattle.std.proofs.lemmas.Str.{is_utf8-from_IsUtf8}
use Rattle.facet_codec.specs.Laws.{IsText}
use Rattle.commit_file.proofs.writing.put_declaration.Goals as goal

pub returns-clause-fits : goal.returns-clause-fits
returns-clause-fits c = record {
  some = c.requires.0;
  text = subst (IsText 1024) c.dim_of-dim.ensures (record { length = omega (arith, c.requires.1, ap length c.dim_of-dim.ensures); utf8 = is_utf8-from_IsUtf8 c.dim_of-dim.result.now c.dim_of-dim.utf8 });
}
