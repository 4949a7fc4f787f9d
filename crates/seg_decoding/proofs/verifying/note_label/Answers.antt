use Rattle.std.proofs.Common.{rules, ◌≡◌, ◌++◌, ℕ, List, subst, ap, ◌∙◌}
use Rattle.std.proofs.lemmas.Result.{on_ok_weaker}
use Rattle.seg_terms.specs.Noting.{Table}
use Rattle.seg_decoding.specs.Facts.{texts_at}
use Rattle.seg_decoding.specs.Pairs.{Passes}
use Rattle.seg_decoding.proofs.verifying.note_label.Goals as goal

pub returns : goal.returns
returns c =
    let terms : Table = c.args.segment.now.terms in
    let longer : c.extend_from_slice.new.self.items ≡ c.args.counted.now.items ++ c.ords.result.now = search rules in
    on_ok_weaker c.pass_terms.result (λ passes. record {
      last = c.in_ok-push.ensures.items;
      counted = longer ∙ ap (λ (ns : List ℕ). c.args.counted.now.items ++ ns) c.ords.ensures.ords;
      passes = subst (λ (ts : List ℕ). Passes terms c.args.doc (texts_at terms ts) c.args.walk.now.next.items c.pass_terms.new.self.next.items) c.deref.ensures.value passes;
    }) c.pass_terms.ensures
