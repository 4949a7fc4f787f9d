use Rattle.std.proofs.Common.{rules, ◌≡◌, ℕ, List, [], ◌∷◌, Some, ap, ◌∙◌}
use Rattle.label_file.specs.LabelReading.{joined}
use Rattle.label_file.proofs.Below.{joined_root}
use Rattle.label_file.proofs.reading.joined.Goals as goal

-- below the root a component is a path of its own
alone : (labels : List (List (List ℕ))) (parent : ℕ) (part : List ℕ) → parent ≡ 0 → joined labels 0 part ≡ Some (part ∷ []) → joined labels parent part ≡ Some (part ∷ [])
alone labels parent part root is = ap (λ n. joined labels n part) root ∙ is

pub returns-then-parent-eq0-clause-ok : goal.returns-then-parent-eq0-clause-ok
returns-then-parent-eq0-clause-ok c = rw (alone c.args.labels.now c.args.parent c.args.part.now c.if-parent-eq0.true (joined_root c.args.labels.now c.args.part.now c.requires.list)) (search rules)

pub returns-then-parent-eq0-clause-err : goal.returns-then-parent-eq0-clause-err
returns-then-parent-eq0-clause-err c = rw (alone c.args.labels.now c.args.parent c.args.part.now c.if-parent-eq0.true (joined_root c.args.labels.now c.args.part.now c.requires.list)) c.of_dim.ensures.err

pub returns-then-parent-eq0-clause-memory : goal.returns-then-parent-eq0-clause-memory
returns-then-parent-eq0-clause-memory c = rw (alone c.args.labels.now c.args.parent c.args.part.now c.if-parent-eq0.true (joined_root c.args.labels.now c.args.part.now c.requires.list)) c.of_dim.ensures.memory
