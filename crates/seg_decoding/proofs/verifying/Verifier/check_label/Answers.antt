use Rattle.std.proofs.Common.{rules, ◌≡◌, ◌≤◌, ◌∷◌, [], ◌++◌, ◌||◌, ℕ, List, true, length, subst, sym, ap, ◌∙◌, arith}
use Rattle.std.specs.Prelude.{All, not}
use Rattle.std.specs.List.{list_any}
use Rattle.std.specs.Str.{bytes_eq}
use Rattle.std.proofs.lemmas.Result.{on_ok_weaker}
use Rattle.facet_model.specs.Documents.{dim_of}
use Rattle.seg_decoding.specs.Answers.{IsLeaf}
use Rattle.seg_decoding.specs.Facts.{label_of, labels_of}
use Rattle.seg_decoding.specs.declared.facts.LabelFacts.{LabelFacts}
use Rattle.seg_decoding.proofs.Rights.{facts_met, fit_noted, low_leaves, seen_noted}
use Rattle.seg_decoding.proofs.verifying.Verifier.check_label.Goals as goal

pub may_follow-requires-clause-leaves : goal.may_follow-requires-clause-leaves
may_follow-requires-clause-leaves c =
    let known = c.args.labels.now in
    subst (All (IsLeaf (length known))) (sym c.deref.ensures.value) (low_leaves c.args.needs (length known) c.args.self.now.leaves.items c.requires.needs c.requires.fit)

pub may_follow-requires-clause-leaf : goal.may_follow-requires-clause-leaf
may_follow-requires-clause-leaf c =
    let f : LabelFacts = c.index-facts.result.now in
    let are = facts_met c.args.config.now c.args.labels.now c.args.needs c.args.segment.now.terms c.args.doc c.meet.new.self.facts.items c.in_ok-at.at c.args.leaf f c.in_ok-at.ensures.met c.in_ok-at.ensures.has c.index-facts.ensures in
    (are.0.leaf.0, omega (arith, are.0.leaf.1, c.requires.needs))

pub note_label-requires-clause-there : goal.note_label-requires-clause-there
note_label-requires-clause-there c =
    let f : LabelFacts = c.index-facts.result.now in
    let are = facts_met c.args.config.now c.args.labels.now c.args.needs c.args.segment.now.terms c.args.doc c.meet.new.self.facts.items c.in_ok-at.at c.args.leaf f c.in_ok-at.ensures.met c.in_ok-at.ensures.has c.index-facts.ensures in
    are.0.there

pub returns-clause-ready : goal.returns-clause-ready
returns-clause-ready c = on_ok_weaker c.note_label.result (λ noted. record {
  places = subst (λ (n : ℕ). c.args.needs ≤ n) (sym c.in_ok-at.ensures.size) c.requires.ready.places;
  met = c.in_ok-at.ensures.met;
  size = noted.passes.size ∙ c.requires.ready.size;
}) c.note_label.ensures

pub returns-clause-fit : goal.returns-clause-fit
returns-clause-fit c =
    let f : LabelFacts = c.index-facts.result.now in
    let are = facts_met c.args.config.now c.args.labels.now c.args.needs c.args.segment.now.terms c.args.doc c.meet.new.self.facts.items c.in_ok-at.at c.args.leaf f c.in_ok-at.ensures.met c.in_ok-at.ensures.has c.index-facts.ensures in
    on_ok_weaker c.note_label.result (λ noted. fit_noted c.args.config.now c.args.labels.now c.args.needs c.args.segment.now.terms c.args.doc c.args.self.now.leaves.items c.args.self.now.counted.items c.args.self.now.walk.next.items
    c.note_label.new.leaves.items c.note_label.new.counted.items c.note_label.new.walk.next.items f are.0 noted c.requires.fit) c.note_label.ensures

pub returns-clause-leaves : goal.returns-clause-leaves
returns-clause-leaves c =
    let f : LabelFacts = c.index-facts.result.now in
    let are = facts_met c.args.config.now c.args.labels.now c.args.needs c.args.segment.now.terms c.args.doc c.meet.new.self.facts.items c.in_ok-at.at c.args.leaf f c.in_ok-at.ensures.met c.in_ok-at.ensures.has c.index-facts.ensures in
    on_ok_weaker c.note_label.result (λ noted. noted.last ∙ ap (λ (n : ℕ). c.args.self.now.leaves.items ++ n ∷ []) are.1) c.note_label.ensures

pub returns-clause-seen : goal.returns-clause-seen
returns-clause-seen c =
    let f : LabelFacts = c.index-facts.result.now in
    let are = facts_met c.args.config.now c.args.labels.now c.args.needs c.args.segment.now.terms c.args.doc c.meet.new.self.facts.items c.in_ok-at.at c.args.leaf f c.in_ok-at.ensures.met c.in_ok-at.ensures.has c.index-facts.ensures in
    let leaves : List ℕ = c.args.self.now.leaves.items in
    let may : c.may_follow.result ≡ true = search rules in
    let is : c.may_follow.result ≡ (c.index-facts.result.now.multi_valued || not (list_any (λ l. bytes_eq (dim_of l) (dim_of (label_of c.args.labels.now c.index-facts.result.now.ord))) (labels_of c.args.labels.now c.args.self.now.leaves.items))) =
    c.may_follow.ensures ∙ ap (λ (ls : List ℕ). f.multi_valued || not (list_any (λ l. bytes_eq (dim_of l) (dim_of (label_of c.args.labels.now f.ord))) (labels_of c.args.labels.now ls))) c.deref.ensures.value in
    on_ok_weaker c.note_label.result (λ noted start seen. seen_noted c.args.config.now c.args.labels.now c.args.needs c.args.segment.now.terms c.args.doc c.may_follow.result leaves c.args.self.now.counted.items start c.args.self.now.walk.next.items
    c.note_label.new.leaves.items c.note_label.new.counted.items c.note_label.new.walk.next.items f are.0 is may noted seen) c.note_label.ensures
