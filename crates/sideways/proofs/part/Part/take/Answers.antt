use Rattle.std.proofs.Common.{ap, sym, subst, ◌≡◌, ◌∙◌, ◌<◌, ℕ, List, Option, length}
use Rattle.std.specs.Prelude.{IfSome}
use Rattle.facet_model.specs.Stored.{Records}
use Rattle.seg_postings.specs.Rising.{IsNext}
use Rattle.seg_drill.specs.Counting.{AreWithin, IsSetWithin}
use Rattle.sideways.specs.Parts.{IsLeft, left_of}
use Rattle.sideways.specs.declared.part.Part.TheInside.{Inside}
use Rattle.sideways.proofs.Taken.{next_record, next_set, next_within}
use Rattle.sideways.proofs.part.Part.take.Goals as goal
use Rattle.sideways.proofs.part.Part.take.Goals.{in-At, in-Marked, in-Nothing}

pub invariant_of-self : goal.invariant_of-self
invariant_of-self c =
    let segment : Records = c.self.inside.segment.now in
    elim c.match-self.branch [
      | in-At w ↦
          let within : AreWithin segment w.in-At.places = subst (IsLeft segment) w.in-At.is c.self.invariant in
          subst (λ (x : Inside). IsLeft x.segment.now x.left) (sym w.self-inside-is) (next_within segment w.next.result w.in-At.places w.next.new.self within w.next.ensures.next)
      | in-Marked w ↦
          let within : IsSetWithin segment w.in-Marked.places = subst (IsLeft segment) w.in-Marked.is c.self.invariant in
          subst (λ (x : Inside). IsLeft x.segment.now x.left) (sym w.self-inside-is) (next_set segment w.next-in-Marked.result w.in-Marked.places w.next-in-Marked.new.self within w.next-in-Marked.ensures.next w.next-in-Marked.ensures.words)
      | in-Nothing w ↦ subst (λ (x : Inside). IsLeft x.segment.now x.left) (sym w.self-inside-is) c.self.invariant
    ]

pub returns-clause-next : goal.returns-clause-next
returns-clause-next c =
    let left : c.args.self.now.left ≡ left_of c.self.inside.left = ap (λ p. p.left) (sym c.self.view_is) in
    elim c.match-self.branch [
      | in-At w ↦
          subst (λ (x : Inside). IsNext c.match-self.result c.args.self.now.left (left_of x.left)) (sym w.self-inside-is)
          (subst (λ (r : Option ℕ). IsNext r c.args.self.now.left w.next.new.self) (sym w.result-is) (subst (λ (old : List ℕ). IsNext w.next.result old w.next.new.self) (sym (left ∙ ap left_of w.in-At.is)) w.next.ensures.next))
      | in-Marked w ↦
          subst (λ (x : Inside). IsNext c.match-self.result c.args.self.now.left (left_of x.left)) (sym w.self-inside-is)
          (subst (λ (r : Option ℕ). IsNext r c.args.self.now.left w.next-in-Marked.new.self.places) (sym w.result-is)
          (subst (λ (old : List ℕ). IsNext w.next-in-Marked.result old w.next-in-Marked.new.self.places) (sym (left ∙ ap left_of w.in-Marked.is)) w.next-in-Marked.ensures.next))
      | in-Nothing w ↦
          subst (λ (x : Inside). IsNext c.match-self.result c.args.self.now.left (left_of x.left)) (sym w.self-inside-is)
          (subst (λ (r : Option ℕ). IsNext r c.args.self.now.left (left_of c.self.inside.left)) (sym w.result-is) (left ∙ ap left_of w.in-Nothing.is, ap left_of w.in-Nothing.is))
    ]

pub returns-clause-within : goal.returns-clause-within
returns-clause-within c =
    let segment : Records = c.self.inside.segment.now in
    let same : segment ≡ c.args.self.now.segment = ap (λ p. p.segment) c.self.view_is in
    subst (λ (s : Records). IfSome c.match-self.result (λ place. place < length s.records)) same (elim c.match-self.branch [
      | in-At w ↦
          let within : AreWithin segment w.in-At.places = subst (IsLeft segment) w.in-At.is c.self.invariant in
          subst (λ (r : Option ℕ). IfSome r (λ place. place < length segment.records)) (sym w.result-is) (next_record segment w.next.result w.in-At.places w.next.new.self within w.next.ensures.next)
      | in-Marked w ↦
          let within : IsSetWithin segment w.in-Marked.places = subst (IsLeft segment) w.in-Marked.is c.self.invariant in
          subst (λ (r : Option ℕ). IfSome r (λ place. place < length segment.records)) (sym w.result-is) (next_record segment w.next-in-Marked.result w.in-Marked.places.places w.next-in-Marked.new.self.places within.within w.next-in-Marked.ensures.next)
      | in-Nothing w ↦ subst (λ (r : Option ℕ). IfSome r (λ place. place < length segment.records)) (sym w.result-is) tt
    ])
