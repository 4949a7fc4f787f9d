use Rattle.std.proofs.Common.{◌≡◌, ◌∙◌, ℕ, List, true, false, take, get_or, ap, sym, subst, arith}
use Rattle.std.specs.Prelude.{nat_lt}
use Rattle.std.specs.Arc.{arc_value}
use Rattle.std.specs.List.{AllByRecursion}
use Rattle.std.proofs.lemmas.List.{get_or-map, length-map, take_all}
use Rattle.facet_model.specs.Documents.{Doc, count}
use Rattle.facet_model.specs.Stored.{Records, alive}
use Rattle.query_eval.specs.Segments.{HasTermsOf}
use Rattle.sideways.specs.Questions.{HasDocs}
use Rattle.sideways.specs.Searches.{Search, question, question_of, records_of}
use Rattle.sideways.proofs.Answered.{HasNone, none_has, one_has}
use Rattle.sideways.proofs.Gathered.{all_more}
use Rattle.sideways.proofs.answer.SidewaysAnswer.exists.Goals as goal

pub returns-then-branch : goal.returns-then-branch
returns-then-branch c =
    let q = question_of c.self.inside.view.now c.self.inside.config.now c.self.inside.segments.now c.self.inside.ask.now in
    let segments = c.self.inside.segments.now in
    let i : ℕ = c.loop-segment.segment-index in
    let item : Records = arc_value c.segment-item.result in
    let at : get_or (records_of segments) i item ≡ item = get_or-map arc_value segments i c.segment-item.result item (omega arith) ∙ ap arc_value (sym c.segment-item.is) in
    subst (λ (s : Search). (docs : List Doc) → HasDocs (question s) docs → true ≡ nat_lt 0 (count docs c.args.path.now)) c.self.view_is
    (one_has q c.args.path.now i item (omega (arith, length-map segments arc_value))
    (subst (λ (s : Records). (docs : List Doc) → HasTermsOf s docs → true ≡ nat_lt 0 (count (alive s.dead docs) c.args.path.now)) (sym (at ∙ sym c.deref.ensures)) (λ docs are. sym c.if-branch.true ∙ c.in_ok-has_path.ensures docs c.args.path.now are c.path_term.ensures.some (c.as_str.ensures.value ∙ c.in_ok-term.ensures.term))))

pub loop-segment-preserved : goal.loop-segment-preserved
loop-segment-preserved c =
    all_more (HasNone c.args.path.now) arc_value c.self.inside.segments.now c.loop-segment.segment-index c.segment-item.result (omega arith) c.segment-item.is c.loop-segment.invariant
    (subst (HasNone c.args.path.now) c.deref.ensures (λ docs are. sym c.if-branch.false ∙ c.in_ok-has_path.ensures docs c.args.path.now are c.path_term.ensures.some (c.as_str.ensures.value ∙ c.in_ok-term.ensures.term)))

pub returns : goal.returns
returns c =
    let q = question_of c.self.inside.view.now c.self.inside.config.now c.self.inside.segments.now c.self.inside.ask.now in
    let whole : take c.loop-segment.segment-index c.self.inside.segments.now ≡ c.self.inside.segments.now = take_all c.loop-segment.segment-index c.self.inside.segments.now (omega arith) in
    subst (λ (s : Search). (docs : List Doc) → HasDocs (question s) docs → false ≡ nat_lt 0 (count docs c.args.path.now)) c.self.view_is
    (none_has q c.args.path.now (subst (λ xs. AllByRecursion (HasNone c.args.path.now) (records_of xs)) whole c.loop-segment.invariant))
