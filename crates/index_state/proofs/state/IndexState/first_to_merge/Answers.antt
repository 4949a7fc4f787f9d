use Rattle.std.proofs.Common.{◌≤◌, ◌∙◌, ℕ, List, length, map, ap, sym, subst, arith}
use Rattle.std.specs.Prelude.{sum}
use Rattle.std.specs.Arc.{arc_value}
use Rattle.std.proofs.lemmas.List.{length-map}
use Rattle.facet_model.specs.Stored.{Records, live_before}
use Rattle.merge_policy.specs.Tiers.{first_small}
use Rattle.index_state.specs.Index.{Index}
use Rattle.index_state.specs.Merging.{live_sizes}
use Rattle.index_state.proofs.Placing.{few_records, all_sizes}
use Rattle.index_state.proofs.state.IndexState.first_to_merge.Goals as goal

pub merge_from-requires : goal.merge_from-requires
merge_from-requires c =
    let s = c.self.inside in
    let all = map arc_value s.segments.items in
    record {
      few = subst (λ (ns : List ℕ). sum ns ≤ 1000000) (sym (c.deref-2.ensures.value ∙ c.in_ok-sizes.ensures ∙ ap (λ arcs. live_sizes (map arc_value arcs)) c.deref.ensures.value))
          (omega (arith, all_sizes all, few_records (arc_value s.config) s.labels all s.waiting.items s.sessions.items s.max_docs c.self.invariant));
    }

pub returns-clause-first : goal.returns-clause-first
returns-clause-first c =
    let sizes = c.deref-2.ensures.value ∙ c.in_ok-sizes.ensures ∙ ap (λ arcs. live_sizes (map arc_value arcs)) c.deref.ensures.value in
    c.merge_from.ensures.first ∙ ap first_small (sizes ∙ ap (λ (x : Index). live_sizes x.segments) c.self.view_is)

pub returns-clause-within : goal.returns-clause-within
returns-clause-within c =
    let sizes = c.deref-2.ensures.value ∙ c.in_ok-sizes.ensures ∙ ap (λ arcs. live_sizes (map arc_value arcs)) c.deref.ensures.value in
    omega (arith, c.merge_from.ensures.within, ap length sizes, length-map (map arc_value c.self.inside.segments.items) (λ (s : Records). live_before s.dead (length s.records)), ap (λ (x : Index). length x.segments) c.self.view_is)
