use Rattle.std.proofs.Common.{◌≡◌, ◌∙◌, None, Err, length, map, refl, sym, ap, subst}
use Rattle.std.specs.Arc.{arc_value}
use Rattle.chronicle.specs.History.{entries}
use Rattle.facet_model.specs.AskViews.{ask_view}
use Rattle.facet_model.specs.Flags.{Config}
use Rattle.facet_model.specs.Histories.{docs}
use Rattle.facet_model.specs.Stored.{Decodes}
use Rattle.facet_output.specs.Replies.{found, refused}
use Rattle.facet_output.specs.Replying.{IsFound, first_refused}
use Rattle.seg_documents.specs.Decoding.{docs_in}
use Rattle.seg_documents.proofs.Decoded.{decoded}
use Rattle.sideways.specs.Refusals as refusals
use Rattle.sideways.specs.Searches.{Search}
use Rattle.pair_search.specs.Replies.{found_view}
use Rattle.pair_search.specs.Searches.{IsFoundIn, refusal_as, search_view}
use Rattle.pair_search.proofs.Searched.{searchable, found_in, first_refused_as, none_found, none_refused, refused_found}
use Rattle.pair_search.proofs.searching.search_in.Goals as goal

pub new-requires : goal.new-requires
new-requires c =
    searchable c.args.pair.now c.view.result.now c.args.config.now (map arc_value c.args.segments.now) c.view.ensures c.requires.config c.requires.segments c.requires.is.decoded c.requires.is.few

pub returns-in-Err : goal.returns-in-Err
returns-in-Err c = record {
  found = λ other.
      let pair = c.args.pair.now in
      let s = search_view c.args.ask.now in
      let config = c.args.config.now in
      subst (λ reply. IsFoundIn pair s reply) (sym c.fault_of.ensures.reply)
      (subst (λ (config : Config). IsFound config s (first_refused config s.asks) (length pair.history.seen) (docs (entries pair.history.seen)) (refused (refusal_as c.in-Err.refused))) c.requires.config
      (refused_found config (length pair.history.seen) (docs (entries pair.history.seen)) s (refusals.first_refused config s.asks) (first_refused config s.asks) c.in-Err.refused _ (first_refused_as config s.asks) refl
      c.in-Err.ensures.refused c.in-Err.ensures.memory (λ memory. other (ap Err (c.fault_of.ensures.memory memory)))));
}

pub found-requires-clause-docs : goal.found-requires-clause-docs
found-requires-clause-docs c =
    let segments = map arc_value c.args.segments.now in
    let ready = searchable c.args.pair.now c.view.result.now c.args.config.now segments c.view.ensures c.requires.config c.requires.segments c.requires.is.decoded c.requires.is.few in
    subst (λ (a : Search). Decodes a.labels a.config a.segments (docs_in a.labels a.segments)) (sym (c.run-answer.ensures ∙ c.in-Ok.ensures.plan))
    (subst (Decodes c.view.result.now c.args.config.now segments) (sym (decoded c.view.result.now c.args.config.now segments ready.0 ready.1)) ready.1)

pub returns-in-Ok-found : goal.returns-in-Ok-found
returns-in-Ok-found c = record {
  found = λ other.
      let asks = map ask_view c.args.ask.now.asks.items in
      let config = c.args.config.now in
      let none : first_refused config asks ≡ None = none_found (refusals.first_refused config asks) (first_refused config asks) (first_refused_as config asks) (none_refused (refusals.first_refused config asks) c.in-Ok.plan _ refl c.in-Ok.ensures.refused) in
      let here = subst (λ (a : Search). IsFound a.config (search_view a.ask) None c.operations.result (docs_in a.labels a.segments) (found (found_view c.in-Ok-found.found))) (c.run-answer.ensures ∙ c.in-Ok.ensures.plan) c.in-Ok-found.ensures in
      found_in c.args.pair.now c.view.result.now config (map arc_value c.args.segments.now) c.args.ask.now c.operations.result _ c.view.ensures c.requires.config c.requires.segments c.requires.is.decoded c.operations.ensures none here;
}
