use Rattle.std.proofs.Common.{◌∙◌, Option, None, List, ℕ, option_map, refl, sym, ap, subst}
use Rattle.pair_manager.specs.declared.pass.Pass.{Pass}
use Rattle.facet_model.specs.QueryViews.{query_view}
use Rattle.facet_replies.specs.ReplyViews.{reply_view}
use Rattle.facet_words.specs.Commands.{Search, Command, add, refresh, hold, release, search, ranges, sums, Counted, document, stats, commit, merge}
use Rattle.facet_words.specs.CommandViews.{counted_view, search_view as line_view, command_view}
use Rattle.facet_words.specs.declared.parts.CountedLine.{CountedLine}
use Rattle.facet_words.specs.declared.parts.SearchLine.{SearchLine}
use Rattle.facet_engine.specs.Calls.{IsCall, IsCarriedOut}
use Rattle.facet_names.specs.Texts.{text_in}
use Rattle.pair_search.specs.Searches.{search_view}
use Rattle.facet_engine.specs.Replies.{add_reply, refresh_reply, hold_reply, release_reply, stats_reply, commit_reply, merge_reply}
use Rattle.pair_search.specs.Replies.{search_reply, ranges_reply, sums_reply, document_reply}
use Rattle.facet_engine.specs.Steps.{step_of, operations_seen, last_place, refresh_place, hold_took, pair_taken}
use Rattle.facet_engine.proofs.Carried.{carried, holds_still}
use Rattle.facet_engine.proofs.Spent.{spends_none, add_tells, refresh_tells, hold_tells, release_tells, search_tells, ranges_tells, sums_tells, document_tells, stats_tells, merge_tells}
use Rattle.facet_engine.proofs.executing.execute.Goals as goal

pub returns-in-Add : goal.returns-in-Add
returns-in-Add g c =
    let engine = c.args.system.now in
    let old = c.args.session.now in
    let new = c.add.new.session in
    let e = c.add.ensures in
    let command = add c.in-Add.doc in
    let reply = add_reply c.add.result in
    subst (λ (command : Command). IsCarriedOut engine old new command (reply_view c.added.result)) (sym (ap command_view c.in-Add.is))
    (carried engine old new command None None (operations_seen new.pass c.add.result) reply (reply_view c.added.result) c.added.ensures e.same (holds_still engine old new command None None (operations_seen new.pass c.add.result) reply refl e.held) e.step (spends_none old.pass new.pass reply (add_tells c.add.result)))

pub returns-in-Refresh : goal.returns-in-Refresh
returns-in-Refresh g c =
    let engine = c.args.system.now in
    let old = c.args.session.now in
    let new = c.refresh.new.session in
    let e = c.refresh.ensures in
    let place = refresh_place (last_place new.pass) c.refresh.result in
    let reply = refresh_reply c.refresh.result in
    subst (λ (command : Command). IsCarriedOut engine old new command (reply_view c.refreshed.result)) (sym (ap command_view c.in-Refresh.is))
    (carried engine old new refresh None place None reply (reply_view c.refreshed.result) c.refreshed.ensures e.same (holds_still engine old new refresh None place None reply refl e.held) e.step (spends_none old.pass new.pass reply (refresh_tells c.refresh.result)))

pub returns-in-Hold : goal.returns-in-Hold
returns-in-Hold g c =
    let engine = c.args.system.now in
    let old = c.args.session.now in
    let new = c.hold.new.session in
    let e = c.hold.ensures in
    let took = hold_took c.hold.result new.pass in
    subst (λ (command : Command). IsCarriedOut engine old new command (reply_view c.held.result)) (ap hold c.text.ensures ∙ sym (ap command_view c.in-Hold.is))
    (carried engine old new (hold c.text.result.now) took (option_map (λ pair. last_place new.pass) took) None (hold_reply c.hold.result) (reply_view c.held.result) c.held.ensures e.same e.holds e.step (spends_none old.pass new.pass (hold_reply c.hold.result) (hold_tells c.hold.result)))

pub returns-in-Release : goal.returns-in-Release
returns-in-Release g c =
    let engine = c.args.system.now in
    let old = c.args.session.now in
    let new = c.release.new.session in
    let e = c.release.ensures in
    let command = release c.text-in-Release.result.now in
    let reply = release_reply c.release.result in
    subst (λ (command : Command). IsCarriedOut engine old new command (reply_view c.released.result)) (ap release c.text-in-Release.ensures ∙ sym (ap command_view c.in-Release.is))
    (carried engine old new command None None None reply (reply_view c.released.result) c.released.ensures e.same e.holds
    (subst (λ (pass : Pass). IsCall engine old (step_of command None None None reply old.pass pass)) (sym e.pass) e.step) (spends_none old.pass new.pass reply (release_tells c.release.result)))

pub returns-in-Search : goal.returns-in-Search
returns-in-Search g c =
    let engine = c.args.system.now in
    let old = c.args.session.now in
    let new = c.search.new.session in
    let e = c.search.ensures in
    let on = text_in c.text_of.result in
    let s : Search = search_view c.ask_of-ask.result in
    let reply = search_reply c.search.result in
    let took = pair_taken on reply new.pass in
    let place = option_map (λ pair. last_place new.pass) took in
    subst (λ (command : Command). IsCarriedOut engine old new command (reply_view c.found.result)) (ap (λ (name : Option (List ℕ)). search name s) c.text_of.ensures ∙ ap (search c.in-Search.on) c.ask_of-ask.ensures
    ∙ ap (λ (line : SearchLine). search c.in-Search.on (line_view line)) c.into_inner.ensures ∙ sym (ap command_view c.in-Search.is))
    (carried engine old new (search on s) took place None reply (reply_view c.found.result) c.found.ensures e.same (holds_still engine old new (search on s) took place None reply refl e.held) e.step (spends_none old.pass new.pass reply (search_tells c.search.result)))

pub returns-in-Ranges : goal.returns-in-Ranges
returns-in-Ranges g c =
    let engine = c.args.system.now in
    let old = c.args.session.now in
    let new = c.ranges-in-Ranges.new.session in
    let e = c.ranges-in-Ranges.ensures in
    let on = text_in c.text_of-in-Ranges.result in
    let line = c.into_inner-line.result in
    let counted : Counted = record { query = query_view line.query; drill = line.drill; dim = c.text-in-Ranges.result.now } in
    let reply = ranges_reply c.ranges-in-Ranges.result in
    let took = pair_taken on reply new.pass in
    let place = option_map (λ pair. last_place new.pass) took in
    subst (λ (command : Command). IsCarriedOut engine old new command (reply_view c.ranged.result)) (ap (λ (name : Option (List ℕ)). ranges name counted c.deref.result.now) c.text_of-in-Ranges.ensures
    ∙ (λ i. ranges c.in-Ranges.on (record { query = query_view line.query; drill = line.drill; dim = c.text-in-Ranges.ensures i }) (c.deref.ensures.value i))
    ∙ ap (λ (line : CountedLine). ranges c.in-Ranges.on (counted_view line) c.in-Ranges.ranges.items) c.into_inner-line.ensures ∙ sym (ap command_view c.in-Ranges.is))
    (carried engine old new (ranges on counted c.deref.result.now) took place None reply (reply_view c.ranged.result) c.ranged.ensures e.same (holds_still engine old new (ranges on counted c.deref.result.now) took place None reply refl e.held) e.step (spends_none old.pass new.pass reply (ranges_tells c.ranges-in-Ranges.result)))

pub returns-in-Sums : goal.returns-in-Sums
returns-in-Sums g c =
    let engine = c.args.system.now in
    let old = c.args.session.now in
    let new = c.sums.new.session in
    let e = c.sums.ensures in
    let on = text_in c.text_of-in-Sums.result in
    let line = c.into_inner-line-in-Sums.result in
    let counted : Counted = record { query = query_view line.query; drill = line.drill; dim = c.text-in-Sums.result.now } in
    let reply = sums_reply c.sums.result in
    let took = pair_taken on reply new.pass in
    let place = option_map (λ pair. last_place new.pass) took in
    subst (λ (command : Command). IsCarriedOut engine old new command (reply_view c.summed.result)) (ap (λ (name : Option (List ℕ)). sums name counted c.in-Sums.n) c.text_of-in-Sums.ensures
    ∙ (λ i. sums c.in-Sums.on (record { query = query_view line.query; drill = line.drill; dim = c.text-in-Sums.ensures i }) c.in-Sums.n)
    ∙ ap (λ (line : CountedLine). sums c.in-Sums.on (counted_view line) c.in-Sums.n) c.into_inner-line-in-Sums.ensures ∙ sym (ap command_view c.in-Sums.is))
    (carried engine old new (sums on counted c.in-Sums.n) took place None reply (reply_view c.summed.result) c.summed.ensures e.same (holds_still engine old new (sums on counted c.in-Sums.n) took place None reply refl e.held) e.step (spends_none old.pass new.pass reply (sums_tells c.sums.result)))

pub returns-in-Document : goal.returns-in-Document
returns-in-Document g c =
    let engine = c.args.system.now in
    let old = c.args.session.now in
    let new = c.document.new.session in
    let e = c.document.ensures in
    let on = text_in c.text_of-in-Document.result in
    let at = c.in-Document.at in
    let reply = document_reply at c.document.result in
    let took = pair_taken on reply new.pass in
    let place = option_map (λ pair. last_place new.pass) took in
    subst (λ (command : Command). IsCarriedOut engine old new command (reply_view c.shown.result)) (ap (λ (name : Option (List ℕ)). document name at) c.text_of-in-Document.ensures ∙ sym (ap command_view c.in-Document.is))
    (carried engine old new (document on at) took place None reply (reply_view c.shown.result) c.shown.ensures e.same (holds_still engine old new (document on at) took place None reply refl e.held) e.step (spends_none old.pass new.pass reply (document_tells at c.document.result)))

pub returns-in-Stats : goal.returns-in-Stats
returns-in-Stats g c =
    let engine = c.args.system.now in
    let old = c.args.session.now in
    let new = c.stats.new.session in
    let e = c.stats.ensures in
    let on = text_in c.text_of-in-Stats.result in
    let reply = stats_reply c.stats.result in
    let took = pair_taken on reply new.pass in
    let place = option_map (λ pair. last_place new.pass) took in
    subst (λ (command : Command). IsCarriedOut engine old new command (reply_view c.counted.result)) (ap (λ (name : Option (List ℕ)). stats name) c.text_of-in-Stats.ensures ∙ sym (ap command_view c.in-Stats.is))
    (carried engine old new (stats on) took place None reply (reply_view c.counted.result) c.counted.ensures e.same (holds_still engine old new (stats on) took place None reply refl e.held) e.step (spends_none old.pass new.pass reply (stats_tells c.stats.result)))

pub returns-in-Commit : goal.returns-in-Commit
returns-in-Commit g c =
    let engine = c.args.system.now in
    let old = c.args.session.now in
    let new = c.commit.new.session in
    let e = c.commit.ensures in
    let reply = commit_reply c.commit.result in
    subst (λ (command : Command). IsCarriedOut engine old new command (reply_view c.committed.result)) (sym (ap command_view c.in-Commit.is))
    (carried engine old new commit None None None reply (reply_view c.committed.result) c.committed.ensures e.same (holds_still engine old new commit None None None reply refl e.held) e.step e.spent)

pub returns-in-Merge : goal.returns-in-Merge
returns-in-Merge g c =
    let engine = c.args.system.now in
    let old = c.args.session.now in
    let new = c.merge.new.session in
    let e = c.merge.ensures in
    let reply = merge_reply c.merge.result in
    subst (λ (command : Command). IsCarriedOut engine old new command (reply_view c.merged.result)) (sym (ap command_view c.in-Merge.is))
    (carried engine old new merge None None None reply (reply_view c.merged.result) c.merged.ensures e.same (holds_still engine old new merge None None None reply refl e.held) e.step (spends_none old.pass new.pass reply (merge_tells c.merge.result)))
