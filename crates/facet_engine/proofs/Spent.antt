-- Only a commit tells that the file numbers are spent.
use Rattle.std.proofs.Common.{◌≡◌, ℕ, ◌+◌, ◌*◌, ◌<◌, length, refl, sym, subst, arith, Result, Ok, Err}
use Rattle.std.specs.Prelude.{IfErr}
use Rattle.std.proofs.lemmas.List.{length-map}
use Rattle.chronicle.specs.Shown.{Shown as Token}
use Rattle.commit_plan.specs.declared.fault.CommitFault.{CommitFault}
use Rattle.commit_plan.specs.declared.fault.CommitFault.TheVariants as commits
use Rattle.commit_turns.specs.Frames.{HasNumbers}
use Rattle.pair_manager.specs.declared.manager.Stats.{Stats}
use Rattle.pair_manager.specs.declared.pass.Pass.{Pass}
use Rattle.pair_manager.specs.declared.point.CommitPoint.{CommitPoint as Point}
use Rattle.facet_output.specs.Replies.{Reply, refused, numbers_spent}
use Rattle.facet_output.specs.Seen.{CommitPoint}
use Rattle.facet_engine.specs.Calls.{SpendsWithin}
use Rattle.facet_engine.specs.Replies.{add_reply, refresh_reply, hold_reply, release_reply, stats_reply, commit_reply, merge_reply}
use Rattle.pair_search.specs.Replies.{search_reply, ranges_reply, sums_reply, document_reply}
use Rattle.pair_search.specs.declared.ranging.RangesAnswer.{RangesAnswer}
use Rattle.pair_search.specs.declared.ranging.RangesFault.{RangesFault}
use Rattle.pair_search.specs.declared.ranging.RangesFault.TheVariants as ranging
use Rattle.facet_engine.specs.Steps.{seen_of, point_of}
use Rattle.facet_adding.specs.declared.adding.AddFault.{AddFault}
use Rattle.facet_adding.specs.declared.adding.AddFault.TheVariants as adds
use Rattle.facet_engine.specs.declared.holding.HoldFault.{HoldFault}
use Rattle.facet_engine.specs.declared.holding.HoldFault.TheVariants as holds
use Rattle.pair_search.specs.declared.searching.SearchAnswer.{SearchAnswer}
use Rattle.pair_search.specs.declared.searching.SearchFault.{SearchFault}
use Rattle.pair_search.specs.declared.searching.SearchFault.TheVariants as searches
use Rattle.pair_search.specs.declared.showing.DocumentFault.{DocumentFault}
use Rattle.pair_search.specs.declared.showing.DocumentFault.TheVariants as documents
use Rattle.pair_search.specs.declared.showing.Shown.{Shown}
use Rattle.pair_search.specs.declared.summing.SumsAnswer.{SumsAnswer}
use Rattle.pair_search.specs.declared.summing.SumsFault.{SumsFault}
use Rattle.pair_search.specs.declared.summing.SumsFault.TheVariants as summing

-- a reply that tells of no file numbers
abbrev pub TellsOfNone : Reply → Type 0
TellsOfNone reply = (number : ℕ) → reply ≡ refused (numbers_spent number) → ⊥

pub spends_none : (old new : Pass) (reply : Reply) → TellsOfNone reply → SpendsWithin old new reply
spends_none old new reply none next moment faults failures numbers number is = absurd (none number is)

pub add_tells : (result : Result ℕ AddFault) → TellsOfNone (add_reply result)
add_tells (Ok at) number is = cc
add_tells (Err (adds.Broken fault)) number is = cc
add_tells (Err (adds.LabelsFull size)) number is = cc
add_tells (Err (adds.DocsFull count)) number is = cc
add_tells (Err adds.NoMemory) number is = cc

pub refresh_tells : {E : Type 0} (result : Result ℕ E) → TellsOfNone (refresh_reply result)
refresh_tells (Ok n) number is = cc
refresh_tells (Err fault) number is = cc

pub hold_tells : (result : Result ℕ HoldFault) → TellsOfNone (hold_reply result)
hold_tells (Ok n) number is = cc
hold_tells (Err holds.HeldAlready) number is = cc
hold_tells (Err holds.NoMemory) number is = cc

pub release_tells : {E : Type 0} (result : Result ℕ E) → TellsOfNone (release_reply result)
release_tells (Ok n) number is = cc
release_tells (Err fault) number is = cc

pub search_tells : (result : Result SearchAnswer SearchFault) → TellsOfNone (search_reply result)
search_tells (Ok a) number is = cc
search_tells (Err searches.NotHeld) number is = cc
search_tells (Err (searches.TopZero ask)) number is = cc
search_tells (Err (searches.DimValueNotKept ask)) number is = cc
search_tells (Err searches.NoMemory) number is = cc

pub ranges_tells : (result : Result RangesAnswer RangesFault) → TellsOfNone (ranges_reply result)
ranges_tells (Ok a) number is = cc
ranges_tells (Err ranging.NotHeld) number is = cc
ranges_tells (Err ranging.NoMemory) number is = cc

pub sums_tells : (result : Result SumsAnswer SumsFault) → TellsOfNone (sums_reply result)
sums_tells (Ok a) number is = cc
sums_tells (Err summing.NotHeld) number is = cc
sums_tells (Err summing.TopZero) number is = cc
sums_tells (Err summing.NoMemory) number is = cc

pub document_tells : (at : ℕ) (result : Result Shown DocumentFault) → TellsOfNone (document_reply at result)
document_tells at (Ok s) number is = cc
document_tells at (Err documents.NotHeld) number is = cc
document_tells at (Err (documents.NoSuchDocument count)) number is = cc
document_tells at (Err documents.NoMemory) number is = cc

pub stats_tells : {E : Type 0} (result : Result Stats E) → TellsOfNone (stats_reply result)
stats_tells (Ok s) number is = cc
stats_tells (Err fault) number is = cc

pub merge_tells : {E : Type 0} (result : Result (Unit {0}) E) → TellsOfNone (merge_reply result)
merge_tells (Ok done) number is = cc
merge_tells (Err fault) number is = cc

-- what a commit says of them is said of its reply
pub commit_spends : (old new : Pass) (result : Result ℕ CommitFault)
    → IfErr result (λ e. (number : ℕ) → e ≡ commits.NumbersSpent number → (first moment faults failures : ℕ) → HasNumbers first moment faults failures old.commits.frame → number < first + 1000003 * length new.commits.seen)
    → SpendsWithin old new (commit_reply result)
commit_spends old new (Ok k) said next moment faults failures numbers number is = absurd cc
commit_spends old new (Err (commits.Disk count)) said next moment faults failures numbers number is = absurd cc
commit_spends old new (Err (commits.Closed count)) said next moment faults failures numbers number is = absurd cc
commit_spends old new (Err commits.NoMemory) said next moment faults failures numbers number is = absurd cc
commit_spends old new (Err (commits.NumbersSpent spent)) said next moment faults failures numbers number is =
    let same : spent ≡ number = cc in
    let point : ℕ × Point → ℕ × CommitPoint = λ e. (e.0, point_of e.1) in
    let many : length (seen_of new).commits ≡ length new.commits.seen = length-map new.commits.seen point in
    omega (arith, same, said spent refl next moment faults failures numbers, many)

-- where the token of the commits did not change before
pub spends_since : (old mid new : Pass) (reply : Reply) → mid.commits ≡ old.commits → SpendsWithin mid new reply → SpendsWithin old new reply
spends_since old mid new reply is spends next moment faults failures numbers =
    spends next moment faults failures (subst (λ (t : Token Point). HasNumbers next moment faults failures t.frame) (sym is) numbers)
