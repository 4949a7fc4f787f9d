-- A search, and what it finds in a pair.
use Rattle.std.specs.Prelude.{◌<◌, ℕ, All, List, length, map}
use Rattle.chronicle.specs.History.{entries}
use Rattle.facet_model.specs.AskViews.{ask_view}
use Rattle.facet_model.specs.Histories.{docs}
use Rattle.facet_model.specs.QueryViews.{query_view}
use Rattle.facet_model.specs.Stored.{Records}
use Rattle.facet_output.specs.Replies.{Refusal, top_zero, dim_value_not_kept, no_memory, Reply}
use Rattle.facet_output.specs.Replying.{IsFound, first_refused}
use Rattle.facet_words.specs.Commands.{Search}
use Rattle.pair_manager.specs.Published.{Published}
use Rattle.seg_documents.specs.Decoding.{records_in, record_at}
use Rattle.sideways.specs.declared.ask.AskRefused.{AskRefused}
use Rattle.sideways.specs.declared.ask.AskRefused.TheVariants as refusals
use Rattle.sideways.specs.declared.ask.SearchAsk.{SearchAsk}

abbrev pub search_view : SearchAsk → Search
search_view ask = record {
  query = query_view ask.query;
  drill = ask.drill;
  sideways = ask.sideways;
  asks = map ask_view ask.asks.items;
  newest = ask.newest;
  show = ask.show;
  from = ask.from;
  hits = ask.hits;
}

-- The segments have a record at the place, and its leaves are ordinals of labels after the root.
pub record IsShowable (view : List (List (List ℕ))) (segments : List Records) (at : ℕ) : Type 0 where
  pub there : at < length (records_in segments)
  pub leaves : All (λ ord. (0 < ord) × (ord < length view)) (record_at segments at).leaves

-- the reply is right over the documents of the pair
abbrev pub IsFoundIn : Published → Search → Reply → Type 0
IsFoundIn pair s reply = IsFound pair.config s (first_refused pair.config s.asks) (length pair.history.seen)
    (docs (entries pair.history.seen)) reply

abbrev pub refusal_as : AskRefused → Refusal
refusal_as (refusals.TopZero ask) = top_zero ask
refusal_as (refusals.DimValueNotKept ask) = dim_value_not_kept ask
refusal_as refusals.NoMemory = no_memory
