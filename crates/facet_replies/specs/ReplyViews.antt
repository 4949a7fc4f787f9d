-- The plain data of replies.
use Rattle.std.specs.Prelude.{ℕ, List, map, option_map, string_bytes}
use Rattle.facet_model.specs.Accepts.{no_component, not_hierarchical, not_multi_valued}
use Rattle.facet_model.specs.ResultViews.{answer_view}
use Rattle.number_facets.specs.SumViews.{sum_view}
use Rattle.facet_replies.specs.Replies as plain
use Rattle.facet_replies.specs.declared.reply.Content.{Content}
use Rattle.facet_replies.specs.declared.reply.HitLine.{HitLine}
use Rattle.facet_replies.specs.declared.reply.RangeLine.{RangeLine}
use Rattle.facet_replies.specs.declared.reply.Refusal.{Refusal}
use Rattle.facet_replies.specs.declared.reply.Refusal.TheVariants as refusals
use Rattle.facet_replies.specs.declared.reply.Reply.{Reply}
use Rattle.facet_replies.specs.declared.reply.Reply.TheVariants as replies

abbrev pub content_view : Content → plain.Content
content_view c = record { text = string_bytes c.text; labels = c.labels.items }

abbrev pub hit_view : HitLine → plain.Hit
hit_view h = record { at = h.at; id = h.id; content = option_map content_view h.content }

-- a range's name and the number of documents in it
abbrev pub range_view : RangeLine → List ℕ × ℕ
range_view r = (string_bytes r.name, r.count)

abbrev pub refusal_view : Refusal → plain.Refusal
refusal_view (refusals.NoComponent facet) = plain.broken (no_component facet)
refusal_view (refusals.NotHierarchical facet len) = plain.broken (not_hierarchical facet len)
refusal_view (refusals.NotMultiValued facet) = plain.broken (not_multi_valued facet)
refusal_view (refusals.LabelsFull size) = plain.labels_full size
refusal_view (refusals.DocsFull count) = plain.docs_full count
refusal_view refusals.NotHeld = plain.not_held
refusal_view refusals.HeldAlready = plain.held_already
refusal_view (refusals.TopZero ask) = plain.top_zero ask
refusal_view (refusals.DimValueNotKept ask) = plain.dim_value_not_kept ask
refusal_view (refusals.NoSuchDocument count) = plain.no_such_document count
refusal_view (refusals.Disk count) = plain.disk_failed count
refusal_view (refusals.Closed count) = plain.closed count
refusal_view (refusals.NumbersSpent number) = plain.numbers_spent number
refusal_view refusals.NoMemory = plain.no_memory

abbrev pub reply_view : Reply → plain.Reply
reply_view (replies.Placed at) = plain.placed at
reply_view (replies.Number n) = plain.numbered n
reply_view (replies.Found n hit_count hits results) = plain.found
    (record {
      operations = n;
      hit_count = hit_count;
      hits = map hit_view hits.items;
      answers = map answer_view results.items;
    })
reply_view (replies.Shown n at doc ordinals) =
    plain.shown (record { operations = n; at = at; doc = doc; ordinals = ordinals.items })
reply_view (replies.Stats n labels documents) =
    plain.stats (record { operations = n; labels = labels; documents = documents })
reply_view (replies.Ranged n counts valued) =
    plain.ranged (record { operations = n; counts = map range_view counts.items; valued = valued })
reply_view (replies.Summed n sums) =
    plain.summed (record { operations = n; sums = map sum_view sums.items })
reply_view replies.Merged = plain.merged
reply_view (replies.Refused r) = plain.refused (refusal_view r)
