use Rattle.std.proofs.Common.{◌≡◌, ◌∙◌, ◌≤◌, ◌<◌, ◌++◌, ◌∷◌, [], ℕ, List, length, ap, sym, subst}
use Rattle.std.specs.Prelude.{All}
use Rattle.std.proofs.lemmas.List.{length-map}
use mathlib.Core.List.{IsPrefix}
use Rattle.chronicle.specs.Frame.{Frame}
use Rattle.chronicle.specs.History.{entries, own_of}
use Rattle.chronicle.proofs.Prefixes.{prefix_self, prefix_trans}
use Rattle.facet_model.specs.Documents.{Doc}
use Rattle.facet_model.specs.Histories.{Operation, docs}
use Rattle.pair_manager.proofs.Publishing.{still_right}
use Rattle.taxo_cache.specs.Seen.{SeesLabels}
use Rattle.pair_manager.proofs.Appended.{all_one, room_left, is_full}
use Rattle.pair_manager.proofs.manager.Manager.append.Goals as goal

pub append-requires-clause-entry : goal.append-requires-clause-entry
append-requires-clause-entry g c = c.requires.entry c.take-index.result.config (ap (λ (f : Frame). f.texts) (c.take-index.ensures.value.1 ∙ c.take-index.ensures.turn.0.4))

pub returns-in-Ok-clause-placed : goal.returns-in-Ok-clause-placed
returns-in-Ok-clause-placed g c =
    let t = c.take-index in
    let seen = t.new.token.seen in
    let same = t.ensures.turn.0 in
    let count : length t.result.sessions ≡ length seen = ap length t.ensures.value.0.numbers ∙ length-map (entries seen) (λ (o : Operation). o.session) ∙ length-map seen (λ (x : ℕ × Operation). x.1) in
    let low : length (docs (entries seen)) < t.result.max_docs = subst (λ (ds : List Doc). length ds < t.result.max_docs) t.ensures.value.0.documents (room_left t.result.max_docs (length t.result.docs) c.in-Ok.at c.in-Ok.ensures.full) in
    record {
      enters = record {
        between = seen;
        on = t.ensures.more.0;
        none = (λ i. own_of (sym same.2 i) (sym same.0 i) seen) ∙ t.ensures.more.1;
        seen = c.give.ensures.seen.0 ∙ c.enter.ensures.added ∙ (λ i. seen ++ (same.0 i, c.add-operation.ensures i) ∷ []);
      };
      place = c.in-Ok.ensures.place ∙ count;
      room = subst (All (λ most. length (docs (entries seen)) < most)) (ap (λ (f : Frame). f.numbers) (t.ensures.value.1 ∙ same.4)) (all_one (λ most. length (docs (entries seen)) < most) t.result.max_docs low);
    }

pub returns-in-Err-clause-none : goal.returns-in-Err-clause-none
returns-in-Err-clause-none g c =
    let t = c.take-index in
    let back = c.give-in-Err.ensures.seen in
    (subst (λ (l : List (ℕ × Operation)). IsPrefix c.args.pass.now.operations.seen l) (sym back.0) t.ensures.more.0, back.1 ∙ t.ensures.more.1)

pub returns-in-Err-clause-full : goal.returns-in-Err-clause-full
returns-in-Err-clause-full g c count is =
    let t = c.take-index in
    let size : length t.result.docs ≡ length (docs (entries c.give-in-Err.new.token.seen)) = ap length t.ensures.value.0.documents ∙ ap (λ (l : List (ℕ × Operation)). length (docs (entries l))) (sym c.give-in-Err.ensures.seen.0) in
    let full = is_full t.result.max_docs (length t.result.docs) count c.in-Err.fault is c.in-Err.ensures.refused in
    record {
      size = full.0 ∙ size;
      full = subst (All (λ most. most ≤ count)) (ap (λ (f : Frame). f.numbers) (t.ensures.value.1 ∙ sym c.give-in-Err.ensures.idle.0.4)) (all_one (λ most. most ≤ count) t.result.max_docs full.1);
    }

pub invariant_of-pass-clause-right : goal.invariant_of-pass-clause-right
invariant_of-pass-clause-right g c =
    let pass = c.args.pass.now in
    let on : IsPrefix pass.labels.seen c.append.new.seen.seen = subst (λ (l : List (ℕ × List (List ℕ))). IsPrefix pass.labels.seen l) (ap (λ t. t.seen) (sym c.in-Ok.ensures.seen)) (prefix_self pass.labels.seen) in
    let more : IsPrefix pass.operations.seen c.give.new.token.seen = prefix_trans pass.operations.seen c.take-index.new.token.seen c.give.new.token.seen c.take-index.ensures.more.0 (subst (IsPrefix c.take-index.new.token.seen) (sym c.give.ensures.seen.0) c.enter.ensures.more) in
    still_right pass.labels.seen c.append.new.seen.seen pass.operations.seen c.give.new.token.seen on more (entries pass.pairs.seen) pass.right

pub invariant_of-pass-in-Err-clause-right : goal.invariant_of-pass-in-Err-clause-right
invariant_of-pass-in-Err-clause-right g c =
    let pass = c.args.pass.now in
    let on : IsPrefix pass.labels.seen c.append.new.seen.seen = subst (λ (l : List (ℕ × List (List ℕ))). IsPrefix pass.labels.seen l) (ap (λ t. t.seen) (sym c.in-Err.ensures.seen)) (prefix_self pass.labels.seen) in
    let more : IsPrefix pass.operations.seen c.give-in-Err.new.token.seen = subst (λ (l : List (ℕ × Operation)). IsPrefix pass.operations.seen l) (sym c.give-in-Err.ensures.seen.0) c.take-index.ensures.more.0 in
    still_right pass.labels.seen c.append.new.seen.seen pass.operations.seen c.give-in-Err.new.token.seen on more (entries pass.pairs.seen) pass.right

pub invariant_of-pass-clause-list : goal.invariant_of-pass-clause-list
invariant_of-pass-clause-list g c = subst SeesLabels (sym c.in-Ok.ensures.seen) c.args.pass.now.list

pub invariant_of-pass-in-Err-clause-list : goal.invariant_of-pass-in-Err-clause-list
invariant_of-pass-in-Err-clause-list g c = subst SeesLabels (sym c.in-Err.ensures.seen) c.args.pass.now.list
