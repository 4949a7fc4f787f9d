-- A store that was opened, and how much there is at the end.
use Rattle.std.proofs.Common.{◌≡◌, ◌∙◌, ℕ, ◌+◌, ◌<◌, ◌≤◌, List, [], ◌∷◌, length, map, take, drop, Ok, refl, sym, ap, subst, arith}
use Rattle.std.specs.Arc.{arc_value}
use Rattle.std.proofs.lemmas.List.{length-map}
use Rattle.chronicle.proofs.Prefixes.{prefix_length}
use Rattle.facet_disk.specs.declared.disk.Disk.{Ghosts}
use Rattle.facet_engine.specs.Opening.{IsReady, opened_of}
use Rattle.facet_engine.specs.declared.ending.Trace.{Trace}
use Rattle.facet_engine.specs.declared.opening.Store.{Store}
use Rattle.facet_model.specs.Documents.{Doc}
use Rattle.facet_model.specs.Flags.{Config}
use Rattle.facet_model.specs.Histories.{Change, Operation, add}
use Rattle.facet_model.specs.Stored.{Decodes}
use Rattle.facet_output.proofs.Chain.{sees_last}
use Rattle.facet_output.specs.Output.{Opened}
use Rattle.facet_output.specs.Seen.{Seen, Sees, history_of, labels_of, opened_seen}
use Rattle.facet_output.specs.Sessions.{AllRan, own_steps, steps_of}
use Rattle.facet_output.specs.Steps.{Step}
use Rattle.facet_words.specs.Commands.{Settings, Order}
use Rattle.store_opening.specs.Files.{files}
use Rattle.facet_serving.specs.Sessions.{IsTraceOf}
use Rattle.facet_serving.specs.Stores.{Opens}

module _ {D : Type 0} (ghosts : Ghosts D) where
  pub opens : (config : Config) (store : Store D) (start : D) → start ≡ store.start.value → IsReady ghosts config store → Opens ghosts config start (opened_of store)
  opens config store start is ready = subst (λ (d : D). Opens ghosts config d (opened_of store)) (sym is) (record {
    list = ready.opened.list;
    decodes = (map arc_value store.segments.items, subst (λ (c : Config). Decodes (opened_of store).labels c (map arc_value store.segments.items) (opened_of store).docs) ready.of_config ready.opened.decodes);
    stored = λ t tells. (
      record { labels = (opened_of store).labels; segments = map arc_value store.segments.items },
      subst (λ (c : Config). files c t.files ≡ Ok (record { labels = (opened_of store).labels; segments = map arc_value store.segments.items })) ready.of_config (ready.opened.has t tells),
      refl,
      refl,
    );
  })

-- it begins with the root
pub rooted : {D : Type 0} (store : Store D) → take 1 (opened_of store).labels ≡ [] ∷ []
rooted store = refl

-- what there is at the end is no less than what was opened
pub record HasOpened (opened : Opened) (last : Seen) : Type 0 where
  pub docs : length opened.docs ≤ length (history_of last)
  pub labels : length opened.labels ≤ length (labels_of last)

pub has_opened : (settings : Settings) (phases : List (List Order)) (opened : Opened) (ran : List (List Step)) (last : Seen) → AllRan settings phases opened ran last → HasOpened opened last
has_opened settings phases opened ran last all =
    let sees : Sees (opened_seen opened) last = sees_last settings 0 [] (opened_seen opened) (own_steps 0 (steps_of ran)) last (all.sessions 0) in
    let added : Doc → ℕ × Change = λ d. (0, add d) in
    let path : List (List ℕ) → ℕ × List (List ℕ) = λ p. (0, p) in
    let label : ℕ × List (List ℕ) → List (List ℕ) = λ e. e.1 in
    let operation : ℕ × Change → Operation = λ e. record { session = e.0; change = e.1 } in
    let docs = prefix_length (opened_seen opened).operations last.operations sees.operations in
    let labels = prefix_length (opened_seen opened).labels last.labels sees.labels in
    let rest = root_and_more opened.labels all.rooted in
    record {
      docs = omega (arith, docs, length-map opened.docs added, length-map last.operations operation);
      labels = omega (arith, labels, length-map (drop 1 opened.labels) path, length-map last.labels label, rest);
    }
  where
    root_and_more : (labels : List (List (List ℕ))) → take 1 labels ≡ [] ∷ [] → length labels ≡ length (drop 1 labels) + 1
    root_and_more [] is = absurd (cc is)
    root_and_more (x ∷ xs) is = let e : length (x ∷ xs) ≡ length xs + 1 = omega arith in e

-- the last line may begin behind what was opened
pub record HasRoom (pair : ℕ × ℕ) (trace : Trace) : Type 0 where
  pub documents : pair.0 ≤ length trace.sessions.items
  pub some : 0 < pair.1
  pub labels : pair.1 ≤ length trace.labels

pub has_room : (opened : Opened) (last : Seen) (trace : Trace) (pair : ℕ × ℕ) → pair ≡ (length opened.docs, length opened.labels) → IsTraceOf trace last → take 1 opened.labels ≡ [] ∷ [] → HasOpened opened last → HasRoom pair trace
has_room opened last trace pair is traced root has =
    let session : Operation → ℕ = λ o. o.session in
    let documents : pair.0 ≡ length opened.docs = ap (λ (p : ℕ × ℕ). p.0) is in
    let labels : pair.1 ≡ length opened.labels = ap (λ (p : ℕ × ℕ). p.1) is in
    let many : length trace.sessions.items ≡ length (history_of last) = ap length traced.sessions ∙ length-map (history_of last) session in
    let paths : length trace.labels ≡ length (labels_of last) = ap length traced.labels in
    record {
      documents = omega (arith, documents, many, has.docs);
      some = omega (arith, labels, some_root opened.labels root);
      labels = omega (arith, labels, paths, has.labels);
    }
  where
    some_root : (labels : List (List (List ℕ))) → take 1 labels ≡ [] ∷ [] → 0 < length labels
    some_root [] is = absurd (cc is)
    some_root (x ∷ xs) is = let e : 0 < length (x ∷ xs) = omega arith in e
