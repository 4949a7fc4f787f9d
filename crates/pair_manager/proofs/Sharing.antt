-- Segments that are shared in one turn and replaced in a later one.
use Rattle.std.proofs.Common.{◌≡◌, true, ℕ, Result, Ok, Err, IfOk, OnOk, List, [], ◌∷◌, ◌++◌, sym, ap, subst, ◌∙◌}
use Rattle.std.specs.List.{list_all}
use mathlib.Core.List.{IsPrefix}
use Rattle.atomic_table.specs.Seated.{TableId}
use Rattle.facet_names.proofs.LabelLists.{Labels}
use Rattle.facet_model.specs.Documents.{Doc}
use Rattle.facet_model.specs.Flags.{Config}
use Rattle.facet_model.specs.Histories.{Operation, docs, is_add}
use Rattle.facet_model.specs.Stored.{Records, Decodes}
use Rattle.facet_model.proofs.ConfigTexts.{config_told}
use Rattle.seg_documents.proofs.Decoded.{decoded}
use Rattle.chronicle.specs.Frame.{Frame}
use Rattle.chronicle.specs.History.{entries}
use Rattle.chronicle.specs.Shown.{Shown, SameToken, SeesOn, IsNoteOf}
use Rattle.chronicle.proofs.Entries.{entries-prefix}
use Rattle.chronicle.proofs.Prefixes.{prefix_trans}
use Rattle.taxo_cache.specs.Seen.{labels_of, SeesLabels}
use Rattle.index_state.specs.Index.{Index, StandsFor, DecodeUnder, docs_under, IsFlushed}
use Rattle.index_state.specs.Frames.{frame_of, index_frame}
use Rattle.index_state.specs.Merging.{ComeAfter, IsRangeOf}
use Rattle.index_state.proofs.Standing.{same_stands, docs_on}
use Rattle.pair_manager.specs.Merging.{AreShared, AreFrom, IsReplaced, IsReplacedIn, first_in}
use Rattle.pair_manager.specs.declared.merging.MergeScope.{MergeScope}

-- ---- answers

pub on_ok : {T E P : Type 0} (r : Result T E) → P → OnOk r P
on_ok (Ok _) p = p
on_ok (Err _) p = tt

pub if_both : {T E : Type 0} (r : Result T E) (P Q R : T → Type 0) → ((x : T) → P x → Q x → R x) → IfOk r P → IfOk r Q → IfOk r R
if_both (Ok x) P Q R more p q = more x p q
if_both (Err _) P Q R more p q = tt

-- ---- an index

pub flushed_stands : (old new : Index) → IsFlushed old new → (history : List Operation) → StandsFor old history → StandsFor new history
flushed_stands old new flushed = same_stands old new (ap (λ (x : Index). x.docs) flushed.rest) (ap (λ (x : Index). x.sessions) flushed.rest) (ap (λ (x : Index). x.labels) flushed.rest)

pub flushed_frame : (old new : Index) → IsFlushed old new → frame_of new ≡ frame_of old
flushed_frame old new flushed = ap (λ (x : Index). frame_of x) flushed.rest

-- its frame stays where its labels are those of the same chronicle
pub installed_frame : (old new : Index) → new ≡ record old { segments = new.segments; labels = new.labels } → SameToken old.labels new.labels → frame_of new ≡ frame_of old
installed_frame old new rest same = ap (λ (x : Index). frame_of x) rest ∙ ap (λ (labels : TableId). index_frame old.config old.max_docs labels) same.3

-- ---- operations that go on

docs_prefix : (xs ys : List (ℕ × Operation)) → IsPrefix xs ys → list_all (λ (o : Operation). is_add o.change) (entries ys) ≡ true → IsPrefix (docs (entries xs)) (docs (entries ys))
docs_prefix xs ys p adds = docs_on (entries xs) (entries ys) (entries-prefix xs ys p) adds

module _ (labels : TableId) (note : Shown (List (List ℕ))) (before : ℕ) where
  -- where the index of a turn shares them
  pub shared_of : (index : Index) (token given : Shown Operation) (segments : List Records) → StandsFor index (entries token.seen) → frame_of index ≡ token.frame → given.seen ≡ token.seen → given.frame ≡ token.frame → index.labels.identity ≡ labels
      → IsNoteOf index.labels note → SeesLabels note → DecodeUnder note index.config segments → ComeAfter before (docs_under note segments) index.docs → AreShared labels given note before segments
  shared_of index token given segments stands framed seen frame own of list decodes after = record {
    own = of.3 ∙ own;
    list = list;
    config = index.config;
    texts = ap (λ (f : Frame). f.texts) (framed ∙ sym frame);
    decoded = decodes;
    after = subst (ComeAfter before (docs_under note segments)) (stands.documents ∙ ap (λ (l : List (ℕ × Operation)). docs (entries l)) (sym seen)) after;
  }

  -- while more documents are added
  pub shared_on : (old new : Shown Operation) (segments : List Records) → SameToken old new → SeesOn old new → list_all (λ (o : Operation). is_add o.change) (entries new.seen) ≡ true → AreShared labels old note before segments → AreShared labels new note before segments
  shared_on old new segments same more adds shared = record {
    own = shared.own;
    list = shared.list;
    config = shared.config;
    texts = shared.texts ∙ ap (λ (f : Frame). f.texts) (sym same.4);
    decoded = shared.decoded;
    after = (shared.after.0, shared.after.1, prefix_trans (shared.after.0 ++ docs_under note segments) (docs (entries old.seen)) (docs (entries new.seen)) shared.after.2 (docs_prefix old.seen new.seen more.0 adds));
  }

  -- their merged segment
  pub shared_merged : (token : Shown Operation) (segments : List Records) (m : Records)
      → ((known : Labels) (config : Config) (ds : List Doc) → Decodes known config segments ds → Decodes known config (m ∷ []) ds)
      → AreShared labels token note before segments → AreShared labels token note before (m ∷ [])
  shared_merged token segments m keeps shared =
      let here : Decodes (labels_of note.seen) shared.config (m ∷ []) (docs_under note segments) = keeps (labels_of note.seen) shared.config (docs_under note segments) shared.decoded in
      let same : docs_under note (m ∷ []) ≡ docs_under note segments = decoded (labels_of note.seen) shared.config (m ∷ []) (docs_under note segments) here in
      record {
        own = shared.own;
        list = shared.list;
        config = shared.config;
        texts = shared.texts;
        decoded = subst (Decodes (labels_of note.seen) shared.config (m ∷ [])) (sym same) here;
        after = subst (λ (ds : List Doc). ComeAfter before ds (docs (entries token.seen))) (sym same) shared.after;
      }

  -- as the index of a later turn knows them
  module _ (index : Index) (token : Shown Operation) (segments : List Records) (framed : frame_of index ≡ token.frame) (shared : AreShared labels token note before segments) where
    pub index_decodes : DecodeUnder note index.config segments
    index_decodes = subst (λ (config : Config). DecodeUnder note config segments) (config_told shared.config index.config (shared.texts ∙ sym (ap (λ (f : Frame). f.texts) framed))) shared.decoded

    pub index_after : StandsFor index (entries token.seen) → ComeAfter before (docs_under note segments) index.docs
    index_after stands = subst (ComeAfter before (docs_under note segments)) (sym stands.documents) shared.after

-- ---- what a merge did

-- the segments of the index under the lock, as a token knows them that has given the index back
pub taken_from : (scope : MergeScope) (old index : Index) (token given : Shown Operation) (note : Shown (List (List ℕ))) (before : ℕ) (segments : List Records) → StandsFor index (entries token.seen) → IsFlushed old index
    → given.seen ≡ token.seen → IsRangeOf index (first_in scope index.segments) note before segments → AreFrom scope given note before segments
taken_from scope old index token given note before segments stands flushed seen range = record {
  index = index;
  represents = subst (λ (l : List (ℕ × Operation)). StandsFor index (entries l)) (sym seen) stands;
  waits = ap (λ (x : Index). x.waiting) flushed.rest;
  range = range;
}

pub replaced_in : (scope : MergeScope) (before : ℕ) (merged : Records) (old new : Index) (token given : Shown Operation) → StandsFor old (entries token.seen) → ((history : List Operation) → StandsFor old history → StandsFor new history)
    → given.seen ≡ token.seen → IsReplaced scope before merged old new → IsReplacedIn scope before merged (entries given.seen)
replaced_in scope before merged old new token given stands keeps seen is =
    subst (λ (l : List (ℕ × Operation)). IsReplacedIn scope before merged (entries l)) (sym seen) (old, new, stands, keeps (entries token.seen) stands, is)
