-- What an index keeps true of its fields, where it notes more labels, a document waits, and what waits becomes a segment.
use Rattle.std.proofs.Common.{◌≡◌, ℕ, ◌+◌, ◌≤◌, List, [], ◌∷◌, ◌++◌, length, refl, sym, ap, subst, ◌∙◌, arith, append_assoc, true, false, if◌then◌else◌}
use Rattle.std.proofs.lemmas.List.{append-nil, length-append, length-map, map-append}
use Rattle.std.specs.Prelude.{◌≢◌, nat_lt}
use Rattle.std.proofs.lemmas.Bool.{lt-ltb}
use mathlib.Core.List.{IsPrefix}
use Rattle.facet_names.specs.Labels.{GoesOn}
use Rattle.facet_names.proofs.LabelLists.{Labels}
use Rattle.facet_model.specs.Flags.{Config}
use Rattle.facet_model.specs.Stored.{Records, Decodes}
use Rattle.seg_grammar.specs.Spelling.{IsSegment, seg_bytes}
use Rattle.seg_terms.specs.Entries.{segment_of}
use Rattle.seg_terms.specs.declared.entry.Entry.{Entry}
use Rattle.seg_documents.specs.Decoding.{docs_in, flushed}
use Rattle.seg_documents.specs.Entries.{IsEntry, AreEntries, docs_of}
use Rattle.seg_documents.specs.Storing.{IsStored, AreStored}
use Rattle.seg_documents.proofs.Storing.{live_stored}
use Rattle.seg_documents.proofs.Decoded.{decoded, decodes_stay, entries_stay, flushed_decodes}
use Rattle.chronicle.specs.Shown.{Shown}
use Rattle.taxo_cache.specs.Seen.{labels_of, SeesLabels}
use Rattle.taxo_adding.proofs.Growing.{seen_goes_on}
use Rattle.index_state.specs.Kept.{IsKept}

are_push : (config : Config) (known : Labels) (entries : List Entry) (e : Entry) → AreEntries config known entries → IsEntry config known e → AreEntries config known (entries ++ e ∷ [])
are_push config known [] e are one = (one, tt)
are_push config known (x ∷ entries) e are one = (are.0, are_push config known entries e are.1 one)

stored_push : (ss : List Records) (s : Records) → AreStored ss → IsStored s → AreStored (ss ++ s ∷ [])
stored_push [] s all one = (one, tt)
stored_push (r ∷ ss) s all one = (all.0, stored_push ss s all.1 one)

-- each segment may be stored, and so may one that the entries become
stored_flushed : (segments : List Records) (waiting : List Entry) → AreStored segments → (waiting ≢ [] → IsSegment (seg_bytes (segment_of waiting)) (segment_of waiting)) → AreStored (flushed segments waiting)
stored_flushed segments [] own new = own
stored_flushed segments (e ∷ es) own new = stored_push segments (segment_of (e ∷ es)) own (live_stored (segment_of (e ∷ es)) (new (λ none. cc none)))

module _ (config : Config) (labels : Shown (List (List ℕ))) (segments : List Records) (waiting : List Entry) (sessions : List ℕ) (max_docs : ℕ) (kept : IsKept config labels segments waiting sessions max_docs) where
  -- ---- more labels are noted

  module _ (next : Shown (List (List ℕ))) (more : IsPrefix labels.seen next.seen) (list : SeesLabels next) where
    -- the documents of the segments stay
    pub noted_docs : docs_in (labels_of next.seen) segments ≡ docs_in (labels_of labels.seen) segments
    noted_docs = decoded (labels_of next.seen) config segments (docs_in (labels_of labels.seen) segments)
        (decodes_stay config (labels_of labels.seen) (labels_of next.seen) kept.list list (seen_goes_on labels.seen next.seen more) segments (docs_in (labels_of labels.seen) segments) kept.decoded)

    pub kept_noted : (next.is_note ≡ true) × (next.holds_turn ≡ false) → IsKept config next segments waiting sessions max_docs
    kept_noted note =
        let on : GoesOn (labels_of labels.seen) (labels_of next.seen) = seen_goes_on labels.seen next.seen more in
        record {
          note = note;
          list = list;
          decoded = subst (Decodes (labels_of next.seen) config segments) (sym noted_docs) (decodes_stay config (labels_of labels.seen) (labels_of next.seen) kept.list list on segments (docs_in (labels_of labels.seen) segments) kept.decoded);
          own = kept.own;
          entries = entries_stay config (labels_of labels.seen) (labels_of next.seen) kept.list list on waiting kept.entries;
          each = omega (arith, kept.each, ap length noted_docs);
          few = kept.few;
          most = kept.most;
        }

    -- and a document waits, which has its ordinals under the labels that `told` has seen
    pub kept_appended : (told : Shown (List (List ℕ))) (e : Entry) (session : ℕ) → (next.is_note ≡ true) × (next.holds_turn ≡ false) → SeesLabels told → IsPrefix told.seen next.seen → IsEntry config (labels_of told.seen) e → length sessions + 1 ≤ max_docs
        → IsKept config next segments (waiting ++ e ∷ []) (sessions ++ session ∷ []) max_docs
    kept_appended told e session note list_told begins entry room =
        let on : GoesOn (labels_of labels.seen) (labels_of next.seen) = seen_goes_on labels.seen next.seen more in
        record {
          note = note;
          list = list;
          decoded = (kept_noted note).decoded;
          own = kept.own;
          entries = are_push config (labels_of next.seen) waiting e (entries_stay config (labels_of labels.seen) (labels_of next.seen) kept.list list on waiting kept.entries)
              (entries_stay config (labels_of told.seen) (labels_of next.seen) list_told list (seen_goes_on told.seen next.seen begins) (e ∷ []) (entry, tt)).0;
          each = omega (arith, kept.each, ap length noted_docs, length-append waiting (e ∷ []), length-append sessions (session ∷ []));
          few = omega (arith, kept.most, room, length-append sessions (session ∷ []));
          most = kept.most;
        }

    pub appended_docs : (e : Entry) → docs_in (labels_of next.seen) segments ++ docs_of (waiting ++ e ∷ []) ≡ (docs_in (labels_of labels.seen) segments ++ docs_of waiting) ++ e.doc ∷ []
    appended_docs e = (λ i. noted_docs i ++ map-append (λ (x : Entry). x.doc) waiting (e ∷ []) i) ∙ sym (append_assoc (docs_in (labels_of labels.seen) segments) (docs_of waiting) (e.doc ∷ []))

  -- ---- what waits becomes a segment

  decodes_all : Decodes (labels_of labels.seen) config (flushed segments waiting) (docs_in (labels_of labels.seen) segments ++ docs_of waiting)
  decodes_all = flushed_decodes config (labels_of labels.seen) segments (docs_in (labels_of labels.seen) segments) waiting kept.decoded kept.entries

  pub flushed_docs : docs_in (labels_of labels.seen) (flushed segments waiting) ≡ docs_in (labels_of labels.seen) segments ++ docs_of waiting
  flushed_docs = decoded (labels_of labels.seen) config (flushed segments waiting) (docs_in (labels_of labels.seen) segments ++ docs_of waiting) decodes_all

  pub kept_flushed : (waiting ≢ [] → IsSegment (seg_bytes (segment_of waiting)) (segment_of waiting)) → IsKept config labels (flushed segments waiting) [] sessions max_docs
  kept_flushed new = record {
    note = kept.note;
    list = kept.list;
    decoded = subst (Decodes (labels_of labels.seen) config (flushed segments waiting)) (sym flushed_docs) decodes_all;
    own = stored_flushed segments waiting kept.own new;
    entries = tt;
    each = omega (arith, kept.each, ap length flushed_docs, length-append (docs_in (labels_of labels.seen) segments) (docs_of waiting), length-map waiting (λ (e : Entry). e.doc));
    few = kept.few;
    most = kept.most;
  }

  -- there is a session for each document
  pub as_many : length sessions ≡ length (docs_in (labels_of labels.seen) segments ++ docs_of waiting)
  as_many = omega (arith, kept.each, length-append (docs_in (labels_of labels.seen) segments) (docs_of waiting), length-map waiting (λ (e : Entry). e.doc))

-- ---- what waits, as segments

pub flushed_count : (segments : List Records) (waiting : List Entry) → length (flushed segments waiting) ≡ length segments + (if nat_lt 0 (length waiting) then 1 else 0)
flushed_count segments [] = omega arith
flushed_count segments (e ∷ es) = rw (lt-ltb 0 (length (e ∷ es)) (omega arith)) (length-append segments (segment_of (e ∷ es) ∷ []))

pub flushed_on : (segments : List Records) (waiting : List Entry) → IsPrefix segments (flushed segments waiting)
flushed_on segments [] = ([], append-nil segments)
flushed_on segments (e ∷ es) = (segment_of (e ∷ es) ∷ [], refl)
