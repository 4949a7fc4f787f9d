-- After a commit its newest commit files are there, and the segments that they name.
use Rattle.std.proofs.Common.{◌≡◌, ◌≢◌, ◌⊎◌, ◌+◌, inl, inr, refl, sym, ap, subst, ◌∙◌, ⊎_elim, arith, ℕ, Bool, true, false, if◌then◌else◌, List, [], ◌∷◌, ◌++◌, map, length, Option, Some, None, Contains}
use Rattle.std.specs.Prelude.{fold}
use Rattle.std.specs.Option.{option_or}
use Rattle.std.specs.List.{All, AllByRecursion}
use Rattle.std.proofs.lemmas.List.Elements.{All-nil, All-cons, All-contains, All-contains_itself, All-from_recursion, recursion_from_All, Contains-append_left, Contains-append_right, Contains-append_cases, Contains-push, Contains-push_cases}
use Rattle.std.proofs.lemmas.List.{map-append}
use Rattle.facet_disk.specs.declared.name.Dir.{Dir}
use Rattle.facet_disk.specs.declared.name.Dir.TheVariants.{Taxonomy, Index}
use Rattle.facet_disk.specs.declared.name.Kind.TheVariants.{Segment, Pending, Commit}
use Rattle.facet_disk.specs.declared.name.FileName.{FileName}
use Rattle.facet_disk.specs.Images.{Told, with_at, removed_in}
use Rattle.facet_disk.specs.SameNames.{with_here, with_other}
use Rattle.facet_model.specs.Flags.{Config}
use Rattle.facet_model.specs.Stored.{Records}
use Rattle.commit_calls.specs.Held.{file}
use Rattle.commit_calls.specs.Outcomes.{file_told, made_told, published_told, cleared_told}
use Rattle.commit_calls.proofs.Names.{by_name, kind_apart, dir_apart, index_taxonomy, segment_pending, commit_pending}
use Rattle.commit_file.specs.declared.taxonomy.LabelPart.{LabelPart}
use Rattle.commit_file.specs.declared.index.DocumentPart.{DocumentPart}
use Rattle.seg_grammar.specs.Spelling.{seg_bytes}
use Rattle.commit_plan.specs.Committed.{Committed, Kept}
use Rattle.commit_plan.specs.Drafts.{Drafted, Placed, taken, placed_by, place, placed, new_part, new_label_part, nothing_drafted, with_labels, with_index, label_parts_with, labels_first, drafted, is_longer, is_index_left_out, labels_number, label_parts_after, index_number, kept_after, commit_names, named_files, strays_after}
use Rattle.commit_plan.specs.Strays.{in_order}
use Rattle.commit_plan.specs.Results.{published_by, committed_told}
use Rattle.commit_plan.proofs.Cleaning.{no_stray, label_names, document_names, named_after}
use Rattle.commit_plan.proofs.InOrder.{in_order_has}
use Rattle.commit_plan.proofs.Keeping.{all_weaker, all_mapped, all_under, taken_is}
use Rattle.facet_codec.proofs.Lists.{each_push}
use Rattle.std.proofs.lemmas.Option.{same_Some}
use Rattle.facet_names.proofs.LabelLists.{Labels}

-- ---- what the calls keep

some_none : (o : Option (List ℕ)) (bytes : List ℕ) → o ≡ Some bytes → o ≡ None → ⊥
some_none o bytes some none = cc (sym some ∙ none)

-- a file that is no stray
cleared_keeps : (names : List FileName) (s : Told) (n : FileName) → s.files n ≢ None → (Contains names n → ⊥) → (cleared_told names s).files n ≢ None
cleared_keeps [] s n some spared = some
cleared_keeps (name ∷ names) s n some spared = cleared_keeps names (removed_in s name) n
    (λ none. some (sym (with_other s.files name None n (λ same. spared (0, omega arith, sym same))) ∙ none))
    (λ has. spared (Contains-append_right (name ∷ []) names n has))

-- a file is among those that are made
abbrev Has : List (FileName × List ℕ) → FileName → Type 0
Has fs n = Contains (map (λ f. f.0) fs) n

made_keeps : (fs : List (FileName × List ℕ)) (s : Told) (n : FileName) → s.files n ≢ None → (made_told fs s).files n ≢ None
made_keeps [] s n some = some
made_keeps (f ∷ fs) s n some = made_keeps fs (file_told s f.0 f.1) n (by_name (λ (m : FileName). s.files m ≢ None → with_at s.files f.0 (Some f.1) m ≢ None) n f.0
    (λ is before none. some_none (with_at s.files f.0 (Some f.1) n) f.1 (ap (with_at s.files f.0 (Some f.1)) is ∙ with_here s.files f.0 (Some f.1)) none)
    (λ other before none. before (sym (with_other s.files f.0 (Some f.1) n other) ∙ none)) some)

all_made : (fs : List (FileName × List ℕ)) (s : Told) → All (λ n. (made_told fs s).files n ≢ None) (map (λ f. f.0) fs)
all_made [] s = All-nil (λ n. s.files n ≢ None)
all_made (f ∷ fs) s = All-cons (λ n. (made_told fs (file_told s f.0 f.1)).files n ≢ None) f.0 (map (λ f. f.0) fs)
    (made_keeps fs (file_told s f.0 f.1) f.0 (λ none. some_none (with_at s.files f.0 (Some f.1) f.0) f.1 (with_here s.files f.0 (Some f.1)) none))
    (all_made fs (file_told s f.0 f.1))

made_there : (fs : List (FileName × List ℕ)) (s : Told) (n : FileName) → Has fs n → (made_told fs s).files n ≢ None
made_there fs s n has = All-contains (λ m. (made_told fs s).files m ≢ None) (map (λ f. f.0) fs) n (all_made fs s) has

-- a commit file that is published, and any other file but its pending one
published_keeps : (dir : Dir) (part : Option ℕ) (s : Told) (n : FileName) → ((k : ℕ) → part ≡ Some k → s.files (file dir Pending k) ≢ None) → ((k : ℕ) → part ≡ Some k → n ≢ file dir Pending k)
    → Contains (commit_names dir part) n ⊎ (s.files n ≢ None) → (published_told dir part s).files n ≢ None
published_keeps dir None s n pending apart (inl has) = λ none. omega (arith, has.1)
published_keeps dir None s n pending apart (inr some) = some
published_keeps dir (Some m) s n pending apart there = by_name (λ (a : FileName). (a ≢ from) → Contains (to ∷ []) a ⊎ (s.files a ≢ None) → with_at (with_at s.files from None) to (s.files from) a ≢ None) n to
    (λ is other there none. pending m refl (sym (ap (with_at (with_at s.files from None) to (s.files from)) is ∙ with_here (with_at s.files from None) to (s.files from)) ∙ none))
    (λ other apart there none. ⊎_elim
    (λ has. ⊎_elim (λ nothing. omega (arith, nothing.1)) (λ is. other (sym is)) (Contains-push_cases [] to n has))
    (λ some. some (sym (with_other s.files from None n apart) ∙ sym (with_other (with_at s.files from None) to (s.files from) n other) ∙ none))
    there)
    (apart m refl) there
  where
    from : FileName
    from = file dir Pending m

    to : FileName
    to = file dir Commit m

-- ---- the names of newest commit files and of segments that they name

has_more : (fs gs : List (FileName × List ℕ)) (n : FileName) → Has fs n → Has (fs ++ gs) n
has_more fs gs n has = subst (λ (names : List FileName). Contains names n) (sym (map-append (λ (f : FileName × List ℕ). f.0) fs gs)) (Contains-append_left (map (λ f. f.0) fs) (map (λ f. f.0) gs) n has)

has_last : (fs : List (FileName × List ℕ)) (f : FileName × List ℕ) → Has (fs ++ f ∷ []) f.0
has_last fs f = subst (λ (names : List FileName). Contains names f.0) (sym (map-append (λ (f : FileName × List ℕ). f.0) fs (f ∷ []))) (Contains-push (map (λ f. f.0) fs) f.0)

commit_cases : (dir : Dir) (a b : Option ℕ) (n : FileName) → Contains (commit_names dir (option_or a b)) n → Contains (commit_names dir a) n ⊎ Contains (commit_names dir b) n
commit_cases dir None b n has = inr has
commit_cases dir (Some m) b n has = inl has

abbrev Parts : Option ℕ → List LabelPart → Option ℕ → List Kept → FileName → Type 0
Parts taxonomy parts index kept n = (Contains (commit_names Taxonomy taxonomy) n ⊎ Contains (label_names parts) n) ⊎ (Contains (commit_names Index index) n ⊎ Contains (document_names kept) n)

module _ (taxonomy : Option ℕ) (parts : List LabelPart) (index : Option ℕ) (kept : List Kept) (n : FileName) where
  pub apart_named : Contains (named_files taxonomy parts index kept) n → Parts taxonomy parts index kept n
  apart_named has = ⊎_elim
      (λ one. inl (inl one))
      (λ rest. ⊎_elim (λ one. inl (inr one)) (λ more. inr (Contains-append_cases (commit_names Index index) (document_names kept) n more))
      (Contains-append_cases (label_names parts) (commit_names Index index ++ document_names kept) n rest))
      (Contains-append_cases (commit_names Taxonomy taxonomy) (label_names parts ++ (commit_names Index index ++ document_names kept)) n has)

  behind_taxonomy : Contains (label_names parts ++ (commit_names Index index ++ document_names kept)) n → Contains (named_files taxonomy parts index kept) n
  behind_taxonomy has = Contains-append_right (commit_names Taxonomy taxonomy) (label_names parts ++ (commit_names Index index ++ document_names kept)) n has

  behind_labels : Contains (commit_names Index index ++ document_names kept) n → Contains (named_files taxonomy parts index kept) n
  behind_labels has = behind_taxonomy (Contains-append_right (label_names parts) (commit_names Index index ++ document_names kept) n has)

  together : Parts taxonomy parts index kept n → Contains (named_files taxonomy parts index kept) n
  together (inl (inl has)) = Contains-append_left (commit_names Taxonomy taxonomy) (label_names parts ++ (commit_names Index index ++ document_names kept)) n has
  together (inl (inr has)) = behind_taxonomy (Contains-append_left (label_names parts) (commit_names Index index ++ document_names kept) n has)
  together (inr (inl has)) = behind_labels (Contains-append_left (commit_names Index index) (document_names kept) n has)
  together (inr (inr has)) = behind_labels (Contains-append_right (commit_names Index index) (document_names kept) n has)

-- none of them is a pending file
commits_kind : (dir : Dir) (o : Option ℕ) → All (λ n. n.kind ≢ Pending) (commit_names dir o)
commits_kind dir None = All-nil (λ n. n.kind ≢ Pending)
commits_kind dir (Some k) = All-cons (λ n. n.kind ≢ Pending) (file dir Commit k) [] commit_pending (All-nil (λ n. n.kind ≢ Pending))

segments_kind : {P : Type 0} (number : P → ℕ) (dir : Dir) (ps : List P) → All (λ n. n.kind ≢ Pending) (map (λ p. file dir Segment (number p)) ps)
segments_kind number dir [] = All-nil (λ n. n.kind ≢ Pending)
segments_kind number dir (p ∷ ps) = All-cons (λ n. n.kind ≢ Pending) (file dir Segment (number p)) (map (λ p. file dir Segment (number p)) ps) segment_pending (segments_kind number dir ps)

-- ---- segments that are placed

module _ (Q : FileName → Type 0) where
  -- each is of these, or made
  record IsDrawn (p : Placed) : Type 0 where
    behind : AllByRecursion (λ k. Q (file Index Segment k.part.number)) p.behind
    kept : AllByRecursion (λ k. Q (file Index Segment k.part.number) ⊎ Has p.draft.files (file Index Segment k.part.number)) p.kept

  drawn_one : (p : Placed) (s : Records) → IsDrawn p → IsDrawn (place p s)
  drawn_one p s is = go (taken p.behind (seg_bytes s)) refl
    where
      go : (o : Option (DocumentPart × List Kept)) → taken p.behind (seg_bytes s) ≡ o → IsDrawn (placed_by p s o)
      go (Some found) e =
          let t = taken_is (λ k. Q (file Index Segment k.part.number)) p.behind (seg_bytes s) is.behind found e in
          record {
            behind = t.behind;
            kept = each_push (λ (k : Kept). Q (file Index Segment k.part.number) ⊎ Has p.draft.files (file Index Segment k.part.number)) p.kept (record { part = found.0; segment = s }) is.kept
                (inl (subst (λ (part : DocumentPart). Q (file Index Segment part.number)) t.part t.is));
          }
      go None e =
          let more : List (FileName × List ℕ) = p.draft.files ++ (file Index Segment p.draft.next, seg_bytes s) ∷ [] in
          record {
            behind = is.behind;
            kept = each_push (λ (k : Kept). Q (file Index Segment k.part.number) ⊎ Has more (file Index Segment k.part.number)) p.kept (record { part = new_part p.draft.next s; segment = s })
                (all_weaker (λ (k : Kept). Q (file Index Segment k.part.number) ⊎ Has p.draft.files (file Index Segment k.part.number)) (λ (k : Kept). Q (file Index Segment k.part.number) ⊎ Has more (file Index Segment k.part.number))
                (λ k one. ⊎_elim (λ q. inl q) (λ has. inr (has_more p.draft.files ((file Index Segment p.draft.next, seg_bytes s) ∷ []) (file Index Segment k.part.number) has)) one) p.kept is.kept)
                (inr (has_last p.draft.files (file Index Segment p.draft.next, seg_bytes s)));
          }

  drawn_all : (p : Placed) (ss : List Records) → IsDrawn p → IsDrawn (fold place p ss)
  drawn_all p [] is = is
  drawn_all p (s ∷ ss) is = drawn_all (place p s) ss (drawn_one p s is)

grown_one : (p : Placed) (s : Records) (n : FileName) → Has p.draft.files n → Has (place p s).draft.files n
grown_one p s n has = go (taken p.behind (seg_bytes s))
  where
    go : (o : Option (DocumentPart × List Kept)) → Has (placed_by p s o).draft.files n
    go (Some found) = has
    go None = has_more p.draft.files ((file Index Segment p.draft.next, seg_bytes s) ∷ []) n has

grown : (p : Placed) (ss : List Records) (n : FileName) → Has p.draft.files n → Has (fold place p ss).draft.files n
grown p [] n has = has
grown p (s ∷ ss) n has = grown (place p s) ss n (grown_one p s n has)

-- ---- all of it

module _ (config : Config) (old : Committed) (view : Labels) (ss : List Records) where
  abbrev first : Drafted
  first = labels_first old view

  abbrev all : List (FileName × List ℕ)
  all = (drafted config old view ss).files

  abbrev start : Placed
  start = record { draft = first; behind = old.kept; kept = [] }

  -- a segment of labels was named before, or is made
  labels_from : (n : FileName) → Contains (label_names (label_parts_after old view)) n → Contains (label_names old.label_parts) n ⊎ Has first.files n
  labels_from n = go (is_longer old view)
    where
      go : (b : Bool) → Contains (label_names (if b then label_parts_with old.next old view else old.label_parts)) n
          → Contains (label_names old.label_parts) n ⊎ Has (if b then with_labels old view (nothing_drafted old.next) else nothing_drafted old.next).files n
      go true has = ⊎_elim (λ before. inl before) (λ is. inr (0, omega arith, is)) (Contains-push_cases (label_names old.label_parts) (file Taxonomy Segment old.next) n
          (subst (λ (names : List FileName). Contains names n) (map-append (λ (part : LabelPart). file Taxonomy Segment part.number) old.label_parts (new_label_part old.next old.labels view ∷ [])) has))
      go false has = inl has

  labels_pending : (k : ℕ) → labels_number old view ≡ Some k → Has first.files (file Taxonomy Pending k)
  labels_pending k = go (is_longer old view)
    where
      go : (b : Bool) → (if b then Some (old.next + 1) else None) ≡ Some k → Has (if b then with_labels old view (nothing_drafted old.next) else nothing_drafted old.next).files (file Taxonomy Pending k)
      go true e = (1, omega arith, ap (file Taxonomy Pending) (same_Some _ _ e))
      go false e = absurd (cc e)

  -- a segment of documents likewise
  documents_from : (n : FileName) → Contains (document_names (kept_after old view ss)) n → Contains (document_names old.kept) n ⊎ Has all n
  documents_from n = go (is_index_left_out old ss)
    where
      Q : FileName → Type 0
      Q m = Contains (document_names old.kept) m

      drawn : IsDrawn Q (placed old ss first)
      drawn = drawn_all Q start ss (record {
        behind = all_under (λ (k : Kept). file Index Segment k.part.number) Q old.kept (recursion_from_All Q (document_names old.kept) (All-contains_itself (document_names old.kept)));
        kept = tt;
      })

      go : (b : Bool) → Contains (document_names (if b then old.kept else (placed old ss first).kept)) n → Contains (document_names old.kept) n ⊎ Has (if b then first else with_index config (length view) (placed old ss first)).files n
      go true has = inl has
      go false has =
          let p = placed old ss first in
          let files : List (FileName × List ℕ) = (with_index config (length view) p).files in
          All-contains (λ m. Q m ⊎ Has files m) (document_names p.kept) n (All-from_recursion (λ m. Q m ⊎ Has files m) (document_names p.kept)
          (all_mapped (λ (k : Kept). file Index Segment k.part.number) (λ m. Q m ⊎ Has files m) p.kept
          (all_weaker (λ (k : Kept). Q (file Index Segment k.part.number) ⊎ Has p.draft.files (file Index Segment k.part.number)) (λ (k : Kept). Q (file Index Segment k.part.number) ⊎ Has files (file Index Segment k.part.number))
          (λ k one. ⊎_elim (λ q. inl q) (λ has. inr (has_more p.draft.files _ (file Index Segment k.part.number) has)) one) p.kept drawn.kept))) has

  index_pending : (k : ℕ) → index_number old view ss ≡ Some k → Has all (file Index Pending k)
  index_pending k = go (is_index_left_out old ss)
    where
      go : (b : Bool) → (if b then None else Some (placed old ss first).draft.next) ≡ Some k → Has (if b then first else with_index config (length view) (placed old ss first)).files (file Index Pending k)
      go true e = absurd (cc e)
      go false e =
          let p = placed old ss first in
          subst (λ (m : ℕ). Has (with_index config (length view) p).files (file Index Pending m)) (same_Some _ _ e) (has_last p.draft.files (file Index Pending p.draft.next, _))

  first_among : (n : FileName) → Has first.files n → Has all n
  first_among n has = go (is_index_left_out old ss)
    where
      go : (b : Bool) → Has (if b then first else with_index config (length view) (placed old ss first)).files n
      go true = has
      go false = has_more (placed old ss first).draft.files _ n (grown start ss n has)

  module _ (s : Told) (before : (n : FileName) → Contains (named_files old.taxonomy old.label_parts old.index old.kept) n → s.files n ≢ None) where
    abbrev made : Told
    made = made_told all s

    abbrev half : Told
    half = published_told Taxonomy (labels_number old view) made

    half_there : (n : FileName) → ((k : ℕ) → labels_number old view ≡ Some k → n ≢ file Taxonomy Pending k) → Contains (commit_names Taxonomy (labels_number old view)) n ⊎ (made.files n ≢ None) → half.files n ≢ None
    half_there n apart there = published_keeps Taxonomy (labels_number old view) made n
        (λ k e. made_there all s (file Taxonomy Pending k) (first_among (file Taxonomy Pending k) (labels_pending k e))) apart there

    whole_there : (n : FileName) → n.kind ≢ Pending → Contains (commit_names Index (index_number old view ss)) n ⊎ (half.files n ≢ None) → (published_by config old view ss s).files n ≢ None
    whole_there n kind there = published_keeps Index (index_number old view ss) half n
        (λ k e. half_there (file Index Pending k) (λ m same. dir_apart (file Index Pending k) (file Taxonomy Pending m) index_taxonomy) (inr (made_there all s (file Index Pending k) (index_pending k e))))
        (λ k same. kind_apart n (file Index Pending k) kind) there

    from_half : (n : FileName) → n.kind ≢ Pending → Contains (commit_names Taxonomy (labels_number old view)) n ⊎ (made.files n ≢ None) → (published_by config old view ss s).files n ≢ None
    from_half n kind there = whole_there n kind (inr (half_there n (λ k same. kind_apart n (file Taxonomy Pending k) kind) there))

    from_old : (n : FileName) → n.kind ≢ Pending → Parts old.taxonomy old.label_parts old.index old.kept n → (published_by config old view ss s).files n ≢ None
    from_old n kind named = from_half n kind (inr (made_keeps all s n (before n (together old.taxonomy old.label_parts old.index old.kept n named))))

    from_made : (n : FileName) → n.kind ≢ Pending → Has all n → (published_by config old view ss s).files n ≢ None
    from_made n kind has = from_half n kind (inr (made_there all s n has))

    published_there : (n : FileName) → Parts (option_or (labels_number old view) old.taxonomy) (label_parts_after old view) (option_or (index_number old view ss) old.index) (kept_after old view ss) n
        → (published_by config old view ss s).files n ≢ None
    published_there n (inl (inl has)) =
        let kind = All-contains (λ (m : FileName). m.kind ≢ Pending) (commit_names Taxonomy (option_or (labels_number old view) old.taxonomy)) n (commits_kind Taxonomy (option_or (labels_number old view) old.taxonomy)) has in
        ⊎_elim (λ new. from_half n kind (inl new)) (λ named. from_old n kind (inl (inl named))) (commit_cases Taxonomy (labels_number old view) old.taxonomy n has)
    published_there n (inl (inr has)) =
        let kind = All-contains (λ (m : FileName). m.kind ≢ Pending) (label_names (label_parts_after old view)) n (segments_kind (λ (part : LabelPart). part.number) Taxonomy (label_parts_after old view)) has in
        ⊎_elim (λ named. from_old n kind (inl (inr named))) (λ new. from_made n kind (first_among n new)) (labels_from n has)
    published_there n (inr (inl has)) =
        let kind = All-contains (λ (m : FileName). m.kind ≢ Pending) (commit_names Index (option_or (index_number old view ss) old.index)) n (commits_kind Index (option_or (index_number old view ss) old.index)) has in
        ⊎_elim (λ new. whole_there n kind (inl new)) (λ named. from_old n kind (inr (inl named))) (commit_cases Index (index_number old view ss) old.index n has)
    published_there n (inr (inr has)) =
        let kind = All-contains (λ (m : FileName). m.kind ≢ Pending) (document_names (kept_after old view ss)) n (segments_kind (λ (k : Kept). k.part.number) Index (kept_after old view ss)) has in
        ⊎_elim (λ named. from_old n kind (inr (inr named))) (λ new. from_made n kind new) (documents_from n has)

    pub named_stays : (n : FileName) → Contains (named_after config old view ss) n → (committed_told config old view ss s).files n ≢ None
    named_stays n has = cleared_keeps (strays_after config old view ss) (published_by config old view ss s) n
        (published_there n (apart_named (option_or (labels_number old view) old.taxonomy) (label_parts_after old view) (option_or (index_number old view ss) old.index) (kept_after old view ss) n has))
        (λ stray. no_stray old.listed (in_order (named_after config old view ss)) n stray (in_order_has (named_after config old view ss) n has))
