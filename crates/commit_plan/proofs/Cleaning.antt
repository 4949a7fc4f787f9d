-- What a commit leaves of the files of a disk.
use Rattle.std.proofs.Common.{◌≡◌, ◌≢◌, ◌⊎◌, ◌+◌, inl, inr, refl, sym, ap, subst, ◌∙◌, ⊎_elim, arith, ℕ, Bool, true, false, not, if◌then◌else◌, List, [], ◌∷◌, ◌++◌, map, length, Option, Some, None, Contains}
use Rattle.std.specs.Prelude.{fold}
use Rattle.std.specs.Option.{option_or}
use Rattle.std.specs.List.{All, AllByRecursion, filter}
use Rattle.std.proofs.lemmas.List.Elements.{All-nil, All-cons, All-weaker, All-contains, All-map, All-from_recursion, filter_passes, Contains-append_left, Contains-append_right, Contains-push}
use Rattle.std.proofs.lemmas.List.{map-append}
use Rattle.facet_disk.specs.declared.name.Dir.{Dir}
use Rattle.facet_disk.specs.declared.name.Dir.TheVariants.{Taxonomy, Index}
use Rattle.facet_disk.specs.declared.name.Kind.TheVariants.{Segment, Pending, Commit}
use Rattle.facet_disk.specs.declared.name.FileName.{FileName}
use Rattle.facet_disk.specs.Images.{Told, with_at, removed_in}
use Rattle.facet_disk.specs.SameNames.{with_here, with_other}
use Rattle.facet_model.specs.Flags.{Config}
use Rattle.facet_model.specs.Stored.{Records}
use Rattle.commit_calls.specs.declared.plan.Plan.{Plan}
use Rattle.commit_calls.specs.Held.{file}
use Rattle.commit_calls.specs.Outcomes.{file_told, made_told, published_told, parts_told, cleared_told, whole_told, carried_told, EndsEarly, IsCutShort as PlanCutShort}
use Rattle.commit_calls.proofs.Names.{by_name}
use Rattle.commit_file.specs.declared.taxonomy.LabelPart.{LabelPart}
use Rattle.commit_file.specs.declared.index.DocumentPart.{DocumentPart}
use Rattle.seg_grammar.specs.Spelling.{seg_bytes}
use Rattle.commit_plan.specs.Committed.{Committed, Kept}
use Rattle.commit_plan.specs.Drafts.{Drafted, Placed, taken, placed_by, place, placed, new_part, new_label_part, index_drafted, kept_from, index_number_from, nothing_drafted, with_labels, with_index, label_parts_with, labels_first, drafted, is_longer, is_index_left_out, labels_number, label_parts_after, index_number, kept_after, commit_names, named_files, strays_after}
use Rattle.commit_plan.specs.Strays.{in_order, is_among, strays}
use Rattle.commit_plan.specs.Plannings.{IsPlanOf}
use Rattle.commit_plan.specs.Results.{published_by, committed_told, IsCutShort}
use Rattle.commit_plan.proofs.InOrder.{in_order_has, among_has, has_among}
use Rattle.commit_plan.proofs.Keeping.{all_weaker}
use Rattle.facet_codec.proofs.Lists.{each_push}
use Rattle.std.proofs.lemmas.Option.{same_Some}
use Rattle.std.proofs.lemmas.Bool.{both_ways}
use Rattle.facet_names.proofs.LabelLists.{Labels}

-- ---- strays

filter_has : {X : Type 0} (p : X → Bool) (xs : List X) → All (λ x. p x ≡ true → Contains (filter p xs) x) xs
filter_has p [] = All-nil (λ x. p x ≡ true → Contains [] x)
filter_has {X} p (x ∷ xs) = All-cons (λ y. p y ≡ true → Contains (filter p (x ∷ xs)) y) x xs here
    (All-weaker (λ y. p y ≡ true → Contains (filter p xs) y) (λ y. p y ≡ true → Contains (filter p (x ∷ xs)) y) (λ y has passes. more (p x) y (has passes)) xs (filter_has p xs))
  where
    here : p x ≡ true → Contains (filter p (x ∷ xs)) x
    here passes = rw passes (0, omega arith, refl)

    more : (b : Bool) (y : X) → Contains (filter p xs) y → Contains (if b then x ∷ filter p xs else filter p xs) y
    more true y has = Contains-append_right (x ∷ []) (filter p xs) y has
    more false y has = has

-- a stray is not named
pub no_stray : (listed named : List FileName) (n : FileName) → Contains (strays listed named) n → Contains named n → ⊥
no_stray listed named n has also =
    both_ways _ (ap not (has_among named n also)) (All-contains (λ (m : FileName). not (is_among named m) ≡ true) (strays listed named) n (filter_passes (λ m. not (is_among named m)) (in_order listed)) has)

-- a listed file that is no stray is named
named_else : (listed named : List FileName) (n : FileName) → Contains listed n → (Contains (strays listed named) n → ⊥) → Contains named n
named_else listed named n has spared = go (is_among named n) refl
  where
    go : (b : Bool) → is_among named n ≡ b → Contains named n
    go true is = among_has named n is
    go false is = absurd (spared (All-contains (λ (m : FileName). not (is_among named m) ≡ true → Contains (strays listed named) m) (in_order listed) n (filter_has (λ m. not (is_among named m)) (in_order listed)) (in_order_has listed n has) (ap not is)))

-- ---- what the calls leave

-- a file that is gone stays gone
cleared_none : (names : List FileName) (s : Told) (n : FileName) → s.files n ≡ None → (cleared_told names s).files n ≡ None
cleared_none [] s n none = none
cleared_none (name ∷ names) s n none = cleared_none names (removed_in s name) n (by_name (λ m. s.files m ≡ None → with_at s.files name None m ≡ None) n name
    (λ is before. ap (with_at s.files name None) is ∙ with_here s.files name None)
    (λ other before. with_other s.files name None n other ∙ before) none)

cleared_gone : (names : List FileName) (s : Told) → All (λ n. (cleared_told names s).files n ≡ None) names
cleared_gone [] s = All-nil (λ n. s.files n ≡ None)
cleared_gone (name ∷ names) s = All-cons (λ n. (cleared_told names (removed_in s name)).files n ≡ None) name names
    (cleared_none names (removed_in s name) name (with_here s.files name None)) (cleared_gone names (removed_in s name))

-- a file that is left was there and is no stray
cleared_left : (names : List FileName) (s : Told) (n : FileName) → (cleared_told names s).files n ≢ None → (s.files n ≢ None) × (Contains names n → ⊥)
cleared_left names s n left = ((λ none. left (cleared_none names s n none)), (λ has. left (All-contains (λ m. (cleared_told names s).files m ≡ None) names n (cleared_gone names s) has)))

-- it is the commit file that was published, or it was there and is not its pending file
published_left : (dir : Dir) (part : Option ℕ) (s : Told) (n : FileName) → (published_told dir part s).files n ≢ None
    → Contains (commit_names dir part) n ⊎ ((s.files n ≢ None) × ((k : ℕ) → part ≡ Some k → n ≢ file dir Pending k))
published_left dir None s n left = inr (left, λ k is. absurd (cc is))
published_left dir (Some m) s n left = by_name (λ (a : FileName). (with_at (with_at s.files from None) to (s.files from) a ≢ None) → Contains (to ∷ []) a ⊎ ((s.files a ≢ None) × ((k : ℕ) → Some m ≡ Some k → a ≢ file dir Pending k))) n to
    (λ is some. inl (0, omega arith, sym is))
    (λ other some. by_name (λ (a : FileName). (with_at s.files from None a ≢ None) → Contains (to ∷ []) a ⊎ ((s.files a ≢ None) × ((k : ℕ) → Some m ≡ Some k → a ≢ file dir Pending k))) n from
    (λ is there. absurd (there (ap (with_at s.files from None) is ∙ with_here s.files from None)))
    (λ apart there. inr ((λ none. there (with_other s.files from None n apart ∙ none)), λ k same. subst (λ (x : ℕ). n ≢ file dir Pending x) (same_Some m k same) apart))
    (λ none. some (with_other (with_at s.files from None) to (s.files from) n other ∙ none)))
    left
  where
    from : FileName
    from = file dir Pending m

    to : FileName
    to = file dir Commit m

-- it was made, or it was there
made_left : (fs : List (FileName × List ℕ)) (s : Told) (n : FileName) → (made_told fs s).files n ≢ None → Contains (map (λ f. f.0) fs) n ⊎ (s.files n ≢ None)
made_left [] s n left = inr left
made_left (f ∷ fs) s n left = ⊎_elim
    (λ has. inl (Contains-append_right (f.0 ∷ []) (map (λ g. g.0) fs) n has))
    (λ there. by_name (λ (m : FileName). (with_at s.files f.0 (Some f.1) m ≢ None) → Contains (f.0 ∷ map (λ g. g.0) fs) m ⊎ (s.files m ≢ None)) n f.0
    (λ is some. inl (0, omega arith, sym is))
    (λ other some. inr (λ none. some (with_other s.files f.0 (Some f.1) n other ∙ none)))
    there)
    (made_left fs (file_told s f.0 f.1) n left)

-- ---- what is made is named, or is a pending file that is published

-- this part's pending file
abbrev IsPendingOf : Dir → Option ℕ → FileName → Type 0
IsPendingOf dir part n = (k : ℕ) × (part ≡ Some k) × (n ≡ file dir Pending k)

abbrev pub label_names : List LabelPart → List FileName
label_names parts = map (λ part. file Taxonomy Segment part.number) parts

abbrev pub document_names : List Kept → List FileName
document_names kept = map (λ k. file Index Segment k.part.number) kept

-- the labels' files
labels_meant : (old : Committed) (view : Labels) → AllByRecursion (λ f. Contains (label_names (label_parts_after old view)) f.0 ⊎ IsPendingOf Taxonomy (labels_number old view) f.0) (labels_first old view).files
labels_meant old view = go (is_longer old view)
  where
    go : (b : Bool) → AllByRecursion (λ f. Contains (label_names (if b then label_parts_with old.next old view else old.label_parts)) f.0 ⊎ IsPendingOf Taxonomy (if b then Some (old.next + 1) else None) f.0)
        (if b then with_labels old view (nothing_drafted old.next) else nothing_drafted old.next).files
    go true = (
      inl (subst (λ (names : List FileName). Contains names (file Taxonomy Segment old.next)) (sym (map-append (λ (part : LabelPart). file Taxonomy Segment part.number) old.label_parts (new_label_part old.next old.labels view ∷ [])))
          (Contains-push (label_names old.label_parts) (file Taxonomy Segment old.next))),
      (inr (old.next + 1, refl, refl), tt),
    )
    go false = tt

-- a file is one that was there before, or one of a segment that is kept
module _ (P : FileName → Type 0) where
  abbrev IsPlaced : List Kept → FileName × List ℕ → Type 0
  IsPlaced kept f = P f.0 ⊎ Contains (document_names kept) f.0

  kept_more : (kept : List Kept) (k : Kept) (n : FileName) → Contains (document_names kept) n → Contains (document_names (kept ++ k ∷ [])) n
  kept_more kept k n has = subst (λ (names : List FileName). Contains names n) (sym (map-append (λ (k : Kept). file Index Segment k.part.number) kept (k ∷ [])))
      (Contains-append_left (document_names kept) (file Index Segment k.part.number ∷ []) n has)

  kept_last : (kept : List Kept) (k : Kept) → Contains (document_names (kept ++ k ∷ [])) (file Index Segment k.part.number)
  kept_last kept k = subst (λ (names : List FileName). Contains names (file Index Segment k.part.number)) (sym (map-append (λ (k : Kept). file Index Segment k.part.number) kept (k ∷ [])))
      (Contains-push (document_names kept) (file Index Segment k.part.number))

  still_placed : (kept : List Kept) (k : Kept) (fs : List (FileName × List ℕ)) → AllByRecursion (IsPlaced kept) fs → AllByRecursion (IsPlaced (kept ++ k ∷ [])) fs
  still_placed kept k fs all = all_weaker (IsPlaced kept) (IsPlaced (kept ++ k ∷ [])) (λ f is. ⊎_elim (λ before. inl before) (λ has. inr (kept_more kept k f.0 has)) is) fs all

  placed_one : (p : Placed) (s : Records) → AllByRecursion (IsPlaced p.kept) p.draft.files → AllByRecursion (IsPlaced (place p s).kept) (place p s).draft.files
  placed_one p s all = go (taken p.behind (seg_bytes s))
    where
      go : (o : Option (DocumentPart × List Kept)) → AllByRecursion (IsPlaced (placed_by p s o).kept) (placed_by p s o).draft.files
      go (Some found) = still_placed p.kept (record { part = found.0; segment = s }) p.draft.files all
      go None =
          let k : Kept = record { part = new_part p.draft.next s; segment = s } in
          each_push (IsPlaced (p.kept ++ k ∷ [])) p.draft.files (file Index Segment p.draft.next, seg_bytes s) (still_placed p.kept k p.draft.files all) (inr (kept_last p.kept k))

  placed_all : (p : Placed) (ss : List Records) → AllByRecursion (IsPlaced p.kept) p.draft.files → AllByRecursion (IsPlaced (fold place p ss).kept) (fold place p ss).draft.files
  placed_all p [] all = all
  placed_all p (s ∷ ss) all = placed_all (place p s) ss (placed_one p s all)

-- the index's files behind them
index_meant : (P : FileName → Type 0) (config : Config) (needs : ℕ) (old : Committed) (ss : List Records) (d : Drafted) → AllByRecursion (λ f. P f.0) d.files
    → AllByRecursion (λ f. P f.0 ⊎ Contains (document_names (kept_from d old ss)) f.0 ⊎ IsPendingOf Index (index_number_from d old ss) f.0) (index_drafted config needs old ss d).files
index_meant P config needs old ss d before = go (is_index_left_out old ss)
  where
    start : Placed
    start = record { draft = d; behind = old.kept; kept = [] }

    all : AllByRecursion (IsPlaced P (placed old ss d).kept) (placed old ss d).draft.files
    all = placed_all P start ss (all_weaker (λ f. P f.0) (IsPlaced P []) (λ f is. inl is) d.files before)

    go : (b : Bool) → AllByRecursion (λ f. P f.0 ⊎ Contains (document_names (if b then old.kept else (placed old ss d).kept)) f.0 ⊎ IsPendingOf Index (if b then None else Some (placed old ss d).draft.next) f.0)
        (if b then d else with_index config needs (placed old ss d)).files
    go true = all_weaker (λ f. P f.0) (λ f. P f.0 ⊎ Contains (document_names old.kept) f.0 ⊎ IsPendingOf Index None f.0) (λ f is. inl is) d.files before
    go false =
        let p = placed old ss d in
        each_push (λ f. P f.0 ⊎ Contains (document_names p.kept) f.0 ⊎ IsPendingOf Index (Some p.draft.next) f.0) p.draft.files _
        (all_weaker (IsPlaced P p.kept) (λ f. P f.0 ⊎ Contains (document_names p.kept) f.0 ⊎ IsPendingOf Index (Some p.draft.next) f.0) (λ f is. ⊎_elim (λ same_Some. inl same_Some) (λ has. inr (inl has)) is) p.draft.files all)
        (inr (inr (p.draft.next, refl, refl)))

-- ---- all of it

-- a newer commit file comes before an older one
newer : (dir : Dir) (a b : Option ℕ) (n : FileName) → Contains (commit_names dir a) n → Contains (commit_names dir (option_or a b)) n
newer dir None b n has = absurd (omega (arith, has.1))
newer dir (Some m) b n has = has

module _ (config : Config) (old : Committed) (view : Labels) (ss : List Records) where
  -- the newest commit files after a commit, and the segments that they name
  abbrev pub named_after : List FileName
  named_after = named_files (option_or (labels_number old view) old.taxonomy) (label_parts_after old view) (option_or (index_number old view ss) old.index) (kept_after old view ss)

  abbrev taxonomy_names : List FileName
  taxonomy_names = commit_names Taxonomy (option_or (labels_number old view) old.taxonomy)

  abbrev index_names : List FileName
  index_names = commit_names Index (option_or (index_number old view ss) old.index)

  abbrev labels_part : List FileName
  labels_part = label_names (label_parts_after old view)

  abbrev documents_part : List FileName
  documents_part = document_names (kept_after old view ss)

  taxonomy_named : (n : FileName) → Contains (commit_names Taxonomy (labels_number old view)) n → Contains named_after n
  taxonomy_named n has = Contains-append_left taxonomy_names (labels_part ++ (index_names ++ documents_part)) n (newer Taxonomy (labels_number old view) old.taxonomy n has)

  labels_named : (n : FileName) → Contains labels_part n → Contains named_after n
  labels_named n has = Contains-append_right taxonomy_names (labels_part ++ (index_names ++ documents_part)) n (Contains-append_left labels_part (index_names ++ documents_part) n has)

  index_named : (n : FileName) → Contains (commit_names Index (index_number old view ss)) n → Contains named_after n
  index_named n has = Contains-append_right taxonomy_names (labels_part ++ (index_names ++ documents_part)) n (Contains-append_right labels_part (index_names ++ documents_part) n
      (Contains-append_left index_names documents_part n (newer Index (index_number old view ss) old.index n has)))

  documents_named : (n : FileName) → Contains documents_part n → Contains named_after n
  documents_named n has = Contains-append_right taxonomy_names (labels_part ++ (index_names ++ documents_part)) n (Contains-append_right labels_part (index_names ++ documents_part) n
      (Contains-append_right index_names documents_part n has))

  -- a file that is made
  made_named : (n : FileName) → Contains (map (λ f. f.0) (drafted config old view ss).files) n → Contains named_after n ⊎ IsPendingOf Taxonomy (labels_number old view) n ⊎ IsPendingOf Index (index_number old view ss) n
  made_named n has = All-contains (λ m. Contains named_after m ⊎ IsPendingOf Taxonomy (labels_number old view) m ⊎ IsPendingOf Index (index_number old view ss) m) (map (λ f. f.0) (drafted config old view ss).files) n
      (All-map (λ m. Contains named_after m ⊎ IsPendingOf Taxonomy (labels_number old view) m ⊎ IsPendingOf Index (index_number old view ss) m) (λ f. f.0) (drafted config old view ss).files
      (All-from_recursion _ (drafted config old view ss).files (all_weaker _ _ (λ f is. meant f.0 is) (drafted config old view ss).files
      (index_meant (λ m. Contains labels_part m ⊎ IsPendingOf Taxonomy (labels_number old view) m) config (length view) old ss (labels_first old view) (labels_meant old view))))) has
    where
      meant : (n : FileName) → (Contains labels_part n ⊎ IsPendingOf Taxonomy (labels_number old view) n) ⊎ Contains documents_part n ⊎ IsPendingOf Index (index_number old view ss) n
          → Contains named_after n ⊎ IsPendingOf Taxonomy (labels_number old view) n ⊎ IsPendingOf Index (index_number old view ss) n
      meant n (inl (inl has)) = inl (labels_named n has)
      meant n (inl (inr pending)) = inr (inl pending)
      meant n (inr (inl has)) = inl (documents_named n has)
      meant n (inr (inr pending)) = inr (inr pending)

  -- a file that is left is named
  pub left_named : (s : Told) → ((n : FileName) → s.files n ≢ None → Contains old.listed n) → (n : FileName) → (committed_told config old view ss s).files n ≢ None → Contains (in_order named_after) n
  left_named s listed n left = ⊎_elim (λ has. in_order_has named_after n (index_named n has)) (λ before. half before.0 before.1) (published_left Index (index_number old view ss) half_told n there.0)
    where
      made : Told
      made = made_told (drafted config old view ss).files s

      half_told : Told
      half_told = published_told Taxonomy (labels_number old view) made

      there : ((published_by config old view ss s).files n ≢ None) × (Contains (strays_after config old view ss) n → ⊥)
      there = cleared_left (strays_after config old view ss) (published_by config old view ss s) n left

      whole : ((k : ℕ) → index_number old view ss ≡ Some k → n ≢ file Index Pending k) → ((k : ℕ) → labels_number old view ≡ Some k → n ≢ file Taxonomy Pending k) → made.files n ≢ None → Contains (in_order named_after) n
      whole no_index no_taxonomy some = ⊎_elim
          (λ has. ⊎_elim
          (λ named. in_order_has named_after n named)
          (λ pending. ⊎_elim (λ p. absurd (no_taxonomy p.0 p.1 p.2)) (λ p. absurd (no_index p.0 p.1 p.2)) pending)
          (made_named n has))
          (λ before. named_else old.listed (in_order named_after) n (listed n before) there.1)
          (made_left (drafted config old view ss).files s n some)

      half : half_told.files n ≢ None → ((k : ℕ) → index_number old view ss ≡ Some k → n ≢ file Index Pending k) → Contains (in_order named_after) n
      half some no_index = ⊎_elim (λ has. in_order_has named_after n (taxonomy_named n has)) (λ before. whole no_index before.1 before.0) (published_left Taxonomy (labels_number old view) made n some)

-- ---- a plan's calls

module _ (config : Config) (old : Committed) (view : Labels) (ss : List Records) (p : Plan) (new : Committed) (is : IsPlanOf config old view ss p new) (s : Told) where
  pub whole_is : whole_told p s ≡ published_by config old view ss s
  whole_is = λ i. parts_told (is.files i) (is.taxonomy i) (is.index i) s

  pub carried_is : carried_told p s ≡ committed_told config old view ss s
  carried_is = λ i. cleared_told (is.strays i) (whole_is i)

  pub cut_short_is : (now : Option Told) → PlanCutShort p s now → IsCutShort config old view ss s now
  cut_short_is now cut = subst (λ (T : Type 0). T) (λ i. EndsEarly (is.from i) (is.strays i) (whole_is i) s now) cut
