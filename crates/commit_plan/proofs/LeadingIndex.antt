-- The index's part of a commit leads from its files to those of the given segments.
use Rattle.std.proofs.Common.{rules, ◌≡◌, ◌⊎◌, ◌≤◌, ◌<◌, inl, inr, ⊎_elim, ℕ, Bool, true, false, not, if◌then◌else◌, IsTrue, ◌&&◌, nat_eq, nat_le, List, [], ◌∷◌, length, get_or, fold, Option, Some, None, Ok, Contains, refl, sym, ap, ◌∙◌, subst, arith}
use Rattle.std.specs.Option.{option_map, option_or}
use Rattle.std.specs.List.{AllByRecursion, AllZip}
use Rattle.std.specs.Str.{bytes_eq}
use Rattle.std.specs.Cmp.Lexicographic.{bytes_decides, pointwise}
use Rattle.std.proofs.lemmas.List.{take_all}
use Rattle.std.proofs.lemmas.List.Elements.{Contains-append_left, Contains-push, Contains-get_or, All-from_recursion, recursion_from_All}
use Rattle.facet_config.specs.Differences.{first_different}
use Rattle.facet_disk.specs.declared.name.Dir.TheVariants.{Index}
use Rattle.facet_disk.specs.declared.name.Kind.TheVariants.{Segment, Pending}
use Rattle.facet_disk.specs.declared.name.FileName.{FileName}
use Rattle.facet_model.specs.Documents.{Doc}
use Rattle.facet_model.specs.Flags.{Config}
use Rattle.facet_model.specs.Stored.{Records, IsSegmentOf}
use Rattle.facet_names.specs.Labels.{IsLabelList, GoesOn}
use Rattle.commit_calls.specs.declared.plan.Write.{Write}
use Rattle.commit_calls.specs.Held.{Held, NamedBelow, file}
use Rattle.commit_calls.specs.Plans.{Makes, PartLeads}
use Rattle.commit_file.specs.declared.index.DocumentPart.{DocumentPart}
use Rattle.commit_file.specs.Commits.{documents_listed, kept_of}
use Rattle.commit_file.specs.Spelling.{index_commit_bytes}
use Rattle.seg_decoding.specs.Laws.{OpensLater}
use Rattle.seg_documents.specs.Storing.{IsStored, AreStored}
use Rattle.seg_grammar.specs.Spelling.{seg_bytes}
use Rattle.store_opening.specs.Files.{agrees, index_in, held_segments}
use Rattle.commit_plan.specs.Committed.{Committed, Kept, IsKept, segments_in, parts_in}
use Rattle.commit_plan.specs.Drafts.{Drafted, Placed, taken, place, placed_by, placed, with_index, is_same, are_same, is_index_left_out, index_drafted, IsIndexAgain}
use Rattle.commit_plan.proofs.Keeping.{AreReadOnce, ArePlaced, place_more, pair, pairs, one_segment, all_under, segments_written}
use Rattle.commit_plan.proofs.Held.{held}
use Rattle.facet_names.proofs.LabelLists.{Labels}

-- ---- files stay

placed_file : (p : Placed) (s : Records) (x : FileName × List ℕ) → Contains p.draft.files x → Contains (place p s).draft.files x
placed_file p s x has = go (taken p.behind (seg_bytes s))
  where
    go : (o : Option (DocumentPart × List Kept)) → Contains (placed_by p s o).draft.files x
    go None = Contains-append_left p.draft.files ((file Index Segment p.draft.next, seg_bytes s) ∷ []) x has
    go (Some found) = has

pub placed_files : (p : Placed) (ss : List Records) (x : FileName × List ℕ) → Contains p.draft.files x → Contains (fold place p ss).draft.files x
placed_files p [] x has = has
placed_files p (s ∷ ss) x has = placed_files (place p s) ss x (placed_file p s x has)

pub index_files : (config : Config) (needs : ℕ) (old : Committed) (ss : List Records) (d : Drafted) (x : FileName × List ℕ) → Contains d.files x → Contains (index_drafted config needs old ss d).files x
index_files config needs old ss d x has = go (is_index_left_out old ss)
  where
    go : (b : Bool) → Contains (if b then d else with_index config needs (placed old ss d)).files x
    go true = has
    go false = Contains-append_left (placed old ss d).draft.files _ x (placed_files (record { draft = d; behind = old.kept; kept = [] }) ss x has)

-- ---- the same segments

same_segment : AreReadOnce → (k : Kept) (s : Records) → IsKept k → IsStored s → is_same k s ≡ true → k.segment ≡ s
same_segment again k s kept stored same = go (bytes_eq (seg_bytes k.segment) (seg_bytes s)) refl same
  where
    go : (b : Bool) → bytes_eq (seg_bytes k.segment) (seg_bytes s) ≡ b → (b && pointwise nat_eq k.segment.dead s.dead) ≡ true → k.segment ≡ s
    go false is rest = absurd (cc rest)
    go true is rest =
        let alike = one_segment again k.segment s kept.segment stored.own ((bytes_decides (seg_bytes k.segment) (seg_bytes s)).0 is) in
        let dead = (bytes_decides k.segment.dead s.dead).0 rest in
        λ i. record { records = (alike i).records; terms = (alike i).terms; dead = dead i }

pub same_segments : AreReadOnce → (ks : List Kept) (ss : List Records) → AllByRecursion IsKept ks → AreStored ss → are_same ks ss ≡ true → segments_in ks ≡ ss
unfolding are_same
same_segments again [] [] kept own same = refl
same_segments again [] (s ∷ ss) kept own same = absurd (cc same)
same_segments again (k ∷ ks) [] kept own same = absurd (cc same)
same_segments again (k ∷ ks) (s ∷ ss) kept own same = go (is_same k s) refl same (same_segments again ks ss kept.1 own.1)
  where
    go : (b : Bool) → is_same k s ≡ b → (b && are_same ks ss) ≡ true → (are_same ks ss ≡ true → segments_in ks ≡ ss) → segments_in (k ∷ ks) ≡ s ∷ ss
    go false is rest others = absurd (cc rest)
    go true is rest others =
        let first = same_segment again k s kept.0 own.0 is in
        λ i. first i ∷ others rest i

-- ---- what the index's part of a plan leads to

pub record IndexLed (ws : List Write) (config : Config) (old : Committed) (view : Labels) (ss : List Records) (d : Drafted) (b : Bool) (i i' : Held) : Type 0 where
  pub to : PartLeads ws Index (if b then None else Some (placed old ss d).draft.next) i i'
  pub left : b ≡ true → i' ≡ i
  pub reads : b ≡ false → index_in config view i'.commit (held_segments i') ≡ Ok ss
  pub number : option_map (λ c. c.0) i'.commit ≡ option_or (if b then None else Some (placed old ss d).draft.next) old.index
  pub there : i'.segments ≡ pairs (if b then old.kept else (placed old ss d).kept)
  pub documents : b ≡ false → segments_in (if b then old.kept else (placed old ss d).kept) ≡ ss

module _ (ws : List Write) (config : Config) (old : Committed) (view : Labels) (ss : List Records) (d : Drafted) (i : Held) (again : AreReadOnce)
    (later : (s : Records) → OpensLater config view view s) (alike : first_different config (kept_of config) ≡ None) (list : IsLabelList view)
    (olds : AllByRecursion IsKept old.kept) (own : AreStored ss) (pieces : List (List Doc)) (are : AllZip (IsSegmentOf view config) ss pieces)
    (from : old.next ≤ d.next) (below : NamedBelow old.next i) (one : AllByRecursion (λ s. held_segments i s.0 ≡ Some s.1) i.segments)
    (number : option_map (λ c. c.0) i.commit ≡ old.index) (there : i.segments ≡ pairs old.kept) where
  -- what the directory has
  abbrev IsHeld : ℕ × List ℕ → Type 0
  IsHeld s = (s.0 < old.next) × (held i.segments s.0 ≡ Some s.1) × Contains i.segments s

  held_once : (m : ℕ) (a b : List ℕ) → IsHeld (m, a) → IsHeld (m, b) → a ≡ b
  held_once m a b first second = cc (sym first.1 ∙ second.1)

  all_held : (xs : List (ℕ × List ℕ)) → AllByRecursion (λ s. s.0 < old.next) xs → AllByRecursion (λ s. held i.segments s.0 ≡ Some s.1) xs → AllByRecursion (Contains i.segments) xs → AllByRecursion IsHeld xs
  all_held [] low is has = tt
  all_held (x ∷ xs) low is has = ((low.0, is.0, has.0), all_held xs low.1 is.1 has.1)

  both : (ks : List Kept) → AllByRecursion IsKept ks → AllByRecursion (λ k. IsHeld (pair k)) ks → AllByRecursion (λ k. IsKept k × IsHeld (pair k)) ks
  both [] kept has = tt
  both (k ∷ ks) kept has = ((kept.0, has.0), both ks kept.1 has.1)

  are_placed : ArePlaced again old.next IsHeld (λ s is. is.0) held_once ss (placed old ss d)
  are_placed =
      let all = all_held i.segments (recursion_from_All (λ s. s.0 < old.next) i.segments below.segments) one (recursion_from_All (Contains i.segments) i.segments (λ k x low. contains_at i.segments k x low)) in
      let behind = both old.kept olds (all_under pair IsHeld old.kept (subst (AllByRecursion IsHeld) there all)) in
      place_more again old.next IsHeld (λ s is. is.0) held_once [] (record { draft = d; behind = old.kept; kept = [] }) ss
      (record { segments = refl; kept = tt; behind = behind; from = from; files = tt; one = tt }) own
    where
      contains_at : (xs : List (ℕ × List ℕ)) (k : ℕ) (x : ℕ × List ℕ) → k < length xs → Contains xs (get_or xs k x)
      contains_at xs k x low = Contains-get_or xs k x low

  module _ (index_again : IsIndexAgain config (length view) (placed old ss d)) (makes : (name : FileName) (bytes : List ℕ) → Contains (with_index config (length view) (placed old ss d)).files (name, bytes) → Makes name bytes ws) where
    abbrev number_after : ℕ
    number_after = (placed old ss d).draft.next

    abbrev commit : List ℕ
    commit = index_commit_bytes number_after (documents_listed (length view) (kept_of config) (parts_in (placed old ss d).kept))

    abbrev after : Held
    after = record { commit = Some (number_after, commit); segments = pairs (placed old ss d).kept }

    after_reads : index_in config view after.commit (held_segments after) ≡ Ok ss
    unfolding index_in agrees
    after_reads =
        let p = are_placed in
        let all_there = all_under pair (λ s. held (pairs (placed old ss d).kept) s.0 ≡ Some s.1) (placed old ss d).kept p.one in
        let on : GoesOn view view = (omega arith, take_all (length view) view (omega arith)) in
        let zip : AllZip (IsSegmentOf view config) (segments_in (placed old ss d).kept) pieces = subst (λ (xs : List Records). AllZip (IsSegmentOf view config) xs pieces) (sym p.segments) are in
        let reads = segments_written config view later list on (held_segments after) (placed old ss d).kept pieces p.kept all_there zip ∙ ap (λ xs. Ok xs) p.segments in
        let enough : nat_le (length view) (length view) ≡ true = search rules in
        rw (index_again, alike, enough) reads

    index_new : IndexLed ws config old view ss d false i after
    index_new =
        let p = are_placed in
        let files : (x : FileName × List ℕ) → Contains (placed old ss d).draft.files x → Contains (with_index config (length view) (placed old ss d)).files x = λ x has. Contains-append_left (placed old ss d).draft.files _ x has in
        record {
          to = record {
            commit = (commit, refl, makes (file Index Pending number_after) commit (Contains-push (placed old ss d).draft.files (file Index Pending number_after, commit)));
            segments = All-from_recursion (λ s. Contains i.segments s ⊎ Makes (file Index Segment s.0) s.1 ws) (pairs (placed old ss d).kept)
                (each (pairs (placed old ss d).kept) p.files (λ s has. makes (file Index Segment s.0) s.1 (files (file Index Segment s.0, s.1) has)));
          };
          left = λ is. absurd (cc is);
          reads = λ is. after_reads;
          number = refl;
          there = refl;
          documents = λ is. p.segments;
        }
      where
        each : (xs : List (ℕ × List ℕ)) → AllByRecursion (λ s. IsHeld s ⊎ ((old.next ≤ s.0) × (s.0 < (placed old ss d).draft.next) × Contains (placed old ss d).draft.files (file Index Segment s.0, s.1))) xs
            → ((s : ℕ × List ℕ) → Contains (placed old ss d).draft.files (file Index Segment s.0, s.1) → Makes (file Index Segment s.0) s.1 ws)
            → AllByRecursion (λ s. Contains i.segments s ⊎ Makes (file Index Segment s.0) s.1 ws) xs
        each [] files makes_it = tt
        each (x ∷ xs) files makes_it = (⊎_elim (λ old. inl old.2) (λ new. inr (makes_it x new.2)) files.0, each xs files.1 makes_it)

  index_kept : IndexLed ws config old view ss d true i i
  index_kept = record { to = refl; left = λ is. refl; reads = λ is. absurd (cc is); number = number; there = there; documents = λ is. absurd (cc is) }

  pub index_led : (IsTrue (not (is_index_left_out old ss)) → IsIndexAgain config (length view) (placed old ss d)) → ((name : FileName) (bytes : List ℕ) → Contains (index_drafted config (length view) old ss d).files (name, bytes) → Makes name bytes ws)
      → (i' : Held) × IndexLed ws config old view ss d (is_index_left_out old ss) i i'
  index_led written makes = go (is_index_left_out old ss) written makes
    where
      go : (b : Bool) → (IsTrue (not b) → IsIndexAgain config (length view) (placed old ss d))
          → ((name : FileName) (bytes : List ℕ) → Contains (if b then d else with_index config (length view) (placed old ss d)).files (name, bytes) → Makes name bytes ws)
          → (i' : Held) × IndexLed ws config old view ss d b i i'
      go true written makes = (i, index_kept)
      go false written makes = (after (written refl) makes, index_new (written refl) makes)
