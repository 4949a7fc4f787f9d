-- A commit leads from the files of a pair of directories to those of the new labels and segments.
use Rattle.std.proofs.Common.{◌≡◌, ◌+◌, ℕ, Bool, true, false, if◌then◌else◌, List, [], ◌∷◌, ◌++◌, length, map, Option, Some, None, IfSome, Ok, Contains, refl, sym, ap, ◌∙◌, subst, arith}
use Rattle.std.specs.Option.{option_map}
use Rattle.std.specs.List.{AllByRecursion, AllZip, fold}
use Rattle.std.proofs.lemmas.List.Folds.{fold_stays}
use Rattle.std.proofs.lemmas.List.Elements.{Contains-append_left, Contains-append_right, All-from_recursion}
use Rattle.facet_config.specs.Differences.{first_different, nearer, is_different, is_one_true}
use Rattle.facet_disk.specs.declared.name.Dir.{Dir}
use Rattle.facet_disk.specs.declared.name.Dir.TheVariants.{Taxonomy, Index}
use Rattle.facet_disk.specs.declared.name.Kind.TheVariants.{Segment, Pending, Commit}
use Rattle.facet_disk.specs.declared.name.FileName.{FileName}
use Rattle.facet_model.specs.Documents.{Doc}
use Rattle.facet_model.specs.Flags.{Config, flags}
use Rattle.facet_model.specs.Stored.{Records, IsSegmentOf}
use Rattle.facet_names.specs.Labels.{IsLabelList, GoesOn}
use Rattle.facet_names.proofs.LabelLists.{front_labels, Labels}
use Rattle.commit_calls.specs.declared.plan.Plan.{Plan}
use Rattle.commit_calls.specs.Held.{Held, NamedBelow, file}
use Rattle.commit_calls.specs.Plans.{Makes, PartLeads, Leads, IsPlan, IsAmong}
use Rattle.commit_file.specs.Commits.{kept_of}
use Rattle.seg_decoding.specs.Laws.{OpensLater, OpensAlike}
use Rattle.seg_documents.specs.Storing.{AreStored}
use Rattle.store_opening.specs.Files.{held_segments, taxonomy_in, index_in, files_of}
use Rattle.commit_plan.specs.Committed.{Committed, Kept, IsCommitted, segments_in}
use Rattle.commit_plan.specs.Drafts.{drafted, labels_first, nothing_drafted, kept_after, is_longer, is_index_left_out, commit_names, placed, committed_after, with_labels, with_index}
use Rattle.commit_plan.specs.Strays.{in_order}
use Rattle.commit_plan.proofs.InOrder.{in_order_has}
use Rattle.commit_plan.proofs.Cleaning.{named_after, no_stray}
use Rattle.commit_plan.specs.Plannings.{IsKnown, IsPlanOf, IsReadAgain, AreLed, AreFirst}
use Rattle.commit_plan.proofs.Keeping.{AreReadOnce, pairs, document_numbers}
use Rattle.commit_plan.proofs.LeadingIndex.{IndexLed, index_led, index_files, same_segments}
use Rattle.commit_plan.proofs.LeadingLabels.{LabelsLed, labels_led, made}
use Rattle.commit_plan.proofs.Numbers.{labels_numbers}
use Rattle.commit_plan.proofs.Held.{files_found, found_files, index_longer}
use Rattle.store_opening.proofs.Loops.{order_low}

-- ---- the same flags

same_twice : (b : Bool) → is_one_true b b ≡ false
same_twice true = refl
same_twice false = refl

pub no_different : (one other : Config) → ((dim : List ℕ) → flags one dim ≡ flags other dim) → first_different one other ≡ None
no_different one other same =
    ap (λ first. fold (nearer one other) first (map (λ d. d.0) other)) (fold_stays (nearer one other) None stays (map (λ d. d.0) one)) ∙ fold_stays (nearer one other) None stays (map (λ d. d.0) other)
  where
    alike : (dim : List ℕ) → is_different one other dim ≡ false
    alike dim = rw (same dim, same_twice (flags other dim).hierarchical, same_twice (flags other dim).multi_valued, same_twice (flags other dim).require_dim_count) refl

    stays : (dim : List ℕ) → nearer one other None dim ≡ None
    stays dim = rw (alike dim) refl

-- ---- files that are spared

commit_spared : (names : List FileName) (dir : Dir) (o : Option (ℕ × List ℕ)) (n : Option ℕ) → option_map (λ c. c.0) o ≡ n → ((name : FileName) → Contains names name → Contains (commit_names dir n) name → ⊥)
    → IfSome o (λ named. Contains names (file dir Commit named.0) → ⊥)
commit_spared names dir None n is apart = tt
commit_spared names dir (Some named) n is apart = λ has. apart (file dir Commit named.0) has (subst (λ (o : Option ℕ). Contains (commit_names dir o) (file dir Commit named.0)) is (0, omega arith, refl))

segments_spared : {P : Type 0} (number : P → ℕ) (names : List FileName) (dir : Dir) (xs : List (ℕ × List ℕ)) (ps : List P) → map (λ x. x.0) xs ≡ map number ps
    → ((name : FileName) → Contains names name → Contains (map (λ p. file dir Segment (number p)) ps) name → ⊥) → AllByRecursion (λ s. Contains names (file dir Segment s.0) → ⊥) xs
segments_spared number names dir [] ps same apart = tt
segments_spared number names dir (x ∷ xs) [] same apart = absurd (cc same)
segments_spared {P} number names dir (x ∷ xs) (p ∷ ps) same apart =
    let head : x.0 ≡ number p = cc same in
    let tail : map (λ x. x.0) xs ≡ map number ps = cc same in (
      (λ has. apart (file dir Segment x.0) has (0, omega arith, ap (file dir Segment) (sym head))),
      segments_spared number names dir xs ps tail (λ name has also. apart name has (Contains-append_right (file dir Segment (number p) ∷ []) (map (λ p. file dir Segment (number p)) ps) name also)),
    )

-- ---- the index as it was

left_out_same : AreReadOnce → (old : Committed) (segs ss : List Records) → IsCommitted old → AreStored ss → segments_in old.kept ≡ segs → is_index_left_out old ss ≡ true → segs ≡ ss
left_out_same again old segs ss committed own documents left = sym documents ∙ same_segments again old.kept ss committed.kept own left

-- ---- all of it

module _ (config : Config) (old : Committed) (view : Labels) (ss : List Records) (p : Plan) (new : Committed) (is : IsPlanOf config old view ss p new) (read : IsReadAgain config old view ss) where
  all_made : (name : FileName) (bytes : List ℕ) → Contains (drafted config old view ss).files (name, bytes) → Makes name bytes p.writes.items
  all_made name bytes has = made p.writes.items (drafted config old view ss).files is.files name bytes has

  labels_made : (name : FileName) (bytes : List ℕ) → Contains (labels_first old view).files (name, bytes) → Makes name bytes p.writes.items
  labels_made name bytes has = all_made name bytes (index_files config (length view) old ss (labels_first old view) (name, bytes) has)

  module _ (again : AreReadOnce) (later : (s : Records) → OpensLater config view view s) (alike : first_different config (kept_of config) ≡ None) (longer : (labels : Labels) → OpensAlike config labels view)
      (list : IsLabelList view) (committed : IsCommitted old) (own : AreStored ss) (pieces : List (List Doc)) (are : AllZip (IsSegmentOf view config) ss pieces)
      (t i : Held) (labels : Labels) (segs : List Records) (known : IsKnown config old t i labels segs) (on : GoesOn labels view) (below_t : NamedBelow old.next t) (below_i : NamedBelow old.next i) (one : AreFirst i) where
    before : (taxonomy_in t.commit (held_segments t) ≡ Ok labels) × (index_in config labels i.commit (held_segments i) ≡ Ok segs)
    before = found_files config t i labels segs known.files

    list_before : IsLabelList labels
    list_before =
        let some = order_low old.labels 1 old.label_parts committed.order in
        subst IsLabelList on.1 (front_labels view list (length labels) (omega (arith, some, known.label_count)) on.0)

    led_t : (t' : Held) × LabelsLed p.writes.items old view (is_longer old view) t t'
    led_t = labels_led p.writes.items old labels view t on below_t before.0 known.label_parts known.label_count known.taxonomy known.label_numbers read.labels labels_made

    led_i : (i' : Held) × IndexLed p.writes.items config old view ss (labels_first old view) (is_index_left_out old ss) i i'
    led_i = index_led p.writes.items config old view ss (labels_first old view) i again later alike list committed.kept own pieces are (labels_numbers old view).0 below_i one known.index known.kept read.documents all_made

    apart : (name : FileName) → Contains p.strays.items name → Contains (named_after config old view ss) name → ⊥
    apart name has also = no_stray old.listed (in_order (named_after config old view ss)) name (subst (λ (names : List FileName). Contains names name) is.strays has) (in_order_has (named_after config old view ss) name also)

    middle_files : files_of config led_t.0 i ≡ Ok (record { labels = view; segments = segs })
    middle_files = files_found config led_t.0 i view segs led_t.1.reads (index_longer config labels view (longer labels) list_before list on (held_segments i) i.commit segs before.1)

    leads_all : Leads p t i led_t.0 led_i.0
    leads_all =
        let after = committed_after config old view ss in
        let taxonomy_names = commit_names Taxonomy after.taxonomy in
        let label_names = map (λ part. file Taxonomy Segment part.number) after.label_parts in
        let index_names = commit_names Index after.index in
        let document_names = map (λ k. file Index Segment k.part.number) after.kept in
        record {
          room = is.room;
          to_taxonomy = subst (λ (n : Option ℕ). PartLeads p.writes.items Taxonomy n t led_t.0) (sym is.taxonomy) led_t.1.to;
          to_index = subst (λ (n : Option ℕ). PartLeads p.writes.items Index n i led_i.0) (sym is.index) led_i.1.to;
          taxonomy_spared = record {
            commit = commit_spared p.strays.items Taxonomy led_t.0.commit after.taxonomy led_t.1.number
                (λ name has also. apart name has (Contains-append_left taxonomy_names (label_names ++ (index_names ++ document_names)) name also));
            segments = All-from_recursion _ led_t.0.segments (segments_spared (λ part. part.number) p.strays.items Taxonomy led_t.0.segments after.label_parts led_t.1.numbers
                (λ name has also. apart name has (Contains-append_right taxonomy_names (label_names ++ (index_names ++ document_names)) name (Contains-append_left label_names (index_names ++ document_names) name also))));
          };
          index_spared = record {
            commit = commit_spared p.strays.items Index led_i.0.commit after.index led_i.1.number
                (λ name has also. apart name has (Contains-append_right taxonomy_names (label_names ++ (index_names ++ document_names)) name (Contains-append_right label_names (index_names ++ document_names) name (Contains-append_left index_names document_names name also))));
            segments = All-from_recursion _ led_i.0.segments (segments_spared (λ k. k.part.number) p.strays.items Index led_i.0.segments after.kept (numbers_of led_i.0.segments after.kept led_i.1.there)
                (λ name has also. apart name has (Contains-append_right taxonomy_names (label_names ++ (index_names ++ document_names)) name (Contains-append_right label_names (index_names ++ document_names) name (Contains-append_right index_names document_names name also)))));
          };
        }
      where
        numbers_of : (xs : List (ℕ × List ℕ)) (ks : List Kept) → xs ≡ pairs ks → map (λ x. x.0) xs ≡ map (λ k. k.part.number) ks
        numbers_of xs ks same = ap (λ (ys : List (ℕ × List ℕ)). map (λ x. x.0) ys) same ∙ document_numbers ks

    known_after : IsKnown config new led_t.0 led_i.0 view ss
    known_after = subst (λ (s : Committed). IsKnown config s led_t.0 led_i.0 view ss) (sym is.after) (record {
      files = files (is_index_left_out old ss) refl;
      taxonomy = led_t.1.number;
      label_numbers = led_t.1.numbers;
      label_parts = led_t.1.parts;
      label_count = led_t.1.count;
      index = led_i.1.number;
      kept = led_i.1.there;
      documents = documents (is_index_left_out old ss) refl;
    })
      where
        same : is_index_left_out old ss ≡ true → segs ≡ ss
        same left = left_out_same again old segs ss committed own known.documents left

        files : (b : Bool) → is_index_left_out old ss ≡ b → files_of config led_t.0 led_i.0 ≡ Ok (record { labels = view; segments = ss })
        files true left = subst (λ (x : Held). files_of config led_t.0 x ≡ Ok (record { labels = view; segments = ss })) (sym (led_i.1.left left)) (middle_files ∙ ap (λ xs. Ok (record { labels = view; segments = xs })) (same left))
        files false new_index = files_found config led_t.0 led_i.0 view ss led_t.1.reads (led_i.1.reads new_index)

        documents : (b : Bool) → is_index_left_out old ss ≡ b → segments_in (kept_after old view ss) ≡ ss
        documents true left = ap (λ b. segments_in (if b then old.kept else (placed old ss (labels_first old view)).kept)) left ∙ known.documents ∙ same left
        documents false new_index = led_i.1.documents new_index

    pub all_led : AreLed config p new t i view segs ss
    all_led = record { taxonomy_after = led_t.0; index_after = led_i.0; leads = leads_all; middle = middle_files; known = known_after }

  -- ---- it is a plan

  pub plan_is : IsPlan p
  plan_is = record {
    room = is.rises.0;
    rises = is.rises.1;
    taxonomy_pending = subst (λ (n : Option ℕ). IfSome n (λ m. IsAmong (file Taxonomy Pending m) p.writes.items)) (sym is.taxonomy) (taxonomy (is_longer old view) labels_made);
    index_pending = subst (λ (n : Option ℕ). IfSome n (λ m. IsAmong (file Index Pending m) p.writes.items)) (sym is.index) (index (is_index_left_out old ss) all_made);
  }
    where
      among : (name : FileName) (bytes : List ℕ) → Makes name bytes p.writes.items → IsAmong name p.writes.items
      among name bytes makes = (makes.0, makes.1, makes.2)

      taxonomy : (b : Bool) → ((name : FileName) (bytes : List ℕ) → Contains (if b then with_labels old view (nothing_drafted old.next) else nothing_drafted old.next).files (name, bytes) → Makes name bytes p.writes.items)
          → IfSome (if b then Some (old.next + 1) else None) (λ m. IsAmong (file Taxonomy Pending m) p.writes.items)
      taxonomy true makes = among (file Taxonomy Pending (old.next + 1)) _ (makes (file Taxonomy Pending (old.next + 1)) _ (1, omega arith, refl))
      taxonomy false makes = tt

      index : (b : Bool) → ((name : FileName) (bytes : List ℕ) → Contains (if b then labels_first old view else with_index config (length view) (placed old ss (labels_first old view))).files (name, bytes) → Makes name bytes p.writes.items)
          → IfSome (if b then None else Some (placed old ss (labels_first old view)).draft.next) (λ m. IsAmong (file Index Pending m) p.writes.items)
      index true makes = tt
      index false makes =
          let d = (placed old ss (labels_first old view)).draft in
          among (file Index Pending d.next) _ (makes (file Index Pending d.next) _ (Contains-append_right d.files _ (file Index Pending d.next, _) (0, omega arith, refl)))
