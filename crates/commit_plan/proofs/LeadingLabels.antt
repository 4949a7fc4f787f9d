-- The taxonomy's part of a commit leads from its files to those of a longer list of labels.
use Rattle.std.proofs.Common.{rules, ◌≡◌, ◌⊎◌, ◌≤◌, ◌<◌, ◌+◌, ◌-◌, inl, inr, ℕ, zero, suc, Bool, true, false, if◌then◌else◌, IsTrue, List, [], ◌∷◌, ◌++◌, length, map, take, Some, None, Ok, Contains, refl, sym, ap, ◌∙◌, subst, arith}
use Rattle.std.specs.Option.{option_map, option_or}
use Rattle.std.specs.List.{AllByRecursion}
use Rattle.std.specs.Cmp.Lexicographic.{bytes_decides}
use Rattle.std.proofs.lemmas.List.{map-append, take_all}
use Rattle.std.proofs.lemmas.List.Elements.{All-push, Contains-get_or, recursion_from_All, Contains-append_right}
use Rattle.sha2.specs.Sha256.{sha256}
use Rattle.facet_disk.specs.declared.name.Dir.TheVariants.{Taxonomy}
use Rattle.facet_disk.specs.declared.name.Kind.TheVariants.{Segment, Pending}
use Rattle.facet_disk.specs.declared.name.FileName.{FileName}
use Rattle.facet_names.specs.Labels.{GoesOn}
use Rattle.commit_calls.specs.declared.plan.Write.{Write}
use Rattle.commit_calls.specs.Held.{Held, NamedBelow, file}
use Rattle.commit_calls.specs.Outcomes.{file_view}
use Rattle.commit_calls.specs.Plans.{Makes, PartLeads}
use Rattle.commit_file.specs.declared.taxonomy.LabelPart.{LabelPart}
use Rattle.commit_file.specs.Commits.{labels_listed}
use Rattle.commit_file.specs.Spelling.{taxonomy_commit_bytes}
use Rattle.label_file.specs.LabelBytes.{labels_bytes}
use Rattle.label_file.specs.LabelReading.{stored_labels}
use Rattle.store_opening.specs.Files.{labels_of, taxonomy_in, held_segments}
use Rattle.commit_plan.specs.Committed.{Committed}
use Rattle.commit_plan.specs.Drafts.{new_label_part, label_parts_with, labels_first, is_longer, with_labels, nothing_drafted, AreLabelsAgain}
use Rattle.commit_plan.proofs.Held.{held, held_front, held_new, held_below, held_one, labels_more, labels_and, labels_one}
use Rattle.facet_names.proofs.LabelLists.{Labels}

-- a file that was drafted is made
pub made : (ws : List Write) (files : List (FileName × List ℕ)) → map file_view ws ≡ files → (name : FileName) (bytes : List ℕ) → Contains files (name, bytes) → Makes name bytes ws
made [] files is name bytes has = absurd (nothing (subst (λ (xs : List (FileName × List ℕ)). Contains xs (name, bytes)) (sym is) has))
  where
    nothing : Contains {X = FileName × List ℕ} [] (name, bytes) → ⊥
    nothing c = omega (arith, c.1)
made (w ∷ ws) files is name bytes has = go (subst (λ (xs : List (FileName × List ℕ)). Contains xs (name, bytes)) (sym is) has) (λ rest. made ws (map file_view ws) refl name bytes rest)
  where
    go : Contains (file_view w ∷ map file_view ws) (name, bytes) → (Contains (map file_view ws) (name, bytes) → Makes name bytes ws) → Makes name bytes (w ∷ ws)
    go (zero, low, here) others =
        let is : file_view w ≡ (name, bytes) = here in
        (w, (0, omega arith, refl), ap (λ (x : FileName × List ℕ). x.0) is, ap (λ (x : FileName × List ℕ). x.1) is)
    go (suc k, low, there) others =
        let rest = others (k, omega (arith, low), there) in
        (rest.0, Contains-append_right (w ∷ []) ws rest.0 rest.1, rest.2, rest.3)

-- what the taxonomy's part of a plan leads to
pub record LabelsLed (ws : List Write) (old : Committed) (view : Labels) (b : Bool) (t t' : Held) : Type 0 where
  pub to : PartLeads ws Taxonomy (if b then Some (old.next + 1) else None) t t'
  pub reads : taxonomy_in t'.commit (held_segments t') ≡ Ok view
  pub parts : labels_of (held_segments t') ([] ∷ []) (if b then label_parts_with old.next old view else old.label_parts) ≡ Ok view
  pub count : (if b then length view else old.labels) ≡ length view
  pub number : option_map (λ c. c.0) t'.commit ≡ option_or (if b then Some (old.next + 1) else None) old.taxonomy
  pub numbers : map (λ x. x.0) t'.segments ≡ map (λ part. part.number) (if b then label_parts_with old.next old view else old.label_parts)

module _ (ws : List Write) (old : Committed) (labels view : Labels) (t : Held) (on : GoesOn labels view) (below : NamedBelow old.next t)
    (reads : taxonomy_in t.commit (held_segments t) ≡ Ok labels) (parts : labels_of (held_segments t) ([] ∷ []) old.label_parts ≡ Ok labels) (count : old.labels ≡ length labels)
    (number : option_map (λ c. c.0) t.commit ≡ old.taxonomy) (numbers : map (λ x. x.0) t.segments ≡ map (λ part. part.number) old.label_parts) where
  -- with no new labels
  labels_same : is_longer old view ≡ false → labels ≡ view
  labels_same short =
      let le : length view ≤ old.labels = search (rules, short) in
      sym on.1 ∙ take_all (length labels) view (omega (arith, le, count))

  labels_kept : is_longer old view ≡ false → LabelsLed ws old view false t t
  labels_kept short =
      let same = labels_same short in
      record { to = refl; reads = reads ∙ ap (λ l. Ok l) same; parts = parts ∙ ap (λ l. Ok l) same; count = count ∙ ap (λ (l : Labels). length l) same; number = number; numbers = numbers }

  module _ (again : AreLabelsAgain old view old.next) (makes_segment : Makes (file Taxonomy Segment old.next) (labels_bytes view old.labels) ws)
      (makes_pending : Makes (file Taxonomy Pending (old.next + 1)) (taxonomy_commit_bytes (old.next + 1) (labels_listed (length view) (label_parts_with old.next old view))) ws) where
    abbrev bytes : List ℕ
    bytes = labels_bytes view old.labels

    abbrev commit : List ℕ
    commit = taxonomy_commit_bytes (old.next + 1) (labels_listed (length view) (label_parts_with old.next old view))

    abbrev after : Held
    after = record { commit = Some (old.next + 1, commit); segments = t.segments ++ (old.next, bytes) ∷ [] }

    all_parts : labels_of (held_segments after) ([] ∷ []) (label_parts_with old.next old view) ≡ Ok view
    all_parts =
        let part = new_label_part old.next old.labels view in
        let known : take old.labels view ≡ labels = ap (λ n. take n view) count ∙ on.1 in
        let new : stored_labels labels part.first part.count bytes ≡ Ok view = subst (λ (l : Labels). stored_labels l old.labels (length view - old.labels) bytes ≡ Ok view) known again.labels in
        let low : AllByRecursion (λ s. s.0 < old.next) t.segments = recursion_from_All (λ s. s.0 < old.next) t.segments below.segments in
        let there : held after.segments old.next ≡ Some bytes = held_new t.segments ((old.next, bytes) ∷ []) old.next (held_below t.segments old.next low) ∙ held_one old.next bytes in
        labels_and (held_segments after) ([] ∷ []) old.label_parts (part ∷ []) labels view
        (labels_more (held_segments t) (held_segments after) (held_front t.segments ((old.next, bytes) ∷ [])) ([] ∷ []) old.label_parts labels parts)
        (labels_one (held_segments after) labels view part bytes there refl ((bytes_decides (sha256 bytes) (sha256 bytes)).1 refl) new)

    all_read : taxonomy_in after.commit (held_segments after) ≡ Ok view
    unfolding taxonomy_in
    all_read = rw again.commit all_parts

    labels_new : LabelsLed ws old view true t after
    labels_new = record {
      to = record {
        commit = (commit, refl, makes_pending);
        segments = All-push (λ s. Contains t.segments s ⊎ Makes (file Taxonomy Segment s.0) s.1 ws) t.segments (old.next, bytes) (λ k d low. inl (Contains-get_or t.segments k d low)) (inr makes_segment);
      };
      reads = all_read;
      parts = all_parts;
      count = refl;
      number = refl;
      numbers = map-append (λ x. x.0) t.segments ((old.next, bytes) ∷ []) ∙ ap (λ xs. xs ++ old.next ∷ []) numbers ∙ sym (map-append (λ (part : LabelPart). part.number) old.label_parts (new_label_part old.next old.labels view ∷ []));
    }

  pub labels_led : (IsTrue (is_longer old view) → AreLabelsAgain old view old.next) → ((name : FileName) (bytes : List ℕ) → Contains (labels_first old view).files (name, bytes) → Makes name bytes ws)
      → (t' : Held) × LabelsLed ws old view (is_longer old view) t t'
  labels_led again makes = go (is_longer old view) refl again makes
    where
      go : (b : Bool) → is_longer old view ≡ b → (IsTrue b → AreLabelsAgain old view old.next)
          → ((name : FileName) (bytes : List ℕ) → Contains (if b then with_labels old view (nothing_drafted old.next) else nothing_drafted old.next).files (name, bytes) → Makes name bytes ws)
          → (t' : Held) × LabelsLed ws old view b t t'
      go false short again makes = (t, labels_kept short)
      go true long again makes =
          let a = again refl in
          let segment = makes (file Taxonomy Segment old.next) (labels_bytes view old.labels) (0, omega arith, refl) in
          let pending = makes (file Taxonomy Pending (old.next + 1)) (taxonomy_commit_bytes (old.next + 1) (labels_listed (length view) (label_parts_with old.next old view))) (1, omega arith, refl) in
          (after a segment pending, labels_new a segment pending)
