-- The newest commit files, and the segments that they name, are there.
use Rattle.std.proofs.Common.{◌≡◌, ◌≢◌, refl, sym, ap, ◌∙◌, ⊎_elim, arith, ℕ, List, [], ◌∷◌, ◌++◌, map, Option, Some, None, Contains}
use Rattle.std.specs.Option.{option_map, option_and_then}
use Rattle.std.specs.List.{All, AllByRecursion}
use Rattle.std.proofs.lemmas.List.Elements.{All-contains, All-from_recursion, recursion_from_All, Contains-push_cases, Contains-append_cases}
use Rattle.facet_disk.specs.declared.name.Dir.{Dir}
use Rattle.facet_disk.specs.declared.name.Dir.TheVariants.{Taxonomy, Index}
use Rattle.facet_disk.specs.declared.name.Kind.TheVariants.{Segment, Commit}
use Rattle.facet_disk.specs.declared.name.FileName.{FileName}
use Rattle.facet_disk.specs.Images.{Image, Told}
use Rattle.facet_model.specs.Flags.{Config}
use Rattle.facet_model.specs.Stored.{Records}
use Rattle.commit_calls.specs.Held.{Held, Holds, file, newest, newest_file}
use Rattle.store_opening.specs.Files.{Segments, segments_in}
use Rattle.store_opening.specs.Newest.{AreListed}
use Rattle.store_opening.specs.Settled.{before, named, there, held_in}
use Rattle.commit_plan.specs.Committed.{Committed}
use Rattle.commit_plan.specs.Drafts.{commit_names, committed_after}
use Rattle.commit_plan.specs.Plannings.{IsKnown}
use Rattle.commit_store.specs.Promised.{HasNamed}
use Rattle.commit_plan.specs.Results.{committed_told}
use Rattle.commit_plan.proofs.Cleaning.{named_after, left_named}
use Rattle.commit_plan.proofs.InOrder.{in_order_only, in_order_once}
use Rattle.commit_plan.proofs.Keeping.{all_mapped, document_numbers}
use Rattle.commit_plan.proofs.Remaining.{named_stays}
use Rattle.std.proofs.lemmas.Option.{same_Some}
use Rattle.facet_names.proofs.LabelLists.{Labels}

-- the newest commit file
commit_there : (dir : Dir) (c : Image) (o : Option (ℕ × List ℕ)) (number : Option ℕ) → newest_file dir c ≡ o → option_map (λ x. x.0) o ≡ number → (n : FileName) → Contains (commit_names dir number) n → c n ≢ None
commit_there dir c o None is same n has none = omega (arith, has.1)
commit_there dir c o (Some k) is same n has none = go (newest dir c) refl (ap (option_map (λ (x : ℕ × List ℕ). x.0)) is ∙ same)
  where
    name : file dir Commit k ≡ n
    name = ⊎_elim (λ nothing. absurd (omega (arith, nothing.1))) (λ one. one) (Contains-push_cases [] (file dir Commit k) n has)

    found : (m : ℕ) (b : Option (List ℕ)) → c (file dir Commit m) ≡ b → option_map (λ (x : ℕ × List ℕ). x.0) (option_map (λ bytes. (m, bytes)) b) ≡ Some k → ⊥
    found m None at e = cc e
    found m (Some bytes) at e = absurd (cc (sym at ∙ ap (λ (x : ℕ). c (file dir Commit x)) (same_Some _ _ e) ∙ ap c name ∙ none))

    go : (m : Option ℕ) → newest dir c ≡ m → option_map (λ (x : ℕ × List ℕ). x.0) (option_and_then (λ n. option_map (λ bytes. (n, bytes)) (c (file dir Commit n))) m) ≡ Some k → ⊥
    go None at e = cc e
    go (Some m) at e = found m (c (file dir Commit m)) refl e

-- the segments that it names
segments_there : {P : Type 0} (number : P → ℕ) (dir : Dir) (c : Image) (xs : List (ℕ × List ℕ)) (ps : List P) → map (λ x. x.0) xs ≡ map number ps → AllByRecursion (λ s. c (file dir Segment s.0) ≡ Some s.1) xs
    → AllByRecursion (λ p. c (file dir Segment (number p)) ≢ None) ps
segments_there number dir c xs [] same all = tt
segments_there number dir c [] (p ∷ ps) same all = absurd (cc same)
segments_there {P} number dir c (x ∷ xs) (p ∷ ps) same all =
    let head : x.0 ≡ number p = cc same in
    let tail : map (λ x. x.0) xs ≡ map number ps = cc same in (
      (λ none. absurd (cc (sym all.0 ∙ ap (λ m. c (file dir Segment m)) head ∙ none))),
      segments_there number dir c xs ps tail all.1,
    )

-- the segments that are there, with their bytes
there_again : (f : Segments) (ns : List ℕ) → AllByRecursion (λ s. f s.0 ≡ Some s.1) (there f ns)
there_again f [] = tt
there_again f (n ∷ ns) = go (there_again f ns) (f n) refl
  where
    go : AllByRecursion (λ s. f s.0 ≡ Some s.1) (there f ns) → (o : Option (List ℕ)) → f n ≡ o → AllByRecursion (λ s. f s.0 ≡ Some s.1) (before n o (there f ns))
    go rest None e = rest
    go rest (Some bytes) e = (e, rest)

module _ (config : Config) (st : Committed) (t i : Held) (labels : Labels) (segs : List Records) (known : IsKnown config st t i labels segs) (c : Image) (taxonomy_held : Holds Taxonomy t c) (index_held : Holds Index i c) where
  -- each file of a directory's names
  segment_there : {P : Type 0} (number : P → ℕ) (dir : Dir) (xs : List (ℕ × List ℕ)) (ps : List P) → map (λ x. x.0) xs ≡ map number ps → All (λ s. c (file dir Segment s.0) ≡ Some s.1) xs
      → (n : FileName) → Contains (map (λ p. file dir Segment (number p)) ps) n → c n ≢ None
  segment_there number dir xs ps same all n has = All-contains (λ m. c m ≢ None) (map (λ p. file dir Segment (number p)) ps) n
      (All-from_recursion (λ m. c m ≢ None) (map (λ p. file dir Segment (number p)) ps) (all_mapped (λ p. file dir Segment (number p)) (λ m. c m ≢ None) ps
      (segments_there number dir c xs ps same (recursion_from_All (λ s. c (file dir Segment s.0) ≡ Some s.1) xs all)))) has

  pub named_there : HasNamed c st
  named_there n has = ⊎_elim
      (λ one. commit_there Taxonomy c t.commit st.taxonomy taxonomy_held.commit known.taxonomy n one)
      (λ rest. ⊎_elim
      (λ one. segment_there (λ part. part.number) Taxonomy t.segments st.label_parts known.label_numbers taxonomy_held.segments n one)
      (λ more. ⊎_elim
      (λ one. commit_there Index c i.commit st.index index_held.commit known.index n one)
      (λ one. segment_there (λ k. k.part.number) Index i.segments st.kept (ap (λ (xs : List (ℕ × List ℕ)). map (λ x. x.0) xs) known.kept ∙ document_numbers st.kept) index_held.segments n one)
      (Contains-append_cases index_names document_names n more))
      (Contains-append_cases label_names (index_names ++ document_names) n rest))
      (Contains-append_cases taxonomy_names (label_names ++ (index_names ++ document_names)) n has)
    where
      taxonomy_names : List FileName
      taxonomy_names = commit_names Taxonomy st.taxonomy

      label_names : List FileName
      label_names = map (λ part. file Taxonomy Segment part.number) st.label_parts

      index_names : List FileName
      index_names = commit_names Index st.index

      document_names : List FileName
      document_names = map (λ k. file Index Segment k.part.number) st.kept

-- what is known of the files that were read
pub read_named : (config : Config) (st : Committed) (c : Image) (labels : Labels) (segs : List Records) → IsKnown config st (held_in Taxonomy c) (held_in Index c) labels segs → HasNamed c st
read_named config st c labels segs known = named_there config st (held_in Taxonomy c) (held_in Index c) labels segs known c (held Taxonomy) (held Index)
  where
    held : (dir : Dir) → Holds dir (held_in dir c) c
    held dir = record {
      commit = refl;
      segments = All-from_recursion (λ s. c (file dir Segment s.0) ≡ Some s.1) (held_in dir c).segments (there_again (segments_in dir c) (named dir (newest_file dir c)));
    }

-- after a commit the files are those of the newest commits alone
pub are_listed : (config : Config) (old : Committed) (view : Labels) (ss : List Records) (s : Told) → HasNamed s.files old → AreListed s.files old.listed → (u : Told) → u ≡ committed_told config old view ss s
    → AreListed u.files (committed_after config old view ss).listed
are_listed config old view ss s before listed u is =
    let names = named_after config old view ss in
    record {
      each = λ n has none. named_stays config old view ss s before n (in_order_only names n has) (sym (ap (λ (t : Told). t.files n) is) ∙ none);
      all = λ n some. left_named config old view ss s listed.all n (λ none. some (ap (λ (t : Told). t.files n) is ∙ none));
      once = in_order_once names;
    }
