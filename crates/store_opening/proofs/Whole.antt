-- What files stand for, by the first part that fails.
use Rattle.std.proofs.Common.{◌≡◌, ℕ, List, [], ◌∷◌, Option, Some, None, Result, Ok, Err, ap, ◌∙◌}
use Rattle.std.specs.Prelude.{length}
use Rattle.facet_names.proofs.LabelLists.{Labels}
use Rattle.facet_codec.specs.Faults.{told_as}
use Rattle.facet_codec.specs.Reading.{◌>>=◌}
use Rattle.facet_disk.specs.declared.name.Dir.TheVariants.{Taxonomy, Index}
use Rattle.facet_disk.specs.declared.name.Kind.TheVariants.{Commit}
use Rattle.facet_disk.specs.Images.{Image}
use Rattle.facet_model.specs.Flags.{Config}
use Rattle.facet_model.specs.Stored.{Records}
use Rattle.commit_calls.specs.Held.{file, newest_file}
use Rattle.commit_file.specs.declared.fault.FileFault.{FileFault}
use Rattle.commit_file.specs.Commits.{TaxonomyListing, IndexListing}
use Rattle.commit_file.specs.Reading.{taxonomy_commit, index_commit}
use Rattle.store_opening.specs.declared.fault.OpenFault.{OpenFault}
use Rattle.store_opening.specs.Files.{Segments, segments_in, greatest_number, unspent, of_file, labels_of, taxonomy_in, agrees, segments_of, index_in, files}

abbrev Answer : Type 0 → Type 0
Answer A = Result A OpenFault

-- ---- the taxonomy

module _ (segments : Segments) (o : Option (ℕ × List ℕ)) where
  pub taxonomy_none : o ≡ None → taxonomy_in o segments ≡ Ok ([] ∷ [])
  unfolding taxonomy_in
  taxonomy_none is = ap (λ (x : Option (ℕ × List ℕ)). taxonomy_in x segments) is

  module _ (n : ℕ) (bytes : List ℕ) (is : o ≡ Some (n, bytes)) where
    pub taxonomy_unread : (e : OpenFault) → told_as (of_file (file Taxonomy Commit n)) (taxonomy_commit n bytes) ≡ Err e → taxonomy_in o segments ≡ Err e
    unfolding taxonomy_in
    taxonomy_unread e h = ap (λ (x : Option (ℕ × List ℕ)). taxonomy_in x segments) is ∙ ap (λ (r : Answer TaxonomyListing). r >>= λ commit. labels_of segments ([] ∷ []) commit.parts) h

    pub taxonomy_read : (c : TaxonomyListing) → taxonomy_commit n bytes ≡ Ok c → taxonomy_in o segments ≡ labels_of segments ([] ∷ []) c.parts
    unfolding taxonomy_in
    taxonomy_read c h = ap (λ (x : Option (ℕ × List ℕ)). taxonomy_in x segments) is
        ∙ ap (λ (r : Result TaxonomyListing FileFault). told_as (of_file (file Taxonomy Commit n)) r >>= λ commit. labels_of segments ([] ∷ []) commit.parts) h

-- ---- the index

module _ (config : Config) (labels : Labels) (segments : Segments) (o : Option (ℕ × List ℕ)) where
  pub index_none : o ≡ None → index_in config labels o segments ≡ Ok []
  unfolding index_in
  index_none is = ap (λ (x : Option (ℕ × List ℕ)). index_in config labels x segments) is

  module _ (n : ℕ) (bytes : List ℕ) (is : o ≡ Some (n, bytes)) where
    pub index_unread : (e : OpenFault) → told_as (of_file (file Index Commit n)) (index_commit n bytes) ≡ Err e → index_in config labels o segments ≡ Err e
    unfolding index_in
    index_unread e h = ap (λ (x : Option (ℕ × List ℕ)). index_in config labels x segments) is
        ∙ ap (λ (r : Answer IndexListing). r >>= λ commit. agrees config (length labels) commit >>= λ agreed. segments_of config labels commit.needs segments commit.parts) h

    module _ (c : IndexListing) (h : index_commit n bytes ≡ Ok c) where
      at : index_in config labels o segments ≡ (agrees config (length labels) c >>= λ agreed. segments_of config labels c.needs segments c.parts)
      unfolding index_in
      at = ap (λ (x : Option (ℕ × List ℕ)). index_in config labels x segments) is
          ∙ ap (λ (r : Result IndexListing FileFault). told_as (of_file (file Index Commit n)) r >>= λ commit. agrees config (length labels) commit >>= λ agreed. segments_of config labels commit.needs segments commit.parts) h

      pub index_other : (e : OpenFault) → agrees config (length labels) c ≡ Err e → index_in config labels o segments ≡ Err e
      index_other e other = at ∙ ap (λ (r : Answer (Unit {0})). r >>= λ agreed. segments_of config labels c.needs segments c.parts) other

      pub index_read : agrees config (length labels) c ≡ Ok tt → index_in config labels o segments ≡ segments_of config labels c.needs segments c.parts
      index_read same = at ∙ ap (λ (r : Answer (Unit {0})). r >>= λ agreed. segments_of config labels c.needs segments c.parts) same

-- ---- all of it

module _ (config : Config) (c : Image) where
  pub files_spent : (e : OpenFault) → unspent (greatest_number c) ≡ Err e → files config c ≡ Err e
  unfolding files
  files_spent e h = ap (λ (r : Answer (Unit {0})). r >>= λ below. taxonomy_in (newest_file Taxonomy c) (segments_in Taxonomy c) >>= λ labels.
      index_in config labels (newest_file Index c) (segments_in Index c) >>= λ segments. Ok (record { labels = labels; segments = segments })) h

  module _ (below : unspent (greatest_number c) ≡ Ok tt) where
    after : files config c ≡ (taxonomy_in (newest_file Taxonomy c) (segments_in Taxonomy c) >>= λ labels.
        index_in config labels (newest_file Index c) (segments_in Index c) >>= λ segments. Ok (record { labels = labels; segments = segments }))
    unfolding files
    after = ap (λ (r : Answer (Unit {0})). r >>= λ below. taxonomy_in (newest_file Taxonomy c) (segments_in Taxonomy c) >>= λ labels.
        index_in config labels (newest_file Index c) (segments_in Index c) >>= λ segments. Ok (record { labels = labels; segments = segments })) below

    pub files_taxonomy : (e : OpenFault) → taxonomy_in (newest_file Taxonomy c) (segments_in Taxonomy c) ≡ Err e → files config c ≡ Err e
    files_taxonomy e h = after ∙ ap (λ (r : Answer Labels). r >>= λ labels. index_in config labels (newest_file Index c) (segments_in Index c) >>= λ segments. Ok (record { labels = labels; segments = segments })) h

    module _ (labels : Labels) (read : taxonomy_in (newest_file Taxonomy c) (segments_in Taxonomy c) ≡ Ok labels) where
      behind : files config c ≡ (index_in config labels (newest_file Index c) (segments_in Index c) >>= λ segments. Ok (record { labels = labels; segments = segments }))
      behind = after ∙ ap (λ (r : Answer Labels). r >>= λ labels. index_in config labels (newest_file Index c) (segments_in Index c) >>= λ segments. Ok (record { labels = labels; segments = segments })) read

      pub files_index : (e : OpenFault) → index_in config labels (newest_file Index c) (segments_in Index c) ≡ Err e → files config c ≡ Err e
      files_index e h = behind ∙ ap (λ (r : Answer (List Records)). r >>= λ segments. Ok (record { labels = labels; segments = segments })) h

      pub files_read : (segments : List Records) → index_in config labels (newest_file Index c) (segments_in Index c) ≡ Ok segments → files config c ≡ Ok (record { labels = labels; segments = segments })
      files_read segments h = behind ∙ ap (λ (r : Answer (List Records)). r >>= λ segments. Ok (record { labels = labels; segments = segments })) h
