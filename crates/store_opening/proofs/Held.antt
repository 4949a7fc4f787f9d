-- What two directories hold, and the files of an image.
use Rattle.std.proofs.Common.{◌≡◌, ◌≢◌, ◌≤◌, ◌<◌, ◌^◌, ℕ, Bool, true, false, ◌||◌, List, [], ◌∷◌, map, Option, Some, None, Result, Ok, Err, refl, sym, ap, subst, ◌∙◌, arith, ⊎_elim, nat_eq, get_or, if◌then◌else◌}
use Rattle.std.specs.Prelude.{IfSome, length, find}
use Rattle.std.specs.Option.{option_map}
use Rattle.std.specs.List.{AllByRecursion, list_any}
use Rattle.std.proofs.lemmas.Bool.{cases_lt}
use Rattle.std.proofs.lemmas.Bool.Decides.{nat_tests}
use Rattle.facet_codec.specs.Faults.{told_as}
use Rattle.facet_codec.specs.Reading.{◌>>=◌}
use Rattle.facet_codec.proofs.Taking.{done, bind_ok}
use Rattle.facet_disk.specs.declared.name.Dir.{Dir}
use Rattle.facet_disk.specs.declared.name.Dir.TheVariants.{Taxonomy, Index}
use Rattle.facet_disk.specs.declared.name.Kind.TheVariants.{Segment, Commit}
use Rattle.facet_disk.specs.declared.name.FileName.{FileName}
use Rattle.facet_disk.specs.declared.disk.Disk.{Ghosts}
use Rattle.facet_disk.specs.Images.{Image, Told}
use Rattle.facet_model.specs.Flags.{Config}
use Rattle.facet_model.specs.Stored.{Records}
use Rattle.commit_calls.specs.Held.{Held, Holds, Stands, Below, NamedBelow, file, newest_file}
use Rattle.commit_calls.proofs.Newest.{IsNewest, newest_there}
use Rattle.commit_file.specs.declared.fault.FileFault.{FileFault}
use Rattle.commit_file.specs.declared.taxonomy.LabelPart.{LabelPart}
use Rattle.commit_file.specs.LiveParts.{LivePart}
use Rattle.commit_file.specs.Commits.{TaxonomyListing, IndexListing}
use Rattle.commit_file.specs.Reading.{taxonomy_commit, index_commit}
use Rattle.label_file.specs.LabelReading.{stored_labels}
use Rattle.seg_decoding.specs.Opening.{stored_segment}
use Rattle.seg_file.specs.Live.{with_dead}
use Rattle.store_opening.specs.declared.fault.OpenFault.{OpenFault}
use Rattle.store_opening.specs.declared.fault.OpenFault.TheVariants.{Malformed}
use Rattle.store_opening.specs.Files.{Found, Segments, segments_in, greatest_number, unspent, of_file, segment_bytes, labels_behind, labels_of, taxonomy_in, agrees, segment_of, segments_of, index_in, files, held_segments, files_of}
use Rattle.store_opening.specs.Quiet.{IsQuiet}
use Rattle.store_opening.specs.Settled.{label_numbers, document_numbers, named, before, there, held_in, IsSettled}
use Rattle.store_opening.proofs.Greatest.{small_unspent, unspent_small}
use Rattle.store_opening.proofs.Whole.{files_read}
use Rattle.std.proofs.lemmas.List.Elements.{All-from_recursion, recursion_from_All}

-- ---- bytes that are the same under each number that a commit names

abbrev AreSame : Segments → Segments → List ℕ → Type 0
AreSame f g numbers = AllByRecursion (λ n. f n ≡ g n) numbers

module _ (f g : Segments) where
  behind_same : (known : List (List (List ℕ))) (part : LabelPart) → f part.number ≡ g part.number → labels_behind f known part ≡ labels_behind g known part
  unfolding labels_behind
  behind_same known part same = ap (λ (o : Option (List ℕ)). segment_bytes (file Taxonomy Segment part.number) part.digest o >>= λ bytes.
      told_as (Malformed (file Taxonomy Segment part.number)) (stored_labels known part.first part.count bytes)) same

  labels_same : (known : List (List (List ℕ))) (parts : List LabelPart) → AreSame f g (map (λ part. part.number) parts) → labels_of f known parts ≡ labels_of g known parts
  unfolding labels_of
  labels_same known [] all = refl
  labels_same known (part ∷ parts) all = ap (λ (r : Result (List (List (List ℕ))) OpenFault). r >>= λ longer. labels_of f longer parts) (behind_same known part all.0) ∙ go (λ longer. labels_same longer parts all.1) (labels_behind g known part)
    where
      go : ((longer : List (List (List ℕ))) → labels_of f longer parts ≡ labels_of g longer parts) → (r : Result (List (List (List ℕ))) OpenFault) → (r >>= λ longer. labels_of f longer parts) ≡ (r >>= λ longer. labels_of g longer parts)
      go rest (Ok longer) = rest longer
      go rest (Err e) = refl

  segment_same : (config : Config) (labels : List (List (List ℕ))) (needs : ℕ) (p : LivePart) → f p.part.number ≡ g p.part.number → segment_of config labels needs f p ≡ segment_of config labels needs g p
  unfolding segment_of
  segment_same config labels needs p same = ap (λ (o : Option (List ℕ)). segment_bytes (file Index Segment p.part.number) p.part.digest o >>= λ bytes.
      told_as (Malformed (file Index Segment p.part.number)) (stored_segment config labels needs p.part.documents bytes) >>= λ stored. done (with_dead stored p.dead)) same

  segments_same : (config : Config) (labels : List (List (List ℕ))) (needs : ℕ) (parts : List LivePart) → AreSame f g (map (λ p. p.part.number) parts) → segments_of config labels needs f parts ≡ segments_of config labels needs g parts
  unfolding segments_of
  segments_same config labels needs [] all = refl
  segments_same config labels needs (p ∷ parts) all =
      ap (λ (r : Result Records OpenFault). r >>= λ first. segments_of config labels needs f parts >>= λ others. Ok (first ∷ others)) (segment_same config labels needs p all.0)
      ∙ ap (λ (r : Result (List Records) OpenFault). segment_of config labels needs g p >>= λ first. r >>= λ others. Ok (first ∷ others)) (segments_same config labels needs parts all.1)

  taxonomy_same : (o : Option (ℕ × List ℕ)) → AreSame f g (named Taxonomy o) → taxonomy_in o f ≡ taxonomy_in o g
  unfolding taxonomy_in
  taxonomy_same None all = refl
  taxonomy_same (Some (n, bytes)) all = go (taxonomy_commit n bytes) all
    where
      go : (r : Result TaxonomyListing FileFault) → AreSame f g (label_numbers r)
          → (told_as (of_file (file Taxonomy Commit n)) r >>= λ commit. labels_of f ([] ∷ []) commit.parts) ≡ (told_as (of_file (file Taxonomy Commit n)) r >>= λ commit. labels_of g ([] ∷ []) commit.parts)
      go (Ok commit) all = labels_same ([] ∷ []) commit.parts all
      go (Err e) all = refl

  index_same : (config : Config) (labels : List (List (List ℕ))) (o : Option (ℕ × List ℕ)) → AreSame f g (named Index o) → index_in config labels o f ≡ index_in config labels o g
  unfolding index_in
  index_same config labels None all = refl
  index_same config labels (Some (n, bytes)) all = go (index_commit n bytes) all
    where
      go : (r : Result IndexListing FileFault) → AreSame f g (document_numbers r)
          → (told_as (of_file (file Index Commit n)) r >>= λ commit. agrees config (length labels) commit >>= λ agreed. segments_of config labels commit.needs f commit.parts)
          ≡ (told_as (of_file (file Index Commit n)) r >>= λ commit. agrees config (length labels) commit >>= λ agreed. segments_of config labels commit.needs g commit.parts)
      go (Ok commit) all = ap (λ (r : Result (List Records) OpenFault). agrees config (length labels) commit >>= λ agreed. r) (segments_same config labels commit.needs commit.parts all)
      go (Err e) all = refl

-- ---- bytes that were read are there

bytes_some : (name : FileName) (kept : List ℕ) (o : Option (List ℕ)) (bytes : List ℕ) → segment_bytes name kept o ≡ Ok bytes → (b : List ℕ) × (o ≡ Some b)
unfolding segment_bytes
bytes_some name kept None bytes e = absurd (cc e)
bytes_some name kept (Some b) bytes e = (b, refl)

abbrev AreThere : Segments → List ℕ → Type 0
AreThere g numbers = AllByRecursion (λ n. (b : List ℕ) × (g n ≡ Some b)) numbers

module _ (g : Segments) where
  labels_there : (known l : List (List (List ℕ))) (parts : List LabelPart) → labels_of g known parts ≡ Ok l → AreThere g (map (λ part. part.number) parts)
  unfolding labels_of labels_behind
  labels_there known l [] e = tt
  labels_there known l (part ∷ parts) e =
      let a = bind_ok (labels_behind g known part) (λ longer. labels_of g longer parts) l e in
      let b = bind_ok (segment_bytes (file Taxonomy Segment part.number) part.digest (g part.number)) (λ bytes. told_as (Malformed (file Taxonomy Segment part.number)) (stored_labels known part.first part.count bytes)) a.0 a.1 in
      (bytes_some (file Taxonomy Segment part.number) part.digest (g part.number) b.0 b.1, labels_there a.0 l parts a.2)

  segments_there : (config : Config) (labels : List (List (List ℕ))) (needs : ℕ) (l : List Records) (parts : List LivePart) → segments_of config labels needs g parts ≡ Ok l → AreThere g (map (λ p. p.part.number) parts)
  unfolding segments_of segment_of
  segments_there config labels needs l [] e = tt
  segments_there config labels needs l (p ∷ parts) e =
      let a = bind_ok (segment_of config labels needs g p) (λ first. segments_of config labels needs g parts >>= λ others. Ok (first ∷ others)) l e in
      let b = bind_ok (segment_bytes (file Index Segment p.part.number) p.part.digest (g p.part.number)) (λ bytes. told_as (Malformed (file Index Segment p.part.number)) (stored_segment config labels needs p.part.documents bytes) >>= λ stored. done (with_dead stored p.dead)) a.0 a.1 in
      let d = bind_ok (segments_of config labels needs g parts) (λ others. Ok (a.0 ∷ others)) l a.2 in
      (bytes_some (file Index Segment p.part.number) p.part.digest (g p.part.number) b.0 b.1, segments_there config labels needs d.0 parts d.1)

  pub taxonomy_there : (o : Option (ℕ × List ℕ)) (l : List (List (List ℕ))) → taxonomy_in o g ≡ Ok l → AreThere g (named Taxonomy o)
  unfolding taxonomy_in
  taxonomy_there None l e = tt
  taxonomy_there (Some (n, bytes)) l e = go (taxonomy_commit n bytes) e
    where
      go : (r : Result TaxonomyListing FileFault) → (told_as (of_file (file Taxonomy Commit n)) r >>= λ commit. labels_of g ([] ∷ []) commit.parts) ≡ Ok l → AreThere g (label_numbers r)
      go (Ok commit) e = labels_there ([] ∷ []) l commit.parts e
      go (Err d) e = tt

  pub index_there : (config : Config) (labels : List (List (List ℕ))) (o : Option (ℕ × List ℕ)) (l : List Records) → index_in config labels o g ≡ Ok l → AreThere g (named Index o)
  unfolding index_in
  index_there config labels None l e = tt
  index_there config labels (Some (n, bytes)) l e = go (index_commit n bytes) e
    where
      go : (r : Result IndexListing FileFault) → (told_as (of_file (file Index Commit n)) r >>= λ commit. agrees config (length labels) commit >>= λ agreed. segments_of config labels commit.needs g commit.parts) ≡ Ok l → AreThere g (document_numbers r)
      go (Ok commit) e = let a = bind_ok (agrees config (length labels) commit) (λ agreed. segments_of config labels commit.needs g commit.parts) l e in segments_there config labels commit.needs l commit.parts a.2
      go (Err d) e = tt

same_from : (f g : Segments) → ((n : ℕ) (b : List ℕ) → g n ≡ Some b → f n ≡ Some b) → (numbers : List ℕ) → AreThere g numbers → AreSame f g numbers
same_from f g carry [] all = tt
same_from f g carry (n ∷ ns) all = (carry n all.0.0 all.0.1 ∙ sym all.0.1, same_from f g carry ns all.1)

-- ---- what a directory holds is found by its number

eq_from : (a b : ℕ) → nat_eq a b ≡ true → a ≡ b
eq_from a b e = grind (arith, nat_tests, e)

eq_again : (a : ℕ) → nat_eq a a ≡ true
eq_again a = grind (arith, nat_tests)

abbrev found : List (ℕ × List ℕ) → ℕ → Option (List ℕ)
found xs n = option_map (λ s. s.1) (find (λ s. nat_eq s.0 n) xs)

found_one : (m : ℕ) (bytes : List ℕ) (xs : List (ℕ × List ℕ)) (n : ℕ) (t : Bool) → nat_eq m n ≡ t → found ((m, bytes) ∷ xs) n ≡ (if t then Some bytes else found xs n)
found_one m bytes xs n t e = ap (λ (b : Bool). option_map (λ s. s.1) (if b then Some (m, bytes) else find (λ s. nat_eq s.0 n) xs)) e ∙ go t
  where
    go : (t : Bool) → option_map (λ s. s.1) (if t then Some (m, bytes) else find (λ s. nat_eq s.0 n) xs) ≡ (if t then Some bytes else found xs n)
    go true = refl
    go false = refl

found_there : (f : ℕ → Option (List ℕ)) (xs : List (ℕ × List ℕ)) → AllByRecursion (λ s. f s.0 ≡ Some s.1) xs → (n : ℕ) (b : List ℕ) → found xs n ≡ Some b → f n ≡ Some b
found_there f [] all n b e = absurd (cc e)
found_there f (s ∷ xs) all n b e = go (found_there f xs all.1 n b) (nat_eq s.0 n) refl
  where
    go : (found xs n ≡ Some b → f n ≡ Some b) → (t : Bool) → nat_eq s.0 n ≡ t → f n ≡ Some b
    go rest true is = ap f (sym (eq_from s.0 n is)) ∙ all.0 ∙ sym (found_one s.0 s.1 xs n true is) ∙ e
    go rest false is = rest (sym (found_one s.0 s.1 xs n false is) ∙ e)

-- a number that is among those has its bytes found
found_in : (f : Segments) (n : ℕ) (b : List ℕ) → f n ≡ Some b → (numbers : List ℕ) → list_any (λ m. nat_eq m n) numbers ≡ true → found (there f numbers) n ≡ Some b
found_in f n b is [] among = absurd (cc among)
found_in f n b is (m ∷ ms) among = go (found_in f n b is ms) (nat_eq m n) refl among
  where
    here : (o : Option (List ℕ)) → f m ≡ o → nat_eq m n ≡ true → found (before m o (there f ms)) n ≡ Some b
    here None none same = absurd (cc (sym none ∙ ap f (eq_from m n same) ∙ is))
    here (Some d) some same = found_one m d (there f ms) n true same ∙ sym some ∙ ap f (eq_from m n same) ∙ is

    later : (o : Option (List ℕ)) → nat_eq m n ≡ false → found (there f ms) n ≡ Some b → found (before m o (there f ms)) n ≡ Some b
    later None other rest = rest
    later (Some d) other rest = found_one m d (there f ms) n false other ∙ rest

    go : (list_any (λ k. nat_eq k n) ms ≡ true → found (there f ms) n ≡ Some b) → (t : Bool) → nat_eq m n ≡ t → (t || list_any (λ k. nat_eq k n) ms) ≡ true → found (there f (m ∷ ms)) n ≡ Some b
    go rest true same among = here (f m) refl same
    go rest false other among = later (f m) other (rest among)

among_more : (x : ℕ) (xs numbers : List ℕ) → AllByRecursion (λ n. list_any (λ m. nat_eq m n) xs ≡ true) numbers → AllByRecursion (λ n. list_any (λ m. nat_eq m n) (x ∷ xs) ≡ true) numbers
among_more x xs [] all = tt
among_more x xs (n ∷ ns) all = (go (nat_eq x n) all.0, among_more x xs ns all.1)
  where
    go : (t : Bool) → list_any (λ m. nat_eq m n) xs ≡ true → (t || list_any (λ m. nat_eq m n) xs) ≡ true
    go true is = refl
    go false is = is

among_all : (xs : List ℕ) → AllByRecursion (λ n. list_any (λ m. nat_eq m n) xs ≡ true) xs
among_all [] = tt
among_all (x ∷ xs) = (ap (λ (t : Bool). t || list_any (λ m. nat_eq m x) xs) (eq_again x), among_more x xs xs (among_all xs))

same_found : (f : Segments) (all numbers : List ℕ) → AreThere f numbers → AllByRecursion (λ n. list_any (λ m. nat_eq m n) all ≡ true) numbers → AreSame (found (there f all)) f numbers
same_found f all [] known among = tt
same_found f all (n ∷ ns) known among = (found_in f n known.0.0 known.0.1 all among.0 ∙ sym known.0.1, same_found f all ns known.1 among.1)

-- ---- the files of an image that stands for two directories

module _ (config : Config) (next : ℕ) (t i : Held) (c : Image) (f : Found) (stands : Stands next t i c) where
  pub files_stand : files_of config t i ≡ Ok f → files config c ≡ Ok f
  unfolding files_of
  files_stand e =
      let a = bind_ok (taxonomy_in t.commit (held_segments t)) (λ labels. index_in config labels i.commit (held_segments i) >>= λ segments. Ok (record { labels = labels; segments = segments })) f e in
      let b = bind_ok (index_in config a.0 i.commit (held_segments i)) (λ segments. Ok (record { labels = a.0; segments = segments })) f a.2 in
      let taxonomy : AreSame (segments_in Taxonomy c) (held_segments t) (named Taxonomy t.commit) =
      same_from (segments_in Taxonomy c) (held_segments t) (found_there (segments_in Taxonomy c) t.segments (recursion_from_All (λ s. segments_in Taxonomy c s.0 ≡ Some s.1) t.segments stands.taxonomy_held.segments))
      (named Taxonomy t.commit) (taxonomy_there (held_segments t) t.commit a.0 a.1) in
      let index : AreSame (segments_in Index c) (held_segments i) (named Index i.commit) =
      same_from (segments_in Index c) (held_segments i) (found_there (segments_in Index c) i.segments (recursion_from_All (λ s. segments_in Index c s.0 ≡ Some s.1) i.segments stands.index_held.segments))
      (named Index i.commit) (index_there (held_segments i) config a.0 i.commit b.0 b.1) in
      files_read config c (small_unspent c stands.small) a.0
      (ap (λ (o : Option (ℕ × List ℕ)). taxonomy_in o (segments_in Taxonomy c)) stands.taxonomy_held.commit ∙ taxonomy_same (segments_in Taxonomy c) (held_segments t) t.commit taxonomy ∙ a.1)
      b.0
      (ap (λ (o : Option (ℕ × List ℕ)). index_in config a.0 o (segments_in Index c)) stands.index_held.commit ∙ index_same (segments_in Index c) (held_segments i) config a.0 i.commit index ∙ b.1)
      ∙ b.2

-- two directories hold what their commits tell
held_told : (config : Config) (t i : Held) (labels : List (List (List ℕ))) (segments : List Records) (f : Found) → taxonomy_in t.commit (held_segments t) ≡ Ok labels
    → index_in config labels i.commit (held_segments i) ≡ Ok segments → done {F = OpenFault} (record { labels = labels; segments = segments }) ≡ Ok f → files_of config t i ≡ Ok f
unfolding files_of
held_told config t i labels segments f first second is =
    ap (λ (r : Result (List (List (List ℕ))) OpenFault). r >>= λ labels. index_in config labels i.commit (held_segments i) >>= λ segments. Ok (record { labels = labels; segments = segments })) first
    ∙ ap (λ (r : Result (List Records) OpenFault). r >>= λ segments. Ok (record { labels = labels; segments = segments })) second ∙ is

-- ---- the directories of an image

module _ (config : Config) (c : Image) (f : Found) (e : files config c ≡ Ok f) where
  pub files_small : unspent (greatest_number c) ≡ Ok tt
  unfolding files
  files_small = (bind_ok (unspent (greatest_number c)) (λ below. taxonomy_in (newest_file Taxonomy c) (segments_in Taxonomy c) >>= λ labels.
      index_in config labels (newest_file Index c) (segments_in Index c) >>= λ segments. Ok (record { labels = labels; segments = segments })) f e).1

  pub files_held : files_of config (held_in Taxonomy c) (held_in Index c) ≡ Ok f
  unfolding files
  files_held =
      let u = bind_ok (unspent (greatest_number c)) (λ below. taxonomy_in (newest_file Taxonomy c) (segments_in Taxonomy c) >>= λ labels.
      index_in config labels (newest_file Index c) (segments_in Index c) >>= λ segments. Ok (record { labels = labels; segments = segments })) f e in
      let a = bind_ok (taxonomy_in (newest_file Taxonomy c) (segments_in Taxonomy c)) (λ labels. index_in config labels (newest_file Index c) (segments_in Index c) >>= λ segments. Ok (record { labels = labels; segments = segments })) f u.2 in
      let b = bind_ok (index_in config a.0 (newest_file Index c) (segments_in Index c)) (λ segments. Ok (record { labels = a.0; segments = segments })) f a.2 in
      let labels = named Taxonomy (newest_file Taxonomy c) in
      let documents = named Index (newest_file Index c) in
      let taxonomy = taxonomy_same (held_segments (held_in Taxonomy c)) (segments_in Taxonomy c) (newest_file Taxonomy c)
      (same_found (segments_in Taxonomy c) labels labels (taxonomy_there (segments_in Taxonomy c) (newest_file Taxonomy c) a.0 a.1) (among_all labels)) in
      let index = index_same (held_segments (held_in Index c)) (segments_in Index c) config a.0 (newest_file Index c)
      (same_found (segments_in Index c) documents documents (index_there (segments_in Index c) config a.0 (newest_file Index c) b.0 b.1) (among_all documents)) in
      held_told config (held_in Taxonomy c) (held_in Index c) a.0 b.0 f (taxonomy ∙ a.1) (index ∙ b.1) b.2

-- ---- a settled disk

there_low : (f : Segments) (next : ℕ) → ((n : ℕ) (b : List ℕ) → f n ≡ Some b → n < next) → (numbers : List ℕ) → AllByRecursion (λ s. s.0 < next) (there f numbers)
there_low f next low [] = tt
there_low f next low (n ∷ ns) = go (there_low f next low ns) (f n) refl
  where
    go : AllByRecursion (λ s. s.0 < next) (there f ns) → (o : Option (List ℕ)) → f n ≡ o → AllByRecursion (λ s. s.0 < next) (before n o (there f ns))
    go rest None is = rest
    go rest (Some b) is = (low n b is, rest)

there_held : (h f : Segments) (numbers : List ℕ) → AreSame h f numbers → AllByRecursion (λ s. h s.0 ≡ Some s.1) (there f numbers)
there_held h f [] all = tt
there_held h f (n ∷ ns) all = go (there_held h f ns all.1) (f n) refl
  where
    go : AllByRecursion (λ s. h s.0 ≡ Some s.1) (there f ns) → (o : Option (List ℕ)) → f n ≡ o → AllByRecursion (λ s. h s.0 ≡ Some s.1) (before n o (there f ns))
    go rest None is = rest
    go rest (Some b) is = (all.0 ∙ is, rest)

some_is : (o : Option (List ℕ)) (b : List ℕ) → o ≡ Some b → o ≢ None
some_is o b is none = cc (sym none ∙ is)

module _ (next : ℕ) (d : Image) (below : Below next d) where
  newest_low : (dir : Dir) (o : Option (ℕ × List ℕ)) → IsNewest dir d o → IfSome o (λ at. at.0 < next)
  newest_low dir None is = tt
  newest_low dir (Some at) is = below (file dir Commit at.0) (some_is (d (file dir Commit at.0)) at.1 is.1)

  commit_low : (dir : Dir) (c : Image) (o : Option (ℕ × List ℕ)) → IsNewest dir c o → IsNewest dir d o → (m : ℕ) → m < 2 ^ 64 → c (file dir Commit m) ≢ None → m < next
  commit_low dir c None here there m wide some = absurd (some (here m wide))
  commit_low dir c (Some at) here there m wide some = ⊎_elim
      (λ (up : at.0 < m). absurd (some (here.2 m up wide)))
      (λ (le : m ≤ at.0). let low : at.0 < next = newest_low dir (Some at) there in omega (arith, le, low))
      (cases_lt at.0 m)

  named_below : (dir : Dir) → NamedBelow next (held_in dir d)
  named_below dir = record {
    commit = newest_low dir (newest_file dir d) (newest_there dir d);
    segments = All-from_recursion (λ s. s.0 < next) (held_in dir d).segments
        (there_low (segments_in dir d) next (λ n b is. below (file dir Segment n) (some_is (d (file dir Segment n)) b is)) (named dir (newest_file dir d)));
  }

module _ {D : Type 0} (disk : Ghosts D) (now : D) (wide : (c : Image) → disk.may_leave now c → Below (2 ^ 64) c) (config : Config) (s : Told) (f : Found) (next : ℕ)
    (settled : IsSettled disk config s now) (e : files config s.files ≡ Ok f) (below : Below next s.files) where
  holds : (dir : Dir) (c : Image) → disk.may_leave now c → Holds dir (held_in dir s.files) c
  holds dir c left = record {
    commit = settled.commits dir c left;
    segments = All-from_recursion (λ x. segments_in dir c x.0 ≡ Some x.1) (held_in dir s.files).segments
        (there_held (segments_in dir c) (segments_in dir s.files) (named dir (newest_file dir s.files)) (recursion_from_All (λ n. segments_in dir c n ≡ segments_in dir s.files n) (named dir (newest_file dir s.files)) (settled.segments dir c left)));
  }

  pub settled_stands : (c : Image) → disk.may_leave now c → Stands next (held_in Taxonomy s.files) (held_in Index s.files) c
  settled_stands c left = record {
    commits = λ n commit some.
        let same : n ≡ file n.dir Commit n.number = λ i. record { dir = n.dir; kind = commit i; number = n.number } in
        commit_low next s.files below n.dir c (newest_file n.dir s.files) (subst (IsNewest n.dir c) (settled.commits n.dir c left) (newest_there n.dir c)) (newest_there n.dir s.files)
        n.number (wide c left n some) (subst (λ (m : FileName). c m ≢ None) same some);
    taxonomy_named = named_below next s.files below Taxonomy;
    index_named = named_below next s.files below Index;
    small = unspent_small c (wide c left) (files_small config c f (settled.same c left ∙ e));
    taxonomy_held = holds Taxonomy c left;
    index_held = holds Index c left;
  }

-- ---- a disk is settled whose images all stand for two directories

same_both : (f g h : Segments) (numbers : List ℕ) → AreSame f h numbers → AreSame g h numbers → AreSame f g numbers
same_both f g h [] one two = tt
same_both f g h (n ∷ ns) one two = (one.0 ∙ sym two.0, same_both f g h ns one.1 two.1)

module _ (config : Config) (next : ℕ) (t i : Held) (f : Found) (e : files_of config t i ≡ Ok f) where
  abbrev held : Dir → Held
  held Taxonomy = t
  held Index = i

  named_there : (dir : Dir) → AreThere (held_segments (held dir)) (named dir (held dir).commit)
  unfolding files_of
  named_there Taxonomy =
      let a = bind_ok (taxonomy_in t.commit (held_segments t)) (λ labels. index_in config labels i.commit (held_segments i) >>= λ segments. Ok (record { labels = labels; segments = segments })) f e in
      taxonomy_there (held_segments t) t.commit a.0 a.1
  named_there Index =
      let a = bind_ok (taxonomy_in t.commit (held_segments t)) (λ labels. index_in config labels i.commit (held_segments i) >>= λ segments. Ok (record { labels = labels; segments = segments })) f e in
      let b = bind_ok (index_in config a.0 i.commit (held_segments i)) (λ segments. Ok (record { labels = a.0; segments = segments })) f a.2 in
      index_there (held_segments i) config a.0 i.commit b.0 b.1

  held_by : (dir : Dir) (c : Image) → Stands next t i c → Holds dir (held dir) c
  held_by Taxonomy c stands = stands.taxonomy_held
  held_by Index c stands = stands.index_held

  named_same : (dir : Dir) (c : Image) → Stands next t i c → AreSame (segments_in dir c) (held_segments (held dir)) (named dir (held dir).commit)
  named_same dir c stands = same_from (segments_in dir c) (held_segments (held dir))
      (found_there (segments_in dir c) (held dir).segments (recursion_from_All (λ s. segments_in dir c s.0 ≡ Some s.1) (held dir).segments (held_by dir c stands).segments)) (named dir (held dir).commit) (named_there dir)

  pub stands_settled : {D : Type 0} (disk : Ghosts D) (now : D) (s : Told) → disk.may_leave now s.files → ((c : Image) → disk.may_leave now c → Stands next t i c) → IsSettled disk config s now
  stands_settled disk now s own stands =
      let reads : Stands next t i s.files = stands s.files own in
      record {
        same = λ c left. files_stand config next t i c f (stands c left) e ∙ sym (files_stand config next t i s.files f reads e);
        commits = λ dir c left. (held_by dir c (stands c left)).commit ∙ sym (held_by dir s.files reads).commit;
        segments = λ dir c left. All-from_recursion (λ n. segments_in dir c n ≡ segments_in dir s.files n) (named dir (newest_file dir s.files))
            (subst (λ (o : Option (ℕ × List ℕ)). AreSame (segments_in dir c) (segments_in dir s.files) (named dir o)) (sym (held_by dir s.files reads).commit)
            (same_both (segments_in dir c) (segments_in dir s.files) (held_segments (held dir)) (named dir (held dir).commit) (named_same dir c (stands c left)) (named_same dir s.files reads)));
      }

-- ---- a disk that a crash left, and one of which nothing was changed

-- each image is as the disk reads
pub alone_settled : {D : Type 0} (disk : Ghosts D) (now : D) (config : Config) (s : Told) → ((c : Image) → disk.may_leave now c → c ≡ s.files) → IsSettled disk config s now
alone_settled disk now config s alone = record {
  same = λ c left. ap (files config) (alone c left);
  commits = λ dir c left. ap (newest_file dir) (alone c left);
  segments = λ dir c left. λ i d lt. ap (λ (image : Image). segments_in dir image (get_or (named dir (newest_file dir s.files)) i d)) (alone c left);
}

pub quiet_settled : {D : Type 0} (disk : Ghosts D) (old new : D) (config : Config) (s : Told) → IsQuiet disk old new → IsSettled disk config s old → IsSettled disk config s new
quiet_settled disk old new config s quiet settled =
    let was : (c : Image) → disk.may_leave new c → disk.may_leave old c = λ c left. let before = quiet.passes.now c left in subst (disk.may_leave old) (sym before.2) before.1 in
    record {
      same = λ c left. settled.same c (was c left);
      commits = λ dir c left. settled.commits dir c (was c left);
      segments = λ dir c left. settled.segments dir c (was c left);
    }
