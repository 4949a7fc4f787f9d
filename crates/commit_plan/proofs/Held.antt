-- What the files of directories stand for, when more is held or more labels are known.
use Rattle.std.proofs.Common.{rules, ◌≡◌, if◌then◌else◌, ◌≤◌, ◌<◌, ℕ, Bool, true, false, nat_le, nat_eq, List, [], ◌∷◌, ◌++◌, length, Option, Some, None, Ok, refl, sym, ap, ◌∙◌, subst, arith}
use Rattle.std.specs.Option.{option_map}
use Rattle.std.specs.List.{find, AllByRecursion}
use Rattle.std.specs.Str.{bytes_eq}
use Rattle.std.proofs.lemmas.Bool.{eq-eqb, eqb-true, ne_eqb}
use Rattle.sha2.specs.Sha256.{sha256}
use Rattle.facet_codec.specs.Faults.{told_as}
use Rattle.facet_codec.specs.Reading.{◌>>=◌}
use Rattle.facet_codec.proofs.Taking.{bind_ok, guard_yes, done, done_is}
use Rattle.facet_config.specs.Differences.{first_different}
use Rattle.facet_disk.specs.declared.name.Dir.TheVariants.{Taxonomy, Index}
use Rattle.facet_disk.specs.declared.name.Kind.TheVariants.{Segment, Commit}
use Rattle.facet_disk.specs.declared.name.FileName.{FileName}
use Rattle.facet_model.specs.Flags.{Config}
use Rattle.facet_model.specs.Stored.{Records}
use Rattle.facet_names.specs.Labels.{IsLabelList, GoesOn}
use Rattle.commit_calls.specs.Held.{Held, file}
use Rattle.commit_file.specs.Reading.{index_commit}
use Rattle.commit_file.specs.LiveParts.{LivePart}
use Rattle.commit_file.specs.Commits.{IndexListing}
use Rattle.commit_file.specs.declared.taxonomy.LabelPart.{LabelPart}
use Rattle.label_file.specs.LabelReading.{stored_labels}
use Rattle.seg_decoding.specs.Laws.{OpensAlike}
use Rattle.seg_decoding.specs.Opening.{stored_segment}
use Rattle.seg_file.specs.Live.{with_dead}
use Rattle.store_opening.specs.declared.fault.OpenFault.{OpenFault}
use Rattle.store_opening.specs.declared.fault.OpenFault.TheVariants.{Damaged, Malformed, Uncovered}
use Rattle.store_opening.specs.Files.{Found, Segments, of_file, segment_bytes, labels_behind, labels_of, taxonomy_in, same_flags, covered, agrees, segment_of, segments_of, index_in, held_segments, files_of}
use Rattle.facet_names.proofs.LabelLists.{Labels}

-- the second has what the first has
abbrev pub AreWithin : Segments → Segments → Type 0
AreWithin S T = (n : ℕ) (b : List ℕ) → S n ≡ Some b → T n ≡ Some b

-- ---- segments of a directory

pub segment_there : (name : FileName) (kept : List ℕ) (o : Option (List ℕ)) (bytes : List ℕ) → segment_bytes name kept o ≡ Ok bytes → o ≡ Some bytes
unfolding segment_bytes
segment_there name kept None bytes e = absurd (cc e)
segment_there name kept (Some b) bytes e = ap Some (guard_yes (bytes_eq (sha256 b) kept) (Damaged name kept (sha256 b)) b bytes e).1

segment_more : (name : FileName) (kept : List ℕ) (o p : Option (List ℕ)) (bytes : List ℕ) → segment_bytes name kept o ≡ Ok bytes → (o ≡ Some bytes → p ≡ Some bytes) → segment_bytes name kept p ≡ Ok bytes
segment_more name kept o p bytes e more =
    let there = segment_there name kept o bytes e in
    ap (segment_bytes name kept) (more there ∙ sym there) ∙ e

-- ---- labels

behind_more : (S T : Segments) → AreWithin S T → (known : Labels) (part : LabelPart) (labels : Labels) → labels_behind S known part ≡ Ok labels → labels_behind T known part ≡ Ok labels
unfolding labels_behind
behind_more S T more known part labels e =
    let a = bind_ok (segment_bytes (file Taxonomy Segment part.number) part.digest (S part.number)) (λ bytes. told_as (Malformed (file Taxonomy Segment part.number)) (stored_labels known part.first part.count bytes)) labels e in
    rw (segment_more (file Taxonomy Segment part.number) part.digest (S part.number) (T part.number) a.0 a.1 (more part.number a.0)) a.2

pub labels_more : (S T : Segments) → AreWithin S T → (known : Labels) (parts : List LabelPart) (labels : Labels) → labels_of S known parts ≡ Ok labels → labels_of T known parts ≡ Ok labels
unfolding labels_of
labels_more S T more known [] labels e = e
labels_more S T more known (part ∷ parts) labels e =
    let a = bind_ok (labels_behind S known part) (λ longer. labels_of S longer parts) labels e in
    rw (behind_more S T more known part a.0 a.1) (labels_more S T more a.0 parts labels a.2)

pub labels_and : (S : Segments) (known : Labels) (parts others : List LabelPart) (labels longer : Labels) → labels_of S known parts ≡ Ok labels → labels_of S labels others ≡ Ok longer → labels_of S known (parts ++ others) ≡ Ok longer
unfolding labels_of
labels_and S known [] others labels longer e more = ap (λ k. labels_of S k others) (done_is OpenFault known labels e) ∙ more
labels_and S known (part ∷ parts) others labels longer e more =
    let a = bind_ok (labels_behind S known part) (λ longer. labels_of S longer parts) labels e in
    rw a.1 (labels_and S a.0 parts others labels longer a.2 more)

-- one segment
pub labels_one : (S : Segments) (known labels : Labels) (part : LabelPart) (bytes : List ℕ) → S part.number ≡ Some bytes → part.digest ≡ sha256 bytes → bytes_eq (sha256 bytes) (sha256 bytes) ≡ true → stored_labels known part.first part.count bytes ≡ Ok labels → labels_of S known (part ∷ []) ≡ Ok labels
unfolding labels_of labels_behind segment_bytes
labels_one S known labels part bytes there digest same reads = rw (there, digest, same, reads) refl

-- ---- documents

module _ (config : Config) (labels longer : Labels) (alike : OpensAlike config labels longer) (list : IsLabelList labels) (list_longer : IsLabelList longer) (on : GoesOn labels longer) where
  segment_longer : (needs : ℕ) → needs ≤ length labels → (S : Segments) (p : LivePart) → segment_of config longer needs S p ≡ segment_of config labels needs S p
  unfolding segment_of
  segment_longer needs low S p =
      let same : (bytes : List ℕ) → stored_segment config longer needs p.part.documents bytes ≡ stored_segment config labels needs p.part.documents bytes = λ bytes. alike needs p.part.documents bytes list list_longer on low in
      λ i. segment_bytes (file Index Segment p.part.number) p.part.digest (S p.part.number) >>= λ bytes. told_as (Malformed (file Index Segment p.part.number)) (same bytes i) >>= λ r. Ok (with_dead r p.dead)

  segments_longer : (needs : ℕ) → needs ≤ length labels → (S : Segments) (parts : List LivePart) → segments_of config longer needs S parts ≡ segments_of config labels needs S parts
  unfolding segments_of
  segments_longer needs low S [] = refl
  segments_longer needs low S (part ∷ parts) = λ i. segment_longer needs low S part i >>= λ first. segments_longer needs low S parts i >>= λ others. Ok (first ∷ others)

  pub index_longer : (S : Segments) (o : Option (ℕ × List ℕ)) (segments : List Records) → index_in config labels o S ≡ Ok segments → index_in config longer o S ≡ Ok segments
  unfolding index_in agrees
  index_longer S None segments e = e
  index_longer S (Some (n, bytes)) segments e =
      let a = bind_ok (told_as (of_file (file Index Commit n)) (index_commit n bytes)) (λ (commit : IndexListing). agrees config (length labels) commit >>= λ agreed. segments_of config labels commit.needs S commit.parts) segments e in
      let b = bind_ok (agrees config (length labels) a.0) (λ agreed. segments_of config labels a.0.needs S a.0.parts) segments a.2 in
      let d = bind_ok (same_flags (first_different config a.0.kept)) (λ same. covered a.0.needs (length labels)) b.0 b.1 in
      let low : a.0.needs ≤ length labels = search (rules, (guard_yes (nat_le a.0.needs (length labels)) (Uncovered a.0.needs (length labels)) tt b.0 d.2).0) in
      let high : nat_le a.0.needs (length longer) ≡ true = search (rules, low, on.0) in
      rw (a.1, d.1, high, segments_longer a.0.needs low S a.0.parts) b.2

-- ---- what a directory holds

abbrev pub held : List (ℕ × List ℕ) → Segments
held xs n = option_map (λ s. s.1) (find (λ s. nat_eq s.0 n) xs)

pub held_front : (xs ys : List (ℕ × List ℕ)) → AreWithin (held xs) (held (xs ++ ys))
held_front [] ys n b e = absurd (cc e)
held_front (x ∷ xs) ys n b e = go (nat_eq x.0 n) (held_front xs ys n b) e
  where
    go : (t : Bool) → (held xs n ≡ Some b → held (xs ++ ys) n ≡ Some b) → option_map (λ s. s.1) (if t then Some x else find (λ s. nat_eq s.0 n) xs) ≡ Some b → option_map (λ s. s.1) (if t then Some x else find (λ s. nat_eq s.0 n) (xs ++ ys)) ≡ Some b
    go true others is = is
    go false others is = others is

pub held_new : (xs ys : List (ℕ × List ℕ)) (n : ℕ) → held xs n ≡ None → held (xs ++ ys) n ≡ held ys n
held_new [] ys n e = refl
held_new (x ∷ xs) ys n e = go (nat_eq x.0 n) (held_new xs ys n) e
  where
    go : (t : Bool) → (held xs n ≡ None → held (xs ++ ys) n ≡ held ys n) → option_map (λ s. s.1) (if t then Some x else find (λ s. nat_eq s.0 n) xs) ≡ None → option_map (λ s. s.1) (if t then Some x else find (λ s. nat_eq s.0 n) (xs ++ ys)) ≡ held ys n
    go true others is = absurd (cc is)
    go false others is = others is

pub held_below : (xs : List (ℕ × List ℕ)) (n : ℕ) → AllByRecursion (λ s. s.0 < n) xs → held xs n ≡ None
held_below [] n low = refl
held_below (x ∷ xs) n low =
    let other : nat_eq x.0 n ≡ false = ne_eqb x.0 n (λ is. omega (arith, is, low.0)) in
    rw other (held_below xs n low.1)

pub held_one : (n : ℕ) (b : List ℕ) → held ((n, b) ∷ []) n ≡ Some b
held_one n b = rw (eq-eqb n n refl) refl

pub held_has : (P : ℕ × List ℕ → Type 0) (xs : List (ℕ × List ℕ)) → AllByRecursion P xs → (n : ℕ) (b : List ℕ) → held xs n ≡ Some b → P (n, b)
held_has P [] all n b e = absurd (cc e)
held_has P (x ∷ xs) all n b e = go (nat_eq x.0 n) refl (held_has P xs all.1 n b) e
  where
    first : x.0 ≡ n → x.1 ≡ b → P (n, b)
    first at is = subst P (λ i. (at i, is i)) all.0

    go : (t : Bool) → nat_eq x.0 n ≡ t → (held xs n ≡ Some b → P (n, b)) → option_map (λ s. s.1) (if t then Some x else find (λ s. nat_eq s.0 n) xs) ≡ Some b → P (n, b)
    go true at others is = first (eqb-true x.0 n at) (cc is)
    go false at others is = others is

-- ---- both directories

pub files_found : (config : Config) (t i : Held) (labels : Labels) (segments : List Records) → taxonomy_in t.commit (held_segments t) ≡ Ok labels → index_in config labels i.commit (held_segments i) ≡ Ok segments → files_of config t i ≡ Ok (record { labels = labels; segments = segments })
unfolding files_of
files_found config t i labels segments taxonomy index = rw (taxonomy, index) refl

pub found_files : (config : Config) (t i : Held) (labels : Labels) (segments : List Records) → files_of config t i ≡ Ok (record { labels = labels; segments = segments }) → (taxonomy_in t.commit (held_segments t) ≡ Ok labels) × (index_in config labels i.commit (held_segments i) ≡ Ok segments)
unfolding files_of
found_files config t i labels segments e =
    let a = bind_ok (taxonomy_in t.commit (held_segments t)) (λ labels. index_in config labels i.commit (held_segments i) >>= λ segments. Ok (record { labels = labels; segments = segments })) (record { labels = labels; segments = segments }) e in
    let b = bind_ok (index_in config a.0 i.commit (held_segments i)) (λ segments. Ok (record { labels = a.0; segments = segments })) (record { labels = labels; segments = segments }) a.2 in
    let is = done_is OpenFault (record { labels = a.0; segments = b.0 }) (record { labels = labels; segments = segments }) b.2 in
    let same : a.0 ≡ labels = ap (λ (f : Found). f.labels) is in
    let segs : b.0 ≡ segments = ap (λ (f : Found). f.segments) is in
    (a.1 ∙ ap (λ l. done l) same, ap (λ l. index_in config l i.commit (held_segments i)) (sym same) ∙ b.1 ∙ ap (λ l. done l) segs)
