-- What was read of a disk is what its directories hold.
use Rattle.std.proofs.Common.{◌≡◌, ◌≤◌, ◌<◌, ◌^◌, ℕ, List, [], ◌∷◌, length, map, Option, Some, None, Result, Ok, refl, sym, ap, ◌∙◌, subst, arith}
use Rattle.std.specs.Option.{option_map}
use Rattle.std.specs.List.{AllByRecursion, AllZip}
use Rattle.facet_codec.specs.Faults.{told_as}
use Rattle.facet_codec.specs.Reading.{◌>>=◌}
use Rattle.facet_codec.proofs.Taking.{bind_ok, told_ok, done, done_is}
use Rattle.facet_disk.specs.declared.name.Dir.TheVariants.{Taxonomy, Index}
use Rattle.facet_disk.specs.declared.name.Kind.TheVariants.{Segment, Commit}
use Rattle.facet_disk.specs.declared.disk.Disk.{Ghosts}
use Rattle.facet_disk.specs.Images.{Image}
use Rattle.facet_model.specs.Flags.{Config}
use Rattle.facet_model.specs.Stored.{Stored, Records, IsRecordOf, IsSegmentOf}
use Rattle.commit_calls.specs.Held.{Held, Stands, file, newest_file}
use Rattle.commit_calls.specs.Moments.{IsAt}
use Rattle.commit_file.specs.LiveParts.{LivePart}
use Rattle.commit_file.specs.Commits.{AreInOrder, TaxonomyListing, IndexListing, documents_listed}
use Rattle.commit_file.specs.declared.taxonomy.LabelPart.{LabelPart}
use Rattle.seg_documents.specs.Decoding.{doc_in}
use Rattle.seg_documents.specs.Storing.{AreStored}
use Rattle.seg_decoding.specs.Opening.{stored_segment, opened, documents_fit, unless_at, first_difference, counted_anew, rebuilt}
use Rattle.seg_decoding.proofs.Differences.{same_from_none}
use Rattle.seg_file.specs.Live.{with_dead}
use Rattle.seg_file.proofs.Live.{same_bytes}
use Rattle.seg_grammar.specs.Spelling.{all_live, seg_bytes}
use Rattle.store_opening.specs.declared.fault.OpenFault.{OpenFault}
use Rattle.store_opening.specs.declared.fault.OpenFault.TheVariants.{Malformed}
use Rattle.store_opening.specs.declared.newest.Newest.{Newest}
use Rattle.store_opening.specs.Files.{Found, Segments, segments_in as image_segments, greatest_number, unspent, of_file, segment_bytes, segment_of, segments_of, labels_of, taxonomy_in, agrees, index_in, held_segments, files}
use Rattle.store_opening.specs.Newest.{IsNewestTaxonomy, IsNewestIndex, IsNamedAs}
use Rattle.store_opening.specs.Quiet.{IsQuiet}
use Rattle.store_opening.specs.Settled.{named, label_numbers, document_numbers, there, held_in}
use Rattle.store_opening.proofs.Held.{taxonomy_there, files_held}
use Rattle.commit_plan.specs.Committed.{IsKept, IsCommitted, segments_in}
use Rattle.commit_plan.specs.Openings.{kept_by, committed_read}
use Rattle.commit_plan.specs.Plannings.{IsKnown}
use Rattle.commit_plan.proofs.Held.{segment_there, found_files}
use Rattle.commit_plan.proofs.Keeping.{pair}
use Rattle.facet_names.proofs.LabelLists.{Labels}

-- ---- segments with their names

pub as_long : {A B : Type 0} (R : A → B → Type 0) (xs : List A) (ys : List B) → AllZip R xs ys → length xs ≡ length ys
as_long R [] [] all = refl
as_long R [] (y ∷ ys) all = absurd all
as_long R (x ∷ xs) [] all = absurd all
as_long R (x ∷ xs) (y ∷ ys) all = omega (arith, as_long R xs ys all.1)

module _ (config : Config) (labels : Labels) where
  all_kept : (parts : List LivePart) (ss : List Records) → AllZip (IsNamedAs config labels) parts ss → AllByRecursion IsKept (kept_by parts ss)
  all_kept [] ss named = tt
  all_kept (p ∷ parts) [] named = tt
  all_kept (p ∷ parts) (s ∷ ss) named = (record { segment = named.0.own.own; documents = sym named.0.documents; digest = sym named.0.digest }, all_kept parts ss named.1)

  pub all_stored : (parts : List LivePart) (ss : List Records) → AllZip (IsNamedAs config labels) parts ss → AreStored ss
  all_stored [] [] named = tt
  all_stored [] (s ∷ ss) named = absurd named
  all_stored (p ∷ parts) [] named = tt
  all_stored (p ∷ parts) (s ∷ ss) named = (named.0.own, all_stored parts ss named.1)

  pub all_segments : (parts : List LivePart) (ss : List Records) → AllZip (IsNamedAs config labels) parts ss → segments_in (kept_by parts ss) ≡ ss
  all_segments [] [] named = refl
  all_segments [] (s ∷ ss) named = absurd named
  all_segments (p ∷ parts) [] named = absurd named
  all_segments (p ∷ parts) (s ∷ ss) named = λ i. s ∷ all_segments parts ss named.1 i

  pub read_committed : (n : Newest) (ss : List Records) → 1 ≤ n.next → n.next ≤ 2 ^ 63 → AreInOrder (length labels) 1 n.label_parts.items → length n.label_parts.items < length labels
      → AllZip (IsNamedAs config labels) n.document_parts.items ss → IsCommitted (committed_read n labels ss)
  read_committed n ss some room order many named = record { some = some; room = room; order = order; few = many; kept = all_kept n.document_parts.items ss named }

  -- ---- a segment is made of the bytes that it was read from

  counted_same : (rs : List Stored) → AllZip (IsRecordOf labels config) rs (map (doc_in labels) rs) → map (counted_anew config labels) rs ≡ rs
  counted_same [] are = refl
  counted_same (r ∷ rs) are = λ i. (record { id = r.id; text = r.text; leaves = r.leaves; counted = sym are.0.counted i }) ∷ counted_same rs are.1 i

  rebuilt_same : (s : Records) → IsSegmentOf labels config s (map (doc_in labels) s.records) → rebuilt config labels s.records ≡ all_live s
  rebuilt_same s is = λ i. record { records = counted_same s.records is.records i; terms = sym is.terms i; dead = [] }

  read_bytes : (needs documents : ℕ) (bytes : List ℕ) (read s : Records) → stored_segment config labels needs documents bytes ≡ Ok read → all_live read ≡ all_live s → IsSegmentOf labels config s (map (doc_in labels) s.records) → bytes ≡ seg_bytes s
  unfolding stored_segment
  read_bytes needs documents bytes read s e alike is =
      let a = bind_ok (opened documents bytes) (λ r. documents_fit config labels needs 12 r.records >>= λ fit. unless_at r (first_difference bytes (seg_bytes (rebuilt config labels r.records)))) read e in
      let b = bind_ok (documents_fit config labels needs 12 a.0.records) (λ fit. unless_at a.0 (first_difference bytes (seg_bytes (rebuilt config labels a.0.records)))) read a.2 in
      let d = whole a.0 (first_difference bytes (seg_bytes (rebuilt config labels a.0.records))) b.2 in
      same_from_none bytes (seg_bytes (rebuilt config labels a.0.records)) 0 d.1 ∙ ap (λ (r : Records). seg_bytes (rebuilt config labels r.records)) (ap all_live d.0 ∙ alike) ∙ ap seg_bytes (rebuilt_same s is) ∙ same_bytes s []
    where
      whole : (r : Records) (o : Option ℕ) → unless_at r o ≡ Ok read → (r ≡ read) × (o ≡ None)
      whole r None e = (cc e, refl)
      whole r (Some at) e = absurd (cc e)

  one_there : (needs : ℕ) (g : Segments) (p : LivePart) (s : Records) → IsNamedAs config labels p s → segment_of config labels needs g p ≡ Ok s → g p.part.number ≡ Some (seg_bytes s)
  unfolding segment_of
  one_there needs g p s named e =
      let name = file Index Segment p.part.number in
      let a = bind_ok (segment_bytes name p.part.digest (g p.part.number)) (λ bytes. told_as (Malformed name) (stored_segment config labels needs p.part.documents bytes) >>= λ r. done {F = OpenFault} (with_dead r p.dead)) s e in
      let b = bind_ok (told_as (Malformed name) (stored_segment config labels needs p.part.documents a.0)) (λ r. done {F = OpenFault} (with_dead r p.dead)) s a.2 in
      let reads = told_ok (Malformed name) (stored_segment config labels needs p.part.documents a.0) b.0 b.1 in
      let alike : all_live b.0 ≡ all_live s = ap all_live (done_is OpenFault (with_dead b.0 p.dead) s b.2) in
      segment_there name p.part.digest (g p.part.number) a.0 a.1 ∙ ap (λ b. Some b) (read_bytes needs p.part.documents a.0 b.0 s reads alike named.decodes)

  all_there : (needs : ℕ) (g : Segments) (parts : List LivePart) (ss : List Records) → AllZip (IsNamedAs config labels) parts ss → segments_of config labels needs g parts ≡ Ok ss → there g (map (λ p. p.part.number) parts) ≡ map pair (kept_by parts ss)
  unfolding segments_of
  all_there needs g [] ss named e = refl
  all_there needs g (p ∷ parts) [] named e = absurd named
  all_there needs g (p ∷ parts) (s ∷ ss) named e =
      let a = bind_ok (segment_of config labels needs g p) (λ first. segments_of config labels needs g parts >>= λ others. Ok (first ∷ others)) (s ∷ ss) e in
      let d = bind_ok (segments_of config labels needs g parts) (λ (others : List Records). done {F = OpenFault} (a.0 ∷ others)) (s ∷ ss) a.2 in
      let both = done_is OpenFault (a.0 ∷ d.0) (s ∷ ss) d.2 in
      let first : a.0 ≡ s = cc both in
      let others : d.0 ≡ ss = cc both in
      let here = one_there needs g p s named.0 (a.1 ∙ ap (λ r. Ok r) first) in
      rw here (λ i. pair (record { part = p.part; segment = s }) ∷ all_there needs g parts ss named.1 (d.1 ∙ ap (λ r. Ok r) others) i)

  -- ---- both directories

  -- what was read of one and of the other is the whole
  parts_read : (c : Image) (ss : List Records) (first : List (List (List ℕ))) (rest : List Records) → taxonomy_in (newest_file Taxonomy c) (image_segments Taxonomy c) ≡ Ok first
      → index_in config first (newest_file Index c) (image_segments Index c) ≡ Ok rest → (let f : Found = record { labels = first; segments = rest } in f) ≡ record { labels = labels; segments = ss }
      → (taxonomy_in (newest_file Taxonomy c) (image_segments Taxonomy c) ≡ Ok labels) × (index_in config labels (newest_file Index c) (image_segments Index c) ≡ Ok ss)
  parts_read c ss first rest taxonomy index is =
      let same : first ≡ labels = ap (λ (f : Found). f.labels) is in
      let segs : rest ≡ ss = ap (λ (f : Found). f.segments) is in
      (taxonomy ∙ ap (λ l. Ok l) same, ap (λ l. index_in config l (newest_file Index c) (image_segments Index c)) (sym same) ∙ index ∙ ap (λ l. Ok l) segs)

  files_read : (c : Image) (ss : List Records) → files config c ≡ Ok (record { labels = labels; segments = ss })
      → (taxonomy_in (newest_file Taxonomy c) (image_segments Taxonomy c) ≡ Ok labels) × (index_in config labels (newest_file Index c) (image_segments Index c) ≡ Ok ss)
  unfolding files
  files_read c ss e =
      let below = bind_ok (unspent (greatest_number c)) (λ below. taxonomy_in (newest_file Taxonomy c) (image_segments Taxonomy c) >>= λ labels. index_in config labels (newest_file Index c) (image_segments Index c) >>= λ segments. Ok (record { labels = labels; segments = segments })) (record { labels = labels; segments = ss }) e in
      let a = bind_ok (taxonomy_in (newest_file Taxonomy c) (image_segments Taxonomy c)) (λ labels. index_in config labels (newest_file Index c) (image_segments Index c) >>= λ segments. Ok (record { labels = labels; segments = segments })) (record { labels = labels; segments = ss }) below.2 in
      let b = bind_ok (index_in config a.0 (newest_file Index c) (image_segments Index c)) (λ segments. Ok (record { labels = a.0; segments = segments })) (record { labels = labels; segments = ss }) a.2 in
      parts_read c ss a.0 b.0 a.1 b.1 (done_is OpenFault (record { labels = a.0; segments = b.0 }) (record { labels = labels; segments = ss }) b.2)

  taxonomy_number : (o : Option (ℕ × List ℕ)) (n : Option ℕ) (parts : List LabelPart) → IsNewestTaxonomy o n parts labels → option_map (λ c. c.0) o ≡ n
  taxonomy_number None n parts is = sym is.0
  taxonomy_number (Some named) n parts is = sym is.0

  taxonomy_named : (o : Option (ℕ × List ℕ)) (n : Option ℕ) (parts : List LabelPart) → IsNewestTaxonomy o n parts labels → named Taxonomy o ≡ map (λ part. part.number) parts
  taxonomy_named None n parts is = ap (λ (ps : List LabelPart). map (λ part. part.number) ps) (sym is.1)
  taxonomy_named (Some (m, bytes)) n parts is = ap label_numbers is.1

  taxonomy_parts : (o : Option (ℕ × List ℕ)) (n : Option ℕ) (parts : List LabelPart) (S : Segments) → IsNewestTaxonomy o n parts labels → taxonomy_in o S ≡ Ok labels → labels_of S ([] ∷ []) parts ≡ Ok labels
  unfolding taxonomy_in labels_of
  taxonomy_parts None n parts S is e = ap (labels_of S ([] ∷ [])) is.1 ∙ e
  taxonomy_parts (Some (m, bytes)) n parts S is e = ap (λ (r : Result TaxonomyListing _). told_as (of_file (file Taxonomy Commit m)) r >>= λ commit. labels_of S ([] ∷ []) commit.parts) (sym is.1) ∙ e

  there_numbers : (g : Segments) (ns : List ℕ) → AllByRecursion (λ n. (b : List ℕ) × (g n ≡ Some b)) ns → map (λ x. x.0) (there g ns) ≡ ns
  there_numbers g [] all = refl
  there_numbers g (n ∷ ns) all = rw all.0.1 (λ i. n ∷ there_numbers g ns all.1 i)

  index_number_is : (o : Option (ℕ × List ℕ)) (n : Option ℕ) (parts : List LivePart) → IsNewestIndex o n parts → option_map (λ c. c.0) o ≡ n
  index_number_is None n parts is = sym is.0
  index_number_is (Some named) n parts is = sym is.0

  index_kept_is : (g : Segments) (o : Option (ℕ × List ℕ)) (n : Option ℕ) (parts : List LivePart) (ss : List Records) → IsNewestIndex o n parts → AllZip (IsNamedAs config labels) parts ss → index_in config labels o g ≡ Ok ss
      → there g (named Index o) ≡ map pair (kept_by parts ss)
  unfolding index_in
  index_kept_is g None n parts ss is named e = ap (λ ps. map pair (kept_by ps ss)) (sym is.1)
  index_kept_is g (Some (m, bytes)) n parts ss is named e =
      let commit = is.1.2 in
      let listed : (agrees config (length labels) (documents_listed is.1.0 is.1.1 parts) >>= λ agreed. segments_of config labels is.1.0 g parts) ≡ Ok ss
      = ap (λ (r : Result IndexListing _). told_as (of_file (file Index Commit m)) r >>= λ commit. agrees config (length labels) commit >>= λ agreed. segments_of config labels commit.needs g commit.parts) (sym commit) ∙ e in
      let b = bind_ok (agrees config (length labels) (documents_listed is.1.0 is.1.1 parts)) (λ agreed. segments_of config labels is.1.0 g parts) ss listed in
      ap (λ r. there g (document_numbers r)) commit ∙ all_there is.1.0 g parts ss named b.2

  pub read_known : (c : Image) (n : Newest) (ss : List Records) → files config c ≡ Ok (record { labels = labels; segments = ss }) → IsNewestTaxonomy (newest_file Taxonomy c) n.taxonomy n.label_parts.items labels → IsNewestIndex (newest_file Index c) n.index n.document_parts.items
      → AllZip (IsNamedAs config labels) n.document_parts.items ss → IsKnown config (committed_read n labels ss) (held_in Taxonomy c) (held_in Index c) labels ss
  read_known c n ss e taxonomy index named_as =
      let held_files = files_held config c (record { labels = labels; segments = ss }) e in
      let found = found_files config (held_in Taxonomy c) (held_in Index c) labels ss held_files in
      let read = files_read c ss e in
      record {
        files = held_files;
        taxonomy = taxonomy_number (newest_file Taxonomy c) n.taxonomy n.label_parts.items taxonomy;
        label_numbers = there_numbers (image_segments Taxonomy c) (named Taxonomy (newest_file Taxonomy c)) (taxonomy_there (image_segments Taxonomy c) (newest_file Taxonomy c) labels read.0) ∙ taxonomy_named (newest_file Taxonomy c) n.taxonomy n.label_parts.items taxonomy;
        label_parts = taxonomy_parts (newest_file Taxonomy c) n.taxonomy n.label_parts.items (held_segments (held_in Taxonomy c)) taxonomy found.0;
        label_count = refl;
        index = index_number_is (newest_file Index c) n.index n.document_parts.items index;
        kept = index_kept_is (image_segments Index c) (newest_file Index c) n.index n.document_parts.items ss index named_as read.1;
        documents = all_segments n.document_parts.items ss named_as;
      }

-- an image from before a run that writes nothing
pub at_unchanged : {D : Type 0} (disk : Ghosts D) (next : ℕ) (t i : Held) (old new : D) → IsQuiet disk old new → IsAt disk.may_leave next t i old → IsAt disk.may_leave next t i new
at_unchanged disk next t i old new quiet at c left =
    let was = quiet.passes.now c left in
    subst (Stands next t i) (sym was.2) (at was.0 was.1)
