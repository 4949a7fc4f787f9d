-- What a commit file can hold.
use Rattle.std.specs.Prelude.{◌≡◌, ◌<◌, ◌≤◌, ◌^◌, ℕ, List, length}
use Rattle.std.specs.List.{AllByRecursion, sum_by}
use Rattle.facet_codec.specs.Laws.{IsText, IsBelow}
use Rattle.facet_model.specs.declared.flags.DimFlags.{DimFlags}
use Rattle.commit_file.specs.declared.taxonomy.LabelPart.{LabelPart}
use Rattle.commit_file.specs.declared.index.DocumentPart.{DocumentPart}
use Rattle.commit_file.specs.LiveParts.{LivePart, live_of}
use Rattle.commit_file.specs.Commits.{TaxonomyListing, IndexListing, AreInOrder, kept_of}
use Rattle.seg_postings.specs.Rising.{IsRising}

-- a segment of labels whose numbers fit
pub record IsLabelPart (part : LabelPart) : Type 0 where
  pub number : part.number < 2 ^ 64
  pub first : part.first < 2 ^ 32
  pub count : part.count < 2 ^ 32
  pub digest : length part.digest ≡ 32

-- a segment of documents whose numbers fit
pub record IsDocumentPart (part : DocumentPart) : Type 0 where
  pub number : part.number < 2 ^ 64
  pub documents : part.documents < 2 ^ 32
  pub digest : length part.digest ≡ 32

-- The places of the records that are not live rise, and are below the number of records. If the segment has records,
-- one of them is live.
pub record IsLivePart (p : LivePart) : Type 0 where
  pub rise : IsRising p.dead
  pub below : AllByRecursion (IsBelow p.part.documents) p.dead
  pub some : 0 < p.part.documents → 0 < live_of p

-- a declaration whose dimension is a text of 1 to 1,024 bytes
pub record IsDeclaration (d : List ℕ × DimFlags) : Type 0 where
  pub some : 1 ≤ length d.0
  pub text : IsText 1024 d.0

-- what a commit of the taxonomy can hold
pub record IsTaxonomy (c : TaxonomyListing) : Type 0 where
  pub labels : c.labels ≤ 1000000
  pub some : 0 < length c.parts
  pub few : length c.parts < 2 ^ 32
  pub order : AreInOrder c.labels 1 c.parts

-- what a commit of the index can hold
pub record IsIndex (c : IndexListing) : Type 0 where
  pub kept : kept_of c.kept ≡ c.kept
  pub few : length c.parts < 2 ^ 32
  pub parts : AllByRecursion IsLivePart c.parts
  pub live : sum_by live_of c.parts ≤ 1000000
