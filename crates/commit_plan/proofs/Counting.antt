-- How many documents placed segments have.
use Rattle.std.proofs.Common.{◌≡◌, ◌<◌, ◌≤◌, ◌+◌, List, [], ◌∷◌, length, refl, sym, ap, subst, ◌∙◌, arith}
use Rattle.std.specs.List.{AllByRecursion, sum_by}
use Rattle.std.proofs.lemmas.List.{length-map}
use Rattle.std.proofs.lemmas.List.Sums.{sum_by-cons}
use Rattle.facet_codec.specs.Laws.{IsBelow}
use Rattle.facet_model.specs.Stored.{Records, live_before}
use Rattle.commit_file.specs.LiveParts.{live_of}
use Rattle.commit_file.specs.Limits.{IsLivePart}
use Rattle.seg_documents.specs.Decoding.{records_in}
use Rattle.seg_documents.specs.Storing.{IsStored, AreStored}
use Rattle.seg_documents.proofs.Storing.{live_beside, live_first, few_segments}
use Rattle.commit_plan.specs.Committed.{Kept, Committed, IsKept, live_part, segments_in, parts_in}
use Rattle.commit_plan.specs.Drafts.{Drafted, placed}
use Rattle.commit_plan.proofs.Keeping.{AreReadOnce, AreNamed, name_more, numbers_taken}

-- a commit names as many live records as a segment has
live_named : (k : Kept) → IsKept k → IsStored k.segment → live_of (live_part k) ≡ live_before k.segment.dead (length k.segment.records)
live_named k is stored = omega (arith, is.documents, live_beside k.segment stored)

pub live_counted : (ks : List Kept) → AllByRecursion IsKept ks → AreStored (segments_in ks) → sum_by live_of (parts_in ks) ≡ length (records_in (segments_in ks))
live_counted [] are stored = refl
live_counted (k ∷ ks) are stored =
    omega (arith, sum_by-cons live_of (live_part k) (parts_in ks), live_named k are.0 stored.0, live_counted ks are.1 stored.1, live_first k.segment (segments_in ks))

-- what a commit says of which records are live is right
pub live_parts : (ks : List Kept) → AllByRecursion IsKept ks → AreStored (segments_in ks) → AllByRecursion IsLivePart (parts_in ks)
live_parts [] are stored = tt
live_parts (k ∷ ks) are stored =
    let below = subst (λ n. AllByRecursion (IsBelow n) k.segment.dead) (sym are.0.documents) stored.0.below in
    (record { rise = stored.0.rise; below = below; some = λ given. omega (arith, live_named k are.0 stored.0, stored.0.some) }, live_parts ks are.1 stored.1)

pub some_live : (ks : List Kept) → AllByRecursion IsKept ks → AreStored (segments_in ks) → AllByRecursion (λ p. 0 < live_of p) (parts_in ks)
some_live [] are stored = tt
some_live (k ∷ ks) are stored = (omega (arith, live_named k are.0 stored.0, stored.0.some), some_live ks are.1 stored.1)

pub as_many : (ks : List Kept) (ss : List Records) → segments_in ks ≡ ss → length (parts_in ks) ≡ length ss
as_many ks ss is = length-map ks live_part ∙ sym (length-map ks (λ (k : Kept). k.segment)) ∙ ap (λ (xs : List Records). length xs) is

-- ---- segments that were placed

module _ (again : AreReadOnce) (old : Committed) (ss : List Records) (d : Drafted) (olds : AllByRecursion IsKept old.kept) (own : AreStored ss) where
  pub placed_named : AreNamed ss (placed old ss d)
  placed_named = name_more again [] (record { draft = d; behind = old.kept; kept = [] }) ss (record { segments = refl; kept = tt; behind = olds }) own

  placed_stored : AreStored (segments_in (placed old ss d).kept)
  placed_stored = subst AreStored (sym placed_named.segments) own

  pub placed_live : AllByRecursion IsLivePart (parts_in (placed old ss d).kept)
  placed_live = live_parts (placed old ss d).kept placed_named.kept placed_stored

  pub placed_some : AllByRecursion (λ p. 0 < live_of p) (parts_in (placed old ss d).kept)
  placed_some = some_live (placed old ss d).kept placed_named.kept placed_stored

  pub placed_size : length (parts_in (placed old ss d).kept) ≡ length ss
  placed_size = as_many (placed old ss d).kept ss placed_named.segments

  pub placed_few : length (records_in ss) ≤ 1000000 → length ss ≤ 1000000
  placed_few few = omega (arith, few, few_segments ss own)

  pub placed_documents : length (records_in ss) ≤ 1000000 → sum_by live_of (parts_in (placed old ss d).kept) ≤ 1000000
  placed_documents few =
      let all : length (records_in (segments_in (placed old ss d).kept)) ≡ length (records_in ss) = ap (λ (xs : List Records). length (records_in xs)) placed_named.segments in
      omega (arith, few, live_counted (placed old ss d).kept placed_named.kept placed_stored, all)

  pub placed_numbers : (d.next ≤ (placed old ss d).draft.next) × ((placed old ss d).draft.next ≤ d.next + length ss)
  placed_numbers = numbers_taken (record { draft = d; behind = old.kept; kept = [] }) ss
