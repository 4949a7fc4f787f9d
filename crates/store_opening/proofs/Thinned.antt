-- A segment whose commit tells which of its records are no longer live.
use Rattle.std.proofs.Common.{◌≡◌, ℕ, ◌||◌, ◌<◌, ◌≤◌, ◌-◌, List, [], length, map, sym, subst, ap, ◌∙◌, refl, arith}
use Rattle.std.specs.List.{AllByRecursion}
use Rattle.sha2.specs.Sha256.{sha256}
use Rattle.facet_codec.specs.Laws.{IsBelow}
use Rattle.facet_model.specs.Flags.{Config}
use Rattle.facet_model.specs.Stored.{Records, IsSegmentOf, is_dead, live_before}
use Rattle.commit_file.specs.Limits.{IsLivePart}
use Rattle.commit_file.specs.LiveParts.{LivePart}
use Rattle.live_records.proofs.Alive.{is_in-is_dead}
use Rattle.live_records.proofs.Ranks.{before_all}
use Rattle.seg_documents.specs.Decoding.{doc_in}
use Rattle.seg_file.specs.Live.{with_dead}
use Rattle.seg_file.proofs.Live.{all_live_is, same_bytes}
use Rattle.seg_grammar.specs.Spelling.{IsSegment, seg_bytes}
use Rattle.seg_postings.specs.Rising.{IsRising, is_in}
use Rattle.seg_postings.proofs.Members.{one_rising}
use Rattle.store_opening.specs.Newest.{IsNamedAs}

-- the records at these places alone are no longer live
pub thinned_is : (old new : Records) (dead : List ℕ) → old.dead ≡ [] → new.records ≡ old.records → new.terms ≡ old.terms → ((n : ℕ) → is_dead new.dead n ≡ (is_dead old.dead n || is_dead dead n)) → IsRising new.dead → IsRising dead
    → new ≡ with_dead old dead
thinned_is old new dead live records terms told rise rising =
    let same : (n : ℕ) → is_in n new.dead ≡ is_in n dead = λ n. is_in-is_dead n new.dead ∙ told n ∙ ap (λ (ds : List ℕ). is_dead ds n || is_dead dead n) live ∙ sym (is_in-is_dead n dead) in
    λ i. record { records = records i; terms = terms i; dead = one_rising new.dead dead rise rising same i }

-- as many records are live as the commit tells
live_are : (documents : ℕ) (dead : List ℕ) → IsRising dead → AllByRecursion (IsBelow documents) dead → 0 < documents - length dead → 1 ≤ live_before dead documents
live_are documents dead rise below some = omega (arith, before_all documents dead rise below, some)

module _ (config : Config) (labels : List (List (List ℕ))) (p : LivePart) (is : IsLivePart p) (stored : Records) (number : length stored.records ≡ p.part.documents) (some : 0 < length stored.records) where
  below : AllByRecursion (IsBelow (length stored.records)) p.dead
  below = subst (λ (n : ℕ). AllByRecursion (IsBelow n) p.dead) (sym number) is.below

  left : 0 < length stored.records - length p.dead
  left = subst (λ (n : ℕ). 0 < n - length p.dead) (sym number) (is.some (subst (λ (n : ℕ). 0 < n) number some))

  pub thinned_named : (digest : sha256 (seg_bytes stored) ≡ p.part.digest) → IsSegment (seg_bytes stored) stored → IsSegmentOf labels config stored (map (doc_in labels) stored.records) → IsNamedAs config labels p (with_dead stored p.dead)
  thinned_named digest own of = record {
    documents = number;
    digest = ap sha256 (same_bytes stored p.dead) ∙ digest;
    dead = refl;
    own = record {
      own = all_live_is stored (with_dead stored p.dead) p.dead refl own;
      rise = is.rise;
      below = below;
      some = live_are (length stored.records) p.dead is.rise below left;
    };
    decodes = record { records = of.records; terms = of.terms };
  }
