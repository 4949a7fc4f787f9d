-- The tests on leaves and documents, one after the other, and what they tell.
use Rattle.std.proofs.Common.{◌≡◌, ℕ, ◌+◌, ◌*◌, ◌<◌, ◌≤◌, Bool, true, false, cond, ltb, List, [], ◌∷◌, length, drop, get_or, Ok, Err, Option, Some, None, refl, arith}
use Rattle.std.specs.Prelude.{◌&&◌}
use Rattle.std.specs.List.{AllByRecursion}
use Rattle.std.specs.Option.{option_map}
use Rattle.std.proofs.lemmas.Bool.{lt-ltb, ltb-true, and_parts}
use Rattle.std.proofs.lemmas.List.{drop_more, drop_all}
use Rattle.facet_names.proofs.LabelLists.{Labels}
use Rattle.facet_codec.proofs.Taking.{bind_ok}
use Rattle.facet_model.specs.Accepts.{Accepts, first_broken, Broken}
use Rattle.facet_model.specs.Flags.{Config}
use Rattle.facet_model.specs.Stored.{Stored}
use Rattle.seg_grammar.specs.Spelling.{record_bytes}
use Rattle.seg_decoding.specs.Answers.{IsLeaf}
use Rattle.seg_documents.specs.Decoding.{doc_in}
use Rattle.seg_decoding.specs.Opening.{unless_at, leaves_fit, leaves_place, document_fits, documents_fit}

-- ---- leaf by leaf

module _ (needs at : ℕ) (leaves : List ℕ) (k : ℕ) (lt : k < length leaves) where
  pub leaves_more : (ltb 0 (get_or leaves k 0) && ltb (get_or leaves k 0) needs) ≡ true → leaves_fit needs (at + 4 * (k + 1)) (drop (k + 1) leaves) ≡ leaves_fit needs (at + 4 * k) (drop k leaves)
  unfolding leaves_fit
  leaves_more is =
      let next : at + 4 * (k + 1) ≡ at + 4 * k + 4 = omega arith in
      rw (drop_more leaves k 0 lt, is, next) refl

  pub leaves_fail : (ltb 0 (get_or leaves k 0) && ltb (get_or leaves k 0) needs) ≡ false → leaves_fit needs (at + 4 * k) (drop k leaves) ≡ Err (at + 4 * k)
  unfolding leaves_fit
  leaves_fail is = rw (drop_more leaves k 0 lt, is) refl

pub leaves_end : (needs at : ℕ) (leaves : List ℕ) (k : ℕ) → length leaves ≤ k → leaves_fit needs (at + 4 * k) (drop k leaves) ≡ Ok (tt {0})
unfolding leaves_fit
leaves_end needs at leaves k past = rw (drop_all k leaves past) refl

-- leaves that fit
pub leaves_are : (needs at : ℕ) (leaves : List ℕ) → leaves_fit needs at leaves ≡ Ok (tt {0}) → AllByRecursion (IsLeaf needs) leaves
unfolding leaves_fit
leaves_are needs at [] e = tt
leaves_are needs at (leaf ∷ leaves) e = by (ltb 0 leaf && ltb leaf needs) refl (leaves_are needs (at + 4) leaves) e
  where
    by : (b : Bool) → (ltb 0 leaf && ltb leaf needs) ≡ b → (leaves_fit needs (at + 4) leaves ≡ Ok (tt {0}) → AllByRecursion (IsLeaf needs) leaves) → cond b (leaves_fit needs (at + 4) leaves) (Err at) ≡ Ok (tt {0}) → AllByRecursion (IsLeaf needs) (leaf ∷ leaves)
    by true is others fit = let both = and_parts (ltb 0 leaf) (ltb leaf needs) is in ((ltb-true 0 leaf both.0, ltb-true leaf needs both.1), others fit)
    by false is others fit = absurd cc

pub leaves_fit_where : (needs at : ℕ) (leaves : List ℕ) → AllByRecursion (IsLeaf needs) leaves → leaves_fit needs at leaves ≡ Ok (tt {0})
unfolding leaves_fit
leaves_fit_where needs at [] all = refl
leaves_fit_where needs at (leaf ∷ leaves) all = rw (lt-ltb 0 leaf all.0.0, lt-ltb leaf needs all.0.1) (leaves_fit_where needs (at + 4) leaves all.1)

-- ---- document by document

module _ (config : Config) (known : Labels) (needs : ℕ) where
  pub documents_more : (rs : List Stored) (i at : ℕ) (d : Stored) → i < length rs → document_fits config known needs at (get_or rs i d) ≡ Ok (tt {0})
      → documents_fit config known needs (at + length (record_bytes (get_or rs i d))) (drop (i + 1) rs) ≡ documents_fit config known needs at (drop i rs)
  unfolding documents_fit
  documents_more rs i at d lt fits = rw (drop_more rs i d lt, fits) refl

  pub documents_fail : (rs : List Stored) (i at e : ℕ) (d : Stored) → i < length rs → document_fits config known needs at (get_or rs i d) ≡ Err e → documents_fit config known needs at (drop i rs) ≡ Err e
  unfolding documents_fit
  documents_fail rs i at e d lt fails = rw (drop_more rs i d lt, fails) refl

  pub documents_end : (rs : List Stored) (i at : ℕ) → length rs ≤ i → documents_fit config known needs at (drop i rs) ≡ Ok (tt {0})
  unfolding documents_fit
  documents_end rs i at past = rw (drop_all i rs past) refl

  module _ (at : ℕ) (r : Stored) where
    pub leaves_refused : (e : ℕ) → leaves_fit needs (leaves_place at r) r.leaves ≡ Err e → document_fits config known needs at r ≡ Err e
    unfolding document_fits
    leaves_refused e fails = rw fails refl

    pub document_refused : (broken : Broken) → leaves_fit needs (leaves_place at r) r.leaves ≡ Ok (tt {0}) → first_broken config (doc_in known r) ≡ Some broken → document_fits config known needs at r ≡ Err at
    unfolding document_fits
    document_refused broken fits is = rw (fits, is) refl

    pub document_accepted : leaves_fit needs (leaves_place at r) r.leaves ≡ Ok (tt {0}) → Accepts config (doc_in known r) → document_fits config known needs at r ≡ Ok (tt {0})
    unfolding document_fits
    document_accepted fits is = rw (fits, is) refl

  -- The leaves of the record fit, and its document is accepted.
  pub record Fits (r : Stored) : Type 0 where
    pub leaves : AllByRecursion (IsLeaf needs) r.leaves
    pub accepted : Accepts config (doc_in known r)

  pub document_is : (at : ℕ) (r : Stored) → document_fits config known needs at r ≡ Ok (tt {0}) → Fits r
  unfolding document_fits
  document_is at r e =
      let parts = bind_ok (leaves_fit needs (leaves_place at r) r.leaves) (λ leaves. unless_at (tt {0}) (option_map (λ broken. at) (first_broken config (doc_in known r)))) (tt {0}) e in
      record { leaves = leaves_are needs (leaves_place at r) r.leaves parts.1; accepted = none (first_broken config (doc_in known r)) parts.2 }
    where
      none : (o : Option Broken) → unless_at (tt {0}) (option_map (λ broken. at) o) ≡ Ok (tt {0}) → o ≡ None
      none None h = refl
      none (Some b) h = absurd cc

  pub document_fits_where : (at : ℕ) (r : Stored) → Fits r → document_fits config known needs at r ≡ Ok (tt {0})
  unfolding document_fits
  document_fits_where at r fits = rw (leaves_fit_where needs (leaves_place at r) r.leaves fits.leaves, fits.accepted) refl

  pub documents_are : (at : ℕ) (rs : List Stored) → documents_fit config known needs at rs ≡ Ok (tt {0}) → AllByRecursion Fits rs
  unfolding documents_fit
  documents_are at [] e = tt
  documents_are at (r ∷ rs) e =
      let parts = bind_ok (document_fits config known needs at r) (λ first. documents_fit config known needs (at + length (record_bytes r)) rs) (tt {0}) e in
      (document_is at r parts.1, documents_are (at + length (record_bytes r)) rs parts.2)

  pub documents_fit_where : (at : ℕ) (rs : List Stored) → AllByRecursion Fits rs → documents_fit config known needs at rs ≡ Ok (tt {0})
  unfolding documents_fit
  documents_fit_where at [] all = refl
  documents_fit_where at (r ∷ rs) all = rw (document_fits_where at r all.0) (documents_fit_where (at + length (record_bytes r)) rs all.1)
