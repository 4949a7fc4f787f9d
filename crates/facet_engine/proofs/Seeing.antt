-- What tokens have seen and entered, as plain data.
use Rattle.std.proofs.Common.{◌≡◌, ◌∙◌, ℕ, eqb, Bool, true, false, cond, [], ◌∷◌, ◌++◌, map, refl, sym, ap}
use Rattle.std.proofs.lemmas.List.{map-append}
use mathlib.Core.List.{IsPrefix}
use Rattle.chronicle.specs.History.{own_of}
use Rattle.chronicle.specs.Shown.{Shown, SameToken, SeesOn, EntersBehind as Enters}
use Rattle.facet_model.specs.Histories.{Operation}
use Rattle.pair_manager.specs.declared.pass.Pass.{Pass}
use Rattle.pair_manager.specs.Published.{numbers}
use Rattle.pair_manager.specs.Passes.{SamePass}
use Rattle.facet_output.specs.Seen.{Entries, entered_by, EntersNone, EntersBehind}
use Rattle.facet_engine.specs.Sessions.{HaveOneNumber}
use Rattle.facet_engine.specs.Steps.{seen_of, point_of}

-- nothing of its own is new in what a token sees on
pub enters_none : {A : Type 0} (old new : Shown A) (n : ℕ) → old.is_note ≡ false → old.number ≡ n → SameToken old new → SeesOn old new → EntersNone n old.seen new.seen
enters_none old new n is at same on =
    (on.0, sym (λ i. own_of ((same.2 ∙ is) i) ((same.0 ∙ at) i) new.seen) ∙ on.1 ∙ (λ i. own_of (is i) (at i) old.seen))

-- a token entered one entry
pub enters_behind : {A : Type 0} (entry : A) (old new : Shown A) (n : ℕ) → old.is_note ≡ false → old.number ≡ n → (e : Enters entry old new) → EntersBehind n entry old.seen e.between new.seen
enters_behind entry old new n is at e =
    ((e.on, sym (λ i. own_of (is i) (at i) e.between) ∙ e.none ∙ (λ i. own_of (is i) (at i) old.seen)), e.seen ∙ (λ i. e.between ++ (at i, entry) ∷ []))

module _ {A B : Type 0} (f : A → B) where
  -- each entry as f has it
  abbrev pub told : Entries A → Entries B
  told xs = map (λ e. (e.0, f e.1)) xs

  pub told_begins : (xs ys : Entries A) → IsPrefix xs ys → IsPrefix (told xs) (told ys)
  told_begins xs ys p = (told p.0, sym (map-append (λ (e : ℕ × A). (e.0, f e.1)) xs p.0) ∙ ap told p.1)

  told_by : (n : ℕ) (xs : Entries A) → entered_by n (told xs) ≡ told (entered_by n xs)
  told_by n [] = refl
  told_by n (x ∷ xs) = by (eqb x.0 n) (told_by n xs)
    where
      by : (b : Bool) → entered_by n (told xs) ≡ told (entered_by n xs) → cond b ((x.0, f x.1) ∷ entered_by n (told xs)) (entered_by n (told xs)) ≡ told (cond b (x ∷ entered_by n xs) (entered_by n xs))
      by true rest = ap (λ (l : Entries B). (x.0, f x.1) ∷ l) rest
      by false rest = rest

  pub told_none : (n : ℕ) (xs ys : Entries A) → EntersNone n xs ys → EntersNone n (told xs) (told ys)
  told_none n xs ys e = (told_begins xs ys e.0, told_by n ys ∙ ap told e.1 ∙ sym (told_by n xs))

  pub told_behind : (n : ℕ) (entry : A) (xs between ys : Entries A) → EntersBehind n entry xs between ys → EntersBehind n (f entry) (told xs) (told between) (told ys)
  told_behind n entry xs between ys e = (told_none n xs between e.0, ap told e.1 ∙ map-append (λ (x : ℕ × A). (x.0, f x.1)) between ((n, entry) ∷ []))

-- ---- a call that enters nothing of a kind

module _ (number : ℕ) (old new : Pass) (have : HaveOneNumber number old) (same : SamePass old new) where
  abbrev n : ℕ
  n = old.labels.number

  pub labels_none : SeesOn old.labels new.labels → EntersNone n (seen_of old).labels (seen_of new).labels
  labels_none on = enters_none old.labels new.labels n old.labels_rest.0 refl same.labels on

  pub operations_none : SeesOn old.operations new.operations → EntersNone n (seen_of old).operations (seen_of new).operations
  operations_none on = told_none (λ (o : Operation). o.change) n old.operations.seen new.operations.seen (enters_none old.operations new.operations n old.operations_rest.0 (have.1 ∙ sym have.0) same.operations on)

  pub pairs_none : SeesOn old.pairs new.pairs → EntersNone n (seen_of old).pairs (seen_of new).pairs
  pairs_none on = told_none numbers n old.pairs.seen new.pairs.seen (enters_none old.pairs new.pairs n old.pairs_rest.0 (have.2 ∙ sym have.0) same.pairs on)

  pub commits_none : SeesOn old.commits new.commits → EntersNone n (seen_of old).commits (seen_of new).commits
  commits_none on = told_none point_of n old.commits.seen new.commits.seen (enters_none old.commits new.commits n old.commits_rest.0 (have.3 ∙ sym have.0) same.commits on)
