-- What tokens have seen after they were told what notes show.
use Rattle.std.proofs.Common.{◌≡◌, ◌∙◌, ◌⊎◌, inl, inr, ◌++◌, ◌≤◌, ℕ, Bool, true, false, cond, List, [], length, refl, sym, ap, subst, arith, append-nil}
use Rattle.std.specs.Prelude.{nat_lt}
use Rattle.std.proofs.lemmas.Bool.{lt-ltb, le-ltb}
use Rattle.std.proofs.lemmas.List.{length-map, length-append, nil_from_length}
use native.Mathlib.Decide.{dec_lt}
use mathlib.Core.Logic.{dite}
use mathlib.Core.List.{IsPrefix}
use Rattle.chronicle.specs.History.{entries, longer}
use Rattle.chronicle.specs.Shown.{Shown, SameToken, SeesOn, IsCounted}
use Rattle.chronicle.proofs.Prefixes.{prefix_length}
use Rattle.facet_model.specs.Histories.{Operation}
use Rattle.facet_names.specs.Labels.{IsLabelList}
use Rattle.pair_manager.specs.declared.pass.Pass.{Pass}
use Rattle.pair_manager.specs.declared.publication.Publication.{Publication}
use Rattle.pair_manager.specs.Passes.{SamePass}
use Rattle.pair_manager.specs.Published.{ArePublications, numbers}
use Rattle.pair_manager.proofs.Publishing.{still_right}
use Rattle.facet_output.specs.Seen.{Sees, IsTold, EntersNone}
use Rattle.taxo_cache.specs.Seen.{labels_of, SeesLabels}
use Rattle.facet_engine.specs.declared.notes.Notes.{Notes}
use Rattle.facet_engine.specs.Notes.{noted}
use Rattle.facet_engine.specs.Sessions.{HaveOneNumber}
use Rattle.facet_engine.specs.Steps.{seen_of, point_of}
use Rattle.facet_engine.specs.Exchange.{Meets, longer_of}
use Rattle.facet_engine.proofs.Seeing.{told, told_begins, labels_none, operations_none, pairs_none, commits_none}

-- ---- the longer of two lists

-- it is one of both
pub longer_one : {A : Type 0} (P : List A → Type 0) (xs ys : List A) → P xs → P ys → P (longer xs ys)
longer_one P xs ys p q = by (nat_lt (length xs) (length ys))
  where
    by : (b : Bool) → P (cond b ys xs)
    by true = q
    by false = p

-- where one begins the other, it is the second if that is as long as the first
pub longer_is : {A : Type 0} (xs ys : List A) → IsPrefix xs ys ⊎ IsPrefix ys xs → length xs ≤ length ys → longer xs ys ≡ ys
longer_is xs ys (inl p) within = dite (dec_lt (length xs) (length ys))
    (λ lt. rw (lt-ltb (length xs) (length ys) lt) refl)
    (λ ge. let none : p.0 ≡ [] = nil_from_length p.0 (let l = ap length p.1 in omega (arith, length-append xs p.0)) in
    rw (le-ltb (length xs) (length ys) (omega arith)) (sym (append-nil xs) ∙ ap (λ l. xs ++ l) (sym none) ∙ p.1))
longer_is xs ys (inr p) within =
    let none : p.0 ≡ [] = nil_from_length p.0 (let l = ap length p.1 in omega (arith, length-append ys p.0)) in
    let same : xs ≡ ys = sym p.1 ∙ ap (λ l. ys ++ l) none ∙ append-nil ys in
    longer_one (λ l. l ≡ ys) xs ys same refl

-- ---- one token

-- what it shows after it was told what another had seen
pub record HasMet {A : Type 0} (old new other : Shown A) : Type 0 where
  pub same : SameToken old new × (new.holds_turn ≡ false)
  pub one : IsPrefix old.seen other.seen ⊎ IsPrefix other.seen old.seen
  pub longest : new.seen ≡ longer old.seen other.seen
  pub told : IsPrefix other.seen new.seen
  pub more : SeesOn old new
  pub counted : IsCounted new

many_told : {A B : Type 0} (f : A → B) (xs : List (ℕ × A)) → length (told f xs) ≡ length xs
many_told {A} {B} f xs = let each : ℕ × A → ℕ × B = λ e. (e.0, f e.1) in length-map xs each

-- the longer of two lists, each told so
told_longer : {A B : Type 0} (f : A → B) (xs ys : List (ℕ × A)) → told f (longer xs ys) ≡ longer (told f xs) (told f ys)
told_longer {A} {B} f xs ys = by (nat_lt (length xs) (length ys)) ∙ sym (λ i. cond (nat_lt (many_told f xs i) (many_told f ys i)) (told f ys) (told f xs))
  where
    by : (b : Bool) → told f (cond b ys xs) ≡ cond b (told f ys) (told f xs)
    by true = refl
    by false = refl

module _ {A B : Type 0} (f : A → B) (old new other : Shown A) (met : HasMet old new other) where
  -- where it had seen no more than the other, it has seen just that
  pub meets_all : IsPrefix (told f old.seen) (told f other.seen) → new.seen ≡ other.seen
  meets_all p =
      let within = prefix_length (told f old.seen) (told f other.seen) p in
      met.longest ∙ longer_is old.seen other.seen met.one (omega (arith, within, many_told f old.seen, many_told f other.seen))

-- labels that it has seen stay a label list
pub met_list : (old new other : Shown (List (List ℕ))) → new.seen ≡ longer old.seen other.seen → SeesLabels old → SeesLabels other → SeesLabels new
met_list old new other is list lists =
    subst (λ (seen : List (ℕ × List (List ℕ))). IsLabelList (labels_of seen)) (sym is) (longer_one (λ (seen : List (ℕ × List (List ℕ))). IsLabelList (labels_of seen)) old.seen other.seen list lists)

-- the publications that a pass has seen stay right
pub met_right : (labels labels_now other_labels : Shown (List (List ℕ))) (operations operations_now other_operations : Shown Operation) (pairs pairs_now other_pairs : Shown Publication)
    → HasMet labels labels_now other_labels → HasMet operations operations_now other_operations → HasMet pairs pairs_now other_pairs
    → ArePublications labels.seen operations.seen (entries pairs.seen) → ArePublications other_labels.seen other_operations.seen (entries other_pairs.seen)
    → ArePublications labels_now.seen operations_now.seen (entries pairs_now.seen)
met_right labels labels_now other_labels operations operations_now other_operations pairs pairs_now other_pairs l o p right other =
    subst (λ (seen : List (ℕ × Publication)). ArePublications labels_now.seen operations_now.seen (entries seen)) (sym p.longest)
    (longer_one (λ (seen : List (ℕ × Publication)). ArePublications labels_now.seen operations_now.seen (entries seen)) pairs.seen other_pairs.seen
    (still_right labels.seen labels_now.seen operations.seen operations_now.seen l.more.0 o.more.0 (entries pairs.seen) right)
    (still_right other_labels.seen labels_now.seen other_operations.seen operations_now.seen l.told o.told (entries other_pairs.seen) other))

-- ---- a pass

module _ (number : ℕ) (old new : Pass) (notes : Notes) (have : HaveOneNumber number old)
    (labels : HasMet old.labels new.labels notes.labels) (operations : HasMet old.operations new.operations notes.operations) (pairs : HasMet old.pairs new.pairs notes.pairs) (commits : HasMet old.commits new.commits notes.commits) where
  abbrev n : ℕ
  n = old.labels.number

  same : SamePass old new
  same = record { labels = labels.same.0; operations = operations.same.0; pairs = pairs.same.0; commits = commits.same.0 }

  no_labels : EntersNone n (seen_of old).labels (seen_of new).labels
  no_labels = labels_none number old new have same labels.more

  no_operations : EntersNone n (seen_of old).operations (seen_of new).operations
  no_operations = operations_none number old new have same operations.more

  no_pairs : EntersNone n (seen_of old).pairs (seen_of new).pairs
  no_pairs = pairs_none number old new have same pairs.more

  no_commits : EntersNone n (seen_of old).commits (seen_of new).commits
  no_commits = commits_none number old new have same commits.more

  is_told : IsTold n (seen_of old) (seen_of new)
  is_told = record {
    sees = record { labels = no_labels.0; operations = no_operations.0; pairs = no_pairs.0; commits = no_commits.0 };
    labels = no_labels.1;
    operations = no_operations.1;
    pairs = no_pairs.1;
    commits = no_commits.1;
  }

  knows : Sees (noted notes) (seen_of new)
  knows = record {
    labels = labels.told;
    operations = told_begins (λ (o : Operation). o.change) notes.operations.seen new.operations.seen operations.told;
    pairs = told_begins numbers notes.pairs.seen new.pairs.seen pairs.told;
    commits = told_begins point_of notes.commits.seen new.commits.seen commits.told;
  }

  meets_just : Sees (seen_of old) (noted notes) → seen_of new ≡ noted notes
  meets_just sees =
      let l : new.labels.seen ≡ notes.labels.seen = labels.longest ∙ longer_is old.labels.seen notes.labels.seen labels.one (prefix_length old.labels.seen notes.labels.seen sees.labels) in
      let o = meets_all (λ (x : Operation). x.change) old.operations new.operations notes.operations operations sees.operations in
      let p = meets_all numbers old.pairs new.pairs notes.pairs pairs sees.pairs in
      let c = meets_all point_of old.commits new.commits notes.commits commits sees.commits in
      λ i. record { labels = l i; operations = told (λ (x : Operation). x.change) (o i); pairs = told numbers (p i); commits = told point_of (c i) }

  longest : seen_of new ≡ longer_of (seen_of old) (noted notes)
  longest =
      let o = ap (told (λ (x : Operation). x.change)) operations.longest ∙ told_longer (λ (x : Operation). x.change) old.operations.seen notes.operations.seen in
      let p = ap (told numbers) pairs.longest ∙ told_longer numbers old.pairs.seen notes.pairs.seen in
      let c = ap (told point_of) commits.longest ∙ told_longer point_of old.commits.seen notes.commits.seen in
      λ i. record { labels = labels.longest i; operations = o i; pairs = p i; commits = c i }

  pub meets : Meets number old new (noted notes)
  meets = record {
    same = same;
    on = (labels.more, operations.more, pairs.more, commits.more);
    told = subst (λ k. IsTold k (seen_of old) (seen_of new)) have.0 is_told;
    knows = knows;
    longest = longest;
    all = meets_just;
    counted = (labels.counted, operations.counted, pairs.counted, commits.counted);
  }
