-- Lists that grow and shrink at their end.
use Rattle.std.proofs.Common.{◌≡◌, ℕ, zero, suc, ◌+◌, ◌<◌, Bool, true, false, List, [], ◌∷◌, ◌++◌, length, take, map, get_or, None, refl, sym, ap, subst, ◌∙◌, arith, append_assoc}
use Rattle.std.specs.Prelude.{◌||◌, ◌&&◌, not}
use Rattle.std.specs.List.{list_any, AllByRecursion, AllZip}
use Rattle.std.specs.Borrow.{Bor}
use Rattle.std.proofs.lemmas.Bool.{or_parts, true≢false}
use Rattle.std.proofs.lemmas.List.{append-nil, map_push, take_more}
use Rattle.std.specs.Str.{bytes_eq}
use Rattle.std.specs.Cmp.Lexicographic.{bytes_decides}
use Rattle.std.proofs.lemmas.List.Folds.{list_any-append, list_any_at, list_any_more}
use Rattle.facet_model.specs.Documents.{dim_of}
use Rattle.facet_model.specs.Documents.{Doc}
use Rattle.facet_model.specs.Queries.{QueryTree}
use Rattle.facet_model.specs.Stored.{Records}
use Rattle.facet_counts.specs.Tallies.{Tally, HasAdded}
use Rattle.seg_drill.specs.Passing.{is_again, is_first, passes_all}
use Rattle.sideways.specs.Counted.{ArePartsOf, IsPartOf, PartLeft, is_drilled, is_near}
use Rattle.sideways.specs.Kept.{AreDistinct, HasNear, HasNears, HasPart, HasParts, IsLiftedOf, IsPassOf, dim_in}
use Rattle.sideways.specs.Questions.{Question}
use Rattle.sideways.specs.declared.pass.LiftedPass.{LiftedPass}
use Rattle.sideways.specs.declared.pass.Pass.{Pass}
use Rattle.std.proofs.Math.Bool.{or-false}
use Rattle.std.proofs.lemmas.Slice.Zip.{all_zipped_more}
use Rattle.facet_codec.proofs.Lists.{each_push}

pub all_front : {A : Type 0} (P : A → Type 0) (xs : List A) (y : A) → AllByRecursion P (xs ++ y ∷ []) → AllByRecursion P xs
all_front P [] y all = tt
all_front P (x ∷ xs) y all = (all.0, all_front P xs y all.1)

pub all_last : {A : Type 0} (P : A → Type 0) (xs : List A) (y : A) → AllByRecursion P (xs ++ y ∷ []) → P y
all_last P [] y all = all.0
all_last P (x ∷ xs) y all = all_last P xs y all.1

pub any_push : {A : Type 0} (p : A → Bool) (xs : List A) (y : A) → list_any p (xs ++ y ∷ []) ≡ (list_any p xs || p y)
any_push p xs y = list_any-append p xs (y ∷ []) ∙ ap (λ b. list_any p xs || b) (or-false (p y))

-- what goes from one list to another is in one of them as before
pub moved_over : {A B : Type 0} (p : A → Bool) (r : B → Bool) (xs : List A) (y : A) (zs : List B) (z : B) → r z ≡ p y → (list_any p xs || list_any r (zs ++ z ∷ [])) ≡ (list_any p (xs ++ y ∷ []) || list_any r zs)
moved_over p r xs y zs z same = ap (λ b. list_any p xs || b) (any_push r zs z ∙ ap (λ b. list_any r zs || b) same) ∙ turned (list_any p xs) (list_any r zs) (p y) ∙ ap (λ b. b || list_any r zs) (sym (any_push p xs y))
  where
    turned : (a b c : Bool) → (a || (b || c)) ≡ ((a || c) || b)
    turned true b c = refl
    turned false true true = refl
    turned false true false = refl
    turned false false true = refl
    turned false false false = refl

-- ---- the dimensions of a drill

pub covers_more : (drill : List (List (List ℕ))) (i : ℕ) (dim d : List ℕ) → i < length drill → dim_of (get_or drill i []) ≡ d → (list_any (λ path. bytes_eq (dim_of path) dim) (take i drill) || bytes_eq d dim) ≡ list_any (λ path. bytes_eq (dim_of path) dim) (take (i + 1) drill)
covers_more drill i dim d lt is = ap (λ x. list_any (λ path. bytes_eq (dim_of path) dim) (take i drill) || bytes_eq x dim) (sym is) ∙ sym (list_any_more (λ path. bytes_eq (dim_of path) dim) drill i [] lt)

-- a path whose dimension stood before brings no other
pub covers_same : (drill : List (List (List ℕ))) (i : ℕ) (dim : List ℕ) → i < length drill → is_first drill i None ≡ false → list_any (λ path. bytes_eq (dim_of path) dim) (take i drill) ≡ list_any (λ path. bytes_eq (dim_of path) dim) (take (i + 1) drill)
covers_same drill i dim lt other = by (bytes_eq (dim_of (get_or drill i [])) dim) refl ∙ sym (list_any_more (λ path. bytes_eq (dim_of path) dim) drill i [] lt)
  where
    again : (a : Bool) → (not a && true) ≡ false → a ≡ true
    again true h = refl
    again false h = absurd cc

    by : (b : Bool) → bytes_eq (dim_of (get_or drill i [])) dim ≡ b → list_any (λ path. bytes_eq (dim_of path) dim) (take i drill) ≡ (list_any (λ path. bytes_eq (dim_of path) dim) (take i drill) || bytes_eq (dim_of (get_or drill i [])) dim)
    by true e = let there : list_any (λ path. bytes_eq (dim_of path) dim) (take i drill) ≡ true = subst (λ d. is_again drill i d ≡ true) ((bytes_decides (dim_of (get_or drill i [])) dim).0 e) (again (is_again drill i (dim_of (get_or drill i []))) other) in rw there refl
    by false e = rw e (sym (or-false (list_any (λ path. bytes_eq (dim_of path) dim) (take i drill))))

-- ---- parts of segments

pub mapped_at : {A B : Type 0} (P : B → Type 0) (f : A → B) (xs : List A) (i : ℕ) (x : A) → AllByRecursion P (map f xs) → i < length xs → x ≡ get_or xs i x → P (f x)
mapped_at P f [] i x all lt here = absurd (omega arith)
mapped_at P f (y ∷ ys) zero x all lt here = subst (λ z. P (f z)) (sym here) all.0
mapped_at P f (y ∷ ys) (suc i) x all lt here = mapped_at P f ys i x all.1 (omega arith) here

pub zip_more : {A C B : Type 0} (R : C → B → Type 0) (f : A → C) (xs : List A) (i : ℕ) (x : A) (ys : List B) (y : B) → i < length xs → x ≡ get_or xs i x → AllZip R (map f (take i xs)) ys → R (f x) y → AllZip R (map f (take (i + 1) xs)) (ys ++ y ∷ [])
zip_more R f xs i x ys y lt is all here = subst (λ l. AllZip R l (ys ++ y ∷ [])) (sym (ap (map f) (take_more xs i x lt ∙ ap (λ z. take i xs ++ z ∷ []) (sym is)) ∙ map_push f (take i xs) x)) (all_zipped_more R (map f (take i xs)) ys (f x) y all here)

pub all_more : {A B : Type 0} (P : B → Type 0) (f : A → B) (xs : List A) (i : ℕ) (x : A) → i < length xs → x ≡ get_or xs i x → AllByRecursion P (map f (take i xs)) → P (f x) → AllByRecursion P (map f (take (i + 1) xs))
all_more P f xs i x lt is all here = subst (AllByRecursion P) (sym (ap (map f) (take_more xs i x lt ∙ ap (λ z. take i xs ++ z ∷ []) (sym is)) ∙ map_push f (take i xs) x)) (each_push P (map f (take i xs)) (f x) all here)

-- ---- distinct dimensions

distinct_last : (xs : List LiftedPass) (y : LiftedPass) → list_any (λ l. bytes_eq l.dim.now y.dim.now) xs ≡ false → AllByRecursion (λ l. y.dim.now ≡ l.dim.now → ⊥) xs
distinct_last [] y none = tt
distinct_last (x ∷ xs) y none =
    let both = or_parts (bytes_eq x.dim.now y.dim.now) (list_any (λ l. bytes_eq l.dim.now y.dim.now) xs) none in
    ((λ e. true≢false (sym ((bytes_decides x.dim.now y.dim.now).1 (sym e)) ∙ both.0)), distinct_last xs y both.1)

mapped_push : (d : List ℕ) (xs : List LiftedPass) (y : LiftedPass) → AllByRecursion (λ e. e ≡ d → ⊥) (map dim_in xs) → (y.dim.now ≡ d → ⊥) → AllByRecursion (λ e. e ≡ d → ⊥) (map dim_in (xs ++ y ∷ []))
mapped_push d [] y all here = (here, tt)
mapped_push d (x ∷ xs) y all here = (all.0, mapped_push d xs y all.1 here)

distinct_all : (xs : List LiftedPass) (y : LiftedPass) → AreDistinct (map dim_in xs) → AllByRecursion (λ l. y.dim.now ≡ l.dim.now → ⊥) xs → AreDistinct (map dim_in (xs ++ y ∷ []))
distinct_all [] y distinct apart = (tt, tt)
distinct_all (x ∷ xs) y distinct apart = (mapped_push x.dim.now xs y distinct.0 apart.0, distinct_all xs y distinct.1 apart.1)

pub distinct_push : (xs : List LiftedPass) (y : LiftedPass) → AreDistinct (map dim_in xs) → list_any (λ l. bytes_eq l.dim.now y.dim.now) xs ≡ false → AreDistinct (map dim_in (xs ++ y ∷ []))
distinct_push xs y distinct none = distinct_all xs y distinct (distinct_last xs y none)

-- the first path of a dimension has one that did not stand before, and is of the drill
pub not_again : (drill : List (List (List ℕ))) (i : ℕ) (d : List ℕ) → dim_of (get_or drill i []) ≡ d → is_first drill i None ≡ true → list_any (λ path. bytes_eq (dim_of path) d) (take i drill) ≡ false
not_again drill i d is first = ap (is_again drill i) (sym is) ∙ new (is_again drill i (dim_of (get_or drill i []))) first
  where
    new : (a : Bool) → (not a && true) ≡ true → a ≡ false
    new true h = absurd cc
    new false h = refl

pub drilled_at : (drill : List (List (List ℕ))) (i : ℕ) (d : List ℕ) → i < length drill → dim_of (get_or drill i []) ≡ d → is_drilled drill d ≡ true
drilled_at drill i d lt is = list_any_at (λ path. bytes_eq (dim_of path) d) drill i [] lt ((bytes_decides (dim_of (get_or drill i [])) d).1 is)

-- ---- the parts of each segment

pub no_parts : (test : Doc → Bool) (pass : Pass) → HasParts test [] pass pass
no_parts test pass = record { more = []; are = tt; parts = sym (append-nil pass.parts.items); counter = refl }

pub parts_more : {A : Type 0} (test : Doc → Bool) (f : A → Records) (xs : List A) (i : ℕ) (x : A) (old now new : Pass) → i < length xs → x ≡ get_or xs i x → HasParts test (map f (take i xs)) old now → HasPart test (f x) now new → HasParts test (map f (take (i + 1) xs)) old new
parts_more test f xs i x old now new lt is so_far next = record {
  more = so_far.more ++ next.part ∷ [];
  are = zip_more (IsPartOf test) f xs i x so_far.more next.part lt is so_far.are next.is;
  parts = next.parts ∙ ap (λ ps. ps ++ next.part ∷ []) so_far.parts ∙ append_assoc old.parts.items so_far.more (next.part ∷ []);
  counter = next.counter ∙ so_far.counter;
}

module _ (query : QueryTree) (drill : List (List (List ℕ))) where
  pub no_nears : (ls : List LiftedPass) → AllZip (HasNears query drill []) ls ls
  no_nears [] = tt
  no_nears (l ∷ ls) = ((refl, no_parts (is_near query drill l.dim.now) l.pass), no_nears ls)

  pub nears_more : {A : Type 0} (f : A → Records) (xs : List A) (i : ℕ) (x : A) (olds nows news : List LiftedPass) → i < length xs → x ≡ get_or xs i x → AllZip (HasNears query drill (map f (take i xs))) olds nows → AllZip (HasNear query drill (f x)) nows news
      → AllZip (HasNears query drill (map f (take (i + 1) xs))) olds news
  nears_more f xs i x [] [] [] lt is so_far next = tt
  nears_more f xs i x [] [] (n ∷ ns) lt is so_far next = absurd next
  nears_more f xs i x [] (m ∷ ms) news lt is so_far next = absurd so_far
  nears_more f xs i x (o ∷ os) [] news lt is so_far next = absurd so_far
  nears_more f xs i x (o ∷ os) (m ∷ ms) [] lt is so_far next = absurd next
  nears_more f xs i x (o ∷ os) (m ∷ ms) (n ∷ ns) lt is so_far next = (
    (next.0.0 ∙ so_far.0.0, parts_more (is_near query drill o.dim.now) f xs i x o.pass m.pass n.pass lt is so_far.0.1 (subst (λ d. HasPart (is_near query drill d.now) (f x) m.pass n.pass) so_far.0.0 next.0.1)),
    nears_more f xs i x os ms ns lt is so_far.1 next.1,
  )

  pub same_any : (segments : List Records) (dim : List ℕ) (olds news : List LiftedPass) → AllZip (HasNears query drill segments) olds news → list_any (λ l. bytes_eq l.dim.now dim) news ≡ list_any (λ l. bytes_eq l.dim.now dim) olds
  same_any segments dim [] [] are = refl
  same_any segments dim [] (n ∷ ns) are = absurd are
  same_any segments dim (o ∷ os) [] are = absurd are
  same_any segments dim (o ∷ os) (n ∷ ns) are = λ i. bytes_eq (are.0.0 i).now dim || same_any segments dim os ns are.1 i

  pub same_dims_in : (segments : List Records) (olds news : List LiftedPass) → AllZip (HasNears query drill segments) olds news → map dim_in news ≡ map dim_in olds
  same_dims_in segments [] [] are = refl
  same_dims_in segments [] (n ∷ ns) are = absurd are
  same_dims_in segments (o ∷ os) [] are = absurd are
  same_dims_in segments (o ∷ os) (n ∷ ns) are = λ i. (are.0.0 i).now ∷ same_dims_in segments os ns are.1 i

pass_is : (q : Question) (test : Doc → Bool) (segments : List Records) (old new : Pass) → IsPassOf q test [] old → HasParts test segments old new → IsPassOf q test segments new
pass_is q test segments old new is has = record {
  parts = subst (ArePartsOf test segments) (sym (has.parts ∙ ap (λ ps. ps ++ has.more) (no_left old.parts.items is.parts))) has.are;
  fresh = subst (λ (t : Tally). HasAdded t []) (sym has.counter) is.fresh;
  labels = ap (λ (t : Tally). t.labels) has.counter ∙ is.labels;
  config = ap (λ (t : Tally). t.config) has.counter ∙ is.config;
}
  where
    no_left : (ps : List PartLeft) → ArePartsOf test [] ps → ps ≡ []
    no_left [] are = refl
    no_left (p ∷ ps) are = absurd are

pub hits_are_of : (q : Question) (segments : List Records) (old new : Pass) → old.parts.items ≡ [] → HasAdded old.counter [] → old.counter.labels ≡ q.labels → old.counter.config ≡ q.config → HasParts (passes_all q.query q.drill None) segments old new → IsPassOf q (passes_all q.query q.drill None) segments new
hits_are_of q segments old new none fresh labels config has = pass_is q (passes_all q.query q.drill None) segments old new (record { parts = subst (ArePartsOf (passes_all q.query q.drill None) []) (sym none) tt; fresh = fresh; labels = labels; config = config }) has

pub lifted_are_of : (q : Question) (segments : List Records) (olds news : List LiftedPass) → AllByRecursion (λ l. IsLiftedOf q [] l) olds → AllZip (HasNears q.query q.drill segments) olds news → AllByRecursion (λ l. IsLiftedOf q segments l) news
lifted_are_of q segments [] [] each are = tt
lifted_are_of q segments [] (n ∷ ns) each are = absurd are
lifted_are_of q segments (o ∷ os) [] each are = absurd are
lifted_are_of q segments (o ∷ os) (n ∷ ns) each are = (
  record {
    drilled = ap (λ (d : Bor (List ℕ)). is_drilled q.drill d.now) are.0.0 ∙ each.0.drilled;
    pass = subst (λ (d : Bor (List ℕ)). IsPassOf q (is_near q.query q.drill d.now) segments n.pass) (sym are.0.0) (pass_is q (is_near q.query q.drill o.dim.now) segments o.pass n.pass each.0.pass are.0.1);
  },
  lifted_are_of q segments os ns each.1 are.1,
)

-- ---- a pass that has all its parts from the first

pub pass_starts : (q : Question) (test : Doc → Bool) (pass : Pass) → pass.parts.items ≡ [] → HasAdded pass.counter [] → pass.counter.labels ≡ q.labels → pass.counter.config ≡ q.config → IsPassOf q test [] pass
pass_starts q test pass none fresh labels config = record { parts = subst (ArePartsOf test []) (sym none) tt; fresh = fresh; labels = labels; config = config }

pub pass_more : {A : Type 0} (q : Question) (test : Doc → Bool) (f : A → Records) (xs : List A) (i : ℕ) (x : A) (now new : Pass) (part : PartLeft) → i < length xs → x ≡ get_or xs i x → IsPassOf q test (map f (take i xs)) now → IsPartOf test (f x) part
    → new.parts.items ≡ now.parts.items ++ part ∷ [] → new.counter ≡ now.counter → IsPassOf q test (map f (take (i + 1) xs)) new
pass_more q test f xs i x now new part lt is so_far next parts counter = record {
  parts = subst (ArePartsOf test (map f (take (i + 1) xs))) (sym parts) (zip_more (IsPartOf test) f xs i x now.parts.items part lt is so_far.parts next);
  fresh = subst (λ (t : Tally). HasAdded t []) (sym counter) so_far.fresh;
  labels = ap (λ (t : Tally). t.labels) counter ∙ so_far.labels;
  config = ap (λ (t : Tally). t.config) counter ∙ so_far.config;
}
