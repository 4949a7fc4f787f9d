-- The greatest number of a list of names.
use Rattle.std.proofs.Common.{◌≡◌, ◌≢◌, ◌⊎◌, ◌≤◌, ◌<◌, ◌^◌, inl, inr, refl, sym, ap, ◌∙◌, subst, ⊎_elim, arith, ℕ, List, [], ◌∷◌, ◌++◌, Option, Some, None, Bool, true, false, ◌&&◌, ◌||◌, is_some, max, if◌then◌else◌, Contains, Result, Ok, Err, nat_lt, length, get_or, ◌-◌, length-append}
use Rattle.std.specs.Option.{option_map_or}
use Rattle.std.specs.Prelude.{IfSome}
use Rattle.std.proofs.lemmas.Bool.{cases_lt, and_parts, true≢false}
use Rattle.std.proofs.lemmas.Bool.Decides.{nat_tests}
use Rattle.std.proofs.Math.Nat.{le-max_left, le-max_right, max-eq_left, max-eq_right}
use Rattle.std.proofs.lemmas.List.{get_or_append_left, get_or-append_right}
use Rattle.std.proofs.lemmas.List.Elements.{Contains-get_or, Contains-push, Contains-push_cases, Contains-append_left, Contains-append_right, Contains-append_cases}
use Rattle.facet_disk.specs.declared.name.Dir.{Dir}
use Rattle.facet_disk.specs.declared.name.Dir.TheVariants.{Taxonomy, Index}
use Rattle.facet_disk.specs.declared.name.Kind.{Kind}
use Rattle.facet_disk.specs.declared.name.Kind.TheVariants.{Segment, Pending, Commit}
use Rattle.facet_disk.specs.declared.name.FileName.{FileName}
use Rattle.facet_disk.specs.FileNames.{same_dir, same_kind}
use Rattle.facet_disk.specs.SameNames.{dir_again, dir_from, kind_from}
use Rattle.facet_disk.specs.Images.{Image}
use Rattle.facet_disk.specs.Calls.{Lists}
use Rattle.facet_names.specs.Arrays.{greatest}
use Rattle.facet_names.proofs.Greatest.{IsGreatest, greatest_is, one_greatest}
use Rattle.commit_calls.specs.Held.{Below, file, newest}
use Rattle.store_opening.specs.declared.fault.OpenFault.{OpenFault}
use Rattle.store_opening.specs.declared.fault.OpenFault.TheVariants.{NumbersSpent}
use Rattle.store_opening.specs.Files.{has_number, greatest_number, unspent}
use Rattle.store_opening.specs.Newest.{AreListed}

-- the greatest number of those names that count
abbrev pub IsBest : (FileName → Bool) → List FileName → Option ℕ → Type 0
IsBest counts names None = (n : FileName) → Contains names n → counts n ≡ false
IsBest counts names (Some k) = (k < 2 ^ 64) × ((n : FileName) × Contains names n × (counts n ≡ true) × (n.number ≡ k)) × ((n : FileName) → Contains names n → counts n ≡ true → n.number ≤ k)

abbrev pub better : Option ℕ → Bool → ℕ → Option ℕ
better best counts number = if counts then Some (option_map_or (λ n. max n number) best number) else best

-- a commit file of this directory
abbrev pub is_commit : Dir → FileName → Bool
is_commit dir n = same_dir n.dir dir && same_kind n.kind Commit

abbrev pub is_any : FileName → Bool
is_any n = true

module _ (counts : FileName → Bool) (seen : List FileName) (x : FileName) where
  other : counts x ≡ false → (best : Option ℕ) → IsBest counts seen best → IsBest counts (seen ++ x ∷ []) best
  other failing None is = λ n has. ⊎_elim (λ old. is n old) (λ new. ap counts (sym new) ∙ failing) (Contains-push_cases seen x n has)
  other failing (Some k) is = (
    is.0,
    (is.1.0, Contains-append_left seen (x ∷ []) is.1.0 is.1.1, is.1.2, is.1.3),
    λ n has passing. ⊎_elim (λ old. is.2 n old passing) (λ new. absurd (cc (sym passing ∙ ap counts (sym new) ∙ failing))) (Contains-push_cases seen x n has),
  )

  more : counts x ≡ true → (best : Option ℕ) → option_map_or (λ n. max n x.number) best x.number < 2 ^ 64 → IsBest counts seen best → IsBest counts (seen ++ x ∷ []) (Some (option_map_or (λ n. max n x.number) best x.number))
  more passing None low is = (
    low,
    (x, Contains-push seen x, passing, refl),
    λ n has c. ⊎_elim (λ old. absurd (cc (sym c ∙ is n old))) (λ new. let same : x.number ≡ n.number = ap (λ (m : FileName). m.number) new in omega (arith, same)) (Contains-push_cases seen x n has),
  )
  more passing (Some k) low is = (
    low,
    ⊎_elim
        (λ (up : k < x.number). (x, Contains-push seen x, passing, sym (max-eq_right (omega (arith, up)))))
        (λ (down : x.number ≤ k). (is.1.0, Contains-append_left seen (x ∷ []) is.1.0 is.1.1, is.1.2, is.1.3 ∙ sym (max-eq_left down)))
        (cases_lt k x.number),
    λ n has c. ⊎_elim
        (λ old. omega (arith, is.2 n old c, le-max_left k x.number))
        (λ new. let same : x.number ≡ n.number = ap (λ (m : FileName). m.number) new in omega (arith, same, le-max_right k x.number))
        (Contains-push_cases seen x n has),
  )

  pub best_more : (best : Option ℕ) → IfSome (better best (counts x) x.number) (λ n. n < 2 ^ 64) → IsBest counts seen best → IsBest counts (seen ++ x ∷ []) (better best (counts x) x.number)
  best_more best low is = go (counts x) refl low
    where
      go : (b : Bool) → counts x ≡ b → IfSome (better best b x.number) (λ n. n < 2 ^ 64) → IsBest counts (seen ++ x ∷ []) (better best b x.number)
      go true passing low = more passing best low is
      go false failing low = other failing best is

-- ---- of the files of an image

some_present : (o : Option (List ℕ)) → o ≢ None → is_some o ≡ true
some_present None some = absurd (some refl)
some_present (Some b) some = refl

some_from : (o : Option (List ℕ)) → is_some o ≡ true → o ≢ None
some_from None is = absurd (cc is)
some_from (Some b) is = λ e. cc e

false_from : (b : Bool) → (b ≡ true → ⊥) → b ≡ false
false_from true not = absurd (not refl)
false_from false failing = refl

-- the greatest number that passes a test, where each name that counts passes it and each number that passes is of a name that counts
module _ (c : Image) (names : List FileName) (test : ℕ → Bool) (counts : FileName → Bool)
    (there : (n : FileName) → Contains names n → counts n ≡ true → test n.number ≡ true)
    (back : (m : ℕ) → test m ≡ true → (n : FileName) × Contains names n × (counts n ≡ true) × (n.number ≡ m)) where
  pub best_is : (best : Option ℕ) → IsBest counts names best → best ≡ greatest test (2 ^ 64)
  best_is best is = one_greatest test (2 ^ 64) best (greatest test (2 ^ 64)) (by best is) (greatest_is test (2 ^ 64))
    where
      by : (b : Option ℕ) → IsBest counts names b → IsGreatest test (2 ^ 64) b
      by None none = λ m low. false_from (test m) (λ passes. let n = back m passes in cc (sym n.2 ∙ none n.0 n.1))
      by (Some k) best = (
        best.0,
        ap test (sym best.1.3) ∙ there best.1.0 best.1.1 best.1.2,
        λ m over low. false_from (test m) (λ passes. let n = back m passes in let le = best.2 n.0 n.1 n.2 in let same = n.3 in omega (arith, over, le, same)),
      )

-- a file has its number
pub number_there : (c : Image) (n : FileName) → c n ≢ None → has_number c n.number ≡ true
number_there c n some = by n.dir n.kind n.number (some_present (c n) some)
  where
    by : (dir : Dir) (kind : Kind) (m : ℕ) → is_some (c (file dir kind m)) ≡ true → has_number c m ≡ true
    by Taxonomy Segment m is = grind (arith, is)
    by Taxonomy Pending m is = grind (arith, is)
    by Taxonomy Commit m is = grind (arith, is)
    by Index Segment m is = grind (arith, is)
    by Index Pending m is = grind (arith, is)
    by Index Commit m is = grind (arith, is)

-- a number is that of a file
pub number_back : (c : Image) (m : ℕ) → has_number c m ≡ true → (n : FileName) × (c n ≢ None) × (n.number ≡ m)
number_back c m is =
    ⊎_elim (λ a. here Taxonomy Segment a)
    (⊎_elim (λ a. here Taxonomy Pending a)
    (⊎_elim (λ a. here Taxonomy Commit a)
    (⊎_elim (λ a. here Index Segment a)
    (⊎_elim (λ a. here Index Pending a) (λ a. here Index Commit a)))))
    (six (is_some (c (file Taxonomy Segment m))) (is_some (c (file Taxonomy Pending m))) (is_some (c (file Taxonomy Commit m))) (is_some (c (file Index Segment m))) (is_some (c (file Index Pending m))) (is_some (c (file Index Commit m))) is)
  where
    here : (dir : Dir) (kind : Kind) → is_some (c (file dir kind m)) ≡ true → (n : FileName) × (c n ≢ None) × (n.number ≡ m)
    here dir kind is = (file dir kind m, some_from (c (file dir kind m)) is, refl)

    six : (a b d e f g : Bool) → (a || b || d || e || f || g) ≡ true → (a ≡ true) ⊎ (b ≡ true) ⊎ (d ≡ true) ⊎ (e ≡ true) ⊎ (f ≡ true) ⊎ (g ≡ true)
    six true b d e f g is = inl refl
    six false true d e f g is = inr (inl refl)
    six false false true e f g is = inr (inr (inl refl))
    six false false false true f g is = inr (inr (inr (inl refl)))
    six false false false false true g is = inr (inr (inr (inr (inl refl))))
    six false false false false false g is = inr (inr (inr (inr (inr is))))

-- the newest commit file
module _ (c : Image) (names : List FileName) (listed : AreListed c names) where
  pub newest_from : (dir : Dir) (best : Option ℕ) → IsBest (is_commit dir) names best → best ≡ newest dir c
  newest_from dir = best_is c names (λ n. is_some (c (file dir Commit n))) (is_commit dir) there back
    where
      there : (n : FileName) → Contains names n → is_commit dir n ≡ true → is_some (c (file dir Commit n.number)) ≡ true
      there n has is =
          let two = and_parts (same_dir n.dir dir) (same_kind n.kind Commit) is in
          let same : n ≡ file dir Commit n.number = λ i. record { dir = dir_from n.dir dir two.0 i; kind = kind_from n.kind Commit two.1 i; number = n.number } in
          some_present (c (file dir Commit n.number)) (subst (λ (m : FileName). c m ≢ None) same (listed.each n has))

      back : (m : ℕ) → is_some (c (file dir Commit m)) ≡ true → (n : FileName) × Contains names n × (is_commit dir n ≡ true) × (n.number ≡ m)
      back m is = (file dir Commit m, listed.all (file dir Commit m) (some_from (c (file dir Commit m)) is), ap (λ (b : Bool). b && true) (dir_again dir), refl)

  pub greatest_from : (best : Option ℕ) → IsBest is_any names best → best ≡ greatest_number c
  greatest_from = best_is c names (has_number c) is_any (λ n has passing. number_there c n (listed.each n has))
      (λ m is. let n = number_back c m is in (n.0, listed.all n.0 n.1, refl, n.2))

-- ---- numbers below 2^63

pub small_unspent : (c : Image) → Below (2 ^ 63) c → unspent (greatest_number c) ≡ Ok tt
small_unspent c small = by (greatest_number c) (greatest_is (has_number c) (2 ^ 64))
  where
    by : (o : Option ℕ) → IsGreatest (has_number c) (2 ^ 64) o → unspent o ≡ Ok tt
    by None is = refl
    by (Some k) is =
        let n = number_back c k is.1 in
        let low : n.0.number < 2 ^ 63 = small n.0 n.1 in
        let test : nat_lt k (2 ^ 63) ≡ true = grind (arith, nat_tests, low, n.2) in
        ap (λ (b : Bool). if b then Ok tt else Err (NumbersSpent k)) test

pub unspent_small : (c : Image) → Below (2 ^ 64) c → unspent (greatest_number c) ≡ Ok tt → Below (2 ^ 63) c
unspent_small c wide e = by (greatest_number c) (greatest_is (has_number c) (2 ^ 64)) e
  where
    below : (k : ℕ) (b : Bool) → nat_lt k (2 ^ 63) ≡ b → ◌≡◌ {A = Result (Unit {0}) OpenFault} (if b then Ok tt else Err (NumbersSpent k)) (Ok tt) → k < 2 ^ 63
    below k true is e = grind (arith, nat_tests, is)
    below k false is e = absurd (cc e)

    by : (o : Option ℕ) → IsGreatest (has_number c) (2 ^ 64) o → unspent o ≡ Ok tt → (n : FileName) → c n ≢ None → n.number < 2 ^ 63
    by None is e n some = absurd (cc (sym (is n.number (wide n some)) ∙ number_there c n some))
    by (Some k) is e n some = ⊎_elim
        (λ (up : k < n.number). absurd (cc (sym (is.2 n.number up (wide n some)) ∙ number_there c n some)))
        (λ (le : n.number ≤ k). let low = below k (nat_lt k (2 ^ 63)) refl e in omega (arith, le, low))
        (cases_lt k n.number)

-- the names of two directories
pub both_listed : (c : Image) (names others all : List FileName) → Lists Taxonomy c names → Lists Index c others → all ≡ names ++ others → AreListed c all
both_listed c names others all one two is = subst (AreListed c) (sym is) (record {
  each = λ n has. ⊎_elim (λ first. (one.each n first).1) (λ second. (two.each n second).1) (Contains-append_cases names others n has);
  all = λ n some. by n n.dir refl some;
  once = λ i j d less long. ⊎_elim
      (λ (low : j < length names). rw (get_or_append_left names others d i (omega (arith, less, low)), get_or_append_left names others d j low) (one.once i j d less low))
      (λ (high : length names ≤ j). ⊎_elim
      (λ (low : i < length names). rw (get_or_append_left names others d i low, get_or-append_right names others (length names) j d refl high) (apart i (j - length names) d low (behind j high long)))
      (λ (up : length names ≤ i). rw (get_or-append_right names others (length names) i d refl up, get_or-append_right names others (length names) j d refl high)
      (two.once (i - length names) (j - length names) d (omega (arith, less, up)) (behind j high long)))
      (cases_lt i (length names)))
      (cases_lt j (length names));
})
  where
    by : (n : FileName) (dir : Dir) → n.dir ≡ dir → c n ≢ None → Contains (names ++ others) n
    by n Taxonomy is some = Contains-append_left names others n (one.all n is some)
    by n Index is some = Contains-append_right names others n (two.all n is some)

    behind : (j : ℕ) → length names ≤ j → j < length (names ++ others) → j - length names < length others
    behind j high long = omega (arith, high, long, length-append names others)

    apart : (i j : ℕ) (d : FileName) → i < length names → j < length others → get_or names i d ≢ get_or others j d
    apart i j d low long same =
        let first = (one.each (get_or names i d) (Contains-get_or names i d low)).0 in
        let second = (two.each (get_or others j d) (Contains-get_or others j d long)).0 in
        cc (sym first ∙ ap (λ (n : FileName). n.dir) same ∙ second)

-- what every number is below
pub most_from : (names : List FileName) (best : Option ℕ) → IsBest is_any names best → (n : FileName) → Contains names n → IfSome best (λ most. n.number ≤ most)
most_from names None is n has = tt
most_from names (Some k) is n has = is.2 n has refl

pub none_from : (names : List FileName) (best : Option ℕ) → IsBest is_any names best → best ≡ None → (n : FileName) → Contains names n → ⊥
none_from names None is none n has = cc (is n has)
none_from names (Some k) is none n has = absurd (cc none)

-- the newest commit file is there
pub newest_number_there : (dir : Dir) (c : Image) (n : ℕ) → newest dir c ≡ Some n → c (file dir Commit n) ≢ None
newest_number_there dir c n is none = true≢false (sym (subst (IsGreatest (λ k. is_some (c (file dir Commit k))) (2 ^ 64)) is (greatest_is (λ k. is_some (c (file dir Commit k))) (2 ^ 64))).1 ∙ ap is_some none)
