-- The declarations that are kept: their order, and what is kept of the flags.
use Rattle.std.proofs.Common.{◌≡◌, ℕ, zero, suc, ◌+◌, ◌-◌, ◌<◌, Bool, true, false, List, [], ◌∷◌, drop, map, slice_get, Some, Bor, sym, ap, refl, ◌∙◌, arith}
use Rattle.std.specs.Prelude.{◌||◌, find, cond}
use Rattle.std.specs.BTreeMap.{insert_entry}
use Rattle.std.specs.List.{filter, AllByRecursion}
use Rattle.std.specs.List.Sorted.{IsStrictlySortedBy}
use Rattle.std.specs.Map.{keys_of}
use Rattle.std.specs.Option.{option_map_or}
use Rattle.std.specs.Str.{bytes_eq}
use Rattle.std.specs.declared.cmp.Ordering.{Ordering}
use Rattle.std.specs.declared.cmp.Ordering.TheVariants.{Less, Equal, Greater}
use Rattle.std.specs.Ordering.{match_ordering, nat_cmp, is_eq}
use Rattle.std.specs.Cmp.Lexicographic.{slice_cmp, nat_list_cmp_total, bytes_decides}
use Rattle.std.proofs.lemmas.Bool.{true≢false}
use Rattle.std.proofs.lemmas.Map.Text.{is_eq-slice_cmp}
use Rattle.facet_model.specs.declared.flags.DimFlags.{DimFlags}
use Rattle.facet_model.specs.Flags.{Config, flags, no_flags}
use Rattle.facet_model.specs.Words.{word_cmp}
use Rattle.facet_config.specs.Declarations.{AreDimensions, IsDimension}
use Rattle.commit_file.specs.Commits.{entry, in_order, is_some_set, kept_of}
use Rattle.commit_file.proofs.Rising.{flipped}

-- ---- the declarations as they are put into a map

pub entry_put : (es : List (Bor (List ℕ) × DimFlags)) (k : Bor (List ℕ)) (f : DimFlags) → map entry (insert_entry (λ x y. slice_cmp nat_cmp x.now y.now) es k f) ≡ insert_entry word_cmp (map entry es) k.now f
entry_put [] k f = refl
entry_put (e ∷ es) k f = by (slice_cmp nat_cmp k.now e.0.now) ∙ ap (λ rest. match_ordering (slice_cmp nat_cmp k.now e.0.now) ((k.now, f) ∷ (e.0.now, e.1) ∷ map entry es) ((e.0.now, f) ∷ map entry es) ((e.0.now, e.1) ∷ rest)) (entry_put es k f)
  where
    by : (o : Ordering) → map entry (match_ordering o ((k, f) ∷ e ∷ es) ((e.0, f) ∷ es) (e ∷ insert_entry (λ x y. slice_cmp nat_cmp x.now y.now) es k f)) ≡ match_ordering o ((k.now, f) ∷ (e.0.now, e.1) ∷ map entry es) ((e.0.now, f) ∷ map entry es) ((e.0.now, e.1) ∷ map entry (insert_entry (λ x y. slice_cmp nat_cmp x.now y.now) es k f))
    by Less = refl
    by Equal = refl
    by Greater = refl

drop_from : {A : Type 0} (xs : List A) (at : ℕ) (x : A) → slice_get xs at ≡ Some x → drop at xs ≡ x ∷ drop (at + 1) xs
drop_from [] at x e = absurd cc
drop_from (y ∷ ys) zero x e = by cc
  where
    by : y ≡ x → y ∷ ys ≡ x ∷ ys
    by h = ap (λ z. z ∷ ys) h
drop_from (y ∷ ys) (suc at) x e =
    let n : suc at + 1 ≡ suc (at + 1) = omega arith in
    rw n (drop_from ys at x e)

-- one more declaration, from the last to the first
pub order_more : (config : Config) (at : ℕ) (es new : List (Bor (List ℕ) × DimFlags)) (k : Bor (List ℕ)) (f : DimFlags) → 0 < at → slice_get config (at - 1) ≡ Some (k.now, f) → new ≡ insert_entry (λ x y. slice_cmp nat_cmp x.now y.now) es k f → map entry es ≡ in_order (drop at config) → map entry new ≡ in_order (drop (at - 1) config)
unfolding in_order
order_more config at es new k f some there made so_far =
    let back : at - 1 + 1 ≡ at = omega (arith, some) in
    let longer : drop (at - 1) config ≡ (k.now, f) ∷ drop at config = drop_from config (at - 1) (k.now, f) there ∙ ap (λ n. (k.now, f) ∷ drop n config) back in
    ap (map entry) made ∙ entry_put es k f ∙ ap (λ rest. insert_entry word_cmp rest k.now f) so_far ∙ sym (ap in_order longer)

-- ---- the order

below_put : (x k : List ℕ) (f : DimFlags) (es : Config) → word_cmp x k ≡ Less → AllByRecursion (λ y. word_cmp x y ≡ Less) (keys_of es) → AllByRecursion (λ y. word_cmp x y ≡ Less) (keys_of (insert_entry word_cmp es k f))
below_put x k f [] less all = (less, tt)
below_put x k f (e ∷ es) less all = by (word_cmp k e.0) (below_put x k f es less all.1)
  where
    by : (o : Ordering) → AllByRecursion (λ y. word_cmp x y ≡ Less) (keys_of (insert_entry word_cmp es k f)) → AllByRecursion (λ y. word_cmp x y ≡ Less) (keys_of (match_ordering o ((k, f) ∷ e ∷ es) ((e.0, f) ∷ es) (e ∷ insert_entry word_cmp es k f)))
    by Less rest = (less, all)
    by Equal rest = all
    by Greater rest = (all.0, rest)

pub above_all : (k x : List ℕ) (ks : List (List ℕ)) → word_cmp k x ≡ Less → AllByRecursion (λ y. word_cmp x y ≡ Less) ks → AllByRecursion (λ y. word_cmp k y ≡ Less) ks
above_all k x [] less all = tt
above_all k x (y ∷ ks) less all = (nat_list_cmp_total.trans k x y less all.0, above_all k x ks less all.1)

put_sorted : (k : List ℕ) (f : DimFlags) (es : Config) → IsStrictlySortedBy word_cmp (keys_of es) → IsStrictlySortedBy word_cmp (keys_of (insert_entry word_cmp es k f))
unfolding IsStrictlySortedBy
put_sorted k f [] up = (tt, tt)
put_sorted k f (e ∷ es) up = by (word_cmp k e.0) refl (put_sorted k f es up.1)
  where
    by : (o : Ordering) → word_cmp k e.0 ≡ o → IsStrictlySortedBy word_cmp (keys_of (insert_entry word_cmp es k f)) → IsStrictlySortedBy word_cmp (keys_of (match_ordering o ((k, f) ∷ e ∷ es) ((e.0, f) ∷ es) (e ∷ insert_entry word_cmp es k f)))
    by Less h rest = ((h, above_all k e.0 (keys_of es) h up.0), up)
    by Equal h rest = up
    by Greater h rest = (below_put e.0 k f es (flipped e.0 k Greater h) up.0, rest)

order_sorted : (config : Config) → IsStrictlySortedBy word_cmp (keys_of (in_order config))
unfolding in_order IsStrictlySortedBy
order_sorted [] = tt
order_sorted (d ∷ ds) = put_sorted d.0 d.1 (in_order ds) (order_sorted ds)

abbrev pub is_set : List ℕ × DimFlags → Bool
is_set d = is_some_set d.1

below_filter : (x : List ℕ) (es : Config) → AllByRecursion (λ y. word_cmp x y ≡ Less) (keys_of es) → AllByRecursion (λ y. word_cmp x y ≡ Less) (keys_of (filter is_set es))
below_filter x [] all = tt
below_filter x (e ∷ es) all = by (is_set e) (below_filter x es all.1)
  where
    by : (b : Bool) → AllByRecursion (λ y. word_cmp x y ≡ Less) (keys_of (filter is_set es)) → AllByRecursion (λ y. word_cmp x y ≡ Less) (keys_of (cond b (e ∷ filter is_set es) (filter is_set es)))
    by true rest = (all.0, rest)
    by false rest = rest

filter_sorted : (es : Config) → IsStrictlySortedBy word_cmp (keys_of es) → IsStrictlySortedBy word_cmp (keys_of (filter is_set es))
unfolding IsStrictlySortedBy
filter_sorted [] up = tt
filter_sorted (e ∷ es) up = by (is_set e) (filter_sorted es up.1)
  where
    by : (b : Bool) → IsStrictlySortedBy word_cmp (keys_of (filter is_set es)) → IsStrictlySortedBy word_cmp (keys_of (cond b (e ∷ filter is_set es) (filter is_set es)))
    by true rest = (below_filter e.0 es up.0, rest)
    by false rest = rest

filter_set : (es : Config) → AllByRecursion (λ d. is_set d ≡ true) (filter is_set es)
filter_set [] = tt
filter_set (e ∷ es) = by (is_set e) refl (filter_set es)
  where
    by : (b : Bool) → is_set e ≡ b → AllByRecursion (λ d. is_set d ≡ true) (filter is_set es) → AllByRecursion (λ d. is_set d ≡ true) (cond b (e ∷ filter is_set es) (filter is_set es))
    by true h rest = (h, rest)
    by false h rest = rest

pub kept_sorted : (config : Config) → IsStrictlySortedBy word_cmp (keys_of (kept_of config))
unfolding kept_of
kept_sorted config = filter_sorted (in_order config) (order_sorted config)

pub kept_set : (config : Config) → AllByRecursion (λ d. is_set d ≡ true) (kept_of config)
unfolding kept_of
kept_set config = filter_set (in_order config)

-- declarations in order, each with a flag that is set, are all kept
order_whole : (ds : Config) → IsStrictlySortedBy word_cmp (keys_of ds) → in_order ds ≡ ds
unfolding in_order IsStrictlySortedBy
order_whole [] up = refl
order_whole (d ∷ ds) up = ap (λ rest. insert_entry word_cmp rest d.0 d.1) (order_whole ds up.1) ∙ front ds up.0
  where
    front : (ds : Config) → AllByRecursion (λ y. word_cmp d.0 y ≡ Less) (keys_of ds) → insert_entry word_cmp ds d.0 d.1 ≡ d ∷ ds
    front [] all = refl
    front (e ∷ es) all = rw all.0 refl

filter_whole : (ds : Config) → AllByRecursion (λ d. is_set d ≡ true) ds → filter is_set ds ≡ ds
filter_whole [] all = refl
filter_whole (d ∷ ds) all = rw (all.0, filter_whole ds all.1) refl

pub kept_whole : (ds : Config) → IsStrictlySortedBy word_cmp (keys_of ds) → AllByRecursion (λ d. is_set d ≡ true) ds → kept_of ds ≡ ds
unfolding kept_of
kept_whole ds up set = ap (filter is_set) (order_whole ds up) ∙ filter_whole ds set

-- ---- the names

put_named : (k : List ℕ) (f : DimFlags) (es : Config) → IsDimension k → AreDimensions es → AreDimensions (insert_entry word_cmp es k f)
put_named k f [] is all = (is, tt)
put_named k f (e ∷ es) is all = by (word_cmp k e.0) (put_named k f es is all.1)
  where
    by : (o : Ordering) → AreDimensions (insert_entry word_cmp es k f) → AreDimensions (match_ordering o ((k, f) ∷ e ∷ es) ((e.0, f) ∷ es) (e ∷ insert_entry word_cmp es k f))
    by Less rest = (is, all)
    by Equal rest = all
    by Greater rest = (all.0, rest)

order_named : (config : Config) → AreDimensions config → AreDimensions (in_order config)
unfolding in_order
order_named [] all = tt
order_named (d ∷ ds) all = put_named d.0 d.1 (in_order ds) all.0 (order_named ds all.1)

filter_named : (es : Config) → AreDimensions es → AreDimensions (filter is_set es)
filter_named [] all = tt
filter_named (e ∷ es) all = by (is_set e) (filter_named es all.1)
  where
    by : (b : Bool) → AreDimensions (filter is_set es) → AreDimensions (cond b (e ∷ filter is_set es) (filter is_set es))
    by true rest = (all.0, rest)
    by false rest = rest

pub kept_named : (config : Config) → AreDimensions config → AreDimensions (kept_of config)
unfolding kept_of
kept_named config all = filter_named (in_order config) (order_named config all)

-- ---- the flags

module _ (dim : List ℕ) where
  first_flags : (d : List ℕ × DimFlags) (ds : Config) → flags (d ∷ ds) dim ≡ cond (bytes_eq dim d.0) d.1 (flags ds dim)
  first_flags d ds = by (bytes_eq dim d.0)
    where
      by : (b : Bool) → option_map_or (λ e. e.1) (cond b (Some d) (find (λ e. bytes_eq dim e.0) ds)) no_flags ≡ cond b d.1 (flags ds dim)
      by true = refl
      by false = refl

  put_flags : (k : List ℕ) (f : DimFlags) (es : Config) → flags (insert_entry word_cmp es k f) dim ≡ cond (bytes_eq dim k) f (flags es dim)
  put_flags k f [] = first_flags (k, f) []
  put_flags k f (e ∷ es) = by (word_cmp k e.0) refl (put_flags k f es)
    where
      last : (a b : Bool) → bytes_eq dim e.0 ≡ a → bytes_eq dim k ≡ b → word_cmp k e.0 ≡ Greater → cond a e.1 (cond b f (flags es dim)) ≡ cond b f (cond a e.1 (flags es dim))
      last true true x y h =
          let same : k ≡ e.0 = sym ((bytes_decides dim k).0 y) ∙ (bytes_decides dim e.0).0 x in
          absurd (true≢false (sym ((bytes_decides k e.0).1 same) ∙ sym (is_eq-slice_cmp k e.0) ∙ ap is_eq h))
      last true false x y h = refl
      last false b x y h = refl

      twice : (b : Bool) → cond b f (flags es dim) ≡ cond b f (cond b e.1 (flags es dim))
      twice true = refl
      twice false = refl

      by : (o : Ordering) → word_cmp k e.0 ≡ o → flags (insert_entry word_cmp es k f) dim ≡ cond (bytes_eq dim k) f (flags es dim) → flags (match_ordering o ((k, f) ∷ e ∷ es) ((e.0, f) ∷ es) (e ∷ insert_entry word_cmp es k f)) dim ≡ cond (bytes_eq dim k) f (flags (e ∷ es) dim)
      by Less h rest = first_flags (k, f) (e ∷ es)
      by Equal h rest =
          let same : k ≡ e.0 = (bytes_decides k e.0).0 (sym (is_eq-slice_cmp k e.0) ∙ ap is_eq h) in
          first_flags (e.0, f) es
          ∙ twice (bytes_eq dim e.0)
          ∙ ap (λ rest. cond (bytes_eq dim e.0) f rest) (sym (first_flags e es))
          ∙ ap (λ key. cond (bytes_eq dim key) f (flags (e ∷ es) dim)) (sym same)
      by Greater h rest =
          first_flags e (insert_entry word_cmp es k f)
          ∙ ap (λ others. cond (bytes_eq dim e.0) e.1 others) rest
          ∙ last (bytes_eq dim e.0) (bytes_eq dim k) refl refl h
          ∙ ap (λ rest. cond (bytes_eq dim k) f rest) (sym (first_flags e es))

  order_flags : (config : Config) → flags (in_order config) dim ≡ flags config dim
  unfolding in_order
  order_flags [] = refl
  order_flags (d ∷ ds) = put_flags d.0 d.1 (in_order ds) ∙ ap (λ rest. cond (bytes_eq dim d.0) d.1 rest) (order_flags ds) ∙ sym (first_flags d ds)

  none_behind : (x : List ℕ) (es : Config) → dim ≡ x → AllByRecursion (λ y. word_cmp x y ≡ Less) (keys_of es) → flags es dim ≡ no_flags
  none_behind x [] same all = refl
  none_behind x (e ∷ es) same all =
      let apart : bytes_eq dim e.0 ≡ false = ap (λ y. bytes_eq y e.0) same ∙ sym (is_eq-slice_cmp x e.0) ∙ ap is_eq all.0 in
      first_flags e es ∙ ap (λ b. cond b e.1 (flags es dim)) apart ∙ none_behind x es same all.1

  none_set : (f : DimFlags) → is_some_set f ≡ false → f ≡ no_flags
  none_set f h = by f.hierarchical f.multi_valued f.require_dim_count h
    where
      by : (a b c : Bool) → (a || b || c) ≡ false → record { hierarchical = a; multi_valued = b; require_dim_count = c } ≡ no_flags
      by false false false h = refl
      by true b c h = absurd cc
      by false true c h = absurd cc
      by false false true h = absurd cc

  filter_flags : (es : Config) → IsStrictlySortedBy word_cmp (keys_of es) → flags (filter is_set es) dim ≡ flags es dim
  unfolding IsStrictlySortedBy
  filter_flags [] up = refl
  filter_flags (e ∷ es) up = by (is_set e) refl (filter_flags es up.1)
    where
      left_out : (b : Bool) → bytes_eq dim e.0 ≡ b → is_set e ≡ false → flags es dim ≡ cond b e.1 (flags es dim)
      left_out true x h = none_behind e.0 es ((bytes_decides dim e.0).0 x) up.0 ∙ sym (none_set e.1 h)
      left_out false x h = refl

      by : (b : Bool) → is_set e ≡ b → flags (filter is_set es) dim ≡ flags es dim → flags (cond b (e ∷ filter is_set es) (filter is_set es)) dim ≡ flags (e ∷ es) dim
      by true h rest = first_flags e (filter is_set es) ∙ ap (λ others. cond (bytes_eq dim e.0) e.1 others) rest ∙ sym (first_flags e es)
      by false h rest = rest ∙ left_out (bytes_eq dim e.0) refl h ∙ sym (first_flags e es)

  pub kept_flags : (config : Config) → flags (kept_of config) dim ≡ flags config dim
  unfolding kept_of
  kept_flags config = filter_flags (in_order config) (order_sorted config) ∙ order_flags config
