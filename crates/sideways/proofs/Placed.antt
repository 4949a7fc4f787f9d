-- The parts of a pass, one after the other.
use Rattle.std.proofs.Common.{◌≡◌, ℕ, zero, suc, ◌+◌, ◌<◌, ◌≤◌, ◌⊎◌, inl, inr, Bool, true, false, List, [], ◌∷◌, ◌++◌, length, take, min, get_or, set, refl, sym, ap, subst, ◌∙◌, arith, append_assoc}
use Rattle.std.specs.Prelude.{cond, sum_by}
use Rattle.std.proofs.lemmas.Bool.{cases_lt}
use Rattle.std.proofs.lemmas.Grind.{flat_map-append}
use Rattle.std.proofs.lemmas.List.{append-nil, get_or_default, get_or-set_other, length-append, length-map, length-set, map-append, map_push, take_all, take_more, take-append-le}
use Rattle.seg_grammar.specs.Lookups.{record_of}
use Rattle.std.proofs.lemmas.List.Sums.{sum_by-cons}
use Rattle.facet_counts.specs.Tallies.{Tally}
use Rattle.facet_model.specs.Stored.{is_dead, live_before}
use Rattle.seg_drill.specs.Counting.{AreCountable, IsGrown, lists_at}
use Rattle.sideways.specs.Counted.{PartLeft, IsNoting, IsReady, IsTaking, lists_of, live_in, placed, ranks_from}
use Rattle.seg_drill.proofs.Walked.{grown_more}
use Rattle.std.proofs.lemmas.List.Elements.{All-from_recursion}

sum_to : {A : Type 0} (f : A → ℕ) (xs : List A) (i : ℕ) (d : A) → i < length xs → sum_by f (take i xs) + f (get_or xs i d) ≤ sum_by f xs
sum_to f [] i d lt = absurd (omega arith)
sum_to f (x ∷ xs) zero d lt = omega (arith, sum_by-cons f x xs)
sum_to f (x ∷ xs) (suc i) d lt = omega (arith, sum_by-cons f x (take i xs), sum_by-cons f x xs, sum_to f xs i d (omega arith))

pub sum_push : {A : Type 0} (f : A → ℕ) (xs : List A) (y : A) → sum_by f (xs ++ y ∷ []) ≡ sum_by f xs + f y
sum_push f [] y = sum_by-cons f y [] ∙ omega arith
sum_push f (x ∷ xs) y = omega (arith, sum_by-cons f x (xs ++ y ∷ []), sum_by-cons f x xs, sum_push f xs y)

-- how many records a part has left, and how many of its segment are live
abbrev pub left_in : PartLeft → ℕ
left_in p = length p.left

abbrev pub alive_in : PartLeft → ℕ
alive_in p = live_in p.segment

pub lists_length : (parts : List PartLeft) → length (lists_of parts) ≡ sum_by left_in parts
lists_length [] = refl
lists_length (p ∷ ps) = omega (arith, length-append (lists_at p.segment p.left) (lists_of ps), length-map p.left (λ place. (record_of p.segment place).counted), lists_length ps, sum_by-cons left_in p ps)

pub lists_to : (parts : List PartLeft) (i : ℕ) (p : PartLeft) → i < length parts → get_or parts i p ≡ p → lists_of (take (i + 1) parts) ≡ lists_of (take i parts) ++ lists_at p.segment p.left
lists_to parts i p lt here =
    ap lists_of (take_more parts i p lt ∙ ap (λ q. take i parts ++ q ∷ []) here)
    ∙ flat_map-append (λ (q : PartLeft). lists_at q.segment q.left) (take i parts) (p ∷ [])
    ∙ ap (λ l. lists_of (take i parts) ++ l) (append-nil (lists_at p.segment p.left))

placed_more : (base : ℕ) (ps : List PartLeft) (p : PartLeft) → placed base (ps ++ p ∷ []) ≡ placed base ps ++ ranks_from (base + sum_by alive_in ps) p.segment p.left
placed_more base [] p = append-nil (ranks_from base p.segment p.left) ∙ ap (λ b. ranks_from b p.segment p.left) (omega arith)
placed_more base (q ∷ qs) p =
    let sum : (base + live_in q.segment) + sum_by alive_in qs ≡ base + sum_by alive_in (q ∷ qs) = omega (arith, sum_by-cons alive_in q qs) in
    ap (λ l. ranks_from base q.segment q.left ++ l) (placed_more (base + live_in q.segment) qs p ∙ ap (λ b. placed (base + live_in q.segment) qs ++ ranks_from b p.segment p.left) sum)
    ∙ sym (append_assoc (ranks_from base q.segment q.left) (placed (base + live_in q.segment) qs) (ranks_from (base + sum_by alive_in (q ∷ qs)) p.segment p.left))

take_first : {A : Type 0} (limit : ℕ) (ps first : List A) → length (take limit ps ++ first) ≤ limit → take limit (ps ++ first) ≡ take limit ps ++ first
take_first zero ps [] le = sym (append-nil (take 0 ps))
take_first zero ps (x ∷ xs) le = absurd (omega (arith, length-append (take 0 ps) (x ∷ xs)))
take_first (suc m) [] first le = take_all (suc m) first le
take_first (suc m) (p ∷ ps) first le = ap (λ l. p ∷ l) (take_first m ps first (omega arith))

short_take : {A : Type 0} (limit : ℕ) (xs : List A) → limit ≤ length (take limit xs) → limit ≤ length xs
short_take zero xs le = omega arith
short_take (suc m) [] le = absurd (omega arith)
short_take (suc m) (x ∷ xs) le = omega (arith, short_take m xs (omega arith))

-- the first of all, where those so far are, and either enough were taken or all
pub first_taken : {A : Type 0} (limit : ℕ) (ps first rest new : List A) → new ≡ take limit ps ++ first → length new ≤ limit → (limit ≤ length new) ⊎ (rest ≡ []) → new ≡ take limit (ps ++ (first ++ rest))
first_taken limit ps first rest new is few (inr none) =
    let same : take limit (ps ++ first) ≡ take limit ps ++ first = take_first limit ps first (omega (arith, ap length is, few)) in
    is ∙ sym same ∙ ap (λ r. take limit (ps ++ r)) (sym (append-nil first) ∙ ap (λ r. first ++ r) (sym none))
first_taken limit ps first rest new is few (inl enough) =
    let same : take limit (ps ++ first) ≡ take limit ps ++ first = take_first limit ps first (omega (arith, ap length is, few)) in
    let full : limit ≤ length (take limit (ps ++ first)) = omega (arith, ap length same, ap length is, enough) in
    is ∙ sym same ∙ sym (take-append-le limit (ps ++ first) rest (short_take limit (ps ++ first) full)) ∙ ap (take limit) (append_assoc ps first rest)

-- ---- what holds between the parts

-- The parts before i were counted, and the others stand as they did.
pub record AreCountedTo (i : ℕ) (now all : List PartLeft) (before after : Tally) : Type 0 where
  pub long : length now ≡ length all
  pub same : (k : ℕ) (d : PartLeft) → i ≤ k → get_or now k d ≡ get_or all k d
  pub grown : IsGrown before after (lists_of (take i all))

pub counted_more : (i : ℕ) (now new all : List PartLeft) (before mid after : Tally) (p q : PartLeft) → AreCountedTo i now all before mid → i < length all → p ≡ get_or now i p → new ≡ set now i q → IsGrown mid after (lists_at p.segment p.left) → AreCountedTo (i + 1) new all before after
counted_more i now new all before mid after p q counted lt here is grown = record {
  long = ap length is ∙ length-set now i q ∙ counted.long;
  same = λ k d le. ap (λ ps. get_or ps k d) is ∙ get_or-set_other now i k q d (λ e. absurd (omega (arith, e, le))) ∙ counted.same k d (omega arith);
  grown = subst (IsGrown before after) (sym (lists_to all i p lt (sym (counted.same i p (omega arith)) ∙ sym here))) (grown_more before mid after (lists_of (take i all)) (lists_at p.segment p.left) counted.grown grown);
}

-- the part that is next stands at its index
pub part_here : (i : ℕ) (now all : List PartLeft) (before mid : Tally) (item : PartLeft) → AreCountedTo i now all before mid → i < length all → get_or now i item ≡ get_or now i (get_or now i item)
part_here i now all before mid item counted lt = get_or_default now i item (get_or now i item) (omega (arith, counted.long, lt))

-- what the next part needs
pub record IsNextPart (p : PartLeft) (tally : Tally) : Type 0 where
  pub countable : AreCountable tally.config tally.labels p.segment
  pub room : tally.added + length p.left ≤ 1000000

pub next_part : (i : ℕ) (now all : List PartLeft) (before mid : Tally) (p : PartLeft) → AreCountedTo i now all before mid → IsReady all before → i < length all → p ≡ get_or now i p → IsNextPart p mid
next_part i now all before mid p counted ready lt here =
    let there : get_or all i p ≡ p = sym (counted.same i p (omega arith)) ∙ sym here in
    record {
      countable = subst (λ c. AreCountable c mid.labels p.segment) (sym counted.grown.config) (subst (λ l. AreCountable before.config l p.segment) (sym counted.grown.labels) (subst (λ (x : PartLeft). AreCountable before.config before.labels x.segment) there (All-from_recursion (λ x. AreCountable before.config before.labels x.segment) all ready.countable i p lt)));
      room = omega (arith, counted.grown.number, ready.fresh.number, lists_length (take i all), sum_to left_in all i p lt, ap left_in there, ready.room);
    }

pub base_room : (i : ℕ) (now all : List PartLeft) (before mid : Tally) (p : PartLeft) (base : ℕ) → AreCountedTo i now all before mid → IsReady all before → i < length all → p ≡ get_or now i p → base ≡ sum_by alive_in (take i all) → base + live_in p.segment ≤ 1000000
base_room i now all before mid p base counted ready lt here is =
    let there : get_or all i p ≡ p = sym (counted.same i p (omega arith)) ∙ sym here in
    omega (arith, is, sum_to alive_in all i p lt, ap alive_in there, ready.few)

-- ---- the hits

pub base_more : (i : ℕ) (now all : List PartLeft) (before mid : Tally) (p : PartLeft) (base : ℕ) → AreCountedTo i now all before mid → i < length all → p ≡ get_or now i p → base ≡ sum_by alive_in (take i all) → base + live_in p.segment ≡ sum_by alive_in (take (i + 1) all)
base_more i now all before mid p base counted lt here is =
    let there : get_or all i p ≡ p = sym (counted.same i p (omega arith)) ∙ sym here in
    ap (λ n. n + alive_in p) is ∙ sym (ap (sum_by alive_in) (take_more all i p lt ∙ ap (λ x. take i all ++ x ∷ []) there) ∙ sum_push alive_in (take i all) p)

pub number_more : (i : ℕ) (now all : List PartLeft) (before mid : Tally) (p : PartLeft) (number more : ℕ) → AreCountedTo i now all before mid → i < length all → p ≡ get_or now i p → number ≡ length (lists_of (take i all)) → more ≡ number + length p.left → more ≡ length (lists_of (take (i + 1) all))
number_more i now all before mid p number more counted lt here is sum =
    let there : get_or all i p ≡ p = sym (counted.same i p (omega arith)) ∙ sym here in
    omega (arith, is, sum, ap length (lists_to all i p lt there), length-append (lists_of (take i all)) (lists_at p.segment p.left), length-map p.left (λ place. (record_of p.segment place).counted))

pub places_more : (i : ℕ) (now all : List PartLeft) (before mid : Tally) (p : PartLeft) (base limit : ℕ) (hits new : List ℕ) → AreCountedTo i now all before mid → i < length all → p ≡ get_or now i p → base ≡ sum_by alive_in (take i all)
    → hits ≡ take limit (placed 0 (take i all)) → IsNoting p base limit hits new → new ≡ take limit (placed 0 (take (i + 1) all))
places_more i now all before mid p base limit hits new counted lt here is so_far noting =
    let there : get_or all i p ≡ p = sym (counted.same i p (omega arith)) ∙ sym here in
    let zero_base : base ≡ 0 + sum_by alive_in (take i all) = omega (arith, is) in
    let all_placed : placed 0 (take (i + 1) all) ≡ placed 0 (take i all) ++ ranks_from base p.segment p.left = ap (placed 0) (take_more all i p lt ∙ ap (λ x. take i all ++ x ∷ []) there) ∙ placed_more 0 (take i all) p ∙ ap (λ b. placed 0 (take i all) ++ ranks_from b p.segment p.left) (sym zero_base) in
    noting (placed 0 (take i all)) so_far ∙ ap (take limit) (sym all_placed)

-- the places of a part are noted, where enough were taken or all
pub noted_more : (old : PartLeft) (base limit : ℕ) (hits new first rest : List ℕ) → old.left ≡ first ++ rest → new ≡ hits ++ ranks_from base old.segment first → length new ≤ limit → (limit ≤ length new) ⊎ (rest ≡ []) → IsNoting old base limit hits new
noted_more old base limit hits new first rest left noted few enough before so_far =
    first_taken limit before (ranks_from base old.segment first) (ranks_from base old.segment rest) new (noted ∙ ap (λ h. h ++ ranks_from base old.segment first) so_far) few (over enough)
    ∙ ap (λ l. take limit (before ++ l)) (sym (ap (ranks_from base old.segment) left ∙ map-append (λ n. base + live_before old.segment.dead n) first rest))
  where
    over : (limit ≤ length new) ⊎ (rest ≡ []) → (limit ≤ length new) ⊎ (ranks_from base old.segment rest ≡ [])
    over (inl h) = inl h
    over (inr h) = inr (ap (ranks_from base old.segment) h)

-- ---- after the last part

pub all_grown : (i : ℕ) (now all : List PartLeft) (before after : Tally) → AreCountedTo i now all before after → length all ≤ i → IsGrown before after (lists_of all)
all_grown i now all before after counted le = subst (λ ps. IsGrown before after (lists_of ps)) (take_all i all le) counted.grown

pub all_numbered : (i number : ℕ) (all : List PartLeft) → number ≡ length (lists_of (take i all)) → length all ≤ i → number ≡ length (lists_of all)
all_numbered i number all is le = is ∙ ap (λ ps. length (lists_of ps)) (take_all i all le)

pub all_noted : (i limit : ℕ) (all : List PartLeft) (hits : List ℕ) → hits ≡ take limit (placed 0 (take i all)) → length all ≤ i → hits ≡ take limit (placed 0 all)
all_noted i limit all hits is le = is ∙ ap (λ ps. take limit (placed 0 ps)) (take_all i all le)

-- ---- taking hits

-- no later place has a lower rank
pub rank_most : (dead : List ℕ) (n m : ℕ) → n ≤ m → live_before dead n ≤ live_before dead m
rank_most dead n zero le = let e : n ≡ 0 = omega arith in omega (arith, ap (live_before dead) e)
rank_most dead n (suc m) le = by (λ h. rank_most dead n m h) (cases_lt n (suc m))
  where
    more : (b : Bool) → live_before dead n ≤ live_before dead m → live_before dead n ≤ cond b (live_before dead m) (live_before dead m + 1)
    more true h = h
    more false h = omega (arith, h)

    by : (n ≤ m → live_before dead n ≤ live_before dead m) → (n < suc m) ⊎ (suc m ≤ n) → live_before dead n ≤ live_before dead (suc m)
    by rest (inl lt) = more (is_dead dead m) (rest (omega arith))
    by rest (inr ge) = let e : n ≡ suc m = omega arith in omega (arith, ap (live_before dead) e)

pub taking_more : (old now next : PartLeft) (c0 c1 c2 : Tally) (base limit : ℕ) (h0 h1 h2 : List ℕ) (n place rank : ℕ) → IsTaking old now c0 c1 base limit h0 h1 n → now.left ≡ place ∷ next.left → next.segment ≡ now.segment → IsGrown c1 c2 (lists_at now.segment (place ∷ [])) → rank ≡ live_before old.segment.dead place → h2 ≡ h1 ++ (base + rank) ∷ [] → length h1 < limit
    → IsTaking old next c0 c2 base limit h0 h2 (n + 1)
taking_more old now next c0 c1 c2 base limit h0 h1 h2 n place rank taking left segment grown ranked pushed few = record {
  first = taking.first ++ place ∷ [];
  left = taking.left ∙ ap (λ xs. taking.first ++ xs) left ∙ sym (append_assoc taking.first (place ∷ []) next.left);
  segment = segment ∙ taking.segment;
  grown = subst (IsGrown c0 c2) (sym (map_push (λ p. (record_of old.segment p).counted) taking.first place)) (grown_more c0 c1 c2 (lists_at old.segment taking.first) (lists_at old.segment (place ∷ [])) taking.grown (subst (λ s. IsGrown c1 c2 (lists_at s (place ∷ []))) taking.segment grown));
  noted = pushed ∙ (λ i. taking.noted i ++ (base + ranked i) ∷ []) ∙ append_assoc h0 (ranks_from base old.segment taking.first) ((base + live_before old.segment.dead place) ∷ [])
      ∙ ap (λ l. h0 ++ l) (sym (map_push (λ p. base + live_before old.segment.dead p) taking.first place));
  as_many = omega (arith, taking.as_many, length-append taking.first (place ∷ []));
  few = omega (arith, ap length pushed, length-append h1 ((base + rank) ∷ []), few);
}

-- a hit that is taken may be counted
pub taking_ready : (old now : PartLeft) (c0 c1 : Tally) (base limit : ℕ) (h0 h1 : List ℕ) (n place : ℕ) (rest : List ℕ) → IsTaking old now c0 c1 base limit h0 h1 n → AreCountable c0.config c0.labels old.segment → c0.added + length old.left ≤ 1000000 → now.left ≡ place ∷ rest → AreCountable c1.config c1.labels now.segment × (c1.added < 1000000)
taking_ready old now c0 c1 base limit h0 h1 n place rest taking countable room left = (
  subst (λ s. AreCountable c1.config c1.labels s) (sym taking.segment) (subst (λ c. AreCountable c c1.labels old.segment) (sym taking.grown.config) (subst (λ l. AreCountable c0.config l old.segment) (sym taking.grown.labels) countable)),
  omega (arith, taking.grown.number, length-map taking.first (λ p. (record_of old.segment p).counted), room, ap length taking.left, length-append taking.first now.left, ap length left),
)

-- after the hits that were taken, the others of the part
pub rest_counted : (old now : PartLeft) (c0 c1 c2 : Tally) (base limit : ℕ) (h0 h1 : List ℕ) (n : ℕ) → IsTaking old now c0 c1 base limit h0 h1 n → IsGrown c1 c2 (lists_at now.segment now.left) → IsGrown c0 c2 (lists_at old.segment old.left)
rest_counted old now c0 c1 c2 base limit h0 h1 n taking grown =
    subst (IsGrown c0 c2) (sym (ap (lists_at old.segment) taking.left ∙ map-append (λ p. (record_of old.segment p).counted) taking.first now.left))
    (grown_more c0 c1 c2 (lists_at old.segment taking.first) (lists_at old.segment now.left) taking.grown (subst (λ s. IsGrown c1 c2 (lists_at s now.left)) taking.segment grown))

pub rest_ready : (old now : PartLeft) (c0 c1 : Tally) (base limit : ℕ) (h0 h1 : List ℕ) (n : ℕ) → IsTaking old now c0 c1 base limit h0 h1 n → IsNextPart old c0 → IsNextPart now c1
rest_ready old now c0 c1 base limit h0 h1 n taking next = record {
  countable = subst (λ s. AreCountable c1.config c1.labels s) (sym taking.segment) (subst (λ c. AreCountable c c1.labels old.segment) (sym taking.grown.config) (subst (λ l. AreCountable c0.config l old.segment) (sym taking.grown.labels) next.countable));
  room = omega (arith, taking.grown.number, length-map taking.first (λ p. (record_of old.segment p).counted), next.room, ap length taking.left, length-append taking.first now.left);
}

short_front : {A : Type 0} (n : ℕ) (zs : List A) → length (take n zs) ≤ n
short_front zero zs = omega arith
short_front (suc n) [] = omega arith
short_front (suc n) (z ∷ zs) = omega (arith, short_front n zs)

pub take_at_most : {A : Type 0} (limit : ℕ) (xs ys : List A) → ys ≡ take limit xs → length ys ≤ limit
take_at_most limit xs ys is = omega (arith, ap length is, short_front limit xs)

pub placed_length : (base : ℕ) (parts : List PartLeft) → length (placed base parts) ≡ sum_by left_in parts
placed_length base [] = refl
placed_length base (p ∷ ps) = omega (arith, length-append (ranks_from base p.segment p.left) (placed (base + live_in p.segment) ps), length-map p.left (λ n. base + live_before p.segment.dead n), placed_length (base + live_in p.segment) ps, sum_by-cons left_in p ps)

-- where there are no more than the bound, it leaves the first as they are
pub take_few : {A : Type 0} (n bound : ℕ) (xs : List A) → length xs ≤ bound → take (min n bound) xs ≡ take n xs
take_few n bound xs few = by (cases_lt bound n)
  where
    by : (bound < n) ⊎ (n ≤ bound) → take (min n bound) xs ≡ take n xs
    by (inl more) = let least : min n bound ≡ bound = omega arith in ap (λ m. take m xs) least ∙ take_all bound xs few ∙ sym (take_all n xs (omega arith))
    by (inr le) = let least : min n bound ≡ n = omega arith in ap (λ m. take m xs) least
