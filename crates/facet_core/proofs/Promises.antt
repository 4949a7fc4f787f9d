-- What was promised, over every list of events.
use Rattle.std.proofs.Common.{zero, suc, ◌≡◌, ℕ, ◌*◌, ◌/◌, ◌%◌, ◌<◌, ◌≤◌, Bool, true, false, List, [], ◌∷◌, length, map, take, get_or, refl, sym, ap, arith, take_all}
use Rattle.std.specs.Prelude.{◌&&◌, nat_lt, nat_le, All, slice_index, slice_index_or, IsTrue}
use Rattle.std.specs.List.{list_all}
use Rattle.std.proofs.lemmas.Bool.{and_parts, and_from, leb-true}
use Rattle.std.proofs.lemmas.List.{get_or-map, length-map}
use Rattle.std.proofs.lemmas.List.Sums.{AllPass-from_list_all}
use Rattle.facet_names.specs.Labels.{stands, prefixes}
use Rattle.facet_model.specs.Documents.{Doc}
use Rattle.facet_model.specs.Histories.{docs, knows, covers, never_falls, is_pair}
use Rattle.facet_model.proofs.Changes.{all_docs}
use Rattle.facet_model.specs.Core.{State, crash, step, with_crash, after_crash}
use Rattle.facet_model.specs.CoreStates.{Valid, is_kept, is_good_index, operations_of, labels_of}
use Rattle.facet_core.specs.Laws.{ran, Keeps, CrashesKeepAcknowledged, NamesItsLabels, PublishedLabelsStand, PublicationsNeverFall}
use Rattle.facet_core.proofs.Interleavings.{keeps_step, keeps_run}
use Rattle.facet_core.proofs.KeptDevice.{in_numbers, in_pairs}

-- what is kept is within the labels and the operations that are there
within : (s : State) → Valid s → All (λ p. p.0 ≤ length s.history × p.1 ≤ length s.labels) s.acknowledged
within s v k d lt =
    let p = get_or s.acknowledged k d in
    let kept = and_parts (list_all (nat_le p.1) s.tax_may) (list_all (λ i. nat_le p.0 i.0) s.idx_may) (AllPass-from_list_all (is_kept s) s.acknowledged v.kept k d lt) in
    let labels : p.1 ≤ s.tax_read = leb-true p.1 s.tax_read (in_numbers (nat_le p.1) s.tax_may s.tax_read v.tax_read kept.0) in
    let most = and_parts (nat_le 1 s.tax_read) (nat_le s.tax_read (length s.labels)) (in_numbers (λ a. nat_le 1 a && nat_le a (length s.labels)) s.tax_may s.tax_read v.tax_read v.tax_may) in
    let there : s.tax_read ≤ length s.labels = leb-true s.tax_read (length s.labels) most.1 in
    let operations : p.0 ≤ s.idx_read.0 = leb-true p.0 s.idx_read.0 (in_pairs (nat_le p.0) s.idx_may s.idx_read v.idx_read kept.1) in
    let done : s.idx_read.0 ≤ length s.history = leb-true s.idx_read.0 (length s.history) (in_pairs (λ j. nat_le j (length s.history)) s.idx_may s.idx_read v.idx_read (indexes s.idx_may v.idx_may)) in
    (omega arith, omega arith)
  where
    indexes : (xs : List (ℕ × ℕ)) → list_all (is_good_index s) xs ≡ true → list_all (λ i. nat_le i.0 (length s.history)) xs ≡ true
    indexes [] h = refl
    indexes (i ∷ xs) h =
        let both = and_parts (is_good_index s i) (list_all (is_good_index s) xs) h in
        and_from _ _ (and_parts (nat_le i.0 (length s.history)) (covers s.labels i.1 s.history i.0) (and_parts (nat_le i.0 (length s.history) && covers s.labels i.1 s.history i.0) (list_all (nat_le i.1) s.tax_may) both.0).0).0 (indexes xs both.1)

-- ---- a crash keeps first parts

front_again : {A : Type 0} (n : ℕ) (xs : List A) → take n xs ≡ take (length (take n xs)) xs
front_again zero xs = refl
front_again (suc n) [] = refl
front_again (suc n) (x ∷ xs) = ap (λ (ys : List _). x ∷ ys) (front_again n xs)

crashed : (s : State) (keep : ℕ) (b : Bool) → nat_lt keep (length s.tax_may * length s.idx_may) ≡ b → All (λ p. p.0 ≤ length (with_crash s keep).history × p.1 ≤ length (with_crash s keep).labels) (with_crash s keep).acknowledged → Keeps s (with_crash s keep)
crashed s keep true e all =
    let t = after_crash s (slice_index s.tax_may (keep / length s.idx_may)) (slice_index_or s.idx_may (keep % length s.idx_may) s.idx_read) in
    let same : with_crash s keep ≡ t = rw e refl in
    rw e (record { labels = front_again _ s.labels; operations = front_again _ s.history; acknowledged = rw e at all })
crashed s keep false e all = rw e (record { labels = sym (take_all (length s.labels) s.labels (omega arith)); operations = sym (take_all (length s.history) s.history (omega arith)); acknowledged = rw e at all })

pub crashes_keep : CrashesKeepAcknowledged
crashes_keep start events keep valid =
    let s = ran start events in
    crashed s keep (nat_lt keep (length s.tax_may * length s.idx_may)) refl (within (step s (crash keep)) (keeps_step s (crash keep) (keeps_run start events valid)))

-- ---- publications

all_from : {A : Type 0} (p : A → Bool) (P : A → Type 0) → ((x : A) → p x ≡ true → P x) → (xs : List A) → list_all p xs ≡ true → All P xs
all_from p P so xs h k d lt = so (get_or xs k d) (AllPass-from_list_all p xs h k d lt)

names_its_labels : (s : State) (p : ℕ × ℕ) → is_pair s.labels s.history p ≡ true → NamesItsLabels s p
names_its_labels s p h =
    let parts = and_parts (nat_le p.0 (length s.history) && nat_le p.1 (length s.labels)) (covers s.labels p.1 s.history p.0) h in
    let bounds = and_parts (nat_le p.0 (length s.history)) (nat_le p.1 (length s.labels)) parts.0 in
    let among = take p.1 s.labels in
    let of_label = λ (label : List (List ℕ)). all_from (stands among) (λ path. IsTrue (stands among path)) (λ path stand. stand) (prefixes label) in
    let of_doc = λ (doc : Doc). all_from (λ label. list_all (stands among) (prefixes label)) (λ label. All (λ path. IsTrue (stands among path)) (prefixes label)) of_label doc.labels in (
      leb-true p.0 (length s.history) bounds.0,
      leb-true p.1 (length s.labels) bounds.1,
      all_from (knows among) (λ doc. All (λ label. All (λ path. IsTrue (stands among path)) (prefixes label)) doc.labels) of_doc (docs (take p.0 s.history)) (all_docs (knows among) (take p.0 s.history) parts.1),
    )

pub published_stand : PublishedLabelsStand
published_stand start events valid =
    let s = ran start events in
    let v = keeps_run start events valid in
    let pairs = (and_parts (never_falls (operations_of s.published) && never_falls (labels_of s.published)) (list_all (is_pair s.labels s.history) s.published) v.published).1 in
    all_from (is_pair s.labels s.history) (NamesItsLabels s) (names_its_labels s) s.published pairs

rising : (xs : List ℕ) (i k d : ℕ) → never_falls xs ≡ true → i ≤ k → k < length xs → get_or xs i d ≤ get_or xs k d
rising [] i k d h le lt = absurd (omega arith)
rising (x ∷ []) zero zero d h le lt = omega arith
rising (x ∷ []) i (suc k) d h le lt = absurd (omega arith)
rising (x ∷ []) (suc i) zero d h le lt = absurd (omega arith)
rising (x ∷ y ∷ ys) zero zero d h le lt = omega arith
rising (x ∷ y ∷ ys) zero (suc k) d h le lt =
    let both = and_parts (nat_le x y) (never_falls (y ∷ ys)) h in
    let step : x ≤ y = leb-true x y both.0 in
    let rest : y ≤ get_or (y ∷ ys) k d = rising (y ∷ ys) zero k d both.1 (omega arith) (omega arith) in
    omega arith
rising (x ∷ y ∷ ys) (suc i) zero d h le lt = absurd (omega arith)
rising (x ∷ y ∷ ys) (suc i) (suc k) d h le lt = rising (y ∷ ys) i k d (and_parts (nat_le x y) (never_falls (y ∷ ys)) h).1 (omega arith) (omega arith)

rising_by : (f : ℕ × ℕ → ℕ) (xs : List (ℕ × ℕ)) (i k : ℕ) (d : ℕ × ℕ) → never_falls (map f xs) ≡ true → i ≤ k → k < length xs → f (get_or xs i d) ≤ f (get_or xs k d)
rising_by f xs i k d h le lt =
    let low = get_or-map f xs i d (f d) (omega arith) in
    let high = get_or-map f xs k d (f d) lt in
    let both = rising (map f xs) i k (f d) h le (omega (arith, length-map xs f)) in
    omega (arith, low, high, both)

pub never_fall : PublicationsNeverFall
never_fall start events valid i k d le lt =
    let s = ran start events in
    let v = keeps_run start events valid in
    let falls = and_parts (never_falls (operations_of s.published)) (never_falls (labels_of s.published)) (and_parts _ (list_all (is_pair s.labels s.history) s.published) v.published).0 in
    (rising_by (λ p. p.0) s.published i k d falls.0 le lt, rising_by (λ p. p.1) s.published i k d falls.1 le lt)
