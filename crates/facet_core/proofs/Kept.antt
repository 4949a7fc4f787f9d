-- Events that keep the core valid: those of a refresh, and the beginning and the giving up of a commit.
use Rattle.std.proofs.Common.{take_all, zero, suc, ◌≡◌, ℕ, Bool, true, false, cond, List, [], ◌∷◌, ◌++◌, length, map, take, Option, Some, None, refl, sym, ap, ◌∙◌, arith}
use Rattle.std.specs.Prelude.{◌==◌, ◌&&◌, not, nat_le, is_none}
use Rattle.std.specs.List.{list_all}
use Rattle.std.specs.Option.{option_map_or}
use Rattle.std.proofs.lemmas.Bool.{and_parts, and_from, le-leb}
use Rattle.std.proofs.lemmas.List.Folds.{list_all-map, list_all-append}
use Rattle.facet_names.specs.Labels.{stands}
use Rattle.facet_model.proofs.Fronts.{weaker, knows_its_labels}
use Rattle.facet_model.specs.Histories.{Operation, doc_of, labels_stand, brought, knows, covers, never_falls, is_pair, are_publications}
use Rattle.facet_model.proofs.Changes.{weaker_of, all_brought}
use Rattle.facet_model.specs.Core.{State, Refresh, Commit, with_index, with_labels_taken, publish_pair, with_publication, without_refresh, with_commit, without_commit}
use Rattle.facet_model.specs.CoreStates.{Valid, is_at_least, operations_of, labels_of, are_labels_taken, is_good_refresh, is_good_index}
use Rattle.facet_model.proofs.Histories.{never_falls_push}

-- ---- lists

all_taken : {A : Type 0} (p : A → Bool) (n : ℕ) (xs : List A) → list_all p xs ≡ true → list_all p (take n xs) ≡ true
all_taken p zero xs h = refl
all_taken p (suc n) [] h = refl
all_taken p (suc n) (x ∷ xs) h = let both = and_parts (p x) (list_all p xs) h in and_from (p x) (list_all p (take n xs)) both.0 (all_taken p n xs both.1)

pub itself : (n : ℕ) → nat_le n n ≡ true
itself n = le-leb n n (omega arith)

-- ---- the parts of a valid state

pairs_good : (s : State) → Valid s → list_all (is_pair s.labels s.history) s.published ≡ true
pairs_good s v = (and_parts (never_falls (operations_of s.published) && never_falls (labels_of s.published)) _ v.published).1

operations_below : (s : State) → Valid s → is_at_least (length s.history) (operations_of s.published) ≡ true
operations_below s v = list_all-map (λ k. nat_le k (length s.history)) (λ (p : ℕ × ℕ). p.0) s.published
    ∙ weaker (is_pair s.labels s.history) (λ p. nat_le p.0 (length s.history)) (λ p h. (and_parts (nat_le p.0 (length s.history)) (nat_le p.1 (length s.labels)) (and_parts (nat_le p.0 (length s.history) && nat_le p.1 (length s.labels)) _ h).0).0) s.published (pairs_good s v)

labels_below : (s : State) → Valid s → is_at_least (length s.labels) (labels_of s.published) ≡ true
labels_below s v = list_all-map (λ k. nat_le k (length s.labels)) (λ (p : ℕ × ℕ). p.1) s.published
    ∙ weaker (is_pair s.labels s.history) (λ p. nat_le p.1 (length s.labels)) (λ p h. (and_parts (nat_le p.0 (length s.history)) (nat_le p.1 (length s.labels)) (and_parts (nat_le p.0 (length s.history) && nat_le p.1 (length s.labels)) _ h).0).1) s.published (pairs_good s v)

indexes_below : (s : State) → Valid s → is_at_least (length s.history) (operations_of s.idx_may) ≡ true
indexes_below s v = list_all-map (λ k. nat_le k (length s.history)) (λ (p : ℕ × ℕ). p.0) s.idx_may
    ∙ weaker (is_good_index s) (λ p. nat_le p.0 (length s.history)) (λ p h. (and_parts (nat_le p.0 (length s.history)) (covers s.labels p.1 s.history p.0) (and_parts (nat_le p.0 (length s.history) && covers s.labels p.1 s.history p.0) _ h).0).0) s.idx_may v.idx_may

-- the labels of the history have all their prefixes in the list
pub all_known : (s : State) → Valid s → list_all (λ o. option_map_or (knows s.labels) (doc_of o.change) true) s.history ≡ true
all_known s v = weaker (λ o. labels_stand s.labels o.change) (λ o. option_map_or (knows s.labels) (doc_of o.change) true)
    (λ (o : Operation) each. weaker_of (λ doc. list_all (stands s.labels) doc.labels) (knows s.labels) (λ doc h. knows_its_labels s.labels v.labels doc h) (doc_of o.change) each) s.history v.known

-- all labels cover whatever was taken
pub all_cover : (s : State) (n : ℕ) → Valid s → covers s.labels (length s.labels) s.history n ≡ true
all_cover s n v =
    ap (λ labels. list_all (knows labels) (brought (take n s.history))) (take_all (length s.labels) s.labels (omega arith))
    ∙ all_brought (knows s.labels) (take n s.history)
    ∙ all_taken (λ o. option_map_or (knows s.labels) (doc_of o.change) true) n s.history (all_known s v)

-- ---- the events

with_refresh : (s : State) (r : Refresh) → Valid s → is_good_refresh s r ≡ true → Valid (record s { refresh = Some r })
with_refresh s r v good = record { labels = v.labels; known = v.known; published = v.published; refresh = good; commit = v.commit; calls = v.calls; renamed = v.renamed; tax_may = v.tax_may; idx_may = v.idx_may; kept = v.kept; tax_read = v.tax_read; idx_read = v.idx_read }

no_refresh : (s : State) → Valid s → Valid (record s { refresh = None })
no_refresh s v = record { labels = v.labels; known = v.known; published = v.published; refresh = refl; commit = v.commit; calls = v.calls; renamed = v.renamed; tax_may = v.tax_may; idx_may = v.idx_may; kept = v.kept; tax_read = v.tax_read; idx_read = v.idx_read }

pub chosen : (b : Bool) (s t : State) → Valid s → Valid t → Valid (cond b s t)
chosen true s t v w = v
chosen false s t v w = w

pub keeps_take_index : (s : State) (session : ℕ) (o : Option Refresh) → Valid s → Valid (with_index s session o)
keeps_take_index s session None v = with_refresh s (record { session = session; operations = length s.history; labels = None }) v
    (and_from _ true (and_from _ _ (itself (length s.history)) (operations_below s v)) refl)
keeps_take_index s session (Some r) v = v

pub keeps_drop_refresh : (s : State) (session : ℕ) (o : Option Refresh) → Valid s → Valid (without_refresh s session o)
keeps_drop_refresh s session None v = v
keeps_drop_refresh s session (Some r) v = chosen (r.session == session) (record s { refresh = None }) s (no_refresh s v) v

pub keeps_take_labels : (s : State) (session : ℕ) (o : Option Refresh) → s.refresh ≡ o → Valid s → Valid (with_labels_taken s session o)
keeps_take_labels s session None is v = v
keeps_take_labels s session (Some r) is v =
    let good : is_good_refresh s r ≡ true = sym (ap (λ o. option_map_or (is_good_refresh s) o true) is) ∙ v.refresh in
    let first = (and_parts (nat_le r.operations (length s.history) && is_at_least r.operations (operations_of s.published)) (are_labels_taken s (labels_of s.published) r.operations r.labels) good).0 in
    let taken : are_labels_taken s (labels_of s.published) r.operations (Some (length s.labels)) ≡ true = and_from _ _ (and_from _ _ (itself (length s.labels)) (labels_below s v)) (all_cover s r.operations v) in
    chosen (r.session == session && is_none r.labels) (record s { refresh = Some (record r { labels = Some (length s.labels) }) }) s
    (with_refresh s (record r { labels = Some (length s.labels) }) v (and_from _ _ first taken)) v

pub keeps_begin_commit : (s : State) → Valid s → Valid (with_commit s)
keeps_begin_commit s v = chosen (is_none s.commit && not s.closed) (record s { commit = Some (record { operations = length s.history; labels = None; calls = 0 }) }) s
    (record { labels = v.labels; known = v.known; published = v.published; refresh = v.refresh; commit = and_from _ true (and_from _ true (and_from _ _ (itself (length s.history)) (indexes_below s v)) refl) refl; calls = refl; renamed = refl; tax_may = v.tax_may; idx_may = v.idx_may; kept = v.kept; tax_read = v.tax_read; idx_read = v.idx_read }) v

pub keeps_drop_commit : (s : State) (o : Option Commit) → Valid s → Valid (without_commit s o)
keeps_drop_commit s None v = v
keeps_drop_commit s (Some c) v = chosen (c.calls == 0) (record s { commit = None }) s
    (record { labels = v.labels; known = v.known; published = v.published; refresh = v.refresh; commit = refl; calls = refl; renamed = refl; tax_may = v.tax_may; idx_may = v.idx_may; kept = v.kept; tax_read = v.tax_read; idx_read = v.idx_read }) v

pub map_push : {A B : Type 0} (f : A → B) (xs : List A) (x : A) → map f (xs ++ x ∷ []) ≡ map f xs ++ f x ∷ []
map_push f [] x = refl
map_push f (y ∷ ys) x = ap (λ (zs : List _). f y ∷ zs) (map_push f ys x)

-- a pair with the numbers of a good refresh goes behind the published ones
published_more : (s : State) (n m : ℕ) → Valid s → nat_le n (length s.history) ≡ true → is_at_least n (operations_of s.published) ≡ true → are_labels_taken s (labels_of s.published) n (Some m) ≡ true
    → are_publications s.labels s.history (s.published ++ (n, m) ∷ []) ≡ true
published_more s n m v there above taken =
    let old = and_parts (never_falls (operations_of s.published) && never_falls (labels_of s.published)) _ v.published in
    let falls = and_parts (never_falls (operations_of s.published)) (never_falls (labels_of s.published)) old.0 in
    let parts = and_parts (nat_le m (length s.labels) && is_at_least m (labels_of s.published)) (covers s.labels m s.history n) taken in
    let bound = and_parts (nat_le m (length s.labels)) (is_at_least m (labels_of s.published)) parts.0 in
    let first : never_falls (operations_of (s.published ++ (n, m) ∷ [])) ≡ true = ap never_falls (map_push (λ (p : ℕ × ℕ). p.0) s.published (n, m)) ∙ never_falls_push (operations_of s.published) n falls.0 above in
    let second : never_falls (labels_of (s.published ++ (n, m) ∷ [])) ≡ true = ap never_falls (map_push (λ (p : ℕ × ℕ). p.1) s.published (n, m)) ∙ never_falls_push (labels_of s.published) m falls.1 bound.1 in
    let new : is_pair s.labels s.history (n, m) ≡ true = and_from _ _ (and_from _ _ there bound.0) parts.1 in
    let each : list_all (is_pair s.labels s.history) (s.published ++ (n, m) ∷ []) ≡ true = list_all-append (is_pair s.labels s.history) s.published ((n, m) ∷ []) ∙ and_from _ _ old.1 (and_from _ true new refl) in
    and_from _ _ (and_from _ _ first second) each

published_if : (s : State) (r : Refresh) (o : Option ℕ) → r.labels ≡ o → is_good_refresh s r ≡ true → Valid s → Valid (publish_pair s r.operations o)
published_if s r None is good v = v
published_if s r (Some m) is good v =
    let parts = and_parts (nat_le r.operations (length s.history) && is_at_least r.operations (operations_of s.published)) (are_labels_taken s (labels_of s.published) r.operations r.labels) good in
    let first = and_parts (nat_le r.operations (length s.history)) (is_at_least r.operations (operations_of s.published)) parts.0 in
    let taken : are_labels_taken s (labels_of s.published) r.operations (Some m) ≡ true = sym (ap (are_labels_taken s (labels_of s.published) r.operations) is) ∙ parts.1 in
    record { labels = v.labels; known = v.known; published = published_more s r.operations m v first.0 first.1 taken; refresh = refl; commit = v.commit; calls = v.calls; renamed = v.renamed; tax_may = v.tax_may; idx_may = v.idx_may; kept = v.kept; tax_read = v.tax_read; idx_read = v.idx_read }

pub keeps_publish : (s : State) (session : ℕ) (o : Option Refresh) → s.refresh ≡ o → Valid s → Valid (with_publication s session o)
keeps_publish s session None is v = v
keeps_publish s session (Some r) is v =
    let good : is_good_refresh s r ≡ true = sym (ap (λ o. option_map_or (is_good_refresh s) o true) is) ∙ v.refresh in
    chosen (r.session == session) (publish_pair s r.operations r.labels) s (published_if s r r.labels refl good v) v
