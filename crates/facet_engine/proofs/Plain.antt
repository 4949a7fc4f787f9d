-- The operations that were seen, as plain data: they leave and bring the same documents.
use Rattle.std.proofs.Common.{◌≡◌, ◌∙◌, ℕ, zero, suc, List, [], ◌∷◌, ◌++◌, length, take, map, Option, Some, None, refl, sym, ap}
use Rattle.std.specs.Prelude.{fold}
use Rattle.std.proofs.lemmas.List.{append-nil, length-map}
use Rattle.chronicle.specs.History.{entries}
use Rattle.facet_model.specs.Documents.{Doc}
use Rattle.facet_model.specs.Histories.{Change, Operation, changed, docs, doc_of, brought}

-- each with the number under which it was entered in place of its session
abbrev pub plain : List (ℕ × Operation) → List Operation
plain seen = map (λ (e : ℕ × Change). record { session = e.0; change = e.1 }) (map {B = ℕ × Change} (λ e. (e.0, e.1.change)) seen)

pub many_plain : (seen : List (ℕ × Operation)) → length (plain seen) ≡ length seen
many_plain seen =
    let change : ℕ × Operation → ℕ × Change = λ e. (e.0, e.1.change) in
    length-map (map change seen) (λ (e : ℕ × Change). record { session = e.0; change = e.1 }) ∙ length-map seen change

docs_after : (before : List Doc) (k : ℕ) (seen : List (ℕ × Operation)) → fold (λ ds (o : Operation). changed ds o.change) before (take k (plain seen)) ≡ fold (λ ds (o : Operation). changed ds o.change) before (take k (entries seen))
docs_after before zero seen = refl
docs_after before (suc k) [] = refl
docs_after before (suc k) (x ∷ seen) = docs_after (changed before x.1.change) k seen

pub docs_taken : (k : ℕ) (seen : List (ℕ × Operation)) → docs (take k (plain seen)) ≡ docs (take k (entries seen))
docs_taken k seen = docs_after [] k seen

pub brought_taken : (k : ℕ) (seen : List (ℕ × Operation)) → brought (take k (plain seen)) ≡ brought (take k (entries seen))
brought_taken zero seen = refl
brought_taken (suc k) [] = refl
brought_taken (suc k) (x ∷ seen) = by (doc_of x.1.change) refl (brought_taken k seen)
  where
    by : (d : Option Doc) → doc_of x.1.change ≡ d → brought (take k (plain seen)) ≡ brought (take k (entries seen)) → brought (take (suc k) (plain (x ∷ seen))) ≡ brought (take (suc k) (entries (x ∷ seen)))
    by None e rest = rw e rest
    by (Some d) e rest = rw e (ap (λ ds. d ∷ ds) rest)

-- ---- the first of them

entries_front : (front rest : List (ℕ × Operation)) → take (length front) (entries (front ++ rest)) ≡ entries front
entries_front [] rest = refl
entries_front (x ∷ front) rest = ap (λ l. x.1 ∷ l) (entries_front front rest)

pub docs_front : (front rest : List (ℕ × Operation)) → docs (take (length front) (plain (front ++ rest))) ≡ docs (entries front)
docs_front front rest = docs_taken (length front) (front ++ rest) ∙ ap docs (entries_front front rest)

-- all of them
pub docs_all : (seen : List (ℕ × Operation)) → docs (take (length seen) (plain seen)) ≡ docs (entries seen)
docs_all seen = ap (λ l. docs (take (length seen) (plain l))) (sym (append-nil seen)) ∙ docs_front seen []
