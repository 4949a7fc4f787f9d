-- What was opened, as the first tokens have seen it.
use Rattle.std.proofs.Common.{◌≡◌, ◌∙◌, ℕ, eqb, Bool, true, false, List, [], ◌∷◌, length, drop, map, refl, sym, ap, subst, arith}
use Rattle.std.specs.Prelude.{All}
use Rattle.std.proofs.lemmas.List.{length-map}
use Rattle.std.proofs.lemmas.List.Elements.{All-cons, All-filter, All-nil}
use Rattle.chronicle.specs.History.{entries, numbered, own_of}
use Rattle.chronicle.specs.Shown.{Shown, mine}
use Rattle.chronicle.proofs.Entries.{entries-numbered}
use Rattle.commit_turns.specs.Points.{made}
use Rattle.commit_turns.specs.Seen.{docs_of}
use Rattle.facet_model.specs.Documents.{Doc}
use Rattle.facet_model.specs.Histories.{Operation, add, docs, opened}
use Rattle.facet_model.specs.Stored.{Records}
use Rattle.facet_model.proofs.Changes.{docs_opened}
use Rattle.facet_names.specs.Labels.{IsLabelList}
use Rattle.facet_names.proofs.LabelLists.{Labels, some_label, root_first}
use Rattle.facet_output.specs.Seen.{Seen, opened_seen}
use Rattle.pair_manager.specs.declared.point.CommitPoint.{CommitPoint as Point}
use Rattle.pair_manager.specs.declared.publication.Publication.{Publication}
use Rattle.pair_manager.specs.Published.{numbers}
use Rattle.seg_documents.specs.Decoding.{doc_in, docs_in, records_in}
use Rattle.taxo_cache.specs.Seen.{labels_of}
use Rattle.facet_engine.specs.Steps.{point_of}
use Rattle.facet_engine.proofs.Seeing.{told}

-- as many documents as records
pub docs_many : (labels : Labels) (segments : List Records) → length (docs_in labels segments) ≡ length (records_in segments)
docs_many labels segments = length-map (records_in segments) (doc_in labels)

opened_many : (ds : List Doc) → length (numbered 0 (opened ds)) ≡ length ds
opened_many ds =
    let first : Operation → ℕ × Operation = λ o. (0, o) in
    let operation : Doc → Operation = λ d. record { session = 0; change = add d } in
    length-map (opened ds) first ∙ length-map ds operation

opened_told : (ds : List Doc) → told (λ (o : Operation). o.change) (numbered 0 (opened ds)) ≡ map (λ (d : Doc). (0, add d)) ds
opened_told [] = refl
opened_told (d ∷ ds) = ap (λ l. (0, add d) ∷ l) (opened_told ds)

-- the operations are those of the opened documents
pub docs_seen : (ds : List Doc) (operations : List (ℕ × Operation)) → operations ≡ numbered 0 (opened ds) → docs_of operations ≡ ds
docs_seen ds operations is = ap docs_of is ∙ ap docs (entries-numbered 0 (opened ds)) ∙ docs_opened ds

pub many_seen : (ds : List Doc) (operations : List (ℕ × Operation)) → operations ≡ numbered 0 (opened ds) → length operations ≡ length ds
many_seen ds operations is = ap length is ∙ opened_many ds

-- an operation of what was opened
abbrev IsOpened : ℕ × Operation → Type 0
IsOpened e = e.1.session ≡ 0

all_opened : (ds : List Doc) → All IsOpened (numbered 0 (opened ds))
all_opened [] = All-nil IsOpened
all_opened (d ∷ ds) = All-cons IsOpened (0, record { session = 0; change = add d }) (numbered 0 (opened ds)) refl (all_opened ds)

own_opened : (note : Bool) (n : ℕ) (es : List (ℕ × Operation)) → All IsOpened es → All IsOpened (own_of note n es)
own_opened true n es all = All-nil IsOpened
own_opened false n es all = All-filter (λ (e : ℕ × Operation). eqb e.0 n) IsOpened es all

-- those that a token entered are of session 0
pub opened_named : (ds : List Doc) (token : Shown Operation) → token.seen ≡ numbered 0 (opened ds) → All (λ (e : ℕ × Operation). e.1.session ≡ 0) (mine token)
opened_named ds token is = own_opened token.is_note token.number token.seen (subst (λ (l : List (ℕ × Operation)). All IsOpened l) (sym is) (all_opened ds))

-- all four, as plain data
abbrev pub all_of : List (ℕ × List (List ℕ)) → List (ℕ × Operation) → List (ℕ × Publication) → List (ℕ × Point) → Seen
all_of labels operations pairs commits = record { labels = labels; operations = told (λ (o : Operation). o.change) operations; pairs = told numbers pairs; commits = told point_of commits }

pub opened_is : (ds : List Doc) (labels : List (ℕ × List (List ℕ))) (operations : List (ℕ × Operation)) (pairs : List (ℕ × Publication)) (commits : List (ℕ × Point)) → labels ≡ numbered 0 (entries labels) → operations ≡ numbered 0 (opened ds)
    → pairs ≡ numbered 0 (record { operations = length operations; labels = length (labels_of labels) } ∷ []) → commits ≡ numbered 0 (made (length operations) (length (labels_of labels)) ∷ [])
    → all_of labels operations pairs commits ≡ opened_seen (record { labels = labels_of labels; docs = ds })
opened_is ds labels operations pairs commits l o p c =
    let many = many_seen ds operations o in
    let all_operations = ap (told (λ (x : Operation). x.change)) o ∙ opened_told ds in
    let first_pair = ap (told numbers) p ∙ ap (λ (n : ℕ). (0, (n, length (labels_of labels))) ∷ []) many in
    let first_commit = ap (told point_of) c ∙ ap (λ (n : ℕ). (0, point_of (made n (length (labels_of labels)))) ∷ []) many in
    λ i. record { labels = l i; operations = all_operations i; pairs = first_pair i; commits = first_commit i }

-- the root stands first
pub rooted : (labels : Labels) → IsLabelList labels → labels ≡ [] ∷ drop 1 labels
rooted [] list = absurd (let some = some_label [] list in omega arith)
rooted (x ∷ labels) list = ap (λ l. l ∷ labels) (root_first (x ∷ labels) list [])
