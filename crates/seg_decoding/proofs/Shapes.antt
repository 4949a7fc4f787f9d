-- A record is within the limits of a document.
use Rattle.std.proofs.Common.{◌≡◌, ◌≢◌, ℕ, List, length, slice_get, Some, None, refl, sym, ap, ◌∙◌, arith}
use Rattle.std.proofs.lemmas.Bool.{ne_eqb, le-ltb}
use Rattle.std.proofs.lemmas.List.{length-map}
use Rattle.facet_model.specs.declared.document.DocShape.{DocShape}
use Rattle.facet_model.specs.declared.document.DocShape.TheVariants.{BadId, TextTooLong, TooManyFacets, NoMemory}
use Rattle.facet_model.specs.Shapes.{doc_fault}
use Rattle.facet_model.specs.Stored.{Stored, AreLabelsAt}
use Rattle.seg_grammar.specs.Spelling.{IsRecord}

as_many : (known : List (List (List ℕ))) (leaves : List ℕ) (labels : List (List (List ℕ))) → AreLabelsAt known leaves labels → length labels ≡ length leaves
as_many known leaves labels at = sym (length-map labels Some) ∙ sym (ap length at) ∙ length-map leaves (slice_get known)

is_document : (known : List (List (List ℕ))) (r : Stored) (labels : List (List (List ℕ))) → IsRecord r → AreLabelsAt known r.leaves labels → doc_fault r.id r.text labels ≡ None
is_document known r labels fits at =
    rw (ne_eqb (length r.id) 0 (λ e. omega (arith, fits.id.some)), le-ltb 256 (length r.id) (omega (arith, fits.id.text.length)), le-ltb 65536 (length r.text) (omega (arith, fits.text.length)), le-ltb 256 (length labels) (omega (arith, as_many known r.leaves labels at, fits.leaves.few)))
    refl

-- nothing but memory is wanting
pub memory_alone : (known : List (List (List ℕ))) (r : Stored) (labels : List (List (List ℕ))) → IsRecord r → AreLabelsAt known r.leaves labels → (fault : DocShape) → (fault ≢ NoMemory → doc_fault r.id r.text labels ≡ Some fault) → fault ≡ NoMemory
memory_alone known r labels fits at (BadId n) told = let none = is_document known r labels fits at in let some = told (λ e. absurd cc) in absurd cc
memory_alone known r labels fits at (TextTooLong n) told = let none = is_document known r labels fits at in let some = told (λ e. absurd cc) in absurd cc
memory_alone known r labels fits at (TooManyFacets n) told = let none = is_document known r labels fits at in let some = told (λ e. absurd cc) in absurd cc
memory_alone known r labels fits at NoMemory told = refl
