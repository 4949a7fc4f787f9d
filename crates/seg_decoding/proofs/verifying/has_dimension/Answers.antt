use Rattle.std.proofs.Common.{◌≡◌, ◌<◌, ℕ, Bool, true, false, ◌||◌, List, [], ◌∷◌, get_or, length, take, sym, ap, ◌∙◌, arith}
use Rattle.std.specs.List.{list_any}
use Rattle.std.specs.Str.{bytes_eq}
use Rattle.std.proofs.lemmas.List.{get_or-map, length-map, map_push, take_more}
use Rattle.std.proofs.lemmas.List.Folds.{list_any-append, list_any_at}
use Rattle.facet_model.specs.Documents.{dim_of}
use Rattle.seg_decoding.specs.Facts.{label_of, labels_of}
use Rattle.seg_decoding.proofs.Rights.{dim_is}
use Rattle.seg_decoding.proofs.verifying.has_dimension.Goals as goal

pub returns-then-eq : goal.returns-then-eq
returns-then-eq c =
    let known = c.args.labels.now in
    let leaves : List ℕ = c.args.leaves.now in
    let i = c.loop-leaf.leaf-index in
    let test : List (List ℕ) → Bool = λ l. bytes_eq (dim_of l) c.args.dim.now in
    let within : c.loop-leaf.leaf-index < length c.args.leaves.now = c.loop-leaf-test.true in
    let own : bytes_eq (dim_of (label_of known (get_or leaves i 0))) c.args.dim.now ≡ true = ap (λ d. bytes_eq d c.args.dim.now) (dim_is known (get_or leaves i 0) c.path_of.result.now c.dim.result.now c.path_of.ensures c.dim.ensures) ∙ sym c.eq.ensures ∙ c.if-eq.true in
    sym (list_any_at test (labels_of known leaves) i [] (omega (arith, within, length-map leaves (label_of known))) (ap test (get_or-map (label_of known) leaves i 0 [] within) ∙ own))

pub loop-leaf-preserved : goal.loop-leaf-preserved
loop-leaf-preserved c =
    let known = c.args.labels.now in
    let leaves : List ℕ = c.args.leaves.now in
    let i = c.loop-leaf.leaf-index in
    let test : List (List ℕ) → Bool = λ l. bytes_eq (dim_of l) c.args.dim.now in
    let own : bytes_eq (dim_of (label_of known (get_or leaves i 0))) c.args.dim.now ≡ false = ap (λ d. bytes_eq d c.args.dim.now) (dim_is known (get_or leaves i 0) c.path_of.result.now c.dim.result.now c.path_of.ensures c.dim.ensures) ∙ sym c.eq.ensures ∙ c.if-eq.false in
    ap (λ (ls : List ℕ). list_any test (labels_of known ls)) (take_more leaves i 0 c.loop-leaf-test.true)
    ∙ ap (list_any test) (map_push (label_of known) (take i leaves) (get_or leaves i 0))
    ∙ list_any-append test (labels_of known (take i leaves)) (label_of known (get_or leaves i 0) ∷ [])
    ∙ (λ j. c.loop-leaf.invariant j || (own j || false))
