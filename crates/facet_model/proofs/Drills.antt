-- The terms of the paths of a drill.
use Rattle.std.proofs.Common.{◌≡◌, ℕ, ◌<◌, List, length, map, Some, slice_get, slice_index_or, string_bytes, refl, sym, ap, ◌∙◌, arith}
use Rattle.std.specs.Prelude.{String, option_map}
use Rattle.std.specs.declared.alloc.Global.{Global}
use Rattle.std.proofs.lemmas.List.{length-map}
use Rattle.std.proofs.lemmas.Option.{same_Some, slice_get-map, slice_get_read}
use Rattle.facet_model.specs.Terms.{path_term}

-- the text at a place is the term of the path there
pub term_at : (paths : List (List (List ℕ))) (terms : List (String Global)) (at : ℕ) (t : String Global) (path : List (List ℕ)) → map string_bytes terms ≡ map path_term paths → at < length paths → t ≡ slice_index_or terms at t → slice_get paths at ≡ Some path → string_bytes t ≡ path_term path
term_at paths terms at t path each lt read there =
    let within : at < length terms = omega (arith, ap length each, length-map terms string_bytes, length-map paths path_term) in
    let left = slice_get-map string_bytes terms at ∙ ap (option_map string_bytes) (slice_get_read terms (length terms) at t refl within read) in
    let right = slice_get-map path_term paths at ∙ ap (option_map path_term) there in
    same_Some (string_bytes t) (path_term path) (sym left ∙ ap (λ ts. slice_get ts at) each ∙ right)
