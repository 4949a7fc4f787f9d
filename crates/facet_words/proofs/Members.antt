-- The keys of a map, and those of the object that it stands for.
use Rattle.std.proofs.Common.{◌≡◌, ℕ, Bool, List, [], ◌∷◌, Some, Bor, refl, ap, ◌∙◌}
use Rattle.std.specs.Prelude.{◌&&◌, ◌||◌, false, map, String, string_bytes}
use Rattle.std.specs.declared.alloc.Global.{Global}
use Rattle.std.specs.List.{list_any, list_all}
use Rattle.std.specs.Map.{keys_of}
use Rattle.std.specs.Option.{option_map_or}
use Rattle.std.specs.Str.{bytes_eq}
use Rattle.serde_json.specs.Data.{Data}
use Rattle.serde_json.specs.Find.{as_object}
use Rattle.serde_json.specs.View.{members_view}
use Rattle.serde_json.specs.declared.value.Value.{Value}
use Rattle.facet_words.specs.Shapes.{members_among, keys_among}

listed_members : (names : List (Bor (List ℕ))) (es : List (String Global × Value)) → list_all (λ k. list_any (λ a. bytes_eq (string_bytes k) a.now) names) (keys_of es) ≡ members_among (map (λ a. a.now) names) (members_view es)
listed_members names [] = refl
listed_members names (e ∷ es) = ap2 (any_map names (string_bytes e.0)) (listed_members names es)
  where
    any_map : (names : List (Bor (List ℕ))) (k : List ℕ) → list_any (λ a. bytes_eq k a.now) names ≡ list_any (bytes_eq k) (map (λ a. a.now) names)
    any_map [] k = refl
    any_map (a ∷ names) k = ap (λ b. bytes_eq k a.now || b) (any_map names k)

    ap2 : {a b c d : Bool} → a ≡ b → c ≡ d → (a && c) ≡ (b && d)
    ap2 p q = λ i. p i && q i

pub keys_found : (names : List (Bor (List ℕ))) (es : List (String Global × Value)) (d : Data) → Some (members_view es) ≡ as_object d → list_all (λ k. list_any (λ a. bytes_eq (string_bytes k) a.now) names) (keys_of es) ≡ keys_among (map (λ a. a.now) names) d
keys_found names es d e = listed_members names es ∙ ap (λ o. option_map_or (members_among (map (λ a. a.now) names)) o false) e
