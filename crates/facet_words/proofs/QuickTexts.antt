-- Arrays of texts, and of paths: their tokens, and the values that they are.
use Rattle.std.proofs.Common.{◌≡◌, ℕ, suc, ◌≤◌, List, [], ◌∷◌, ◌++◌, length, map, Option, Some, None, Ok, Err, refl, sym, ap, ◌∙◌, arith, append_assoc}
use Rattle.std.specs.Prelude.{All, Result, IfOk, IfSome}
use Rattle.std.proofs.lemmas.Bool.{le-leb}
use Rattle.std.proofs.lemmas.Bool.Decides.{nat_tests}
use Rattle.json.specs.Token.{Token}
use Rattle.json.specs.Json as json
use Rattle.json.specs.Json.{after_end_array}
use Rattle.json.specs.Tree.{json_tokens, items_tokens, items_depth}
use Rattle.serde_json.specs.Data.{Data, string, array}
use Rattle.serde_json.specs.Find.{as_str}
use Rattle.serde_json.specs.Read.{of_items}
use Rattle.facet_names.specs.Faults.{IsPath, path_fault}
use Rattle.facet_names.proofs.Parts.{part_of_path}
use Rattle.facet_words.specs.Shapes.{all_some, items_list, list_within, path}
use Rattle.facet_words.specs.Quick.{written_texts, written_lists, text_items, list_items}

pub ended : (ts rest : List Token) → after_end_array ts ≡ Some rest → ts ≡ Token.end_array ∷ rest
ended [] rest e = absurd cc
ended (Token.begin_object ∷ ts) rest e = absurd cc
ended (Token.end_object ∷ ts) rest e = absurd cc
ended (Token.begin_array ∷ ts) rest e = absurd cc
ended (Token.end_array ∷ ts) rest e = let same : ts ≡ rest = cc in ap (λ (us : List Token). Token.end_array ∷ us) same
ended (Token.key s ∷ ts) rest e = absurd cc
ended (Token.string s ∷ ts) rest e = absurd cc
ended (Token.number s ∷ ts) rest e = absurd cc
ended (Token.boolean b ∷ ts) rest e = absurd cc
ended (Token.null ∷ ts) rest e = absurd cc
ended (Token.bad ∷ ts) rest e = absurd cc

-- ---- texts

pub texts_tokens : (xs : List (List ℕ)) (rest : List Token) → map (λ t. Token.string t) xs ++ (Token.end_array ∷ rest) ≡ items_tokens (written_texts xs) ++ rest
texts_tokens [] rest = refl
texts_tokens (x ∷ xs) rest = ap (λ (ts : List Token). Token.string x ∷ ts) (texts_tokens xs rest)

pub texts_are : (xs : List (List ℕ)) → of_items (written_texts xs) ≡ Some (text_items xs)
texts_are [] = refl
texts_are (x ∷ xs) = rw (texts_are xs) refl

pub texts_are_flat : (xs : List (List ℕ)) → items_depth (written_texts xs) ≡ 0
texts_are_flat [] = refl
texts_are_flat (x ∷ xs) = let others = texts_are_flat xs in omega arith

items_strings : (xs : List (List ℕ)) → items_list (text_items xs) ≡ map string xs
items_strings [] = refl
items_strings (x ∷ xs) = ap (λ (ds : List Data). string x ∷ ds) (items_strings xs)

strings_read : (xs : List (List ℕ)) → all_some (map as_str (map string xs)) ≡ Some xs
strings_read [] = refl
strings_read (x ∷ xs) = rw (strings_read xs) refl

items_many : (xs : List (List ℕ)) → length (items_list (text_items xs)) ≡ length xs
items_many [] = refl
items_many (x ∷ xs) = ap suc (items_many xs)

-- ---- a path

some_parts : (p : List (List ℕ)) → IsPath p → 1 ≤ length p
some_parts [] fits = absurd cc
some_parts (x ∷ xs) fits = omega arith

few_parts : (p : List (List ℕ)) → IsPath p → length p ≤ 32
few_parts [] fits = omega arith
few_parts (x ∷ xs) fits = let parts = part_of_path (x ∷ xs) fits in grind (arith, nat_tests, parts.1)

pub path_read : (p : List (List ℕ)) → path_fault p ≡ None → path (array (text_items p)) ≡ Some p
unfolding path
path_read p fits = rw (items_many p, items_strings p, strings_read p, le-leb 1 (length p) (some_parts p fits), le-leb (length p) 32 (few_parts p fits), fits) refl

-- it stands between the brackets of its array
pub path_tokens : {E : Type 0} (old new mid : List Token) (r : Result (Option (List (List ℕ))) E) → old ≡ Token.begin_array ∷ mid
    → IfOk r (λ o. IfSome o (λ p. mid ≡ map (λ t. Token.string t) p ++ (Token.end_array ∷ new))) → IfOk r (λ o. IfSome o (λ p. old ≡ json_tokens (json.array (written_texts p)) ++ new))
path_tokens old new mid (Err e) begins read = tt
path_tokens old new mid (Ok None) begins read = tt
path_tokens old new mid (Ok (Some p)) begins read = begins ∙ ap (λ (ts : List Token). Token.begin_array ∷ ts) (read ∙ texts_tokens p new)

pub path_reads : {E : Type 0} (r : Result (Option (List (List ℕ))) E) → IfOk r (λ o. IfSome o (λ p. IsPath p)) → IfOk r (λ o. IfSome o (λ p. path (array (text_items p)) ≡ Some p))
path_reads (Err e) fits = tt
path_reads (Ok None) fits = tt
path_reads (Ok (Some p)) fits = path_read p fits

-- ---- paths

-- the tokens of arrays of texts, one behind the other
abbrev pub lists_tokens : List (List (List ℕ)) → List Token
lists_tokens [] = []
lists_tokens (l ∷ ls) = json_tokens (json.array (written_texts l)) ++ lists_tokens ls

pub one_list_more : (ls : List (List (List ℕ))) (l : List (List ℕ)) (rest : List Token) → lists_tokens (ls ++ l ∷ []) ++ rest ≡ lists_tokens ls ++ (json_tokens (json.array (written_texts l)) ++ rest)
one_list_more [] l rest = ap (λ (ts : List Token). ts ++ rest) (append-empty (json_tokens (json.array (written_texts l))))
  where
    append-empty : (ts : List Token) → ts ++ [] ≡ ts
    append-empty [] = refl
    append-empty (t ∷ ts) = ap (λ (us : List Token). t ∷ us) (append-empty ts)
one_list_more (m ∷ ls) l rest =
    let one = json_tokens (json.array (written_texts m)) in
    append_assoc one (lists_tokens (ls ++ l ∷ [])) rest ∙ ap (λ (ts : List Token). one ++ ts) (one_list_more ls l rest) ∙ sym (append_assoc one (lists_tokens ls) (json_tokens (json.array (written_texts l)) ++ rest))

pub lists_are_tokens : (ls : List (List (List ℕ))) (rest : List Token) → lists_tokens ls ++ (Token.end_array ∷ rest) ≡ items_tokens (written_lists ls) ++ rest
lists_are_tokens [] rest = refl
lists_are_tokens (l ∷ ls) rest =
    let one = json_tokens (json.array (written_texts l)) in
    append_assoc one (lists_tokens ls) (Token.end_array ∷ rest) ∙ ap (λ (ts : List Token). one ++ ts) (lists_are_tokens ls rest) ∙ sym (append_assoc one (items_tokens (written_lists ls)) rest)

pub lists_are : (ls : List (List (List ℕ))) → of_items (written_lists ls) ≡ Some (list_items ls)
lists_are [] = refl
lists_are (l ∷ ls) = rw (texts_are l, lists_are ls) refl

pub lists_are_shallow : (ls : List (List (List ℕ))) → items_depth (written_lists ls) ≤ 1
lists_are_shallow [] = omega arith
lists_are_shallow (l ∷ ls) = let flat = texts_are_flat l in let others = lists_are_shallow ls in omega arith

list_items_many : (ls : List (List (List ℕ))) → length (items_list (list_items ls)) ≡ length ls
list_items_many [] = refl
list_items_many (l ∷ ls) = ap suc (list_items_many ls)

paths_read : (ls : List (List (List ℕ))) → All (λ p. path (array (text_items p)) ≡ Some p) ls → all_some (map path (items_list (list_items ls))) ≡ Some ls
paths_read [] all = refl
paths_read (l ∷ ls) all = rw (all 0 [] (omega arith), paths_read ls (λ k d lt. all (suc k) d (omega arith))) refl

pub facets_read : (ls : List (List (List ℕ))) → All (λ p. path (array (text_items p)) ≡ Some p) ls → length ls ≤ 256 → list_within 0 256 path (array (list_items ls)) ≡ Some ls
facets_read ls all few = rw (list_items_many ls, paths_read ls all, le-leb 0 (length ls) (omega arith), le-leb (length ls) 256 few) refl
