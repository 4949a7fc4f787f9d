-- A code of query trees: the nodes of a tree, each after those inside it.
use Rattle.std.specs.Prelude.{◌≡◌, ◌++◌, ◌==◌, ℕ, if◌then◌else◌, List, [], ◌∷◌, drop, slice_index_or, refl}
use Rattle.std.proofs.Common.{sym, ap, ◌∙◌, append_assoc}
use Rattle.std.proofs.lemmas.List.{append-nil}
use Rattle.std.specs.Coded.{Coded, code_by, coded×, coded_ℕ, coded_list}
use Rattle.facet_model.specs.Queries.{QueryTree, QueryList, all, term, bool, no_query, query}

-- the kind of a node, and its word
abbrev pub Token : Type 0
Token = ℕ × List ℕ

abbrev mutual
  pub tokens : QueryTree → List Token
  tokens all = (0, []) ∷ []
  tokens (term word) = (1, word) ∷ []
  tokens (bool must should must_not) = list_tokens must ++ (list_tokens should
      ++ (list_tokens must_not ++ (2, []) ∷ []))

  pub list_tokens : QueryList → List Token
  list_tokens no_query = (3, []) ∷ []
  list_tokens (query q qs) = tokens q ++ (list_tokens qs ++ (4, []) ∷ [])

abbrev pub tree_at : List QueryTree → QueryTree
tree_at trees = slice_index_or trees 0 all

abbrev pub list_at : List QueryList → ℕ → QueryList
list_at lists i = slice_index_or lists i no_query

-- the trees that the nodes make, with those that are there
abbrev pub read : List Token → List QueryTree → List QueryList → List QueryTree
read [] trees lists = trees
read (t ∷ ts) trees lists =
    if t.0 == 0 then read ts (all ∷ trees) lists
    else if t.0 == 1 then read ts (term t.1 ∷ trees) lists
    else if t.0 == 2 then read ts (bool (list_at lists 2) (list_at lists 1) (list_at lists 0) ∷ trees) (drop 3 lists)
    else if t.0 == 3 then read ts trees (no_query ∷ lists)
    else read ts (drop 1 trees) (query (tree_at trees) (list_at lists 0) ∷ drop 1 lists)

mutual
  pub read_tree : (q : QueryTree) (rest : List Token) (trees : List QueryTree) (lists : List QueryList)
      → read (tokens q ++ rest) trees lists ≡ read rest (q ∷ trees) lists
  read_tree all rest trees lists = refl
  read_tree (term word) rest trees lists = refl
  read_tree (bool must should must_not) rest trees lists =
      ap (λ ts. read ts trees lists) (append_assoc (list_tokens must) _ rest)
      ∙ read_list must _ trees lists
      ∙ ap (λ ts. read ts trees (must ∷ lists)) (append_assoc (list_tokens should) _ rest)
      ∙ read_list should _ trees (must ∷ lists)
      ∙ ap (λ ts. read ts trees (should ∷ must ∷ lists)) (append_assoc (list_tokens must_not) _ rest)
      ∙ read_list must_not _ trees (should ∷ must ∷ lists)

  pub read_list : (qs : QueryList) (rest : List Token) (trees : List QueryTree) (lists : List QueryList)
      → read (list_tokens qs ++ rest) trees lists ≡ read rest trees (qs ∷ lists)
  read_list no_query rest trees lists = refl
  read_list (query q qs) rest trees lists =
      ap (λ ts. read ts trees lists) (append_assoc (tokens q) _ rest)
      ∙ read_tree q _ trees lists
      ∙ ap (λ ts. read ts (q ∷ trees) lists) (append_assoc (list_tokens qs) _ rest)
      ∙ read_list qs _ (q ∷ trees) lists

pub read_back : (q : QueryTree) → tree_at (read (tokens q) [] []) ≡ q
read_back q = ap (λ ts. tree_at (read ts [] [])) (sym (append-nil (tokens q))) ∙ ap tree_at (read_tree q [] [] [])

abbrev pub query_code : Coded QueryTree
query_code = code_by (List Token) (coded_list (coded× coded_ℕ (coded_list coded_ℕ))) tokens
    (λ ts. tree_at (read ts [] [])) read_back
