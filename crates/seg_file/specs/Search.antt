-- The search for a term among terms that rise.
use Rattle.std.specs.Prelude.{◌≡◌, ℕ, ◌<◌, ◌≤◌, ◌++◌, codes, true, false, List, [], length, Some, slice_index_or}
use Rattle.seg_grammar.specs.Spelling.{comes_after}
use Rattle.seg_file.specs.declared.key.Key.{Key}
use Rattle.seg_file.specs.declared.key.Key.TheVariants.{Text, Word}

-- the text of the term that is looked for
abbrev pub text_of : Key → List ℕ
text_of (Text text) = text.now
text_of (Word word) = codes "w" ++ word.now

-- the term at an index, which is there
abbrev pub term_of : List (List ℕ × List ℕ) → ℕ → List ℕ × List ℕ
term_of terms at = slice_index_or terms at ([], [])

-- The terms before low come before the text, and those from high on do not.
pub record IsFirstFrom (text : List ℕ) (terms : List (List ℕ × List ℕ)) (low high : ℕ) : Type 0 where
  pub below : (k : ℕ) → k < low → comes_after (Some (term_of terms k).0) text ≡ true
  pub from : (k : ℕ) → high ≤ k → k < length terms → comes_after (Some (term_of terms k).0) text ≡ false
