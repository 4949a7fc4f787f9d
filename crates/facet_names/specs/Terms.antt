-- The text of a path as a drill-down term: U+001F between components, and U+001E before each U+001E or U+001F inside
-- one.
use Rattle.std.specs.Prelude.{◌≡◌, ◌≤◌, ◌==◌, ◌||◌, ℕ, Bool, if◌then◌else◌, List, [], ◌∷◌, ◌++◌, flat_map, length, map}
use Rattle.std.specs.Prelude.{take}
use Rattle.std.specs.List.{join_with_byte}
use Rattle.facet_names.specs.Faults.{IsPath}

-- one of the two bytes that a component has only after an escape
abbrev pub is_special : ℕ → Bool
is_special b = b == 30 || b == 31

-- a byte of a component as the term text has it
abbrev pub escaped_byte : ℕ → List ℕ
escaped_byte b = if is_special b then 30 ∷ b ∷ [] else b ∷ []

-- a component as the term text has it
unfoldable pub escaped : List ℕ → List ℕ
escaped part = flat_map escaped_byte part

-- what the component at a place of a path adds to the text of those before it
abbrev pub behind : ℕ → List ℕ → List ℕ
behind at part = if at == 0 then escaped part else 31 ∷ escaped part

-- the new text is the old one with a prefix of these bytes after it
abbrev pub HasSome : List ℕ → List ℕ → List ℕ → Type 0
HasSome bytes old new = (n : ℕ) × (new ≡ old ++ take n bytes)

-- the components, each escaped, with the separator between them
unfoldable pub term_text : List (List ℕ) → List ℕ
term_text path = join_with_byte 31 (map escaped path)

-- the text is the term text of the path
pub record IsTermText (text : List ℕ) (path : List (List ℕ)) : Type 0 where
  pub fits : IsPath path
  pub is : text ≡ term_text path

-- a text is the term text of at most one path
abbrev pub OneTermText : Type 0
OneTermText = (text : List ℕ) (p q : List (List ℕ)) → IsTermText text p → IsTermText text q → p ≡ q

-- 32 components of 1,024 bytes, all of them escaped, and the 31 separators
abbrev pub TermTextIsShort : Type 0
TermTextIsShort = (path : List (List ℕ)) → IsPath path → length (term_text path) ≤ 65567
