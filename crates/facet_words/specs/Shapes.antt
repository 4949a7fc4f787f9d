-- The shapes of values, and the keys of an object, each in its shape. A shape gives what a value means, or None.
use Rattle.std.specs.Prelude.{◌&&◌, ℕ, ℤ, nat_le, if◌then◌else◌, Bool, true, false, List, [], ◌∷◌, length, map, Option}
use Rattle.std.specs.Prelude.{Some, None, is_none, option_and_then, option_map}
use Rattle.std.specs.Option.{option_map_or}
use Rattle.std.specs.List.{list_any}
use Rattle.std.specs.Str.{bytes_eq}
use Rattle.serde_json.specs.Data.{Data, Items, no_items, item, Members, no_members, member}
use Rattle.serde_json.specs.Find.{get, as_number, as_str, as_array, as_object, as_u64, as_i64}
use Rattle.facet_names.specs.Faults.{path_fault}

infixl 10 ◌>>=◌
abbrev pub ◌>>=◌ : {A B : Type 0} → Option A → (A → Option B) → Option B
o >>= f = option_and_then f o

-- a value if a test passes
abbrev pub when : {A : Type 0} → Bool → A → Option A
when b x = if b then Some x else None

-- all of them, if each is there
abbrev pub all_some : {A : Type 0} → List (Option A) → Option (List A)
all_some [] = Some []
all_some (None ∷ os) = None
all_some (Some x ∷ os) = option_map (λ xs. x ∷ xs) (all_some os)

-- low ≤ n ≤ high
abbrev pub is_within : ℕ → ℕ → ℕ → Bool
is_within low high n = nat_le low n && nat_le n high

-- ---- values in their shapes

-- a text of so many bytes
abbrev pub text_within : ℕ → ℕ → Data → Option (List ℕ)
text_within low high d = do
  text ← as_str d
  when (is_within low high (length text)) text

-- a whole number: of 64 bits, without a fraction, an exponent or a sign
abbrev pub whole : Data → Option ℕ
whole d = option_and_then as_u64 (as_number d)

-- a whole number in these limits
abbrev pub whole_within : ℕ → ℕ → Data → Option ℕ
whole_within low high d = do
  n ← whole d
  when (is_within low high n) n

-- a whole number of 64 bits with a sign, without a fraction or an exponent; `-0` is none
abbrev pub signed : Data → Option ℤ
signed d = option_and_then as_i64 (as_number d)

abbrev pub items_list : Items → List Data
items_list no_items = []
items_list (item d ds) = d ∷ items_list ds

-- an array of values of one shape
abbrev pub list_of : {A : Type 0} → (Data → Option A) → Data → Option (List A)
list_of shape d = do
  items ← as_array d
  all_some (map shape (items_list items))

-- an array of so many values of one shape
abbrev pub list_within : {A : Type 0} → ℕ → ℕ → (Data → Option A) → Data → Option (List A)
list_within low high shape d = do
  items ← as_array d
  if is_within low high (length (items_list items)) then all_some (map shape (items_list items)) else None

-- the path of these components, if they are one
abbrev pub path_from : List (List ℕ) → Option (List (List ℕ))
path_from parts = when (is_none (path_fault parts)) parts

-- an array of texts that is a path
unfoldable pub path : Data → Option (List (List ℕ))
path d = do
  parts ← list_within 1 32 as_str d
  path_from parts

-- ---- keys

-- the value under a key that must be there
abbrev pub key : {A : Type 0} → List ℕ → (Data → Option A) → Data → Option A
key name shape d = option_and_then shape (get name d)

-- the value under a key, or the default if the key is not there
abbrev pub key_or : {A : Type 0} → List ℕ → A → (Data → Option A) → Data → Option A
key_or name default shape d = option_map_or shape (get name d) (Some default)

abbrev pub members_among : List (List ℕ) → Members → Bool
members_among names no_members = true
members_among names (member k d ms) = list_any (bytes_eq k) names && members_among names ms

-- an object with no other keys
abbrev pub keys_among : List (List ℕ) → Data → Bool
keys_among names d = option_map_or (members_among names) (as_object d) false
