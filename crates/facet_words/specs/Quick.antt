-- What is found in a line that adds a document, as its tokens are read one by one.
use Rattle.std.specs.Prelude.{◌≡◌, ℕ, ◌≤◌, ◌++◌, Bool, true, List, [], ◌∷◌, codes, Option, Some, None, option_map}
use Rattle.std.specs.Prelude.{if◌then◌else◌}
use Rattle.json.specs.Token.{Token}
use Rattle.json.specs.Json as json
use Rattle.json.specs.Tree.{json_tokens, members_tokens, depth, members_depth}
use Rattle.serde_json.specs.Data.{Data, Items, no_items, item, Members, no_members, unsigned, number, string, array}
use Rattle.serde_json.specs.Data.{put}
use Rattle.serde_json.specs.Find.{get_member}
use Rattle.serde_json.specs.Read.{of_json, of_members}
use Rattle.facet_words.specs.Shapes.{list_within, path, members_among}
use Rattle.facet_words.specs.declared.quick.found.Found.{Found}

abbrev pub add_names : List (List ℕ)
add_names = codes "cmd" ∷ codes "s" ∷ codes "id" ∷ codes "text" ∷ codes "facets" ∷ []

-- the items of an array of texts, as they are written, and as data
abbrev pub written_texts : List (List ℕ) → json.Items
written_texts [] = json.no_items
written_texts (t ∷ ts) = json.item (json.string t) (written_texts ts)

abbrev pub text_items : List (List ℕ) → Items
text_items [] = no_items
text_items (t ∷ ts) = item (string t) (text_items ts)

-- those of an array of arrays of texts
abbrev pub written_lists : List (List (List ℕ)) → json.Items
written_lists [] = json.no_items
written_lists (l ∷ ls) = json.item (json.array (written_texts l)) (written_lists ls)

abbrev pub list_items : List (List (List ℕ)) → Items
list_items [] = no_items
list_items (l ∷ ls) = item (array (text_items l)) (list_items ls)

-- these are the members' values under the keys that an add may have, and there is no other key
pub record IsFound (found : Members) (session : Option ℕ) (adds : Bool) (id text : Option (List ℕ))
    (labels : Option (List (List (List ℕ)))) : Type 0 where
  pub s_is : get_member (codes "s") found ≡ option_map (λ n. number (unsigned n)) session
  pub cmd_is : get_member (codes "cmd") found ≡ (if adds then Some (string (codes "add")) else None)
  pub id_is : get_member (codes "id") found ≡ option_map string id
  pub text_is : get_member (codes "text") found ≡ option_map string text
  pub facets_is : get_member (codes "facets") found ≡ option_map (λ ls. array (list_items ls)) labels
  pub paths : (ls : List (List (List ℕ))) → labels ≡ Some ls → list_within 0 256 path (array (list_items ls)) ≡ Some ls
  pub among : members_among add_names found ≡ true

abbrev pub HasFound : Members → Found → Type 0
HasFound ms f = IsFound ms f.session f.adds (option_map (λ s. s.now) f.id) (option_map (λ s. s.now) f.text)
    (option_map (λ v. v.items) f.facets)

-- the value of a key comes first among the tokens, and what was found has it
abbrev pub IsMember : List ℕ → List Token → List Token → Found → Found → Type 0
IsMember k old new f g = (j : json.Json) × (d : Data) × (old ≡ json_tokens j ++ new) × (of_json j ≡ Some d)
    × (depth j ≤ 2) × ((ms : Members) → HasFound ms f → HasFound (put k d ms) g)

-- members come first among the tokens, with the brace that closes them, and this was found in them
abbrev pub AreMembers : List Token → List Token → Found → Type 0
AreMembers old new f = (all : json.Members) × (ms : Members) × (old ≡ members_tokens all ++ new)
    × (members_depth all ≤ 2) × (of_members all no_members ≡ Some ms) × HasFound ms f
