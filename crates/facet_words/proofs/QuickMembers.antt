-- What is found under each key of a line that adds a document, and the order that it is.
use Rattle.std.proofs.Common.{◌≡◌, ℕ, ◌≤◌, Bool, true, false, List, [], ◌∷◌, ◌++◌, Option, Some, None, refl, sym, ap, ◌∙◌, arith, append_assoc, subst}
use Rattle.std.specs.Prelude.{codes, option_and_then}
use Rattle.std.specs.List.{list_any}
use Rattle.std.specs.Str.{bytes_eq}
use Rattle.std.specs.Ordering.{nat_cmp, match_ordering}
use Rattle.std.specs.Cmp.Lexicographic.{slice_cmp}
use Rattle.std.specs.declared.cmp.Ordering.{Ordering}
use Rattle.std.specs.declared.cmp.Ordering.TheVariants.{Less, Equal, Greater}
use Rattle.std.proofs.lemmas.Bool.{and_parts}
use Rattle.json.specs.Token.{Token}
use Rattle.json.specs.Json as json
use Rattle.json.specs.Json.{read_key}
use Rattle.json.specs.Tree.{json_tokens, members_tokens, members_depth}
use Rattle.serde_json.specs.Data.{Data, Members, no_members, member, unsigned, number, string, array, put}
use Rattle.serde_json.specs.Read.{of_members}
use Rattle.serde_json.proofs.Views.{get_member-put, get_member-put_other}
use Rattle.facet_words.specs.Shapes.{list_within, path, members_among}
use Rattle.facet_words.specs.Quick.{IsFound, HasFound, IsMember, AreMembers, add_names, list_items}
use Rattle.facet_words.specs.declared.quick.found.Found.{Found}

-- a key among the names more
among_put : (names : List (List ℕ)) (k : List ℕ) (d : Data) (ms : Members) → list_any (bytes_eq k) names ≡ true → members_among names ms ≡ true → members_among names (put k d ms) ≡ true
among_put names k d no_members own all = rw own refl
among_put names k d (member l e ms) own all = by (slice_cmp nat_cmp k l) (among_put names k d ms own (and_parts (list_any (bytes_eq l) names) (members_among names ms) all).1)
  where
    by : (o : Ordering) → members_among names (put k d ms) ≡ true → members_among names (match_ordering o (member k d (member l e ms)) (member l d ms) (member l e (put k d ms))) ≡ true
    by Less rest = rw own all
    by Equal rest = all
    by Greater rest = rw ((and_parts (list_any (bytes_eq l) names) (members_among names ms) all).0) rest

module _ (ms : Members) (session : Option ℕ) (adds : Bool) (id text : Option (List ℕ)) (labels : Option (List (List (List ℕ)))) (is : IsFound ms session adds id text labels) where
  pub session_found : (n : ℕ) → IsFound (put (codes "s") (number (unsigned n)) ms) (Some n) adds id text labels
  session_found n = record {
    s_is = get_member-put (codes "s") (number (unsigned n)) ms;
    cmd_is = get_member-put_other (codes "cmd") (codes "s") (number (unsigned n)) ms (λ e. absurd cc) ∙ is.cmd_is;
    id_is = get_member-put_other (codes "id") (codes "s") (number (unsigned n)) ms (λ e. absurd cc) ∙ is.id_is;
    text_is = get_member-put_other (codes "text") (codes "s") (number (unsigned n)) ms (λ e. absurd cc) ∙ is.text_is;
    facets_is = get_member-put_other (codes "facets") (codes "s") (number (unsigned n)) ms (λ e. absurd cc) ∙ is.facets_is;
    paths = is.paths;
    among = among_put add_names (codes "s") (number (unsigned n)) ms refl is.among;
  }

  pub add_found : IsFound (put (codes "cmd") (string (codes "add")) ms) session true id text labels
  add_found = record {
    s_is = get_member-put_other (codes "s") (codes "cmd") (string (codes "add")) ms (λ e. absurd cc) ∙ is.s_is;
    cmd_is = get_member-put (codes "cmd") (string (codes "add")) ms;
    id_is = get_member-put_other (codes "id") (codes "cmd") (string (codes "add")) ms (λ e. absurd cc) ∙ is.id_is;
    text_is = get_member-put_other (codes "text") (codes "cmd") (string (codes "add")) ms (λ e. absurd cc) ∙ is.text_is;
    facets_is = get_member-put_other (codes "facets") (codes "cmd") (string (codes "add")) ms (λ e. absurd cc) ∙ is.facets_is;
    paths = is.paths;
    among = among_put add_names (codes "cmd") (string (codes "add")) ms refl is.among;
  }

  pub id_found : (t : List ℕ) → IsFound (put (codes "id") (string t) ms) session adds (Some t) text labels
  id_found t = record {
    s_is = get_member-put_other (codes "s") (codes "id") (string t) ms (λ e. absurd cc) ∙ is.s_is;
    cmd_is = get_member-put_other (codes "cmd") (codes "id") (string t) ms (λ e. absurd cc) ∙ is.cmd_is;
    id_is = get_member-put (codes "id") (string t) ms;
    text_is = get_member-put_other (codes "text") (codes "id") (string t) ms (λ e. absurd cc) ∙ is.text_is;
    facets_is = get_member-put_other (codes "facets") (codes "id") (string t) ms (λ e. absurd cc) ∙ is.facets_is;
    paths = is.paths;
    among = among_put add_names (codes "id") (string t) ms refl is.among;
  }

  pub text_found : (t : List ℕ) → IsFound (put (codes "text") (string t) ms) session adds id (Some t) labels
  text_found t = record {
    s_is = get_member-put_other (codes "s") (codes "text") (string t) ms (λ e. absurd cc) ∙ is.s_is;
    cmd_is = get_member-put_other (codes "cmd") (codes "text") (string t) ms (λ e. absurd cc) ∙ is.cmd_is;
    id_is = get_member-put_other (codes "id") (codes "text") (string t) ms (λ e. absurd cc) ∙ is.id_is;
    text_is = get_member-put (codes "text") (string t) ms;
    facets_is = get_member-put_other (codes "facets") (codes "text") (string t) ms (λ e. absurd cc) ∙ is.facets_is;
    paths = is.paths;
    among = among_put add_names (codes "text") (string t) ms refl is.among;
  }

  pub facets_found : (ls : List (List (List ℕ))) → list_within 0 256 path (array (list_items ls)) ≡ Some ls → IsFound (put (codes "facets") (array (list_items ls)) ms) session adds id text (Some ls)
  facets_found ls fits = record {
    s_is = get_member-put_other (codes "s") (codes "facets") (array (list_items ls)) ms (λ e. absurd cc) ∙ is.s_is;
    cmd_is = get_member-put_other (codes "cmd") (codes "facets") (array (list_items ls)) ms (λ e. absurd cc) ∙ is.cmd_is;
    id_is = get_member-put_other (codes "id") (codes "facets") (array (list_items ls)) ms (λ e. absurd cc) ∙ is.id_is;
    text_is = get_member-put_other (codes "text") (codes "facets") (array (list_items ls)) ms (λ e. absurd cc) ∙ is.text_is;
    facets_is = get_member-put (codes "facets") (array (list_items ls)) ms;
    paths = λ ks e. let same : ls ≡ ks = cc in subst (λ (xs : List (List (List ℕ))). list_within 0 256 path (array (list_items xs)) ≡ Some xs) same fits;
    among = among_put add_names (codes "facets") (array (list_items ls)) ms refl is.among;
  }

pub none_found : IsFound no_members None false None None None
none_found = record { s_is = refl; cmd_is = refl; id_is = refl; text_is = refl; facets_is = refl; paths = λ ls e. absurd cc; among = refl }

-- ---- member by member

the_key : Option (Option (List ℕ) × List Token) → Option (List ℕ)
the_key None = None
the_key (Some p) = p.0

behind : Option (Option (List ℕ) × List Token) → List Token
behind None = []
behind (Some p) = p.1

pub key_first : (ts rest : List Token) (k : List ℕ) → read_key ts ≡ Some (Some k, rest) → ts ≡ Token.key k ∷ rest
unfolding the_key behind
key_first [] rest k e = absurd cc
key_first (Token.begin_object ∷ ts) rest k e = absurd cc
key_first (Token.end_object ∷ ts) rest k e = let none : None ≡ Some k = ap the_key e in absurd cc
key_first (Token.begin_array ∷ ts) rest k e = absurd cc
key_first (Token.end_array ∷ ts) rest k e = absurd cc
key_first (Token.key s ∷ ts) rest k e = let keys : Some s ≡ Some k = ap the_key e in let key : s ≡ k = cc in let same : ts ≡ rest = ap behind e in λ i. Token.key (key i) ∷ same i
key_first (Token.string s ∷ ts) rest k e = absurd cc
key_first (Token.number s ∷ ts) rest k e = absurd cc
key_first (Token.boolean b ∷ ts) rest k e = absurd cc
key_first (Token.null ∷ ts) rest k e = absurd cc
key_first (Token.bad ∷ ts) rest k e = absurd cc

pub brace_first : (ts rest : List Token) → read_key ts ≡ Some (None, rest) → ts ≡ Token.end_object ∷ rest
unfolding the_key behind
brace_first [] rest e = absurd cc
brace_first (Token.begin_object ∷ ts) rest e = absurd cc
brace_first (Token.end_object ∷ ts) rest e = let same : ts ≡ rest = ap behind e in ap (λ (us : List Token). Token.end_object ∷ us) same
brace_first (Token.begin_array ∷ ts) rest e = absurd cc
brace_first (Token.end_array ∷ ts) rest e = absurd cc
brace_first (Token.key s ∷ ts) rest e = let keys : Some s ≡ None = ap the_key e in absurd cc
brace_first (Token.string s ∷ ts) rest e = absurd cc
brace_first (Token.number s ∷ ts) rest e = absurd cc
brace_first (Token.boolean b ∷ ts) rest e = absurd cc
brace_first (Token.null ∷ ts) rest e = absurd cc
brace_first (Token.bad ∷ ts) rest e = absurd cc

-- what was read of the members and what is still to come, whatever that is
abbrev pub Continues : List Token → List Token → Members → Type 0
Continues start now ms = (rest : json.Members) (tail : List Token) (d : Members) → now ≡ members_tokens rest ++ tail → members_depth rest ≤ 2 → of_members rest ms ≡ Some d
    → (all : json.Members) × (start ≡ members_tokens all ++ tail) × (members_depth all ≤ 2) × (of_members all no_members ≡ Some d)

abbrev pub IsRead : List Token → List Token → Found → Type 0
IsRead start now f = (ms : Members) × HasFound ms f × Continues start now ms

pub begins_read : (start : List Token) → Continues start start no_members
begins_read start rest tail d e low of = (rest, e, low, of)

-- one member more
pub member_read : (start now after new : List Token) (k : List ℕ) (f g : Found) → read_key now ≡ Some (Some k, after) → IsMember k after new f g → IsRead start now f → IsRead start new g
member_read start now after new k f g is one so =
    let j = one.0 in
    let dj = one.1 in
    let first : now ≡ Token.key k ∷ (json_tokens j ++ new) = key_first now after k is ∙ ap (λ (ts : List Token). Token.key k ∷ ts) one.2 in (
      put k dj so.0,
      one.5 so.0 so.1,
      λ rest tail d e low of.
          so.2 (json.member k j rest) tail d
          (first ∙ ap (λ (ts : List Token). Token.key k ∷ (json_tokens j ++ ts)) e ∙ ap (λ (ts : List Token). Token.key k ∷ ts) (sym (append_assoc (json_tokens j) (members_tokens rest) tail)))
          (let a = one.4 in omega arith)
          (ap (option_and_then (λ (x : Data). of_members rest (put k x so.0))) one.3 ∙ of),
    )

-- all members were read
pub members_read : (start now new : List Token) (f : Found) → read_key now ≡ Some (None, new) → IsRead start now f → AreMembers start new f
members_read start now new f is so =
    let a = so.2 json.no_members new so.0 (brace_first now new is) (omega arith) refl in
    (a.0, so.0, a.1, a.2, a.3, so.1)
