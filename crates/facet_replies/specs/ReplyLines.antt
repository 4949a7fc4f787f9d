-- The lines that replies are written as.
use Rattle.std.specs.Prelude.{ℕ, ℤ, true, List, [], ◌∷◌, ◌++◌, codes, map, Option, Some, None}
use Rattle.serde_json.specs.Data.{Data, null, boolean, number, string, array, object, unsigned, no_items, item, Members}
use Rattle.serde_json.specs.Data.{no_members, put}
use Rattle.serde_json.specs.Find.{of_integer}
use Rattle.serde_json.specs.View.{items_of}
use Rattle.serde_json.specs.Written.{compact_text}
use Rattle.facet_model.specs.Accepts.{Broken, no_component, not_hierarchical, not_multi_valued}
use Rattle.facet_model.specs.Documents.{Doc}
use Rattle.facet_model.specs.Listing.{PartCount}
use Rattle.facet_model.specs.Results.{Listed, Answer, top_answer, value_answer, dims_answer}
use Rattle.facet_replies.specs.Replies.{Content, Hit}
use Rattle.facet_replies.specs.Replies.{Refusal, broken, labels_full, docs_full, not_held, held_already, top_zero}
use Rattle.facet_replies.specs.Replies.{dim_value_not_kept, no_such_document, disk_failed, closed, numbers_spent}
use Rattle.facet_replies.specs.Replies.{no_memory, Reply, placed, numbered, found, shown, stats, ranged, summed}
use Rattle.facet_replies.specs.Replies.{merged, refused}

-- keys with their values, in any order
abbrev pub Fields : Type 0
Fields = List (List ℕ × Data)

-- members, and then these keys, put in one after the other
abbrev pub with_fields : Members → Fields → Members
with_fields ms [] = ms
with_fields ms (f ∷ fs) = with_fields (put f.0 f.1 ms) fs

-- the members with these keys, in the order of the keys' bytes
abbrev pub members : Fields → Members
members fs = with_fields no_members fs

abbrev pub fields : Fields → Data
fields fs = object (members fs)

abbrev pub whole_data : ℕ → Data
whole_data n = number (unsigned n)

abbrev pub list_data : {A : Type 0} → (A → Data) → List A → Data
list_data data_of xs = array (items_of (map data_of xs))

abbrev pub path_data : List (List ℕ) → Data
path_data = list_data string

-- ---- answers

-- [component, count]
abbrev pub child_data : PartCount → Data
child_data c = array (item (string c.0) (item (whole_data c.1) no_items))

unfoldable pub listed_data : Listed → Data
listed_data r = fields ((codes "child_count", whole_data r.child_count)
    ∷ (codes "children", list_data child_data r.children) ∷ (codes "path", path_data r.path)
    ∷ (codes "value", number (of_integer r.value)) ∷ [])

unfoldable pub value_data : List (List ℕ) → ℤ → Data
value_data path value = fields ((codes "path", path_data path) ∷ (codes "value", number (of_integer value)) ∷ [])

unfoldable pub dims_data : List Listed → Data
dims_data rs = fields ((codes "dims", list_data listed_data rs) ∷ [])

abbrev pub answer_data : Answer → Data
answer_data (top_answer None) = null
answer_data (top_answer (Some r)) = listed_data r
answer_data (value_answer path value) = value_data path value
answer_data (dims_answer rs) = dims_data rs

-- the content that is shown of a hit
abbrev pub content_fields : Option Content → Fields
content_fields None = []
content_fields (Some c) = (codes "labels", list_data path_data c.labels) ∷ (codes "text", string c.text) ∷ []

-- a hit's place and its id, and its content if that is shown
unfoldable pub hit_data : Hit → Data
hit_data hit =
    fields ((codes "at", whole_data hit.at) ∷ (codes "id", string hit.id) ∷ content_fields hit.content)

-- [the range's name, the number of documents in it]
abbrev pub range_data : List ℕ × ℕ → Data
range_data r = array (item (string r.0) (item (whole_data r.1) no_items))

-- [component, sum]
abbrev pub sum_data : List ℕ × ℤ → Data
sum_data s = array (item (string s.0) (item (number (of_integer s.1)) no_items))

-- ---- replies

abbrev pub broken_fields : Broken → Fields
broken_fields (no_component facet) =
    (codes "refused", string (codes "no_component")) ∷ (codes "facet", whole_data facet) ∷ []
broken_fields (not_hierarchical facet len) = (codes "refused", string (codes "not_hierarchical"))
    ∷ (codes "facet", whole_data facet) ∷ (codes "len", whole_data len) ∷ []
broken_fields (not_multi_valued facet) =
    (codes "refused", string (codes "not_multi_valued")) ∷ (codes "facet", whole_data facet) ∷ []

abbrev pub refusal_fields : Refusal → Fields
refusal_fields (broken b) = broken_fields b
refusal_fields (labels_full size) =
    (codes "refused", string (codes "labels_full")) ∷ (codes "size", whole_data size) ∷ []
refusal_fields (docs_full count) =
    (codes "refused", string (codes "docs_full")) ∷ (codes "count", whole_data count) ∷ []
refusal_fields not_held = (codes "refused", string (codes "not_held")) ∷ []
refusal_fields held_already = (codes "refused", string (codes "held_already")) ∷ []
refusal_fields (top_zero ask) = (codes "refused", string (codes "top_zero")) ∷ (codes "ask", whole_data ask) ∷ []
refusal_fields (dim_value_not_kept ask) =
    (codes "refused", string (codes "dim_value_not_kept")) ∷ (codes "ask", whole_data ask) ∷ []
refusal_fields (no_such_document count) =
    (codes "refused", string (codes "no_such_document")) ∷ (codes "count", whole_data count) ∷ []
refusal_fields (disk_failed count) = (codes "refused", string (codes "disk")) ∷ (codes "count", whole_data count) ∷ []
refusal_fields (closed count) = (codes "refused", string (codes "closed")) ∷ (codes "count", whole_data count) ∷ []
refusal_fields (numbers_spent last) =
    (codes "refused", string (codes "numbers_spent")) ∷ (codes "number", whole_data last) ∷ []
refusal_fields no_memory = (codes "refused", string (codes "no_memory")) ∷ []

-- a document, with the ordinals of its labels
abbrev pub document_fields : Doc → List ℕ → Fields
document_fields doc ordinals = (codes "id", string doc.id) ∷ (codes "text", string doc.text)
    ∷ (codes "labels", list_data path_data doc.labels) ∷ (codes "ordinals", list_data whole_data ordinals) ∷ []

-- the fields of a reply, except its line and its session
abbrev pub reply_fields : Reply → Fields
reply_fields (placed at) = (codes "at", whole_data at) ∷ []
reply_fields (numbered n) = (codes "n", whole_data n) ∷ []
reply_fields (found f) = (codes "n", whole_data f.operations) ∷ (codes "hit_count", whole_data f.hit_count)
    ∷ (codes "hits", list_data hit_data f.hits) ∷ (codes "results", list_data answer_data f.answers) ∷ []
reply_fields (shown s) = (codes "n", whole_data s.operations) ∷ (codes "at", whole_data s.at)
    ∷ document_fields s.doc s.ordinals
reply_fields (stats s) = (codes "n", whole_data s.operations) ∷ (codes "labels", whole_data s.labels)
    ∷ (codes "documents", whole_data s.documents) ∷ []
reply_fields (ranged r) = (codes "n", whole_data r.operations) ∷ (codes "ranges", list_data range_data r.counts)
    ∷ (codes "valued", whole_data r.valued) ∷ []
reply_fields (summed s) = (codes "n", whole_data s.operations) ∷ (codes "sums", list_data sum_data s.sums) ∷ []
reply_fields merged = (codes "merged", boolean true) ∷ []
reply_fields (refused r) = refusal_fields r

unfoldable pub reply_data : ℕ → ℕ → Reply → Data
reply_data session line reply =
    fields ((codes "line", whole_data line) ∷ (codes "s", whole_data session) ∷ reply_fields reply)

-- one line of JSON
unfoldable pub json_line : Data → List ℕ
json_line d = compact_text d ++ 10 ∷ []

-- the line of a reply
unfoldable pub reply_line : ℕ → ℕ → Reply → List ℕ
reply_line session line reply = json_line (reply_data session line reply)
