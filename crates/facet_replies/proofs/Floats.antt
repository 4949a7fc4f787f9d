-- No reply and no fault has a float.
use Rattle.std.proofs.Common.{◌≡◌, ℕ, false, List, [], ◌∷◌, map, Option, Some, None, refl}
use Rattle.std.specs.Borrow.{Bor}
use Rattle.std.specs.Cmp.Lexicographic.{slice_cmp}
use Rattle.std.proofs.Common.{Ordering, Less, Equal, Greater}
use Rattle.std.specs.Ordering.{nat_cmp, match_ordering}
use Rattle.std.specs.Prelude.{ℤ, pos, negsuc, codes, drop}
use Rattle.hex.specs.Hex.{encode_lower}
use Rattle.serde_json.specs.Data.{Data, string, Members, no_members, member, put}
use Rattle.serde_json.specs.Find.{of_integer, is_float}
use Rattle.serde_json.specs.View.{items_of}
use Rattle.serde_json.specs.Written.{has_float, items_have_float, members_have_float}
use Rattle.facet_model.specs.Listing.{PartCount}
use Rattle.facet_model.specs.Results.{Listed, Answer, top_answer, value_answer, dims_answer}
use Rattle.facet_model.specs.Accepts.{no_component, not_hierarchical, not_multi_valued}
use Rattle.facet_replies.specs.Replies.{Content, Hit, broken, labels_full, docs_full, not_held, held_already, top_zero, dim_value_not_kept, no_such_document, disk_failed, closed, numbers_spent, no_memory, Reply, placed, numbered, found, shown, stats, ranged, summed, merged, refused}
use Rattle.facet_replies.specs.ReplyLines.{with_fields, whole_data, path_data, child_data, listed_data, value_data, dims_data, answer_data, hit_data, range_data, sum_data, reply_data}
use Rattle.facet_replies.specs.LastLine.{label_data, last_data}
use Rattle.facet_replies.specs.NamedFaults.{detail_field, named_fault_data}
use Rattle.facet_replies.specs.Summaries.{Summary, summary_data}
use Rattle.facet_replies.specs.declared.named_fault.Detail.{Detail}
use Rattle.facet_replies.specs.declared.named_fault.Detail.TheVariants.{Text, Number, Digest}
use Rattle.std.proofs.lemmas.Bool.{or_parts}

children_plain : (cs : List PartCount) → items_have_float (items_of (map child_data cs)) ≡ false
children_plain [] = refl
children_plain (c ∷ cs) = children_plain cs

path_plain : (ps : List (List ℕ)) → items_have_float (items_of (map string ps)) ≡ false
path_plain [] = refl
path_plain (p ∷ ps) = path_plain ps

integer_plain : (z : ℤ) → is_float (of_integer z) ≡ false
integer_plain (pos n) = refl
integer_plain (negsuc n) = refl

listed_plain : (r : Listed) → has_float (listed_data r) ≡ false
unfolding listed_data
listed_plain r = rw (children_plain r.children, path_plain r.path, integer_plain r.value) refl

value_plain : (path : List (List ℕ)) (value : ℤ) → has_float (value_data path value) ≡ false
unfolding value_data
value_plain path value = rw (path_plain path, integer_plain value) refl

all_plain : (rs : List Listed) → items_have_float (items_of (map listed_data rs)) ≡ false
all_plain [] = refl
all_plain (r ∷ rs) = rw (listed_plain r) (all_plain rs)

dims_plain : (rs : List Listed) → has_float (dims_data rs) ≡ false
unfolding dims_data
dims_plain rs = rw (all_plain rs) refl

answers_plain : (answers : List Answer) → items_have_float (items_of (map answer_data answers)) ≡ false
answers_plain [] = refl
answers_plain (top_answer None ∷ answers) = answers_plain answers
answers_plain (top_answer (Some r) ∷ answers) = rw (listed_plain r) (answers_plain answers)
answers_plain (value_answer path value ∷ answers) = rw (value_plain path value) (answers_plain answers)
answers_plain (dims_answer rs ∷ answers) = rw (dims_plain rs) (answers_plain answers)

paths_plain : (paths : List (List (List ℕ))) → items_have_float (items_of (map path_data paths)) ≡ false
paths_plain [] = refl
paths_plain (p ∷ ps) = rw (path_plain p) (paths_plain ps)

hit_plain : (at : ℕ) (id : List ℕ) (content : Option Content) → has_float (hit_data (record { at = at; id = id; content = content })) ≡ false
unfolding hit_data
hit_plain at id None = refl
hit_plain at id (Some c) = rw (paths_plain c.labels) refl

hits_plain : (hits : List Hit) → items_have_float (items_of (map hit_data hits)) ≡ false
hits_plain [] = refl
hits_plain (h ∷ hs) = rw (hit_plain h.at h.id h.content) (hits_plain hs)

wholes_plain : (ns : List ℕ) → items_have_float (items_of (map whole_data ns)) ≡ false
wholes_plain [] = refl
wholes_plain (n ∷ ns) = wholes_plain ns

ranges_plain : (counts : List (List ℕ × ℕ)) → items_have_float (items_of (map range_data counts)) ≡ false
ranges_plain [] = refl
ranges_plain (r ∷ rs) = ranges_plain rs

sums_plain : (sums : List (List ℕ × ℤ)) → items_have_float (items_of (map sum_data sums)) ≡ false
sums_plain [] = refl
sums_plain (s ∷ ss) = rw (integer_plain s.1) (sums_plain ss)

pub reply_plain : (session line : ℕ) (reply : Reply) → has_float (reply_data session line reply) ≡ false
unfolding reply_data
reply_plain session line (placed at) = refl
reply_plain session line (numbered n) = refl
reply_plain session line (found f) = rw (hits_plain f.hits, answers_plain f.answers) refl
reply_plain session line (shown s) = rw (paths_plain s.doc.labels, wholes_plain s.ordinals) refl
reply_plain session line (refused (broken (no_component facet))) = refl
reply_plain session line (refused (broken (not_hierarchical facet len))) = refl
reply_plain session line (refused (broken (not_multi_valued facet))) = refl
reply_plain session line (refused (labels_full size)) = refl
reply_plain session line (refused (docs_full count)) = refl
reply_plain session line (refused not_held) = refl
reply_plain session line (refused held_already) = refl
reply_plain session line (refused (top_zero ask)) = refl
reply_plain session line (refused (dim_value_not_kept ask)) = refl
reply_plain session line (refused (no_such_document count)) = refl
reply_plain session line (refused (disk_failed count)) = refl
reply_plain session line (refused (closed count)) = refl
reply_plain session line (refused (numbers_spent number)) = refl
reply_plain session line (refused no_memory) = refl
reply_plain session line (stats s) = refl
reply_plain session line (ranged r) = rw (ranges_plain r.counts) refl
reply_plain session line (summed s) = rw (sums_plain s.sums) refl
reply_plain session line merged = refl

pub summary_plain : (s : Summary) → has_float (summary_data s) ≡ false
unfolding summary_data
summary_plain s = rw (answers_plain s.results) refl

labels_plain : (labels paths : List (List (List ℕ))) → items_have_float (items_of (map (label_data labels) paths)) ≡ false
labels_plain labels [] = refl
labels_plain labels (p ∷ ps) = labels_plain labels ps

pub last_plain : (documents opened : ℕ) (labels : List (List (List ℕ))) (sessions : List ℕ) → has_float (last_data documents opened labels sessions) ≡ false
unfolding last_data
last_plain documents opened labels sessions = rw (labels_plain labels (drop opened labels), wholes_plain sessions) refl

-- ---- a fault with details

put_plain : (k : List ℕ) (d : Data) (ms : Members) → has_float d ≡ false → members_have_float ms ≡ false → members_have_float (put k d ms) ≡ false
put_plain k d no_members plain none = rw plain refl
put_plain k d (member l e ms) plain none =
    let parts = or_parts (has_float e) (members_have_float ms) none in
    by parts (put_plain k d ms plain parts.1) (slice_cmp nat_cmp k l)
  where
    by : (has_float e ≡ false) × (members_have_float ms ≡ false) → members_have_float (put k d ms) ≡ false → (o : Ordering)
        → members_have_float (match_ordering o (member k d (member l e ms)) (member l d ms) (member l e (put k d ms))) ≡ false
    by parts later Less = rw (plain, parts.0, parts.1) refl
    by parts later Equal = rw (plain, parts.1) refl
    by parts later Greater = rw (parts.0, later) refl

details_plain : (ms : Members) (details : List (Bor (List ℕ) × Detail)) → members_have_float ms ≡ false → members_have_float (with_fields ms (map detail_field details)) ≡ false
details_plain ms [] none = none
details_plain ms ((key, Text text) ∷ ds) none = details_plain (put key.now (string text.now) ms) ds (put_plain key.now (string text.now) ms refl none)
details_plain ms ((key, Number n) ∷ ds) none = details_plain (put key.now (whole_data n) ms) ds (put_plain key.now (whole_data n) ms refl none)
details_plain ms ((key, Digest digest) ∷ ds) none = details_plain (put key.now (string (encode_lower digest)) ms) ds (put_plain key.now (string (encode_lower digest)) ms refl none)

pub named_plain : (name : List ℕ) (details : List (Bor (List ℕ) × Detail)) → has_float (named_fault_data name (map detail_field details)) ≡ false
unfolding named_fault_data
named_plain name details = details_plain (member (codes "fault") (string name) no_members) details refl
