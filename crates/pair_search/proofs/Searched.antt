-- The answers, the hits and the refusals of a search.
use Rattle.std.proofs.Common.{◌≡◌, ℕ, suc, ◌+◌, ◌<◌, ◌≤◌, Bool, true, false, cond, List, [], ◌∷◌, ◌++◌, length, take, drop, reverse, map, get_or, slice_get, ◌-◌, Option, Some, None, option_map, Result, Ok, Err, refl, sym, ap, subst, ◌∙◌, arith}
use Rattle.std.specs.Prelude.{filter, filter_map, All}
use Rattle.std.specs.List.{AllZip, cons_option, enumerate_from}
use Rattle.std.proofs.lemmas.List.{take-map, take_more, drop-map, get_or-map, get_or-reverse, length-map, length-reverse}
use Rattle.std.proofs.lemmas.Option.{slice_get-get_or}
use Rattle.std.proofs.lemmas.List.Elements.{All-take, All-drop, All-from_recursion, All-weaker}
use Rattle.facet_model.specs.Asks.{Asked, AskFault, ask_fault, top_of_none, value_not_kept}
use Rattle.facet_model.specs.CountedPaths.{places}
use Rattle.facet_model.specs.Documents.{Doc}
use Rattle.facet_model.specs.Flags.{Config}
use Rattle.facet_model.specs.Stored.{Stored, Records, Decodes}
use Rattle.facet_output.specs.Replying.{IsFound, ask_refusal, first_refused}
use Rattle.facet_names.specs.Labels.{IsLabelList}
use Rattle.facet_replies.specs.Replies.{Hit}
use Rattle.facet_words.specs.Answers.{first_hits, hit_of, in_order}
use Rattle.facet_model.specs.Hits.{is_hit}
use Rattle.facet_model.specs.QueryViews.{query_view}
use Rattle.facet_words.specs.Commands.{Search}
use Rattle.chronicle.specs.History.{entries}
use Rattle.facet_names.proofs.LabelLists.{Labels}
use Rattle.facet_model.specs.Histories.{docs}
use Rattle.taxo_cache.specs.Seen.{labels_of}
use Rattle.pair_manager.specs.Kept.{DecodesTo}
use Rattle.pair_manager.specs.Published.{Published}
use Rattle.sideways.specs.declared.ask.SearchAsk.{SearchAsk}
use Rattle.seg_documents.proofs.Decoded.{decoded}
use Rattle.facet_output.specs.Replies.{Refusal, Reply, refused}
use Rattle.seg_terms.proofs.DocPlaces.{places_below}
use Rattle.sideways.proofs.LastHits.{reverse_map}
use Rattle.sideways.specs.Refusals as refusals
use Rattle.sideways.specs.declared.ask.AskRefused.{AskRefused}
use Rattle.sideways.specs.declared.ask.AskRefused.TheVariants.{NoMemory as Memory}
use Rattle.seg_documents.specs.Decoding.{doc_in, docs_in, records_in, record_at}
use Rattle.pair_search.specs.Searches.{IsFoundIn, IsShowable, refusal_as, search_view}
use Rattle.pair_search.proofs.Stored.{leaves_at}
use Rattle.std.proofs.lemmas.Slice.Zip.{all_zipped_more}

-- ---- answers

-- one ask more is answered
pub asks_more : {A B : Type 0} (R : A → B → Type 0) (asks : List A) (i : ℕ) (d : A) (found now : List B) (one : B) → i < length asks → now ≡ found ++ one ∷ [] → AllZip R (take i asks) found → R (get_or asks i d) one → AllZip R (take (i + 1) asks) now
asks_more R asks i d found now one lt pushed before here =
    subst (λ (l : List _). AllZip R (take (i + 1) asks) l) (sym pushed) (subst (λ (l : List _). AllZip R l (found ++ one ∷ [])) (sym (take_more asks i d lt)) (all_zipped_more R (take i asks) found (get_or asks i d) one before here))

-- ---- hits

all_reversed : {A : Type 0} (P : A → Type 0) (xs : List A) → All P xs → All P (reverse xs)
all_reversed P xs all k d lt =
    let within : k < length xs = omega (arith, lt, length-reverse xs) in
    subst P (sym (get_or-reverse xs k d within)) (all (length xs - 1 - k) d (omega (arith, within)))

all_ordered : {A : Type 0} (P : A → Type 0) (newest : Bool) (xs : List A) → All P xs → All P (in_order newest xs)
all_ordered P true xs all = all_reversed P xs all
all_ordered P false xs all = all

-- at each place there is a document
pub places_within : (passes : Doc → Bool) (docs : List Doc) (newest : Bool) (first limit n : ℕ) (found : List ℕ) → found ≡ take limit (drop first (in_order newest (places passes docs))) → length docs ≡ n → All (λ at. at < n) found
places_within passes docs newest first limit n found is size =
    subst (All (λ at. at < n)) (sym is)
    (All-take (λ at. at < n) limit (drop first (in_order newest (places passes docs)))
    (All-drop (λ at. at < n) first (in_order newest (places passes docs)) (all_ordered (λ at. at < n) newest (places passes docs) (All-from_recursion (λ at. at < n) (places passes docs) (places_below passes docs 0 n (omega (arith, size)))))))

-- the record at a place can be shown
showable : (config : Config) (view : Labels) (segments : List Records) (docs : List Doc) → IsLabelList view → Decodes view config segments docs → (at : ℕ) → at < length (records_in segments) → IsShowable view segments at
showable config view segments docs list decodes at lt = record {
  there = lt;
  leaves = leaves_at config view segments docs list decodes at (record_at segments at) (slice_get-get_or (records_in segments) at _ lt);
}

-- and so can each hit
pub all_showable : (config : Config) (view : Labels) (segments : List Records) (passes : Doc → Bool) (newest : Bool) (first limit : ℕ) (found : List ℕ) → IsLabelList view → Decodes view config segments (docs_in view segments)
    → found ≡ take limit (drop first (in_order newest (places passes (docs_in view segments)))) → All (IsShowable view segments) found
all_showable config view segments passes newest first limit found list decodes is =
    All-weaker (λ at. at < length (records_in segments)) (IsShowable view segments) (showable config view segments (docs_in view segments) list decodes) found
    (places_within passes (docs_in view segments) newest first limit (length (records_in segments)) found is (length-map (records_in segments) (doc_in view)))

map_twice : {A B C : Type 0} (f : B → C) (g : A → B) (xs : List A) → map f (map g xs) ≡ map (λ x. f (g x)) xs
map_twice f g [] = refl
map_twice f g (x ∷ xs) = ap (λ (l : List _). f (g x) ∷ l) (map_twice f g xs)

-- the hit at a place, given the documents at all places
abbrev pub hit_at : Bool → (ℕ → Doc) → ℕ → Hit
hit_at show doc_at at = hit_of show (at, doc_at at)

hits_from : (show : Bool) (doc_at : ℕ → Doc) (passes : Doc → Bool) (m : ℕ) (docs : List Doc) → ((k : ℕ) (d : Doc) → k < length docs → doc_at (m + k) ≡ get_or docs k d)
    → map (λ (e : ℕ × Doc). hit_at show doc_at e.0) (filter (λ e. passes e.1) (enumerate_from m docs)) ≡ map (hit_of show) (filter (λ e. passes e.1) (enumerate_from m docs))
hits_from show doc_at passes m [] is = refl
hits_from show doc_at passes m (x ∷ xs) is = by (passes x) (hits_from show doc_at passes (m + 1) xs (λ k d lt. let e : m + 1 + k ≡ m + suc k = omega arith in ap doc_at e ∙ is (suc k) d (omega arith)))
  where
    rest : List (ℕ × Doc)
    rest = filter (λ e. passes e.1) (enumerate_from (m + 1) xs)

    by : (b : Bool) → map (λ (e : ℕ × Doc). hit_at show doc_at e.0) rest ≡ map (hit_of show) rest → map (λ (e : ℕ × Doc). hit_at show doc_at e.0) (cond b ((m, x) ∷ rest) rest) ≡ map (hit_of show) (cond b ((m, x) ∷ rest) rest)
    by true more = let zero_more : m ≡ m + 0 = omega arith in let own : doc_at m ≡ x = ap doc_at zero_more ∙ is 0 x (omega arith) in λ i. hit_of show (m, own i) ∷ more i
    by false more = more

map_ordered : {A B : Type 0} (f : A → B) (newest : Bool) (xs : List A) → map f (in_order newest xs) ≡ in_order newest (map f xs)
map_ordered f true xs = sym (reverse_map f xs)
map_ordered f false xs = refl

-- the hits that are listed, with their documents
pub hits_are : (known : Labels) (segments : List Records) (passes : Doc → Bool) (show newest : Bool) (first limit : ℕ)
    → map (hit_at show (λ at. doc_in known (record_at segments at))) (take limit (drop first (in_order newest (places passes (docs_in known segments)))))
    ≡ take limit (drop first (in_order newest (map (hit_of show) (filter (λ e. passes e.1) (enumerate_from 0 (docs_in known segments))))))
hits_are known segments passes show newest first limit =
    sym (take-map hit limit (drop first ordered)) ∙ ap (take limit) (sym (drop-map hit first ordered))
    ∙ ap (λ (l : List Hit). take limit (drop first l))
    (map_ordered hit newest (places passes docs) ∙ ap (in_order newest) (map_twice hit (λ (e : ℕ × Doc). e.0) (filter (λ e. passes e.1) (enumerate_from 0 docs)) ∙ hits_from show doc_at passes 0 docs each))
  where
    docs : List Doc
    docs = docs_in known segments

    none : Stored
    none = record { id = []; text = []; leaves = []; counted = [] }

    doc_at : ℕ → Doc
    doc_at at = doc_in known (record_at segments at)

    hit : ℕ → Hit
    hit = hit_at show doc_at

    ordered : List ℕ
    ordered = in_order newest (places passes docs)

    each : (k : ℕ) (d : Doc) → k < length docs → doc_at (0 + k) ≡ get_or docs k d
    each k d lt = let e : 0 + k ≡ k = omega arith in ap doc_at e ∙ sym (get_or-map (doc_in known) (records_in segments) k none d (omega (arith, lt, length-map (records_in segments) (doc_in known))))

-- the same, by the view and the segments of the pair
pub listed_from : (known view : Labels) (segments own : List Records) (passes : Doc → Bool) (show newest : Bool) (first limit : ℕ) (found : List ℕ) (lines : List Hit) → known ≡ view → segments ≡ own
    → found ≡ take limit (drop first (in_order newest (places passes (docs_in known segments)))) → lines ≡ map (hit_at show (λ at. doc_in view (record_at own at))) found
    → lines ≡ take limit (drop first (in_order newest (map (hit_of show) (filter (λ e. passes e.1) (enumerate_from 0 (docs_in known segments))))))
listed_from known view segments own passes show newest first limit found lines of_view of_segments is made =
    made ∙ (λ i. map (hit_at show (λ at. doc_in (sym of_view i) (record_at (sym of_segments i) at))) found) ∙ ap (map (hit_at show (λ at. doc_in known (record_at segments at)))) is ∙ hits_are known segments passes show newest first limit

pub showable_from : (config : Config) (known view : Labels) (segments own : List Records) (passes : Doc → Bool) (newest : Bool) (first limit : ℕ) (found : List ℕ) → known ≡ view → segments ≡ own → IsLabelList view → Decodes known config segments (docs_in known segments)
    → found ≡ take limit (drop first (in_order newest (places passes (docs_in known segments)))) → All (IsShowable view own) found
showable_from config known view segments own passes newest first limit found of_view of_segments list decodes is =
    subst (λ (T : Type 0). T) (λ i. All (IsShowable (of_view i) (of_segments i)) found) (all_showable config known segments passes newest first limit found (subst IsLabelList (sym of_view) list) decodes is)

-- the lines of the hits that the ask lists
pub lines_made : (known view : Labels) (segments own : List Records) (asked ask : SearchAsk) (newest : Bool) (found : List ℕ) (lines : List Hit) → known ≡ view → segments ≡ own → asked ≡ ask → ask.newest ≡ newest
    → found ≡ take asked.hits (drop asked.from (in_order newest (places (is_hit (query_view asked.query) asked.drill) (docs_in known segments)))) → lines ≡ map (hit_at ask.show (λ at. doc_in view (record_at own at))) found
    → lines ≡ first_hits (docs_in known segments) (search_view asked)
lines_made known view segments own asked ask newest found lines of_view of_segments of_ask order is made =
    let passes = is_hit (query_view asked.query) asked.drill in
    let newest_is : newest ≡ asked.newest = sym order ∙ ap (λ (a : SearchAsk). a.newest) (sym of_ask) in
    let show_is : ask.show ≡ asked.show = ap (λ (a : SearchAsk). a.show) (sym of_ask) in
    listed_from known view segments own passes asked.show asked.newest asked.from asked.hits found lines of_view of_segments
    (is ∙ ap (λ b. take asked.hits (drop asked.from (in_order b (places passes (docs_in known segments))))) newest_is)
    (made ∙ ap (λ b. map (hit_at b (λ at. doc_in view (record_at own at))) found) show_is)

-- ---- refusals

-- why an ask is refused, with its place
abbrev pub refusal_at_place : ℕ × AskFault → Refusal
refusal_at_place r = ask_refusal r.0 r.1

-- a fault with its place
abbrev pub at_place : ℕ → AskFault → ℕ × AskFault
at_place at fault = (at, fault)

-- what is wrong with an ask, with its place
abbrev pub fault_at : Config → ℕ × Asked → Option (ℕ × AskFault)
fault_at config e = option_map (at_place e.0) (ask_fault config e.1)

one_refused : (at : ℕ) (o : Option AskFault) → option_map refusal_as (option_map (refusals.refused_ask at) o) ≡ option_map refusal_at_place (option_map (at_place at) o)
one_refused at None = refl
one_refused at (Some top_of_none) = refl
one_refused at (Some value_not_kept) = refl

first_refused_from : (config : Config) (n : ℕ) (asks : List Asked) → option_map refusal_as (slice_get (filter_map (refusals.refusal_at config) (enumerate_from n asks)) 0)
    ≡ option_map refusal_at_place (slice_get (filter_map (fault_at config) (enumerate_from n asks)) 0)
first_refused_from config n [] = refl
first_refused_from config n (a ∷ asks) = by (refusals.refusal_at config (n, a)) (fault_at config (n, a)) (one_refused n (ask_fault config a)) (first_refused_from config (n + 1) asks)
  where
    sideways_later : List AskRefused
    sideways_later = filter_map (refusals.refusal_at config) (enumerate_from (n + 1) asks)

    later : List (ℕ × AskFault)
    later = filter_map (fault_at config) (enumerate_from (n + 1) asks)

    by : (o : Option AskRefused) (r : Option (ℕ × AskFault)) → option_map refusal_as o ≡ option_map refusal_at_place r → option_map refusal_as (slice_get sideways_later 0) ≡ option_map refusal_at_place (slice_get later 0)
        → option_map refusal_as (slice_get (cons_option o sideways_later) 0) ≡ option_map refusal_at_place (slice_get (cons_option r later) 0)
    by None None e rest = rest
    by None (Some r) e rest = absurd cc
    by (Some x) None e rest = absurd cc
    by (Some x) (Some r) e rest = e

-- the first ask that is refused is the same
pub first_refused_as : (config : Config) (asks : List Asked) → option_map refusal_as (refusals.first_refused config asks) ≡ option_map refusal_at_place (first_refused config asks)
first_refused_as config asks = first_refused_from config 0 asks

-- no ask is refused where none is for sideways
pub none_found : (o : Option AskRefused) (r : Option (ℕ × AskFault)) → option_map refusal_as o ≡ option_map refusal_at_place r → o ≡ None → r ≡ None
none_found None None e is = refl
none_found None (Some r) e is = absurd cc
none_found (Some x) r e is = absurd cc

-- what was answered in place of a plan is the refusal of the first ask that is refused
pub refused_found : {X : Type 0} (config : Config) (n : ℕ) (docs : List Doc) (s : Search) (o : Option AskRefused) (r : Option (ℕ × AskFault)) (e : AskRefused) (result : Result X AskRefused) → option_map refusal_as o ≡ option_map refusal_at_place r → result ≡ Err e
    → ((x : AskRefused) → o ≡ Some x → result ≡ Err x) → (o ≡ None → e ≡ Memory) → (e ≡ Memory → ⊥) → IsFound config s r n docs (refused (refusal_as e))
refused_found config n docs s None r e result alike is first none other = absurd (other (none refl))
refused_found config n docs s (Some x) None e result alike is first none other = absurd cc
refused_found config n docs s (Some x) (Some r) e result alike is first none other =
    let at : e ≡ x = err-injective e x (sym is ∙ first x refl) in let same : refusal_as x ≡ refusal_at_place r = cc in ap refused (ap refusal_as at ∙ same)
  where
    err-injective : {X : Type 0} (a b : AskRefused) → (let x : Result X AskRefused = Err a in x) ≡ Err b → a ≡ b
    err-injective a b e = cc

-- where there is a plan no ask is refused
pub none_refused : {X : Type 0} (o : Option AskRefused) (x : X) (result : Result X AskRefused) → result ≡ Ok x → ((r : AskRefused) → o ≡ Some r → result ≡ Err r) → o ≡ None
none_refused None x result is first = refl
none_refused (Some r) x result is first = absurd (apart x r (sym is ∙ first r refl))
  where
    apart : {X : Type 0} (x : X) (r : AskRefused) → (let y : Result X AskRefused = Ok x in y) ≡ Err r → ⊥
    apart x r e = cc

-- ---- a pair

-- its segments can be searched
pub searchable : (pair : Published) (view : Labels) (config : Config) (segments : List Records) → view ≡ labels_of pair.labels.seen → config ≡ pair.config → segments ≡ pair.segments → DecodesTo pair.labels pair.config pair.segments pair.history
    → length (records_in pair.segments) ≤ 1000000 → (ds : List Doc) × Decodes view config segments ds × (length ds ≤ 1000000)
searchable pair view config segments of_view of_config of_segments decodes few =
    let all = docs (entries pair.history.seen) in
    let size : length (docs_in (labels_of pair.labels.seen) pair.segments) ≡ length all = ap length (decoded (labels_of pair.labels.seen) pair.config pair.segments all decodes) in
    (all, subst (λ (T : Type 0). T) (λ i. Decodes (sym of_view i) (sym of_config i) (sym of_segments i) all) decodes, omega (arith, few, size, length-map (records_in pair.segments) (doc_in (labels_of pair.labels.seen))))

-- what was found in the segments was found in the pair
pub found_in : (pair : Published) (view : Labels) (config : Config) (segments : List Records) (ask : SearchAsk) (n : ℕ) (reply : Reply) → view ≡ labels_of pair.labels.seen → config ≡ pair.config → segments ≡ pair.segments
    → DecodesTo pair.labels pair.config pair.segments pair.history → n ≡ length pair.history.seen → first_refused config (search_view ask).asks ≡ None → IsFound config (search_view ask) None n (docs_in view segments) reply → IsFoundIn pair (search_view ask) reply
found_in pair view config segments ask n reply of_view of_config of_segments decodes many none found =
    let all = docs (entries pair.history.seen) in
    let docs_are : docs_in view segments ≡ all = (λ i. docs_in (of_view i) (of_segments i)) ∙ decoded (labels_of pair.labels.seen) pair.config pair.segments all decodes in
    let refusal : None ≡ first_refused pair.config (search_view ask).asks = sym none ∙ ap (λ (c : Config). first_refused c (search_view ask).asks) of_config in
    subst (λ (T : Type 0). T) (λ i. IsFound (of_config i) (search_view ask) (refusal i) (many i) (docs_are i) reply) found
