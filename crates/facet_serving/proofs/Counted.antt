-- How many orders a script has at most: by its bytes, and by the documents that are generated.
use Rattle.std.proofs.Common.{◌≡◌, ℕ, suc, ◌+◌, ◌*◌, ◌≤◌, eqb, Bool, true, false, cond, List, [], ◌∷◌, length, map, Option, Some, None, Ok, subst, arith, length-append}
use Rattle.std.specs.Prelude.{◌==◌, if◌then◌else◌, filter, flat_map}
use Rattle.std.specs.List.{enumerate_from, range_with_len}
use Rattle.std.proofs.lemmas.List.{length-map}
use Rattle.std.proofs.lemmas.List.FromFn.{length-map-range_with_len}
use Rattle.std.proofs.lemmas.Nat.{row_fits}
use Rattle.std.proofs.Math.Nat.{le_trans}
use Rattle.facet_output.specs.Answered.{by_session, in_writing_order}
use Rattle.facet_words.specs.Lines.{lines_of, onto_first}
use Rattle.facet_words.specs.Scripts.{◌>>=◌, config_at, Phases, before, line_at, phases_from, phases_of, script, script_of}
use Rattle.facet_words.specs.Commands.{Order, Script}
use Rattle.facet_words.specs.ScriptOrder.{orders_in}
use Rattle.generator.specs.Generated.{add_order, closing_orders, generated, generated_phases}
use Rattle.facet_serving.specs.Acknowledged.{HaveFewOrders}
use Rattle.facet_words.proofs.Rising.{first_then, of_ok}

-- ---- lines

onto_few : (b : ℕ) (ls : List (List ℕ)) → length (onto_first b ls) ≤ length ls + 1
onto_few b [] = omega arith
onto_few b (l ∷ ls) = omega arith

onto_none : (b : ℕ) (ls : List (List ℕ)) (n : ℕ) → length ls ≤ n → length (onto_first b ls) ≤ suc n
onto_none b ls n le = let l = onto_few b ls in omega arith

lines_few : (bytes : List ℕ) → length (lines_of bytes) ≤ length bytes
lines_few [] = omega arith
lines_few (b ∷ bs) = by (eqb b 10) (lines_few bs)
  where
    by : (c : Bool) → length (lines_of bs) ≤ length bs → length (if c then [] ∷ lines_of bs else onto_first b (lines_of bs)) ≤ suc (length bs)
    by true le = omega arith
    by false le = onto_none b (lines_of bs) (length bs) le

-- ---- orders

abbrev many_in : Phases → ℕ
many_in p = length p.0 + length (orders_in p.1)

before_few : (o : Option Order) (p : Phases) → many_in (before o p) ≤ many_in p + 1
before_few (Some o) p = omega arith
before_few None p = let e = length-append p.0 (orders_in p.1) in omega arith

phases_few : (line : ℕ) (ls : List (List ℕ)) (p : Phases) → phases_from line ls ≡ Ok p → many_in p ≤ length ls
phases_few line [] p is = let same : ([], []) ≡ p = of_ok is in subst (λ (q : Phases). length q.0 + length (orders_in q.1) ≤ 0) same (omega arith)
phases_few line (l ∷ ls) p is =
    let t = first_then (line_at line l) (λ order. phases_from (line + 1) ls >>= (λ phases. Ok (before order phases))) p is in
    let u = first_then (phases_from (line + 1) ls) (λ phases. Ok (before t.0 phases)) p t.2 in
    let rest = phases_few (line + 1) ls u.0 u.1 in
    let few = before_few t.0 u.0 in
    subst (λ (q : Phases). length q.0 + length (orders_in q.1) ≤ suc (length ls)) (of_ok u.2) (omega arith)

of_lines : (ls : List (List ℕ)) (s : Script) → script_of ls ≡ Ok s → length (orders_in s.phases) ≤ length ls
of_lines [] s is = absurd cc
of_lines (l ∷ ls) s is =
    let t = first_then (config_at l) (λ settings. phases_of ls >>= (λ phases. Ok (record { settings = settings; phases = phases }))) s is in
    let u = first_then (phases_of ls) (λ phases. Ok (record { settings = t.0; phases = phases })) s t.2 in
    let v = first_then (phases_from 2 ls) (λ phases. Ok (phases.0 ∷ phases.1)) u.0 u.1 in
    let few = phases_few 2 ls v.0 v.1 in
    let e = length-append v.0.0 (orders_in v.0.1) in
    subst (λ (q : Script). length (orders_in q.phases) ≤ suc (length ls)) (of_ok u.2)
    (subst (λ (ps : List (List Order)). length (orders_in ps) ≤ suc (length ls)) (of_ok v.2) (omega arith))

orders_few : (input : List ℕ) (s : Script) → script input ≡ Ok s → length (orders_in s.phases) ≤ length input
unfolding script
orders_few input s is = let l = lines_few input in let m = of_lines (lines_of input) s is in omega arith

-- the adds, and four orders behind them
generated_orders : (documents sessions : ℕ) → length (orders_in (generated_phases documents sessions)) ≡ documents + 4
unfolding generated_phases closing_orders
generated_orders documents sessions =
    let adds : List Order = map (add_order sessions) (range_with_len 0 documents) in
    let size : length adds ≡ documents = length-map-range_with_len (add_order sessions) 0 documents in
    let both = length-append adds (orders_in (closing_orders (documents + 3) ∷ [])) in
    omega (arith, size, both)

-- ---- both kinds of script

few_with : (n documents : ℕ) → n ≡ documents + 4 → documents ≤ 1000000 → n ≤ 67108864
few_with n documents is le = omega (arith, is, le)

pub have_few : HaveFewOrders
have_few = (
  λ input s is fits. le_trans (orders_few input s is) fits,
  λ documents sessions le. few_with (length (orders_in (generated documents sessions).phases)) documents (generated_orders documents sessions) le,
)

-- ---- the order of writing

filter_few : (p : Order → Bool) (xs : List Order) → length (filter p xs) ≤ length xs
filter_few p [] = omega arith
filter_few p (x ∷ xs) = by (p x) (filter_few p xs)
  where
    by : (b : Bool) → length (filter p xs) ≤ length xs → length (cond b (x ∷ filter p xs) (filter p xs)) ≤ suc (length xs)
    by true le = omega arith
    by false le = omega arith

by_few : (orders : List Order) (sessions : List ℕ) → length (flat_map (λ session. filter (λ o. o.session == session) orders) sessions) ≤ length sessions * length orders
by_few orders [] = omega arith
by_few orders (session ∷ sessions) =
    let own : List Order = filter (λ o. o.session == session) orders in
    let rest : List Order = flat_map (λ session. filter (λ o. o.session == session) orders) sessions in
    let one = filter_few (λ o. o.session == session) orders in
    let more = by_few orders sessions in
    let both = length-append own rest in
    let row = row_fits (length sessions) (length orders) (suc (length sessions)) (length orders) (omega arith) (omega arith) in
    omega arith

session_few : (orders : List Order) → length (by_session orders) ≤ 64 * length orders
session_few orders = by_few orders (range_with_len 1 64)

from_few : (n : ℕ) (phases : List (List Order)) → length (flat_map (λ e. map {B = ℕ × Order} (λ o. (e.0, o)) (by_session e.1)) (enumerate_from n phases)) ≤ 64 * length (orders_in phases)
from_few n [] = omega arith
from_few n (orders ∷ phases) =
    let here : List (ℕ × Order) = map {B = ℕ × Order} (λ o. (n, o)) (by_session orders) in
    let there : List (ℕ × Order) = flat_map (λ e. map {B = ℕ × Order} (λ o. (e.0, o)) (by_session e.1)) (enumerate_from (n + 1) phases) in
    let one = session_few orders in
    let size : length here ≡ length (by_session orders) = length-map (by_session orders) (λ o. (n, o)) in
    let more = from_few (n + 1) phases in
    let both = length-append here there in
    let all = length-append orders (orders_in phases) in
    omega arith

-- each order is written once, of each session
pub written_few : (phases : List (List Order)) → length (in_writing_order phases) ≤ 64 * length (orders_in phases)
written_few phases = from_few 0 phases
