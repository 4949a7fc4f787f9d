-- The items of all lines.
use Rattle.std.proofs.Common.{◌≡◌, ◌∙◌, ◌+◌, ℕ, Bool, true, List, [], ◌∷◌, ◌++◌, length, Option, Some, None, refl, sym, ap, subst, arith, append_assoc, append-nil}
use Rattle.std.specs.Prelude.{option_map}
use Rattle.std.proofs.lemmas.Grind.{flat_map-append}
use Rattle.std.proofs.lemmas.List.{map-append}
use Rattle.facet_words.specs.Commands.{Order}
use Rattle.facet_words.specs.ScriptOrder.{orders_in, AreInOrder}
use Rattle.live_lines.specs.Lines.{live_line}
use Rattle.live_lines.specs.Items.{Item, Open, Reading, step, item_list, items_from, last_item, first_reading, live_items, open_orders, are_before}
use Rattle.live_lines.specs.ItemLaws.{phases_in, ItemsAreComposed, LinesAreNumbered, ItemsAreInOrder}
use Rattle.live_lines.proofs.Lines.{order_at}
use Rattle.live_lines.proofs.Orders.{in_order, both_before}
use Rattle.live_lines.proofs.Steps.{given_orders, step_before}

-- ---- one list of lines after the other

pub composed : ItemsAreComposed
composed only_reads r [] ms = refl
composed only_reads r (l ∷ ls) ms =
    let s = step only_reads r l in
    let t = items_from only_reads s.1 ls in
    let u = items_from only_reads t.1 ms in
    ap (λ (v : List Item × Reading). (item_list s.0 ++ v.0, v.1)) (composed only_reads s.1 ls ms)
    ∙ ap (λ (items : List Item). (items, u.1)) (sym (append_assoc (item_list s.0) t.0 u.0))

-- these lines, and then one more
pub line_more : (only_reads : Bool) (r : Reading) (ls : List (List ℕ)) (l : List ℕ)
    → items_from only_reads r (ls ++ l ∷ []) ≡ (let s = items_from only_reads r ls in let t = step only_reads s.1 l in (s.0 ++ item_list t.0, t.1))
line_more only_reads r ls l =
    let s = items_from only_reads r ls in
    let t = step only_reads s.1 l in
    composed only_reads r ls (l ∷ []) ∙ ap (λ (items : List Item). (s.0 ++ items, t.1)) (append-nil (item_list t.0))

next_is : (only_reads : Bool) (r : Reading) (l : List ℕ) → (step only_reads r l).1.next ≡ r.next + 1
unfolding step
next_is only_reads r l = refl

pub numbered : LinesAreNumbered
numbered only_reads r [] = omega arith
numbered only_reads r (l ∷ ls) =
    let rest = numbered only_reads (step only_reads r l).1 ls in
    let first = next_is only_reads r l in
    omega (arith, rest, first)

-- ---- the orders

-- those of the whole items, and of the open group
abbrev all_orders : List Item → Option Open → List Order
all_orders items g = orders_in (phases_in items) ++ open_orders g

orders_so : (o : Option Item) (items : List Item) → orders_in (phases_in (item_list o ++ items)) ≡ given_orders o ++ orders_in (phases_in items)
orders_so None items = refl
orders_so (Some i) items = refl

one_line : (only_reads : Bool) (r : Reading) (l : List ℕ) (done : List Order) → are_before r.next (done ++ open_orders r.open_group) ≡ true
    → are_before (r.next + 1) (done ++ (given_orders (step only_reads r l).0 ++ open_orders (step only_reads r l).1.open_group)) ≡ true
unfolding step
one_line only_reads r l done before = step_before r.next (length l) done (live_line only_reads r.next l) r.open_group (order_at only_reads r.next l) before

all_before : (only_reads : Bool) (r : Reading) (ls : List (List ℕ)) (done : List Order) → are_before r.next (done ++ open_orders r.open_group) ≡ true
    → are_before (items_from only_reads r ls).1.next (done ++ all_orders (items_from only_reads r ls).0 (items_from only_reads r ls).1.open_group) ≡ true
all_before only_reads r [] done before = before
all_before only_reads r (l ∷ ls) done before =
    let s = step only_reads r l in
    let t = items_from only_reads s.1 ls in
    let given = given_orders s.0 in
    let own = open_orders s.1.open_group in
    let rest = all_orders t.0 t.1.open_group in
    let first : are_before s.1.next (done ++ (given ++ own)) ≡ true = subst (λ (n : ℕ). are_before n (done ++ (given ++ own)) ≡ true) (sym (next_is only_reads r l)) (one_line only_reads r l done before) in
    let then : are_before t.1.next ((done ++ given) ++ rest) ≡ true = all_before only_reads s.1 ls (done ++ given) (subst (λ (os : List Order). are_before s.1.next os ≡ true) (sym (append_assoc done given own)) first) in
    let same : (done ++ given) ++ rest ≡ done ++ all_orders (item_list s.0 ++ t.0) t.1.open_group =
    append_assoc done given rest ∙ ap (λ (os : List Order). done ++ os) (sym (append_assoc given (orders_in (phases_in t.0)) (open_orders t.1.open_group)) ∙ ap (λ (os : List Order). os ++ open_orders t.1.open_group) (sym (orders_so s.0 t.0))) in
    subst (λ (os : List Order). are_before t.1.next os ≡ true) same then

last_orders : (items : List Item) (r : Reading) → orders_in (phases_in (items ++ item_list (last_item r))) ≡ all_orders items r.open_group
last_orders items r = ap orders_in (map-append (λ (i : Item). i.orders) items (item_list (last_item r))) ∙ flat_map-append (λ (os : List Order). os) (phases_in items) (phases_in (item_list (last_item r))) ∙ ap (λ (os : List Order). orders_in (phases_in items) ++ os) (by r.open_group)
  where
    by : (g : Option Open) → orders_in (phases_in (item_list (option_map (λ g. g.item) g))) ≡ open_orders g
    by None = refl
    by (Some g) = append-nil g.item.orders

pub ordered : ItemsAreInOrder
ordered = record { all = whole; so_far = some }
  where
    before : (only_reads : Bool) (ls : List (List ℕ)) → are_before (items_from only_reads first_reading ls).1.next (all_orders (items_from only_reads first_reading ls).0 (items_from only_reads first_reading ls).1.open_group) ≡ true
    before only_reads ls = all_before only_reads first_reading ls [] refl

    whole : (only_reads : Bool) (ls : List (List ℕ)) → AreInOrder (phases_in (live_items only_reads ls))
    whole only_reads ls =
        let s = items_from only_reads first_reading ls in
        in_order s.1.next (phases_in (live_items only_reads ls)) (subst (λ (os : List Order). are_before s.1.next os ≡ true) (sym (last_orders s.0 s.1)) (before only_reads ls))

    some : (only_reads : Bool) (ls : List (List ℕ)) → AreInOrder (phases_in (items_from only_reads first_reading ls).0)
    some only_reads ls =
        let s = items_from only_reads first_reading ls in
        in_order s.1.next (phases_in s.0) (both_before s.1.next (orders_in (phases_in s.0)) (open_orders s.1.open_group) (before only_reads ls)).0
