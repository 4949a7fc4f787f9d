-- The orders of items and of open groups, line after line.
use Rattle.std.proofs.Common.{◌≡◌, ◌+◌, ℕ, Bool, true, false, List, [], ◌∷◌, ◌++◌, Option, Some, None, refl, sym, subst, append_assoc, append-nil, arith}
use Rattle.std.specs.Prelude.{nat_le, nat_lt}
use Rattle.std.specs.Option.{option_map_or}
use Rattle.std.proofs.lemmas.Bool.{le-leb, ltb-false}
use Rattle.facet_words.specs.Commands.{Order}
use Rattle.facet_words.proofs.Rising.{IsOrderOf}
use Rattle.live_lines.specs.Lines.{most_bytes, Line, order, end, group, faulty}
use Rattle.live_lines.specs.Items.{Item, Open, Reading, stepped, open_with, open_orders, are_before, IsReading}
use Rattle.live_lines.proofs.Orders.{later, one_more, both_before}

abbrev pub given_orders : Option Item → List Order
given_orders None = []
given_orders (Some i) = i.orders

-- what these orders are with those of a step
abbrev behind : List Order → Option Item × Option Open → List Order
behind done s = done ++ (given_orders s.0 ++ open_orders s.1)

module _ (line many : ℕ) (done : List Order) where
  -- the orders of a group are as before
  kept : (g : Open) → are_before line (done ++ g.item.orders) ≡ true → are_before (line + 1) (done ++ g.item.orders) ≡ true
  kept g is = later line (done ++ g.item.orders) is

  pub step_before : (l : Line) (g : Option Open) → ((o : Order) → l ≡ order o → IsOrderOf line o) → are_before line (done ++ open_orders g) ≡ true → are_before (line + 1) (behind done (stepped line many l g)) ≡ true
  step_before (order o) None is before = one_more line done o (is o refl) (subst (λ (os : List Order). are_before line os ≡ true) (append-nil done) before)
  step_before end None is before = later line (done ++ []) before
  step_before group None is before = later line (done ++ []) before
  step_before (faulty f) None is before = later line (done ++ []) before
  step_before (order o) (Some g) is before = by (nat_lt most_bytes g.size) (nat_lt most_bytes (g.size + many + 1)) refl refl
    where
      by : (full much : Bool) → nat_lt most_bytes g.size ≡ full → nat_lt most_bytes (g.size + many + 1) ≡ much → are_before (line + 1) (done ++ (open_with line many (order o) g).item.orders) ≡ true
      by true much e f = rw e (later line (done ++ g.item.orders) before)
      by false true e f = rw (e, f) (later line (done ++ g.item.orders) before)
      by false false e f = rw (e, f) (subst (λ (os : List Order). are_before (line + 1) os ≡ true) (append_assoc done g.item.orders (o ∷ [])) (one_more line (done ++ g.item.orders) o (is o refl) before))
  step_before end (Some g) is before = subst (λ (os : List Order). are_before (line + 1) (done ++ os) ≡ true) (sym (append-nil g.item.orders)) (later line (done ++ g.item.orders) before)
  step_before group (Some g) is before = by (nat_lt most_bytes g.size) (nat_lt most_bytes (g.size + many + 1)) refl refl
    where
      by : (full much : Bool) → nat_lt most_bytes g.size ≡ full → nat_lt most_bytes (g.size + many + 1) ≡ much → are_before (line + 1) (done ++ (open_with line many group g).item.orders) ≡ true
      by true much e f = rw e (later line (done ++ g.item.orders) before)
      by false true e f = rw (e, f) (later line (done ++ g.item.orders) before)
      by false false e f = rw (e, f) (later line (done ++ g.item.orders) before)
  step_before (faulty f) (Some g) is before = by (nat_lt most_bytes g.size) (nat_lt most_bytes (g.size + many + 1)) refl refl
    where
      by : (full much : Bool) → nat_lt most_bytes g.size ≡ full → nat_lt most_bytes (g.size + many + 1) ≡ much → are_before (line + 1) (done ++ (open_with line many (faulty f) g).item.orders) ≡ true
      by true much e f = rw e (later line (done ++ g.item.orders) before)
      by false true e f = rw (e, f) (later line (done ++ g.item.orders) before)
      by false false e f = rw (e, f) (later line (done ++ g.item.orders) before)

-- ---- the bytes of a group

abbrev is_small : Option Open → Bool
is_small g = option_map_or (λ g. nat_le g.size (most_bytes + 1)) g true

small_with : (line many : ℕ) (l : Line) (g : Open) → is_small (Some g) ≡ true → is_small (Some (open_with line many l g)) ≡ true
small_with line many l g is = by (nat_lt most_bytes g.size) (nat_lt most_bytes (g.size + many + 1)) refl refl
  where
    by : (full much : Bool) → nat_lt most_bytes g.size ≡ full → nat_lt most_bytes (g.size + many + 1) ≡ much → is_small (Some (open_with line many l g)) ≡ true
    by true much e f = rw e is
    by false true e f = rw (e, f) refl
    by false false e f = rw (e, f) (le-leb (g.size + many + 1) (most_bytes + 1) (let le = ltb-false most_bytes (g.size + many + 1) f in omega arith))

step_small : (line many : ℕ) (l : Line) (g : Option Open) → is_small g ≡ true → is_small (stepped line many l g).1 ≡ true
step_small line many (order o) None is = refl
step_small line many end None is = refl
step_small line many group None is = refl
step_small line many (faulty f) None is = refl
step_small line many (order o) (Some g) is = small_with line many (order o) g is
step_small line many end (Some g) is = refl
step_small line many group (Some g) is = small_with line many group g is
step_small line many (faulty f) (Some g) is = small_with line many (faulty f) g is

-- a reading goes on as one, and the orders that are given are before its next line
pub step_kept : (r : Reading) (many : ℕ) (l : Line) → ((o : Order) → l ≡ order o → IsOrderOf r.next o) → IsReading r
    → IsReading (record { next = r.next + 1; open_group = (stepped r.next many l r.open_group).1 }) × (are_before (r.next + 1) (given_orders (stepped r.next many l r.open_group).0) ≡ true)
step_kept r many l is reading =
    let s = stepped r.next many l r.open_group in
    let both = both_before (r.next + 1) (given_orders s.0) (open_orders s.1) (step_before r.next many [] l r.open_group is reading.before) in
    (record { before = both.1; few = step_small r.next many l r.open_group reading.few }, both.0)
