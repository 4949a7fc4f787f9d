-- What a reader keeps, line after line.
use Rattle.std.proofs.Common.{◌≡◌, ◌∙◌, ◌≤◌, ◌<◌, ◌+◌, ℕ, Bool, true, false, List, [], ◌∷◌, length, Option, Some, None, Result, Ok, Err, refl, sym, ap, subst, arith}
use Rattle.std.specs.Prelude.{◌&&◌, nat_le, nat_lt, map, option_map, All, IfOk, IfErr, IfSome}
use Rattle.std.specs.List.{list_all}
use Rattle.std.proofs.lemmas.Bool.{and_parts, leb-true, lt-ltb}
use Rattle.std.proofs.lemmas.List.Elements.{All-nil, All-cons}
use Rattle.facet_names.specs.declared.fault.NoMemory.{NoMemory}
use Rattle.facet_words.specs.CommandViews.{order_view}
use Rattle.facet_words.specs.ScriptOrder.{lines_rise}
use Rattle.facet_words.specs.Shapes.{is_within}
use Rattle.facet_words.specs.declared.command.Order.{Order}
use Rattle.facet_words.proofs.Rising.{IsOrderOf}
use Rattle.live_lines.specs.Lines.{most_bytes, Line, order, faulty, too_long, live_line}
use Rattle.live_lines.specs.Items.{Item, Open, Reading, stepped, step, open_orders, are_before, IsReading}
use Rattle.live_lines.specs.Views.{item_view, open_view, reading_of}
use Rattle.live_lines.specs.declared.group.GivenItem.{GivenItem}
use Rattle.live_lines.specs.declared.group.OpenGroup.{OpenGroup}
use Rattle.live_lines.proofs.Lines.{read_too_long}
use Rattle.live_lines.proofs.Orders.{later}
use Rattle.live_lines.proofs.Steps.{given_orders, step_kept}

-- ---- the sessions of orders

pub in_sessions : (line : ℕ) (os : List Order) → are_before line (map order_view os) ≡ true → All (λ o. (1 ≤ o.session) × (o.session ≤ 64)) os
in_sessions line os before = each os (and_parts (lines_rise (map order_view os)) _ before).1
  where
    each : (os : List Order) → list_all (λ o. nat_lt o.line line && is_within 1 64 o.session) (map order_view os) ≡ true → All (λ o. (1 ≤ o.session) × (o.session ≤ 64)) os
    each [] is = All-nil (λ (o : Order). (1 ≤ o.session) × (o.session ≤ 64))
    each (o ∷ os) is =
        let both = and_parts (nat_lt o.line line && is_within 1 64 o.session) (list_all (λ o. nat_lt o.line line && is_within 1 64 o.session) (map order_view os)) is in
        let session = and_parts (nat_le 1 o.session) (nat_le o.session 64) (and_parts (nat_lt o.line line) (is_within 1 64 o.session) both.0).1 in
        All-cons (λ (o : Order). (1 ≤ o.session) × (o.session ≤ 64)) o os (leb-true 1 o.session session.0, leb-true o.session 64 session.1) (each os both.1)

-- ---- a line more

-- the next line is later, whatever the group is
pub next_line : (r : Reading) → IsReading r → IsReading (record r { next = r.next + 1 })
next_line r is = record { before = later r.next (open_orders r.open_group) is.before; few = is.few }

module _ (r : Reading) (many : ℕ) (l : Line) (new : Option OpenGroup) where
  abbrev Gives : Option GivenItem → Type 0
  Gives o = ◌≡◌ {A = Option Item × Option Open} (option_map item_view o, option_map open_view new) (stepped r.next many l r.open_group)

  abbrev then : Reading
  then = record { next = r.next + 1; open_group = option_map open_view new }

  module _ (of : (o : _) → l ≡ order o → IsOrderOf r.next o) (is : IsReading r) where
    -- it is a reading after the line, and also without it if there is no memory
    pub goes_on : (res : Result (Option GivenItem) NoMemory) → IfOk res Gives → IfErr res (λ _. option_map open_view new ≡ r.open_group) → IsReading then
    goes_on (Ok o) gives fails = subst (λ (g : Option Open). IsReading (record { next = r.next + 1; open_group = g })) (sym (ap (λ (p : Option Item × Option Open). p.1) gives)) (step_kept r many l of is).0
    goes_on (Err e) gives fails = subst (λ (g : Option Open). IsReading (record { next = r.next + 1; open_group = g })) (sym fails) (next_line r is)

    pub gives_sessions : (res : Result (Option GivenItem) NoMemory) → IfOk res Gives → IfOk res (λ o. IfSome o (λ i. All (λ o. (1 ≤ o.session) × (o.session ≤ 64)) i.orders.items))
    gives_sessions (Ok None) gives = tt
    gives_sessions (Ok (Some i)) gives = in_sessions (r.next + 1) i.orders.items (subst (λ (o : Option Item). are_before (r.next + 1) (given_orders o) ≡ true) (sym (ap (λ (p : Option Item × Option Open). p.0) gives)) (step_kept r many l of is).1)
    gives_sessions (Err e) gives = tt

-- it is the step of the line
pub is_step : (only_reads : Bool) (r : Reading) (bytes : List ℕ) (l : Line) (new : Option OpenGroup) (res : Result (Option GivenItem) NoMemory) → l ≡ live_line only_reads r.next bytes
    → IfOk res (Gives r (length bytes) l new) → IfOk res (λ o. ◌≡◌ {A = Option Item × Reading} (option_map item_view o, record { next = r.next + 1; open_group = option_map open_view new }) (step only_reads r bytes))
unfolding step
is_step only_reads r bytes l new (Ok o) is gives =
    ap (λ (p : Option Item × Option Open). (p.0, record { next = r.next + 1; open_group = p.1 })) (gives ∙ ap (λ (l : Line). stepped r.next (length bytes) l r.open_group) is)
is_step only_reads r bytes l new (Err e) is gives = tt

-- ---- a line that is too long

-- a line of any length above the limit is the same
abbrev pub long_line : ℕ → Line
long_line line = faulty (too_long line)

same_long : (line many more : ℕ) (g : Option Open) → most_bytes < many → most_bytes < more → stepped line many (long_line line) g ≡ stepped line more (long_line line) g
same_long line many more None a b = refl
same_long line many more (Some g) a b = by (nat_lt most_bytes g.size) refl
  where
    by : (full : Bool) → nat_lt most_bytes g.size ≡ full → stepped line many (long_line line) (Some g) ≡ stepped line more (long_line line) (Some g)
    by true e = rw e refl
    by false e = rw (e, lt-ltb most_bytes (g.size + many + 1) (omega (arith, a)), lt-ltb most_bytes (g.size + more + 1) (omega (arith, b))) refl

pub is_long_step : (r : Reading) (many : ℕ) (new : Option OpenGroup) (res : Result (Option GivenItem) NoMemory) → most_bytes < many → IfOk res (Gives r many (long_line r.next) new)
    → IfOk res (λ o. (only_reads : Bool) (bytes : List ℕ) → most_bytes < length bytes → ◌≡◌ {A = Option Item × Reading} (option_map item_view o, record { next = r.next + 1; open_group = option_map open_view new }) (step only_reads r bytes))
is_long_step r many new (Ok o) long gives = λ only_reads bytes more.
    is_step only_reads r bytes (long_line r.next) new (Ok o) (read_too_long only_reads r.next bytes more) (gives ∙ same_long r.next many (length bytes) r.open_group long more)
is_long_step r many new (Err e) long gives = tt

-- ---- the end of the lines

pub end_sessions : (next : ℕ) (group : Option OpenGroup) (open_group : OpenGroup) → IsReading (reading_of (record { next = next; group = group })) → group ≡ Some open_group
    → All (λ o. (1 ≤ o.session) × (o.session ≤ 64)) open_group.item.orders.items
end_sessions next group open_group is some =
    in_sessions next open_group.item.orders.items (subst (λ (g : Option OpenGroup). are_before next (open_orders (option_map open_view g)) ≡ true) some is.before)
