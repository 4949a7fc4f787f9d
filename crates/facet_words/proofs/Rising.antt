-- The lines of a script rise, from phase to phase and in each of them.
use Rattle.std.proofs.Common.{◌≡◌, ◌∙◌, ◌≤◌, ℕ, ◌+◌, Bool, true, false, List, [], ◌∷◌, ◌++◌, Option, Some, None, Result, Ok, Err, refl, sym, ap, subst, arith}
use Rattle.std.specs.Prelude.{◌&&◌, nat_le, if◌then◌else◌}
use Rattle.std.specs.List.{list_all}
use Rattle.std.proofs.lemmas.Bool.{lt-ltb, le-leb, leb-true, and_from, and_parts}
use Rattle.serde_json.specs.Data.{Data}
use Rattle.facet_words.specs.declared.fault.ScriptFault.{ScriptFault}
use Rattle.facet_words.specs.declared.fault.ScriptFault.TheVariants.{NotJson, BadShape, BadSession}
use Rattle.facet_words.specs.Lines.{line_data}
use Rattle.facet_words.specs.Scripts.{◌>>=◌, or_fault, in_session, order_of, ends_phase, line_of, line_at, Phases, before, phases_from, phases_of}
use Rattle.facet_words.specs.Shapes.{is_within}
use Rattle.facet_words.specs.Commands.{Command, Order}
use Rattle.facet_words.specs.ScriptOrder.{lines_rise, orders_in, AreInOrder}
use Rattle.facet_words.specs.CommandLines.{command_of}
use Rattle.std.proofs.lemmas.Option.{same_Some}

-- ---- what was read, step by step

pub first_then : {A B : Type 0} (r : Result A ScriptFault) (f : A → Result B ScriptFault) (y : B) → (r >>= f) ≡ Ok y → (x : A) × (r ≡ Ok x) × (f x ≡ Ok y)
first_then (Err e) f y is = absurd cc
first_then (Ok x) f y is = (x, refl, is)

pub of_ok : {A : Type 0} {a b : A} → ◌≡◌ {A = Result A ScriptFault} (Ok a) (Ok b) → a ≡ b
of_ok e = cc

-- the order is of this line, and its session is one
pub record IsOrderOf (line : ℕ) (o : Order) : Type 0 where
  pub at : o.line ≡ line
  pub session : is_within 1 64 o.session ≡ true

session_order : (line : ℕ) (c : ℕ × Command) (o : Order) → in_session line c ≡ Ok o → IsOrderOf line o
session_order line c o is = by (is_within 1 64 c.0) refl is
  where
    by : (b : Bool) → is_within 1 64 c.0 ≡ b → (if b then Ok (record { session = c.0; line = line; command = c.1 }) else Err (BadSession line)) ≡ Ok o → IsOrderOf line o
    by true e is = subst (IsOrderOf line) (of_ok is) (record { at = refl; session = e })
    by false e is = absurd cc

data_order : (line : ℕ) (d : Data) (o : Order) → order_of line d ≡ Ok o → IsOrderOf line o
unfolding order_of
data_order line d o is =
    let t = first_then (or_fault (BadShape line) (command_of d)) (in_session line) o is in
    session_order line t.0 o t.2

line_order : (line : ℕ) (d : Data) (o : Order) → line_of line d ≡ Ok (Some o) → IsOrderOf line o
unfolding line_of
line_order line d o is = by (ends_phase d) is
  where
    by : (b : Bool) → (if b then Ok None else (order_of line d >>= (λ o. Ok (Some o)))) ≡ Ok (Some o) → IsOrderOf line o
    by true is = absurd cc
    by false is =
        let t = first_then (order_of line d) (λ o. Ok (Some o)) (Some o) is in
        subst (IsOrderOf line) (same_Some _ _ (of_ok t.2)) (data_order line d t.0 t.1)

pub bytes_order : (line : ℕ) (bytes : List ℕ) (o : Order) → line_at line bytes ≡ Ok (Some o) → IsOrderOf line o
unfolding line_at
bytes_order line bytes o is =
    let t = first_then (or_fault (NotJson line) (line_data bytes)) (line_of line) (Some o) is in
    line_order line t.0 o t.2

-- ---- orders that rise from a line on

abbrev rise_from : ℕ → List Order → Bool
rise_from line [] = true
rise_from line (o ∷ os) = (nat_le line o.line && is_within 1 64 o.session) && rise_from (o.line + 1) os

rise_earlier : (line : ℕ) (os : List Order) → rise_from (line + 1) os ≡ true → rise_from line os ≡ true
rise_earlier line [] rise = refl
rise_earlier line (o ∷ os) rise =
    let both = and_parts (nat_le (line + 1) o.line && is_within 1 64 o.session) (rise_from (o.line + 1) os) rise in
    let first = and_parts (nat_le (line + 1) o.line) (is_within 1 64 o.session) both.0 in
    let le : line + 1 ≤ o.line = leb-true (line + 1) o.line first.0 in
    and_from _ _ (and_from _ _ (le-leb line o.line (omega arith)) first.1) both.1

rise_on : (line : ℕ) (o : Order) (os : List Order) → IsOrderOf line o → rise_from (line + 1) os ≡ true → rise_from line (o ∷ os) ≡ true
rise_on line o os is rise =
    let at = is.at in
    and_from _ _ (and_from _ _ (le-leb line o.line (omega arith)) is.session) (subst (λ (n : ℕ). rise_from (n + 1) os ≡ true) (sym is.at) rise)

lines_so : (line : ℕ) (os : List Order) → rise_from line os ≡ true → lines_rise os ≡ true
lines_so line [] rise = refl
lines_so line (o ∷ []) rise = refl
lines_so line (o ∷ p ∷ os) rise =
    let later = (and_parts (nat_le line o.line && is_within 1 64 o.session) (rise_from (o.line + 1) (p ∷ os)) rise).1 in
    let next = (and_parts (nat_le (o.line + 1) p.line) (is_within 1 64 p.session) (and_parts (nat_le (o.line + 1) p.line && is_within 1 64 p.session) (rise_from (p.line + 1) os) later).0).0 in
    let le : o.line + 1 ≤ p.line = leb-true (o.line + 1) p.line next in
    and_from _ _ (lt-ltb o.line p.line (omega arith)) (lines_so (o.line + 1) (p ∷ os) later)

sessions_so : (line : ℕ) (os : List Order) → rise_from line os ≡ true → list_all (λ o. is_within 1 64 o.session) os ≡ true
sessions_so line [] rise = refl
sessions_so line (o ∷ os) rise =
    let both = and_parts (nat_le line o.line && is_within 1 64 o.session) (rise_from (o.line + 1) os) rise in
    and_from _ _ (and_parts (nat_le line o.line) (is_within 1 64 o.session) both.0).1 (sessions_so (o.line + 1) os both.1)

-- both parts of a rising list rise
rise_parts : (line : ℕ) (os ps : List Order) → rise_from line (os ++ ps) ≡ true → (rise_from line os ≡ true) × ((n : ℕ) × (rise_from n ps ≡ true))
rise_parts line [] ps rise = (refl, (line, rise))
rise_parts line (o ∷ os) ps rise =
    let both = and_parts (nat_le line o.line && is_within 1 64 o.session) (rise_from (o.line + 1) (os ++ ps)) rise in
    let rest = rise_parts (o.line + 1) os ps both.1 in
    (and_from _ _ both.0 rest.0, rest.1)

each_so : (line : ℕ) (phases : List (List Order)) → rise_from line (orders_in phases) ≡ true → list_all lines_rise phases ≡ true
each_so line [] rise = refl
each_so line (p ∷ phases) rise =
    let parts = rise_parts line p (orders_in phases) rise in
    and_from _ _ (lines_so line p parts.0) (each_so parts.1.0 phases parts.1.1)

-- ---- phases

abbrev all_of : Phases → List Order
all_of phases = phases.0 ++ orders_in phases.1

with_line : (line : ℕ) (order : Option Order) (phases : Phases) → ((o : Order) → order ≡ Some o → IsOrderOf line o) → rise_from (line + 1) (all_of phases) ≡ true → rise_from line (all_of (before order phases)) ≡ true
with_line line None phases is rise = rise_earlier line (all_of phases) rise
with_line line (Some o) phases is rise = rise_on line o (all_of phases) (is o refl) rise

phases_rise : (line : ℕ) (ls : List (List ℕ)) (phases : Phases) → phases_from line ls ≡ Ok phases → rise_from line (all_of phases) ≡ true
phases_rise line [] phases is = subst (λ (p : Phases). rise_from line (all_of p) ≡ true) (of_ok is) refl
phases_rise line (l ∷ ls) phases is =
    let t = first_then (line_at line l) (λ order. phases_from (line + 1) ls >>= (λ phases. Ok (before order phases))) phases is in
    let u = first_then (phases_from (line + 1) ls) (λ phases. Ok (before t.0 phases)) phases t.2 in
    subst (λ (p : Phases). rise_from line (all_of p) ≡ true) (of_ok u.2)
    (with_line line t.0 u.0 (λ o some. bytes_order line l o (t.1 ∙ ap Ok some)) (phases_rise (line + 1) ls u.0 u.1))

pub in_order : (ls : List (List ℕ)) (phases : List (List Order)) → phases_of ls ≡ Ok phases → AreInOrder phases
in_order ls phases is =
    let t = first_then (phases_from 2 ls) (λ phases. Ok (phases.0 ∷ phases.1)) phases is in
    let rise = phases_rise 2 ls t.0 t.1 in
    subst AreInOrder (of_ok t.2) (record { rise = lines_so 2 (all_of t.0) rise; each = each_so 2 (t.0.0 ∷ t.0.1) rise; sessions = sessions_so 2 (all_of t.0) rise })
