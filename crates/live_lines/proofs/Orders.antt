-- Orders in rising lines, before a line.
use Rattle.std.proofs.Common.{◌≡◌, ◌∙◌, ◌<◌, ◌+◌, ℕ, Bool, true, List, [], ◌∷◌, ◌++◌, refl, sym, arith}
use Rattle.std.specs.Prelude.{◌&&◌, nat_lt}
use Rattle.std.specs.List.{list_all}
use Rattle.std.proofs.lemmas.Bool.{lt-ltb, ltb-true, and_from, and_parts}
use Rattle.std.proofs.lemmas.List.Folds.{list_all-append}
use Rattle.facet_words.specs.Commands.{Order}
use Rattle.facet_words.specs.ScriptOrder.{lines_rise, orders_in, AreInOrder}
use Rattle.facet_words.specs.Shapes.{is_within}
use Rattle.facet_words.proofs.Rising.{IsOrderOf}
use Rattle.live_lines.specs.Items.{are_before}

abbrev are_below : ℕ → List Order → Bool
are_below line os = list_all (λ o. nat_lt o.line line && is_within 1 64 o.session) os

below_later : (line : ℕ) (os : List Order) → are_below line os ≡ true → are_below (line + 1) os ≡ true
below_later line [] is = refl
below_later line (o ∷ os) is =
    let both = and_parts (nat_lt o.line line && is_within 1 64 o.session) (are_below line os) is in
    let first = and_parts (nat_lt o.line line) (is_within 1 64 o.session) both.0 in
    let lt : o.line < line = ltb-true o.line line first.0 in
    and_from _ _ (and_from _ _ (lt-ltb o.line (line + 1) (omega arith)) first.1) (below_later line os both.1)

pub later : (line : ℕ) (os : List Order) → are_before line os ≡ true → are_before (line + 1) os ≡ true
later line os is =
    let both = and_parts (lines_rise os) (are_below line os) is in
    and_from _ _ both.0 (below_later line os both.1)

-- ---- one order more

rise_more : (line : ℕ) (os : List Order) (o : Order) → o.line ≡ line → lines_rise os ≡ true → are_below line os ≡ true → lines_rise (os ++ o ∷ []) ≡ true
rise_more line [] o at rise below = refl
rise_more line (p ∷ []) o at rise below =
    let lt : p.line < line = ltb-true p.line line (and_parts (nat_lt p.line line) (is_within 1 64 p.session) (and_parts (nat_lt p.line line && is_within 1 64 p.session) true below).0).0 in
    and_from _ _ (lt-ltb p.line o.line (omega arith)) refl
rise_more line (p ∷ q ∷ os) o at rise below =
    let both = and_parts (nat_lt p.line q.line) (lines_rise (q ∷ os)) rise in
    let rest = (and_parts (nat_lt p.line line && is_within 1 64 p.session) (are_below line (q ∷ os)) below).1 in
    and_from _ _ both.0 (rise_more line (q ∷ os) o at both.1 rest)

pub one_more : (line : ℕ) (os : List Order) (o : Order) → IsOrderOf line o → are_before line os ≡ true → are_before (line + 1) (os ++ o ∷ []) ≡ true
one_more line os o is before =
    let both = and_parts (lines_rise os) (are_below line os) before in
    let at = is.at in
    let own : are_below (line + 1) (o ∷ []) ≡ true = and_from _ _ (and_from _ _ (lt-ltb o.line (line + 1) (omega arith)) is.session) refl in
    and_from _ _ (rise_more line os o is.at both.0 both.1)
    (list_all-append (λ (o : Order). nat_lt o.line (line + 1) && is_within 1 64 o.session) os (o ∷ []) ∙ and_from _ _ (below_later line os both.1) own)

-- ---- both parts

rise_parts : (os ps : List Order) → lines_rise (os ++ ps) ≡ true → (lines_rise os ≡ true) × (lines_rise ps ≡ true)
rise_parts [] ps rise = (refl, rise)
rise_parts (o ∷ []) [] rise = (refl, refl)
rise_parts (o ∷ []) (p ∷ ps) rise = (refl, (and_parts (nat_lt o.line p.line) (lines_rise (p ∷ ps)) rise).1)
rise_parts (o ∷ p ∷ os) ps rise =
    let both = and_parts (nat_lt o.line p.line) (lines_rise (p ∷ (os ++ ps))) rise in
    let rest = rise_parts (p ∷ os) ps both.1 in
    (and_from _ _ both.0 rest.0, rest.1)

pub both_before : (line : ℕ) (os ps : List Order) → are_before line (os ++ ps) ≡ true → (are_before line os ≡ true) × (are_before line ps ≡ true)
both_before line os ps is =
    let both = and_parts (lines_rise (os ++ ps)) (are_below line (os ++ ps)) is in
    let rise = rise_parts os ps both.0 in
    let below = and_parts (are_below line os) (are_below line ps) (sym (list_all-append (λ (o : Order). nat_lt o.line line && is_within 1 64 o.session) os ps) ∙ both.1) in
    (and_from _ _ rise.0 below.0, and_from _ _ rise.1 below.1)

-- ---- phases

each_rises : (phases : List (List Order)) → lines_rise (orders_in phases) ≡ true → list_all lines_rise phases ≡ true
each_rises [] rise = refl
each_rises (p ∷ phases) rise =
    let parts = rise_parts p (orders_in phases) rise in
    and_from _ _ parts.0 (each_rises phases parts.1)

pub sessions_so : (line : ℕ) (os : List Order) → are_below line os ≡ true → list_all (λ o. is_within 1 64 o.session) os ≡ true
sessions_so line [] is = refl
sessions_so line (o ∷ os) is =
    let both = and_parts (nat_lt o.line line && is_within 1 64 o.session) (are_below line os) is in
    and_from _ _ (and_parts (nat_lt o.line line) (is_within 1 64 o.session) both.0).1 (sessions_so line os both.1)

pub in_order : (line : ℕ) (phases : List (List Order)) → are_before line (orders_in phases) ≡ true → AreInOrder phases
in_order line phases is =
    let both = and_parts (lines_rise (orders_in phases)) (are_below line (orders_in phases)) is in
    record { rise = both.0; each = each_rises phases both.0; sessions = sessions_so line (orders_in phases) both.1 }
