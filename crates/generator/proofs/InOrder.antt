-- The lines of the generated orders rise, and their sessions are 1 to 64.
use Rattle.std.proofs.Common.{◌≡◌, ◌∙◌, ℕ, suc, zero, ◌+◌, ◌%◌, ◌<◌, ◌≤◌, ◌++◌, true, List, [], map, refl, ap, ap₂, arith}
use Rattle.std.specs.Prelude.{◌&&◌, nat_lt, nat_le}
use Rattle.std.specs.List.{list_all, range_with_len}
use Rattle.std.proofs.lemmas.List.{append-nil}
use Rattle.std.proofs.lemmas.List.Folds.{list_all-append}
use Rattle.std.proofs.lemmas.Bool.{lt-ltb, le-leb}
use Rattle.std.proofs.lemmas.Nat.{mod_below}
use Rattle.facet_words.specs.Commands.{Order}
use Rattle.facet_words.specs.ScriptOrder.{AreInOrder, lines_rise}
use Rattle.facet_words.specs.Shapes.{is_within}
use Rattle.generator.specs.Generated.{add_order, closing_orders, generated_phases}

closing_rise : (line : ℕ) → lines_rise (closing_orders line) ≡ true
unfolding closing_orders
closing_rise line =
    let first : nat_lt line (line + 1) ≡ true = lt-ltb line (line + 1) (omega arith) in
    let second : nat_lt (line + 1) (line + 2) ≡ true = lt-ltb (line + 1) (line + 2) (omega arith) in
    let third : nat_lt (line + 2) (line + 3) ≡ true = lt-ltb (line + 2) (line + 3) (omega arith) in
    rw (first, second, third) refl

adds_rise : (sessions a n : ℕ) → lines_rise (map (add_order sessions) (range_with_len a n)) ≡ true
unfolding add_order
adds_rise sessions a zero = refl
adds_rise sessions a (suc zero) = refl
adds_rise sessions a (suc (suc n)) =
    let next : nat_lt (2 + a) (2 + (a + 1)) ≡ true = lt-ltb (2 + a) (2 + (a + 1)) (omega arith) in
    rw (next, adds_rise sessions (a + 1) (suc n)) refl

all_rise : (sessions a n line : ℕ) → a + n + 2 ≤ line → lines_rise (map (add_order sessions) (range_with_len a n) ++ closing_orders line) ≡ true
unfolding add_order closing_orders
all_rise sessions a zero line h = closing_rise line
all_rise sessions a (suc zero) line h =
    let next : nat_lt (2 + a) line ≡ true = lt-ltb (2 + a) line (omega (arith, h)) in
    rw (next, closing_rise line) refl
all_rise sessions a (suc (suc n)) line h =
    let next : nat_lt (2 + a) (2 + (a + 1)) ≡ true = lt-ltb (2 + a) (2 + (a + 1)) (omega arith) in
    rw (next, all_rise sessions (a + 1) (suc n) line (omega (arith, h))) refl

adds_within : (sessions a n : ℕ) → 1 ≤ sessions → sessions ≤ 64 → list_all (λ o. is_within 1 64 o.session) (map (add_order sessions) (range_with_len a n)) ≡ true
unfolding add_order
adds_within sessions a zero some few = refl
adds_within sessions a (suc n) some few =
    let below : a % sessions < sessions = mod_below a sessions (omega (arith, some)) in
    let least : nat_le 1 (1 + a % sessions) ≡ true = le-leb 1 (1 + a % sessions) (omega arith) in
    let most : nat_le (1 + a % sessions) 64 ≡ true = le-leb (1 + a % sessions) 64 (omega (arith, below, few)) in
    rw (least, most, adds_within sessions (a + 1) n some few) refl

closing_within : (line : ℕ) → list_all (λ o. is_within 1 64 o.session) (closing_orders line) ≡ true
unfolding closing_orders
closing_within line = refl

pub in_order : (documents sessions : ℕ) → 1 ≤ sessions → sessions ≤ 64 → AreInOrder (generated_phases documents sessions)
unfolding generated_phases
in_order documents sessions some few =
    let adds = map (add_order sessions) (range_with_len 0 documents) in
    let closing = closing_orders (documents + 3) in
    let all = append-nil closing in
    record {
      rise = ap (λ (l : List Order). lines_rise (adds ++ l)) all ∙ all_rise sessions 0 documents (documents + 3) (omega arith);
      each = rw (adds_rise sessions 0 documents, closing_rise (documents + 3)) refl;
      sessions = list_all-append (λ o. is_within 1 64 o.session) adds (closing ++ [])
          ∙ ap₂ (λ a b. a && b) (adds_within sessions 0 documents some few) (ap (list_all (λ o. is_within 1 64 o.session)) all ∙ closing_within (documents + 3));
    }
