-- Changes, refreshes and commits come behind all that the session had been shown.
use Rattle.std.proofs.Common.{◌≡◌, ℕ, ◌≤◌, Bool, true, false, List, length, map, Option, Some, None, refl, sym, ap, subst, arith}
use Rattle.std.specs.Prelude.{◌||◌, not, nat_le, unwrap_or, IfSome, IsTrue}
use Rattle.std.specs.List.{list_all}
use Rattle.std.specs.Option.{option_map_or}
use Rattle.std.proofs.lemmas.Bool.{and_from, le-leb}
use Rattle.std.proofs.lemmas.List.{length-map}
use Rattle.facet_model.specs.Histories as histories
use Rattle.facet_words.specs.Commands.{Settings, Order}
use Rattle.facet_output.specs.Effects.{Effect, changes, publishes, holds, releases, persists, merges, looks, effect, Report, says_placed, says_number, says_pair, says_refused, for_labels, for_docs, for_disk, for_closed, for_numbers, for_memory, for_other, says_nothing, report}
use Rattle.facet_output.specs.Answered.{Answered, comes_after}
use Rattle.facet_output.specs.Output.{Opened, is_fresh}
use Rattle.facet_output.specs.Reported.{shown_in, shows, stood, stood_at, stood_in}
use Rattle.facet_output.specs.Seen.{Seen, opened_seen, history_of}
use Rattle.facet_output.specs.Steps.{Step}
use Rattle.facet_output.specs.Sessions.{AllRan, steps_of}
use Rattle.facet_output.proofs.Among.{In, all_in, of_map}
use Rattle.facet_output.proofs.Known.{facts, after_sees}
use Rattle.facet_output.proofs.Showing.{shows_seen}
use Rattle.chronicle.proofs.Prefixes.{prefix_length}

pub if_some : {A : Type 0} (P : A → Type 0) (o : Option A) (x : A) → IfSome o P → o ≡ Some x → P x
if_some P None x is e = absurd cc
if_some P (Some y) x is e = let same : y ≡ x = cc in subst P same is

-- a test of the tests before: where the first holds the second does
pub implied : (b c : Bool) → (b ≡ true → c ≡ true) → (not b || c) ≡ true
implied true c h = h refl
implied false c h = refl

pub implied_so : (b c : Bool) → (not b || c) ≡ true → b ≡ true → c ≡ true
implied_so true c h e = h
implied_so false c h e = absurd cc

stands_shown : (saw : Option ℕ) (said : Report) (n : ℕ) → stood_at saw said ≡ Some n → n ≤ shown_in saw said
stands_shown saw (says_placed at) n e = let f : at ≡ n = cc in omega arith
stands_shown saw (says_number k) n e = let f : k ≡ n = cc in omega arith
stands_shown saw (says_refused (for_docs k)) n e = let f : unwrap_or saw 0 ≡ n = ap (λ (o : Option ℕ). unwrap_or o 0) e in omega arith
stands_shown saw (says_pair operations labels) n e = absurd cc
stands_shown saw (says_refused (for_labels k)) n e = absurd cc
stands_shown saw (says_refused (for_disk k)) n e = absurd cc
stands_shown saw (says_refused (for_closed k)) n e = absurd cc
stands_shown saw (says_refused for_numbers) n e = absurd cc
stands_shown saw (says_refused for_memory) n e = absurd cc
stands_shown saw says_nothing n e = absurd cc
stands_shown saw (says_refused for_other) n e = absurd cc

effect_shown : (e : Effect) (saw : Option ℕ) (said : Report) (n : ℕ) → stood_in e saw said ≡ Some n → n ≤ shown_in saw said
effect_shown (changes change) saw said n h = stands_shown saw said n h
effect_shown publishes saw said n h = stands_shown saw said n h
effect_shown persists saw said n h = stands_shown saw said n h
effect_shown (holds name) saw said n h = absurd cc
effect_shown (releases name) saw said n h = absurd cc
effect_shown merges saw said n h = absurd cc
effect_shown (looks on) saw said n h = absurd cc

pub stood_shown : (a : Answered) (n : ℕ) → stood a ≡ Some n → n ≤ shows a
stood_shown a n h = effect_shown (effect a.order.command) a.saw (report a.reply) n h

module _ (settings : Settings) (phases : List (List Order)) (opened : Opened) (ran : List (List Step)) (last : Seen) (all : AllRan settings phases opened ran last) where
  abbrev pub answers : List Answered
  answers = map (λ (x : Step). x.answered) (steps_of ran)

  -- what a reply showed was seen before an order that comes after it
  pub shown_before : (x y : Step) → In x (steps_of ran) → In y (steps_of ran) → comes_after y.answered x.answered ≡ true → shows x.answered ≤ length y.before.operations
  shown_before x y there there' after =
      let f = facts settings phases opened ran last all x there in
      let l = shows_seen settings f.2.0 x f.2.1 f.2.2 in
      let m = prefix_length x.after.operations y.before.operations (after_sees settings phases opened ran last all x y there there' after).operations in omega arith

  each_fresh : (x : Step) → In x (steps_of ran) → (n : ℕ) → stood x.answered ≡ Some n → is_fresh (length opened.docs) (length (history_of last)) answers x.answered n ≡ true
  each_fresh x there n e =
      let f = facts settings phases opened ran last all x there in
      let since : length x.before.operations ≤ n = if_some (λ n. length x.before.operations ≤ n) (stood x.answered) n f.2.1.fresh e in
      let first = prefix_length (opened_seen opened).operations x.before.operations f.0.operations in
      let size : length (opened_seen opened).operations ≡ length opened.docs = length-map opened.docs (λ doc. (0, histories.add doc)) in
      let shown = shows_seen settings f.2.0 x f.2.1 f.2.2 in
      let most = stood_shown x.answered n e in
      let end = prefix_length x.after.operations last.operations f.1.operations in
      let whole : length (history_of last) ≡ length last.operations = length-map last.operations (λ e. record { session = e.0; change = e.1 }) in
      and_from _ _ (and_from _ _ (le-leb (length opened.docs) n (omega arith)) (le-leb n (length (history_of last)) (omega arith)))
      (all_in (λ b. not (comes_after x.answered b) || nat_le (shows b) n) answers (λ b among.
      let y = of_map (λ (x : Step). x.answered) (steps_of ran) b among in
      subst (λ (b : Answered). (not (comes_after x.answered b) || nat_le (shows b) n) ≡ true) (sym y.2)
      (implied (comes_after x.answered y.0.answered) (nat_le (shows y.0.answered) n) (λ after.
      let l = shown_before y.0 x y.1 there after in le-leb (shows y.0.answered) n (omega arith)))))

  pub fresh_so : IsTrue (list_all (λ a. option_map_or (is_fresh (length opened.docs) (length (history_of last)) answers a) (stood a) true) answers)
  fresh_so = all_in (λ a. option_map_or (is_fresh (length opened.docs) (length (history_of last)) answers a) (stood a) true) answers (λ a among.
      let x = of_map (λ (x : Step). x.answered) (steps_of ran) a among in
      subst (λ (a : Answered). option_map_or (is_fresh (length opened.docs) (length (history_of last)) answers a) (stood a) true ≡ true) (sym x.2)
      (by x.0.answered (stood x.0.answered) (each_fresh x.0 x.1)))
    where
      by : (a : Answered) (o : Option ℕ) → ((n : ℕ) → o ≡ Some n → is_fresh (length opened.docs) (length (history_of last)) answers a n ≡ true) → option_map_or (is_fresh (length opened.docs) (length (history_of last)) answers a) o true ≡ true
      by a None each = refl
      by a (Some n) each = each n refl
