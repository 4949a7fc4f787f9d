-- The steps of all sessions in a phase.
use Rattle.std.proofs.Common.{◌≡◌, ◌∙◌, ℕ, zero, suc, ◌+◌, ◌<◌, List, [], ◌∷◌, length, map, get_or, refl, ap, sym, subst, arith}
use Rattle.std.specs.Prelude.{Result, Ok, Err, All, IfOk, IsOk}
use Rattle.std.specs.List.{AllZip}
use Rattle.std.proofs.lemmas.List.Elements.{All-head, All-tail, length_all_zip, AllZip-get_or}
use Rattle.chronicle.specs.Frame.{Frame}
use Rattle.facet_words.specs.Commands.{Settings}
use Rattle.facet_output.specs.Answered.{Answered}
use Rattle.facet_output.specs.Held.{Held}
use Rattle.facet_output.specs.Seen.{Seen}
use Rattle.facet_output.specs.Sessions.{SessionRan, held_by, steps_of}
use Rattle.facet_output.specs.Steps.{Step}
use Rattle.facet_engine.specs.HeldPairs.{numbers_held}
use Rattle.facet_engine.specs.Steps.{seen_of}
use Rattle.facet_engine.specs.Systems.{Engine, HasSettings}
use Rattle.facet_phases.specs.declared.lane.Lane.{Lane}
use Rattle.facet_words.specs.declared.command.Order.{Order}
use Rattle.facet_phases.specs.Lanes.{AreNumbered, KeepAll, KeepsOf}
use Rattle.facet_words.specs.CommandViews.{order_view}
use Rattle.facet_phases.specs.Phases.{AreSpentWithin, answers_in, in_phase, orders_by}
use Rattle.facet_phases.proofs.Did.{LaneDid}
use Rattle.facet_phases.proofs.Parts.{IsPart, AreParts, AreWhole}
use Rattle.facet_phases.proofs.Spent.{spent_none, spent_append}
use Rattle.facet_phases.proofs.Stepping.{answers_append}

if_ok_at : {A C E : Type 0} (Holds : List Answered → C → Type 0) (answered : List Answered) (r : Result C E) → IsOk r → IfOk r (λ v. A × Holds answered v) → A × KeepsOf Holds answered r
if_ok_at Holds answered (Ok v) ok p = p
if_ok_at Holds answered (Err e) ok p = absurd cc

module _ {C : Type 0} where
  -- the later ones have the later numbers
  numbered_tail : (from : ℕ) (x : Lane C) (xs : List (Lane C)) → AreNumbered from (x ∷ xs) → AreNumbered (from + 1) xs
  numbered_tail from x xs numbered i d lt = let on : from + suc i ≡ from + 1 + i = omega arith in numbered (suc i) d (omega arith) ∙ on

  numbered_head : (from : ℕ) (x : Lane C) (xs : List (Lane C)) → AreNumbered from (x ∷ xs) → x.session.number ≡ from
  numbered_head from x xs numbered = let on : from + 0 ≡ from = omega arith in numbered 0 x (omega arith) ∙ on

  module _ (Holds : List Answered → C → Type 0) (engine : Engine) (dealt : List Order) (next : Seen) where
    -- what each session then is
    pub each_new : (P Q : Lane C → Type 0) → ((x y : Lane C) → LaneDid Holds engine dealt next x y → P x → Q y) → (old new : List (Lane C)) → AllZip (LaneDid Holds engine dealt next) old new → All P old → All Q new
    each_new P Q each old new z all i d lt =
        let in' : i < length old = subst (λ n. i < n) (sym (length_all_zip (LaneDid Holds engine dealt next) old new z)) lt in
        each (get_or old i d) (get_or new i d) (AllZip-get_or (LaneDid Holds engine dealt next) old new i d d z in') (all i d in')

    pub new_numbered : (from : ℕ) (old new : List (Lane C)) → AllZip (LaneDid Holds engine dealt next) old new → AreNumbered from old → AreNumbered from new
    new_numbered from old new z numbered i d lt =
        let in' : i < length old = subst (λ n. i < n) (sym (length_all_zip (LaneDid Holds engine dealt next) old new z)) lt in
        (AllZip-get_or (LaneDid Holds engine dealt next) old new i d d z in').same.0 ∙ numbered i d in'

  module _ (Holds : List Answered → C → Type 0) (engine : Engine) (dealt : List Order) (next : Seen) (settings : Settings) (phase : ℕ) where
    abbrev IsSet : Lane C → Type 0
    IsSet l = HasSettings engine l.session.pass settings

    -- the steps of each
    abbrev pub parts : (old new : List (Lane C)) → AllZip (LaneDid Holds engine dealt next) old new → All IsSet old → List (List Step)
    parts [] [] z has = []
    parts [] (y ∷ ys) z has = absurd z
    parts (x ∷ xs) [] z has = absurd z
    parts (x ∷ xs) (y ∷ ys) z has = (z.0.ran settings phase (All-head IsSet x xs has)).steps ∷ parts xs ys z.1 (All-tail IsSet x xs has)

    pub parts_many : (old new : List (Lane C)) (z : AllZip (LaneDid Holds engine dealt next) old new) (has : All IsSet old) → length (parts old new z has) ≡ length old
    parts_many [] [] z has = refl
    parts_many [] (y ∷ ys) z has = absurd z
    parts_many (x ∷ xs) [] z has = absurd z
    parts_many (x ∷ xs) (y ∷ ys) z has = ap suc (parts_many xs ys z.1 (All-tail IsSet x xs has))

    pub are_parts : (held : ℕ → Held) (known : Seen) (from : ℕ) (old new : List (Lane C)) (z : AllZip (LaneDid Holds engine dealt next) old new) (has : All IsSet old) → AreNumbered from old
        → All (λ (l : Lane C). numbers_held l.session.held ≡ held l.session.number) old → All (λ (l : Lane C). seen_of l.session.pass ≡ known) old
        → AreParts settings phase (map order_view dealt) held known next from (parts old new z has)
    are_parts held known from [] [] z has numbered holds seen = tt
    are_parts held known from [] (y ∷ ys) z has numbered holds seen = absurd z
    are_parts held known from (x ∷ xs) [] z has numbered holds seen = absurd z
    are_parts held known from (x ∷ xs) (y ∷ ys) z has numbered holds seen =
        let s = z.0.ran settings phase (All-head IsSet x xs has) in
        let n : ℕ = x.session.number in
        let part : IsPart settings phase (map order_view dealt) held known next n s.steps = record {
          many = s.many;
          asked = s.first;
          ran = subst (λ (h : Held). SessionRan settings n h known s.steps next) (All-head (λ (l : Lane C). numbers_held l.session.held ≡ held l.session.number) x xs holds)
              (subst (λ (k : Seen). SessionRan settings n (numbers_held x.session.held) k s.steps next) (All-head (λ (l : Lane C). seen_of l.session.pass ≡ known) x xs seen) s.ran);
        } in (
          subst (λ (k : ℕ). IsPart settings phase (map order_view dealt) held known next k s.steps) (numbered_head from x xs numbered) part,
          are_parts held known (from + 1) xs ys z.1 (All-tail IsSet x xs has) (numbered_tail from x xs numbered) (All-tail (λ (l : Lane C). numbers_held l.session.held ≡ held l.session.number) x xs holds)
              (All-tail (λ (l : Lane C). seen_of l.session.pass ≡ known) x xs seen),
        )

    -- where each session kept the replies, each carried out all its orders
    pub are_whole : (from : ℕ) (old new : List (Lane C)) (z : AllZip (LaneDid Holds engine dealt next) old new) (has : All IsSet old) → AreNumbered from old → All (λ (l : Lane C). IsOk l.replies) new
        → AreWhole phase from (map order_view dealt) (parts old new z has) × KeepAll Holds new (answers_in (steps_of (parts old new z has)))
    are_whole from [] [] z has numbered ok = (tt, refl)
    are_whole from [] (y ∷ ys) z has numbered ok = absurd z
    are_whole from (x ∷ xs) [] z has numbered ok = absurd z
    are_whole from (x ∷ xs) (y ∷ ys) z has numbered ok =
        let s = z.0.ran settings phase (All-head IsSet x xs has) in
        let here = if_ok_at Holds (answers_in s.steps) y.replies (All-head (λ (l : Lane C). IsOk l.replies) y ys ok) s.whole in
        let later : List Step = steps_of (parts xs ys z.1 (All-tail IsSet x xs has)) in
        let rest = are_whole (from + 1) xs ys z.1 (All-tail IsSet x xs has) (numbered_tail from x xs numbered) (All-tail (λ (l : Lane C). IsOk l.replies) y ys ok) in (
          (here.0 ∙ ap (λ (k : ℕ). in_phase phase (orders_by k (map order_view dealt))) (numbered_head from x xs numbered), rest.0),
          (answers_in s.steps, answers_in later, answers_append s.steps later, here.1, rest.1),
        )

    -- where all sessions have one frame of the commits, so have their steps
    pub parts_spent : (frame : Frame) (old new : List (Lane C)) (z : AllZip (LaneDid Holds engine dealt next) old new) (has : All IsSet old) → All (λ (l : Lane C). l.session.pass.commits.frame ≡ frame) old → AreSpentWithin frame (steps_of (parts old new z has))
    parts_spent frame [] [] z has frames = spent_none frame
    parts_spent frame [] (y ∷ ys) z has frames = absurd z
    parts_spent frame (x ∷ xs) [] z has frames = absurd z
    parts_spent frame (x ∷ xs) (y ∷ ys) z has frames =
        let s = z.0.ran settings phase (All-head IsSet x xs has) in
        spent_append frame s.steps (steps_of (parts xs ys z.1 (All-tail IsSet x xs has))) (subst (λ (f : Frame). AreSpentWithin f s.steps) (All-head (λ (l : Lane C). l.session.pass.commits.frame ≡ frame) x xs frames) s.spent)
        (parts_spent frame xs ys z.1 (All-tail IsSet x xs has) (All-tail (λ (l : Lane C). l.session.pass.commits.frame ≡ frame) x xs frames))

    -- what one then holds
    pub held_at : (old new : List (Lane C)) (z : AllZip (LaneDid Holds engine dealt next) old new) (has : All IsSet old) (i : ℕ) (d e : Lane C) (f : List Step) → i < length old
        → numbers_held (get_or new i e).session.held ≡ held_by (numbers_held (get_or old i d).session.held) (get_or (parts old new z has) i f)
    held_at [] [] z has i d e f lt = absurd (omega arith)
    held_at [] (y ∷ ys) z has i d e f lt = absurd z
    held_at (x ∷ xs) [] z has i d e f lt = absurd z
    held_at (x ∷ xs) (y ∷ ys) z has zero d e f lt = (z.0.ran settings phase (All-head IsSet x xs has)).held
    held_at (x ∷ xs) (y ∷ ys) z has (suc i) d e f lt = held_at xs ys z.1 (All-tail IsSet x xs has) i d e f (omega arith)
