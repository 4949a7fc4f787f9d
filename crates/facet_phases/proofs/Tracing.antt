-- The trace at the end: whose the operations are.
use Rattle.std.proofs.Common.{◌≡◌, ◌∙◌, ℕ, ◌+◌, ◌-◌, ◌<◌, ◌≤◌, eqb, Bool, true, false, cond, List, [], ◌∷◌, length, map, refl, sym, ap, subst, arith}
use Rattle.std.specs.Prelude.{All, filter}
use Rattle.std.specs.List.{AllZip}
use Rattle.std.proofs.lemmas.Bool.{eq-eqb}
use Rattle.std.proofs.lemmas.List.Elements.{All-cons, All-head, All-nil, All-tail, length_all_zip}
use native.Mathlib.Decide.{dec_lt}
use mathlib.Core.Logic.{dite}
use Rattle.chronicle.specs.History.{entries}
use Rattle.facet_model.specs.Histories.{Change, Operation}
use Rattle.facet_output.specs.Outputs.{sessions_in}
use Rattle.facet_output.specs.Seen.{history_of}
use Rattle.facet_engine.specs.declared.notes.Notes.{Notes}
use Rattle.facet_engine.specs.Ending.{AreUpTo, NamesOwn}
use Rattle.facet_engine.specs.Notes.{noted}
use Rattle.facet_engine.specs.Systems.{Engine}
use Rattle.facet_engine.specs.Exchange.{HaveMade}
use Rattle.facet_engine.proofs.Ended.{sessions_are}
use Rattle.facet_engine.proofs.Plain.{plain}
use Rattle.pair_manager.specs.declared.pass.Pass.{Pass}
use Rattle.facet_phases.specs.declared.lane.Lane.{Lane}
use Rattle.facet_phases.specs.Lanes.{LaneTold}
use Rattle.facet_phases.specs.Running.{AreReady}
use Rattle.facet_phases.proofs.Finishing.{lane_at}

-- an entry tells the session of this number
abbrev Names : ℕ → ℕ × Operation → Type 0
Names n e = e.1.session ≡ n

-- those under a number, without the first entry
rest_named : (n : ℕ) (x : ℕ × Operation) (es : List (ℕ × Operation)) → All (Names n) (filter (λ (e : ℕ × Operation). eqb e.0 n) (x ∷ es)) → All (Names n) (filter (λ (e : ℕ × Operation). eqb e.0 n) es)
rest_named n x es all = by (eqb x.0 n) all
  where
    by : (b : Bool) → All (Names n) (cond b (x ∷ filter (λ (e : ℕ × Operation). eqb e.0 n) es) (filter (λ (e : ℕ × Operation). eqb e.0 n) es)) → All (Names n) (filter (λ (e : ℕ × Operation). eqb e.0 n) es)
    by true h = All-tail (Names n) x (filter (λ (e : ℕ × Operation). eqb e.0 n) es) h
    by false h = h

-- the first entry
first_named : (x : ℕ × Operation) (es : List (ℕ × Operation)) → All (Names x.0) (filter (λ (e : ℕ × Operation). eqb e.0 x.0) (x ∷ es)) → x.1.session ≡ x.0
first_named x es all = by (eqb x.0 x.0) (eq-eqb x.0 x.0 refl) all
  where
    by : (b : Bool) → b ≡ true → All (Names x.0) (cond b (x ∷ filter (λ (e : ℕ × Operation). eqb e.0 x.0) es) (filter (λ (e : ℕ × Operation). eqb e.0 x.0) es)) → x.1.session ≡ x.0
    by true is h = All-head (Names x.0) x (filter (λ (e : ℕ × Operation). eqb e.0 x.0) es) h
    by false is h = absurd (cc is)

-- where each entry tells the session of its own number, the operations are those of the plain data
operations_are : (count : ℕ) (es : List (ℕ × Operation)) → ((n : ℕ) → n ≤ count → All (Names n) (filter (λ (e : ℕ × Operation). eqb e.0 n) es)) → All (λ (e : ℕ × Operation). e.0 ≤ count) es → entries es ≡ plain es
operations_are count [] each up = refl
operations_are count (x ∷ es) each up =
    let here : x.1.session ≡ x.0 = first_named x es (each x.0 (All-head (λ (e : ℕ × Operation). e.0 ≤ count) x es up)) in
    let later = operations_are count es (λ n le. rest_named n x es (each n le)) (All-tail (λ (e : ℕ × Operation). e.0 ≤ count) x es up) in
    λ i. record { session = here i; change = x.1.change } ∷ later i

-- the numbers are those that are told
up_raw : (count : ℕ) (es : List (ℕ × Operation)) → All (λ (e : ℕ × Change). e.0 ≤ count) (map {B = ℕ × Change} (λ e. (e.0, e.1.change)) es) → All (λ (e : ℕ × Operation). e.0 ≤ count) es
up_raw count [] all = All-nil (λ (e : ℕ × Operation). e.0 ≤ count)
up_raw count (x ∷ es) all =
    let told : List (ℕ × Change) = map {B = ℕ × Change} (λ e. (e.0, e.1.change)) es in
    All-cons (λ (e : ℕ × Operation). e.0 ≤ count) x es (All-head (λ (e : ℕ × Change). e.0 ≤ count) (x.0, x.1.change) told all)
    (up_raw count es (All-tail (λ (e : ℕ × Change). e.0 ≤ count) (x.0, x.1.change) told all))

module _ {C : Type 0} where
  -- under each number that was given
  names_each : (engine : Engine) (first : Pass) (old new : List (Lane C)) (notes : Notes) → AreReady engine first old → AllZip (LaneTold (noted notes)) old new → All (λ (l : Lane C). NamesOwn l.session.number notes) new → NamesOwn 0 notes
      → (n : ℕ) → n ≤ length old → NamesOwn n notes
  names_each engine first old new notes ready z named zero n le = dite (dec_lt 0 n)
      (λ above.
      let lt : n - 1 < length old = omega arith in
      let many = length_all_zip (LaneTold (noted notes)) old new z in
      lane_at (LaneTold (noted notes)) (NamesOwn n notes) old new (n - 1) z lt
      (λ d t. subst (λ (k : ℕ). NamesOwn k notes) (t.same.0 ∙ ready.numbered (n - 1) d lt ∙ (let e : 1 + (n - 1) ≡ n = omega arith in e)) (named (n - 1) d (omega arith))))
      (λ none. let e : 0 ≡ n = omega arith in subst (λ (k : ℕ). NamesOwn k notes) e zero)

  -- the operations name the sessions that entered them
  pub operations_told : (engine : Engine) (first : Pass) (old new : List (Lane C)) (notes : Notes) → AreReady engine first old → AllZip (LaneTold (noted notes)) old new → All (λ (l : Lane C). NamesOwn l.session.number notes) new → NamesOwn 0 notes
      → ((made : ℕ) → HaveMade made first → AreUpTo made (noted notes)) → entries notes.operations.seen ≡ history_of (noted notes)
  operations_told engine first old new notes ready z named zero numbers =
      operations_are (length old) notes.operations.seen (names_each engine first old new notes ready z named zero) (up_raw (length old) notes.operations.seen (numbers (length old) ready.made.made).operations)

  -- so their sessions are those numbers
  pub sessions_told : (engine : Engine) (first : Pass) (old new : List (Lane C)) (notes : Notes) → AreReady engine first old → AllZip (LaneTold (noted notes)) old new → All (λ (l : Lane C). NamesOwn l.session.number notes) new → NamesOwn 0 notes
      → ((made : ℕ) → HaveMade made first → AreUpTo made (noted notes)) → map (λ (e : ℕ × Operation). e.1.session) notes.operations.seen ≡ sessions_in (history_of (noted notes))
  sessions_told engine first old new notes ready z named zero numbers = sym (sessions_are notes.operations.seen) ∙ ap sessions_in (operations_told engine first old new notes ready z named zero numbers)
