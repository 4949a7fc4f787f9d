-- The first pass of a store that was opened, and the orders of a script.
use Rattle.std.proofs.Common.{◌≡◌, ◌∙◌, ℕ, ◌≤◌, Bool, true, List, [], ◌∷◌, length, map, drop, get_or, refl, sym, ap, subst, arith}
use Rattle.std.specs.Prelude.{All, IsTrue}
use Rattle.std.specs.Global.{Vec}
use Rattle.std.specs.List.{list_all}
use Rattle.std.proofs.lemmas.Bool.{and_parts, leb-true}
use Rattle.std.proofs.lemmas.List.Elements.{All-cons, All-nil}
use Rattle.std.proofs.lemmas.List.Folds.{list_all-append}
use Rattle.chronicle.specs.History.{NumbersUpTo}
use Rattle.facet_engine.specs.Steps.{point_of, seen_of}
use Rattle.facet_engine.specs.Exchange.{AreCounted, HaveMade}
use Rattle.facet_model.specs.Documents.{Doc}
use Rattle.facet_model.specs.Histories.{Operation, add}
use Rattle.facet_output.specs.Output.{Opened, opened_pair}
use Rattle.facet_output.specs.Seen.{CommitPoint, Seen, opened_seen}
use Rattle.facet_words.specs.CommandViews.{order_view}
use Rattle.facet_words.specs.Commands as plain
use Rattle.facet_words.specs.ScriptOrder.{AreInOrder, lines_rise, orders_in}
use Rattle.facet_words.specs.Shapes.{is_within}
use Rattle.facet_words.specs.declared.command.Order.{Order}
use Rattle.pair_manager.specs.declared.pass.Pass.{Pass}
use Rattle.pair_manager.specs.Published.{numbers}

-- ---- the first pass

-- all of them are under 0
zero_all : {A B C : Type 0} (f : A → B) (g : C → B) (xs : List (ℕ × A)) (ys : List C) → map {B = ℕ × B} (λ e. (e.0, f e.1)) xs ≡ map {B = ℕ × B} (λ y. (0, g y)) ys → NumbersUpTo 0 xs
zero_all {A} f g [] ys is = All-nil (λ (e : ℕ × A). e.0 ≤ 0)
zero_all {A} f g (x ∷ xs) [] is = absurd (cc is)
zero_all {A} {B} f g (x ∷ xs) (y ∷ ys) is =
    let first : x.0 ≡ 0 = ap (λ (l : List (ℕ × B)). (get_or l 0 (0, g y)).0) is in
    All-cons (λ (e : ℕ × A). e.0 ≤ 0) x xs (omega (arith, first)) (zero_all f g xs ys (ap (drop 1) is))

pub counted : (first : Pass) (opened : Opened) → HaveMade 0 first → seen_of first ≡ opened_seen opened → AreCounted first
counted first opened made seen =
    let labels = zero_all {A = List (List ℕ)} {B = List (List ℕ)} {C = List (List ℕ)} (λ p. p) (λ p. p) first.labels.seen (drop 1 opened.labels) (same first.labels.seen ∙ ap (λ (s : Seen). s.labels) seen) in
    let operations = zero_all (λ (o : Operation). o.change) (λ (d : Doc). add d) first.operations.seen opened.docs (ap (λ (s : Seen). s.operations) seen) in
    let pairs = zero_all numbers (λ (p : ℕ × ℕ). p) first.pairs.seen (opened_pair opened ∷ []) (ap (λ (s : Seen). s.pairs) seen) in
    let commits = zero_all point_of (λ (p : CommitPoint). p) first.commits.seen (record { operations = length opened.docs; labels = length opened.labels; failed = _ } ∷ []) (ap (λ (s : Seen). s.commits) seen) in
    ((λ note zero. up first.labels.seen first.labels.made made.0 labels), (λ note zero. up first.operations.seen first.operations.made made.1 operations), (λ note zero. up first.pairs.seen first.pairs.made made.2 pairs), (λ note zero. up first.commits.seen first.commits.made made.3 commits))
  where
    same : (es : List (ℕ × List (List ℕ))) → map {B = ℕ × List (List ℕ)} (λ e. (e.0, e.1)) es ≡ es
    same [] = refl
    same (e ∷ es) = ap (λ (l : List (ℕ × List (List ℕ))). e ∷ l) (same es)

    up : {A : Type 0} (es : List (ℕ × A)) (made : ℕ) → made ≡ 0 → NumbersUpTo 0 es → NumbersUpTo made es
    up es made is all = subst (λ n. NumbersUpTo n es) (sym is) all

-- ---- the orders of a script

abbrev plain_phases : List (Vec Order) → List (List plain.Order)
plain_phases phases = map (λ (phase : Vec Order). map order_view phase.items) phases

-- the session is one of 64
abbrev IsSession : Order → Type 0
IsSession o = (1 ≤ o.session) × (o.session ≤ 64)

one_phase : (orders : List Order) → list_all (λ (o : plain.Order). is_within 1 64 o.session) (map order_view orders) ≡ true → All IsSession orders
one_phase [] is = All-nil IsSession
one_phase (o ∷ orders) is =
    let both = and_parts (is_within 1 64 o.session) (list_all (λ (o : plain.Order). is_within 1 64 o.session) (map order_view orders)) is in
    let ends = and_parts _ _ both.0 in
    All-cons IsSession o orders (leb-true 1 o.session ends.0, leb-true o.session 64 ends.1) (one_phase orders both.1)

each_session : (phases : List (Vec Order)) → list_all (λ (o : plain.Order). is_within 1 64 o.session) (orders_in (plain_phases phases)) ≡ true → All (λ (phase : Vec Order). All IsSession phase.items) phases
each_session [] is = All-nil (λ (phase : Vec Order). All IsSession phase.items)
each_session (p ∷ phases) is =
    let within : plain.Order → Bool = λ o. is_within 1 64 o.session in
    let both = and_parts (list_all within (map order_view p.items)) (list_all within (orders_in (plain_phases phases))) (sym (list_all-append within (map order_view p.items) (orders_in (plain_phases phases))) ∙ is) in
    All-cons (λ (phase : Vec Order). All IsSession phase.items) p phases (one_phase p.items both.0) (each_session phases both.1)

each_rises : (phases : List (Vec Order)) → list_all lines_rise (plain_phases phases) ≡ true → All (λ (phase : Vec Order). IsTrue (lines_rise (map order_view phase.items))) phases
each_rises [] is = All-nil (λ (phase : Vec Order). IsTrue (lines_rise (map order_view phase.items)))
each_rises (p ∷ phases) is =
    let both = and_parts (lines_rise (map order_view p.items)) (list_all lines_rise (plain_phases phases)) is in
    All-cons (λ (phase : Vec Order). IsTrue (lines_rise (map order_view phase.items))) p phases both.0 (each_rises phases both.1)

module _ (phases : List (Vec Order)) (order : AreInOrder (plain_phases phases)) where
  pub lines_in_order : All (λ (phase : Vec Order). IsTrue (lines_rise (map order_view phase.items))) phases
  lines_in_order = each_rises phases order.each

  pub sessions_few : All (λ (phase : Vec Order). All (λ (o : Order). o.session ≤ 64) phase.items) phases
  sessions_few = λ i phase lt k o within. (each_session phases order.sessions i phase lt k o within).1

  pub sessions_within : (count : ℕ) → All (λ (phase : Vec Order). All (λ (o : Order). o.session ≤ count) phase.items) phases
      → All (λ (phase : Vec Order). All (λ (o : Order). (1 ≤ o.session) × (o.session ≤ count)) phase.items) phases
  sessions_within count all = λ i phase lt k o within. ((each_session phases order.sessions i phase lt k o within).0, all i phase lt k o within)
