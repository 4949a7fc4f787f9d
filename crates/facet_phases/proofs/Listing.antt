-- How phases end that are known from the beginning.
use Rattle.std.proofs.Common.{◌≡◌, ◌∙◌, ◌+◌, ◌<◌, List, [], ◌∷◌, ◌++◌, Option, Some, None, inl, inr, length, map, take, refl, sym, ap, subst, arith, append_assoc, append-nil, length-append}
use Rattle.std.specs.Prelude.{All, IfSome, Result, Ok, Err}
use Rattle.std.specs.Option.{option_to_list}
use Rattle.std.proofs.lemmas.List.{take_at}
use Rattle.std.proofs.lemmas.List.Elements.{All-head, All-tail}
use Rattle.facet_words.specs.Commands.{Order}
use Rattle.facet_output.specs.Answered.{Answered, in_writing_order}
use Rattle.facet_output.specs.Sessions.{answers_of, steps_of}
use Rattle.facet_output.specs.Steps.{Step}
use Rattle.facet_phases.specs.declared.collector.Output.{Ghosts as OutputGhosts}
use Rattle.facet_phases.specs.declared.fault.PhaseFault.{PhaseFault}
use Rattle.facet_phases.specs.declared.fault.PhaseFault.TheVariants.{Write, NoMemory}
use Rattle.facet_phases.specs.declared.phases.Phases.{Ghosts as PhasesGhosts}
use Rattle.facet_phases.specs.Ending.{BreaksBehind}
use Rattle.facet_phases.specs.Listing.{Listing, IsGiven, IsOver, phases_of}
use Rattle.facet_phases.specs.Phases.{answers_in}
use Rattle.facet_phases.specs.Runs.{BreaksAfter, EndedSo, EndsAfter, EndsBy, NeverBegins, StopsAfter}
use Rattle.facet_phases.specs.Taking.{At, at, Ends, Fails, Gives, Took}
use Rattle.facet_phases.proofs.Stepping.{answers_append}

-- ---- the next of an iterator, and the rest

module _ {A : Type 0} (Q : A → Type 0) (old new : List A) where
  pub first_of : (next : Option A) → old ≡ option_to_list next ++ new → All Q old → IfSome next Q
  first_of None is all = tt
  first_of (Some x) is all = All-head Q x new (subst (All Q) is all)

  pub rest_of : (next : Option A) → old ≡ option_to_list next ++ new → All Q old → All Q new
  rest_of None is all = subst (All Q) is all
  rest_of (Some x) is all = All-tail Q x new (subst (All Q) is all)

-- ---- the first of a list, one more, and the rest

module _ {A : Type 0} (all front rest : List A) (x : A) (is : all ≡ front ++ x ∷ rest) where
  taken : take (length front) all ≡ front
  taken = ap (take (length front)) is ∙ take_at front (x ∷ rest) (length front) refl

  taken_more : take (length front + 1) all ≡ front ++ x ∷ []
  taken_more =
      let many : length (front ++ x ∷ []) ≡ length front + 1 = length-append front (x ∷ []) in
      ap (take (length front + 1)) (is ∙ sym (append_assoc front (x ∷ []) rest)) ∙ take_at (front ++ x ∷ []) rest (length front + 1) many

  one_left : length front < length all
  one_left = let many : length all ≡ length front + length (x ∷ rest) = ap length is ∙ length-append front (x ∷ rest) in omega arith

-- in terms of what gives phases of a list, and never fails
module _ {C O : Type 0} (phases : PhasesGhosts Listing O) (output : OutputGhosts O C)
    (gives : (a b : At Listing O) (orders : List Order) → Gives phases a b orders → IsGiven a.phases b.phases orders × (b.out ≡ a.out))
    (ends : (a b : At Listing O) → Ends phases a b → IsOver a.phases b.phases × (b.out ≡ a.out))
    (fails : (a b : At Listing O) (fault : PhaseFault) → Fails phases a b fault → ⊥)
    (flushes_none : (o : O) → output.flushes o o [])
    (flushes_then : (a b c : O) (xs ys : List Answered) → output.flushes a b xs → output.flushes b c ys → output.flushes a c (xs ++ ys)) where
  -- these were the first of the list, and what was kept of the replies was handed over
  record AreFirst (start now : At Listing O) (all : List (List Order)) (ran : List (List Step)) : Type 0 where
    is : phases_of start.phases ≡ all ++ phases_of now.phases
    handed : output.flushes start.out now.out (answers_of ran)

  are_first : (start now : At Listing O) (all : List (List Order)) (ran : List (List Step)) → Took phases output start now all (map answers_in ran) → AreFirst start now all ran
  are_first start now [] [] took = record {
    is = ap (λ (m : At Listing O). phases_of m.phases) took;
    handed = subst (λ (m : At Listing O). output.flushes start.out m.out []) took (flushes_none start.out);
  }
  are_first start now [] (x ∷ ran) took = absurd took
  are_first start now (o ∷ all) [] took = absurd took
  are_first start now (o ∷ all) (x ∷ ran) took =
      let g = gives start took.0 o took.1 in
      let later = are_first (at took.0.phases took.2) now all ran took.4 in
      record {
        is = g.0.phases ∙ ap (λ (l : List (List Order)). o ∷ l) later.is;
        handed = subst (output.flushes start.out now.out) (sym (answers_append x (steps_of ran)))
            (flushes_then start.out took.2 now.out (answers_in x) (answers_of ran) (subst (λ (u : O). output.flushes u took.2 (answers_in x)) g.1 took.3) later.handed);
      }

  module _ (Ran : List (List Order) → List (List Step) → Type 0) (start end : At Listing O) where
    abbrev all : List (List Order)
    all = phases_of start.phases

    abbrev Flushes : List Answered → Type 0
    Flushes = output.flushes start.out end.out

    abbrev Breaks : List Answered → List Answered → Type 0
    Breaks = BreaksBehind output.flushes output.breaks start.out end.out

    ended : EndsAfter phases output Ran start end → EndedSo Ran Flushes Breaks all (Ok tt)
    ended e =
        let f = are_first start e.now e.before.all e.before.ran e.before.took in
        let over = ends e.now end e.ended in
        let whole : e.before.all ≡ all = sym (f.is ∙ ap (λ (l : List (List Order)). e.before.all ++ l) over.0.none ∙ append-nil e.before.all) in
        (e.before.ran, subst (λ (l : List (List Order)). Ran l e.before.ran) whole e.ran, subst (λ (o : O). output.flushes start.out o (answers_of e.before.ran)) (sym over.1) f.handed)

    broken : (fault : PhaseFault) → BreaksAfter phases output Ran start end fault → EndedSo Ran Flushes Breaks all (Err Write)
    broken fault e =
        let done : List (List Order) = e.before.all in
        let ran : List (List Step) = e.before.ran in
        let f = are_first start e.now done ran e.before.took in
        let g = gives e.now e.given e.orders e.gave in
        let rest : List (List Order) = phases_of e.given.phases in
        let is : all ≡ done ++ e.orders ∷ rest = f.is ∙ ap (λ (l : List (List Order)). done ++ l) g.0.phases in (
          length done,
          ran,
          e.steps,
          record {
            next = one_left all done rest e.orders is;
            carried = subst (λ (l : List (List Order)). Ran l (ran ++ e.steps ∷ [])) (sym (taken_more all done rest e.orders is)) e.ran;
            before = e.before.asked ∙ ap in_writing_order (sym (taken all done rest e.orders is));
          },
          (e.now.out, f.handed, subst (λ (o : O). output.breaks o end.out (answers_in e.steps)) g.1 e.broke),
        )

    stopped : (fault : PhaseFault) → StopsAfter phases output Ran start end fault → EndedSo Ran Flushes Breaks all (Err NoMemory)
    stopped fault e =
        let done : List (List Order) = e.before.all in
        let ran : List (List Step) = e.before.ran in
        let f = are_first start e.now done ran e.before.took in
        let g = gives e.now end e.orders e.gave in
        let rest : List (List Order) = phases_of end.phases in
        let is : all ≡ done ++ e.orders ∷ rest = f.is ∙ ap (λ (l : List (List Order)). done ++ l) g.0.phases in
        let so_far : take (length done) all ≡ done = taken all done rest e.orders is in (
          length done,
          ran,
          record {
            short = e.cut ∷ [];
            cut = (e.orders, taken_more all done rest e.orders is ∙ ap (λ (l : List (List Order)). l ++ e.orders ∷ []) (sym so_far), e.first);
            steps = e.steps ∷ [];
            carried = subst (λ (l : List (List Order)). Ran (l ++ e.cut ∷ []) (ran ++ e.steps ∷ [])) (sym so_far) e.ran;
            whole = e.before.asked ∙ ap in_writing_order (sym so_far);
          },
          subst (λ (o : O). output.flushes start.out o (answers_of ran)) (sym g.1) f.handed,
        )

    never : (fault : PhaseFault) → NeverBegins phases output Ran start end fault → EndedSo Ran Flushes Breaks all (Err NoMemory)
    never fault e = (
      0,
      [],
      record { short = []; cut = tt; steps = []; carried = e.ran; whole = refl },
      subst (λ (m : At Listing O). output.flushes start.out m.out []) (sym e.same) (flushes_none start.out),
    )

    pub listed_ended : (result : Result (Unit {0}) PhaseFault) → EndsBy phases output Ran start end result → EndedSo Ran Flushes Breaks all result
    listed_ended (Ok u) e = ended e
    listed_ended (Err fault) (inl e) = absurd (fails e.now end fault e.failed)
    listed_ended (Err fault) (inr (inl e)) = subst (λ (f : PhaseFault). EndedSo Ran Flushes Breaks all (Err f)) (sym e.is) (broken fault e)
    listed_ended (Err fault) (inr (inr (inl e))) = subst (λ (f : PhaseFault). EndedSo Ran Flushes Breaks all (Err f)) (sym e.is) (stopped fault e)
    listed_ended (Err fault) (inr (inr (inr e))) = subst (λ (f : PhaseFault). EndedSo Ran Flushes Breaks all (Err f)) (sym e.is) (never fault e)
