-- Two sessions that ran: what they saw and entered is as it has to be, and so their output is right.
use Rattle.std.proofs.Common.{◌≡◌, ℕ, zero, suc, List, [], ◌∷◌, false, refl, subst, ap, eqb, arith, inl}
use Rattle.std.specs.Prelude.{codes, Option, Some, None, All, unwrap_or, map}
use Rattle.std.proofs.lemmas.List.Elements.{All-from_recursion}
use mathlib.Core.List.{IsPrefix}
use Rattle.facet_model.specs.Histories as histories
use Rattle.facet_words.specs.Commands.{Command, add, refresh, search}
use Rattle.facet_replies.specs.Replies.{placed, numbered}
use Rattle.facet_output.specs.Answered.{Answered}
use Rattle.facet_output.specs.Output.{IsOutput}
use Rattle.facet_output.specs.Seen.{Seen, Sees, IsTold, Entries, EachNew, EntersNone, opened_seen, labels_of, history_of}
use Rattle.facet_output.specs.Steps.{Step, IsStep, IsEntered}
use Rattle.facet_output.specs.Sessions.{SessionRan, AllRan, steps_of, own_steps}
use Rattle.facet_output.proofs.Fronts.{own_front}
use Rattle.facet_model.proofs.Samples.{author, bob, lisa}
use Rattle.facet_output.proofs.Samples.{empty_store, plain_settings}
use Rattle.facet_output.proofs.Holding.{everything}
use Rattle.facet_output.proofs.TwoSessions.{answer_of, seeing, each_session, phases, two_swapped, none_found}
use Rattle.facet_output.proofs.Assembled.{sessions_give_output}
use Rattle.facet_output.proofs.Gluing.{told_itself}

-- session 2 enters two labels and one operation, session 1 one of each behind them, and publishes
abbrev lisa_in : Seen
lisa_in = record (opened_seen empty_store) { labels = (2, codes "Author" ∷ []) ∷ (2, author (codes "Lisa")) ∷ []; operations = (2, histories.add lisa) ∷ [] }

abbrev bob_in : Seen
bob_in = record (opened_seen empty_store) { labels = (2, codes "Author" ∷ []) ∷ (2, author (codes "Lisa")) ∷ (1, author (codes "Bob")) ∷ []; operations = (2, histories.add lisa) ∷ (1, histories.add bob) ∷ [] }

abbrev both_published : Seen
both_published = record bob_in { pairs = (0, (0, 1)) ∷ (1, (2, 4)) ∷ [] }

abbrev start : Seen
start = opened_seen empty_store

abbrev step : Answered → Seen → Seen → Step
step answered before after = record { answered = answered; before = before; after = after }

abbrev adds_bob : Step
adds_bob = step (answer_of 0 1 2 (add bob) None (placed 1)) start bob_in

abbrev refreshes : Step
refreshes = step (seeing 1 (answer_of 0 1 4 refresh None (numbered 2))) bob_in both_published

abbrev adds_lisa : Step
adds_lisa = step (answer_of 0 2 3 (add lisa) None (placed 0)) start lisa_in

abbrev searches : Step
searches = step (seeing 0 (answer_of 0 2 5 (search None everything) (Some (0, 1)) none_found)) lisa_in lisa_in

abbrev searches_again : Step
searches_again = step (seeing 1 (answer_of 1 2 7 (search None everything) (Some (2, 4)) two_swapped)) both_published both_published

abbrev ran : List (List Step)
ran = (adds_bob ∷ refreshes ∷ adds_lisa ∷ searches ∷ []) ∷ (searches_again ∷ []) ∷ []

-- ---- what was seen

sees : (a b : Seen) → IsPrefix a.labels b.labels → IsPrefix a.operations b.operations → IsPrefix a.pairs b.pairs → IsPrefix a.commits b.commits → Sees a b
sees a b p q r s = record { labels = p; operations = q; pairs = r; commits = s }

-- an order that enters no label
pub no_new : {A : Type 0} (n : ℕ) (P : ℕ → A → Type 0) (old new : Entries A) → EntersNone n old new → EachNew n P old new
no_new n P old new enters i x le at = let l = own_front n old new i x enters.0 enters.1 at in absurd (omega arith)

abbrev IsLabelOf : Command → Seen → ℕ → List (List ℕ) → Type 0
IsLabelOf command after i path = IsEntered plain_settings command (labels_of after) i path

path_at : (path x : List (List ℕ)) (n : ℕ) → ◌≡◌ {A = Option (ℕ × List (List ℕ))} (Some (n, path)) (Some (n, x)) → path ≡ x
path_at path x n e = ap (λ (o : Option (ℕ × List (List ℕ))). (unwrap_or o (n, x)).1) e

other : (n m : ℕ) (path x : List (List ℕ)) → (n ≡ m → ⊥) → ◌≡◌ {A = Option (ℕ × List (List ℕ))} (Some (n, path)) (Some (m, x)) → ⊥
other n m path x apart e = apart (ap (λ (o : Option (ℕ × List (List ℕ))). (unwrap_or o (n, path)).0) e)

bobs : EachNew 1 (IsLabelOf (add bob) bob_in) start.labels bob_in.labels
bobs zero x le at = absurd (other 2 1 (codes "Author" ∷ []) x (omega arith) at)
bobs (suc zero) x le at = absurd (other 2 1 (author (codes "Lisa")) x (omega arith) at)
bobs (suc (suc zero)) x le at = subst (IsLabelOf (add bob) bob_in 2) (path_at (author (codes "Bob")) x 1 at) (refl, omega arith, refl)
bobs (suc (suc (suc k))) x le at = absurd cc

lisas : EachNew 2 (IsLabelOf (add lisa) lisa_in) start.labels lisa_in.labels
lisas zero x le at = subst (IsLabelOf (add lisa) lisa_in 0) (path_at (codes "Author" ∷ []) x 2 at) (refl, omega arith, refl)
lisas (suc zero) x le at = subst (IsLabelOf (add lisa) lisa_in 1) (path_at (author (codes "Lisa")) x 2 at) (refl, omega arith, refl)
lisas (suc (suc k)) x le at = absurd cc

bob_steps : IsStep plain_settings [] adds_bob
bob_steps = record {
  sees = sees start bob_in (_, refl) (_, refl) ([], refl) ([], refl);
  right = inl (inl (1, refl, omega arith, refl));
  labels = bobs;
  operations = ((2, histories.add lisa) ∷ [], ((((2, histories.add lisa) ∷ [], refl), refl), refl), refl);
  pairs = (([], refl), refl);
  commits = (([], refl), refl);
  fresh = omega arith;
  took = tt;
  place = refl;
}

refresh_steps : IsStep plain_settings [] refreshes
refresh_steps = record {
  sees = sees bob_in both_published ([], refl) ([], refl) (_, refl) ([], refl);
  right = inl (2, omega arith, refl);
  labels = no_new 1 _ bob_in.labels both_published.labels (([], refl), refl);
  operations = (([], refl), refl);
  pairs = (start.pairs, 4, ((([], refl), refl), refl), omega arith, omega arith);
  commits = (([], refl), refl);
  fresh = omega arith;
  took = tt;
  place = (1, refl, refl);
}

lisa_steps : IsStep plain_settings [] adds_lisa
lisa_steps = record {
  sees = sees start lisa_in (_, refl) (_, refl) ([], refl) ([], refl);
  right = inl (inl (0, refl, omega arith, refl));
  labels = lisas;
  operations = ([], ((([], refl), refl), refl), refl);
  pairs = (([], refl), refl);
  commits = (([], refl), refl);
  fresh = omega arith;
  took = tt;
  place = refl;
}

search_steps : IsStep plain_settings [] searches
search_steps = record {
  sees = sees lisa_in lisa_in ([], refl) ([], refl) ([], refl) ([], refl);
  right = inl ([], tt, refl);
  labels = no_new 2 _ lisa_in.labels lisa_in.labels (([], refl), refl);
  operations = (([], refl), refl);
  pairs = (([], refl), refl);
  commits = (([], refl), refl);
  fresh = tt;
  took = (record { last = ([], 0, refl); operations = omega arith; labels = omega arith }, refl);
  place = (0, refl, refl);
}

again_steps : IsStep plain_settings [] searches_again
again_steps = record {
  sees = sees both_published both_published ([], refl) ([], refl) ([], refl) ([], refl);
  right = inl ([], tt, refl);
  labels = no_new 2 _ both_published.labels both_published.labels (([], refl), refl);
  operations = (([], refl), refl);
  pairs = (([], refl), refl);
  commits = (([], refl), refl);
  fresh = tt;
  took = (record { last = (start.pairs, 1, refl); operations = omega arith; labels = omega arith }, refl);
  place = (1, refl, refl);
}

-- ---- the run

told_bob : IsTold 2 lisa_in both_published
told_bob = record { sees = sees lisa_in both_published (_, refl) (_, refl) (_, refl) ([], refl); labels = refl; operations = refl; pairs = refl; commits = refl }

others : (s : ℕ) → eqb 1 s ≡ false → eqb 2 s ≡ false → SessionRan plain_settings s [] start (own_steps s (steps_of ran)) both_published
others s e f = rw (e, f) (record { sees = sees start both_published (_, refl) (_, refl) (_, refl) ([], refl); labels = rw (e, f) refl; operations = rw (e, f) refl; pairs = rw e refl; commits = refl })

-- a step of a phase, between what is known at its beginning and at its end
abbrev InPhase : ℕ → Seen → Seen → Step → Type 0
InPhase phase known next x = (x.answered.phase ≡ phase) × Sees known x.before × Sees x.after next

in_first : All (InPhase 0 start both_published) (adds_bob ∷ refreshes ∷ adds_lisa ∷ searches ∷ [])
in_first = All-from_recursion (InPhase 0 start both_published) (adds_bob ∷ refreshes ∷ adds_lisa ∷ searches ∷ []) (
  (refl, sees start start (_, refl) (_, refl) (_, refl) (_, refl), sees bob_in both_published (_, refl) (_, refl) (_, refl) (_, refl)),
  (
    (refl, sees start bob_in (_, refl) (_, refl) (_, refl) (_, refl), sees both_published both_published (_, refl) (_, refl) (_, refl) (_, refl)),
    (
      (refl, sees start start (_, refl) (_, refl) (_, refl) (_, refl), sees lisa_in both_published (_, refl) (_, refl) (_, refl) (_, refl)),
      ((refl, sees start lisa_in (_, refl) (_, refl) (_, refl) (_, refl), sees lisa_in both_published (_, refl) (_, refl) (_, refl) (_, refl)), tt),
    ),
  ),
)

in_second : All (InPhase 1 both_published both_published) (searches_again ∷ [])
in_second = All-from_recursion (InPhase 1 both_published both_published) (searches_again ∷ [])
    ((refl, sees both_published both_published (_, refl) (_, refl) (_, refl) (_, refl), sees both_published both_published (_, refl) (_, refl) (_, refl) (_, refl)), tt)

all_ran : AllRan plain_settings phases empty_store ran both_published
all_ran = record {
  asked = refl;
  in_line_order = refl;
  sessions = each_session (λ s. SessionRan plain_settings s [] start (own_steps s (steps_of ran)) both_published)
      (told_itself 1 start, bob_steps, (told_itself 1 bob_in, refresh_steps, told_itself 1 both_published))
      (told_itself 2 start, lisa_steps, (told_itself 2 lisa_in, search_steps, (told_bob, again_steps, told_itself 2 both_published)))
      others;
  told = (
    both_published,
    sees start both_published (_, refl) (_, refl) (_, refl) (_, refl),
    in_first,
    (both_published, sees both_published both_published (_, refl) (_, refl) (_, refl) (_, refl), in_second, sees both_published both_published (_, refl) (_, refl) (_, refl) (_, refl)),
  );
  rooted = refl;
  label_list = refl;
  publications = refl;
}

-- and so, by the law
their_output : IsOutput plain_settings phases empty_store (labels_of both_published) (history_of both_published) both_published.pairs (map (λ (x : Step). x.answered) (steps_of ran))
their_output = sessions_give_output plain_settings phases empty_store ran both_published all_ran
