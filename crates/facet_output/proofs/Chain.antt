-- What a session sees and enters, step by step.
use Rattle.std.proofs.Common.{◌≡◌, ◌⊎◌, inl, inr, ⊎_elim, ℕ, ◌≤◌, ◌<◌, true, List, [], ◌∷◌, length, Some, slice_get, refl, sym, subst}
use Rattle.std.specs.Prelude.{AllPairs, IsTrue}
use Rattle.std.proofs.lemmas.Bool.{cases_lt}
use mathlib.Core.List.{IsPrefix}
use Rattle.facet_words.specs.Commands.{Settings}
use Rattle.facet_output.specs.Answered.{comes_after}
use Rattle.facet_output.specs.Held.{Held, held_after}
use Rattle.facet_output.specs.Seen.{Entries, Seen, Sees, IsTold, entered_by}
use Rattle.facet_output.specs.Steps.{Step, IsStep}
use Rattle.facet_output.specs.Sessions.{SessionRan}
use Rattle.facet_output.proofs.Among.{In, pairs_head, pairs_tail}
use Rattle.facet_output.proofs.HeldPairs.{HeldIn, held_more, held_step}
use Rattle.facet_output.proofs.Fronts.{get_back, own_front}
use Rattle.chronicle.proofs.Prefixes.{prefix_self, prefix_trans}

pub sees_self : (a : Seen) → Sees a a
sees_self a = record { labels = prefix_self a.labels; operations = prefix_self a.operations; pairs = prefix_self a.pairs; commits = prefix_self a.commits }

pub sees_trans : (a b c : Seen) → Sees a b → Sees b c → Sees a c
sees_trans a b c p q = record {
  labels = prefix_trans a.labels b.labels c.labels p.labels q.labels;
  operations = prefix_trans a.operations b.operations c.operations p.operations q.operations;
  pairs = prefix_trans a.pairs b.pairs c.pairs p.pairs q.pairs;
  commits = prefix_trans a.commits b.commits c.commits p.commits q.commits;
}

module _ (settings : Settings) (session : ℕ) where
  pub sees_last : (held : Held) (seen : Seen) (xs : List Step) (last : Seen) → SessionRan settings session held seen xs last → Sees seen last
  sees_last held seen [] last told = told.sees
  sees_last held seen (x ∷ xs) last ran =
      sees_trans seen x.before last ran.0.sees (sees_trans x.before x.after last ran.1.sees (sees_last (held_after held x.answered) x.after xs last ran.2))

  -- each step lies between the beginning and the end
  pub each_step : (held : Held) (seen : Seen) (xs : List Step) (last : Seen) (x : Step) → SessionRan settings session held seen xs last → HeldIn held seen → In x xs
      → Sees seen x.before × Sees x.after last × ((h : Held) × IsStep settings h x × HeldIn h x.before)
  each_step held seen [] last x ran within there = absurd there
  each_step held seen (y ∷ xs) last x ran within there =
      let within' = held_more held seen y.before ran.0.sees within in
      let within'' = held_step settings held y ran.1 within' in
      let later = sees_last (held_after held y.answered) y.after xs last ran.2 in
      let here : Sees seen y.before × Sees y.after last × ((h : Held) × IsStep settings h y × HeldIn h y.before) = (ran.0.sees, later, (held, ran.1, within')) in
      ⊎_elim (λ is. subst (λ (z : Step). Sees seen z.before × Sees z.after last × ((h : Held) × IsStep settings h z × HeldIn h z.before)) (sym is) here)
      (λ behind. let rest = each_step (held_after held y.answered) y.after xs last x ran.2 within'' behind in
      (sees_trans seen y.before x.before ran.0.sees (sees_trans y.before y.after x.before ran.1.sees rest.0), rest.1, rest.2)) there

  later_sees : (held : Held) (seen : Seen) (xs : List Step) (last : Seen) (x : Step) → SessionRan settings session held seen xs last → In x xs → Sees seen x.before
  later_sees held seen [] last x ran there = absurd there
  later_sees held seen (y ∷ xs) last x ran there = ⊎_elim
      (λ is. subst (λ (z : Step). Sees seen z.before) (sym is) ran.0.sees)
      (λ behind. sees_trans seen y.before x.before ran.0.sees (sees_trans y.before y.after x.before ran.1.sees (later_sees (held_after held y.answered) y.after xs last x ran.2 behind))) there

  -- what a step has seen is seen before each later one
  pub in_turn : (held : Held) (seen : Seen) (xs : List Step) (last : Seen) (x y : Step) → SessionRan settings session held seen xs last
      → AllPairs (λ (x y : Step). IsTrue (comes_after y.answered x.answered)) xs → In x xs → In y xs → comes_after y.answered x.answered ≡ true
      → ((a b : Step) → comes_after a.answered b.answered ≡ true → comes_after b.answered a.answered ≡ true → ⊥) → Sees x.after y.before
  in_turn held seen [] last x y ran order there there' after apart = absurd there
  in_turn held seen (z ∷ xs) last x y ran order there there' after apart =
      ⊎_elim (λ x_is. ⊎_elim
      (λ y_is. absurd (apart z z (itself x_is y_is) (itself x_is y_is)))
      (λ y_later. subst (λ (w : Step). Sees w.after y.before) (sym x_is) (later_sees (held_after held z.answered) z.after xs last y ran.2 y_later)) there')
      (λ x_later. ⊎_elim
      (λ y_is. absurd (apart x y (subst (λ (w : Step). comes_after x.answered w.answered ≡ true) (sym y_is) (pairs_head (λ (x y : Step). IsTrue (comes_after y.answered x.answered)) z xs x order x_later)) after))
      (λ y_later. in_turn (held_after held z.answered) z.after xs last x y ran.2 (pairs_tail (λ (x y : Step). IsTrue (comes_after y.answered x.answered)) z xs order) x_later y_later after apart) there') there
    where
      itself : x ≡ z → y ≡ z → comes_after z.answered z.answered ≡ true
      itself x_is y_is = subst (λ (w : Step). comes_after z.answered w.answered ≡ true) x_is (subst (λ (w : Step). comes_after w.answered x.answered ≡ true) y_is after)

  -- each entry of the session stands there from the beginning, or one of its steps entered it
  pub origin : {A : Type 0} (part : Seen → Entries A) → ((a b : Seen) → Sees a b → IsPrefix (part a) (part b)) → ((a b : Seen) → IsTold session a b → entered_by session (part b) ≡ entered_by session (part a))
      → (held : Held) (seen : Seen) (xs : List Step) (last : Seen) → SessionRan settings session held seen xs last
      → (k : ℕ) (e : A) → slice_get (part last) k ≡ Some (session, e) → (k < length (part seen)) ⊎ ((x : Step) × In x xs × (length (part x.before) ≤ k) × (slice_get (part x.after) k ≡ Some (session, e)))
  origin part begins told held seen [] last ran k e there = inl (own_front session (part seen) (part last) k e (begins seen last ran.sees) (told seen last ran) there)
  origin part begins told held seen (x ∷ xs) last ran k e there =
      let later = sees_last (held_after held x.answered) x.after xs last ran.2 in
      let to_last = begins x.before last (sees_trans x.before x.after last ran.1.sees later) in
      ⊎_elim
      (λ lt. inl (own_front session (part seen) (part x.before) k e (begins seen x.before ran.0.sees) (told seen x.before ran.0) (get_back (part x.before) (part last) k (session, e) to_last lt there)))
      (λ ge. ⊎_elim
      (λ lt. inr (x, inl refl, ge, get_back (part x.after) (part last) k (session, e) (begins x.after last later) lt there))
      (λ r. inr (r.0, inr r.1, r.2, r.3))
      (origin part begins told (held_after held x.answered) x.after xs last ran.2 k e there))
      (cases_lt k (length (part x.before)))
