-- The pairs that a session holds lie within what it has seen, and so does all that its replies show.
use Rattle.std.proofs.Common.{◌≡◌, inl, inr, ⊎_elim, ℕ, ◌+◌, ◌≤◌, Bool, true, false, cond, List, [], ◌∷◌, length, Option, Some, None, refl, sym, subst, arith}
use Rattle.std.specs.Prelude.{not, IfSome}
use Rattle.std.specs.Str.{bytes_eq}
use Rattle.facet_words.specs.Commands.{Settings}
use Rattle.facet_output.specs.Effects.{Effect, changes, publishes, holds, releases, persists, merges, looks, effect}
use Rattle.facet_output.specs.Held.{Held, held_under, held_after, after_effect, is_numbered}
use Rattle.facet_output.specs.Replying.{pair_seen}
use Rattle.facet_output.specs.Seen.{Seen, Sees, labels_of}
use Rattle.facet_output.specs.Steps.{Step, IsStep, IsLastPair}
use Rattle.facet_output.specs.Reported.{refreshed}
use Rattle.facet_output.proofs.Among.{In, of_filter, of_append}
use Rattle.facet_output.proofs.Fronts.{labels_size}
use Rattle.chronicle.proofs.Prefixes.{prefix_length}

-- all operations and labels of a pair were seen
abbrev pub PairIn : ℕ × ℕ → Seen → Type 0
PairIn pair seen = (pair.0 ≤ length seen.operations) × (pair.1 ≤ length seen.labels + 1)

-- and those of each held pair
abbrev pub HeldIn : Held → Seen → Type 0
HeldIn held seen = (h : List ℕ × (ℕ × ℕ)) → In h held → PairIn h.1 seen

pub held_more : (held : Held) (a b : Seen) → Sees a b → HeldIn held a → HeldIn held b
held_more held a b sees within h there = let l = prefix_length a.operations b.operations sees.operations in let m = prefix_length a.labels b.labels sees.labels in let k = (within h there).0 in let j = (within h there).1 in (omega arith, omega arith)

-- the pair under a name is held
pub under_held : (held : Held) (name : List ℕ) (pair : ℕ × ℕ) → held_under held name ≡ Some pair → (h : List ℕ × (ℕ × ℕ)) × In h held × (h.1 ≡ pair)
under_held [] name pair e = absurd cc
under_held (h ∷ held) name pair e = by (bytes_eq h.0 name) refl (under_held held name pair) e
  where
    by : (b : Bool) → bytes_eq h.0 name ≡ b → (held_under held name ≡ Some pair → (g : List ℕ × (ℕ × ℕ)) × In g held × (g.1 ≡ pair)) → held_under (h ∷ held) name ≡ Some pair → (g : List ℕ × (ℕ × ℕ)) × In g (h ∷ held) × (g.1 ≡ pair)
    by true t rest e = let f : Some h.1 ≡ Some pair = rw t at e in (h, inl refl, cc)
    by false t rest e = let f : held_under held name ≡ Some pair = rw t at e in let r = rest f in (r.0, inr r.1, r.2)

-- what is held after a command
effect_held : (e : Effect) (took : Option (ℕ × ℕ)) (held : Held) (seen : Seen) → IfSome took (λ pair. PairIn pair seen) → HeldIn held seen → HeldIn (after_effect e took held) seen
effect_held (holds name) None held seen new within h there = ⊎_elim (λ old. within h old) (λ none. absurd none) (of_append held [] h there)
effect_held (holds name) (Some pair) held seen new within h there = ⊎_elim (λ old. within h old)
    (λ last. ⊎_elim (λ is. subst (λ (g : List ℕ × (ℕ × ℕ)). PairIn g.1 seen) (sym is) new) (λ none. absurd none) last) (of_append held ((name, pair) ∷ []) h there)
effect_held (releases name) took held seen new within h there = within h (of_filter (λ (g : List ℕ × (ℕ × ℕ)). not (bytes_eq g.0 name)) held h there).0
effect_held (changes change) took held seen new within h there = within h there
effect_held publishes took held seen new within h there = within h there
effect_held persists took held seen new within h there = within h there
effect_held merges took held seen new within h there = within h there
effect_held (looks on) took held seen new within h there = within h there

taken_in : (took : Option (ℕ × ℕ)) (x : Step) → IfSome took (λ pair. IsLastPair x.after pair × (refreshed x.answered ≡ None)) → IfSome took (λ pair. PairIn pair x.after)
taken_in None x is = tt
taken_in (Some pair) x is = (is.0.operations, (let s : length (labels_of x.after) ≡ length x.after.labels + 1 = labels_size x.after in let l = is.0.labels in omega arith))

pub held_step : (settings : Settings) (held : Held) (x : Step) → IsStep settings held x → HeldIn held x.before → HeldIn (held_after held x.answered) x.after
held_step settings held x step within = by (is_numbered x.answered.reply) (held_more held x.before x.after step.sees within)
  where
    by : (b : Bool) → HeldIn held x.after → HeldIn (cond b (after_effect (effect x.answered.order.command) x.answered.took held) held) x.after
    by true within = effect_held (effect x.answered.order.command) x.answered.took held x.after (taken_in x.answered.took x step.took) within
    by false within = within

-- the pair that a command sees was seen
pub pair_in : (settings : Settings) (held : Held) (x : Step) (on : Option (List ℕ)) (pair : ℕ × ℕ) → IsStep settings held x → HeldIn held x.before → pair_seen held x.answered.took on ≡ Some pair → PairIn pair x.after
pair_in settings held x None pair step within e = taken x.answered.took (taken_in x.answered.took x step.took) e
  where
    taken : (took : Option (ℕ × ℕ)) → IfSome took (λ pair. PairIn pair x.after) → took ≡ Some pair → PairIn pair x.after
    taken None is e = absurd cc
    taken (Some p) is e = let same : p ≡ pair = cc in subst (λ (q : ℕ × ℕ). PairIn q x.after) same is
pair_in settings held x (Some name) pair step within e =
    let r = under_held held name pair e in
    subst (λ (q : ℕ × ℕ). PairIn q x.after) r.2 (held_more held x.before x.after step.sees within r.0 r.1)
