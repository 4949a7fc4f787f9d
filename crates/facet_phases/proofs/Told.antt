-- What the first pass is told.
use Rattle.std.proofs.Common.{◌∙◌, refl, ap, sym, subst, ℕ, ◌+◌, ◌<◌, List, length, get_or, arith}
use Rattle.std.specs.Prelude.{set}
use Rattle.std.proofs.lemmas.List.{get_or-set_same, get_or-set_other}
use native.Mathlib.Decide.{ℕ_discrete}
use mathlib.Core.Logic.{dite}
use Rattle.pair_manager.specs.declared.pass.Pass.{Pass}
use Rattle.facet_output.proofs.Gluing.{told_more, told_itself}
use Rattle.facet_engine.specs.declared.notes.Notes.{Notes}
use Rattle.facet_engine.specs.Ending.{NamesOwn}
use Rattle.facet_engine.specs.Steps.{seen_of}
use Rattle.facet_engine.specs.Exchange.{AreCounted}
use Rattle.facet_output.specs.Seen.{Seen}
use Rattle.facet_phases.specs.declared.lane.Lane.{Lane}
use Rattle.facet_phases.specs.Lanes.{Gathers, LaneTold}
use Rattle.facet_phases.proofs.Belonging.{pass_then}
use Rattle.facet_engine.proofs.SeenPairs.{same_pass}

pub gathers_none : (a : Pass) → AreCounted a → Gathers a a
gathers_none a counted = record { same = same_pass a; told = told_itself 0 (seen_of a); counted = counted; own = refl }

pub gathers_then : (a b c : Pass) → Gathers a b → Gathers b c → Gathers a c
gathers_then a b c p q = record { same = pass_then a b c p.same q.same; told = told_more 0 (seen_of a) (seen_of b) (seen_of c) p.told q.told; counted = q.counted; own = q.own ∙ p.own }

module _ {C : Type 0} where
  -- one session more is told
  pub lane_told : (next : Seen) (old lanes : List (Lane C)) (at : ℕ) (new : Lane C) → at < length lanes → ((d : Lane C) → LaneTold next (get_or old at d) new) → ((i : ℕ) (d : Lane C) → i < at → LaneTold next (get_or old i d) (get_or lanes i d))
      → (i : ℕ) (d : Lane C) → i < at + 1 → LaneTold next (get_or old i d) (get_or (set lanes at new) i d)
  lane_told next old lanes at new in' here before i d lt = dite (ℕ_discrete i at)
      (λ is. rw (is, get_or-set_same lanes at new d in') (here d))
      (λ other. rw (get_or-set_other lanes at i new d other) (before i d (omega arith)))

  -- each operation of one session more tells it
  pub lane_named : (notes : Notes) (lanes : List (Lane C)) (at : ℕ) (new : Lane C) → at < length lanes → NamesOwn new.session.number notes → ((i : ℕ) (d : Lane C) → i < at → NamesOwn (get_or lanes i d).session.number notes)
      → (i : ℕ) (d : Lane C) → i < at + 1 → NamesOwn (get_or (set lanes at new) i d).session.number notes
  lane_named notes lanes at new in' here before i d lt = dite (ℕ_discrete i at)
      (λ is. subst (λ (l : Lane C). NamesOwn l.session.number notes) (sym (ap (λ (n : ℕ). get_or (set lanes at new) n d) is ∙ get_or-set_same lanes at new d in')) here)
      (λ other. subst (λ (l : Lane C). NamesOwn l.session.number notes) (sym (get_or-set_other lanes at i new d other)) (before i d (omega arith)))
