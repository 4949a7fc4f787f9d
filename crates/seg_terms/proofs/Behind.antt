-- Places that are put behind those of a term.
use Rattle.std.proofs.Common.{◌≡◌, ℕ, Bool, true, false, cond, List, [], ◌∷◌, ◌++◌, Option, Some, None, refl, sym, ap, ◌∙◌, append_assoc}
use Rattle.std.specs.Prelude.{unwrap_or}
use Rattle.std.specs.Str.{bytes_eq}
use Rattle.std.proofs.lemmas.List.{append-nil}
use Rattle.seg_terms.specs.Noting.{Table, found, behind, AreNotedBehind}
use Rattle.seg_terms.proofs.Tables.{bytes_same, bytes_back}

pub behind_behind : (o : Option (List ℕ)) (ps qs : List ℕ) → behind (behind o ps) qs ≡ behind o (ps ++ qs)
behind_behind o [] qs = refl
behind_behind o (p ∷ ps) [] = ap (λ l. Some (unwrap_or o [] ++ p ∷ l)) (sym (append-nil ps))
behind_behind o (p ∷ ps) (q ∷ qs) = ap Some (append_assoc (unwrap_or o []) (p ∷ ps) (q ∷ qs))

pub behind_some : (xs ps : List ℕ) → behind (Some xs) ps ≡ Some (xs ++ ps)
behind_some xs [] = ap Some (sym (append-nil xs))
behind_some xs (p ∷ ps) = refl

pub behind_fresh : (ps : List ℕ) → (ps ≡ [] → ⊥) → behind None ps ≡ Some ps
behind_fresh [] some = absurd (some refl)
behind_fresh (p ∷ ps) some = refl

-- an update of the table at a term
pub noted_behind : (old new : Table) (term ps all : List ℕ) → ((t : List ℕ) → found new t ≡ cond (bytes_eq term t) (Some all) (found old t)) → behind (found old term) ps ≡ Some all → AreNotedBehind term ps old new
noted_behind old new term ps all updates is t = by (bytes_eq t term) refl
  where
    by : (b : Bool) → bytes_eq t term ≡ b → found new t ≡ cond b (behind (found old t) ps) (found old t)
    by true e = updates t ∙ ap (λ b. cond b (Some all) (found old t)) (bytes_back term t ∙ e) ∙ sym is ∙ ap (λ u. behind (found old u) ps) (sym (bytes_same t term e))
    by false e = updates t ∙ ap (λ b. cond b (Some all) (found old t)) (bytes_back term t ∙ e)

-- no place changes nothing
pub noted_nothing : (table : Table) (term ps : List ℕ) → ps ≡ [] → AreNotedBehind term ps table table
noted_nothing table term ps none t = by (bytes_eq t term) ∙ ap (λ l. cond (bytes_eq t term) (behind (found table t) l) (found table t)) (sym none)
  where
    by : (b : Bool) → found table t ≡ cond b (found table t) (found table t)
    by true = refl
    by false = refl
