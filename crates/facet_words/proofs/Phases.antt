-- Phases, read line by line.
use Rattle.std.proofs.Common.{◌≡◌, ℕ, ◌+◌, List, [], ◌∷◌, ◌++◌, Some, None, Result, Ok, Err, refl, sym, ap, ◌∙◌, append_assoc, append-nil}
use Rattle.facet_words.specs.declared.fault.ScriptFault.{ScriptFault}
use Rattle.facet_words.specs.Scripts.{◌>>=◌, Phases, phases_from, before, line_at}
use Rattle.facet_words.specs.Commands.{Order}

-- these phases and these orders of the next one, and then what was read
abbrev pub behind : List (List Order) → List Order → Result Phases ScriptFault → Result (List (List Order)) ScriptFault
behind done begun r = r >>= (λ phases. Ok (done ++ (begun ++ phases.0) ∷ phases.1))

-- `done` and `begun` are of the lines before `rest`, which begins with this number
pub record IsReadTo (done : List (List Order)) (begun : List Order) (line : ℕ) (rest : List (List ℕ)) (all : Result (List (List Order)) ScriptFault) : Type 0 where
  pub is : behind done begun (phases_from line rest) ≡ all

module _ (done : List (List Order)) (begun : List Order) (line : ℕ) (l : List ℕ) (rest : List (List ℕ)) (all : Result (List (List Order)) ScriptFault) where
  -- a line more, which is an order
  pub order_more : (o : Order) → line_at line l ≡ Ok (Some o) → IsReadTo done begun line (l ∷ rest) all → IsReadTo done (begun ++ o ∷ []) (line + 1) rest all
  order_more o is so = record { is = same (phases_from (line + 1) rest) ∙ ap (λ r. behind done begun (r >>= (λ order. phases_from (line + 1) rest >>= (λ phases. Ok (before order phases))))) (sym is) ∙ so.is }
    where
      same : (r : Result Phases ScriptFault) → behind done (begun ++ o ∷ []) r ≡ behind done begun (r >>= (λ phases. Ok (before (Some o) phases)))
      same (Ok p) = ap (λ (os : List Order). Ok (done ++ os ∷ p.1)) (append_assoc begun (o ∷ []) p.0)
      same (Err e) = refl

  -- a line more, which ends a phase
  pub phase_more : line_at line l ≡ Ok None → IsReadTo done begun line (l ∷ rest) all → IsReadTo (done ++ begun ∷ []) [] (line + 1) rest all
  phase_more is so = record { is = same (phases_from (line + 1) rest) ∙ ap (λ r. behind done begun (r >>= (λ order. phases_from (line + 1) rest >>= (λ phases. Ok (before order phases))))) (sym is) ∙ so.is }
    where
      same : (r : Result Phases ScriptFault) → behind (done ++ begun ∷ []) [] r ≡ behind done begun (r >>= (λ phases. Ok (before None phases)))
      same (Ok p) = ap (λ (ps : List (List Order)). Ok ps) (append_assoc done (begun ∷ []) (p.0 ∷ p.1)) ∙ ap (λ (os : List Order). Ok (done ++ os ∷ p.0 ∷ p.1)) (sym (append-nil begun))
      same (Err e) = refl
