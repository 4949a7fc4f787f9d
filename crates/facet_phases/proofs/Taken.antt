-- Orders that are taken one by one from the end of a list that was turned round.
use Rattle.std.proofs.Common.{◌≡◌, ◌∙◌, ◌+◌, List, [], ◌∷◌, ◌++◌, length, take, ap, sym, subst, arith}
use Rattle.std.specs.Prelude.{All, reverse}
use Rattle.std.proofs.lemmas.List.{append_assoc, reverse-append, reverse-reverse, length-append, append-nil, nil_from_length}
use Rattle.std.proofs.Math.Seq.{take-append_seam, get_or-append_seam}
use Rattle.facet_words.specs.declared.command.Order.{Order}

pub none_of_none : (orders : List Order) → length orders ≡ 0 → orders ≡ []
none_of_none orders none = nil_from_length orders none

-- these were taken, and those are left
pub record AreTaken (all left done : List Order) : Type 0 where
  pub is : done ++ reverse left ≡ all

module _ (all left rest done : List Order) (o : Order) (so_far : AreTaken all left done) (last : left ≡ rest ++ o ∷ []) where
  turned : done ++ o ∷ reverse rest ≡ all
  turned = (λ i. done ++ sym (ap reverse last ∙ reverse-append rest (o ∷ [])) i) ∙ so_far.is

  -- the next one is one of them
  pub one_of_all : (P : Order → Type 0) → All P all → P o
  one_of_all P each =
      let among : All P (done ++ o ∷ reverse rest) = subst (All P) (sym turned) each in
      let many : length (done ++ o ∷ reverse rest) ≡ length done + length (o ∷ reverse rest) = length-append done (o ∷ reverse rest) in
      subst P (get_or-append_seam done o (reverse rest) o) (among (length done) o (omega arith))

  pub taken_one : AreTaken all rest (done ++ o ∷ [])
  taken_one = record { is = append_assoc done (o ∷ []) (reverse rest) ∙ turned }

-- those that were taken are the first of all
pub taken_first : (all left done : List Order) → AreTaken all left done → take (length done) all ≡ done
taken_first all left done so_far = ap (take (length done)) (sym so_far.is) ∙ take-append_seam done (reverse left)

-- before the first, and behind the last
pub turned_round : (all left : List Order) → left ≡ reverse all → AreTaken all left []
turned_round all left is = record { is = ap reverse is ∙ reverse-reverse all }

pub none_left : (all left done : List Order) → AreTaken all left done → left ≡ [] → done ≡ all
none_left all left done so_far none = sym (append-nil done) ∙ (λ i. done ++ reverse (sym none i)) ∙ so_far.is
