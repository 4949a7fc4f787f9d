-- The strays of a commit are files that are there.
use Rattle.std.proofs.Common.{◌≢◌, ◌∙◌, sym, arith, refl, ℕ, suc, not, List, [], ◌∷◌, Contains, None, subst}
use Rattle.std.specs.List.{AllPairs}
use Rattle.std.proofs.lemmas.List.Elements.{All-contains, All-contains_itself, All-filter, Contains-append_right}
use Rattle.std.proofs.lemmas.List.Kept.{AllPairs-filter}
use Rattle.facet_disk.specs.declared.name.FileName.{FileName}
use Rattle.facet_disk.specs.Images.{Image, with_at}
use Rattle.facet_disk.specs.SameNames.{with_other}
use Rattle.facet_model.specs.Flags.{Config}
use Rattle.facet_model.specs.Stored.{Records}
use Rattle.commit_calls.specs.declared.plan.Plan.{Plan}
use Rattle.commit_calls.specs.Held.{Below}
use Rattle.commit_calls.specs.Plans.{AreThere, Fits}
use Rattle.store_opening.specs.Newest.{AreListed}
use Rattle.commit_plan.specs.Committed.{Committed}
use Rattle.commit_plan.specs.Strays.{in_order, is_among, strays}
use Rattle.commit_plan.specs.Plannings.{IsPlanOf}
use Rattle.commit_plan.proofs.InOrder.{in_order_only, in_order_once}
use Rattle.facet_names.proofs.LabelLists.{Labels}

-- names that differ, each of a file that is there
each_there : (names : List FileName) (c : Image) → ((n : FileName) → Contains names n → c n ≢ None) → AllPairs (λ a b. a ≢ b) names → AreThere names c
each_there [] c all once = tt
each_there (x ∷ xs) c all once = (
  all x (0, omega arith, refl),
  each_there xs (with_at c x None)
      (λ n has none. all n (Contains-append_right (x ∷ []) xs n has) (sym (with_other c x None n (λ same. later n has (sym same))) ∙ none))
      (λ i j d lt low. once (suc i) (suc j) d (omega (arith, lt)) (omega (arith, low))),
)
  where
    later : (n : FileName) → Contains xs n → x ≢ n
    later n has = All-contains (λ y. x ≢ y) xs n (λ k d low. once 0 (suc k) d (omega arith) (omega (arith, low))) has

strays_there : (listed named : List FileName) (c : Image) → ((n : FileName) → Contains listed n → c n ≢ None) → AreThere (strays listed named) c
strays_there listed named c all = each_there (strays listed named) c
    (λ n has. all n (in_order_only listed n (All-contains (Contains (in_order listed)) (strays listed named) n
    (All-filter (λ m. not (is_among named m)) (Contains (in_order listed)) (in_order listed) (All-contains_itself (in_order listed))) has)))
    (AllPairs-filter (λ a b. a ≢ b) (λ m. not (is_among named m)) (in_order listed) (in_order_once listed))

-- the plan of a commit fits the files of which all is known
pub plan_fits : (config : Config) (old : Committed) (view : Labels) (ss : List Records) (p : Plan) (new : Committed) → IsPlanOf config old view ss p new → (c : Image) → AreListed c old.listed → Below old.next c → Fits p c
plan_fits config old view ss p new is c listed below = record {
  fresh = subst (λ (n : ℕ). Below n c) (sym is.from) below;
  strays = subst (λ (names : List FileName). AreThere names c) (sym is.strays) (strays_there old.listed _ c listed.each);
}
