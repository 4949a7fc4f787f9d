-- What two directories hold is found in an image.
use Rattle.std.proofs.Common.{◌≡◌, ℕ, Bool, true, false, nat_eq, if◌then◌else◌, List, [], ◌∷◌, Option, Some, refl, sym, ap, ◌∙◌}
use Rattle.std.specs.Option.{option_map}
use Rattle.std.specs.List.{AllByRecursion, find}
use Rattle.std.proofs.lemmas.Bool.{eq-eqb, eqb-true}
use Rattle.std.proofs.lemmas.List.Elements.{recursion_from_All}
use Rattle.facet_disk.specs.declared.name.Dir.TheVariants.{Index}
use Rattle.facet_disk.specs.declared.name.Kind.TheVariants.{Segment}
use Rattle.facet_disk.specs.Images.{Image}
use Rattle.commit_calls.specs.Held.{Held, Stands, file}
use Rattle.commit_plan.specs.Plannings.{AreFirst}
use Rattle.commit_plan.proofs.Held.{held}

-- segments with the bytes that an image gives their numbers are each the first of its number
first_in : (f : ℕ → Option (List ℕ)) (xs : List (ℕ × List ℕ)) → AllByRecursion (λ s. f s.0 ≡ Some s.1) xs → AllByRecursion (λ s. held xs s.0 ≡ Some s.1) xs
first_in f [] all = tt
first_in f (x ∷ xs) all = (rw (eq-eqb x.0 x.0 refl) refl, more xs all.1 (first_in f xs all.1))
  where
    one : (s : ℕ × List ℕ) → f s.0 ≡ Some s.1 → held xs s.0 ≡ Some s.1 → held (x ∷ xs) s.0 ≡ Some s.1
    one s at later = go (nat_eq x.0 s.0) refl
      where
        go : (t : Bool) → nat_eq x.0 s.0 ≡ t → option_map (λ s. s.1) (if t then Some x else find (λ y. nat_eq y.0 s.0) xs) ≡ Some s.1
        go true is = sym all.0 ∙ ap f (eqb-true x.0 s.0 is) ∙ at
        go false is = later

    more : (ys : List (ℕ × List ℕ)) → AllByRecursion (λ s. f s.0 ≡ Some s.1) ys → AllByRecursion (λ s. held xs s.0 ≡ Some s.1) ys → AllByRecursion (λ s. held (x ∷ xs) s.0 ≡ Some s.1) ys
    more [] at later = tt
    more (y ∷ ys) at later = (one y at.0 later.0, more ys at.1 later.1)

pub index_first : (next : ℕ) (t i : Held) (c : Image) → Stands next t i c → AreFirst i
index_first next t i c stands = first_in (λ n. c (file Index Segment n)) i.segments (recursion_from_All (λ s. c (file Index Segment s.0) ≡ Some s.1) i.segments stands.index_held.segments)
