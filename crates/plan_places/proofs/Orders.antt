-- The order of nodes does not matter.
use Rattle.std.proofs.Common.{◌≡◌, ℕ, ◌<◌, Bool, true, false, not, ◌&&◌, ◌||◌, List, [], ◌∷◌, length, get_or, refl, sym, ap, ◌∙◌}
use Rattle.std.specs.List.{list_any, remove, All}
use Rattle.std.specs.List.Sorted.{IsPermutation}
use Rattle.std.proofs.lemmas.List.Sorted.{IsPermutation-trans, IsPermutation-remove, list_any-IsPermutation, All-permutation}
use Rattle.std.proofs.lemmas.List.Elements.{All-head}
use Rattle.seg_postings.specs.Rising.{IsRising, is_in}
use Rattle.seg_postings.specs.Sets.{picked, without}
use Rattle.plan_places.specs.Planned.{Planned, any_of, all_have, is_chosen, chosen_of}
use Rattle.plan_places.proofs.Choices.{rising_chosen}
use Rattle.std.proofs.Math.Bool.{and_assoc}
use Rattle.seg_postings.proofs.Members.{is_in_filter}

both_as_one : (a b c : Bool) → b ≡ not c → (a && b) ≡ not (not a || c)
both_as_one true b c e = e
both_as_one false b c e = refl

all_as_any : (n : ℕ) (ps : List Planned) → all_have n ps ≡ not (list_any (λ p. not (is_in n p.left)) ps)
all_as_any n [] = refl
all_as_any n (p ∷ ps) = both_as_one (is_in n p.left) (all_have n ps) (list_any (λ p. not (is_in n p.left)) ps) (all_as_any n ps)

all_permutation : (n : ℕ) (ps qs : List Planned) → IsPermutation ps qs → all_have n ps ≡ all_have n qs
all_permutation n ps qs h = all_as_any n ps ∙ ap not (list_any-IsPermutation (λ p. not (is_in n p.left)) ps qs h) ∙ sym (all_as_any n qs)

led : (ps qs : List Planned) (lead : Planned) → IsPermutation ps qs → 0 < length qs → lead ≡ get_or qs 0 lead → IsPermutation ps (lead ∷ remove qs 0)
led ps qs lead h some e = IsPermutation-trans ps qs (lead ∷ remove qs 0) h (IsPermutation-remove qs 0 lead some e)

pub led_members : (n : ℕ) (ps qs others excluded : List Planned) (lead : Planned) → IsPermutation ps qs → 0 < length qs → lead ≡ get_or qs 0 lead → others ≡ remove qs 0
    → is_in n (chosen_of lead others excluded) ≡ (all_have n ps && not (is_in n (any_of excluded)))
unfolding chosen_of
led_members n ps qs others excluded lead h some e o =
    let same : all_have n ps ≡ all_have n (lead ∷ others) = all_permutation n ps (lead ∷ remove qs 0) (led ps qs lead h some e) ∙ ap (λ (rs : List Planned). all_have n (lead ∷ rs)) (sym o) in
    is_in_filter (is_chosen others excluded) n lead.left
    ∙ sym (and_assoc (is_in n lead.left) (all_have n others) (not (is_in n (any_of excluded))))
    ∙ ap (λ (b : Bool). b && not (is_in n (any_of excluded))) (sym same)

pub led_rises : (ps qs others excluded : List Planned) (lead : Planned) → IsPermutation ps qs → 0 < length qs → lead ≡ get_or qs 0 lead → All (λ p. IsRising p.left) ps → IsRising (chosen_of lead others excluded)
led_rises ps qs others excluded lead h some e all =
    rising_chosen lead others excluded (All-head (λ p. IsRising p.left) lead (remove qs 0) (All-permutation (λ p. IsRising p.left) ps (lead ∷ remove qs 0) (led ps qs lead h some e) all))

pub chosen_without : (lead : Planned) (excluded : List Planned) → chosen_of lead [] excluded ≡ without lead.left (any_of excluded)
unfolding chosen_of without picked
chosen_without lead excluded = refl
