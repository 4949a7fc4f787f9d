-- Faults that are handed on, and lists that go on.
use Rattle.std.proofs.Common.{◌≡◌, ℕ, ◌+◌, ◌<◌, List, [], ◌∷◌, ◌++◌, length, take, map, get_or, Err, sym, ap, ◌∙◌}
use Rattle.std.specs.Prelude.{Result}
use Rattle.std.proofs.lemmas.List.{map_push, take_more}
use Rattle.seg_decoding.specs.declared.fault.StoredFault.{StoredFault}
use Rattle.seg_decoding.specs.declared.fault.StoredFault.TheVariants.{Malformed, NoMemory}
use Rattle.seg_decoding.specs.Answers.{Fails}

-- a fault of one is a fault of the other
pub fails_on : {X Y : Type 0} (e : StoredFault) (r : Result X ℕ) (s : Result Y ℕ) → ((at : ℕ) → r ≡ Err at → s ≡ Err at) → Fails e r → Fails e s
fails_on (Malformed at) r s so h = so at h
fails_on NoMemory r s so h = tt

-- one element more on either side
pub one_more : {A B C : Type 0} (f : A → C) (g : B → C) (xs now : List A) (x : A) (ys : List B) (i : ℕ) (d : B) → i < length ys → now ≡ xs ++ x ∷ [] → f x ≡ g (get_or ys i d) → map f xs ≡ map g (take i ys) → map f now ≡ map g (take (i + 1) ys)
one_more f g xs now x ys i d lt pushed is before =
    ap (map f) pushed ∙ map_push f xs x ∙ (λ j. before j ++ is j ∷ []) ∙ sym (map_push g (take i ys) (get_or ys i d)) ∙ ap (map g) (sym (take_more ys i d lt))
