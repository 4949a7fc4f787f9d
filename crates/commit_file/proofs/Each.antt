-- Loops that read one value after the other.
use Rattle.std.proofs.Common.{◌≡◌, ℕ, zero, suc, ◌+◌, ◌-◌, ◌<◌, ◌≤◌, List, [], ◌∷◌, ◌++◌, length, take, Result, Ok, refl, sym, ap, ◌∙◌, arith, nat_lt}
use Rattle.std.proofs.lemmas.List.{append-nil, length-take}
use Rattle.std.proofs.lemmas.Bool.{ltb-false}
use Rattle.facet_codec.specs.Places.{Place}
use Rattle.facet_codec.specs.Reading.{◌>>=◌, bytes_at}
use Rattle.facet_codec.proofs.Taking.{guard_ok, done_is}
use Rattle.facet_codec.proofs.Lists.{with_front, one_more, regroup}
use Rattle.facet_codec.specs.declared.fault.CodecFault.{CodecFault}
use Rattle.commit_file.specs.declared.fault.FileFault.{FileFault}
use Rattle.commit_file.specs.declared.fault.FileFault.TheVariants.{Damaged, Malformed, NoMemory}
use Rattle.commit_file.specs.Reading.{Fails, each_at}

-- as many bytes as were asked for
pub bytes_length : (n : ℕ) (p : Place) (xs : List ℕ) (q : Place) → bytes_at n p ≡ Ok (xs, q) → n ≡ length xs
bytes_length n p xs q e =
    let a = guard_ok (nat_lt (length p.rest) n) _ _ (xs, q) e in
    let b = done_is CodecFault _ (xs, q) a.1 in
    let l : length (take n p.rest) ≡ length xs = ap (λ (x : List ℕ × Place). length x.0) b in
    omega (arith, l, length-take n p.rest, ltb-false (length p.rest) n a.0)

-- ---- faults

pub fails_bind : {A B : Type 0} (e : FileFault) (r : Result A FileFault) (f : A → Result B FileFault) → Fails e r → Fails e (r >>= f)
fails_bind (Damaged kept found) r f h = rw h refl
fails_bind (Malformed at) r f h = rw h refl
fails_bind NoMemory r f h = tt

-- ---- so many values, of which i were read

module _ {A S : Type 0} (read : ℕ → S → Place → Result (A × Place) FileFault) (next : S → A → S) where
  pub each_more : (n i : ℕ) (s : S) (p q : Place) (front : List A) (x : A) (total : Result (List A × Place) FileFault) → i < n → read (n - (i + 1)) s p ≡ Ok (x, q) → with_front front (each_at read next (n - i) s p) ≡ total → with_front (front ++ x ∷ []) (each_at read next (n - (i + 1)) (next s x) q) ≡ total
  unfolding each_at
  each_more n i s p q front x total lt e h =
      let k : n - i ≡ suc (n - (i + 1)) = omega arith in
      sym (regroup front x (each_at read next (n - (i + 1)) (next s x) q)) ∙ (rw (k, e) at h)

  pub each_fails : (n i : ℕ) (s : S) (p : Place) (front : List A) (e : FileFault) (total : Result (List A × Place) FileFault) → i < n → Fails e (read (n - (i + 1)) s p) → with_front front (each_at read next (n - i) s p) ≡ total → Fails e total
  unfolding each_at
  each_fails n i s p front e total lt f h =
      let k : n - i ≡ suc (n - (i + 1)) = omega arith in
      let m = n - (i + 1) in
      rw (← h, k) (fails_bind e (read m s p >>= λ first. one_more first.0 (each_at read next m (next s first.0) first.1)) (λ x. Ok (front ++ x.0, x.1)) (fails_bind e (read m s p) (λ first. one_more first.0 (each_at read next m (next s first.0) first.1)) f))

  pub each_done : (n i : ℕ) (s : S) (p : Place) (front : List A) (total : Result (List A × Place) FileFault) → n ≤ i → with_front front (each_at read next (n - i) s p) ≡ total → total ≡ Ok (front, p)
  unfolding each_at
  each_done n i s p front total le h =
      let k : n - i ≡ zero = omega arith in
      sym (rw (k, append-nil) at h)
