-- Bytes that are written, or read, piece after piece.
use Rattle.std.proofs.Common.{◌≡◌, ℕ, ◌+◌, ◌<◌, ◌≤◌, List, [], ◌++◌, length, take, drop, Option, Some, None, refl, sym, ap, ◌∙◌, append_assoc, arith, length-append}
use Rattle.std.specs.Prelude.{min}
use Rattle.std.proofs.lemmas.List.{take-append-drop, length-take, take_at, nil_from_length, length-drop, drop-drop}
use Rattle.std.specs.Io.KnownBytes.{Appends, Consumes, Keeps}

pub appends_then : (old mid new : Option (List ℕ)) (a b : List ℕ) → Appends old mid a → Appends mid new b → Appends old new (a ++ b)
appends_then None mid new a b p q = tt
appends_then (Some xs) None new a b p q = absurd p
appends_then (Some xs) (Some ys) None a b p q = absurd q
appends_then (Some xs) (Some ys) (Some zs) a b p q = q ∙ ap (λ (t : List ℕ). t ++ b) p ∙ append_assoc xs a b

appends_kept : (old mid new : Option (List ℕ)) (a : List ℕ) → Appends old mid a → Keeps mid new → Appends old new a
appends_kept None mid new a p q = tt
appends_kept (Some xs) None new a p q = absurd p
appends_kept (Some xs) (Some ys) None a p q = absurd q
appends_kept (Some xs) (Some ys) (Some zs) a p q = q ∙ p

-- some of the bytes are written, and the rest is still to be
pub record IsPartWritten (old now : Option (List ℕ)) (bytes rest : List ℕ) : Type 0 where
  pub done : List ℕ
  pub parts : bytes ≡ done ++ rest
  pub appended : Appends old now done

pub part_more : (old mid new : Option (List ℕ)) (bytes rest : List ℕ) (n : ℕ) → IsPartWritten old mid bytes rest → Appends mid new (take n rest) → IsPartWritten old new bytes (drop n rest)
part_more old mid new bytes rest n p q = record {
  done = p.done ++ take n rest;
  parts = p.parts ∙ ap (λ (t : List ℕ). p.done ++ t) (sym (take-append-drop n rest)) ∙ sym (append_assoc p.done (take n rest) (drop n rest));
  appended = appends_then old mid new p.done (take n rest) p.appended q;
}

pub part_failed : (old mid new : Option (List ℕ)) (bytes rest : List ℕ) → IsPartWritten old mid bytes rest → Keeps mid new → (n : ℕ) × Appends old new (take n bytes)
part_failed old mid new bytes rest p q =
    let front : take (length p.done) bytes ≡ p.done = rw p.parts (take_at p.done rest (length p.done) refl) in
    (length p.done, rw front (appends_kept old mid new p.done p.appended q))

-- n of the bytes from `at` on were copied
pub handed_out : (xs into : List ℕ) (at n piece : ℕ) → n ≡ min (min (length into) piece) (length (drop at xs)) → 1 ≤ piece → take n into ≡ take n (drop at xs)
    → (drop at xs ≡ take n into ++ drop (at + n) xs) × (n ≡ 0 → 0 < length into → drop (at + n) xs ≡ [])
handed_out xs into at n piece count some copied =
    let rest : drop n (drop at xs) ≡ drop (at + n) xs = drop-drop n at xs in
    (rw (copied, ← rest) (sym (take-append-drop n (drop at xs))), λ none room. nil_from_length (drop (at + n) xs) (omega (arith, length-drop at xs, length-drop (at + n) xs)))

consumes_then : (old mid new : Option (List ℕ)) (a b : List ℕ) → Consumes old mid a → Consumes mid new b → Consumes old new (a ++ b)
consumes_then None mid new a b p q = tt
consumes_then (Some xs) None new a b p q = absurd p
consumes_then (Some xs) (Some ys) None a b p q = absurd q
consumes_then (Some xs) (Some ys) (Some zs) a b p q = p ∙ ap (λ (t : List ℕ). a ++ t) q ∙ sym (append_assoc a b zs)

-- what was taken before, and n bytes more
pub taken_more : (old mid new : Option (List ℕ)) (before piece : List ℕ) (n limit : ℕ) → Consumes old mid before → Consumes mid new (take n piece) → length before + n ≤ limit
    → (bytes : List ℕ) × (length bytes ≤ limit) × Consumes old new bytes
taken_more old mid new before piece n limit p q few =
    (before ++ take n piece, omega (arith, length-append before (take n piece), length-take n piece), consumes_then old mid new before (take n piece) p q)
