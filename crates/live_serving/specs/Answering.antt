-- What is put to the output of a live process, and its laws.
use Rattle.std.proofs.Common.{◌≡◌, ◌∙◌, ℕ, List, [], ◌++◌, length, take, drop, Option, Some, None, refl, sym, ap, subst}
use Rattle.std.proofs.Common.{append_assoc, append-nil}
use Rattle.std.proofs.lemmas.List.{take-append-drop, take_at}
use Rattle.std.specs.Io.KnownBytes.{Appends}
use Rattle.facet_io.specs.Faults.{Rose}
use Rattle.facet_output.specs.Answered.{Answered}
use Rattle.facet_output.specs.OutputLines.{reply_lines}
use Rattle.facet_phases.specs.Flushing.{appends_none, appends_some, lines_append}
use Rattle.facet_io.proofs.Pieces.{appends_then}
use Rattle.live_io.specs.Events.{Event, IsPrompt, PutAfter, PutsAfter, flushed_in, got_in, put_in}
use Rattle.live_io.specs.declared.duplex.Duplex.{Ghosts}

module _ {X : Type 0} (io : Ghosts X) where
  -- Between two moments these bytes were put and nothing else was done, whatever became of the count of faults of writes.
  pub record PutsBytes (before now : X) (bytes : List ℕ) : Type 0 where
    pub written : Appends (io.written before) (io.written now) bytes
    pub events : PutsAfter bytes (io.events before) (io.events now)
    pub left : io.left now ≡ io.left before
    pub read_faults : io.read_faults now ≡ io.read_faults before

  -- these bytes were put, and no fault was counted
  abbrev pub Puts : X → X → List ℕ → Type 0
  Puts before now bytes = PutsBytes before now bytes × (io.write_faults now ≡ io.write_faults before)

  -- a beginning of them was put, and a write failed
  abbrev pub PutsSome : X → X → List ℕ → Type 0
  PutsSome before now bytes =
      Rose (io.write_faults before) (io.write_faults now) × ((n : ℕ) × PutsBytes before now (take n bytes))

-- ---- the laws

put_none : (es : List Event) → PutAfter [] es es
put_none es = record { got_same = refl; flushed_same = refl; put_more = sym (append-nil (put_in es)); prompt = λ due p. p }

puts_after_none : (es : Option (List Event)) → PutsAfter [] es es
puts_after_none None = refl
puts_after_none (Some es) = put_none es

puts_after_then : (a b c : Option (List Event)) (xs ys : List ℕ) → PutsAfter xs a b → PutsAfter ys b c
    → PutsAfter (xs ++ ys) a c
puts_after_then None b c xs ys p q = subst (λ (e : Option (List Event)). PutsAfter ys e c) p q
puts_after_then (Some a) None c xs ys p q = absurd p
puts_after_then (Some a) (Some b) None xs ys p q = absurd q
puts_after_then (Some a) (Some b) (Some c) xs ys p q = record {
  got_same = q.got_same ∙ p.got_same;
  flushed_same = q.flushed_same ∙ p.flushed_same;
  put_more = q.put_more ∙ ap (λ l. l ++ ys) p.put_more ∙ append_assoc (put_in a) xs ys;
  prompt = λ due was. q.prompt due (p.prompt due was);
}

module _ {X : Type 0} (io : Ghosts X) where
  pub bytes_none : (a : X) → PutsBytes io a a []
  bytes_none a = record {
    written = appends_none (io.written a);
    events = puts_after_none (io.events a);
    left = refl;
    read_faults = refl;
  }

  pub bytes_then : (a b c : X) (xs ys : List ℕ) → PutsBytes io a b xs → PutsBytes io b c ys
      → PutsBytes io a c (xs ++ ys)
  bytes_then a b c xs ys p q = record {
    written = appends_then (io.written a) (io.written b) (io.written c) xs ys p.written q.written;
    events = puts_after_then (io.events a) (io.events b) (io.events c) xs ys p.events q.events;
    left = q.left ∙ p.left;
    read_faults = q.read_faults ∙ p.read_faults;
  }

  pub puts_none : (a : X) → Puts io a a (reply_lines [])
  puts_none a = (bytes_none a, refl)

  pub puts_then : (a b c : X) (xs ys : List Answered) → Puts io a b (reply_lines xs) → Puts io b c (reply_lines ys)
      → Puts io a c (reply_lines (xs ++ ys))
  puts_then a b c xs ys p q = (
    subst (λ (l : List ℕ). PutsBytes io a c l) (sym (lines_append xs ys))
        (bytes_then a b c (reply_lines xs) (reply_lines ys) p.0 q.0),
    q.1 ∙ p.1,
  )

  -- a beginning of later bytes makes a beginning of all
  pub bytes_some : (a b c : X) (all front piece rest : List ℕ) (n : ℕ) → all ≡ front ++ (piece ++ rest)
      → PutsBytes io a b front → PutsBytes io b c (take n piece) → (m : ℕ) × PutsBytes io a c (take m all)
  bytes_some a b c all front piece rest n is p q =
      let some = take n piece in
      let left = drop n piece in
      let whole : piece ++ rest ≡ some ++ (left ++ rest) =
      ap (λ t. t ++ rest) (sym (take-append-drop n piece)) ∙ append_assoc some left rest in
      let parts : all ≡ (front ++ some) ++ (left ++ rest) =
      is ∙ ap (λ t. front ++ t) whole ∙ sym (append_assoc front some (left ++ rest)) in
      let is_done : take (length (front ++ some)) all ≡ front ++ some =
      rw parts (take_at (front ++ some) (left ++ rest) (length (front ++ some)) refl) in
      (length (front ++ some), subst (λ (l : List ℕ). PutsBytes io a c l) (sym is_done) (bytes_then a b c front some p q))

  pub some_then : (a b c : X) (xs ys zs : List Answered) → Puts io a b (reply_lines xs)
      → PutsSome io b c (reply_lines ys) → PutsSome io a c (reply_lines (xs ++ (ys ++ zs)))
  some_then a b c xs ys zs p q = (
    subst (λ (n : ℕ). Rose n (io.write_faults c)) p.1 q.0,
    bytes_some a b c (reply_lines (xs ++ (ys ++ zs))) (reply_lines xs) (reply_lines ys) (reply_lines zs) q.1.0
        (lines_append xs (ys ++ zs) ∙ ap (λ (l : List ℕ). reply_lines xs ++ l) (lines_append ys zs)) p.0 q.1.1,
  )
