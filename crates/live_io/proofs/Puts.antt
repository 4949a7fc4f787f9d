-- Bytes that are put piece after piece.
use Rattle.std.proofs.Common.{◌≡◌, ℕ, List, [], ◌∷◌, ◌++◌, length, take, drop, Option, Some, None, refl, sym, ap, ◌∙◌, append_assoc, append-nil}
use Rattle.std.proofs.lemmas.List.{take-append-drop, take_at}
use Rattle.std.specs.Io.KnownBytes.{Appends, Keeps}
use Rattle.facet_io.proofs.Pieces.{appends_then}
use Rattle.live_io.specs.Events.{Event, put, put_in, PutAfter, PutsAfter, noted}

appends_none : (known : Option (List ℕ)) → Appends known known []
appends_none None = tt
appends_none (Some xs) = sym (append-nil xs)

appends_kept : (old mid new : Option (List ℕ)) (a : List ℕ) → Appends old mid a → Keeps mid new → Appends old new a
appends_kept None mid new a p q = tt
appends_kept (Some xs) None new a p q = absurd p
appends_kept (Some xs) (Some ys) None a p q = absurd q
appends_kept (Some xs) (Some ys) (Some zs) a p q = q ∙ p

pub no_put : (events : List Event) → PutAfter [] events events
no_put events = record { got_same = refl; flushed_same = refl; put_more = sym (append-nil (put_in events)); prompt = λ due is. is }

pub put_then : (old mid new : List Event) (a b : List ℕ) → PutAfter a old mid → PutAfter b mid new → PutAfter (a ++ b) old new
put_then old mid new a b p q = record {
  got_same = q.got_same ∙ p.got_same;
  flushed_same = q.flushed_same ∙ p.flushed_same;
  put_more = q.put_more ∙ ap (λ (t : List ℕ). t ++ b) p.put_more ∙ append_assoc (put_in old) a b;
  prompt = λ due is. q.prompt due (p.prompt due is);
}

pub one_put : (events : List Event) (bytes : List ℕ) → PutAfter bytes events (put bytes ∷ events)
one_put events bytes = record { got_same = refl; flushed_same = refl; put_more = refl; prompt = λ due is. is }

pub no_puts : (events : Option (List Event)) → PutsAfter [] events events
no_puts None = refl
no_puts (Some events) = no_put events

pub puts_then : (old mid new : Option (List Event)) (a b : List ℕ) → PutsAfter a old mid → PutsAfter b mid new → PutsAfter (a ++ b) old new
puts_then None None new a b p q = q
puts_then None (Some mid) new a b p q = absurd cc
puts_then (Some old) None new a b p q = absurd p
puts_then (Some old) (Some mid) None a b p q = absurd q
puts_then (Some old) (Some mid) (Some new) a b p q = put_then old mid new a b p q

pub puts_one : (old new : Option (List Event)) (bytes : List ℕ) → new ≡ noted (put bytes) old → PutsAfter bytes old new
puts_one None new bytes is = is
puts_one (Some old) new bytes is = rw is (one_put old bytes)

-- some of the bytes were put, and the rest is still to be
pub record IsPartPut (old now : Option (List ℕ)) (before events : Option (List Event)) (bytes rest : List ℕ) : Type 0 where
  pub done : List ℕ
  pub parts : bytes ≡ done ++ rest
  pub appended : Appends old now done
  pub puts : PutsAfter done before events

pub part_none : (old : Option (List ℕ)) (before : Option (List Event)) (bytes : List ℕ) → IsPartPut old old before before bytes bytes
part_none old before bytes = record { done = []; parts = refl; appended = appends_none old; puts = no_puts before }

pub part_more : (old mid new : Option (List ℕ)) (before events after : Option (List Event)) (bytes rest : List ℕ) (n : ℕ) → IsPartPut old mid before events bytes rest
    → Appends mid new (take n rest) → after ≡ noted (put (take n rest)) events → IsPartPut old new before after bytes (drop n rest)
part_more old mid new before events after bytes rest n p q is = record {
  done = p.done ++ take n rest;
  parts = p.parts ∙ ap (λ (t : List ℕ). p.done ++ t) (sym (take-append-drop n rest)) ∙ sym (append_assoc p.done (take n rest) (drop n rest));
  appended = appends_then old mid new p.done (take n rest) p.appended q;
  puts = puts_then before events after p.done (take n rest) p.puts (puts_one events after (take n rest) is);
}

pub part_failed : (old mid new : Option (List ℕ)) (before events after : Option (List Event)) (bytes rest : List ℕ) → IsPartPut old mid before events bytes rest → Keeps mid new
    → after ≡ events → (n : ℕ) × Appends old new (take n bytes) × PutsAfter (take n bytes) before after
part_failed old mid new before events after bytes rest p q same =
    let front : take (length p.done) bytes ≡ p.done = rw p.parts (take_at p.done rest (length p.done) refl) in
    (length p.done, rw front (appends_kept old mid new p.done p.appended q), rw (front, same) p.puts)

pub part_all : (old now : Option (List ℕ)) (before events : Option (List Event)) (bytes rest : List ℕ) → IsPartPut old now before events bytes rest → rest ≡ []
    → Appends old now bytes × PutsAfter bytes before events
part_all old now before events bytes rest p none =
    let all : bytes ≡ p.done = p.parts ∙ ap (λ (t : List ℕ). p.done ++ t) none ∙ append-nil p.done in
    (rw all p.appended, rw all p.puts)
