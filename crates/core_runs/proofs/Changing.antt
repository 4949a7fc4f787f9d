-- What a command with its reply changed: it placed a change, published a pair, made operations durable, or nothing of this.
use Rattle.std.proofs.Common.{◌≡◌, ◌⊎◌, inl, inr, ℕ, Option, Some, None, refl}
use Rattle.facet_model.specs.Histories.{Change}
use Rattle.facet_output.specs.Effects.{Effect, changes, publishes, holds, releases, persists, merges, looks, Report, says_placed, says_number, says_pair, says_nothing, says_refused}
use Rattle.facet_output.specs.Reported.{number_in, of_commit, placed_in, refreshed_in, stood_in}

pub record Placed (s : ℕ) (e : Effect) (r : Report) : Type 0 where
  pub at : ℕ
  pub change : Change
  pub effect : e ≡ changes change
  pub report : r ≡ says_placed at
  pub places : placed_in s e r ≡ Some (at, record { session = s; change = change })
  pub refreshes : refreshed_in e r ≡ None
  pub commits : of_commit number_in e r ≡ None

pub record Refreshed (s : ℕ) (e : Effect) (saw : Option ℕ) (r : Report) : Type 0 where
  pub n : ℕ
  pub effect : e ≡ publishes
  pub report : r ≡ says_number n
  pub places : placed_in s e r ≡ None
  pub refreshes : refreshed_in e r ≡ Some n
  pub commits : of_commit number_in e r ≡ None
  pub stands : stood_in e saw r ≡ Some n

pub record Committed (s : ℕ) (e : Effect) (saw : Option ℕ) (r : Report) : Type 0 where
  pub n : ℕ
  pub effect : e ≡ persists
  pub report : r ≡ says_number n
  pub places : placed_in s e r ≡ None
  pub refreshes : refreshed_in e r ≡ None
  pub commits : of_commit number_in e r ≡ Some n
  pub stands : stood_in e saw r ≡ Some n

pub record Unchanged (s : ℕ) (e : Effect) (r : Report) : Type 0 where
  pub places : placed_in s e r ≡ None
  pub refreshes : refreshed_in e r ≡ None
  pub commits : of_commit number_in e r ≡ None

abbrev pub Kind : ℕ → Effect → Option ℕ → Report → Type 0
Kind s e saw r = Placed s e r ⊎ (Refreshed s e saw r ⊎ (Committed s e saw r ⊎ Unchanged s e r))

same : (s : ℕ) (e : Effect) (saw : Option ℕ) (r : Report) → placed_in s e r ≡ None → refreshed_in e r ≡ None → of_commit number_in e r ≡ None → Kind s e saw r
same s e saw r p q d = inr (inr (inr (record { places = p; refreshes = q; commits = d })))

pub kind : (s : ℕ) (e : Effect) (saw : Option ℕ) (r : Report) → Kind s e saw r
kind s (changes change) saw (says_placed at) = inl (record { at = at; change = change; effect = refl; report = refl; places = refl; refreshes = refl; commits = refl })
kind s (changes change) saw (says_number n) = same s (changes change) saw (says_number n) refl refl refl
kind s (changes change) saw (says_pair n labels) = same s (changes change) saw (says_pair n labels) refl refl refl
kind s (changes change) saw says_nothing = same s (changes change) saw says_nothing refl refl refl
kind s (changes change) saw (says_refused why) = same s (changes change) saw (says_refused why) refl refl refl
kind s publishes saw (says_placed at) = same s publishes saw (says_placed at) refl refl refl
kind s publishes saw (says_number n) = inr (inl (record { n = n; effect = refl; report = refl; places = refl; refreshes = refl; commits = refl; stands = refl }))
kind s publishes saw (says_pair n labels) = same s publishes saw (says_pair n labels) refl refl refl
kind s publishes saw says_nothing = same s publishes saw says_nothing refl refl refl
kind s publishes saw (says_refused why) = same s publishes saw (says_refused why) refl refl refl
kind s (holds name) saw r = same s (holds name) saw r refl refl refl
kind s (releases name) saw r = same s (releases name) saw r refl refl refl
kind s persists saw (says_placed at) = same s persists saw (says_placed at) refl refl refl
kind s persists saw (says_number n) = inr (inr (inl (record { n = n; effect = refl; report = refl; places = refl; refreshes = refl; commits = refl; stands = refl })))
kind s persists saw (says_pair n labels) = same s persists saw (says_pair n labels) refl refl refl
kind s persists saw says_nothing = same s persists saw says_nothing refl refl refl
kind s persists saw (says_refused why) = same s persists saw (says_refused why) refl refl refl
kind s merges saw r = same s merges saw r refl refl refl
kind s (looks on) saw r = same s (looks on) saw r refl refl refl
