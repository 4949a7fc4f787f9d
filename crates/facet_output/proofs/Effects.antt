-- Which effect a command has, and what its reply reports, where the reply reports so much.
use Rattle.std.proofs.Common.{◌≡◌, ℕ, true, Option, Some, refl, sym, ap}
use Rattle.std.specs.Prelude.{unwrap_or}
use Rattle.facet_model.specs.Histories.{Change, Operation}
use Rattle.facet_output.specs.Effects.{Effect, changes, publishes, holds, releases, persists, merges, looks, Report, says_placed, says_number, says_pair, says_refused, for_labels, for_docs, for_disk, for_closed, for_numbers, for_memory, for_other, says_nothing, report}
use Rattle.facet_replies.specs.Replies.{Reply}
use Rattle.facet_output.specs.Reported.{shown_in, rejected, full_in, placed_in, number_in, refreshed_in, failed_in, closed_in, of_commit}

-- how many operations a reply has shown, given how many it saw if it was refused for documents
abbrev pub shown_by : Option ℕ → Reply → ℕ
shown_by saw reply = shown_in saw (report reply)

-- only a change is rejected for labels
pub change_rejected : (e : Effect) (said : Report) → rejected e said ≡ true → (change : Change) × (e ≡ changes change) × (full_in said ≡ true)
change_rejected (changes change) said h = (change, refl, h)
change_rejected publishes said h = absurd cc
change_rejected (holds name) said h = absurd cc
change_rejected (releases name) said h = absurd cc
change_rejected persists said h = absurd cc
change_rejected merges said h = absurd cc
change_rejected (looks on) said h = absurd cc

-- only a change is placed, and reports its place
pub change_placed : (session : ℕ) (e : Effect) (said : Report) (p : ℕ × Operation) → placed_in session e said ≡ Some p → (change : Change) × (e ≡ changes change) × (said ≡ says_placed p.0) × (p.1.session ≡ session)
change_placed session (changes change) (says_placed at) p h =
    let same : (at, record { session = session; change = change }) ≡ p = ap (λ (o : Option (ℕ × Operation)). unwrap_or o p) h in
    (change, refl, ap (λ (q : ℕ × Operation). says_placed q.0) same, sym (ap (λ (q : ℕ × Operation). q.1.session) same))
change_placed session (changes change) (says_number n) p h = absurd cc
change_placed session (changes change) (says_pair operations labels) p h = absurd cc
change_placed session (changes change) (says_refused why) p h = absurd cc
change_placed session (changes change) says_nothing p h = absurd cc
change_placed session publishes said p h = absurd cc
change_placed session (holds name) said p h = absurd cc
change_placed session (releases name) said p h = absurd cc
change_placed session persists said p h = absurd cc
change_placed session merges said p h = absurd cc
change_placed session (looks on) said p h = absurd cc

pub number_said : (said : Report) (n : ℕ) → number_in said ≡ Some n → said ≡ says_number n
number_said (says_number k) n h = ap says_number (ap (λ (o : Option ℕ). unwrap_or o k) h)
number_said (says_placed k) n h = absurd cc
number_said (says_pair operations labels) n h = absurd cc
number_said (says_refused why) n h = absurd cc
number_said says_nothing n h = absurd cc

-- only a refresh publishes
pub refresh_only : (e : Effect) (said : Report) (n : ℕ) → refreshed_in e said ≡ Some n → (e ≡ publishes) × (said ≡ says_number n)
refresh_only publishes said n h = (refl, number_said said n h)
refresh_only (changes change) said n h = absurd cc
refresh_only (holds name) said n h = absurd cc
refresh_only (releases name) said n h = absurd cc
refresh_only persists said n h = absurd cc
refresh_only merges said n h = absurd cc
refresh_only (looks on) said n h = absurd cc

-- ---- commits

pub commit_only : {A : Type 0} (part : Report → Option A) (e : Effect) (said : Report) (x : A) → of_commit part e said ≡ Some x → (e ≡ persists) × (part said ≡ Some x)
commit_only part persists said x h = (refl, h)
commit_only part (changes change) said x h = absurd cc
commit_only part publishes said x h = absurd cc
commit_only part (holds name) said x h = absurd cc
commit_only part (releases name) said x h = absurd cc
commit_only part merges said x h = absurd cc
commit_only part (looks on) said x h = absurd cc

pub failure_said : (said : Report) (n : ℕ) → failed_in said ≡ Some n → said ≡ says_refused (for_disk n)
failure_said (says_refused (for_disk k)) n h = ap (λ (j : ℕ). says_refused (for_disk j)) (ap (λ (o : Option ℕ). unwrap_or o k) h)
failure_said (says_placed k) n h = absurd cc
failure_said (says_number k) n h = absurd cc
failure_said (says_pair operations labels) n h = absurd cc
failure_said (says_refused (for_labels k)) n h = absurd cc
failure_said (says_refused (for_docs k)) n h = absurd cc
failure_said (says_refused (for_closed k)) n h = absurd cc
failure_said (says_refused for_numbers) n h = absurd cc
failure_said (says_refused for_memory) n h = absurd cc
failure_said says_nothing n h = absurd cc
failure_said (says_refused for_other) n h = absurd cc

pub closing_said : (said : Report) (n : ℕ) → closed_in said ≡ Some n → said ≡ says_refused (for_closed n)
closing_said (says_refused (for_closed k)) n h = ap (λ (j : ℕ). says_refused (for_closed j)) (ap (λ (o : Option ℕ). unwrap_or o k) h)
closing_said (says_placed k) n h = absurd cc
closing_said (says_number k) n h = absurd cc
closing_said (says_pair operations labels) n h = absurd cc
closing_said (says_refused (for_labels k)) n h = absurd cc
closing_said (says_refused (for_docs k)) n h = absurd cc
closing_said (says_refused (for_disk k)) n h = absurd cc
closing_said (says_refused for_numbers) n h = absurd cc
closing_said (says_refused for_memory) n h = absurd cc
closing_said says_nothing n h = absurd cc
closing_said (says_refused for_other) n h = absurd cc
