-- What the worked examples share: orders, and a claim for every session where all orders are of session 1.
use Rattle.std.proofs.Common.{◌≡◌, ℕ, List, [], ◌∷◌, Bool, true, false, refl, subst, eqb}
use Rattle.std.proofs.lemmas.Bool.{eqb-true}
use Rattle.std.specs.Prelude.{codes, Option, Some, None}
use Rattle.facet_model.specs.Documents.{Doc}
use Rattle.facet_model.specs.Histories as histories
use Rattle.facet_model.specs.Histories.{Operation}
use Rattle.facet_model.proofs.Samples.{author}
use Rattle.facet_words.specs.Commands.{Settings, Order, Command}
use Rattle.facet_replies.specs.Replies.{Hit, Reply, found}
use Rattle.facet_output.specs.Answered.{Answered}
use Rattle.facet_output.specs.Output.{Opened}

-- the root alone
abbrev pub empty_store : Opened
empty_store = record { labels = [] ∷ []; docs = [] }

abbrev pub plain_settings : Settings
plain_settings = record { config = []; max_docs = 1000000; max_labels = 1000000; stripes = 16; cache = 4096; auto_merge = false }

-- an order of session 1
abbrev pub order : ℕ → Command → Order
order line command = record { session = 1; line = line; command = command }

-- its answer, in phase 0
abbrev pub answer : ℕ → Command → Option (ℕ × ℕ) → Reply → Answered
answer line command took reply = record { phase = 0; order = order line command; took = took; place = None; saw = None; reply = reply }

-- the same, which saw the pair at a place
abbrev pub answer_at : ℕ → ℕ → Command → Option (ℕ × ℕ) → Reply → Answered
answer_at place line command took reply = record (answer line command took reply) { place = Some place }

-- the same, of a change that was refused for documents where there were so many operations
abbrev pub answer_seeing : ℕ → ℕ → Command → Reply → Answered
answer_seeing saw line command reply = record (answer line command None reply) { saw = Some saw }

-- session 1 added the document
abbrev pub by_one : Doc → Operation
by_one d = record { session = 1; change = histories.add d }

-- what holds of session 1, and of every session where the test for 1 fails, holds of all
pub each_session : (P : ℕ → Type 0) → P 1 → ((s : ℕ) → eqb 1 s ≡ false → P s) → (s : ℕ) → P s
each_session P one others s = by_test s (eqb 1 s) refl
  where
    by_test : (s : ℕ) (b : Bool) → eqb 1 s ≡ b → P s
    by_test s true e = subst P (eqb-true 1 s e) one
    by_test s false e = others s e

-- a hit that is listed without its content
abbrev pub hit : ℕ → List ℕ → Hit
hit at id = record { at = at; id = id; content = None }

-- Bob's document is the one hit
abbrev pub one_hit : Reply
one_hit = found (record { operations = 1; hit_count = 1; hits = hit 0 (codes "b1") ∷ []; answers = [] })

abbrev pub bobs_labels : List (List (List ℕ))
bobs_labels = [] ∷ (codes "Author" ∷ []) ∷ author (codes "Bob") ∷ []
