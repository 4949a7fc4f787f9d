-- Phases of lines that were given, carried out and answered, one after the other.
use Rattle.std.proofs.Common.{◌≡◌, ◌∙◌, ℕ, ◌+◌, inl, inr, true, List, [], ◌∷◌, ◌++◌, length, map, Some, None, refl, sym, ap, subst, append_assoc, append-nil}
use Rattle.std.specs.Prelude.{All, flat_map}
use Rattle.std.specs.Io.KnownBytes.{IsAtEnd}
use Rattle.std.proofs.lemmas.List.{map-append}
use Rattle.std.proofs.lemmas.List.Elements.{All-cons, All-nil}
use Rattle.facet_output.proofs.Among.{In, all_at}
use Rattle.facet_output.specs.Answered.{Answered}
use Rattle.facet_output.specs.OutputLines.{reply_lines}
use Rattle.facet_output.specs.Seen.{Seen, Sees}
use Rattle.facet_output.specs.Sessions.{PhasesRan, answers_of, steps_of}
use Rattle.facet_output.specs.Steps.{Step}
use Rattle.facet_phases.specs.Phases.{answers_in}
use Rattle.facet_phases.specs.Taking.{At, Took, at}
use Rattle.facet_phases.specs.declared.collector.Output.{Ghosts as OutputGhosts}
use Rattle.facet_phases.specs.declared.phases.Phases.{Ghosts as PhasesGhosts}
use Rattle.facet_words.specs.Commands.{Order}
use Rattle.live_io.specs.Events.{IsPrompt}
use Rattle.live_io.specs.declared.duplex.Duplex.{Ghosts}
use Rattle.live_lines.specs.ItemLaws.{phases_in}
use Rattle.live_lines.specs.Items.{Item}
use Rattle.live_serving.specs.Answering.{Puts}
use Rattle.live_serving.specs.Ends.{AreOfPhases}
use Rattle.live_serving.specs.Lines.{due, fault_lines, said}
use Rattle.live_serving.specs.Moments.{Beginning, GivesItem, HasTalked, IsAsked, IsLiveAt}
use Rattle.live_serving.specs.declared.line_phases.LinePhases.{LinePhases}
use Rattle.live_serving.proofs.Talked.{talked_puts}
use Rattle.live_serving.proofs.Written.{as_many_more, said_more}

-- ---- items that were answered

module _ {X : Type 0} (io : Ghosts X) (b : Beginning X) where
  -- what was said before the replies to one item more
  pub talked_more : (now : X) (got : List ℕ) (replies : List (List Answered)) (written : List ℕ) (answered : List Answered) → HasTalked io b now got replies written → HasTalked io b now got (replies ++ answered ∷ []) written
  talked_more now got replies written answered h = record {
    consumed = h.consumed;
    appended = h.appended;
    told = λ none.
        let t = h.told none in
        (t.0, t.1, t.2, t.3, λ more. subst (λ (l : List (List Answered)). IsPrompt (due b.only_reads b.opened l) t.0) (sym (append_assoc replies (answered ∷ []) more)) (t.4 (answered ∷ more)));
  }

  pub answered_one : (p : LinePhases) (old new : X) (items : List Item) (item : Item) (replies : List (List Answered)) (answered : List Answered) → IsAsked io b p old items item replies
      → Puts io old new (reply_lines answered) → IsLiveAt io b p new (items ++ item ∷ []) (replies ++ answered ∷ [])
  answered_one p old new items item replies answered a puts =
      let now = talked_puts io b old new a.is.got replies (said b.opened items replies ++ fault_lines item) (reply_lines answered) a.is.talked puts.0 in
      record {
        as_many = as_many_more items replies item answered a.as_many;
        is = record {
          got = a.is.got;
          talked = subst (λ (w : List ℕ). HasTalked io b new a.is.got (replies ++ answered ∷ []) w) (sym (said_more b.opened items replies item answered a.as_many))
              (talked_more new a.is.got replies ((said b.opened items replies ++ fault_lines item) ++ reply_lines answered) answered now);
          only_reads = a.is.only_reads;
          read = a.is.read;
          ended = λ over. subst IsAtEnd (sym puts.0.left) (a.is.ended over);
          still = record { reads = puts.0.read_faults ∙ a.is.still.reads; writes = puts.1 ∙ a.is.still.writes };
        };
      }

  module _ {C O : Type 0} (io_of : O → X) (phases : PhasesGhosts LinePhases O) (output : OutputGhosts O C)
      (gives : (p : LinePhases) (o : O) (q : LinePhases) (n : O) (orders : List Order) → phases.gives p o q n orders → GivesItem io p (io_of o) q (io_of n) orders)
      (flushes : (o n : O) (answered : List Answered) → output.flushes o n answered → Puts io (io_of o) (io_of n) (reply_lines answered)) where
    -- all phases of these items were
    pub took_items : (before now : At LinePhases O) (all : List (List Order)) (answered : List (List Answered)) (items : List Item) (replies : List (List Answered))
        → Took phases output before now all answered → IsLiveAt io b before.phases (io_of before.out) items replies
        → (more : List Item) × (phases_in more ≡ all) × IsLiveAt io b now.phases (io_of now.out) (items ++ more) (replies ++ answered)
    took_items before now [] [] items replies same live = (
      [],
      refl,
      subst (λ (m : At LinePhases O). IsLiveAt io b m.phases (io_of m.out) (items ++ []) (replies ++ [])) same
          (subst (λ (l : List Item). IsLiveAt io b before.phases (io_of before.out) l (replies ++ [])) (sym (append-nil items))
          (subst (λ (l : List (List Answered)). IsLiveAt io b before.phases (io_of before.out) items l) (sym (append-nil replies)) live)),
    )
    took_items before now [] (a ∷ answered) items replies none live = absurd none
    took_items before now (orders ∷ all) [] items replies none live = absurd none
    took_items before now (orders ∷ all) (a ∷ answered) items replies t live =
        let given : At LinePhases O = t.0 in
        let g = gives before.phases before.out given.phases given.out orders t.1 b items replies live in
        let item : Item = g.0 in
        let one = answered_one given.phases (io_of given.out) (io_of t.2) items item replies a g.2 (flushes given.out t.2 a t.3) in
        let rest = took_items (at given.phases t.2) now all answered (items ++ item ∷ []) (replies ++ a ∷ []) t.4 one in (
          item ∷ rest.0,
          (λ i. g.1 i ∷ rest.1 i),
          subst (λ (l : List Item). IsLiveAt io b now.phases (io_of now.out) l (replies ++ a ∷ answered)) (append_assoc items (item ∷ []) rest.0)
              (subst (λ (l : List (List Answered)). IsLiveAt io b now.phases (io_of now.out) ((items ++ item ∷ []) ++ rest.0) l) (append_assoc replies (a ∷ []) answered) rest.2),
        )

-- ---- replies, phase by phase

-- what holds of each step's answer holds of each answer
all_answers : (P : Answered → Type 0) (xs : List Step) → ((x : Step) → In x xs → P x.answered) → All P (answers_in xs)
all_answers P [] each = All-nil P
all_answers P (x ∷ xs) each = All-cons P x.answered (answers_in xs) (each x (inl refl)) (all_answers P xs (λ y there. each y (inr there)))

pub of_phases : (phase : ℕ) (known last : Seen) (ran more : List (List Step)) → PhasesRan phase known (ran ++ more) last → AreOfPhases phase (map answers_in ran)
of_phases phase known last [] more told = tt
of_phases phase known last (steps ∷ ran) more told = (
  all_answers (λ a. a.phase ≡ phase) steps
      (λ x there. (all_at (λ (y : Step). (y.answered.phase ≡ phase) × Sees known y.before × Sees y.after told.0) steps x told.2 there).0),
  of_phases (phase + 1) told.0 last ran more told.3,
)

pub answers_joined : (ran : List (List Step)) → answers_of ran ≡ flat_map (λ (a : List Answered). a) (map answers_in ran)
answers_joined [] = refl
answers_joined (steps ∷ ran) = map-append (λ (x : Step). x.answered) steps (steps_of ran) ∙ ap (λ (l : List Answered). answers_in steps ++ l) (answers_joined ran)
