-- Sessions that ran, with what is known at their end.
use Rattle.std.proofs.Common.{◌≡◌, ◌∙◌, inl, inr, ℕ, ◌+◌, ◌*◌, ◌<◌, ◌≤◌, true, List, [], ◌∷◌, length, map, Some, refl, sym, arith}
use Rattle.std.specs.Prelude.{All}
use Rattle.std.specs.List.{list_all}
use Rattle.std.proofs.lemmas.List.Elements.{All-cons, All-nil}
use Rattle.std.proofs.lemmas.Nat.{mul-le}
use Rattle.std.proofs.lemmas.List.Folds.{list_all-map}
use Rattle.facet_disk.specs.Images.{Told}
use Rattle.facet_disk.specs.declared.disk.Disk.{Ghosts}
use Rattle.facet_engine.specs.Calls.{IsSpentWithin}
use Rattle.facet_engine.specs.declared.ending.Trace.{Trace}
use Rattle.facet_output.proofs.Alone.{one_session_has_its_labels}
use Rattle.facet_output.proofs.Among.{In, all_at}
use Rattle.facet_output.proofs.Assembled.{sessions_give_output}
use Rattle.facet_output.proofs.Exact.{one_session_is_exact}
use Rattle.facet_output.proofs.Known.{facts}
use Rattle.facet_output.proofs.Points.{commits_have_points}
use Rattle.facet_output.proofs.Served.{one_session_is_served}
use Rattle.facet_output.specs.Answered.{Answered, is_of}
use Rattle.facet_output.specs.Output.{Opened}
use Rattle.facet_output.specs.Seen.{Seen, history_of, labels_of}
use Rattle.facet_output.specs.Sessions.{AllRan, answers_of, is_by, steps_of}
use Rattle.facet_output.specs.Steps.{Step}
use Rattle.facet_words.specs.Commands.{Settings, Order}
use Rattle.store_opening.specs.Files.{greatest_number}
use Rattle.store_opening.specs.Newest.{next_after}
use Rattle.facet_serving.specs.Sessions.{IsAlone, IsTraceOf, Ran, SpendsFrom}
use Rattle.facet_serving.specs.Stores.{Keeps, Opens}
use Rattle.chronicle.proofs.Prefixes.{prefix_length}

-- more commits may take more numbers
within_more : (each number next some all : ℕ) → some ≤ all → number < next + each * some → number < next + each * all
within_more each number next some all le lt = let more : each * some ≤ each * all = mul-le each some each all (let same : each ≤ each = omega arith in same) le in omega (arith, more, lt)

-- what holds of each step's answer holds of each answer
all_answers : (P : Answered → Type 0) (xs : List Step) → ((x : Step) → In x xs → P x.answered) → All P (map (λ (x : Step). x.answered) xs)
all_answers P [] each = All-nil P
all_answers P (x ∷ xs) each = All-cons P x.answered (map (λ (x : Step). x.answered) xs) (each x (inl refl)) (all_answers P xs (λ y there. each y (inr there)))

module _ (settings : Settings) (phases : List (List Order)) (opened : Opened) (ran : List (List Step)) (last : Seen) (all : AllRan settings phases opened ran last) where
  -- what was told of spent numbers, by the commits that there are at the end
  pub spends : (next : ℕ) → All (λ (x : Step). IsSpentWithin next x.answered.reply x.after) (steps_of ran) → All (SpendsFrom next last) (answers_of ran)
  spends next within = all_answers (SpendsFrom next last) (steps_of ran) (λ x there number is.
      within_more 1000003 number next (length x.after.commits) (length last.commits)
      (prefix_length x.after.commits last.commits (facts settings phases opened ran last all x there).1.commits)
      (all_at (λ (y : Step). IsSpentWithin next y.answered.reply y.after) (steps_of ran) x within there number is))

  -- one session that ran alone
  pub alone : (session : ℕ) → list_all (is_of session) (answers_of ran) ≡ true → IsAlone settings opened last (answers_of ran)
  alone session one =
      let by : list_all (is_by session) (steps_of ran) ≡ true = sym (list_all-map (is_of session) (λ (x : Step). x.answered) (steps_of ran)) ∙ one in
      record {
        exact = one_session_is_exact settings phases opened (labels_of last) (history_of last) last.pairs (answers_of ran) session (sessions_give_output settings phases opened ran last all) all.in_line_order one;
        labels = one_session_has_its_labels settings phases opened ran last session all by;
        served = λ none. one_session_is_served settings phases opened ran last session all by none;
      }

  abbrev pub ran_so : {D : Type 0} (ghosts : Ghosts D) (trace : Trace) (old new : D) → Opens ghosts settings.config old opened → IsTraceOf trace last → ((t : Told) → ghosts.told old ≡ Some t → All (SpendsFrom (next_after (greatest_number t.files)) last) (answers_of ran))
      → Keeps ghosts settings.config last old new → Ran ghosts settings phases trace old new
  ran_so ghosts trace old new opens traced spent keeps = record {
    opened = opened;
    last = last;
    answered = answers_of ran;
    opens = opens;
    traced = traced;
    right = sessions_give_output settings phases opened ran last all;
    points = commits_have_points settings phases opened ran last all;
    spent = spent;
    keeps = keeps;
    alone = alone;
  }
