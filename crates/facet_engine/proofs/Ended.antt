-- What tokens and their notes show when a system ends.
use Rattle.std.proofs.Common.{◌≡◌, ◌∙◌, ◌≤◌, ℕ, false, List, [], ◌∷◌, length, take, map, refl, sym, ap, subst}
use Rattle.std.specs.Prelude.{All, nat_le, ◌&&◌}
use Rattle.std.specs.List.{list_all}
use Rattle.std.proofs.lemmas.List.{length-map}
use mathlib.Core.List.{IsPrefix}
use Rattle.std.proofs.lemmas.List.Elements.{All-map, All-weaker}
use Rattle.chronicle.specs.History.{own_of, entries, NumbersUpTo}
use Rattle.chronicle.specs.Shown.{Shown, SeesOn, EndsWith, IsNoteOf, IsCounted}
use Rattle.chronicle.proofs.Prefixes.{prefix_trans}
use Rattle.facet_disk.specs.Images.{Image}
use Rattle.facet_disk.specs.declared.disk.Disk.{Ghosts}
use Rattle.facet_model.specs.Flags.{Config}
use Rattle.facet_model.specs.Histories.{Operation, brought, knows, never_falls, is_pair, are_publications}
use Rattle.facet_names.specs.Labels.{GoesOn}
use Rattle.facet_names.proofs.LabelLists.{Labels}
use Rattle.commit_turns.specs.Ending.{Lasts}
use Rattle.commit_turns.specs.Points.{first_of, last_of}
use Rattle.commit_turns.specs.Recovery.{Holds}
use Rattle.commit_turns.specs.Seen.{ComesBack}
use Rattle.commit_turns.proofs.Imaged.{holds_more, just_more}
use Rattle.commit_turns.proofs.Surviving.{survive_more}
use Rattle.pair_manager.specs.declared.pass.Pass.{Pass}
use Rattle.pair_manager.specs.declared.point.CommitPoint.{CommitPoint as Point}
use Rattle.pair_manager.specs.declared.publication.Publication.{Publication}
use Rattle.pair_manager.specs.Published.{numbers}
use Rattle.facet_output.specs.Seen.{IsTold, EntersNone, history_of}
use Rattle.facet_engine.specs.declared.notes.Notes.{Notes}
use Rattle.facet_engine.specs.Ending.{AreUpTo, ArePublished, NamesOwn}
use Rattle.facet_engine.specs.Notes.{noted}
use Rattle.facet_engine.specs.Sessions.{HaveOneNumber, NamesSession}
use Rattle.facet_engine.specs.Steps.{seen_of, point_of}
use Rattle.facet_engine.specs.Exchange.{HaveMade}
use Rattle.facet_engine.proofs.Plain.{many_plain, brought_taken}
use Rattle.facet_engine.proofs.Seeing.{told, told_none}
use Rattle.facet_engine.proofs.SeenPairs.{sees_self}

-- ---- one token

-- how it ends, and what a note of it shows
pub record Ends {A : Type 0} (first last note : Shown A) : Type 0 where
  pub number : last.number ≡ first.number
  pub made : last.made ≡ first.made
  pub is_note : last.is_note ≡ first.is_note
  pub on : SeesOn first last
  pub shown : note.seen ≡ last.seen
  pub counted : IsCounted last

module _ {A : Type 0} where
  -- it came back, and then took its turn for good
  pub ends_later : (first back last note : Shown A) → ComesBack first back → EndsWith back last → SeesOn back last → IsNoteOf last note → IsCounted last → Ends first last note
  ends_later first back last note came ended on noted counted = record {
    number = ap (λ (t : Shown A). t.number) ended ∙ came.0.0;
    made = ap (λ (t : Shown A). t.made) ended ∙ came.0.1;
    is_note = ap (λ (t : Shown A). t.is_note) ended ∙ came.0.2;
    on = (prefix_trans first.seen back.seen last.seen came.1.0 on.0, on.1 ∙ came.1.1);
    shown = noted.2;
    counted = counted;
  }

  -- it took its turn for good at once
  pub ends_now : (first last note : Shown A) → EndsWith first last → SeesOn first last → IsNoteOf last note → IsCounted last → Ends first last note
  ends_now first last note ended on noted counted = record {
    number = ap (λ (t : Shown A). t.number) ended;
    made = ap (λ (t : Shown A). t.made) ended;
    is_note = ap (λ (t : Shown A). t.is_note) ended;
    on = on;
    shown = noted.2;
    counted = counted;
  }

  -- it is as it was
  pub ends_still : (token note : Shown A) → IsNoteOf token note → IsCounted token → Ends token token note
  ends_still token note noted counted = record { number = refl; made = refl; is_note = refl; on = sees_self token; shown = noted.2; counted = counted }

  module _ (n : ℕ) (first last note : Shown A) (is : first.is_note ≡ false) (at : first.number ≡ n) (ends : Ends first last note) where
    ends_none : EntersNone n first.seen note.seen
    ends_none = subst (λ (l : List (ℕ × A)). EntersNone n first.seen l) (sym ends.shown)
        (ends.on.0, sym (λ i. own_of ((ends.is_note ∙ is) i) ((ends.number ∙ at) i) last.seen) ∙ ends.on.1 ∙ (λ i. own_of (is i) (at i) first.seen))

  ends_up_to : (made : ℕ) (first last note : Shown A) → first.is_note ≡ false → first.number ≡ 0 → first.made ≡ made → Ends first last note → NumbersUpTo made note.seen
  ends_up_to made first last note is at many ends =
      subst (λ (l : List (ℕ × A)). NumbersUpTo made l) (sym ends.shown)
      (subst (λ (m : ℕ). NumbersUpTo m last.seen) (ends.made ∙ many) (ends.counted (ends.is_note ∙ is) (ends.number ∙ at)))

told_up_to : {A B : Type 0} (f : A → B) (made : ℕ) (xs : List (ℕ × A)) → NumbersUpTo made xs → All (λ e. e.0 ≤ made) (told f xs)
told_up_to {A} {B} f made xs all = let each : ℕ × A → ℕ × B = λ e. (e.0, f e.1) in All-map (λ (e : ℕ × B). e.0 ≤ made) each xs all

-- ---- all four

module _ (first : Pass) (have : HaveOneNumber 0 first) (notes : Notes) (labels : Shown (List (List ℕ))) (operations : Shown Operation) (pairs : Shown Publication) (commits : Shown Point)
    (labels_end : Ends first.labels labels notes.labels) (operations_end : Ends first.operations operations notes.operations) (pairs_end : Ends first.pairs pairs notes.pairs) (commits_end : Ends first.commits commits notes.commits) where
  no_labels : EntersNone 0 (seen_of first).labels (noted notes).labels
  no_labels = ends_none 0 first.labels labels notes.labels first.labels_rest.0 have.0 labels_end

  no_operations : EntersNone 0 (seen_of first).operations (noted notes).operations
  no_operations = told_none (λ (o : Operation). o.change) 0 first.operations.seen notes.operations.seen (ends_none 0 first.operations operations notes.operations first.operations_rest.0 have.1 operations_end)

  no_pairs : EntersNone 0 (seen_of first).pairs (noted notes).pairs
  no_pairs = told_none numbers 0 first.pairs.seen notes.pairs.seen (ends_none 0 first.pairs pairs notes.pairs first.pairs_rest.0 have.2 pairs_end)

  no_commits : EntersNone 0 (seen_of first).commits (noted notes).commits
  no_commits = told_none point_of 0 first.commits.seen notes.commits.seen (ends_none 0 first.commits commits notes.commits first.commits_rest.0 have.3 commits_end)

  -- what is new, sessions have entered
  pub ended_told : IsTold 0 (seen_of first) (noted notes)
  ended_told = record {
    sees = record { labels = no_labels.0; operations = no_operations.0; pairs = no_pairs.0; commits = no_commits.0 };
    labels = no_labels.1;
    operations = no_operations.1;
    pairs = no_pairs.1;
    commits = no_commits.1;
  }

  -- each of its own operations tells its session
  pub ended_named : NamesSession 0 first → NamesOwn 0 notes
  ended_named named =
      let none = ends_none 0 first.operations operations notes.operations first.operations_rest.0 have.1 operations_end in
      subst (All (λ (e : ℕ × Operation). e.1.session ≡ 0)) (sym none.1)
      (subst (All (λ (e : ℕ × Operation). e.1.session ≡ 0)) (λ i. own_of (first.operations_rest.0 i) (have.1 i) first.operations.seen) named)

  -- under numbers that were given
  pub ended_up_to : (made : ℕ) → HaveMade made first → AreUpTo made (noted notes)
  ended_up_to made many = record {
    labels = ends_up_to made first.labels labels notes.labels first.labels_rest.0 have.0 many.0 labels_end;
    operations = told_up_to (λ (o : Operation). o.change) made notes.operations.seen (ends_up_to made first.operations operations notes.operations first.operations_rest.0 have.1 many.1 operations_end);
    pairs = told_up_to numbers made notes.pairs.seen (ends_up_to made first.pairs pairs notes.pairs first.pairs_rest.0 have.2 many.2 pairs_end);
    commits = told_up_to point_of made notes.commits.seen (ends_up_to made first.commits commits notes.commits first.commits_rest.0 have.3 many.3 commits_end);
  }

-- ---- publications, as plain data

-- they are right over any operations that brought these documents
module _ (labels : Labels) (h k : List Operation) (as_many : length h ≡ length k) (front : (n : ℕ) → brought (take n h) ≡ brought (take n k)) where
  same_pair : (p : ℕ × ℕ) → is_pair labels h p ≡ is_pair labels k p
  same_pair p = λ i. nat_le p.0 (as_many i) && nat_le p.1 (length labels) && list_all (knows (take p.1 labels)) (front p.0 i)

  pub same_publications : (ps : List (ℕ × ℕ)) → are_publications labels h ps ≡ are_publications labels k ps
  same_publications ps = λ i. never_falls (map (λ p. p.0) ps) && never_falls (map (λ p. p.1) ps) && list_all (λ p. same_pair p i) ps

plain_pairs : (ps : List (ℕ × Publication)) → map (λ (e : ℕ × (ℕ × ℕ)). e.1) (told numbers ps) ≡ map numbers (entries ps)
plain_pairs [] = refl
plain_pairs (x ∷ ps) = ap (λ l. numbers x.1 ∷ l) (plain_pairs ps)

-- the sessions of operations
pub sessions_are : (ops : List (ℕ × Operation)) → map (λ (o : Operation). o.session) (entries ops) ≡ map (λ (e : ℕ × Operation). e.1.session) ops
sessions_are [] = refl
sessions_are (x ∷ ops) = ap (λ l. x.1.session ∷ l) (sessions_are ops)

pub are_published : (notes : Notes) → ArePublished (noted notes)
are_published notes =
    same_publications ([] ∷ entries notes.labels.seen) (history_of (noted notes)) (entries notes.operations.seen)
    (many_plain notes.operations.seen ∙ sym (length-map notes.operations.seen (λ (e : ℕ × Operation). e.1))) (λ n. brought_taken n notes.operations.seen) (map (λ (e : ℕ × (ℕ × ℕ)). e.1) (noted notes).pairs)
    ∙ ap (are_publications ([] ∷ entries notes.labels.seen) (entries notes.operations.seen)) (plain_pairs notes.pairs.seen)
    ∙ notes.right

-- ---- labels and operations may go on

module _ (config : Config) (labels more : Labels) (history longer : List Operation) (on : GoesOn labels more) (first : IsPrefix history longer) where
  pub lasts_more : {D : Type 0} (disk : Ghosts D) (moment : ℕ) (points : List Point) (now : D) → Lasts disk config moment labels history points now → Lasts disk config moment more longer points now
  lasts_more disk moment points now lasts = record {
    opened = λ c left. holds_more config labels more history longer (first_of points) c on first (lasts.opened c left);
    marks = lasts.marks;
    moments = survive_more disk config labels more history longer points lasts.marks now on first lasts.moments;
    exit = All-weaker (λ (p : Point). (c : Image) → disk.may_leave now c → Holds config labels history p c) (λ p. (c : Image) → disk.may_leave now c → Holds config more longer p c)
        (λ p holds c left. holds_more config labels more history longer p c on first (holds c left)) points lasts.exit;
    exact = λ none c left. just_more config labels more history longer (last_of points) c on first (lasts.exact none c left);
    settled = lasts.settled;
  }
