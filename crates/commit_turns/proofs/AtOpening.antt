-- The value when the chronicle is opened.
use Rattle.std.proofs.Common.{◌≡◌, List, [], ◌∷◌, length, take, Some, None, refl, sym, subst, ◌∙◌, arith, All}
use Rattle.std.proofs.lemmas.List.Elements.{All-push, All-nil}
use Rattle.facet_disk.specs.Images.{Image, Told}
use Rattle.facet_disk.specs.declared.disk.Disk.{Ghosts}
use Rattle.facet_model.specs.Histories.{Operation, docs}
use Rattle.facet_names.proofs.LabelLists.{Labels}
use Rattle.seg_documents.specs.Decoding.{docs_in}
use Rattle.seg_documents.proofs.Prefixes.{stays}
use Rattle.commit_calls.proofs.Runs.{leaves_by}
use Rattle.commit_store.specs.Committers.{CommitterView}
use Rattle.commit_store.specs.Committing.{HasFiles}
use Rattle.store_opening.specs.Quiet.{IsUnchanged}
use Rattle.commit_turns.specs.Commits.{Keeps, Stands}
use Rattle.commit_turns.specs.DiskStates.{DiskState, state_of}
use Rattle.commit_turns.specs.Opening.{IsOpenedAs, WasSettled}
use Rattle.commit_turns.specs.Points.{made}
use Rattle.commit_turns.specs.Recovery.{Holds, HoldsJust}
use Rattle.pair_manager.specs.declared.point.CommitPoint.{CommitPoint}
use Rattle.commit_turns.proofs.Imaged.{holds_found, just_found}
use Rattle.commit_turns.proofs.Pointed.{Below}
use Rattle.commit_turns.proofs.Prefixed.{docs_all}
use Rattle.commit_turns.proofs.Surviving.{OnlyNow, marked, survive_first}

all_one : (P : CommitPoint → Type 0) (p : CommitPoint) → P p → All P (p ∷ [])
all_one P p holds = All-push P [] p (All-nil P) holds

module _ {D : Type 0} (disk : Ghosts D) (only_now : OnlyNow disk) (told settled : Type 0) (quiet : DiskState → Type 0) (start : D) (committer : CommitterView D) (labels : Labels) (history : List Operation)
    (o : IsOpenedAs disk start committer labels (docs history)) (was_told : told → (s : Told) × (disk.told start ≡ Some s)) (was_settled : settled → WasSettled disk committer.config start)
    (is_quiet : quiet (state_of disk committer.disk)) where
  abbrev point : CommitPoint
  point = made (length history) (length labels)

  abbrev Holding : Image → Type 0
  Holding c = Holds committer.config labels history point c

  just : docs_in labels o.segments ≡ docs (take (length history) history)
  just = o.documents ∙ docs_all history

  has_all : (c : Image) → HasFiles committer.config labels o.segments c → Holding c
  has_all c has = holds_found committer.config labels labels history o.segments (length history) point c has (stays labels) (omega arith) just (omega arith) (omega arith)

  at_first : settled → (c : Image) → disk.may_leave start c → Holding c
  at_first is c left = let w = was_settled is in has_all c (w.settled.same c left ∙ o.opened.has w.told w.tells)

  just_first : settled → (c : Image) → disk.may_leave start c → HoldsJust committer.config labels history point c
  just_first is c left =
      let w = was_settled is in
      just_found committer.config labels labels history o.segments (length history) point c (w.settled.same c left ∙ o.opened.has w.told w.tells) (stays labels) (omega arith) just refl refl

  -- opening has changed no image
  still : (P : Image → Type 0) → ((c : Image) → disk.may_leave start c → P c) → (c : Image) → disk.may_leave committer.disk c → P c
  still P at c left = let before = o.opened.quiet.passes.now c left in subst P (sym before.2) (at before.0 before.1)

  keeps : settled → Keeps disk start committer labels history (point ∷ []) (marked committer.disk point)
  keeps is = record {
    moments = leaves_by disk only_now IsUnchanged Holding start committer.disk o.opened.quiet.passes (at_first is) (λ c d left same. subst Holding (sym same) (at_first is c left));
    now = all_one (λ (p : CommitPoint). (c : Image) → disk.may_leave committer.disk c → Holds committer.config labels history p c) point (still Holding (at_first is));
    survive = survive_first disk committer.config only_now labels history point committer.disk (still Holding (at_first is)) (λ unfailed. still (HoldsJust committer.config labels history point) (just_first is));
  }

  pub stands_opened : Stands disk told settled quiet (record { start = start; begun = committer.state; committer = committer; last = point; labels = labels; history = history }) (point ∷ []) (marked committer.disk point)
  stands_opened = record {
    points = record {
      before = [];
      ends = refl;
      unfailed = All-nil (λ (p : CommitPoint). p.failed ≡ None);
      counts = λ count some. absurd (cc some);
      most = all_one (Below point) point (omega arith, omega arith);
      within = (omega arith, omega arith);
    };
    closed = sym o.opened.unclosed;
    counted = omega (arith, o.opened.still);
    exact = o.opened.still;
    rose = λ count some. absurd (cc some);
    numbers = omega arith;
    tells = λ is. let w = was_told is in (w.0, o.opened.quiet.same ∙ w.1);
    followed = λ is. record {
      told = λ none u now. o.opened.known u (sym o.opened.quiet.same ∙ now);
      unfailed = λ none. o.opened.unfailed;
      failed = λ count closed. absurd (cc (o.opened.unclosed, closed));
    };
    keeps = keeps;
    committed = λ is unshut. let w = was_settled is in record {
      known = labels;
      segments = o.segments;
      tells = (w.told, o.opened.quiet.same ∙ w.tells);
      here = o.opened.committed w.told w.tells w.settled;
      list = o.opened.list;
      goes_on = stays labels;
      many = refl;
      decodes = o.opened.decodes;
      within = omega arith;
      just = just;
    };
    untouched = λ few. is_quiet;
  }
