-- Sessions that are made, one after the other.
use Rattle.std.proofs.Common.{◌≡◌, ◌∙◌, ℕ, ◌+◌, ◌≤◌, List, [], ◌∷◌, ◌++◌, length, refl, ap, sym, subst, arith}
use Rattle.std.specs.Prelude.{All}
use Rattle.std.proofs.lemmas.List.{get_or_append_left, get_or_push, length_push}
use Rattle.std.proofs.lemmas.List.Elements.{All-nil, All-push, All-weaker}
use native.Mathlib.Decide.{dec_lt}
use mathlib.Core.Logic.{dite}
use Rattle.chronicle.specs.Frame.{Frame}
use Rattle.chronicle.specs.History.{own_of}
use Rattle.facet_engine.proofs.SeenPairs.{still_named}
use Rattle.pair_manager.specs.declared.pass.Pass.{Pass}
use Rattle.facet_output.specs.Seen.{Seen}
use Rattle.facet_output.specs.Sessions.{RanSoFar}
use Rattle.facet_output.proofs.Gluing.{none_ran}
use Rattle.facet_engine.specs.HeldPairs.{numbers_held}
use Rattle.facet_engine.specs.Steps.{seen_of}
use Rattle.facet_engine.specs.Systems.{Engine, BelongsTo, HasSettings}
use Rattle.facet_engine.specs.Exchange.{AreCounted, MakesOneOfEach}
use Rattle.facet_phases.specs.declared.lane.Lane.{Lane}
use Rattle.facet_phases.specs.Lanes.{AllOf, AreIdle, AreNumbered}
use Rattle.facet_phases.proofs.Spent.{spent_none}
use Rattle.facet_phases.specs.Running.{AreReady, BeginsUnderway, HaveSameFrames, IsFirst}

module _ {C : Type 0} where
  -- so many sessions were made of the first pass
  pub record AreMade (engine : Engine) (count : ℕ) (start first : Pass) (lanes : List (Lane C)) : Type 0 where
    pub own : BelongsTo engine first
    pub made : IsFirst count first
    pub same : seen_of first ≡ seen_of start
    pub frames : HaveSameFrames start first
    pub many : length lanes ≡ count
    pub numbered : AreNumbered 1 lanes
    pub all : AllOf engine lanes
    pub all_seen : All (λ (l : Lane C). seen_of l.session.pass ≡ seen_of start) lanes
    pub all_frames : All (λ (l : Lane C). HaveSameFrames start l.session.pass) lanes
    pub idle : AreIdle lanes
    pub held : All (λ (l : Lane C). l.session.held ≡ []) lanes

  pub made_none : (engine : Engine) (first : Pass) → BelongsTo engine first → IsFirst 0 first → AreMade engine 0 first first []
  made_none engine first own made = record {
    own = own;
    made = made;
    same = refl;
    frames = (refl, refl);
    many = refl;
    numbered = λ i d lt. absurd (omega arith);
    all = All-nil (λ (l : Lane C). BelongsTo engine l.session.pass);
    all_seen = All-nil (λ (l : Lane C). seen_of l.session.pass ≡ seen_of first);
    all_frames = All-nil (λ (l : Lane C). HaveSameFrames first l.session.pass);
    idle = All-nil (λ (l : Lane C). l.orders.items ≡ []);
    held = All-nil (λ (l : Lane C). l.session.held ≡ []);
  }

  numbered_push : (lanes : List (Lane C)) (l : Lane C) → AreNumbered 1 lanes → l.session.number ≡ 1 + length lanes → AreNumbered 1 (lanes ++ l ∷ [])
  numbered_push lanes l numbered is i d lt =
      let long = length_push lanes l in
      dite (dec_lt i (length lanes))
      (λ below. ap (λ (x : Lane C). x.session.number) (get_or_append_left lanes (l ∷ []) d i below) ∙ numbered i d below)
      (λ last.
      let at : length lanes ≡ i = omega arith in
      ap (λ (x : Lane C). x.session.number) (get_or_push lanes l d i at) ∙ is ∙ ap (λ n. 1 + n) at)

  pub made_more : (engine : Engine) (count : ℕ) (start a b : Pass) (lanes : List (Lane C)) (l : Lane C) → AreMade engine count start a lanes → MakesOneOfEach a b → BelongsTo engine b → AreCounted b → seen_of b ≡ seen_of a
      → BelongsTo engine l.session.pass → seen_of l.session.pass ≡ seen_of a → HaveSameFrames a l.session.pass → l.session.number ≡ a.labels.made + 1 → l.session.held ≡ [] → l.orders.items ≡ [] → AreMade engine (count + 1) start b (lanes ++ l ∷ [])
  made_more engine count start a b lanes l made more own counted same own_l seen_l frames_l number held idle =
      let numbers = made.made.numbers in
      let before = made.made.made in
      record {
        own = own;
        made = record {
          numbers = (more.0.0 ∙ numbers.0, more.1.0 ∙ numbers.1, more.2.0 ∙ numbers.2, more.3.0 ∙ numbers.3);
          made = (more.0.1 ∙ ap (λ n. n + 1) before.0, more.1.1 ∙ ap (λ n. n + 1) before.1, more.2.1 ∙ ap (λ n. n + 1) before.2, more.3.1 ∙ ap (λ n. n + 1) before.3);
          counted = counted;
          named = still_named 0 a b (λ i. own_of (more.1.2 i) (more.1.0 i) (more.1.4 i)) made.made.named;
        };
        same = same ∙ made.same;
        frames = (more.1.6 ∙ made.frames.0, more.3.6 ∙ made.frames.1);
        many = length_push lanes l ∙ ap (λ n. n + 1) made.many;
        numbered = numbered_push lanes l made.numbered (let m = made.many in let f = before.0 in let n = number in omega arith);
        all = All-push (λ (x : Lane C). BelongsTo engine x.session.pass) lanes l made.all own_l;
        all_seen = All-push (λ (x : Lane C). seen_of x.session.pass ≡ seen_of start) lanes l made.all_seen (seen_l ∙ made.same);
        all_frames = All-push (λ (x : Lane C). HaveSameFrames start x.session.pass) lanes l made.all_frames (frames_l.0 ∙ made.frames.0, frames_l.1 ∙ made.frames.1);
        idle = All-push (λ (x : Lane C). x.orders.items ≡ []) lanes l made.idle idle;
        held = All-push (λ (x : Lane C). x.session.held ≡ []) lanes l made.held held;
      }

  pub made_ready : (engine : Engine) (count : ℕ) (start first : Pass) (lanes : List (Lane C)) → count ≤ 64 → AreMade engine count start first lanes → AreReady engine first lanes
  made_ready engine count start first lanes few made = record {
    own = made.own;
    made = subst (λ (n : ℕ). IsFirst n first) (sym made.many) made.made;
    many = (let m = made.many in omega arith);
    numbered = made.numbered;
    all = made.all;
    seen = All-weaker (λ (l : Lane C). seen_of l.session.pass ≡ seen_of start) (λ (l : Lane C). seen_of l.session.pass ≡ seen_of first) (λ l is. is ∙ sym made.same) lanes made.all_seen;
  }

  -- no phase was carried out yet
  pub made_begun : (engine : Engine) (count : ℕ) (start first : Pass) (lanes : List (Lane C)) → AreMade engine count start first lanes → BeginsUnderway engine start first lanes
  made_begun engine count start first lanes made settings opened set seen = record {
    so_far = subst (λ (s : Seen). RanSoFar settings [] opened [] s) (sym (made.same ∙ seen)) (none_ran settings opened);
    set = All-weaker (λ (l : Lane C). HaveSameFrames start l.session.pass) (λ (l : Lane C). HasSettings engine l.session.pass settings)
        (λ l same. record { config = set.config; max_docs = ap (λ (f : Frame). f.numbers) same.0 ∙ set.max_docs; max_labels = set.max_labels }) lanes made.all_frames;
    frames = All-weaker (λ (l : Lane C). HaveSameFrames start l.session.pass) (λ (l : Lane C). l.session.pass.commits.frame ≡ first.commits.frame) (λ l same. same.1 ∙ sym made.frames.1) lanes made.all_frames;
    spent = spent_none first.commits.frame;
    held = All-weaker (λ (l : Lane C). l.session.held ≡ []) (λ (l : Lane C). numbers_held l.session.held ≡ []) (λ l none. ap numbers_held none) lanes made.held;
  }
