-- What the sessions keep, handed over one after the other.
use Rattle.std.proofs.Common.{◌≡◌, ◌∙◌, ℕ, ◌<◌, ◌+◌, suc, arith, List, [], ◌∷◌, ◌++◌, length, drop, get_or, refl, ap, sym, subst, append_assoc, append-nil, drop-cons}
use Rattle.std.specs.Prelude.{All, set, Result, Ok, Err, OnErr}
use Rattle.std.specs.Global.{Vec}
use Rattle.std.proofs.lemmas.List.{get_or-set_same, get_or-set_other}
use Rattle.std.proofs.lemmas.List.Elements.{at_read}
use native.Mathlib.Decide.{ℕ_discrete}
use mathlib.Core.Logic.{dite}
use Rattle.pair_manager.specs.declared.pass.Pass.{Pass}
use Rattle.facet_words.specs.declared.command.Order.{Order}
use Rattle.facet_output.specs.Answered.{Answered}
use Rattle.facet_output.specs.Sessions.{held_by, own_steps, steps_of}
use Rattle.facet_engine.specs.declared.session.Session.{Session}
use Rattle.facet_engine.specs.HeldPairs.{numbers_held}
use Rattle.facet_engine.specs.Systems.{Engine, HasSettings}
use Rattle.facet_phases.specs.Lanes.{AreIdle, Each, IsFlushed, KeepAll, KeepsOf}
use Rattle.facet_phases.specs.Running.{AreReady, AreUnderway, Course}
use Rattle.facet_phases.specs.declared.lane.Lane.{Lane}
use Rattle.facet_phases.proofs.Carrying.{dealt_ready}

pub on_err : {V E A : Type 0} (result : Result V E) → A → OnErr result A
on_err (Ok v) a = tt
on_err (Err e) a = a

module _ {C O : Type 0} (Holds : List Answered → C → Type 0) (Flushes : O → O → List Answered → Type 0) where
  -- of what all keep a beginning was handed over, and these sessions are left
  pub record AreFlushed (all lanes : List (Lane C)) (old now : O) (answered : List Answered) : Type 0 where
    pub front : List Answered
    pub rest : List Answered
    pub is : answered ≡ front ++ rest
    pub keep : KeepAll Holds lanes rest
    pub flushed : Flushes old now front

  -- whatever they keep
  abbrev pub Flushing : List (Lane C) → List (Lane C) → O → O → Type 0
  Flushing all lanes old now = (answered : List Answered) → KeepAll Holds all answered → AreFlushed all lanes old now answered

module _ {C O : Type 0} (Holds : List Answered → C → Type 0) (Flushes Breaks : O → O → List Answered → Type 0)
    (flushes_then : (a b c : O) (xs ys : List Answered) → Flushes a b xs → Flushes b c ys → Flushes a c (xs ++ ys))
    (breaks_then : (a b c : O) (xs ys zs : List Answered) → Flushes a b xs → Breaks b c ys → Breaks a c (xs ++ (ys ++ zs))) where
  pub flushing_none : (all : List (Lane C)) (old : O) → Flushes old old [] → Flushing Holds Flushes all all old old
  flushing_none all old none answered keep = record { front = []; rest = answered; is = refl; keep = keep; flushed = none }

  -- those of the next session and those of the others
  next_of : (all : List (Lane C)) (at : ℕ) (lane : Lane C) (rest : List Answered) → at < length all → lane ≡ get_or all at lane → KeepAll Holds (drop at all) rest → KeepAll Holds (lane ∷ drop (at + 1) all) rest
  next_of all at lane rest lt is keep =
      let one_more : suc at ≡ at + 1 = omega arith in
      subst (λ (l : Lane C). KeepAll Holds (l ∷ drop (at + 1) all) rest) (sym is)
      (subst (λ (n : ℕ). KeepAll Holds (get_or all at lane ∷ drop n all) rest) one_more (subst (λ (ls : List (Lane C)). KeepAll Holds ls rest) (drop-cons all at lane lt) keep))

  pub flushing_more : (all : List (Lane C)) (at : ℕ) (lane : Lane C) (old mid now : O) → at < length all → lane ≡ get_or all at lane → ((answered : List Answered) → KeepsOf Holds answered lane.replies → Flushes mid now answered)
      → Flushing Holds Flushes all (drop at all) old mid → Flushing Holds Flushes all (drop (at + 1) all) old now
  flushing_more all at lane old mid now lt is one so_far answered keep =
      let f = so_far answered keep in
      let n = next_of all at lane f.rest lt is f.keep in
      record {
        front = f.front ++ n.0;
        rest = n.1;
        is = f.is ∙ ap (λ (l : List Answered). f.front ++ l) n.2 ∙ sym (append_assoc f.front n.0 n.1);
        keep = n.4;
        flushed = flushes_then old mid now f.front n.0 f.flushed (one n.0 n.3);
      }

  pub flushing_failed : (all : List (Lane C)) (at : ℕ) (lane : Lane C) (old mid now : O) → at < length all → lane ≡ get_or all at lane → ((answered : List Answered) → KeepsOf Holds answered lane.replies → Breaks mid now answered)
      → Flushing Holds Flushes all (drop at all) old mid → (answered : List Answered) → KeepAll Holds all answered → Breaks old now answered
  flushing_failed all at lane old mid now lt is one so_far answered keep =
      let f = so_far answered keep in
      let n = next_of all at lane f.rest lt is f.keep in
      subst (Breaks old now) (sym (f.is ∙ ap (λ (l : List Answered). f.front ++ l) n.2)) (breaks_then old mid now f.front n.0 n.1 f.flushed (one n.0 n.3))

  pub flushing_all : (all left : List (Lane C)) (old now : O) → left ≡ [] → Flushing Holds Flushes all left old now → (answered : List Answered) → KeepAll Holds all answered → Flushes old now answered
  flushing_all all left old now none so_far answered keep =
      let f = so_far answered keep in
      let empty : f.rest ≡ [] = subst (λ (ls : List (Lane C)). KeepAll Holds ls f.rest) none f.keep in
      subst (Flushes old now) (sym (f.is ∙ ap (λ (l : List Answered). f.front ++ l) empty ∙ append-nil f.front)) f.flushed

-- ---- the sessions are as before

module _ {C : Type 0} where
  pub still_flushed : (old lanes : List (Lane C)) (at : ℕ) (lane new : Lane C) → at < length lanes → lane ≡ get_or lanes at lane → IsFlushed lane new → ((i : ℕ) (d : Lane C) → i < length old → IsFlushed (get_or old i d) (get_or lanes i d))
      → (i : ℕ) (d : Lane C) → i < length old → IsFlushed (get_or old i d) (get_or (set lanes at new) i d)
  still_flushed old lanes at lane new in' is one so_far i d lt = dite (ℕ_discrete i at)
      (λ here.
      let one_at : IsFlushed (get_or lanes i d) new = rw here (at_read lanes (λ (l : Lane C). IsFlushed l new) at lane in' is one d) in
      let before = so_far i d lt in
      rw (here, get_or-set_same lanes at new d in') (subst (λ (k : ℕ). IsFlushed (get_or old k d) new) here (record { session = one_at.session ∙ before.session; orders = one_at.orders ∙ before.orders })))
      (λ other. rw (get_or-set_other lanes at i new d other) (so_far i d lt))

  module _ (engine : Engine) (first : Pass) (xs ys : List (Lane C)) (many : length ys ≡ length xs) (each : Each IsFlushed xs ys) where
    pub flushed_ready : AreReady engine first xs → AreReady engine first ys
    flushed_ready ready = dealt_ready engine first xs ys ready many (λ i d lt. (each i d lt).session)

    pub flushed_idle : AreIdle xs → AreIdle ys
    flushed_idle idle i d lt =
        let in' : i < length xs = subst (λ n. i < n) many lt in
        ap (λ (os : Vec Order). os.items) (each i d in').orders ∙ idle i d in'

    -- what is so of each session
    of_each : (P : Session → Type 0) → All (λ (l : Lane C). P l.session) xs → All (λ (l : Lane C). P l.session) ys
    of_each P all i d lt =
        let in' : i < length xs = subst (λ n. i < n) many lt in
        subst P (sym (each i d in').session) (all i d in')

    pub flushed_under : (course : Course) → AreUnderway engine course first xs → AreUnderway engine course first ys
    flushed_under course under = record {
      so_far = under.so_far;
      set = of_each (λ (s : Session). HasSettings engine s.pass course.settings) under.set;
      held = of_each (λ (s : Session). numbers_held s.held ≡ held_by [] (own_steps s.number (steps_of course.ran))) under.held;
      frames = of_each (λ (s : Session). s.pass.commits.frame ≡ first.commits.frame) under.frames;
      spent = under.spent;
    }
