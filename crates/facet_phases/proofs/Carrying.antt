-- A phase was carried out, behind whatever phases.
use Rattle.std.proofs.Common.{◌≡◌, ◌∙◌, ◌⊎◌, ⊎_elim, ℕ, ◌+◌, ◌<◌, ◌≤◌, List, [], ◌∷◌, ◌++◌, length, map, get_or, true, eqb, eqb-true, refl, ap, sym, subst, arith, append-nil}
use Rattle.std.specs.Prelude.{Result, Ok, Err, All, IsOk, IsErr, IsTrue, OnOk}
use Rattle.std.specs.List.{AllZip}
use Rattle.std.proofs.lemmas.List.Elements.{All-map, All-weaker, length_all_zip, AllZip-get_or, filter_passes}
use Rattle.chronicle.specs.Frame.{Frame}
use Rattle.chronicle.specs.History.{NumbersUpTo}
use Rattle.facet_model.specs.Histories.{Change}
use Rattle.pair_manager.specs.declared.pass.Pass.{Pass}
use Rattle.facet_words.specs.Commands as commands
use Rattle.facet_output.specs.Answered.{Answered}
use Rattle.facet_output.specs.Held.{Held}
use Rattle.facet_output.specs.Seen.{CommitPoint, IsTold}
use Rattle.facet_output.specs.Sessions.{held_by, own_steps, steps_of}
use Rattle.facet_words.specs.ScriptOrder.{lines_rise}
use Rattle.facet_output.specs.Steps.{Step}
use Rattle.facet_output.proofs.Gluing.{one_more_phase, own_append, unused, told_itself}
use Rattle.facet_engine.specs.declared.session.Session.{Session}
use Rattle.facet_engine.specs.HeldPairs.{numbers_held}
use Rattle.facet_engine.specs.Sessions.{HaveOneNumber}
use Rattle.facet_engine.specs.Steps.{seen_of}
use Rattle.facet_engine.specs.Systems.{Engine, BelongsTo, HasSettings}
use Rattle.facet_engine.specs.Exchange.{HaveMade}
use Rattle.facet_phases.specs.declared.lane.Lane.{Lane}
use Rattle.facet_words.specs.declared.command.Order.{Order}
use Rattle.facet_phases.specs.Lanes.{AreIdle, Each, Gathers, IsDealt, LaneRan, MayRun, KeepAll}
use Rattle.facet_phases.specs.Orders.{orders_of}
use Rattle.facet_words.specs.CommandViews.{order_view}
use Rattle.facet_phases.specs.Phases.{AreSpentWithin, PhaseRan, answers_in}
use Rattle.facet_phases.specs.Running.{AreReady, AreUnderway, CarriesOut, Course, further}
use Rattle.facet_engine.proofs.SeenPairs.{still_named, still_belongs}
use Rattle.facet_phases.proofs.Belonging.{still_set, still_numbered, still_made}
use Rattle.facet_phases.proofs.Did.{LaneDid}
use Rattle.facet_phases.proofs.Parts.{AreParts, own_part, sessions_asked, sessions_ran, phase_asked}
use Rattle.facet_phases.proofs.Phasing.{each_new, new_numbered, parts, parts_many, parts_spent, are_parts, are_whole, held_at}
use Rattle.facet_phases.proofs.Spent.{spent_none, spent_more}
use Rattle.facet_phases.proofs.Stepping.{held_append}

-- under another number than those of the sessions nobody entered anything
others_told : (count : ℕ) (a b : Pass) → HaveOneNumber 0 b → HaveMade count b → Gathers a b → (session : ℕ) → (session ≡ 0) ⊎ (count < session) → IsTold session (seen_of a) (seen_of b)
others_told count a b numbers made g session which = ⊎_elim
    (λ is. subst (λ (n : ℕ). IsTold n (seen_of a) (seen_of b)) (sym is) g.told)
    (λ above.
    let labels : NumbersUpTo count b.labels.seen = subst (λ (n : ℕ). NumbersUpTo n b.labels.seen) made.0 (g.counted.0 b.labels_rest.0 numbers.0) in
    let operations : NumbersUpTo count b.operations.seen = subst (λ (n : ℕ). NumbersUpTo n b.operations.seen) made.1 (g.counted.1 b.operations_rest.0 numbers.1) in
    let pairs : NumbersUpTo count b.pairs.seen = subst (λ (n : ℕ). NumbersUpTo n b.pairs.seen) made.2 (g.counted.2 b.pairs_rest.0 numbers.2) in
    let commits : NumbersUpTo count b.commits.seen = subst (λ (n : ℕ). NumbersUpTo n b.commits.seen) made.3 (g.counted.3 b.commits_rest.0 numbers.3) in
    unused count session (seen_of a) (seen_of b) g.told.sees above labels
    (All-map (λ (e : ℕ × Change). e.0 ≤ count) _ b.operations.seen operations)
    (All-map (λ (e : ℕ × (ℕ × ℕ)). e.0 ≤ count) _ b.pairs.seen pairs)
    (All-map (λ (e : ℕ × CommitPoint). e.0 ≤ count) _ b.commits.seen commits))
    which

on_ok_then : {V E A B : Type 0} (r : Result V E) → OnOk r A → (A → B) → OnOk r B
on_ok_then (Ok v) a then = then a
on_ok_then (Err e) a then = tt

module _ {C : Type 0} where
  module _ (Holds : List Answered → C → Type 0) (engine : Engine) (dealt : List Order) (a b : Pass) (xs ws : List (Lane C)) (ready : AreReady engine a xs) (z : AllZip (LaneDid Holds engine dealt (seen_of b)) xs ws) (g : Gathers a b) where
    pub still_many : length ws ≡ length xs
    still_many = sym (length_all_zip (LaneDid Holds engine dealt (seen_of b)) xs ws z)

    pub still_ready : AreReady engine b ws
    still_ready = record {
      own = still_belongs engine a b g.same ready.own;
      made = record {
        numbers = still_numbered 0 a b g.same ready.made.numbers;
        made = subst (λ (n : ℕ). HaveMade n b) (sym still_many) (still_made (length xs) a b g.same ready.made.made);
        counted = g.counted;
        named = still_named 0 a b g.own ready.made.named;
      };
      many = (let m = still_many in let few = ready.many in omega arith);
      numbered = new_numbered Holds engine dealt (seen_of b) 1 xs ws z ready.numbered;
      all = each_new Holds engine dealt (seen_of b) (λ (l : Lane C). BelongsTo engine l.session.pass) (λ (l : Lane C). BelongsTo engine l.session.pass) (λ x y did own. still_belongs engine x.session.pass y.session.pass did.same.1 own) xs ws z ready.all;
      seen = each_new Holds engine dealt (seen_of b) (λ (l : Lane C). BelongsTo engine l.session.pass) (λ (l : Lane C). seen_of l.session.pass ≡ seen_of b) (λ x y did own. did.seen) xs ws z ready.all;
    }

    pub still_idle : AreIdle ws
    still_idle = each_new Holds engine dealt (seen_of b) (λ (l : Lane C). BelongsTo engine l.session.pass) (λ (l : Lane C). l.orders.items ≡ []) (λ x y did own. did.emptied) xs ws z ready.all

    -- then all these phases and this one were carried out
    whole_phase : (course : Course) → AreUnderway engine course a xs → (set : All (λ (l : Lane C). HasSettings engine l.session.pass course.settings) xs)
        → All (λ (o : Order). (1 ≤ o.session) × (o.session ≤ length xs)) dealt → IsTrue (lines_rise (map order_view dealt)) → All (λ (l : Lane C). IsOk l.replies) ws
        → AreParts course.settings (length course.phases) (map order_view dealt) (λ session. held_by [] (own_steps session (steps_of course.ran))) (seen_of a) (seen_of b) 1 (parts Holds engine dealt (seen_of b) course.settings (length course.phases) xs ws z set)
        → PhaseRan course.settings a.commits.frame course.ran (length course.phases) (seen_of a) (seen_of b) (map order_view dealt) (steps_of (parts Holds engine dealt (seen_of b) course.settings (length course.phases) xs ws z set))
        → AreUnderway engine (further course (map order_view dealt ∷ []) (steps_of (parts Holds engine dealt (seen_of b) course.settings (length course.phases) xs ws z set) ∷ [])) b ws
        × KeepAll Holds ws (answers_in (steps_of (parts Holds engine dealt (seen_of b) course.settings (length course.phases) xs ws z set)))
    whole_phase course under set sessions rise ok are phase =
        let n : ℕ = length course.phases in
        let orders : List commands.Order = map order_view dealt in
        let held : ℕ → Held = λ session. held_by [] (own_steps session (steps_of course.ran)) in
        let ps : List (List Step) = parts Holds engine dealt (seen_of b) course.settings n xs ws z set in
        let steps : List Step = steps_of ps in
        let many : length ps ≡ length xs = parts_many Holds engine dealt (seen_of b) course.settings n xs ws z set in
        let all = are_whole Holds engine dealt (seen_of b) course.settings n 1 xs ws z set ready.numbered ok in
        let few : length ps ≤ 64 = (let f = ready.many in omega arith) in
        let within : All (λ (o : commands.Order). o.session ≤ length ps) orders = All-map (λ (o : commands.Order). o.session ≤ length ps) order_view dealt
        (All-weaker (λ (o : Order). (1 ≤ o.session) × (o.session ≤ length xs)) (λ (o : Order). o.session ≤ length ps) (λ o s. let t = s.1 in omega arith) dealt sessions) in (
          record {
            so_far = one_more_phase course.settings course.phases course.opened course.ran (seen_of a) orders steps (seen_of b) under.so_far rise (phase_asked n orders ps few within all.0) phase.sessions;
            frames = each_new Holds engine dealt (seen_of b) (λ (l : Lane C). l.session.pass.commits.frame ≡ a.commits.frame) (λ (l : Lane C). l.session.pass.commits.frame ≡ b.commits.frame)
                (λ x y did is. did.same.1.commits.4 ∙ is ∙ sym g.same.commits.4) xs ws z under.frames;
            spent = subst (λ (f : Frame). AreSpentWithin f (steps_of (course.ran ++ steps ∷ []))) (sym g.same.commits.4) (spent_more a.commits.frame course.ran steps under.spent phase.spent);
            set = each_new Holds engine dealt (seen_of b) (λ (l : Lane C). HasSettings engine l.session.pass course.settings) (λ (l : Lane C). HasSettings engine l.session.pass course.settings) (λ x y did has. still_set engine x.session.pass y.session.pass course.settings did.same.1 has) xs ws z set;
            held = λ i d lt.
                let in' : i < length xs = subst (λ n. i < n) still_many lt in
                let new_number : (get_or ws i d).session.number ≡ 1 + i = new_numbered Holds engine dealt (seen_of b) 1 xs ws z ready.numbered i d lt in
                let old_number : (get_or xs i d).session.number ≡ 1 + i = ready.numbered i d in' in
                let own = own_part course.settings n orders held (seen_of a) (seen_of b) 1 ps are i [] (let m = many in omega arith) in
                let before : numbers_held (get_or xs i d).session.held ≡ held (1 + i) = under.held i d in' ∙ ap held old_number in
                held_at Holds engine dealt (seen_of b) course.settings n xs ws z set i d d [] in'
                ∙ (λ j. held_by (before j) (sym own.1 j))
                ∙ sym (held_append [] (own_steps (1 + i) (steps_of course.ran)) (own_steps (1 + i) steps))
                ∙ ap (held_by []) (ap (λ (l : List Step). own_steps (1 + i) (steps_of course.ran) ++ own_steps (1 + i) l) (sym (append-nil steps)) ∙ sym (own_append (1 + i) course.ran (steps ∷ [])))
                ∙ ap (λ (k : ℕ). held_by [] (own_steps k (steps_of (course.ran ++ steps ∷ [])))) (sym new_number);
          },
          all.1,
        )

    pub carries_out : {E : Type 0} (result : Result (Unit {0}) E) → All (λ (o : Order). (1 ≤ o.session) × (o.session ≤ length xs)) dealt → IsTrue (lines_rise (map order_view dealt)) → OnOk result (All (λ (l : Lane C). IsOk l.replies) ws)
        → CarriesOut Holds engine (map order_view dealt) a b xs ws result
    carries_out result sessions rise whole course under =
        let n : ℕ = length course.phases in
        let orders : List commands.Order = map order_view dealt in
        let held : ℕ → Held = λ session. held_by [] (own_steps session (steps_of course.ran)) in
        let ps : List (List Step) = parts Holds engine dealt (seen_of b) course.settings n xs ws z under.set in
        let are : AreParts course.settings n orders held (seen_of a) (seen_of b) 1 ps = are_parts Holds engine dealt (seen_of b) course.settings n held (seen_of a) 1 xs ws z under.set ready.numbered under.held ready.seen in
        let many : length ps ≡ length xs = parts_many Holds engine dealt (seen_of b) course.settings n xs ws z under.set in
        let others : (session : ℕ) → (session ≡ 0) ⊎ (length ps < session) → IsTold session (seen_of a) (seen_of b) =
        λ session which. others_told (length ps) a b (still_numbered 0 a b g.same ready.made.numbers) (subst (λ (k : ℕ). HaveMade k b) (sym many) (still_made (length xs) a b g.same ready.made.made)) g session which in
        let phase : PhaseRan course.settings a.commits.frame course.ran n (seen_of a) (seen_of b) orders (steps_of ps) = record {
          asked = sessions_asked course.settings n orders held (seen_of a) (seen_of b) ps are;
          sessions = sessions_ran course.settings n orders held (seen_of a) (seen_of b) ps are others;
          spent = parts_spent Holds engine dealt (seen_of b) course.settings n a.commits.frame xs ws z under.set under.frames;
        } in
        record { steps = steps_of ps; phase = phase; whole = on_ok_then result whole (λ ok. whole_phase course under under.set sessions rise ok are phase) }

  -- ---- before it runs

  -- it was given to the sessions
  pub dealt_ready : (engine : Engine) (a : Pass) (xs ys : List (Lane C)) → AreReady engine a xs → length ys ≡ length xs → Each (λ old new. new.session ≡ old.session) xs ys → AreReady engine a ys
  dealt_ready engine a xs ys ready many each = record {
    own = ready.own;
    made = record { numbers = ready.made.numbers; made = subst (λ (n : ℕ). HaveMade n a) (sym many) ready.made.made; counted = ready.made.counted; named = ready.made.named };
    many = (let few = ready.many in omega arith);
    numbered = λ i d lt. let in' : i < length xs = subst (λ n. i < n) many lt in ap (λ (s : Session). s.number) (each i d in') ∙ ready.numbered i d in';
    all = λ i d lt. let in' : i < length xs = subst (λ n. i < n) many lt in subst (λ (s : Session). BelongsTo engine s.pass) (sym (each i d in')) (ready.all i d in');
    seen = λ i d lt. let in' : i < length xs = subst (λ n. i < n) many lt in subst (λ (s : Session). seen_of s.pass ≡ seen_of a) (sym (each i d in')) (ready.seen i d in');
  }

  pub may_run : (engine : Engine) (a : Pass) (dealt : List Order) (xs ys : List (Lane C)) → AreReady engine a xs → AreIdle xs → length ys ≡ length xs → Each (IsDealt dealt) xs ys → All (MayRun engine) ys
  may_run engine a dealt xs ys ready idle many each i d lt =
      let in' : i < length xs = subst (λ n. i < n) many lt in
      let given = each i d in' in
      let n : ℕ = (get_or xs i d).session.number in
      let own : (get_or ys i d).orders.items ≡ orders_of n dealt = given.orders ∙ ap (λ (os : List Order). os ++ orders_of n dealt) (idle i d in') in
      record {
        own = subst (λ (s : Session). BelongsTo engine s.pass) (sym given.session) (ready.all i d in');
        orders = subst (λ (os : List Order). All (λ (o : Order). o.session ≡ (get_or ys i d).session.number) os) (sym own)
            (subst (λ (s : Session). All (λ (o : Order). o.session ≡ s.number) (orders_of n dealt)) (sym given.session)
            (All-weaker (λ (o : Order). eqb o.session n ≡ true) (λ (o : Order). o.session ≡ n) (λ o e. eqb-true o.session n e) (orders_of n dealt) (filter_passes (λ (o : Order). eqb o.session n) dealt)));
      }

  -- it ran: the sessions still belong to the system
  pub all_ran : (Holds : List Answered → C → Type 0) (engine : Engine) (ys zs : List (Lane C)) → AllZip (LaneRan Holds engine) ys zs → All (λ (l : Lane C). BelongsTo engine l.session.pass) ys → All (λ (l : Lane C). BelongsTo engine l.session.pass) zs
  all_ran Holds engine ys zs z all i d lt =
      let in' : i < length ys = subst (λ n. i < n) (sym (length_all_zip (LaneRan Holds engine) ys zs z)) lt in
      let ran = AllZip-get_or (LaneRan Holds engine) ys zs i d d z in' in
      still_belongs engine (get_or ys i d).session.pass (get_or zs i d).session.pass ran.answered.same.1 (all i d in')

  -- no session carried out an order
  pub none_ran : {E : Type 0} (Holds : List Answered → C → Type 0) (engine : Engine) (dealt : List commands.Order) (a : Pass) (xs ys : List (Lane C)) (result : Result (Unit {0}) E) → IsErr result → CarriesOut Holds engine dealt a a xs ys result
  none_ran Holds engine dealt a xs ys (Ok v) fails = absurd (cc)
  none_ran Holds engine dealt a xs ys (Err fault) fails = λ course under. record {
    steps = [];
    phase = record { asked = λ session. (0, refl); sessions = λ session. told_itself session (seen_of a); spent = spent_none a.commits.frame };
    whole = tt;
  }
