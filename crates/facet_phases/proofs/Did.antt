-- What a phase did to one session.
use Rattle.std.proofs.Common.{◌≡◌, ◌∙◌, ℕ, eqb, List, [], ◌++◌, length, map, take, ap, sym, subst}
use Rattle.std.specs.Prelude.{Result, Ok, Err, IfOk}
use Rattle.std.specs.Global.{Vec}
use Rattle.std.specs.List.{AllZip}
use Rattle.std.proofs.lemmas.List.{take-map}
use Rattle.facet_names.specs.declared.fault.NoMemory.{NoMemory}
use Rattle.facet_words.specs.Commands.{Settings}
use Rattle.facet_words.specs.Commands as commands
use Rattle.facet_output.specs.Answered.{Answered}
use Rattle.facet_output.specs.Seen.{Seen, IsTold}
use Rattle.facet_output.specs.Sessions.{SessionRan, held_by}
use Rattle.facet_output.specs.Steps.{Step}
use Rattle.facet_output.proofs.Among.{filter-map}
use Rattle.facet_output.proofs.Gluing.{session_told}
use Rattle.facet_engine.specs.declared.session.Session.{Session}
use Rattle.facet_engine.specs.Calls.{SameSession}
use Rattle.facet_engine.specs.HeldPairs.{numbers_held}
use Rattle.facet_engine.specs.Steps.{seen_of}
use Rattle.facet_engine.specs.Systems.{Engine, HasSettings}
use Rattle.facet_phases.specs.declared.lane.Lane.{Lane}
use Rattle.facet_words.specs.declared.command.Order.{Order}
use Rattle.facet_phases.specs.Lanes.{AreIdle, Each, IsDealt, LaneRan, LaneTold}
use Rattle.facet_phases.specs.Orders.{Answers, HasAnswered, orders_of}
use Rattle.facet_words.specs.CommandViews.{order_view}
use Rattle.facet_phases.specs.Phases.{AreSpentWithin, answers_in, asked, in_phase, orders_by}
use Rattle.facet_phases.proofs.Belonging.{session_then}
use Rattle.facet_phases.proofs.Zips.{zip_from_each, zip_then}

if_ok_then : {V E : Type 0} (P Q : V → Type 0) (r : Result V E) → IfOk r P → ((v : V) → P v → Q v) → IfOk r Q
if_ok_then P Q (Ok v) p then = then v p
if_ok_then P Q (Err e) p then = tt

module _ {C : Type 0} (Holds : List Answered → C → Type 0) where
  -- its steps, for the first of its orders among those of the phase; where it kept the replies, for all
  pub record HasDone (settings : Settings) (phase : ℕ) (orders : List commands.Order) (next : Seen) (old new : Lane C) : Type 0 where
    pub steps : List Step
    pub many : ℕ
    pub first : asked steps ≡ in_phase phase (take many (orders_by old.session.number orders))
    pub ran : SessionRan settings old.session.number (numbers_held old.session.held) (seen_of old.session.pass) steps next
    pub held : numbers_held new.session.held ≡ held_by (numbers_held old.session.held) steps
    pub spent : AreSpentWithin old.session.pass.commits.frame steps
    pub whole : IfOk new.replies (λ v. (asked steps ≡ in_phase phase (orders_by old.session.number orders)) × Holds (answers_in steps) v)

  pub record LaneDid (engine : Engine) (dealt : List Order) (next : Seen) (old new : Lane C) : Type 0 where
    pub same : SameSession old.session new.session
    pub seen : seen_of new.session.pass ≡ next
    pub emptied : new.orders.items ≡ []
    pub ran : (settings : Settings) (phase : ℕ) → HasSettings engine old.session.pass settings → HasDone settings phase (map order_view dealt) next old new

  has_done : (settings : Settings) (phase : ℕ) (dealt : List Order) (next : Seen) (a c d : Lane C) → SameSession a.session c.session → HasAnswered Holds settings phase a.session c.session (orders_of a.session.number dealt) c.replies
      → LaneTold next c d → HasDone settings phase (map order_view dealt) next a d
  has_done settings phase dealt next a c d same s told =
      let n : ℕ = a.session.number in
      let own : List Order = orders_of n dealt in
      let views : map order_view own ≡ orders_by n (map order_view dealt) = sym (filter-map order_view (λ (o : commands.Order). eqb o.session n) dealt) in
      record {
        steps = s.steps;
        many = s.many;
        first = s.asked ∙ ap (in_phase phase) (sym (take-map order_view s.many own) ∙ ap (take s.many) views);
        ran = session_told settings n (numbers_held a.session.held) (seen_of a.session.pass) s.steps (seen_of c.session.pass) next s.ran (subst (λ (k : ℕ). IsTold k (seen_of c.session.pass) next) same.0 told.told);
        held = ap numbers_held told.held ∙ s.held;
        spent = s.spent;
        whole = subst (λ (r : Result C NoMemory). IfOk r (λ v. (asked s.steps ≡ in_phase phase (orders_by n (map order_view dealt))) × Holds (answers_in s.steps) v)) (sym told.replies)
            (if_ok_then (λ v. (take s.many own ≡ own) × Holds (answers_in s.steps) v) (λ v. (asked s.steps ≡ in_phase phase (orders_by n (map order_view dealt))) × Holds (answers_in s.steps) v) c.replies s.replies
            (λ v p. (s.asked ∙ ap (λ (l : List Order). in_phase phase (map order_view l)) p.0 ∙ ap (in_phase phase) views, p.1)));
      }

  -- dealt, run and told
  pub lane_did : (engine : Engine) (dealt : List Order) (next : Seen) (a b c d : Lane C) → a.orders.items ≡ [] → IsDealt dealt a b → LaneRan Holds engine b c → LaneTold next c d → LaneDid engine dealt next a d
  lane_did engine dealt next a b c d idle given ran told =
      let own : List Order = orders_of a.session.number dealt in
      let orders : b.orders.items ≡ own = given.orders ∙ ap (λ (os : List Order). os ++ own) idle in
      let answered : Answers Holds engine a.session c.session own c.replies = subst (λ (os : List Order). Answers Holds engine a.session c.session os c.replies) orders
      (subst (λ (s : Session). Answers Holds engine s c.session b.orders.items c.replies) given.session ran.answered) in
      record {
        same = session_then a.session c.session d.session answered.same told.same;
        seen = told.seen;
        emptied = ap (λ (os : Vec Order). os.items) told.orders ∙ ran.emptied;
        ran = λ settings phase has. has_done settings phase dealt next a c d answered.same (answered.ran settings phase has) told;
      }

  pub all_did : (engine : Engine) (dealt : List Order) (next : Seen) (xs ys zs ws : List (Lane C)) → length ys ≡ length xs → AreIdle xs → Each (IsDealt dealt) xs ys → AllZip (LaneRan Holds engine) ys zs → AllZip (LaneTold next) zs ws
      → AllZip (LaneDid engine dealt next) xs ws
  all_did engine dealt next xs ys zs ws same idle given ran told =
      zip_then (λ (l : Lane C). l.orders.items ≡ []) (λ x z. (y : Lane C) × IsDealt dealt x y × LaneRan Holds engine y z) (LaneTold next) (LaneDid engine dealt next)
      (λ x z w empty middle last. lane_did engine dealt next x middle.0 z w empty middle.1 middle.2 last) xs zs ws idle
      (zip_then (λ (l : Lane C). Unit {0}) (IsDealt dealt) (LaneRan Holds engine) (λ x z. (y : Lane C) × IsDealt dealt x y × LaneRan Holds engine y z) (λ x y z u g r. (y, g, r)) xs ys zs (λ i d lt. tt) (zip_from_each (IsDealt dealt) xs ys same given) ran) told
