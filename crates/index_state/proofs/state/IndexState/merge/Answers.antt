use Rattle.std.proofs.Common.{◌≡◌, ◌∙◌, ◌∷◌, ◌+◌, [], ℕ, List, length, take, drop, refl, ap, sym, arith}
use Rattle.std.proofs.lemmas.List.{take_all, drop_all, length-map}
use Rattle.std.specs.Arc.{arc_value}
use Rattle.facet_model.specs.Histories.{Operation}
use Rattle.facet_model.specs.Stored.{Records}
use Rattle.index_state.specs.Index.{Index, StandsFor, IsFlushed, docs_under}
use Rattle.index_state.proofs.Standing.{same_stands}
use Rattle.index_state.proofs.state.IndexState.merge.Goals as goal

waiting_is : (old mid new : Index) → IsFlushed old mid → new ≡ record mid { segments = new.segments } → new.waiting ≡ 0
waiting_is old mid new flushed put = ap (λ (x : Index). x.waiting) put ∙ ap (λ (x : Index). x.waiting) flushed.rest

-- what stays where segments were flushed, and one was put in the place of all
rest_of : (old mid new : Index) → IsFlushed old mid → new ≡ record mid { segments = new.segments } → new ≡ record old { segments = new.segments; waiting = new.waiting }
rest_of old mid new flushed put =
    put ∙ ap (λ (x : Index). record x { segments = new.segments }) flushed.rest ∙ ap (λ (n : ℕ). record old { segments = new.segments; waiting = n }) (sym (waiting_is old mid new flushed put))

rest_same : (old new : Index) → new ≡ old → new ≡ record old { segments = new.segments; waiting = new.waiting }
rest_same old new same = same ∙ (λ i. record old { segments = (sym same i).segments; waiting = (sym same i).waiting })

stands_on : (old new : Index) → new ≡ record old { segments = new.segments; waiting = new.waiting } → (history : List Operation) → StandsFor old history → StandsFor new history
stands_on old new rest = same_stands old new (ap (λ (x : Index). x.docs) rest) (ap (λ (x : Index). x.sessions) rest) (ap (λ (x : Index). x.labels) rest)

pub merged-requires : goal.merged-requires
merged-requires c = omega (arith, c.if-count-lt2.false, ap length c.segments-count.ensures.segments, length-map c.segments-count.result.now arc_value)

pub install_merged-requires-clause-range : goal.install_merged-requires-clause-range
install_merged-requires-clause-range c = omega (arith, ap length c.segments-count.ensures.segments, length-map c.segments-count.result.now arc_value)

pub install_merged-requires-clause-same : goal.install_merged-requires-clause-same
install_merged-requires-clause-same c =
    let mid = c.flush.new.self in
    let all : take (length c.segments-count.result.now) mid.segments ≡ mid.segments = take_all (length c.segments-count.result.now) mid.segments (omega (arith, ap length c.segments-count.ensures.segments, length-map c.segments-count.result.now arc_value)) in
    c.in_ok-merged.ensures.same ∙ ap (docs_under mid.labels) (sym all)

pub returns-in_err-flush-clause-rest : goal.returns-in_err-flush-clause-rest
returns-in_err-flush-clause-rest c = rest_same c.args.self.now c.flush.new.self c.in_err-flush.ensures.unchanged

pub returns-then-count-lt2-clause-rest : goal.returns-then-count-lt2-clause-rest
returns-then-count-lt2-clause-rest c = rest_of c.args.self.now c.flush.new.self c.flush.new.self c.in_ok-flush.ensures.flushed refl

pub returns-then-count-lt2-clause-one : goal.returns-then-count-lt2-clause-one
returns-then-count-lt2-clause-one c = (
  waiting_is c.args.self.now c.flush.new.self c.flush.new.self c.in_ok-flush.ensures.flushed refl,
  omega (arith, c.if-count-lt2.true, ap length c.segments-count.ensures.segments, length-map c.segments-count.result.now arc_value),
)

pub returns-then-count-lt2-clause-stands : goal.returns-then-count-lt2-clause-stands
returns-then-count-lt2-clause-stands c = stands_on c.args.self.now c.flush.new.self (returns-then-count-lt2-clause-rest c)

pub returns-in_err-merged-clause-rest : goal.returns-in_err-merged-clause-rest
returns-in_err-merged-clause-rest c = rest_of c.args.self.now c.flush.new.self c.flush.new.self c.in_ok-flush.ensures.flushed refl

pub returns-in_err-merged-clause-stands : goal.returns-in_err-merged-clause-stands
returns-in_err-merged-clause-stands c = stands_on c.args.self.now c.flush.new.self (returns-in_err-merged-clause-rest c)

pub returns-clause-rest : goal.returns-clause-rest
returns-clause-rest c = rest_of c.args.self.now c.flush.new.self c.install_merged.new.self c.in_ok-flush.ensures.flushed c.install_merged.ensures.rest

pub returns-clause-one : goal.returns-clause-one
returns-clause-one c =
    let mid = c.flush.new.self in
    let count = (length c.segments-count.result.now) in
    let none : drop (0 + count) mid.segments ≡ [] = drop_all (0 + count) mid.segments (omega (arith, ap length c.segments-count.ensures.segments, length-map c.segments-count.result.now arc_value)) in
    let list : c.install_merged.new.self.segments ≡ arc_value c.in_ok-merged.merged ∷ [] = c.install_merged.ensures.list ∙ ap (λ (ss : List Records). arc_value c.in_ok-merged.merged ∷ ss) none in
    (waiting_is c.args.self.now mid c.install_merged.new.self c.in_ok-flush.ensures.flushed c.install_merged.ensures.rest, omega (arith, ap length list))

pub returns-clause-stands : goal.returns-clause-stands
returns-clause-stands c = stands_on c.args.self.now c.install_merged.new.self (returns-clause-rest c)
