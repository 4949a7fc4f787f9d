use Rattle.std.proofs.Common.{◌≡◌, ◌∙◌, ◌<◌, ◌++◌, [], ◌∷◌, ℕ, List, true, not, cond, if◌then◌else◌, length, ap, sym, arith, append-nil}
use Rattle.chronicle.specs.History.{numbered}
use Rattle.chronicle.specs.Shown.{mine}
use Rattle.facet_names.specs.Labels.{stands, with_label}
use Rattle.taxo_cache.specs.Seen.{labels_of}
use Rattle.taxo_adding.proofs.Ordinals.{was_there}
use Rattle.taxo_adding.proofs.resolving.add_label.Goals as goal

pub returns-else-ord-size-clause-list : goal.returns-else-ord-size-clause-list
returns-else-ord-size-clause-list c =
    let labels : List (List (List ℕ)) = labels_of c.args.token.now.seen in
    let path : List (List ℕ) = c.args.path in
    let added : c.add_under.new.self ≡ with_label labels path = c.in-Ok.ensures.added ∙ ap (λ l. with_label l path) c.requires.list in
    let low : c.in-Ok.ord < length labels = omega (arith, c.if-ord-size.false, c.size-size.ensures.size, ap length c.requires.list) in
    added ∙ ap (λ b. if b then labels else labels ++ path ∷ []) (was_there labels c.add_under.new.self path c.in-Ok.ord added c.in-Ok.ensures.ordinal low)

pub returns-else-ord-size-clause-entered : goal.returns-else-ord-size-clause-entered
returns-else-ord-size-clause-entered c =
    let seen = c.args.token.now.seen in
    let path : List (List ℕ) = c.args.path in
    let added : c.add_under.new.self ≡ with_label (labels_of seen) path = c.in-Ok.ensures.added ∙ ap (λ l. with_label l path) c.requires.list in
    let low : c.in-Ok.ord < length (labels_of seen) = omega (arith, c.if-ord-size.false, c.size-size.ensures.size, ap length c.requires.list) in
    let there : stands (labels_of seen) path ≡ true = was_there (labels_of seen) c.add_under.new.self path c.in-Ok.ord added c.in-Ok.ensures.ordinal low in
    sym (append-nil seen) ∙ ap (λ b. seen ++ numbered c.args.token.now.number (cond (not b) (path ∷ []) [])) (sym there)

pub returns-else-ord-size-clause-mine : goal.returns-else-ord-size-clause-mine
returns-else-ord-size-clause-mine c =
    let seen = c.args.token.now.seen in
    let own = mine c.args.token.now in
    let path : List (List ℕ) = c.args.path in
    let added : c.add_under.new.self ≡ with_label (labels_of seen) path = c.in-Ok.ensures.added ∙ ap (λ l. with_label l path) c.requires.list in
    let low : c.in-Ok.ord < length (labels_of seen) = omega (arith, c.if-ord-size.false, c.size-size.ensures.size, ap length c.requires.list) in
    let there : stands (labels_of seen) path ≡ true = was_there (labels_of seen) c.add_under.new.self path c.in-Ok.ord added c.in-Ok.ensures.ordinal low in
    sym (append-nil own) ∙ ap (λ b. own ++ numbered c.args.token.now.number (cond (not b) (path ∷ []) [])) (sym there)
