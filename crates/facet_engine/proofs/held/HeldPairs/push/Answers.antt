use Rattle.std.proofs.Common.{◌≡◌, ◌≢◌, ◌∙◌, ◌++◌, ◌∷◌, [], None, sym, ap, subst}
use Rattle.std.specs.Prelude.{string_bytes}
use Rattle.std.proofs.lemmas.List.{map-append}
use Rattle.std.proofs.lemmas.List.Quantifiers.{all_pairs_push}
use Rattle.facet_engine.specs.declared.held.Held.{Held}
use Rattle.facet_engine.specs.HeldPairs.{HeldPair, AreNamedApart, pair_under}
use Rattle.facet_engine.specs.Leases.{pairs_in}
use Rattle.facet_engine.proofs.Naming.{none_under}
use Rattle.facet_engine.proofs.held.HeldPairs.push.Goals as goal

pub invariant_of-self-2 : goal.invariant_of-self-2
invariant_of-self-2 c =
    let name = string_bytes c.args.name in
    let held = pairs_in c.self.inside.items.items in
    let pair_of : Held → HeldPair = λ h. record { name = string_bytes h.name; pair = h.lease } in
    let none : pair_under held name ≡ None = ap (λ h. pair_under h name) c.self.view_is ∙ c.requires.apart in
    let pushed : pairs_in c.push.new.self.items ≡ held ++ record { name = name; pair = c.args.lease } ∷ [] = ap pairs_in c.in_ok-push.ensures.items ∙ map-append pair_of c.self.inside.items.items _ in
    subst AreNamedApart (sym pushed) (all_pairs_push (λ (a b : HeldPair). a.name ≢ b.name) held (record { name = name; pair = c.args.lease }) c.self.invariant (none_under held name none))
