use Rattle.std.proofs.Common.{rules, ◌≡◌, ◌≢◌, ◌∙◌, Bool, ap, subst, sym}
use Rattle.std.specs.Prelude.{not, filter, string_bytes}
use Rattle.std.specs.Str.{bytes_eq}
use Rattle.std.proofs.lemmas.Fn.{filter_same}
use Rattle.std.proofs.lemmas.List.Kept.{AllPairs-filter}
use Rattle.facet_engine.specs.declared.held.Held.{Held}
use Rattle.facet_engine.specs.HeldPairs.{HeldPair, AreNamedApart, without}
use Rattle.facet_engine.specs.Leases.{pairs_in}
use Rattle.facet_engine.proofs.Naming.{retained}
use Rattle.facet_engine.proofs.held.HeldPairs.release.Goals as goal

pub invariant_of-self : goal.invariant_of-self
invariant_of-self c =
    let name = c.args.name.now in
    let test : Held → Bool = λ h. not (bytes_eq (string_bytes h.name) name) in
    let kept : c.retain.new.self.items ≡ filter test c.self.inside.items.items = filter_same _ test _ (λ x b f k. search rules) _ _ c.retain.ensures.filtered in
    subst AreNamedApart (sym (ap pairs_in kept ∙ retained c.self.inside.items.items name))
    (AllPairs-filter (λ (a b : HeldPair). a.name ≢ b.name) (λ h. not (bytes_eq h.name name)) (pairs_in c.self.inside.items.items) c.self.invariant)

pub returns-clause-rest : goal.returns-clause-rest
returns-clause-rest c =
    let name = c.args.name.now in
    let test : Held → Bool = λ h. not (bytes_eq (string_bytes h.name) name) in
    let kept : c.retain.new.self.items ≡ filter test c.self.inside.items.items = filter_same _ test _ (λ x b f k. search rules) _ _ c.retain.ensures.filtered in
    ap pairs_in kept ∙ retained c.self.inside.items.items name ∙ ap (λ h. without h name) c.self.view_is
