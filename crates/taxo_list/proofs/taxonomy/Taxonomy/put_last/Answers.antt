use Rattle.std.proofs.Common.{arith, ◌≡◌, ◌∙◌, ap, sym, subst, true, false, [], ◌∷◌, ◌++◌, Some, length, ◌<◌, ◌+◌, ℕ, List, pos, is_some}
use Rattle.std.proofs.lemmas.Option.{slice_get_within}
use Rattle.std.proofs.lemmas.Int.{to_z_pos}
use mir.Val.{to_z}
use mir.Syntax.{w32}
use Rattle.facet_names.specs.Labels.{above, place, stands}
use Rattle.taxo_list.specs.Kept.{IsTaxonomy}
use Rattle.taxo_list.proofs.Labels.{label_at, stands_by_place}
use Rattle.taxo_list.proofs.Added.{inserted_last, last_ordinal, kept_with_last}
use Rattle.taxo_list.proofs.taxonomy.Taxonomy.put_last.Goals as goal

pub invariant_of-self-2 : goal.invariant_of-self-2
invariant_of-self-2 c =
    let keys : List (List (List ℕ)) = c.self.inside.labels.keys in
    let path : List (List ℕ) = c.args.label in
    let parent : ℕ = c.args.parent in
    let new : stands ([] ∷ keys) path ≡ false = ap (λ l. stands l path) c.self.view_is ∙ c.requires.new in
    let at : place ([] ∷ keys) (above path) ≡ Some parent = ap (λ l. place l (above path)) c.self.view_is ∙ c.requires.parent in
    let under : stands ([] ∷ keys) (above path) ≡ true = sym (stands_by_place ([] ∷ keys) (above path)) ∙ ap is_some at in
    let low : parent < length ([] ∷ keys) = slice_get_within ([] ∷ keys) parent (above path) (label_at ([] ∷ keys) parent (above path) at) in
    let room : length keys + 1 < 1000000 = omega (arith, c.requires.room, ap length c.self.view_is) in
    let last : c.insert.new.self.keys ≡ keys ++ path ∷ [] = c.in_ok-insert.ensures.keys ∙ inserted_last keys c.self.inside.parents.items path c.self.invariant new under in
    let number : to_z w32 parent ≡ pos parent = to_z_pos w32 parent (omega (arith, c.self.invariant.few)) in
    let pushed : c.push.new.self.items ≡ c.self.inside.parents.items ++ pos parent ∷ [] = c.in_ok-push.ensures.items ∙ (λ j. c.in_ok-reserve.ensures.items j ++ number j ∷ []) in
    subst (λ l. IsTaxonomy l c.push.new.self.items) (sym last) (subst (IsTaxonomy (keys ++ path ∷ [])) (sym pushed) (kept_with_last keys c.self.inside.parents.items path c.self.invariant new under parent at room))

pub returns-clause-ordinal : goal.returns-clause-ordinal
returns-clause-ordinal c =
    let keys : List (List (List ℕ)) = c.self.inside.labels.keys in
    let path : List (List ℕ) = c.args.label in
    let new : stands ([] ∷ keys) path ≡ false = ap (λ l. stands l path) c.self.view_is ∙ c.requires.new in
    let at : place ([] ∷ keys) (above path) ≡ Some c.args.parent = ap (λ l. place l (above path)) c.self.view_is ∙ c.requires.parent in
    let under : stands ([] ∷ keys) (above path) ≡ true = sym (stands_by_place ([] ∷ keys) (above path)) ∙ ap is_some at in
    let size : c.size-ord.result ≡ length ([] ∷ keys) = c.size-ord.ensures.size ∙ sym (ap length c.self.view_is) in
    let last : c.insert.new.self.keys ≡ keys ++ path ∷ [] = c.in_ok-insert.ensures.keys ∙ inserted_last keys c.self.inside.parents.items path c.self.invariant new under in
    ap (λ l. place ([] ∷ l) path) last ∙ last_ordinal keys c.self.inside.parents.items path c.self.invariant new under ∙ ap Some (sym size)

pub returns-clause-list : goal.returns-clause-list
returns-clause-list c = (invariant_of-self-2 c).list
