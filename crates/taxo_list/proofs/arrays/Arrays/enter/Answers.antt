use Rattle.std.proofs.Common.{arith, ◌≡◌, ◌∙◌, ◌++◌, ◌∷◌, ◌<◌, [], ℤ, negsuc, pos, length, set, slice_get, ap, sym}
use lib.IntN.{nat_abs}
use mir.Val.{to_z, of_z}
use mir.Syntax.{w32}
use Rattle.std.proofs.lemmas.Int.{to_z-of_z, to_z_pos}
use Rattle.std.proofs.lemmas.List.{length-append}
use Rattle.taxo_list.specs.ArrayLists.{ArrayLists}
use Rattle.taxo_list.proofs.More.{sizes, negative, not_negative, parent_below, entered_root, entered_child}
use Rattle.taxo_list.proofs.arrays.Arrays.enter.Goals as goal
use Rattle.taxo_list.proofs.arrays.Arrays.enter.Goals.{then-parent-lt0+in_ok-push-2, else-parent-lt0+in_ok-push-3+in_ok-set}

pub push-requires : goal.push-requires
push-requires c = record { few = omega (arith, ap (λ (a : ArrayLists). length a.children) c.self.view_is, (sizes c.args.self.now c.requires.linked).0, c.requires.few) }

pub push-requires-then-parent-lt0 : goal.push-requires-then-parent-lt0
push-requires-then-parent-lt0 c = record { few = omega (arith, ap (λ (a : ArrayLists). length a.siblings) c.self.view_is, (sizes c.args.self.now c.requires.linked).1, c.requires.few) }

pub push-requires-else-parent-lt0 : goal.push-requires-else-parent-lt0
push-requires-else-parent-lt0 c = record { few = omega (arith, ap (λ (a : ArrayLists). length a.siblings) c.self.view_is, (sizes c.args.self.now c.requires.linked).1, c.requires.few) }

pub set-requires : goal.set-requires
set-requires c =
    let raw : to_z w32 (of_z w32 c.args.parent) ≡ c.args.parent = to_z-of_z w32 c.args.parent c.ranges.parent in
    let below : nat_abs (to_z w32 (of_z w32 c.args.parent)) < length c.args.self.now.parents = parent_below c.args.self.now.parents c.args.parent c.requires.parent (nat_abs (to_z w32 (of_z w32 c.args.parent))) (not_negative c.args.parent (to_z w32 (of_z w32 c.args.parent)) raw c.if-parent-lt0.false) in
    omega (arith, below, ap length c.in_ok-push.ensures.ok, length-append c.self.inside.children (negsuc 0 ∷ []), ap (λ (a : ArrayLists). length a.children) c.self.view_is, (sizes c.args.self.now c.requires.linked).0)

pub returns : goal.returns
returns c =
    let x : ℤ = c.args.parent in
    let read : ℤ = to_z w32 (of_z w32 x) in
    let raw : read ≡ x = to_z-of_z w32 x c.ranges.parent in
    let old : ArrayLists = c.args.self.now in
    let new : ArrayLists = record { parents = c.push-2.new.self; children = c.if-parent-lt0.self-inside.children; siblings = c.if-parent-lt0.self-inside.siblings } in
    let pushed : c.push.new.self ≡ old.children ++ negsuc 0 ∷ [] = c.in_ok-push.ensures.ok ∙ ap (λ (a : ArrayLists). a.children ++ negsuc 0 ∷ []) c.self.view_is in
    let many : length c.self.inside.parents ≡ length old.parents = ap (λ (a : ArrayLists). length a.parents) c.self.view_is in
    let number : to_z w32 c.len-ord.result ≡ pos (length old.parents) = to_z_pos w32 c.len-ord.result (omega (arith, c.len-ord.ensures, many, c.requires.few)) ∙ ap pos (c.len-ord.ensures ∙ many) in
    elim c.if-parent-lt0.branch [
      | then-parent-lt0+in_ok-push-2 w ↦
          let parents : new.parents ≡ old.parents ++ x ∷ [] = c.in_ok-push-4.ensures.ok ∙ (λ i. (w.self-inside-is i).parents ++ raw i ∷ []) ∙ ap (λ (a : ArrayLists). a.parents ++ x ∷ []) c.self.view_is in
          let sibs : new.siblings ≡ old.siblings ++ negsuc 0 ∷ [] = (λ i. (w.self-inside-is i).siblings) ∙ w.in_ok-push-2.ensures.ok ∙ ap (λ (a : ArrayLists). a.siblings ++ negsuc 0 ∷ []) c.self.view_is in
          entered_root old new x c.requires.parent c.requires.linked parents (negative x read raw w.if-parent-lt0.true) ((λ i. (w.self-inside-is i).children) ∙ pushed) sibs
      | else-parent-lt0+in_ok-push-3+in_ok-set w ↦
          let parents : new.parents ≡ old.parents ++ x ∷ [] = c.in_ok-push-4.ensures.ok ∙ (λ i. (w.self-inside-is i).parents ++ raw i ∷ []) ∙ ap (λ (a : ArrayLists). a.parents ++ x ∷ []) c.self.view_is in
          let sibs : new.siblings ≡ old.siblings ++ w.get.result ∷ [] = (λ i. (w.self-inside-is i).siblings) ∙ w.in_ok-push-3.ensures.ok ∙ ap (λ y. c.self.inside.siblings ++ y ∷ []) (to_z-of_z w32 w.get.result (record { sfits = w.get.type_inv })) ∙ ap (λ (a : ArrayLists). a.siblings ++ w.get.result ∷ []) c.self.view_is in
          let kids : new.children ≡ set (old.children ++ negsuc 0 ∷ []) (nat_abs read) (pos (length old.parents)) = (λ i. (w.self-inside-is i).children) ∙ w.in_ok-set.ensures.ok ∙ (λ i. set (pushed i) (nat_abs read) (number i)) in
          entered_child old new x c.requires.parent c.requires.linked parents (nat_abs read) w.get.result (not_negative x read raw w.if-parent-lt0.false) (ap (λ l. slice_get l (nat_abs read)) (sym pushed) ∙ w.get.ensures) kids sibs
    ]
