-- Labels that are read one after the other.
use Rattle.std.proofs.Common.{◌≡◌, ℕ, zero, suc, ◌+◌, ◌-◌, ◌<◌, ◌≤◌, List, [], ◌∷◌, ◌++◌, length, slice_get, Option, Some, None, cond, nat_lt, Result, Ok, Err, refl, sym, ap, subst, ◌∙◌, append_assoc, arith, length-append}
use Rattle.std.specs.List.{flat_map}
use Rattle.std.proofs.lemmas.List.{append-nil, get_or_append_left}
use Rattle.std.proofs.lemmas.Option.{slice_get-get_or, slice_get_within, get_or_from_slice_get}
use Rattle.facet_names.specs.Labels.{IsLabelList, above, place}
use Rattle.facet_names.proofs.LabelLists.{one_more_label, place_at, label_stands}
use Rattle.facet_codec.specs.Places.{Place, IsBytes}
use Rattle.facet_codec.specs.Faults.{fault_at}
use Rattle.facet_codec.specs.Spelling.{be32, text}
use Rattle.facet_codec.specs.Reading.{◌>>=◌, u32_at, text_at}
use Rattle.facet_codec.specs.Laws.{Takes}
use Rattle.facet_codec.proofs.Taking.{Takes-none, Takes-then, done_is, bind_ok, guard_yes, told_ok}
use Rattle.facet_codec.proofs.EachKind.{u32_spelled, text_spelled}
use Rattle.label_file.specs.declared.fault.LabelsFault.{LabelsFault}
use Rattle.label_file.specs.declared.fault.LabelsFault.TheVariants.{Malformed, NoMemory}
use Rattle.label_file.specs.LabelBytes.{label_bytes}
use Rattle.label_file.specs.LabelReading.{Fails, codec, or_fault, path_below, parent_at, label_at, labels_at}
use Rattle.label_file.proofs.Below.{IsBelow, below_is}

-- ---- a loop that reads label after label; i of n were read

pub labels_more : (n i : ℕ) (labels : List (List (List ℕ))) (p q : Place) (path : List (List ℕ)) → i < n → label_at labels p ≡ Ok (path, q) → labels_at (n - i) labels p ≡ labels_at (n - (i + 1)) (labels ++ path ∷ []) q
unfolding labels_at
labels_more n i labels p q path lt e =
    let k : n - i ≡ suc (n - (i + 1)) = omega arith in
    rw (k, e) refl

pub labels_fail : (n i : ℕ) (labels : List (List (List ℕ))) (p : Place) (e : LabelsFault) (total : Result (List (List (List ℕ)) × Place) ℕ) → i < n → Fails e (label_at labels p) → labels_at (n - i) labels p ≡ total → Fails e total
unfolding labels_at
labels_fail n i labels p (Malformed at) total lt fails so_far =
    let k : n - i ≡ suc (n - (i + 1)) = omega arith in
    sym so_far ∙ rw (k, fails) refl
labels_fail n i labels p NoMemory total lt fails so_far = tt

pub labels_done : (n i : ℕ) (labels : List (List (List ℕ))) (p : Place) → n ≤ i → labels_at (n - i) labels p ≡ Ok (labels, p)
unfolding labels_at
labels_done n i labels p le =
    let k : n - i ≡ 0 = omega arith in
    rw k refl

pub labels_push : (i : ℕ) (known : List (List (List ℕ))) (start : Place) (labels : List (List (List ℕ))) (p : Place) (path : List (List ℕ)) (q : Place) → labels_at i known start ≡ Ok (labels, p) → label_at labels p ≡ Ok (path, q) → labels_at (i + 1) known start ≡ Ok (labels ++ path ∷ [], q)
unfolding labels_at
labels_push zero known start labels p path q before e =
    let same : (known, start) ≡ (labels, p) = done_is ℕ (known, start) (labels, p) before in
    subst (λ (x : List (List (List ℕ)) × Place). labels_at 1 x.0 x.1 ≡ Ok (labels ++ path ∷ [], q)) (sym same) (rw e refl)
labels_push (suc i) known start labels p path q before e =
    let a = bind_ok (label_at known start) (λ first. labels_at i (known ++ first.0 ∷ []) first.1) (labels, p) before in
    let k : suc i + 1 ≡ suc (i + 1) = omega arith in
    rw (k, a.1) (labels_push i (known ++ a.0.0 ∷ []) a.0.1 labels p path q a.2 e)

-- ---- what was read

-- the ordinal of a parent that was read
pub parent_read : (known : ℕ) (p : Place) (parent : ℕ × Place) → parent_at known p ≡ Ok parent → u32_at p ≡ Ok parent
unfolding parent_at
parent_read known p parent e =
    let a = bind_ok (codec (u32_at p)) (λ parent. cond (nat_lt parent.0 known) (Ok parent) (Err p.at)) parent e in
    let g = guard_yes (nat_lt a.0.0 known) p.at a.0 parent a.2 in
    told_ok fault_at (u32_at p) a.0 a.1 ∙ ap (λ (x : ℕ × Place). Ok x) g.1

-- a label that was read: its parent's ordinal, its last component, and where it ends
record IsLabelRead (labels : List (List (List ℕ))) (p : Place) (path : List (List ℕ)) (q : Place) : Type 0 where
  parent : ℕ
  part : List ℕ
  below : IsBelow labels parent part path
  number : Place
  number_is : u32_at p ≡ Ok (parent, number)
  part_is : text_at 4294967295 number ≡ Ok (part, q)

or_fault_ok : {A : Type 0} (at : ℕ) (p q : Place) (o : Option A) (x : A) → or_fault at p o ≡ Ok (x, q) → (o ≡ Some x) × (p ≡ q)
or_fault_ok {A} at p q (Some y) x e =
    let same : (y, p) ≡ (x, q) = done_is ℕ (y, p) (x, q) e in
    (ap (λ (z : A × Place). Some z.0) same, ap (λ (z : A × Place). z.1) same)
or_fault_ok at p q None x e = absurd cc

label_read : (labels : List (List (List ℕ))) (p : Place) (path : List (List ℕ)) (q : Place) → label_at labels p ≡ Ok (path, q) → IsLabelRead labels p path q
unfolding label_at
label_read labels p path q e =
    let a = bind_ok (parent_at (length labels) p) (λ parent. codec (text_at 4294967295 parent.1) >>= λ part. or_fault p.at part.1 (path_below labels parent.0 part.0)) (path, q) e in
    let b = bind_ok (codec (text_at 4294967295 a.0.1)) (λ part. or_fault p.at part.1 (path_below labels a.0.0 part.0)) (path, q) a.2 in
    let o = or_fault_ok p.at b.0.1 q (path_below labels a.0.0 b.0.0) path b.2 in
    record {
      parent = a.0.0;
      part = b.0.0;
      below = below_is labels a.0.0 b.0.0 path o.0;
      number = a.0.1;
      number_is = parent_read (length labels) p a.0 a.1;
      part_is = told_ok fault_at (text_at 4294967295 a.0.1) b.0 b.1 ∙ ap (λ r. Ok (b.0.0, r)) o.1;
    }

-- the labels that were read, behind those before
pub record AreLabelsRead (n : ℕ) (labels all : List (List (List ℕ))) : Type 0 where
  pub others : List (List (List ℕ))
  pub are : all ≡ labels ++ others
  pub count : length others ≡ n

pub labels_read : (n : ℕ) (labels all : List (List (List ℕ))) (p q : Place) → labels_at n labels p ≡ Ok (all, q) → AreLabelsRead n labels all
unfolding labels_at
labels_read zero labels all p q e = record { others = []; are = ap (λ (x : List (List (List ℕ)) × Place). x.0) (sym (done_is ℕ (labels, p) (all, q) e)) ∙ sym (append-nil labels); count = refl }
labels_read (suc n) labels all p q e =
    let a = bind_ok (label_at labels p) (λ first. labels_at n (labels ++ first.0 ∷ []) first.1) (all, q) e in
    let rest = labels_read n (labels ++ a.0.0 ∷ []) all a.0.1 q a.2 in
    record { others = a.0.0 ∷ rest.others; are = rest.are ∙ append_assoc labels (a.0.0 ∷ []) rest.others; count = ap suc rest.count }

-- a label list goes on to a label list
pub labels_list : (n : ℕ) (labels all : List (List (List ℕ))) (p q : Place) → IsLabelList labels → labels_at n labels p ≡ Ok (all, q) → IsLabelList all
unfolding labels_at
labels_list zero labels all p q list e = subst (λ (x : List (List (List ℕ)) × Place). IsLabelList x.0) (done_is ℕ (labels, p) (all, q) e) list
labels_list (suc n) labels all p q list e =
    let a = bind_ok (label_at labels p) (λ first. labels_at n (labels ++ first.0 ∷ []) first.1) (all, q) e in
    let read = label_read labels p a.0.0 a.0.1 a.1 in
    labels_list n (labels ++ a.0.0 ∷ []) all a.0.1 q (one_more_label labels a.0.0 list read.below.fresh (label_stands labels read.parent (above a.0.0) read.below.under)) a.2

-- ---- the bytes that were read

-- what stands at an ordinal stands there in a longer list
pub get_longer : (labels others : List (List (List ℕ))) (k : ℕ) (path : List (List ℕ)) → slice_get labels k ≡ Some path → slice_get (labels ++ others) k ≡ Some path
get_longer labels others k path at =
    let lt : k < length labels = slice_get_within labels k path at in
    slice_get-get_or (labels ++ others) k [] (omega (arith, lt, length-append labels others)) ∙ ap Some (get_or_append_left labels others [] k lt ∙ get_or_from_slice_get labels k path [] at)

-- the bytes of a label that was read
label_taken : (labels : List (List (List ℕ))) (p : Place) (path : List (List ℕ)) (q : Place) (read : IsLabelRead labels p path q) → IsBytes p.rest → Takes p (be32 read.parent ++ text read.part) q
label_taken labels p path q read fits =
    let number = u32_spelled p read.parent read.number fits read.number_is in
    let part = text_spelled 4294967295 read.number read.part q number.0.bytes read.part_is in
    Takes-then p (be32 read.parent) read.number (text read.part) q number.0 part.0

-- they are the spelling of the label, whatever was read after it
label_spelled : (labels all others : List (List (List ℕ))) (p : Place) (path : List (List ℕ)) (q : Place) (read : IsLabelRead labels p path q) → IsLabelList all → all ≡ labels ++ others → label_bytes all path ≡ be32 read.parent ++ text read.part
unfolding label_bytes
label_spelled labels all others p path q read list are =
    let there : slice_get all read.parent ≡ Some (above path) = ap (λ l. slice_get l read.parent) are ∙ get_longer labels others read.parent (above path) read.below.under in
    let at : place all (above path) ≡ Some read.parent = place_at all list read.parent (above path) there in
    rw (at, read.below.last) refl

-- the labels that were read, behind those before, and their bytes
pub record AreLabelsTaken (n : ℕ) (labels all : List (List (List ℕ))) (p q : Place) : Type 0 where
  pub others : List (List (List ℕ))
  pub are : all ≡ labels ++ others
  pub count : length others ≡ n
  pub taken : Takes p (flat_map (label_bytes all) others) q

pub labels_taken : (n : ℕ) (labels all : List (List (List ℕ))) (p q : Place) → IsLabelList all → IsBytes p.rest → labels_at n labels p ≡ Ok (all, q) → AreLabelsTaken n labels all p q
unfolding labels_at
labels_taken zero labels all p q list fits e =
    let same : (labels, p) ≡ (all, q) = done_is ℕ (labels, p) (all, q) e in
    record {
      others = [];
      are = ap (λ (x : List (List (List ℕ)) × Place). x.0) (sym same) ∙ sym (append-nil labels);
      count = refl;
      taken = subst (λ (x : List (List (List ℕ)) × Place). Takes p [] x.1) same (Takes-none p fits);
    }
labels_taken (suc n) labels all p q list fits e =
    let a = bind_ok (label_at labels p) (λ first. labels_at n (labels ++ first.0 ∷ []) first.1) (all, q) e in
    let read = label_read labels p a.0.0 a.0.1 a.1 in
    let first = label_taken labels p a.0.0 a.0.1 read fits in
    let rest = labels_taken n (labels ++ a.0.0 ∷ []) all a.0.1 q list first.bytes a.2 in
    let are : all ≡ labels ++ a.0.0 ∷ rest.others = rest.are ∙ append_assoc labels (a.0.0 ∷ []) rest.others in
    let spelled : label_bytes all a.0.0 ≡ be32 read.parent ++ text read.part = label_spelled labels all (a.0.0 ∷ rest.others) p a.0.0 a.0.1 read list are in
    record {
      others = a.0.0 ∷ rest.others;
      are = are;
      count = ap suc rest.count;
      taken = Takes-then p (label_bytes all a.0.0) a.0.1 (flat_map (label_bytes all) rest.others) q (subst (λ b. Takes p b a.0.1) (sym spelled) first) rest.taken;
    }
