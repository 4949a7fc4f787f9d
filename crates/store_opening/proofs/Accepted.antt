-- What is true of the segments that an accepted commit of the taxonomy names.
use Rattle.std.proofs.Common.{◌≡◌, ℕ, zero, suc, ◌+◌, ◌≤◌, Bool, true, false, List, [], ◌∷◌, Ok, refl, sym, ap, subst, ◌∙◌, arith, nat_lt, not}
use Rattle.std.specs.Prelude.{◌==◌, ◌&&◌}
use Rattle.std.proofs.lemmas.Bool.{ltb-false, eqb-true}
use Rattle.facet_codec.specs.Places.{Place}
use Rattle.facet_codec.specs.Reading.{◌>>=◌, u32_at, u64_at}
use Rattle.facet_codec.proofs.Taking.{done, done_is, bind_ok, guard_ok, guard_yes}
use Rattle.commit_file.specs.declared.fault.FileFault.{FileFault}
use Rattle.commit_file.specs.declared.taxonomy.LabelPart.{LabelPart}
use Rattle.commit_file.specs.Commits.{TaxonomyListing, AreInOrder, end_of}
use Rattle.commit_file.specs.Reading.{told, unsealed, head_at, some_at, digest_at, each_at, ended, labels_at, first_at, count_at, label_part_at, label_parts_at, taxonomy_at, taxonomy_commit}

labels_few : (p : Place) (n : ℕ × Place) → labels_at p ≡ Ok n → n.0 ≤ 1000000
unfolding labels_at
labels_few p n e =
    let a = bind_ok (told (u32_at p)) _ n e in
    let b = guard_ok (nat_lt 1000000 a.0.0) _ _ n a.2 in
    let same : a.0 ≡ n = done_is FileFault a.0 n b.1 in
    let low = ltb-false 1000000 a.0.0 b.0 in
    omega (arith, low, ap (λ (x : ℕ × Place). x.0) same)

some_one : (p : Place) (n : ℕ × Place) → some_at p ≡ Ok n → n.0 ≡ 0 → ⊥
unfolding some_at
some_one p n e none =
    let a = bind_ok (told (u32_at p)) _ n e in
    let b = guard_ok (a.0.0 == 0) _ _ n a.2 in
    let same : a.0 ≡ n = done_is FileFault a.0 n b.1 in
    let zero_too : a.0.0 ≡ 0 = ap (λ (x : ℕ × Place). x.0) same ∙ none in
    cc (sym b.0 ∙ ap (λ (m : ℕ). m == 0) zero_too)

first_is : (start : ℕ) (p : Place) (n : ℕ × Place) → first_at start p ≡ Ok n → n.0 ≡ start
unfolding first_at
first_is start p n e =
    let a = bind_ok (told (u32_at p)) _ n e in
    let b = guard_yes (a.0.0 == start) _ _ n a.2 in
    ap (λ (x : ℕ × Place). x.0) (sym b.1) ∙ eqb-true a.0.0 start b.0

last_is : (total behind start : ℕ) (p : Place) (n : ℕ × Place) → count_at total behind start p ≡ Ok n → behind ≡ 0 → start + n.0 ≡ total
unfolding count_at
last_is total behind start p n e last =
    let a = bind_ok (told (u32_at p)) _ n e in
    let b = guard_ok (behind == 0 && not (start + a.0.0 == total)) _ _ n a.2 in
    let same : a.0 ≡ n = done_is FileFault a.0 n b.1 in
    let ends : (start + a.0.0 == total) ≡ true = by (behind == 0) (start + a.0.0 == total) (ap (λ (m : ℕ). m == 0) last) b.0 in
    ap (λ (x : ℕ × Place). start + x.0) (sym same) ∙ eqb-true (start + a.0.0) total ends
  where
    by : (x y : Bool) → x ≡ true → (x && not y) ≡ false → y ≡ true
    by true true h k = refl
    by true false h k = absurd (cc k)
    by false y h k = absurd (cc h)

part_kept : (total behind start number : ℕ) (digest : List ℕ) (p q rest : Place) (first count : ℕ × Place) (x : LabelPart × Place)
    → (record { number = number; first = first.0; count = count.0; digest = digest }, rest) ≡ x → first_at start p ≡ Ok first → count_at total behind first.0 q ≡ Ok count
    → (x.0.first ≡ start) × (behind ≡ 0 → end_of x.0 ≡ total)
part_kept total behind start number digest p q rest first count x made begins ends = (
  ap (λ (y : LabelPart × Place). y.0.first) (sym made) ∙ first_is start p first begins,
  λ last. ap (λ (y : LabelPart × Place). end_of y.0) (sym made) ∙ last_is total behind first.0 q count ends last,
)

part_is : (total behind start : ℕ) (p : Place) (x : LabelPart × Place) → label_part_at total behind start p ≡ Ok x → (x.0.first ≡ start) × (behind ≡ 0 → end_of x.0 ≡ total)
unfolding label_part_at
part_is total behind start p x e =
    let a = bind_ok (told (u64_at p)) _ x e in
    let b = bind_ok (first_at start a.0.1)
    (λ first. count_at total behind first.0 first.1 >>= λ count. digest_at count.1 >>= λ digest. done (record { number = a.0.0; first = first.0; count = count.0; digest = digest.0 }, digest.1)) x a.2 in
    let d = bind_ok (count_at total behind b.0.0 b.0.1) (λ count. digest_at count.1 >>= λ digest. done (record { number = a.0.0; first = b.0.0; count = count.0; digest = digest.0 }, digest.1)) x b.2 in
    let f = bind_ok (digest_at d.0.1) (λ digest. done (record { number = a.0.0; first = b.0.0; count = d.0.0; digest = digest.0 }, digest.1)) x d.2 in
    part_kept total behind start a.0.0 f.0.0 a.0.1 b.0.1 f.0.1 b.0 d.0 x (done_is FileFault (record { number = a.0.0; first = b.0.0; count = d.0.0; digest = f.0.0 }, f.0.1) x f.2) b.1 d.1

in_order : (total m start : ℕ) (p : Place) (x : List LabelPart × Place) → each_at (label_part_at total) (λ _ part. end_of part) (suc m) start p ≡ Ok x → AreInOrder total start x.0
unfolding each_at
in_order total zero start p x e =
    let a = bind_ok (label_part_at total 0 start p) _ x e in
    let made = done_is FileFault (a.0.0 ∷ [], a.0.1) x a.2 in
    let is = part_is total 0 start p a.0 a.1 in
    subst (λ (y : List LabelPart × Place). AreInOrder total start y.0) {x = (a.0.0 ∷ [], a.0.1)} {y = x} made (is.0, is.1 refl)
in_order total (suc m) start p x e =
    let a = bind_ok (label_part_at total (suc m) start p) _ x e in
    let b = bind_ok (each_at (label_part_at total) (λ _ part. end_of part) (suc m) (end_of a.0.0) a.0.1) (λ others. done (a.0.0 ∷ others.0, others.1)) x a.2 in
    let made = done_is FileFault (a.0.0 ∷ b.0.0, b.0.1) x b.2 in
    let is = part_is total (suc m) start p a.0 a.1 in
    subst (λ (y : List LabelPart × Place). AreInOrder total start y.0) {x = (a.0.0 ∷ b.0.0, b.0.1)} {y = x} made (is.0, in_order total m (end_of a.0.0) a.0.1 b.0 b.1)

ended_is : {A : Type 0} (x y : A) (p : Place) → ended x p ≡ Ok y → x ≡ y
ended_is x y p e = (guard_yes _ _ x y e).1

pub taxonomy_accepted : (number : ℕ) (bytes : List ℕ) (c : TaxonomyListing) → taxonomy_commit number bytes ≡ Ok c → (c.labels ≤ 1000000) × AreInOrder c.labels 1 c.parts
unfolding taxonomy_commit taxonomy_at
taxonomy_accepted number bytes c e =
    let body = bind_ok (unsealed bytes) _ c e in
    let start = bind_ok (head_at 0x4654434d 1 number (record { at = 0; rest = body.0 })) _ c body.2 in
    let labels = bind_ok (labels_at start.0.1)
    (λ labels. some_at labels.1 >>= λ n. label_parts_at labels.0 n.0 n.1 >>= λ parts. ended (record { labels = labels.0; parts = parts.0 }) parts.1) c start.2 in
    let n = bind_ok (some_at labels.0.1) (λ n. label_parts_at labels.0.0 n.0 n.1 >>= λ parts. ended (record { labels = labels.0.0; parts = parts.0 }) parts.1) c labels.2 in
    let parts = bind_ok (label_parts_at labels.0.0 n.0.0 n.0.1) (λ parts. ended (record { labels = labels.0.0; parts = parts.0 }) parts.1) c n.2 in
    let made = ended_is (record { labels = labels.0.0; parts = parts.0.0 }) c parts.0.1 parts.2 in
    let ordered = by labels.0.0 n.0.0 (some_one labels.0.1 n.0 n.1) n.0.1 parts.0 parts.1 in
    subst (λ (x : TaxonomyListing). (x.labels ≤ 1000000) × AreInOrder x.labels 1 x.parts) {x = record { labels = labels.0.0; parts = parts.0.0 }} {y = c} made (labels_few start.0.1 labels.0 labels.1, ordered)
  where
    by : (total n : ℕ) → (n ≡ 0 → ⊥) → (p : Place) (x : List LabelPart × Place) → label_parts_at total n p ≡ Ok x → AreInOrder total 1 x.0
    by total zero some p x e = absurd (some refl)
    by total (suc m) some p x e = in_order total m 1 p x e
