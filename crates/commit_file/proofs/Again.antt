-- What is spelled so, and is within the limits, is read.
use Rattle.std.proofs.Common.{◌≡◌, ℕ, ◌+◌, ◌-◌, ◌^◌, ◌≤◌, ◌<◌, Bool, true, false, List, [], ◌∷◌, ◌++◌, length, Result, Ok, refl, sym, ap, subst, ◌∙◌, append_assoc, arith, length-append, inl, inr}
use Rattle.std.specs.Prelude.{◌==◌, ◌||◌, ◌&&◌, not}
use Rattle.std.specs.List.{flat_map, AllByRecursion, sum_by}
use Rattle.std.specs.List.Sorted.{IsStrictlySortedBy}
use Rattle.std.specs.Map.{keys_of}
use Rattle.std.specs.Ordering.{is_lt}
use Rattle.std.specs.declared.cmp.Ordering.TheVariants.{Less}
use Rattle.std.proofs.lemmas.List.{append-nil}
use Rattle.std.proofs.lemmas.List.Sums.{sum_by-cons}
use Rattle.std.proofs.lemmas.Bool.{lt-ltb, le-ltb, eq-eqb, ne_eqb, cases_eq}
use Rattle.facet_codec.specs.Places.{Place}
use Rattle.facet_codec.specs.Faults.{fault_at}
use Rattle.facet_codec.specs.Spelling.{one_byte, be32, be64, vint, text}
use Rattle.facet_codec.specs.Reading.{u32_at, u64_at, vint_at, bytes_at, text_at}
use Rattle.facet_codec.specs.Laws.{ReadsBack, IsBelow, HasLength, IsText}
use Rattle.facet_codec.proofs.Taking.{told_read_back, place_at}
use Rattle.facet_codec.proofs.EachKind.{u32_read_back, u64_read_back, vint_read_back, bytes_read_back, text_read_back}
use Rattle.facet_model.specs.declared.flags.DimFlags.{DimFlags}
use Rattle.facet_model.specs.Flags.{Config}
use Rattle.facet_model.specs.Words.{word_cmp}
use Rattle.commit_file.specs.declared.fault.FileFault.{FileFault}
use Rattle.commit_file.specs.declared.fault.FileFault.TheVariants.{Malformed}
use Rattle.commit_file.specs.declared.taxonomy.LabelPart.{LabelPart}
use Rattle.commit_file.specs.LiveParts.{LivePart, live_of, with_live}
use Rattle.commit_file.specs.Commits.{TaxonomyListing, IndexListing, documents_listed, end_of, AreInOrder, is_some_set, kept_of}
use Rattle.commit_file.specs.LiveBits.{bits_len, bits_of}
use Rattle.commit_file.specs.Spelling.{head_bytes, label_bytes, taxonomy_bytes, taxonomy_commit_bytes, flags_number, declaration_bytes, document_bytes, records_bytes, live_bytes, part_bytes, index_bytes, index_commit_bytes}
use Rattle.commit_file.specs.Limits.{IsLabelPart, IsDocumentPart, IsLivePart, IsDeclaration}
use Rattle.commit_file.specs.Reading.{told, word_at, version_at, number_at, head_at, some_at, digest_at, each_at, labels_at, first_at, count_at, label_part_at, taxonomy_at, taxonomy_commit, flags_at, dim_at, declaration_at, part_count_at, documents_at, bits_at, live_at, live_records_at, dead_at, part_at, index_at, index_commit}
use Rattle.commit_file.proofs.Ordering.{is_set, kept_sorted, kept_set}
use Rattle.commit_file.proofs.Digests.{unsealed_again}
use Rattle.commit_file.proofs.LiveBytes.{bits_long, dead_again, are_bits_again}
use Rattle.seg_postings.specs.Rising.{IsRising}

-- ---- numbers and texts

u32_again : ReadsBack (λ p. told (u32_at p)) be32 (IsBelow (2 ^ 32))
u32_again = told_read_back (λ e. Malformed (fault_at e)) u32_at be32 (IsBelow (2 ^ 32)) u32_read_back

u64_again : ReadsBack (λ p. told (u64_at p)) be64 (IsBelow (2 ^ 64))
u64_again = told_read_back (λ e. Malformed (fault_at e)) u64_at be64 (IsBelow (2 ^ 64)) u64_read_back

vint_again : ReadsBack (λ p. told (vint_at p)) vint (IsBelow (2 ^ 32))
vint_again = told_read_back (λ e. Malformed (fault_at e)) vint_at vint (IsBelow (2 ^ 32)) vint_read_back

text_again : ReadsBack (λ p. told (text_at 1024 p)) text (IsText 1024)
text_again = told_read_back (λ e. Malformed (fault_at e)) (text_at 1024) text (IsText 1024) (text_read_back 1024 (omega arith))

digest_again : ReadsBack digest_at (λ bytes. bytes) (HasLength 32)
digest_again = told_read_back (λ e. Malformed (fault_at e)) (bytes_at 32) (λ bytes. bytes) (HasLength 32) (bytes_read_back 32)

word_again : (n at : ℕ) (rest : List ℕ) → n < 2 ^ 32 → word_at n (place_at at (be32 n ++ rest)) ≡ Ok (place_at (at + length (be32 n)) rest)
unfolding word_at
word_again n at rest lt = rw (u32_again at n rest lt, eq-eqb n n refl) refl

number_again : (n at : ℕ) (rest : List ℕ) → 0 < n → n < 2 ^ 64 → number_at n (place_at at (be64 n ++ rest)) ≡ Ok (place_at (at + length (be64 n)) rest)
unfolding number_at
number_again n at rest some lt = rw (u64_again at n rest lt, ne_eqb n 0 (λ e. omega (arith, e, some)), eq-eqb n n refl) refl

version_again : (newest n at : ℕ) (rest : List ℕ) → 0 < n → n ≤ newest → newest < 2 ^ 32 → version_at newest (place_at at (be32 n ++ rest)) ≡ Ok (n, place_at (at + length (be32 n)) rest)
unfolding version_at
version_again newest n at rest some le fits = rw (u32_again at n rest (omega (arith, le, fits)), ne_eqb n 0 (λ e. omega (arith, e, some)), le-ltb newest n le) refl

-- a head of this version, read by who knows the versions up to the newest
head_again : (kind newest version number at : ℕ) (rest : List ℕ) → kind < 2 ^ 32 → newest < 2 ^ 32 → 0 < version → version ≤ newest → 0 < number → number < 2 ^ 64 → head_at kind newest number (place_at at (head_bytes kind version number ++ rest)) ≡ Ok (version, place_at (at + length (head_bytes kind version number)) rest)
unfolding head_at head_bytes
head_again kind newest version number at rest kind_fits newest_fits one known some fits =
    let t2 : List ℕ = be64 number ++ rest in
    let t1 : List ℕ = be32 version ++ t2 in
    let regrouped : head_bytes kind version number ++ rest ≡ be32 kind ++ t1 = simp append_assoc in
    let a1 = at + length (be32 kind) in
    let a2 = a1 + length (be32 version) in
    let e1 = word_again kind at t1 kind_fits in
    let e2 = version_again newest version a1 t2 one known newest_fits in
    let e3 = number_again number a2 rest some fits in
    let far : a2 + length (be64 number) ≡ at + length (head_bytes kind version number) = simp length-append (omega arith) in
    rw (regrouped, e1, e2, e3) (ap (λ (n : ℕ). Ok (version, place_at n rest)) far)

some_again : (n at : ℕ) (rest : List ℕ) → 0 < n → n < 2 ^ 32 → some_at (place_at at (be32 n ++ rest)) ≡ Ok (n, place_at (at + length (be32 n)) rest)
unfolding some_at
some_again n at rest some lt = rw (u32_again at n rest lt, ne_eqb n 0 (λ e. omega (arith, e, some))) refl

-- ---- so many values

module _ {A S : Type 0} (read : ℕ → S → Place → Result (A × Place) FileFault) (next : S → A → S) (spell : A → List ℕ) (Fits : ℕ → S → A → Type 0) where
  -- each value fits what the ones before it come to
  abbrev pub EachFits : S → List A → Type 0
  EachFits s [] = Unit {0}
  EachFits s (x ∷ xs) = Fits (length xs) s x × EachFits (next s x) xs

  abbrev ReadsEach : Type 0
  ReadsEach = (left : ℕ) (s : S) (at : ℕ) (x : A) (rest : List ℕ) → Fits left s x → read left s (place_at at (spell x ++ rest)) ≡ Ok (x, place_at (at + length (spell x)) rest)

  each_again : ReadsEach → (s : S) (at : ℕ) (xs : List A) (rest : List ℕ) → EachFits s xs → each_at read next (length xs) s (place_at at (flat_map spell xs ++ rest)) ≡ Ok (xs, place_at (at + length (flat_map spell xs)) rest)
  unfolding each_at
  each_again law s at [] rest fit = ap (λ (n : ℕ). Ok ([], place_at n rest)) (omega arith)
  each_again law s at (x ∷ xs) rest fit =
      let regrouped : flat_map spell (x ∷ xs) ++ rest ≡ spell x ++ (flat_map spell xs ++ rest) = append_assoc (spell x) (flat_map spell xs) rest in
      let first = law (length xs) s at x (flat_map spell xs ++ rest) fit.0 in
      let others = each_again law (next s x) (at + length (spell x)) xs rest fit.1 in
      let far : at + length (spell x) + length (flat_map spell xs) ≡ at + length (spell x ++ flat_map spell xs) = omega (arith, length-append (spell x) (flat_map spell xs)) in
      rw (regrouped, first, others) (ap (λ (n : ℕ). Ok (x ∷ xs, place_at n rest)) far)

-- ---- a commit of the taxonomy

-- a segment of labels that begins at `start`, with so many segments behind it
pub record FitsBehind (labels left start : ℕ) (part : LabelPart) : Type 0 where
  pub fits : IsLabelPart part
  pub begins : part.first ≡ start
  pub last : left ≡ 0 → end_of part ≡ labels

last_is_right : (labels left : ℕ) (part : LabelPart) → (left ≡ 0 → end_of part ≡ labels) → (left == 0 && not (end_of part == labels)) ≡ false
last_is_right labels left part last =
    elim (cases_eq left 0) [
      | inl e ↦ rw (eq-eqb (end_of part) labels (last e), eq-eqb left 0 e) refl
      | inr e ↦ rw (ne_eqb left 0 e) refl
    ]

label_again : (labels left start at : ℕ) (part : LabelPart) (rest : List ℕ) → FitsBehind labels left start part → label_part_at labels left start (place_at at (label_bytes part ++ rest)) ≡ Ok (part, place_at (at + length (label_bytes part)) rest)
unfolding label_part_at first_at count_at label_bytes
label_again labels left start at part rest fits =
    let t4 : List ℕ = part.digest ++ rest in
    let t3 : List ℕ = be32 part.count ++ t4 in
    let t2 : List ℕ = be32 part.first ++ t3 in
    let a1 = at + length (be64 part.number) in
    let a2 = a1 + length (be32 part.first) in
    let a3 = a2 + length (be32 part.count) in
    let e1 = u64_again at part.number t2 fits.fits.number in
    let e2 = u32_again a1 part.first t3 fits.fits.first in
    let e3 = u32_again a2 part.count t4 fits.fits.count in
    let e4 = digest_again a3 part.digest rest fits.fits.digest in
    let far : a3 + length part.digest ≡ at + length (label_bytes part) = simp length-append (omega arith) in
    rw (e1, e2, eq-eqb part.first start fits.begins, e3, last_is_right labels left part fits.last, e4) (ap (λ (n : ℕ). Ok (part, place_at n rest)) far)

labels_fit : (labels start : ℕ) (parts : List LabelPart) → AreInOrder labels start parts → AllByRecursion IsLabelPart parts → EachFits (label_part_at labels) (λ _ part. end_of part) label_bytes (FitsBehind labels) start parts
labels_fit labels start [] order all = tt
labels_fit labels start (part ∷ parts) order all = (record { fits = all.0; begins = order.0; last = last parts order.1 }, labels_fit labels (end_of part) parts order.1 all.1)
  where
    last : (parts : List LabelPart) → AreInOrder labels (end_of part) parts → length parts ≡ 0 → end_of part ≡ labels
    last [] order e = order
    last (next ∷ parts) order e = absurd (omega (arith, e))

pub taxonomy_again : (number : ℕ) (c : TaxonomyListing) → 0 < number → number < 2 ^ 64 → c.labels ≤ 1000000 → 0 < length c.parts → length c.parts < 2 ^ 32 → AreInOrder c.labels 1 c.parts → AllByRecursion IsLabelPart c.parts → taxonomy_commit number (taxonomy_commit_bytes number c) ≡ Ok c
unfolding taxonomy_commit taxonomy_at taxonomy_bytes labels_at
taxonomy_again number c some fits few parts parts_fit order all =
    let t4 : List ℕ = flat_map label_bytes c.parts ++ [] in
    let t3 : List ℕ = be32 (length c.parts) ++ t4 in
    let t2 : List ℕ = be32 c.labels ++ t3 in
    let whole : taxonomy_bytes number c ≡ head_bytes 0x4654434d 1 number ++ t2 = ap (λ (w : List ℕ). head_bytes 0x4654434d 1 number ++ (be32 c.labels ++ (be32 (length c.parts) ++ w))) (sym (append-nil (flat_map label_bytes c.parts))) in
    let a1 = 0 + length (head_bytes 0x4654434d 1 number) in
    let a2 = a1 + length (be32 c.labels) in
    let a3 = a2 + length (be32 (length c.parts)) in
    let e1 = head_again 0x4654434d 1 1 number 0 t2 (omega arith) (omega arith) (omega arith) (omega arith) some fits in
    let e2 = u32_again a1 c.labels t3 (omega (arith, few)) in
    let e3 = some_again (length c.parts) a2 t4 parts parts_fit in
    let e4 = each_again (label_part_at c.labels) (λ _ part. end_of part) label_bytes (FitsBehind c.labels) (label_again c.labels) 1 a3 c.parts [] (labels_fit c.labels 1 c.parts order all) in
    rw (unsealed_again (taxonomy_bytes number c), whole, e1, e2, le-ltb 1000000 c.labels few, e3, e4) refl

-- ---- a commit of the index

flags_again : (at : ℕ) (f : DimFlags) (rest : List ℕ) → is_some_set f ≡ true → flags_at (place_at at (one_byte (flags_number f) ++ rest)) ≡ Ok (f, place_at (at + 1) rest)
unfolding flags_at
flags_again at f rest some = by f.hierarchical f.multi_valued f.require_dim_count some
  where
    by : (a b c : Bool) → (a || b || c) ≡ true → flags_at (place_at at (one_byte (flags_number (record { hierarchical = a; multi_valued = b; require_dim_count = c })) ++ rest)) ≡ Ok (record { hierarchical = a; multi_valued = b; require_dim_count = c }, place_at (at + 1) rest)
    by false false false h = absurd cc
    by true false false h = refl
    by false true false h = refl
    by true true false h = refl
    by false false true h = refl
    by true false true h = refl
    by false true true h = refl
    by true true true h = refl

-- a declaration that comes after a dimension
pub record FitsAfter (left : ℕ) (before : List ℕ) (d : List ℕ × DimFlags) : Type 0 where
  pub fits : IsDeclaration d
  pub after : is_lt (word_cmp before d.0) ≡ true
  pub set : is_some_set d.1 ≡ true

declaration_again : (left : ℕ) (before : List ℕ) (at : ℕ) (d : List ℕ × DimFlags) (rest : List ℕ) → FitsAfter left before d → declaration_at before (place_at at (declaration_bytes d ++ rest)) ≡ Ok (d, place_at (at + length (declaration_bytes d)) rest)
unfolding declaration_at dim_at declaration_bytes
declaration_again left before at d rest fits =
    let t2 : List ℕ = one_byte (flags_number d.1) ++ rest in
    let regrouped : declaration_bytes d ++ rest ≡ text d.0 ++ t2 = append_assoc (text d.0) (one_byte (flags_number d.1)) rest in
    let a1 = at + length (text d.0) in
    let e1 = text_again at d.0 t2 fits.fits.text in
    let e2 = flags_again a1 d.1 rest fits.set in
    let far : a1 + 1 ≡ at + length (declaration_bytes d) = omega (arith, length-append (text d.0) (one_byte (flags_number d.1))) in
    rw (regrouped, e1, fits.after, e2) (ap (λ (n : ℕ). Ok (d, place_at n rest)) far)

declarations_fit : (before : List ℕ) (ds : Config) → AllByRecursion (λ y. word_cmp before y ≡ Less) (keys_of ds) → IsStrictlySortedBy word_cmp (keys_of ds) → AllByRecursion (λ d. is_set d ≡ true) ds → AllByRecursion IsDeclaration ds → EachFits (λ _. declaration_at) (λ _ d. d.0) declaration_bytes FitsAfter before ds
unfolding IsStrictlySortedBy
declarations_fit before [] below up set all = tt
declarations_fit before (d ∷ ds) below up set all = (record { fits = all.0; after = ap is_lt below.0; set = set.0 }, declarations_fit d.0 ds up.0 up.1 set.1 all.1)

above_empty : (ds : Config) → AllByRecursion IsDeclaration ds → AllByRecursion (λ y. word_cmp [] y ≡ Less) (keys_of ds)
above_empty [] all = tt
above_empty (d ∷ ds) all = (by d.0 all.0.some, above_empty ds all.1)
  where
    by : (name : List ℕ) → 1 ≤ length name → word_cmp [] name ≡ Less
    by [] some = absurd (omega (arith, some))
    by (x ∷ xs) some = refl

-- a segment that has live records, behind so many live ones of other segments
pub record FitsBeside (left before : ℕ) (p : LivePart) : Type 0 where
  pub fits : IsDocumentPart p.part
  pub are : IsLivePart p
  pub some : 0 < live_of p
  pub few : before + live_of p ≤ 1000000

bits_again : (documents : ℕ) (dead : List ℕ) (at : ℕ) (rest : List ℕ) → IsRising dead → AllByRecursion (IsBelow documents) dead → length dead ≤ documents → bits_at documents (documents - length dead) (place_at at (bits_of documents dead ++ rest)) ≡ Ok (dead, place_at (at + length (bits_of documents dead)) rest)
unfolding bits_at
bits_again documents dead at rest rise below few =
    let read = told_read_back (λ e. Malformed (fault_at e)) (bytes_at (bits_len documents)) (λ bytes. bytes) (HasLength (bits_len documents)) (bytes_read_back (bits_len documents)) at (bits_of documents dead) rest (bits_long documents dead) in
    rw (read, are_bits_again documents dead rise below few, dead_again documents dead rise below) refl

live_again : (documents before live at : ℕ) (rest : List ℕ) → documents < 2 ^ 32 → 0 < live → live ≤ documents → before + live ≤ 1000000 → live_at documents before (place_at at (be32 live ++ rest)) ≡ Ok (live, place_at (at + length (be32 live)) rest)
unfolding live_at
live_again documents before live at rest fits some le few = rw (u32_again at live rest (omega (arith, le, fits)), ne_eqb live 0 (λ e. omega (arith, e, some)), le-ltb documents live le, le-ltb 1000000 (before + live) few) refl

live_records_again : (documents before : ℕ) (dead : List ℕ) (at : ℕ) (rest : List ℕ) → documents < 2 ^ 32 → IsRising dead → AllByRecursion (IsBelow documents) dead → 0 < documents - length dead → before + (documents - length dead) ≤ 1000000
    → live_records_at documents before (place_at at (records_bytes documents dead ++ rest)) ≡ Ok (dead, place_at (at + length (records_bytes documents dead)) rest)
unfolding live_records_at
live_records_again documents before [] at rest fits rise below some few =
    let all : documents - 0 ≡ documents = omega arith in
    let spelled : records_bytes documents [] ≡ be32 (documents - 0) ++ [] = rw (le-ltb (documents - 0) documents (omega arith)) refl in
    let regrouped : records_bytes documents [] ++ rest ≡ be32 (documents - 0) ++ rest = ap (λ bytes. bytes ++ rest) (spelled ∙ append-nil (be32 (documents - 0))) in
    let e1 = live_again documents before (documents - 0) at rest fits some (omega arith) few in
    let far : at + length (be32 (documents - 0)) ≡ at + length (records_bytes documents []) = ap (λ (bytes : List ℕ). at + length bytes) (sym (spelled ∙ append-nil (be32 (documents - 0)))) in
    rw (regrouped, e1, eq-eqb (documents - 0) documents all) (ap (λ (n : ℕ). Ok ([], place_at n rest)) far)
live_records_again documents before (d ∷ ds) at rest fits rise below some few =
    let dead : List ℕ = d ∷ ds in
    let live : ℕ = documents - length dead in
    let less : live < documents = omega (arith, some) in
    let bits : List ℕ = bits_of documents dead in
    let spelled : records_bytes documents dead ≡ be32 live ++ bits = rw (lt-ltb live documents less) refl in
    let regrouped : records_bytes documents dead ++ rest ≡ be32 live ++ (bits ++ rest) = ap (λ (bytes : List ℕ). bytes ++ rest) spelled ∙ append_assoc (be32 live) bits rest in
    let a1 = at + length (be32 live) in
    let e1 = live_again documents before live at (bits ++ rest) fits some (omega (arith, less)) few in
    let e2 = bits_again documents dead a1 rest rise below (omega (arith, some)) in
    let far : a1 + length bits ≡ at + length (records_bytes documents dead) = omega (arith, ap length spelled, length-append (be32 live) bits) in
    rw (regrouped, e1, ne_eqb live documents (λ e. omega (arith, e, less)), e2) (ap (λ (n : ℕ). Ok (dead, place_at n rest)) far)

part_again : (left before at : ℕ) (p : LivePart) (rest : List ℕ) → FitsBeside left before p → part_at 2 before (place_at at (part_bytes 2 p ++ rest)) ≡ Ok (p, place_at (at + length (part_bytes 2 p)) rest)
unfolding part_at documents_at dead_at document_bytes part_bytes
part_again left before at p rest fits =
    let part = p.part in
    let live : List ℕ = live_bytes p in
    let t4 : List ℕ = live ++ rest in
    let t3 : List ℕ = part.digest ++ t4 in
    let t2 : List ℕ = be32 part.documents ++ t3 in
    let regrouped : part_bytes 2 p ++ rest ≡ be64 part.number ++ t2 = simp append_assoc in
    let a1 = at + length (be64 part.number) in
    let a2 = a1 + length (be32 part.documents) in
    let a3 = a2 + length part.digest in
    let e1 = u64_again at part.number t2 fits.fits.number in
    let e2 = u32_again a1 part.documents t3 fits.fits.documents in
    let e3 = digest_again a2 part.digest t4 fits.fits.digest in
    let e4 = live_records_again part.documents before p.dead a3 rest fits.fits.documents fits.are.rise fits.are.below fits.some fits.few in
    let far : a3 + length live ≡ at + length (part_bytes 2 p) = simp length-append (omega arith) in
    subst (λ (bytes : List ℕ). part_at 2 before (place_at at bytes) ≡ Ok (p, place_at (at + length (part_bytes 2 p)) rest)) (sym regrouped)
    (rw (e1, e2, e3, e4) (ap (λ (n : ℕ). Ok (p, place_at n rest)) far))

parts_fit : (before : ℕ) (parts : List LivePart) → before + sum_by live_of parts ≤ 1000000 → AllByRecursion IsLivePart parts → AllByRecursion (λ p. 0 < live_of p) parts → AllByRecursion (λ p. IsDocumentPart p.part) parts → EachFits (λ _. part_at 2) with_live (part_bytes 2) FitsBeside before parts
parts_fit before [] few are some fit = tt
parts_fit before (p ∷ parts) few are some fit =
    let sum : sum_by live_of (p ∷ parts) ≡ live_of p + sum_by live_of parts = sum_by-cons live_of p parts in
    (record { fits = fit.0; are = are.0; some = some.0; few = omega (arith, few, sum) }, parts_fit (before + live_of p) parts (omega (arith, few, sum)) are.1 some.1 fit.1)

pub index_again : (number needs : ℕ) (config : Config) (parts : List LivePart) → 0 < number → number < 2 ^ 64 → needs < 2 ^ 32 → length (kept_of config) < 2 ^ 32 → AllByRecursion IsDeclaration (kept_of config) → length parts < 2 ^ 32 → AllByRecursion IsLivePart parts → AllByRecursion (λ p. 0 < live_of p) parts → sum_by live_of parts ≤ 1000000 → AllByRecursion (λ p. IsDocumentPart p.part) parts
    → index_commit number (index_commit_bytes number (documents_listed needs (kept_of config) parts)) ≡ Ok (documents_listed needs (kept_of config) parts)
unfolding index_commit index_at index_bytes part_count_at
index_again number needs config parts some fits needs_fit kept_fit all parts_count are live few parts_all =
    let ds : Config = kept_of config in
    let c : IndexListing = documents_listed needs ds parts in
    let t5 : List ℕ = flat_map (part_bytes 2) parts ++ [] in
    let t4 : List ℕ = be32 (length parts) ++ t5 in
    let t3 : List ℕ = flat_map declaration_bytes ds ++ t4 in
    let t2 : List ℕ = vint (length ds) ++ t3 in
    let t1 : List ℕ = be32 needs ++ t2 in
    let whole : index_bytes 2 number c ≡ head_bytes 0x4649434d 2 number ++ t1 = ap (λ (w : List ℕ). head_bytes 0x4649434d 2 number ++ (be32 needs ++ (vint (length ds) ++ (flat_map declaration_bytes ds ++ (be32 (length parts) ++ w))))) (sym (append-nil (flat_map (part_bytes 2) parts))) in
    let a1 = 0 + length (head_bytes 0x4649434d 2 number) in
    let a2 = a1 + length (be32 needs) in
    let a3 = a2 + length (vint (length ds)) in
    let a4 = a3 + length (flat_map declaration_bytes ds) in
    let a5 = a4 + length (be32 (length parts)) in
    let e1 = head_again 0x4649434d 2 2 number 0 t1 (omega arith) (omega arith) (omega arith) (omega arith) some fits in
    let e2 = u32_again a1 needs t2 needs_fit in
    let e3 = vint_again a2 (length ds) t3 kept_fit in
    let e4 = each_again (λ _. declaration_at) (λ _ d. d.0) declaration_bytes FitsAfter declaration_again [] a3 ds t4 (declarations_fit [] ds (above_empty ds all) (kept_sorted config) (kept_set config) all) in
    let e5 = u32_again a4 (length parts) t5 parts_count in
    let e6 = each_again (λ _. part_at 2) with_live (part_bytes 2) FitsBeside part_again 0 a5 parts [] (parts_fit 0 parts (omega (arith, few)) are live parts_all) in
    rw (unsealed_again (index_bytes 2 number c), whole, e1, e2, e3, e4, e5, e6) refl
