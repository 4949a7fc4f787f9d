-- Segments that were placed: each keeps its file or has a new one.
use Rattle.std.proofs.Common.{◌≡◌, ◌⊎◌, ◌≤◌, ◌<◌, ◌+◌, inl, inr, ⊎_elim, ℕ, Bool, true, false, if◌then◌else◌, List, [], ◌∷◌, ◌++◌, length, map, fold, Option, Some, None, Ok, Contains, refl, sym, ap, ◌∙◌, subst, arith, append_assoc}
use Rattle.std.specs.List.{AllByRecursion, AllZip}
use Rattle.std.specs.Str.{bytes_eq}
use Rattle.std.specs.Cmp.Lexicographic.{bytes_decides}
use Rattle.std.proofs.lemmas.List.{map-append, append-nil}
use Rattle.std.proofs.lemmas.List.Elements.{Contains-append_left, Contains-push}
use Rattle.sha2.specs.Sha256.{sha256}
use Rattle.facet_disk.specs.declared.name.Dir.TheVariants.{Index}
use Rattle.facet_disk.specs.declared.name.Kind.TheVariants.{Segment}
use Rattle.facet_model.specs.Documents.{Doc}
use Rattle.facet_model.specs.Flags.{Config}
use Rattle.facet_model.specs.Stored.{Records, IsSegmentOf}
use Rattle.facet_names.specs.Labels.{IsLabelList, GoesOn}
use Rattle.commit_calls.specs.Held.{file}
use Rattle.commit_file.specs.declared.index.DocumentPart.{DocumentPart}
use Rattle.seg_decoding.specs.Laws.{OpensLater}
use Rattle.seg_grammar.specs.Reading.{segment_at}
use Rattle.seg_documents.specs.Storing.{IsStored, AreStored}
use Rattle.seg_grammar.specs.Spelling.{IsSegment, all_live, seg_bytes}
use Rattle.store_opening.specs.Files.{Segments, segment_bytes, segment_of, segments_of}
use Rattle.commit_plan.specs.Committed.{Kept, IsKept, segments_in, parts_in}
use Rattle.commit_plan.specs.Drafts.{Drafted, Placed, taken, placed_by, place, new_part}
use Rattle.commit_plan.proofs.Held.{held, held_front, held_new, held_one, held_has}
use Rattle.std.proofs.lemmas.Option.{same_Some}
use Rattle.facet_codec.proofs.Lists.{each_push}

-- bytes are a segment's of one list of records and terms
abbrev pub AreReadOnce : Type 0
AreReadOnce = (bytes : List ℕ) (r : Records) → IsSegment bytes r → segment_at bytes ≡ Ok r

-- segments with the same bytes have the same records and terms
pub one_segment : AreReadOnce → (a b : Records) → IsSegment (seg_bytes a) (all_live a) → IsSegment (seg_bytes b) (all_live b) → seg_bytes a ≡ seg_bytes b → all_live a ≡ all_live b
one_segment again a b own_a own_b same =
    let first = again (seg_bytes a) (all_live a) own_a in
    let second = again (seg_bytes b) (all_live b) own_b in
    cc (sym first ∙ ap segment_at same ∙ second)

-- the name of a segment is one of each segment with its bytes
pub under_name : AreReadOnce → (k : Kept) (s : Records) (part : DocumentPart) → IsKept k → IsStored s → seg_bytes k.segment ≡ seg_bytes s → k.part ≡ part → IsKept (record { part = part; segment = s })
under_name again k s part is stored same name =
    let alike = one_segment again k.segment s is.segment stored.own same in
    record {
      segment = stored.own;
      documents = ap (λ (p : DocumentPart). p.documents) (sym name) ∙ is.documents ∙ ap (λ (r : Records). length r.records) alike;
      digest = ap (λ (p : DocumentPart). p.digest) (sym name) ∙ is.digest ∙ ap sha256 same;
    }

-- the number of a segment with its bytes
abbrev pub pair : Kept → ℕ × List ℕ
pair k = (k.part.number, seg_bytes k.segment)

abbrev pub pairs : List Kept → List (ℕ × List ℕ)
pairs kept = map pair kept

pub all_weaker : {X : Type 0} (P Q : X → Type 0) → ((x : X) → P x → Q x) → (xs : List X) → AllByRecursion P xs → AllByRecursion Q xs
all_weaker P Q weaker [] all = tt
all_weaker P Q weaker (x ∷ xs) all = (weaker x all.0, all_weaker P Q weaker xs all.1)

pub all_mapped : {X Y : Type 0} (f : X → Y) (P : Y → Type 0) (xs : List X) → AllByRecursion (λ x. P (f x)) xs → AllByRecursion P (map f xs)
all_mapped f P [] all = tt
all_mapped f P (x ∷ xs) all = (all.0, all_mapped f P xs all.1)

pub all_under : {X Y : Type 0} (f : X → Y) (P : Y → Type 0) (xs : List X) → AllByRecursion P (map f xs) → AllByRecursion (λ x. P (f x)) xs
all_under f P [] all = tt
all_under f P (x ∷ xs) all = (all.0, all_under f P xs all.1)

-- a segment that was taken, with those behind it
pub record IsTaken (P : Kept → Type 0) (bytes : List ℕ) (found : DocumentPart × List Kept) : Type 0 where
  pub kept : Kept
  pub is : P kept
  pub same : seg_bytes kept.segment ≡ bytes
  pub part : kept.part ≡ found.0
  pub behind : AllByRecursion P found.1

pub taken_is : (P : Kept → Type 0) (ks : List Kept) (bytes : List ℕ) → AllByRecursion P ks → (found : DocumentPart × List Kept) → taken ks bytes ≡ Some found → IsTaken P bytes found
unfolding taken
taken_is P [] bytes all found e = absurd (cc e)
taken_is P (k ∷ ks) bytes all found e = go (bytes_eq (seg_bytes k.segment) bytes) refl (taken_is P ks bytes all.1 found) e
  where
    go : (t : Bool) → bytes_eq (seg_bytes k.segment) bytes ≡ t → (taken ks bytes ≡ Some found → IsTaken P bytes found) → (if t then Some (k.part, ks) else taken ks bytes) ≡ Some found → IsTaken P bytes found
    go true same others is = subst (IsTaken P bytes) (same_Some _ _ is) (record { kept = k; is = all.0; same = (bytes_decides (seg_bytes k.segment) bytes).0 same; part = refl; behind = all.1 })
    go false same others is = others is

module _ (again : AreReadOnce) (n : ℕ) (Old : ℕ × List ℕ → Type 0) (low : (s : ℕ × List ℕ) → Old s → s.0 < n) (once : (m : ℕ) (a b : List ℕ) → Old (m, a) → Old (m, b) → a ≡ b) where
  -- a committed segment
  abbrev pub IsOld : Kept → Type 0
  IsOld k = IsKept k × Old (pair k)

  -- a segment keeps its file, or has one of these
  abbrev pub HasFile : Drafted → ℕ × List ℕ → Type 0
  HasFile d s = Old s ⊎ ((n ≤ s.0) × (s.0 < d.next) × Contains d.files (file Index Segment s.0, s.1))

  -- these segments were placed
  pub record ArePlaced (ss : List Records) (p : Placed) : Type 0 where
    pub segments : segments_in p.kept ≡ ss
    pub kept : AllByRecursion IsKept p.kept
    pub behind : AllByRecursion IsOld p.behind
    pub from : n ≤ p.draft.next
    pub files : AllByRecursion (HasFile p.draft) (pairs p.kept)
    pub one : AllByRecursion (λ s. held (pairs p.kept) s.0 ≡ Some s.1) (pairs p.kept)

  -- where all numbers are known, the last one is found
  last_found : (xs : List (ℕ × List ℕ)) (m : ℕ) (b : List ℕ) → ((a : List ℕ) → held xs m ≡ Some a → a ≡ b) → held (xs ++ (m, b) ∷ []) m ≡ Some b
  last_found xs m b same = go (held xs m) refl
    where
      go : (o : Option (List ℕ)) → held xs m ≡ o → held (xs ++ (m, b) ∷ []) m ≡ Some b
      go None is = held_new xs ((m, b) ∷ []) m is ∙ held_one m b
      go (Some a) is = held_front xs ((m, b) ∷ []) m a is ∙ ap Some (same a is)

  -- one more
  pushed : (d e : Drafted) (ks : List Kept) (k : Kept) → AllByRecursion (HasFile d) (pairs ks) → ((s : ℕ × List ℕ) → HasFile d s → HasFile e s) → HasFile e (pair k)
      → AllByRecursion (λ s. held (pairs ks) s.0 ≡ Some s.1) (pairs ks) → ((a : List ℕ) → held (pairs ks) k.part.number ≡ Some a → a ≡ seg_bytes k.segment)
      → AllByRecursion (HasFile e) (pairs (ks ++ k ∷ [])) × AllByRecursion (λ s. held (pairs (ks ++ k ∷ [])) s.0 ≡ Some s.1) (pairs (ks ++ k ∷ []))
  pushed d e ks k files more here one same =
      let all = map-append pair ks (k ∷ []) in
      let front = all_weaker (λ s. held (pairs ks) s.0 ≡ Some s.1) (λ s. held (pairs ks ++ pair k ∷ []) s.0 ≡ Some s.1) (λ s. held_front (pairs ks) (pair k ∷ []) s.0 s.1) (pairs ks) one in
      let last = last_found (pairs ks) k.part.number (seg_bytes k.segment) same in (
        subst (AllByRecursion (HasFile e)) (sym all) (each_push (HasFile e) (pairs ks) (pair k) (all_weaker (HasFile d) (HasFile e) more (pairs ks) files) here),
        subst (λ (xs : List (ℕ × List ℕ)). AllByRecursion (λ s. held xs s.0 ≡ Some s.1) xs) (sym all) (each_push (λ s. held (pairs ks ++ pair k ∷ []) s.0 ≡ Some s.1) (pairs ks) (pair k) front last),
      )

  place_new : (ss : List Records) (p : Placed) (s : Records) → ArePlaced ss p → IsStored s → ArePlaced (ss ++ s ∷ []) (placed_by p s None)
  place_new ss p s is own =
      let k : Kept = record { part = new_part p.draft.next s; segment = s } in
      let e : Drafted = (placed_by p s None).draft in
      let more : (x : ℕ × List ℕ) → HasFile p.draft x → HasFile e x = λ x. ⊎_elim (λ old. inl old) (λ new. inr (new.0, omega (arith, new.1), Contains-append_left p.draft.files ((file Index Segment p.draft.next, seg_bytes s) ∷ []) (file Index Segment x.0, x.1) new.2)) in
      let here : HasFile e (pair k) = inr (is.from, omega arith, Contains-push p.draft.files (file Index Segment p.draft.next, seg_bytes s)) in
      let both = pushed p.draft e p.kept k is.files more here is.one (λ a there. absurd (fresh (held_has (HasFile p.draft) (pairs p.kept) is.files p.draft.next a there))) in
      record {
        segments = map-append (λ (k : Kept). k.segment) p.kept (k ∷ []) ∙ ap (λ xs. xs ++ s ∷ []) is.segments;
        kept = each_push IsKept p.kept k is.kept (record { segment = own.own; documents = refl; digest = refl });
        behind = is.behind;
        from = omega (arith, is.from);
        files = both.0;
        one = both.1;
      }
    where
      fresh : {a : List ℕ} → HasFile p.draft (p.draft.next, a) → ⊥
      fresh {a} (inl old) = let under = low (p.draft.next, a) old in omega (arith, under, is.from)
      fresh (inr new) = omega (arith, new.1)

  place_old : (ss : List Records) (p : Placed) (s : Records) → ArePlaced ss p → IsStored s → (found : DocumentPart × List Kept) → IsTaken IsOld (seg_bytes s) found → ArePlaced (ss ++ s ∷ []) (placed_by p s (Some found))
  place_old ss p s is own found at =
      let k : Kept = record { part = found.0; segment = s } in
      let kept : IsOld k = (under_name again at.kept s found.0 at.is.0 own at.same at.part, subst Old (λ i. ((at.part i).number, at.same i)) at.is.1) in
      let both = pushed p.draft p.draft p.kept k is.files (λ x has. has) (inl kept.1) is.one (λ a there. known a kept.1 (held_has (HasFile p.draft) (pairs p.kept) is.files k.part.number a there)) in
      record {
        segments = map-append (λ (k : Kept). k.segment) p.kept (k ∷ []) ∙ ap (λ xs. xs ++ s ∷ []) is.segments;
        kept = each_push IsKept p.kept k is.kept kept.0;
        behind = at.behind;
        from = is.from;
        files = both.0;
        one = both.1;
      }
    where
      known : (a : List ℕ) → Old (found.0.number, seg_bytes s) → HasFile p.draft (found.0.number, a) → a ≡ seg_bytes s
      known a old (inl other) = once found.0.number a (seg_bytes s) other old
      known a old (inr new) = absurd (omega (arith, low (found.0.number, seg_bytes s) old, new.0))

  place_one : (ss : List Records) (p : Placed) (s : Records) → ArePlaced ss p → IsStored s → ArePlaced (ss ++ s ∷ []) (place p s)
  place_one ss p s is own = go (taken p.behind (seg_bytes s)) refl
    where
      go : (o : Option (DocumentPart × List Kept)) → taken p.behind (seg_bytes s) ≡ o → ArePlaced (ss ++ s ∷ []) (placed_by p s o)
      go None at = place_new ss p s is own
      go (Some found) at = place_old ss p s is own found (taken_is IsOld p.behind (seg_bytes s) is.behind found at)

  pub place_more : (ss : List Records) (p : Placed) (more : List Records) → ArePlaced ss p → AreStored more → ArePlaced (ss ++ more) (fold place p more)
  place_more ss p [] is own = subst (λ (xs : List Records). ArePlaced xs p) (sym (append-nil ss)) is
  place_more ss p (s ∷ more) is own = subst (λ (xs : List Records). ArePlaced xs (fold place (place p s) more)) (append_assoc ss (s ∷ []) more)
      (place_more (ss ++ s ∷ []) (place p s) more (place_one ss p s is own.0) own.1)

-- ---- whatever the committed segments are called

-- these segments were placed
pub record AreNamed (ss : List Records) (p : Placed) : Type 0 where
  pub segments : segments_in p.kept ≡ ss
  pub kept : AllByRecursion IsKept p.kept
  pub behind : AllByRecursion IsKept p.behind

name_one : AreReadOnce → (ss : List Records) (p : Placed) (s : Records) → AreNamed ss p → IsStored s → AreNamed (ss ++ s ∷ []) (place p s)
name_one again ss p s is own = go (taken p.behind (seg_bytes s)) refl
  where
    kept_with : (k : Kept) (behind : List Kept) (d : Drafted) → k.segment ≡ s → IsKept k → AllByRecursion IsKept behind → AreNamed (ss ++ s ∷ []) (record { draft = d; behind = behind; kept = p.kept ++ k ∷ [] })
    kept_with k behind d same kept others = record {
      segments = map-append (λ (k : Kept). k.segment) p.kept (k ∷ []) ∙ (λ i. is.segments i ++ same i ∷ []);
      kept = each_push IsKept p.kept k is.kept kept;
      behind = others;
    }

    go : (o : Option (DocumentPart × List Kept)) → taken p.behind (seg_bytes s) ≡ o → AreNamed (ss ++ s ∷ []) (placed_by p s o)
    go None at = kept_with (record { part = new_part p.draft.next s; segment = s }) p.behind (placed_by p s None).draft refl (record { segment = own.own; documents = refl; digest = refl }) is.behind
    go (Some found) at =
        let t = taken_is IsKept p.behind (seg_bytes s) is.behind found at in
        kept_with (record { part = found.0; segment = s }) found.1 p.draft refl (under_name again t.kept s found.0 t.is own t.same t.part) t.behind

pub name_more : AreReadOnce → (ss : List Records) (p : Placed) (more : List Records) → AreNamed ss p → AreStored more → AreNamed (ss ++ more) (fold place p more)
name_more again ss p [] is own = subst (λ (xs : List Records). AreNamed xs p) (sym (append-nil ss)) is
name_more again ss p (s ∷ more) is own = subst (λ (xs : List Records). AreNamed xs (fold place (place p s) more)) (append_assoc ss (s ∷ []) more)
    (name_more again (ss ++ s ∷ []) (place p s) more (name_one again ss p s is own.0) own.1)

-- ---- how many numbers are taken

one_number : (p : Placed) (s : Records) → (p.draft.next ≤ (place p s).draft.next) × ((place p s).draft.next ≤ p.draft.next + 1)
one_number p s = go (taken p.behind (seg_bytes s))
  where
    go : (o : Option (DocumentPart × List Kept)) → (p.draft.next ≤ (placed_by p s o).draft.next) × ((placed_by p s o).draft.next ≤ p.draft.next + 1)
    go None = (omega arith, omega arith)
    go (Some found) = (omega arith, omega arith)

pub numbers_taken : (p : Placed) (ss : List Records) → (p.draft.next ≤ (fold place p ss).draft.next) × ((fold place p ss).draft.next ≤ p.draft.next + length ss)
numbers_taken p [] = (omega arith, omega arith)
numbers_taken p (s ∷ ss) =
    let first = one_number p s in
    let others = numbers_taken (place p s) ss in
    (omega (arith, first.0, others.0), omega (arith, first.1, others.1))

-- ---- they are read again

pub segments_written : (config : Config) (view : List (List (List ℕ))) → ((s : Records) → OpensLater config view view s) → IsLabelList view → GoesOn view view → (S : Segments) (ks : List Kept) (pieces : List (List Doc))
    → AllByRecursion IsKept ks → AllByRecursion (λ k. S k.part.number ≡ Some (seg_bytes k.segment)) ks → AllZip (IsSegmentOf view config) (segments_in ks) pieces
    → segments_of config view (length view) S (parts_in ks) ≡ Ok (segments_in ks)
unfolding segments_of segment_of segment_bytes
segments_written config view later list on S [] pieces kept there are = refl
segments_written config view later list on S (k ∷ ks) [] kept there are = absurd are
segments_written config view later list on S (k ∷ ks) (docs ∷ pieces) kept there are =
    let opens = later k.segment docs list list on are.0 kept.0.segment in
    let same = (bytes_decides (sha256 (seg_bytes k.segment)) (sha256 (seg_bytes k.segment))).1 refl in
    rw (there.0, kept.0.digest, same, kept.0.documents, opens, segments_written config view later list on S ks pieces kept.1 there.1 are.1) refl

pub document_numbers : (ks : List Kept) → map (λ x. x.0) (pairs ks) ≡ map (λ k. k.part.number) ks
document_numbers [] = refl
document_numbers (k ∷ ks) = λ i. k.part.number ∷ document_numbers ks i
