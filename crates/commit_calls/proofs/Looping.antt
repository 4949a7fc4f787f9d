-- What the loops over the files of a plan have done so far.
use Rattle.std.proofs.Common.{◌≡◌, ◌≢◌, ◌≤◌, ◌<◌, ◌+◌, ◌*◌, ◌++◌, ◌∙◌, refl, sym, ap, subst, inl, arith, ⊎_elim, ℕ, List, [], ◌∷◌, length, take, drop, get_or, Some, None, Contains}
use Rattle.std.specs.List.{All}
use Rattle.std.proofs.lemmas.List.{take_more, drop_more, take-append-drop}
use Rattle.std.proofs.lemmas.List.Elements.{All-nil, All-cons, All-more, All-weaker, All-contains, All-contains_itself, Contains-get_or}
use Rattle.facet_disk.specs.declared.disk.Disk.{Ghosts}
use Rattle.facet_disk.specs.declared.name.FileName.{FileName}
use Rattle.facet_disk.specs.Images.{Image, Told, removed_in}
use Rattle.facet_disk.specs.Crashes.{Follows, Elapses, PutOf, RemoveOf}
use Rattle.commit_calls.specs.declared.plan.Write.{Write}
use Rattle.commit_calls.specs.Held.{Below}
use Rattle.commit_calls.specs.Moments.{Passes}
use Rattle.commit_calls.specs.Plans.{AreThere, Rises}
use Rattle.commit_calls.specs.Stages.{AreWritten, Beside, Without}
use Rattle.commit_calls.specs.Outcomes.{cleared_told, file_told, files_told, IsToldBelow}
use Rattle.commit_calls.proofs.Early.{below_on, below_same}
use Rattle.commit_calls.proofs.Fitting.{below_next, is_free}
use Rattle.commit_calls.proofs.Names.{removed_one, without_more}
use Rattle.commit_calls.proofs.Runs.{called, then_on}

-- nothing was done yet
pub passes_none : {D : Type 0} (disk : Ghosts D) (step : Image → Image → Type 0) → ((c : Image) → step c c) → (at : D) → Passes disk step at at
passes_none disk step same at = record { later = omega arith; since = λ t c le left. inl left; now = λ c left. (c, left, same c) }

-- ---- removals

cleared_then : (names : List FileName) (name : FileName) (s : Told) → cleared_told (names ++ name ∷ []) s ≡ removed_in (cleared_told names s) name
cleared_then [] name s = refl
cleared_then (n ∷ ns) name s = cleared_then ns name (removed_in s n)

pub cleared_one_more : (names : List FileName) (k : ℕ) (d : FileName) (s : Told) → k < length names → cleared_told (take (k + 1) names) s ≡ removed_in (cleared_told (take k names) s) (get_or names k d)
cleared_one_more names k d s lt = ap (λ (ns : List FileName). cleared_told ns s) (take_more names k d lt) ∙ cleared_then (take k names) (get_or names k d) s

-- The first k files were removed by calls that did not fail, and the others are there as they were.
pub record IsCleared {D : Type 0} (disk : Ghosts D) (names : List FileName) (k : ℕ) (old now : D) : Type 0 where
  pub passes : Passes disk (Without names) old now
  pub tells : (s : Told) → disk.told old ≡ Some s → disk.told now ≡ Some (cleared_told (take k names) s)
  pub there : (s : Told) → disk.told old ≡ Some s → AreThere names s.files → AreThere (drop k names) (cleared_told (take k names) s).files
  pub still : disk.faults now ≡ disk.faults old
  pub unfailed : disk.failures now ≡ disk.failures old
  pub count : disk.moment now ≡ disk.moment old + k

module _ {D : Type 0} (disk : Ghosts D) (names : List FileName) (k : ℕ) (d : FileName) (old mid : D) (so_far : IsCleared disk names k old mid) (lt : k < length names) where
  -- the next file is there
  pub next_there : (s : Told) → disk.told old ≡ Some s → AreThere names s.files → (cleared_told (take k names) s).files (get_or names k d) ≢ None
  next_there s is there = (subst (λ (ns : List FileName). AreThere ns (cleared_told (take k names) s).files) (drop_more names k d lt) (so_far.there s is there)).0

  -- one more removal, whether it failed or not
  pub passes_on : (new : D) → Elapses (disk.moment mid) (disk.moment new) (disk.left_since mid) (disk.left_since new) (disk.may_leave new)
      → Follows (RemoveOf (get_or names k d)) (disk.may_leave mid) (disk.may_leave new) → Passes disk (Without names) old new
  passes_on new time crash = then_on disk (Without names) (RemoveOf (get_or names k d)) (Without names) old mid new so_far.passes
      (called disk (RemoveOf (get_or names k d)) mid new time crash)
      (λ a b one. one)
      (λ a b c at one two. without_more names names a b c (λ n has. has) one (removed_one names (get_or names k d) b c (Contains-get_or names k d lt) two))

  pub cleared_next : (new : D) → Elapses (disk.moment mid) (disk.moment new) (disk.left_since mid) (disk.left_since new) (disk.may_leave new)
      → Follows (RemoveOf (get_or names k d)) (disk.may_leave mid) (disk.may_leave new) → ((s : Told) → disk.told mid ≡ Some s → disk.told new ≡ Some (removed_in s (get_or names k d)))
      → disk.faults new ≡ disk.faults mid → disk.failures new ≡ disk.failures mid → IsCleared disk names (k + 1) old new
  cleared_next new time crash tells still unfailed = record {
    passes = passes_on new time crash;
    tells = λ s is. tells (cleared_told (take k names) s) (so_far.tells s is) ∙ ap Some (sym (cleared_one_more names k d s lt));
    there = λ s is all. subst (λ (t : Told). AreThere (drop (k + 1) names) t.files) (sym (cleared_one_more names k d s lt))
        (subst (λ (ns : List FileName). AreThere ns (cleared_told (take k names) s).files) (drop_more names k d lt) (so_far.there s is all)).1;
    still = still ∙ so_far.still;
    unfailed = unfailed ∙ so_far.unfailed;
    count = let before = so_far.count in let tick = time.tick in omega (arith, before, tick);
  }

-- ---- files that are made

-- What Rises says of a list in two parts: a number between them.
pub record Parts (from to : ℕ) (made rest : List Write) : Type 0 where
  pub mid : ℕ
  pub high : from ≤ mid
  pub rises : Rises mid to rest
  pub low : All (λ w. w.name.number < mid) made
  pub below : (s : Told) → Below from s.files → Below mid (files_told made s).files

parts_of : (from to : ℕ) (made rest : List Write) → Rises from to (made ++ rest) → Parts from to made rest
parts_of from to [] rest rises = record { mid = from; high = omega arith; rises = rises; low = All-nil (λ w. w.name.number < from); below = λ s below. below }
parts_of from to (w ∷ ws) rest rises =
    let p = parts_of (w.name.number + 1) to ws rest rises.3 in
    record {
      mid = p.mid;
      high = omega (arith, rises.0, p.high);
      rises = p.rises;
      low = All-cons (λ (v : Write). v.name.number < p.mid) w ws (omega (arith, p.high)) p.low;
      below = λ s below. p.below (file_told s w.name w.bytes.items) (below_next from s.files w.name w.bytes.items rises.0 below);
    }

-- the same, where the next file is known
next_parts : (from to : ℕ) (files : List Write) (k : ℕ) (w : Write) → w ≡ get_or files k w → k < length files → Rises from to files → Parts from to (take k files) (w ∷ drop (k + 1) files)
next_parts from to files k w is lt rises = parts_of from to (take k files) (w ∷ drop (k + 1) files)
    (subst (Rises from to) (sym (take-append-drop k files) ∙ ap (λ rest. take k files ++ rest) (drop_more files k w lt ∙ ap (λ v. v ∷ drop (k + 1) files) (sym is))) rises)

made_then : (ws : List Write) (w : Write) (s : Told) → files_told (ws ++ w ∷ []) s ≡ file_told (files_told ws s) w.name w.bytes.items
made_then [] w s = refl
made_then (v ∷ vs) w s = made_then vs w (file_told s v.name v.bytes.items)

made_one_more : (files : List Write) (k : ℕ) (w : Write) (s : Told) → w ≡ get_or files k w → k < length files → files_told (take (k + 1) files) s ≡ file_told (files_told (take k files) s) w.name w.bytes.items
made_one_more files k w s is lt = ap (λ (ws : List Write). files_told ws s) (take_more files k w lt ∙ ap (λ v. take k files ++ v ∷ []) (sym is)) ∙ made_then (take k files) w s

-- files that are there stay so where what is under their names stays
still_written : (ws : List Write) (d c : Image) → ((w : Write) → Contains ws w → c w.name ≡ d w.name) → AreWritten ws d → AreWritten ws c
still_written ws d c same written = All-weaker (Contains ws) (λ w. c w.name ≡ Some w.bytes.items)
    (λ w has. same w has ∙ All-contains (λ v. d v.name ≡ Some v.bytes.items) ws w written has) ws (All-contains_itself ws)

-- The first k files were made by calls that did not fail.
pub record AreMade {D : Type 0} (disk : Ghosts D) (files : List Write) (k : ℕ) (old now : D) : Type 0 where
  pub passes : (from to : ℕ) → Rises from to files → Passes disk (Beside from to) old now
  pub durable : (s : Told) (from to : ℕ) → Rises from to files → disk.told old ≡ Some s → (c : Image) → disk.may_leave now c → AreWritten (take k files) c
  pub tells : (s : Told) → disk.told old ≡ Some s → disk.told now ≡ Some (files_told (take k files) s)
  pub below : (s : Told) (from to : ℕ) → Rises from to files → disk.told old ≡ Some s → IsToldBelow from s (disk.told now)
  pub still : disk.faults now ≡ disk.faults old
  pub unfailed : disk.failures now ≡ disk.failures old
  pub count : disk.moment now ≡ disk.moment old + 2 * k

pub made_none : {D : Type 0} (disk : Ghosts D) (files : List Write) (at : D) → AreMade disk files 0 at at
made_none disk files at = record {
  passes = λ from to rises. passes_none disk (Beside from to) (λ c n other. refl) at;
  durable = λ s from to rises is c left. All-nil (λ w. c w.name ≡ Some w.bytes.items);
  tells = λ s is. is;
  below = λ s from to rises is. below_same from s (disk.told at) is;
  still = refl;
  unfailed = refl;
  count = omega arith;
}

module _ {D : Type 0} (disk : Ghosts D) (files : List Write) (k : ℕ) (w : Write) (is : w ≡ get_or files k w) (lt : k < length files) (old mid : D) (so_far : AreMade disk files k old mid) where
  -- the next file is new
  pub next_free : (s : Told) (from to : ℕ) → Rises from to files → Below from s.files → (files_told (take k files) s).files w.name ≡ None
  next_free s from to rises below =
      let p = next_parts from to files k w is lt rises in
      is_free p.mid (files_told (take k files) s).files (p.below s below) w.name p.rises.0

  module _ (new : D) (passes : Passes disk (PutOf w.name) mid new) (below : (s : Told) (next : ℕ) → next ≤ w.name.number → disk.told mid ≡ Some s → IsToldBelow next s (disk.told new)) where
    -- one more file, whether the call failed or not
    pub made_passes : (from to : ℕ) → Rises from to files → Passes disk (Beside from to) old new
    made_passes from to rises =
        let p = next_parts from to files k w is lt rises in
        then_on disk (Beside from to) (PutOf w.name) (Beside from to) old mid new (so_far.passes from to rises) passes
        (λ a b one. one)
        (λ a b c at one two n apart. two n (λ same. ⊎_elim
        (λ commit. p.rises.2 (sym (ap (λ (m : FileName). m.kind) same) ∙ commit))
        (λ out. ⊎_elim (λ low. omega (arith, low, p.rises.0, p.high, ap (λ (m : FileName). m.number) same)) (λ high. omega (arith, high, p.rises.1, ap (λ (m : FileName). m.number) same)) out)
        apart) ∙ one n apart)

    pub made_below : (s : Told) (from to : ℕ) → Rises from to files → disk.told old ≡ Some s → IsToldBelow from s (disk.told new)
    made_below s from to rises tells =
        let p = next_parts from to files k w is lt rises in
        let one = so_far.below s from to rises tells in
        below_on from s _ _ one (below one.told from (omega (arith, p.high, p.rises.0)) one.is)

    -- one more file that was made
    pub made_next : ((s : Told) → disk.told mid ≡ Some s → (c : Image) → disk.may_leave new c → c w.name ≡ Some w.bytes.items)
        → ((s : Told) → disk.told mid ≡ Some s → disk.told new ≡ Some (file_told s w.name w.bytes.items))
        → disk.faults new ≡ disk.faults mid → disk.failures new ≡ disk.failures mid → disk.moment new ≡ disk.moment mid + 2 → AreMade disk files (k + 1) old new
    made_next durable tells still unfailed count = record {
      passes = made_passes;
      durable = λ s from to rises at c left.
          let p = next_parts from to files k w is lt rises in
          let before = passes.now c left in
          let older = so_far.durable s from to rises at before.0 before.1 in
          let apart : (v : Write) → v.name.number < p.mid → c v.name ≡ before.0 v.name = λ v low. before.2 v.name (λ same. omega (arith, low, p.rises.0, ap (λ (m : FileName). m.number) same)) in
          All-more (λ v. c v.name ≡ Some v.bytes.items) files k w lt (still_written (take k files) before.0 c (λ v has. apart v (All-contains (λ v. v.name.number < p.mid) (take k files) v p.low has)) older)
          (subst (λ (v : Write). c v.name ≡ Some v.bytes.items) is (durable (files_told (take k files) s) (so_far.tells s at) c left));
      tells = λ s at. tells (files_told (take k files) s) (so_far.tells s at) ∙ ap Some (sym (made_one_more files k w s is lt));
      below = made_below;
      still = still ∙ so_far.still;
      unfailed = unfailed ∙ so_far.unfailed;
      count = let before = so_far.count in omega (arith, before, count);
    }
