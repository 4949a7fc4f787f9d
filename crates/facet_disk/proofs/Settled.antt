-- What is picked of a name is as it was when the name was last settled.
use Rattle.std.proofs.Common.{◌≡◌, ◌⊎◌, inl, inr, refl, sym, ap, subst, ◌∙◌, ℕ, zero, suc, List, [], ◌∷◌, ◌++◌, ◌<◌, ◌+◌, ◌-◌, length, take, Some, Bool, true, false, not, ◌&&◌, ◌||◌, if◌then◌else◌, ⊎_elim, arith}
use Rattle.std.specs.Prelude.{slice_get, nat_lt}
use Rattle.std.proofs.Math.Seq.{take-append_seam, take-append-add}
use Rattle.std.proofs.lemmas.Bool.Decides.{nat_tests}
use Rattle.std.proofs.lemmas.List.{take-append-le, append-nil, append_assoc}
use Rattle.std.proofs.lemmas.Option.{slice_get_cases}
use Rattle.facet_disk.specs.declared.name.Dir.{Dir}
use Rattle.facet_disk.specs.declared.name.FileName.{FileName}
use Rattle.facet_disk.specs.declared.change.Noted.{Noted}
use Rattle.facet_disk.specs.declared.change.Change.{Change}
use Rattle.facet_disk.specs.declared.change.Change.TheVariants.{Put, Synced, Renamed, NamesSynced, Removed}
use Rattle.facet_disk.specs.declared.stopped.Pick.{Pick}
use Rattle.facet_disk.specs.FileNames.{same_dir, same_name}
use Rattle.facet_disk.specs.Images.{Image, Told}
use Rattle.facet_disk.specs.Record.{told_after, told_step, told_at_first}
use Rattle.facet_disk.specs.SameNames.{name_from, name_again, dir_from, dir_again}
use Rattle.facet_disk.specs.Settling.{touches, is_put, IsInPlace, Settles, IsLastSettled, IsLeft}
use Rattle.facet_disk.specs.Stopped.{Standing, standing_at_first, standing_step, standing_after, in_place_step, settles, picked, picked_file, left_image}
use Rattle.facet_disk.proofs.Standings.{standing_told, undone_settled, undone_kept}
use Rattle.facet_disk.proofs.Replays.{told_more}

-- ---- one more in a list

more_get : {X : Type 0} (xs : List X) (x : X) (i : ℕ) (y : X) → slice_get (xs ++ x ∷ []) i ≡ Some y → ((i < length xs) × (slice_get xs i ≡ Some y)) ⊎ ((i ≡ length xs) × (x ≡ y))
more_get [] x zero y e = let same : x ≡ y = cc e in inr (refl, same)
more_get [] x (suc i) y e = absurd (cc e)
more_get (z ∷ xs) x zero y e = inl (omega arith, e)
more_get (z ∷ xs) x (suc i) y e = elim (more_get xs x i y e) [ inl h ↦ inl (omega (arith, h.0), h.1) | inr h ↦ inr (ap suc h.0, h.1) ]

kept_get : {X : Type 0} (xs : List X) (x : X) (i : ℕ) (y : X) → slice_get xs i ≡ Some y → slice_get (xs ++ x ∷ []) i ≡ Some y
kept_get [] x i y e = absurd (cc e)
kept_get (z ∷ xs) x zero y e = e
kept_get (z ∷ xs) x (suc i) y e = kept_get xs x i y e

last_get : {X : Type 0} (xs : List X) (x : X) → slice_get (xs ++ x ∷ []) (length xs) ≡ Some x
last_get [] x = refl
last_get (z ∷ xs) x = last_get xs x

more_length : {X : Type 0} (xs : List X) (x : X) → length (xs ++ x ∷ []) ≡ length xs + 1
more_length [] x = refl
more_length (z ∷ xs) x = omega (arith, more_length xs x)

-- ---- tests that decide

abbrev Decides : Bool → Type 0 → Type 0
Decides b P = (b ≡ true → P) × (b ≡ false → ¬ P)

or_decides : (a b : Bool) (A B : Type 0) → Decides a A → Decides b B → Decides (a || b) (A ⊎ B)
or_decides true b A B one other = (λ e. inl (one.0 refl), λ e. absurd (cc e))
or_decides false true A B one other = (λ e. inr (other.0 refl), λ e. absurd (cc e))
or_decides false false A B one other = (λ e. absurd (cc e), λ e or. ⊎_elim (one.1 refl) (other.1 refl) or)

and_decides : (a b : Bool) (A B : Type 0) → Decides a A → Decides b B → Decides (a && b) (A × B)
and_decides true true A B one other = (λ e. (one.0 refl, other.0 refl), λ e. absurd (cc e))
and_decides true false A B one other = (λ e. absurd (cc e), λ e and. other.1 refl and.1)
and_decides false b A B one other = (λ e. absurd (cc e), λ e and. one.1 refl and.0)

not_decides : (b : Bool) (P : Type 0) → Decides b P → Decides (not b) (¬ P)
not_decides true P p = (λ e. absurd (cc e), λ e no. no (p.0 refl))
not_decides false P p = (λ e. p.1 refl, λ e. absurd (cc e))

names_decide : (a b : FileName) → Decides (same_name a b) (a ≡ b)
names_decide a b = (name_from a b, λ other same. let again : same_name a b ≡ true = ap (same_name a) (sym same) ∙ name_again a in cc (other, again))

dirs_decide : (a b : Dir) → Decides (same_dir a b) (a ≡ b)
dirs_decide a b = (dir_from a b, λ other same. let again : same_dir a b ≡ true = ap (same_dir a) (sym same) ∙ dir_again a in cc (other, again))

-- ---- files in place

place_step : (in_place : FileName → Bool) (c : Change) (n : FileName) → in_place_step in_place c n ≡ (if touches n c then is_put c else in_place n)
place_step in_place (Put put bytes) n = refl
place_step in_place (Synced synced) n = refl
place_step in_place (Renamed from to) n = by (same_name n from) (same_name n to)
  where
    by : (f t : Bool) → (if t then false else (if f then false else in_place n)) ≡ (if f || t then false else in_place n)
    by true true = refl
    by true false = refl
    by false true = refl
    by false false = refl
place_step in_place (NamesSynced dir) n = refl
place_step in_place (Removed removed) n = refl

placed_at_first : (n : FileName) → Decides true (IsInPlace [] n)
placed_at_first n = (λ e i noted get touched later. absurd (cc get), λ e. absurd (cc e))

module _ (done : List Noted) (x : Noted) (n : FileName) where
  put_last : touches n x.change ≡ true → is_put x.change ≡ true → IsInPlace (done ++ x ∷ []) n
  put_last here put i noted get touched later = elim (more_get done x i noted get) [
    | inl h ↦ let apart : touches n x.change ≡ false = later (length done) x h.0 (last_get done x) in cc (here, apart)
    | inr h ↦ subst (λ (y : Noted). is_put y.change ≡ true) h.1 put
  ]

  other_last : touches n x.change ≡ true → is_put x.change ≡ false → ¬ IsInPlace (done ++ x ∷ []) n
  other_last here other all =
      let put : is_put x.change ≡ true = all (length done) x (last_get done x) here (λ j later lt get. elim (more_get done x j later get) [ inl h ↦ absurd (omega (arith, h.0, lt)) | inr h ↦ absurd (omega (arith, h.0, lt)) ]) in
      cc (other, put)

  stays_in_place : touches n x.change ≡ false → IsInPlace done n → IsInPlace (done ++ x ∷ []) n
  stays_in_place apart all i noted get touched later = elim (more_get done x i noted get) [
    | inl h ↦ all i noted h.1 touched (λ j l lt g. later j l lt (kept_get done x j l g))
    | inr h ↦ let here : touches n x.change ≡ true = subst (λ (y : Noted). touches n y.change ≡ true) (sym h.1) touched in cc (here, apart)
  ]

  was_in_place : touches n x.change ≡ false → IsInPlace (done ++ x ∷ []) n → IsInPlace done n
  was_in_place apart all i noted get touched later = all i noted (kept_get done x i noted get) touched
      (λ j l lt g. elim (more_get done x j l g) [ inl h ↦ later j l lt h.1 | inr h ↦ subst (λ (y : Noted). touches n y.change ≡ false) h.1 apart ])

  placed_more : (b : Bool) → Decides b (IsInPlace done n) → Decides (if touches n x.change then is_put x.change else b) (IsInPlace (done ++ x ∷ []) n)
  placed_more b old = by (touches n x.change) refl
    where
      by : (t : Bool) → touches n x.change ≡ t → Decides (if t then is_put x.change else b) (IsInPlace (done ++ x ∷ []) n)
      by true here = (put_last here, other_last here)
      by false apart = (λ e. stays_in_place apart (old.0 e), λ e now. old.1 e (was_in_place apart now))

settles_decides : (in_place : FileName → Bool) (done : List Noted) → ((n : FileName) → Decides (in_place n) (IsInPlace done n)) → (c : Change) (name : FileName) → Decides (settles in_place c name) (Settles done c name)
settles_decides in_place done placed (Put put bytes) name = names_decide name put
settles_decides in_place done placed (Synced synced) name = or_decides (same_name name synced) (same_dir name.dir synced.dir && not (in_place synced)) _ _ (names_decide name synced)
    (and_decides (same_dir name.dir synced.dir) (not (in_place synced)) _ _ (dirs_decide name.dir synced.dir) (not_decides (in_place synced) _ (placed synced)))
settles_decides in_place done placed (Renamed from to) name = not_decides (same_dir from.dir to.dir) _ (dirs_decide from.dir to.dir)
settles_decides in_place done placed (NamesSynced dir) name = dirs_decide name.dir dir
settles_decides in_place done placed (Removed removed) name = (λ e. absurd (cc e), λ e no. no)

-- ---- change by change

record Settled (start : Image) (name : FileName) (done : List Noted) (s : Standing) : Type 0 where
  placed : (n : FileName) → Decides (s.in_place n) (IsInPlace done n)
  told : s.told ≡ told_after (told_at_first start) done
  k : ℕ
  last : IsLastSettled done name k
  files : s.undone.files name ≡ (told_after (told_at_first start) (take k done)).files name
  unsynced : s.undone.unsynced name ≡ (told_after (told_at_first start) (take k done)).unsynced name

settled_at_first : (start : Image) (name : FileName) → Settled start name [] (standing_at_first start)
settled_at_first start name = record {
  placed = placed_at_first;
  told = refl;
  k = 0;
  last = record { within = omega arith; settled = λ i noted e get. absurd (cc get); since = λ i noted le get. absurd (cc get) };
  files = refl;
  unsynced = refl;
}

module _ (start : Image) (name : FileName) (done : List Noted) (s : Standing) (g : Settled start name done s) (x : Noted) where
  whole : take (length done + 1) (done ++ x ∷ []) ≡ done ++ x ∷ []
  whole = take-append-add done (x ∷ []) 1

  told_now : (standing_step s x.change).told ≡ told_after (told_at_first start) (done ++ x ∷ [])
  told_now = ap (λ (t : Told). told_step t x.change) g.told ∙ sym (told_more (told_at_first start) done x)

  placed_now : (n : FileName) → Decides ((standing_step s x.change).in_place n) (IsInPlace (done ++ x ∷ []) n)
  placed_now n = subst (λ (b : Bool). Decides b (IsInPlace (done ++ x ∷ []) n)) (sym (place_step s.in_place x.change n)) (placed_more done x n (s.in_place n) (g.placed n))

  last_now : Settles done x.change name → IsLastSettled (done ++ x ∷ []) name (length done + 1)
  last_now is = record {
    within = omega (arith, more_length done x);
    settled = λ i noted e get. elim (more_get done x i noted get) [
      | inl h ↦ absurd (omega (arith, h.0, e))
      | inr h ↦ subst (λ (y : Noted). Settles (take i (done ++ x ∷ [])) y.change name) h.1
          (subst (λ (l : List Noted). Settles l x.change name) (sym (ap (λ (j : ℕ). take j (done ++ x ∷ [])) h.0 ∙ take-append_seam done (x ∷ []))) is)
    ];
    since = λ i noted le get. elim (more_get done x i noted get) [ inl h ↦ absurd (omega (arith, h.0, le)) | inr h ↦ absurd (omega (arith, h.0, le)) ];
  }

  last_then : ¬ Settles done x.change name → IsLastSettled (done ++ x ∷ []) name g.k
  last_then apart = record {
    within = omega (arith, more_length done x, g.last.within);
    settled = λ i noted e get. elim (more_get done x i noted get) [
      | inl h ↦ subst (λ (l : List Noted). Settles l noted.change name) (sym (take-append-le i done (x ∷ []) (omega (arith, h.0)))) (g.last.settled i noted e h.1)
      | inr h ↦ absurd (omega (arith, h.0, e, g.last.within))
    ];
    since = λ i noted le get is. elim (more_get done x i noted get) [
      | inl h ↦ g.last.since i noted le h.1 (subst (λ (l : List Noted). Settles l noted.change name) (take-append-le i done (x ∷ []) (omega (arith, h.0))) is)
      | inr h ↦ apart (subst (λ (l : List Noted). Settles l x.change name) (ap (λ (j : ℕ). take j (done ++ x ∷ [])) h.0 ∙ take-append_seam done (x ∷ []))
          (subst (λ (y : Noted). Settles (take i (done ++ x ∷ [])) y.change name) (sym h.1) is))
    ];
  }

  settled_more : Settled start name (done ++ x ∷ []) (standing_step s x.change)
  settled_more = by (settles s.in_place x.change name) refl
    where
      test : Decides (settles s.in_place x.change name) (Settles done x.change name)
      test = settles_decides s.in_place done g.placed x.change name

      by : (b : Bool) → settles s.in_place x.change name ≡ b → Settled start name (done ++ x ∷ []) (standing_step s x.change)
      by true is =
          let now = undone_settled s (standing_step s x.change) x.change name refl (sym is) in
          let all : (standing_step s x.change).told ≡ told_after (told_at_first start) (take (length done + 1) (done ++ x ∷ [])) = told_now ∙ ap (told_after (told_at_first start)) (sym whole) in
          record {
            placed = placed_now;
            told = told_now;
            k = length done + 1;
            last = last_now (test.0 is);
            files = now.0 ∙ ap (λ (t : Told). t.files name) all;
            unsynced = now.1 ∙ ap (λ (t : Told). t.unsynced name) all;
          }
      by false is =
          let now = undone_kept s (standing_step s x.change) x.change name refl (sym is) in
          let part : take g.k done ≡ take g.k (done ++ x ∷ []) = sym (take-append-le g.k done (x ∷ []) g.last.within) in
          record {
            placed = placed_now;
            told = told_now;
            k = g.k;
            last = last_then (test.1 is);
            files = now.0 ∙ g.files ∙ ap (λ (l : List Noted). (told_after (told_at_first start) l).files name) part;
            unsynced = now.1 ∙ g.unsynced ∙ ap (λ (l : List Noted). (told_after (told_at_first start) l).unsynced name) part;
          }

settled_on : (start : Image) (name : FileName) (done : List Noted) (s : Standing) → Settled start name done s → (changes : List Noted) → Settled start name (done ++ changes) (standing_after s changes)
settled_on start name done s g [] = subst (λ (l : List Noted). Settled start name l s) (sym (append-nil done)) g
settled_on start name done s g (x ∷ changes) = subst (λ (l : List Noted). Settled start name l (standing_after (standing_step s x.change) changes)) (append_assoc done (x ∷ []) changes)
    (settled_on start name (done ++ x ∷ []) (standing_step s x.change) (settled_more start name done s g x) changes)

-- ---- there is one last moment

module _ (changes : List Noted) (name : FileName) where
  not_before : (k m : ℕ) → IsLastSettled changes name k → IsLastSettled changes name m → k < m → ⊥
  not_before k m one other lt = elim (slice_get_cases changes (m - 1)).1 [
    | inl h ↦ one.since (m - 1) h.0 (omega (arith, lt)) h.2 (other.settled (m - 1) h.0 (omega (arith, lt)) h.2)
    | inr h ↦ omega (arith, h.0, lt, other.within)
  ]

  last_alone : (k m : ℕ) → IsLastSettled changes name k → IsLastSettled changes name m → k ≡ m
  last_alone k m one other = by (nat_lt k m) (nat_lt m k) refl refl
    where
      by : (a b : Bool) → nat_lt k m ≡ a → nat_lt m k ≡ b → k ≡ m
      by true b e f = absurd (not_before k m one other (grind (arith, nat_tests, e)))
      by false true e f = absurd (not_before m k other one (grind (arith, nat_tests, f)))
      by false false e f = grind (arith, nat_tests, e, f)

pub is_left : (start : Image) (changes : List Noted) (pick : Pick) → IsLeft start changes pick (left_image start changes pick)
is_left start changes pick =
    let s = standing_after (standing_at_first start) changes in
    record {
      done = λ is. ap (λ (b : Bool). picked pick.files (if b then s.told else s.undone)) is ∙ ap (picked pick.files) (standing_told (standing_at_first start) changes);
      undone = λ is name k last.
          let g = settled_on start name [] (standing_at_first start) (settled_at_first start name) changes in
          let same : g.k ≡ k = last_alone changes name g.k k g.last last in
          let files = g.files ∙ ap (λ (m : ℕ). (told_after (told_at_first start) (take m changes)).files name) same in
          let unsynced = g.unsynced ∙ ap (λ (m : ℕ). (told_after (told_at_first start) (take m changes)).unsynced name) same in
          ap (λ (b : Bool). picked pick.files (if b then s.told else s.undone) name) is ∙ (λ i. picked_file pick.files (files i) (unsynced i));
      last = λ name.
          let g = settled_on start name [] (standing_at_first start) (settled_at_first start name) changes in
          (g.k, g.last);
    }
