-- What the value stands for, carried over a longer note and over a commit.
use Rattle.std.proofs.Common.{◌≡◌, ℕ, ◌≤◌, ◌+◌, ◌-◌, ◌^◌, List, [], ◌∷◌, ◌++◌, length, take, Option, Some, None, Ok, refl, sym, ap, subst, ◌∙◌, arith, inl, inr, All}
use Rattle.std.proofs.lemmas.List.{length-append, append-nil}
use Rattle.std.proofs.lemmas.List.Elements.{All-push, All-weaker, All-contains, Contains-push}
use mathlib.Core.List.{IsPrefix}
use Rattle.chronicle.proofs.Prefixes.{prefix_length}
use Rattle.facet_disk.specs.Calls.{Rose}
use Rattle.facet_disk.specs.Images.{Image, Told}
use Rattle.facet_disk.specs.declared.disk.Disk.{Ghosts}
use Rattle.facet_model.specs.Flags.{Config}
use Rattle.facet_model.specs.Histories.{Operation, docs}
use Rattle.facet_model.specs.Stored.{Records, Decodes}
use Rattle.facet_names.specs.Labels.{GoesOn, IsLabelList}
use Rattle.facet_names.proofs.LabelLists.{Labels, goes_further}
use Rattle.seg_documents.specs.Decoding.{docs_in}
use Rattle.seg_documents.proofs.Decoded.{decoded, decodes_stay}
use Rattle.seg_documents.proofs.Prefixes.{stays}
use Rattle.commit_calls.specs.Held.{Below as NamedBelow}
use Rattle.commit_calls.specs.Moments.{LeavesOnly}
use Rattle.commit_calls.proofs.Runs.{leaves_on, leaves_more}
use Rattle.commit_plan.specs.Committed.{Committed}
use Rattle.commit_store.specs.Committers.{CommitterView}
use Rattle.commit_store.specs.Committing.{HasOneOfThree}
use Rattle.commit_store.specs.Promised.{IsHere, OfBoth, PassesThree, LeavesThree, Acknowledges, HasNamed, StaysListed, FailsDevice}
use Rattle.store_opening.specs.Files.{files}
use Rattle.store_opening.proofs.Held.{files_stand}
use Rattle.commit_turns.specs.Commits.{IsLast, Keeps, IsFollowed, Stands}
use Rattle.commit_turns.specs.DiskStates.{DiskState, state_of}
use Rattle.commit_turns.specs.Points.{count_after, made, failed_after, first_of}
use Rattle.commit_turns.specs.Recovery.{Holds, HoldsJust}
use Rattle.commit_turns.specs.Surviving.{Survive}
use Rattle.pair_manager.specs.declared.point.CommitPoint.{CommitPoint}
use Rattle.commit_turns.proofs.Imaged.{holds_more, holds_less, holds_found, just_found}
use Rattle.commit_turns.proofs.Pointed.{first_below, first_more, points_made, points_failed, Below}
use Rattle.commit_turns.proofs.Prefixed.{docs_on, docs_all}
use Rattle.commit_turns.proofs.Surviving.{OnlyNow, marked, survive_more, survive_push}

pub none_unless : (o : Option ℕ) → ((n : ℕ) → o ≡ Some n → ⊥) → o ≡ None
none_unless None never = refl
none_unless (Some n) never = absurd (never n refl)

-- a count that rose from one on rose from each earlier one on
rose_since : (first before now count : ℕ) → first ≤ before → count ≡ now → Rose before now → Rose first count
rose_since first before now count later is (inl less) = inl (omega arith)
rose_since first before now count later is (inr most) = inr (subst (λ (n : ℕ). 2 ^ 64 - 1 ≤ n) (sym is) most)

one_longer : (p : CommitPoint) (es : List CommitPoint) → length (es ++ p ∷ []) ≡ length es + 1
one_longer p es = length-append es (p ∷ [])

module _ {D : Type 0} (disk : Ghosts D) where
  -- every image has the files of what was committed last
  pub last_files : (config : Config) (committer : CommitterView D) (labels : Labels) (segments : List Records) → IsHere disk config committer labels segments
      → (c : Image) → disk.may_leave committer.disk c → files config c ≡ Ok (record { labels = labels; segments = segments })
  last_files config committer labels segments at c left =
      files_stand config committer.state.next at.taxonomy at.index c (record { labels = labels; segments = segments }) (at.stands c left) at.known.files

  module _ (told settled : Type 0) (quiet : DiskState → Type 0) (start : D) (begun : Committed) where
    abbrev pub On : CommitterView D → CommitPoint → Labels → List Operation → List CommitPoint → List (D × CommitPoint) → Type 0
    On committer last labels history = Stands disk told settled quiet (record { start = start; begun = begun; committer = committer; last = last; labels = labels; history = history })

    -- ---- longer notes

    pub stands_more : (committer : CommitterView D) (last : CommitPoint) (labels more : Labels) (history longer : List Operation) (es : List CommitPoint) (marks : List (D × CommitPoint)) → GoesOn labels more → IsPrefix history longer
        → On committer last labels history es marks → On committer last more longer es marks
    stands_more committer last labels more history longer es marks on grows st = record {
      points = record {
        before = st.points.before;
        ends = st.points.ends;
        unfailed = st.points.unfailed;
        counts = st.points.counts;
        most = st.points.most;
        within = (omega (arith, st.points.within.0, on.0), omega (arith, st.points.within.1, prefix_length history longer grows));
      };
      closed = st.closed;
      counted = st.counted;
      exact = st.exact;
      rose = st.rose;
      numbers = st.numbers;
      tells = st.tells;
      followed = st.followed;
      keeps = λ is. let k = st.keeps is in record {
        moments = leaves_more disk (Holds committer.config labels history (first_of es)) (Holds committer.config more longer (first_of es)) start committer.disk
            (λ c h. holds_more committer.config labels more history longer (first_of es) c on grows h) k.moments;
        now = All-weaker (λ (p : CommitPoint). (c : Image) → disk.may_leave committer.disk c → Holds committer.config labels history p c)
            (λ (p : CommitPoint). (c : Image) → disk.may_leave committer.disk c → Holds committer.config more longer p c)
            (λ p holds c left. holds_more committer.config labels more history longer p c on grows (holds c left)) es k.now;
        survive = survive_more disk committer.config labels more history longer es marks committer.disk on grows k.survive;
      };
      committed = λ is none. let l = st.committed is none in record {
        known = l.known;
        segments = l.segments;
        tells = l.tells;
        here = l.here;
        list = l.list;
        goes_on = goes_further l.known labels more l.goes_on on;
        many = l.many;
        decodes = l.decodes;
        within = omega (arith, l.within, prefix_length history longer grows);
        just = l.just ∙ docs_on history longer last.operations grows l.within;
      };
      untouched = st.untouched;
    }

    -- ---- no point more

    pub stands_none : (committer : CommitterView D) (last : CommitPoint) (labels : Labels) (history : List Operation) (es : List CommitPoint) (marks : List (D × CommitPoint))
        → On committer last labels history es marks → On committer last labels history (es ++ []) (marks ++ [])
    stands_none committer last labels history es marks st = subst (λ (T : Type 0). T) (λ i. On committer last labels history (sym (append-nil es) i) (sym (append-nil marks) i)) st

    -- ---- a commit

    module _ (old new : CommitterView D) (last : CommitPoint) (view : Labels) (history : List Operation) (segments : List Records) (es : List CommitPoint) (marks : List (D × CommitPoint))
        (none : old.closed ≡ None) (same : new.config ≡ old.config) (list : IsLabelList view) (all : docs_in view segments ≡ docs history) (st : On old last view history es marks) where
      unfailed : last.failed ≡ None
      unfailed = st.closed ∙ none

      all_of_it : docs_in view segments ≡ docs (take (length history) history)
      all_of_it = all ∙ docs_all history

      -- with one more there is more than one
      several : (p : CommitPoint) (A : Type 0) → length (es ++ p ∷ []) ≤ 1 → A
      several p A few =
          let some : length es ≡ length st.points.before + 1 = ap length st.points.ends ∙ one_longer last st.points.before in
          absurd (omega (arith, few, one_longer p es, some))

      abbrev Holding : CommitPoint → Image → Type 0
      Holding p c = Holds old.config view history p c

      module _ (is : settled) where
        was : IsLast disk old last view history
        was = st.committed is none

        -- under the labels of now too
        as_before : docs_in view was.segments ≡ docs (take last.operations history)
        as_before = decoded view old.config was.segments (docs_in was.known was.segments) (decodes_stay old.config was.known view was.list list was.goes_on was.segments (docs_in was.known was.segments) was.decodes) ∙ was.just

        -- each of the three
        one_of_three : (c : Image) → HasOneOfThree old.config was.known was.segments view segments c → Holding last c
        one_of_three c (inl before) = holds_found old.config view was.known history was.segments last.operations last c before was.goes_on was.within was.just (omega (arith, was.many)) (omega arith)
        one_of_three c (inr (inl mixed)) =
            holds_found old.config view view history was.segments last.operations last c mixed (stays view) was.within as_before (omega (arith, was.many, was.goes_on.0)) (omega arith)
        one_of_three c (inr (inr done)) =
            holds_found old.config view view history segments (length history) last c done (stays view) (omega arith) all_of_it st.points.within.0 st.points.within.1

        first_low : Below last (first_of es)
        first_low = first_below es st.points.before last st.points.ends st.points.most

        -- the images of a commit are among those that there may be
        moments : (p : CommitPoint) → LeavesOnly disk old.disk new.disk (HasOneOfThree old.config was.known was.segments view segments)
            → LeavesOnly disk start new.disk (Holds new.config view history (first_of (es ++ p ∷ [])))
        moments p leaves =
            let first : first_of es ≡ first_of (es ++ p ∷ []) = sym (first_more es st.points.before last (p ∷ []) st.points.ends) in
            let three = leaves_more disk (HasOneOfThree old.config was.known was.segments view segments) (Holding (first_of es)) old.disk new.disk
            (λ c t. holds_less old.config view history last (first_of es) c first_low.0 first_low.1 (one_of_three c t)) leaves in
            let both = leaves_on disk (Holding (first_of es)) start old.disk new.disk (st.keeps is).moments three in
            subst (λ (T : Type 0). T) (λ i. LeavesOnly disk start new.disk (Holds (sym same i) view history (first i))) both

        abbrev HasAll : List CommitPoint → Type 0
        HasAll ps = All (λ (p : CommitPoint). (c : Image) → disk.may_leave new.disk c → Holding p c) ps

        -- so each image holds what it did and the new point
        keeps_with : OnlyNow disk → (p : CommitPoint) → LeavesOnly disk old.disk new.disk (HasOneOfThree old.config was.known was.segments view segments) → HasAll (es ++ p ∷ [])
            → (p.failed ≡ None → (c : Image) → disk.may_leave new.disk c → HoldsJust old.config view history p c) → Keeps disk start new view history (es ++ p ∷ []) (marks ++ marked new.disk p)
        keeps_with only_now p leaves now just =
            let last_held = leaves_more disk (HasOneOfThree old.config was.known was.segments view segments) (Holding last) old.disk new.disk one_of_three leaves in
            let here = All-contains (λ (q : CommitPoint). (c : Image) → disk.may_leave new.disk c → Holding q c) (es ++ p ∷ []) p now (Contains-push es p) in
            let survive = survive_push disk old.config only_now view history es marks last p old.disk new.disk st.points.most last_held here just (st.keeps is).survive in
            record {
              moments = moments p leaves;
              now = subst (λ (k : Config). All (λ (p : CommitPoint). (c : Image) → disk.may_leave new.disk c → Holds k view history p c) (es ++ p ∷ [])) (sym same) now;
              survive = subst (λ (k : Config). Survive disk k view history (es ++ p ∷ []) (marks ++ marked new.disk p) new.disk) (sym same) survive;
            }

        -- it failed on the disk
        has_failed : (count : ℕ) → ((c : Image) → disk.may_leave new.disk c → HasOneOfThree old.config was.known was.segments view segments c) → HasAll (es ++ failed_after last count ∷ [])
        has_failed count now =
            let here : (p : CommitPoint) → Below last p → (c : Image) → disk.may_leave new.disk c → Holding p c = λ p low c left. holds_less old.config view history last p c low.0 low.1 (one_of_three c (now c left)) in
            All-push (λ (p : CommitPoint). (c : Image) → disk.may_leave new.disk c → Holding p c) es (failed_after last count)
            (All-weaker (Below last) (λ (p : CommitPoint). (c : Image) → disk.may_leave new.disk c → Holding p c) here es st.points.most) (here (failed_after last count) (omega arith, omega arith))

        -- it was made
        has_made : ((c : Image) → disk.may_leave new.disk c → files old.config c ≡ Ok (record { labels = view; segments = segments })) → HasAll (es ++ made (length history) (length view) ∷ [])
        has_made stand =
            let q : CommitPoint = made (length history) (length view) in
            let here : (p : CommitPoint) → Below q p → (c : Image) → disk.may_leave new.disk c → Holding p c =
            λ p low c left. holds_found old.config view view history segments (length history) p c (stand c left) (stays view) (omega arith) all_of_it low.0 low.1 in
            All-push (λ (p : CommitPoint). (c : Image) → disk.may_leave new.disk c → Holding p c) es q
            (All-weaker (Below q) (λ (p : CommitPoint). (c : Image) → disk.may_leave new.disk c → Holding p c) here es
            (All-weaker (Below last) (Below q) (λ p low. (omega (arith, low.0, st.points.within.0), omega (arith, low.1, st.points.within.1))) es st.points.most)) (here q (omega arith, omega arith))

      -- the files were followed, and the commit failed on the disk
      follows_failed : (count : ℕ) → new.closed ≡ Some count → FailsDevice disk old new → told → IsFollowed disk start new
      follows_failed count closed fails is =
          let known = st.followed is in
          let tells = st.tells is in
          let before = known.told none tells.0 tells.1 in
          record {
            told = λ unclosed. absurd (cc (closed, unclosed));
            unfailed = λ unclosed. absurd (cc (closed, unclosed));
            failed = λ k is. subst (λ (n : ℕ). Rose n (disk.failures new.disk)) (known.unfailed none) (fails tells.0 tells.1 before.listed before.fresh);
          }

      pub stands_failed : OnlyNow disk → (count : ℕ) → new.closed ≡ Some count → Rose (disk.faults old.disk) (disk.faults new.disk) → count ≡ disk.faults new.disk → disk.faults old.disk ≤ disk.faults new.disk → new.state ≡ old.state → ((s : Told) → disk.told old.disk ≡ Some s → (u : Told) × (disk.told new.disk ≡ Some u))
          → FailsDevice disk old new → PassesThree disk old new view segments → LeavesThree disk old new view segments → On new (failed_after last count) view history (es ++ failed_after last count ∷ []) (marks ++ marked new.disk (failed_after last count))
      stands_failed only_now count closed rises is_count later state tells fails leaves ends = record {
        points = points_failed (disk.faults old.disk) (length view) (length history) last es st.points count unfailed (disk.faults new.disk) (omega (arith, is_count));
        closed = sym closed;
        counted = omega (arith, st.counted, later);
        exact = sym is_count;
        rose = λ k is. let same : count ≡ k = cc is in subst (Rose (disk.faults start)) same (rose_since (disk.faults start) (disk.faults old.disk) (disk.faults new.disk) count st.counted is_count rises);
        numbers = let n : new.state.next ≡ old.state.next = ap (λ (s : Committed). s.next) state in omega (arith, n, one_longer (failed_after last count) es, st.numbers);
        tells = λ is. let before = st.tells is in tells before.0 before.1;
        followed = follows_failed count closed fails;
        keeps = λ is.
            let w = was is in
            keeps_with is only_now (failed_after last count) (leaves w.tells.0 w.known w.segments w.tells.1 w.here w.goes_on) (has_failed is count (ends w.tells.0 w.known w.segments w.tells.1 w.here w.goes_on))
            (λ unfailed c left. absurd (cc unfailed));
        committed = λ is unshut. absurd (cc (closed, unshut));
        untouched = several (failed_after last count) (quiet (state_of disk new.disk));
      }

      -- the files were followed, and the commit was made
      pub follows_made : new.closed ≡ None → StaysListed disk old new → OfBoth disk old.disk new.disk (λ s u. HasNamed s.files old.state → HasNamed u.files new.state)
          → OfBoth disk old.disk new.disk (λ s u. NamedBelow old.state.next s.files → NamedBelow new.state.next u.files) → disk.failures new.disk ≡ disk.failures old.disk
          → told → IsFollowed disk start new
      follows_made unshut listed named fresh still is =
          let known = st.followed is in
          let tells = st.tells is in
          let before = known.told none tells.0 tells.1 in
          record {
            told = λ unclosed u now. record {
              listed = listed tells.0 u tells.1 now before.named before.listed;
              named = named tells.0 u tells.1 now before.named;
              fresh = fresh tells.0 u tells.1 now before.fresh;
            };
            unfailed = λ unclosed. still ∙ known.unfailed none;
            failed = λ k is. absurd (cc (unshut, is));
          }

      pub stands_made : OnlyNow disk → new.closed ≡ None → Decodes view old.config segments (docs_in view segments) → disk.faults new.disk ≡ disk.faults old.disk → new.state.next ≤ old.state.next + 1000003
          → ((s : Told) → disk.told old.disk ≡ Some s → (u : Told) × (disk.told new.disk ≡ Some u)) → (told → IsFollowed disk start new) → PassesThree disk old new view segments → Acknowledges disk old new view segments
          → On new (made (length history) (length view)) view history (es ++ made (length history) (length view) ∷ []) (marks ++ marked new.disk (made (length history) (length view)))
      stands_made only_now unclosed decodes still takes tells followed leaves acknowledges = record {
        points = points_made (disk.faults old.disk) (length view) (length history) last es st.points unfailed (disk.faults new.disk);
        closed = sym unclosed;
        counted = omega (arith, st.counted, still);
        exact = still ∙ st.exact ∙ ap (count_after (disk.faults start)) unfailed;
        rose = λ count is. absurd (cc is);
        numbers = omega (arith, one_longer (made (length history) (length view)) es, st.numbers, takes);
        tells = λ is. let before = st.tells is in tells before.0 before.1;
        followed = followed;
        keeps = λ is.
            let w = was is in
            let here = acknowledges w.tells.0 w.known w.segments w.tells.1 w.here w.goes_on in
            let stand = subst (λ (k : Config). (c : Image) → disk.may_leave new.disk c → files k c ≡ Ok (record { labels = view; segments = segments })) same (last_files new.config new view segments here) in
            keeps_with is only_now (made (length history) (length view)) (leaves w.tells.0 w.known w.segments w.tells.1 w.here w.goes_on) (has_made is stand)
            (λ unfailed c left. just_found old.config view view history segments (length history) (made (length history) (length view)) c (stand c left) (stays view) (omega arith) all_of_it refl refl);
        committed = λ is unshut.
            let w = was is in record {
              known = view;
              segments = segments;
              tells = tells w.tells.0 w.tells.1;
              here = acknowledges w.tells.0 w.known w.segments w.tells.1 w.here w.goes_on;
              list = list;
              goes_on = stays view;
              many = refl;
              decodes = subst (λ (k : Config). Decodes view k segments (docs_in view segments)) (sym same) decodes;
              within = omega arith;
              just = all_of_it;
            };
        untouched = several (made (length history) (length view)) (quiet (state_of disk new.disk));
      }
