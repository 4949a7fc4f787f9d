-- Deeds in order, carried out by the core one after the other.
use Rattle.std.proofs.Common.{◌≡◌, inl, inr, ⊎_elim, ℕ, zero, suc, ◌+◌, ◌-◌, ◌≤◌, ◌<◌, Bool, true, List, [], ◌∷◌, ◌++◌, length, map, take, Option, Some, None, slice_get, refl, sym, ap, ◌∙◌, subst, arith, append_assoc, append-nil, length-append, length-take-le}
use Rattle.std.specs.Prelude.{◌&&◌, drop, filter, filter_map, nat_le, unwrap_or}
use Rattle.std.specs.List.{cons_option, list_all}
use Rattle.std.specs.Option.{option_map_or}
use Rattle.std.proofs.lemmas.Bool.{and_parts, leb-true}
use Rattle.std.proofs.lemmas.List.{length-map, map-append, nil_from_length, take-append-drop, take_at}
use Rattle.facet_names.specs.Labels.{IsLabelList, prefixes, stands}
use Rattle.facet_names.proofs.LabelLists.{front_labels}
use Rattle.facet_model.specs.Documents.{Doc}
use Rattle.facet_model.specs.Histories.{Change, Operation, brought, covers, doc_of, is_pair, knows, labels_stand, never_falls}
use Rattle.facet_model.proofs.Changes.{weaker_of}
use Rattle.facet_model.proofs.Fronts.{own_stands, weaker}
use Rattle.facet_output.specs.Effects.{changes, publishes, persists, says_placed, says_number}
use Rattle.facet_output.specs.Seen.{Entries}
use Rattle.facet_output.proofs.Among.{In, of_filter}
use Rattle.core_runs.specs.Moves.{Move, appends, commits, refreshes}
use Rattle.core_runs.proofs.Calm.{Leads, Stored, calm, change_then, commit_then, committed, enter_then, entering, leads_none, refresh_then}
use Rattle.core_runs.proofs.Deeds.{Act, Deed, Lex, before, change_at, commit_number, commit_of, is_change, is_publish, lex_is, point, publish_of, told}
use Rattle.core_runs.proofs.Gather.{each_at, pub_at}
use Rattle.core_runs.proofs.Sorting.{Rises}

abbrev Path : Type 0
Path = List (List ℕ)

abbrev pub paths_in : Entries Path → List Path
paths_in es = map (λ (e : ℕ × Path). e.1) es

abbrev pub operations_in : Entries Change → List Operation
operations_in es = map (λ (e : ℕ × Change). record { session = e.0; change = e.1 }) es

abbrev pub pairs_in : Entries (ℕ × ℕ) → List (ℕ × ℕ)
pairs_in es = map (λ (e : ℕ × (ℕ × ℕ)). e.1) es

module _ (labels : Entries Path) (history : Entries Change) (published : Entries (ℕ × ℕ)) where
  -- how many labels there are at the next publication, or at the end
  abbrev pub limit : Entries (ℕ × ℕ) → ℕ
  limit [] = length labels
  limit (e ∷ es) = e.1.1

  -- So far these were entered, placed and published, and the rest comes; these deeds are left, and the labels are those
  -- of the next publication.
  pub record Left (front rest : Entries Path) (placed more : Entries Change) (out later : Entries (ℕ × ℕ)) (k : ℕ) (acts : List Act) : Type 0 where
    pub all_labels : front ++ rest ≡ labels
    pub all_operations : placed ++ more ≡ history
    pub all_published : out ++ later ≡ published
    pub some : 1 ≤ length front
    pub many : length front ≡ limit later
    pub rises : Rises before acts
    pub operations : filter is_change acts ≡ each_at change_at (length placed) more
    pub publishes : filter is_publish acts ≡ each_at pub_at k later
    pub low : (a : Act) → In a acts → length placed + length placed ≤ (point a.1).0 + 1
    pub high : (a : Act) → In a acts → (point a.1).0 ≤ length history + length history
    pub labels_rise : never_falls (map (λ p. p.1) (pairs_in later)) ≡ true
    pub known : (o : ℕ × Change) → In o more → option_map_or (knows (paths_in labels)) (doc_of o.1) true ≡ true

  -- they are carried out by moves, and these commits are acknowledged
  pub record Walked (front rest : Entries Path) (placed : Entries Change) (out : Entries (ℕ × ℕ)) (d : Stored) (acts : List Act) : Type 0 where
    pub moves : List Move
    pub stored : Stored
    pub more : List (ℕ × ℕ)
    pub leads : Leads (calm (paths_in front) (operations_in placed) (pairs_in out) d) (calm (paths_in labels) (operations_in history) (pairs_in published) stored) moves rest (map told acts)
    pub acknowledged : stored.acknowledged ≡ d.acknowledged ++ more
    pub numbers : map (λ p. p.0) more ≡ filter_map (λ (a : Act). commit_number a.1) acts

  -- whatever is left of these
  abbrev Walks : List Act → Type 0
  Walks acts = (front rest : Entries Path) (placed more : Entries Change) (out later : Entries (ℕ × ℕ)) (k : ℕ) (d : Stored)
      → Left front rest placed more out later k acts → Walked front rest placed out d acts

  -- a publication or a commit of n operations comes when there are so many
  now : (n k : ℕ) (s : ℕ) (deed : Deed) (acts : List Act) (placed more : Entries Change) → point deed ≡ (n + n, k) → Rises before ((s, deed) ∷ acts) → filter is_change acts ≡ each_at change_at (length placed) more
      → length placed + length placed ≤ (point deed).0 + 1 → (point deed).0 ≤ length history + length history → placed ++ more ≡ history → n ≡ length placed
  now n k s deed acts placed [] at rises entries low high whole =
      let e = ap (λ (p : ℕ × ℕ). p.0) at in let size : length history ≡ length placed = sym (ap length whole) ∙ ap length (append-nil placed) in omega arith
  now n k s deed acts placed (o ∷ more) at rises entries low high whole =
      let e = ap (λ (p : ℕ × ℕ). p.0) at in
      let a : Act = (o.0, change_at (length placed) o.1) in
      let there : In a acts = (of_filter is_change acts a (subst (In a) (sym entries) (inl refl))).0 in
      let l : Lex (point deed) (length placed + length placed + 1, 0) = lex_is (point deed) (length placed + length placed + 1, 0) (rises.0 a there) in
      ⊎_elim (λ lt. omega arith) (λ same. let f = same.0 in omega arith) l

  module _ (is : IsLabelList (paths_in labels)) (good : list_all (is_pair (paths_in labels) (operations_in history)) (pairs_in published) ≡ true) where
    -- the labels so far are a label list
    fronts_list : (front rest : Entries Path) → front ++ rest ≡ labels → 1 ≤ length front → IsLabelList (paths_in front)
    fronts_list front rest whole some =
        let e : paths_in labels ≡ paths_in front ++ paths_in rest = ap paths_in (sym whole) ∙ map-append (λ (e : ℕ × Path). e.1) front rest in
        let f : take (length (paths_in front)) (paths_in labels) ≡ paths_in front = ap (take (length (paths_in front))) e ∙ take_at (paths_in front) (paths_in rest) (length (paths_in front)) refl in
        let s = length-map front (λ (e : ℕ × Path). e.1) in
        let t : length (paths_in labels) ≡ length (paths_in front) + length (paths_in rest) = ap length e ∙ length-append (paths_in front) (paths_in rest) in
        subst IsLabelList f (front_labels (paths_in labels) is (length (paths_in front)) (omega arith) (omega arith))

    its_labels : (ps : List Path) (change : Change) → IsLabelList ps → option_map_or (knows ps) (doc_of change) true ≡ true → labels_stand ps change ≡ true
    its_labels ps change list all = weaker_of (knows ps) (λ (doc : Doc). list_all (stands ps) doc.labels)
        (λ (doc : Doc) h. weaker (λ label. list_all (stands ps) (prefixes label)) (stands ps) (own_stands ps list) doc.labels h) (doc_of change) all

    -- a test of all documents that the first operations brought, and so of the document of one among them
    one_of : (test : Doc → Bool) (n : ℕ) (placed : Entries Change) (o : ℕ × Change) (more : Entries Change) → length placed < n → list_all test (brought (take n (operations_in (placed ++ o ∷ more)))) ≡ true → option_map_or test (doc_of o.1) true ≡ true
    one_of test zero placed o more lt all = absurd (omega arith)
    one_of test (suc n) [] o more lt all = first (doc_of o.1) (brought (take n (operations_in more))) all
      where
        first : (d : Option Doc) (ds : List Doc) → list_all test (cons_option d ds) ≡ true → option_map_or test d true ≡ true
        first None ds h = refl
        first (Some doc) ds h = (and_parts (test doc) (list_all test ds) h).0
    one_of test (suc n) (x ∷ placed) o more lt all = one_of test n placed o more (omega arith) (later (doc_of x.1) (brought (take n (operations_in (placed ++ o ∷ more)))) all)
      where
        later : (d : Option Doc) (ds : List Doc) → list_all test (cons_option d ds) ≡ true → list_all test ds ≡ true
        later None ds h = h
        later (Some doc) ds h = (and_parts (test doc) (list_all test ds) h).1

    pair_good : (out : Entries (ℕ × ℕ)) (e : ℕ × (ℕ × ℕ)) (later : Entries (ℕ × ℕ)) → list_all (is_pair (paths_in labels) (operations_in history)) (pairs_in (out ++ e ∷ later)) ≡ true → is_pair (paths_in labels) (operations_in history) e.1 ≡ true
    pair_good [] e later all = (and_parts (is_pair (paths_in labels) (operations_in history) e.1) _ all).0
    pair_good (x ∷ out) e later all = pair_good out e later (and_parts (is_pair (paths_in labels) (operations_in history) x.1) _ all).1

    -- ---- a change

    -- its labels are among those so far
    stands_so_far : (front rest : Entries Path) (placed more : Entries Change) (o : ℕ × Change) (out later : Entries (ℕ × ℕ)) (k : ℕ) (acts : List Act)
        → Left front rest placed (o ∷ more) out later k ((o.0, change_at (length placed) o.1) ∷ acts) → labels_stand (paths_in front) o.1 ≡ true
    stands_so_far front rest placed more o out [] k acts w =
        let sum = length-append front rest in
        let size = ap length w.all_labels in
        let many = w.many in
        let none : rest ≡ [] = nil_from_length rest (omega arith) in
        let whole : front ≡ labels = sym (append-nil front) ∙ ap (λ l. front ++ l) (sym none) ∙ w.all_labels in
        let knows_it : option_map_or (knows (paths_in labels)) (doc_of o.1) true ≡ true = w.known o (inl refl) in
        its_labels (paths_in front) o.1 (fronts_list front rest w.all_labels w.some) (ap (λ l. option_map_or (knows (paths_in l)) (doc_of o.1) true) whole ∙ knows_it)
    stands_so_far front rest placed more o out (e ∷ later) k acts w =
        let a : Act = (e.0, publish_of e.1.0 k) in
        let there : In a acts = (of_filter is_publish acts a (subst (In a) (sym w.publishes) (inl refl))).0 in
        let l : Lex (length placed + length placed + 1, 0) (e.1.0 + e.1.0, k) = lex_is (length placed + length placed + 1, 0) (e.1.0 + e.1.0, k) (w.rises.0 a there) in
        let lt : length placed < e.1.0 = ⊎_elim (λ lt. omega arith) (λ same. let f = same.0 in absurd (omega arith)) l in
        let pair = pair_good out e later (ap (λ p. list_all (is_pair (paths_in labels) (operations_in history)) (pairs_in p)) w.all_published ∙ good) in
        let covered : covers (paths_in labels) e.1.1 (operations_in history) e.1.0 ≡ true = (and_parts (nat_le e.1.0 (length (operations_in history)) && nat_le e.1.1 (length (paths_in labels))) _ pair).1 in
        let so_far : take e.1.1 (paths_in labels) ≡ paths_in front =
        ap (λ l. take e.1.1 (paths_in l)) (sym w.all_labels) ∙ ap (take e.1.1) (map-append (λ (e : ℕ × Path). e.1) front rest)
        ∙ take_at (paths_in front) (paths_in rest) e.1.1 (length-map front (λ (e : ℕ × Path). e.1) ∙ w.many) in
        let knows_it : option_map_or (knows (take e.1.1 (paths_in labels))) (doc_of o.1) true ≡ true = one_of (knows (take e.1.1 (paths_in labels))) e.1.0 placed o more lt
        (ap (λ h. list_all (knows (take e.1.1 (paths_in labels))) (brought (take e.1.0 (operations_in h)))) w.all_operations ∙ covered) in
        its_labels (paths_in front) o.1 (fronts_list front rest w.all_labels w.some) (ap (λ l. option_map_or (knows l) (doc_of o.1) true) (sym so_far) ∙ knows_it)

    change_next : (front rest : Entries Path) (placed more : Entries Change) (o : ℕ × Change) (out later : Entries (ℕ × ℕ)) (k : ℕ) (d : Stored) (acts : List Act) → Walks acts
        → Left front rest placed (o ∷ more) out later k ((o.0, change_at (length placed) o.1) ∷ acts) → Walked front rest placed out d ((o.0, change_at (length placed) o.1) ∷ acts)
    change_next front rest placed more o out later k d acts walks w =
        let size : length (placed ++ o ∷ []) ≡ length placed + 1 = length-append placed (o ∷ []) in
        let left : Left front rest (placed ++ o ∷ []) more out later k acts = record {
          all_labels = w.all_labels;
          all_operations = append_assoc placed (o ∷ []) more ∙ w.all_operations;
          all_published = w.all_published;
          some = w.some;
          many = w.many;
          rises = w.rises.1;
          operations = ap (λ (l : List Act). drop 1 l) w.operations ∙ ap (λ n. each_at change_at n more) (sym size);
          publishes = w.publishes;
          low = λ a there. let l = lex_is (length placed + length placed + 1, 0) (point a.1) (w.rises.0 a there) in ⊎_elim (λ lt. omega arith) (λ same. let f = same.0 in omega arith) l;
          high = λ a there. w.high a (inr there);
          labels_rise = w.labels_rise;
          known = λ x there. w.known x (inr there);
        } in
        let r = walks front rest (placed ++ o ∷ []) more out later k d left in
        let after : operations_in (placed ++ o ∷ []) ≡ operations_in placed ++ (record { session = o.0; change = o.1 }) ∷ [] = map-append (λ (e : ℕ × Change). record { session = e.0; change = e.1 }) placed (o ∷ []) in
        let goal = calm (paths_in labels) (operations_in history) (pairs_in published) r.stored in
        let leads = subst (λ (h : List Operation). Leads (calm (paths_in front) h (pairs_in out) d) goal r.moves rest (map told acts)) after r.leads in
        let had : length (operations_in placed) ≡ length placed = length-map placed (λ (e : ℕ × Change). record { session = e.0; change = e.1 }) in
        let all = change_then (paths_in front) (operations_in placed) (pairs_in out) d goal r.moves rest (map told acts) o.0 o.1 (stands_so_far front rest placed more o out later k acts w) leads in
        record {
          moves = appends o.0 o.1 ∷ r.moves;
          stored = r.stored;
          more = r.more;
          leads = subst (λ (n : ℕ). Leads (calm (paths_in front) (operations_in placed) (pairs_in out) d) goal (appends o.0 o.1 ∷ r.moves) rest ((o.0, (changes o.1, says_placed n)) ∷ map told acts)) had all;
          acknowledged = r.acknowledged;
          numbers = r.numbers;
        }

    -- ---- a publication

    -- after it there are no fewer labels at the next
    pub limit_after : (e : ℕ × (ℕ × ℕ)) (out later : Entries (ℕ × ℕ)) → out ++ e ∷ later ≡ published → never_falls (map (λ p. p.1) (pairs_in (e ∷ later))) ≡ true → (e.1.1 ≤ limit later) × (limit later ≤ length labels)
    limit_after e out [] whole rise =
        let pair = pair_good out e [] (ap (λ p. list_all (is_pair (paths_in labels) (operations_in history)) (pairs_in p)) whole ∙ good) in
        let le = leb-true e.1.1 (length (paths_in labels)) (and_parts (nat_le e.1.0 (length (operations_in history))) _ (and_parts (nat_le e.1.0 (length (operations_in history)) && nat_le e.1.1 (length (paths_in labels))) _ pair).0).1 in
        let s = length-map labels (λ (e : ℕ × Path). e.1) in (omega arith, omega arith)
    limit_after e out (x ∷ later) whole rise =
        let le = leb-true e.1.1 x.1.1 (and_parts (nat_le e.1.1 x.1.1) _ rise).0 in
        let pair = pair_good (out ++ e ∷ []) x later (ap (λ p. list_all (is_pair (paths_in labels) (operations_in history)) (pairs_in p)) (append_assoc out (e ∷ []) (x ∷ later) ∙ whole) ∙ good) in
        let le' = leb-true x.1.1 (length (paths_in labels)) (and_parts (nat_le x.1.0 (length (operations_in history))) _ (and_parts (nat_le x.1.0 (length (operations_in history)) && nat_le x.1.1 (length (paths_in labels))) _ pair).0).1 in
        let s = length-map labels (λ (e : ℕ × Path). e.1) in (le, omega arith)

    rise_tail : (n : ℕ) (ns : List ℕ) → never_falls (n ∷ ns) ≡ true → never_falls ns ≡ true
    rise_tail n [] rise = refl
    rise_tail n (m ∷ ns) rise = (and_parts (nat_le n m) (never_falls (m ∷ ns)) rise).1

    publish_next : (front rest : Entries Path) (placed more : Entries Change) (e : ℕ × (ℕ × ℕ)) (out later : Entries (ℕ × ℕ)) (k : ℕ) (d : Stored) (acts : List Act) → Walks acts
        → Left front rest placed more out (e ∷ later) k ((e.0, publish_of e.1.0 k) ∷ acts) → Walked front rest placed out d ((e.0, publish_of e.1.0 k) ∷ acts)
    publish_next front rest placed more e out later k d acts walks w =
        let n_is : e.1.0 ≡ length placed = now e.1.0 k e.0 (publish_of e.1.0 k) acts placed more refl w.rises w.operations (w.low (e.0, publish_of e.1.0 k) (inl refl)) (w.high (e.0, publish_of e.1.0 k) (inl refl)) w.all_operations in
        let step = limit_after e out later w.all_published w.labels_rise in
        let many = w.many in
        let from_here = step.0 in
        let to_there = step.1 in
        let j = limit later - length front in
        let next = take j rest in
        let left_over = drop j rest in
        let both : next ++ left_over ≡ rest = take-append-drop j rest in
        let all = ap length w.all_labels in
        let sum = length-append front rest in
        let size : length next ≡ j = length-take-le j rest (omega arith) in
        let longer : length (front ++ next) ≡ length front + length next = length-append front next in
        let left : Left (front ++ next) left_over placed more (out ++ e ∷ []) later (k + 1) acts = record {
          all_labels = append_assoc front next left_over ∙ ap (λ l. front ++ l) both ∙ w.all_labels;
          all_operations = w.all_operations;
          all_published = append_assoc out (e ∷ []) later ∙ w.all_published;
          some = (let s = w.some in omega arith);
          many = (let m : length (front ++ next) ≡ limit later = omega arith in m);
          rises = w.rises.1;
          operations = w.operations;
          publishes = ap (λ (l : List Act). drop 1 l) w.publishes;
          low = λ a there. w.low a (inr there);
          high = λ a there. w.high a (inr there);
          labels_rise = rise_tail e.1.1 (map (λ p. p.1) (pairs_in later)) w.labels_rise;
          known = w.known;
        } in
        let r = walks (front ++ next) left_over placed more (out ++ e ∷ []) later (k + 1) d left in
        let goal = calm (paths_in labels) (operations_in history) (pairs_in published) r.stored in
        let entered : paths_in (front ++ next) ≡ paths_in front ++ paths_in next = map-append (λ (e : ℕ × Path). e.1) front next in
        let had : length (operations_in placed) ≡ e.1.0 = length-map placed (λ (e : ℕ × Change). record { session = e.0; change = e.1 }) ∙ sym n_is in
        let paths : length (paths_in front) ≡ e.1.1 = length-map front (λ (e : ℕ × Path). e.1) ∙ w.many in
        let out_is : pairs_in (out ++ e ∷ []) ≡ pairs_in out ++ (length (operations_in placed), length (paths_in front)) ∷ [] =
        map-append (λ (e : ℕ × (ℕ × ℕ)). e.1) out (e ∷ []) ∙ (λ i. pairs_in out ++ (sym had i, sym paths i) ∷ []) in
        let leads = subst (λ (l : List Path). Leads (calm l (operations_in placed) (pairs_in out ++ (length (operations_in placed), length (paths_in front)) ∷ []) d) goal r.moves left_over (map told acts)) entered
        (subst (λ (p : List (ℕ × ℕ)). Leads (calm (paths_in (front ++ next)) (operations_in placed) p d) goal r.moves left_over (map told acts)) out_is r.leads) in
        let whole : paths_in labels ≡ paths_in front ++ (paths_in next ++ paths_in left_over) =
        ap paths_in (sym w.all_labels ∙ ap (λ l. front ++ l) (sym both)) ∙ map-append (λ (e : ℕ × Path). e.1) front (next ++ left_over)
        ∙ ap (λ l. paths_in front ++ l) (map-append (λ (e : ℕ × Path). e.1) next left_over) in
        let entering_them = enter_then (paths_in front) next (paths_in left_over) (operations_in placed) (pairs_in out ++ (length (operations_in placed), length (paths_in front)) ∷ []) d goal r.moves left_over (map told acts)
        (subst IsLabelList whole is) (let s = w.some in let t = length-map front (λ (e : ℕ × Path). e.1) in omega arith) leads in
        let moves = entering next ++ r.moves in
        let all_moves = refresh_then (paths_in front) (operations_in placed) (pairs_in out) d goal moves (next ++ left_over) (map told acts) e.0 entering_them in
        record {
          moves = refreshes e.0 ∷ moves;
          stored = r.stored;
          more = r.more;
          leads = subst (λ (l : Entries Path). Leads (calm (paths_in front) (operations_in placed) (pairs_in out) d) goal (refreshes e.0 ∷ moves) l ((e.0, (publishes, says_number e.1.0)) ∷ map told acts)) both
              (subst (λ (n : ℕ). Leads (calm (paths_in front) (operations_in placed) (pairs_in out) d) goal (refreshes e.0 ∷ moves) (next ++ left_over) ((e.0, (publishes, says_number n)) ∷ map told acts)) had all_moves);
          acknowledged = r.acknowledged;
          numbers = r.numbers;
        }

    -- ---- a commit

    commit_next : (front rest : Entries Path) (placed more : Entries Change) (out later : Entries (ℕ × ℕ)) (k : ℕ) (d : Stored) (acts : List Act) (session n seen : ℕ) → Walks acts
        → Left front rest placed more out later k ((session, commit_of n seen) ∷ acts) → Walked front rest placed out d ((session, commit_of n seen) ∷ acts)
    commit_next front rest placed more out later k d acts session n seen walks w =
        let n_is : n ≡ length placed = now n seen session (commit_of n seen) acts placed more refl w.rises w.operations (w.low (session, commit_of n seen) (inl refl)) (w.high (session, commit_of n seen) (inl refl)) w.all_operations in
        let left : Left front rest placed more out later k acts = record {
          all_labels = w.all_labels;
          all_operations = w.all_operations;
          all_published = w.all_published;
          some = w.some;
          many = w.many;
          rises = w.rises.1;
          operations = w.operations;
          publishes = w.publishes;
          low = λ a there. w.low a (inr there);
          high = λ a there. w.high a (inr there);
          labels_rise = w.labels_rise;
          known = w.known;
        } in
        let here : ℕ × ℕ = (length (operations_in placed), length (paths_in front)) in
        let r = walks front rest placed more out later k (committed (paths_in front) (operations_in placed) (pairs_in out) d) left in
        let goal = calm (paths_in labels) (operations_in history) (pairs_in published) r.stored in
        let had : length (operations_in placed) ≡ n = length-map placed (λ (e : ℕ × Change). record { session = e.0; change = e.1 }) ∙ sym n_is in
        let all_moves = commit_then (paths_in front) (operations_in placed) (pairs_in out) d goal r.moves rest (map told acts) session r.leads in
        record {
          moves = commits session ∷ r.moves;
          stored = r.stored;
          more = here ∷ r.more;
          leads = subst (λ (n : ℕ). Leads (calm (paths_in front) (operations_in placed) (pairs_in out) d) goal (commits session ∷ r.moves) rest ((session, (persists, says_number n)) ∷ map told acts)) had all_moves;
          acknowledged = r.acknowledged ∙ append_assoc d.acknowledged (here ∷ []) r.more;
          numbers = λ i. had i ∷ r.numbers i;
        }

    -- ---- all

    end_next : (front rest : Entries Path) (placed more : Entries Change) (out later : Entries (ℕ × ℕ)) (k : ℕ) (d : Stored) → Left front rest placed more out later k [] → Walked front rest placed out d []
    end_next front rest placed (o ∷ more) out later k d w = absurd (let e = w.operations in cc)
    end_next front rest placed [] out (e ∷ later) k d w = absurd (let e = w.publishes in cc)
    end_next front rest placed [] out [] k d w =
        let sum = length-append front rest in
        let size = ap length w.all_labels in
        let many = w.many in
        let none : rest ≡ [] = nil_from_length rest (omega arith) in
        let whole : front ≡ labels = sym (append-nil front) ∙ ap (λ l. front ++ l) (sym none) ∙ w.all_labels in
        let operations : placed ≡ history = sym (append-nil placed) ∙ w.all_operations in
        let pairs : out ≡ published = sym (append-nil out) ∙ w.all_published in
        record {
          moves = [];
          stored = d;
          more = [];
          leads = subst (λ (l : Entries Path). Leads (calm (paths_in front) (operations_in placed) (pairs_in out) d) (calm (paths_in labels) (operations_in history) (pairs_in published) d) [] l []) (sym none)
              (subst (λ (t : _). Leads (calm (paths_in front) (operations_in placed) (pairs_in out) d) t [] [] []) (λ i. calm (paths_in (whole i)) (operations_in (operations i)) (pairs_in (pairs i)) d) (leads_none (calm (paths_in front) (operations_in placed) (pairs_in out) d)));
          acknowledged = sym (append-nil d.acknowledged);
          numbers = refl;
        }

    first_of : (x y : Act) (xs ys : List Act) → x ∷ xs ≡ y ∷ ys → x ≡ y
    first_of x y xs ys e = let s : Some x ≡ Some y = ap (λ (l : List Act). slice_get l 0) e in ap (λ (o : Option Act). unwrap_or o x) s

    pub walk : (acts : List Act) → Walks acts
    walk [] front rest placed more out later k d w = end_next front rest placed more out later k d w
    walk ((s, change_at at change) ∷ acts) front rest placed [] out later k d w = absurd (let e = w.operations in cc)
    walk ((s, change_at at change) ∷ acts) front rest placed (o ∷ more) out later k d w =
        let is_it : (s, change_at at change) ≡ (o.0, change_at (length placed) o.1) = first_of (s, change_at at change) (o.0, change_at (length placed) o.1) (filter is_change acts) (each_at change_at (length placed + 1) more) w.operations in
        subst (λ (a : Act). Walked front rest placed out d (a ∷ acts)) (sym is_it)
        (change_next front rest placed more o out later k d acts (walk acts) (subst (λ (a : Act). Left front rest placed (o ∷ more) out later k (a ∷ acts)) is_it w))
    walk ((s, publish_of n j) ∷ acts) front rest placed more out [] k d w = absurd (let e = w.publishes in cc)
    walk ((s, publish_of n j) ∷ acts) front rest placed more out (e ∷ later) k d w =
        let is_it : (s, publish_of n j) ≡ (e.0, publish_of e.1.0 k) = first_of (s, publish_of n j) (e.0, publish_of e.1.0 k) (filter is_publish acts) (each_at pub_at (k + 1) later) w.publishes in
        subst (λ (a : Act). Walked front rest placed out d (a ∷ acts)) (sym is_it)
        (publish_next front rest placed more e out later k d acts (walk acts) (subst (λ (a : Act). Left front rest placed more out (e ∷ later) k (a ∷ acts)) is_it w))
    walk ((s, commit_of n seen) ∷ acts) front rest placed more out later k d w = commit_next front rest placed more out later k d acts s n seen (walk acts) w
