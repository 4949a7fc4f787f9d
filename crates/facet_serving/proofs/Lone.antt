-- What a session that runs alone has before each of its orders.
use Rattle.std.proofs.Common.{◌≡◌, ◌∙◌, inl, inr, ⊎_elim, ℕ, zero, suc, ◌+◌, ◌≤◌, ◌<◌, eqb, Bool, true, false, cond, List, [], ◌∷◌, ◌++◌, length, map, take, drop, Option, Some, None, slice_get, refl, sym, ap, subst, arith, length-append}
use Rattle.std.specs.Prelude.{filter, filter_map, flat_map, if◌then◌else◌, is_none, unwrap_or, nat_le, option_map, option_to_list}
use Rattle.std.specs.List.{list_all, enumerate_from, cons_option}
use Rattle.std.specs.Option.{option_map_or}
use Rattle.std.proofs.lemmas.Bool.{and_from, and_parts, eq-eqb, leb-true, le-leb}
use Rattle.std.proofs.lemmas.List.{length-map, take-append-drop}
use Rattle.std.proofs.lemmas.List.Elements.{filter_map-append}
use Rattle.std.proofs.lemmas.List.Folds.{list_all-append}
use mathlib.Core.List.{IsPrefix}
use Rattle.facet_names.specs.Labels.{prefixes}
use Rattle.facet_model.proofs.Fronts.{weaker}
use Rattle.facet_model.specs.Accepts.{Broken, first_broken}
use Rattle.facet_model.specs.Documents.{Doc}
use Rattle.facet_model.proofs.Changes.{all_brought}
use Rattle.facet_model.specs.Histories as histories
use Rattle.facet_model.specs.Histories.{Change, Operation, brought, doc_of, is_pair, knows}
use Rattle.facet_output.proofs.Among.{In, all_in, of_all, of_filter}
use Rattle.facet_output.proofs.Exact.{filter_all, refreshed_stood}
use Rattle.facet_output.proofs.Growing.{prefix_snoc, begins_fold}
use Rattle.facet_output.proofs.Lifting.{still_knows}
use Rattle.facet_output.specs.Answered.{Answered, is_of, of_session}
use Rattle.facet_output.specs.Effects.{Effect, effect, changes, holds, looks, merges, persists, publishes, releases, reason, Report, report, says_nothing, says_number, says_pair, says_placed, says_refused}
use Rattle.facet_output.specs.Held.{Held, after_effect, is_numbered}
use Rattle.facet_output.specs.OneSession.{AddLeaves, AreExact, AreExactLabels, ChangeLeaves, EffectLeaves, LeavesFirst, after_placing, is_resolved, room}
use Rattle.facet_output.specs.Output.{IsOutput, Opened, Published, opened_operations, opened_pair}
use Rattle.facet_output.specs.Replying.{IsAdded, IsChanged, IsResolved, IsRight, IsRightBy, RightReplies}
use Rattle.facet_output.specs.Reported.{placed_in, placed_operation, refreshed, refreshed_in, stood_in}
use Rattle.facet_replies.specs.Replies.{Refusal, Reply, placed, refused}
use Rattle.facet_words.specs.Answers.{with_labels}
use Rattle.facet_words.specs.Commands.{Settings, Command, Order}
use Rattle.facet_output.proofs.Served.{all_known}
use Rattle.chronicle.proofs.Prefixes.{prefix_self, prefix_trans, prefix_length, prefix_shorter}

-- the labels and the operations, how many of both the last refresh took, and the pairs that are held
pub record State : Type 0 where
  pub labels : List (List (List ℕ))
  pub operations : List Operation
  pub taken : ℕ
  pub taken_labels : ℕ
  pub held : Held

-- the operations, and behind them the one that was placed
abbrev pub with_placed : Option (ℕ × Operation) → List Operation → List Operation
with_placed None operations = operations
with_placed (Some p) operations = operations ++ p.1 ∷ []

-- what there is behind an order with this effect that was answered so and left these labels
abbrev pub after : State → ℕ → Effect → Option (ℕ × ℕ) → Reply → List (List (List ℕ)) → State
after s session e took reply next = record {
  labels = next;
  operations = with_placed (placed_in session e (report reply)) s.operations;
  taken = unwrap_or (refreshed_in e (report reply)) s.taken;
  taken_labels = if is_none (refreshed_in e (report reply)) then s.taken_labels else length s.labels;
  held = if is_numbered reply then after_effect e took s.held else s.held;
}

-- what there is before the first order, where this was opened
abbrev pub state_of : Opened → State
state_of opened = record { labels = opened.labels; operations = opened_operations opened; taken = length opened.docs; taken_labels = length opened.labels; held = [] }

-- the pair has no more operations than there are
abbrev pub is_in : ℕ → List ℕ × (ℕ × ℕ) → Bool
is_in n h = nat_le h.1.0 n

-- Where there is this state, the session was answered so, and at the end there are these labels and operations.
pub record Goes (settings : Settings) (labels : List (List (List ℕ))) (history : List Operation) (s : State) (answered : List Answered) : Type 0 where
  pub right : RightReplies settings labels history s.held answered
  pub exact : AreExact (length s.operations) s.taken answered
  pub exact_labels : AreExactLabels settings s.labels s.taken_labels answered labels
  pub begins : IsPrefix s.operations history
  pub rest : (k : ℕ) (o : Operation) → length s.operations ≤ k → slice_get history k ≡ Some o → (a : Answered) × In a answered × (placed_operation a ≡ Some (k, o))
  pub limit : length labels ≤ room settings s.labels
  pub rooted : 0 < length s.labels
  pub known : list_all (knows s.labels) (brought s.operations) ≡ true
  pub taken_in : s.taken ≤ length s.operations
  pub held_in : list_all (is_in (length s.operations)) s.held ≡ true

-- ---- labels that are left

with_label_begins : (labels : List (List (List ℕ))) (p : List (List ℕ)) (b : Bool) → IsPrefix labels (if b then labels else labels ++ p ∷ [])
with_label_begins labels p true = prefix_self labels
with_label_begins labels p false = (p ∷ [], refl)

module _ (settings : Settings) (labels : List (List (List ℕ))) where
  same_begins : (next : List (List (List ℕ))) → next ≡ labels → IsPrefix labels next
  same_begins next is = subst (λ (l : List (List (List ℕ))). IsPrefix labels l) (sym is) (prefix_self labels)

  first_begins : (doc : Doc) (reply : Reply) (next : List (List (List ℕ))) → LeavesFirst settings labels doc reply next → IsPrefix labels next
  first_begins doc reply next first =
      let all : List (List (List ℕ)) = with_labels labels doc in
      let cut : IsPrefix (take (length next) all) all = (drop (length next) all, take-append-drop (length next) all) in
      prefix_shorter labels next all (begins_fold (flat_map prefixes doc.labels) labels) (subst (λ (l : List (List (List ℕ))). IsPrefix l all) (sym first.first) cut) first.low

  add_begins : (doc : Doc) (reply : Reply) (next : List (List (List ℕ))) (o : Option Broken) → AddLeaves settings labels doc o reply next → IsPrefix labels next
  add_begins doc reply next (Some b) leaves = same_begins next leaves
  add_begins doc reply next None leaves = first_begins doc reply next leaves

  change_begins : (d : Option Doc) (reply : Reply) (next : List (List (List ℕ))) → ChangeLeaves settings labels d reply next → IsPrefix labels next
  change_begins None reply next leaves = same_begins next leaves
  change_begins (Some doc) reply next leaves = add_begins doc reply next (first_broken settings.config doc) leaves

  pub leaves_begin : (e : Effect) (reply : Reply) (next : List (List (List ℕ))) → EffectLeaves settings labels e reply next → IsPrefix labels next
  leaves_begin (changes change) reply next leaves = change_begins (doc_of change) reply next leaves
  leaves_begin publishes reply next leaves = same_begins next leaves
  leaves_begin (holds name) reply next leaves = same_begins next leaves
  leaves_begin (releases name) reply next leaves = same_begins next leaves
  leaves_begin persists reply next leaves = same_begins next leaves
  leaves_begin merges reply next leaves = same_begins next leaves
  leaves_begin (looks on) reply next leaves = same_begins next leaves

pub labels_begin : (settings : Settings) (labels : List (List (List ℕ))) (taken : ℕ) (answered : List Answered) (last : List (List (List ℕ))) → AreExactLabels settings labels taken answered last → IsPrefix labels last
labels_begin settings labels taken [] last exact = same_begins settings labels last exact
labels_begin settings labels taken (a ∷ later) last exact = prefix_trans labels exact.0 last (leaves_begin settings labels (effect a.order.command) a.reply exact.0 exact.1)
    (labels_begin settings exact.0 (if is_none (refreshed a) then taken else length labels) later last exact.3)

-- ---- an operation that was placed

-- a reply that reports a place has it, and is no refusal
place_said : (reply : Reply) (at k : ℕ) → report reply ≡ says_placed at → reply ≡ placed k → k ≡ at
place_said reply at k said is = ap place_of (sym (ap report is) ∙ said)
  where
    place_of : Report → ℕ
    place_of (says_placed n) = n
    place_of _ = 0

no_place : (reply : Reply) (at : ℕ) (why : Refusal) → report reply ≡ says_placed at → reply ≡ refused why → ⊥
no_place reply at why said is = let e : says_placed at ≡ says_refused (reason why) = sym said ∙ ap report is in cc

module _ (settings : Settings) (labels before next : List (List (List ℕ))) (history : List Operation) (held : Held) (session : ℕ) (took : Option (ℕ × ℕ)) (saw : Option ℕ) (reply : Reply) where
  -- it is the session's operation at its place, and the labels that were left know its document
  abbrev IsHere : ℕ × Operation → Type 0
  IsHere p = (slice_get history p.0 ≡ Some p.1) × (option_map_or (knows next) (doc_of p.1.change) true ≡ true)

  module _ (change : Change) (at : ℕ) (said : report reply ≡ says_placed at) where
    abbrev own : Operation
    own = record { session = session; change = change }

    its_place : (k : ℕ) → reply ≡ placed k → slice_get history k ≡ Some own → slice_get history at ≡ Some own
    its_place k is there = subst (λ (n : ℕ). slice_get history n ≡ Some own) (place_said reply at k said is) there

    is_resolved_here : (doc : Doc) (b : Bool) → IsResolved settings labels history session change saw b reply → LeavesFirst settings before doc reply next → (slice_get history at ≡ Some own) × (knows next doc ≡ true)
    is_resolved_here doc false r leaves = absurd (no_place reply at _ said r.1)
    is_resolved_here doc true r leaves = ⊎_elim
        (λ p. (its_place p.0 p.3 p.1, subst (λ (l : List (List (List ℕ))). knows l doc ≡ true) (sym (leaves.whole (ap is_resolved p.3))) (all_known before doc)))
        (λ n. absurd (no_place reply at _ said n.4)) r

    is_added_here : (doc : Doc) (o : Option Broken) → IsAdded settings labels history session change saw doc o reply → AddLeaves settings before doc o reply next → (slice_get history at ≡ Some own) × (knows next doc ≡ true)
    is_added_here doc (Some b) right leaves = absurd (no_place reply at _ said right)
    is_added_here doc None right leaves = is_resolved_here doc (knows labels doc) right leaves

    is_changed_here : (d : Option Doc) → IsChanged settings labels history session change saw d reply → ChangeLeaves settings before d reply next → (slice_get history at ≡ Some own) × (option_map_or (knows next) d true ≡ true)
    is_changed_here None right leaves = (its_place right.0 right.2 right.1, refl)
    is_changed_here (Some doc) right leaves = is_added_here doc (first_broken settings.config doc) right leaves

  of_change : (change : Change) (said : Report) → report reply ≡ said → (p : ℕ × Operation) → placed_in session (changes change) said ≡ Some p
      → IsChanged settings labels history session change saw (doc_of change) reply → ChangeLeaves settings before (doc_of change) reply next → IsHere p
  of_change change (says_placed at) said p e right leaves =
      let same : (at, record { session = session; change = change }) ≡ p = ap (λ (o : Option (ℕ × Operation)). unwrap_or o p) e in
      subst IsHere same (is_changed_here change at said (doc_of change) right leaves)
  of_change change (says_number n) said p e right leaves = absurd cc
  of_change change (says_pair n labels) said p e right leaves = absurd cc
  of_change change says_nothing said p e right leaves = absurd cc
  of_change change (says_refused why) said p e right leaves = absurd cc

  placed_here : (e : Effect) (command : Command) (p : ℕ × Operation) → placed_in session e (report reply) ≡ Some p → IsRightBy settings labels history held session e command took saw reply → EffectLeaves settings before e reply next → IsHere p
  placed_here (changes change) command p e right leaves = of_change change (report reply) refl p e right leaves
  placed_here publishes command p e right leaves = absurd cc
  placed_here (holds name) command p e right leaves = absurd cc
  placed_here (releases name) command p e right leaves = absurd cc
  placed_here persists command p e right leaves = absurd cc
  placed_here merges command p e right leaves = absurd cc
  placed_here (looks on) command p e right leaves = absurd cc

-- it stood at its place
placed_stood : (session : ℕ) (e : Effect) (saw : Option ℕ) (said : Report) (p : ℕ × Operation) → placed_in session e said ≡ Some p → stood_in e saw said ≡ Some p.0
placed_stood session (changes change) saw (says_placed at) p e = ap (λ (o : Option (ℕ × Operation)). option_map (λ (q : ℕ × Operation). q.0) o) e
placed_stood session (changes change) saw (says_number n) p e = absurd cc
placed_stood session (changes change) saw (says_pair n labels) p e = absurd cc
placed_stood session (changes change) saw says_nothing p e = absurd cc
placed_stood session (changes change) saw (says_refused why) p e = absurd cc
placed_stood session publishes saw said p e = absurd cc
placed_stood session (holds name) saw said p e = absurd cc
placed_stood session (releases name) saw said p e = absurd cc
placed_stood session persists saw said p e = absurd cc
placed_stood session merges saw said p e = absurd cc
placed_stood session (looks on) saw said p e = absurd cc

length_placed : (o : Option (ℕ × Operation)) (operations : List Operation) → length (with_placed o operations) ≡ after_placing (length operations) o
length_placed None operations = refl
length_placed (Some p) operations = length-append operations (p.1 ∷ [])

more_placed : (o : Option (ℕ × Operation)) (operations : List Operation) → length operations ≤ length (with_placed o operations)
more_placed None operations = omega arith
more_placed (Some p) operations = let e = length-append operations (p.1 ∷ []) in omega arith

-- ---- held pairs

held_more : (n m : ℕ) (held : Held) → n ≤ m → list_all (is_in n) held ≡ true → list_all (is_in m) held ≡ true
held_more n m held le all = weaker (is_in n) (is_in m) (λ h is. let l = leb-true h.1.0 n is in le-leb h.1.0 m (omega arith)) held all

held_filtered : (p q : List ℕ × (ℕ × ℕ) → Bool) (held : Held) → list_all p held ≡ true → list_all p (filter q held) ≡ true
held_filtered p q held all = all_in p (filter q held) (λ h there. of_all p held h all (of_filter q held h there).0)

held_with : (n : ℕ) (name : List ℕ) (took : Option (ℕ × ℕ)) (held : Held) → ((pair : ℕ × ℕ) → took ≡ Some pair → pair.0 ≤ n) → list_all (is_in n) held ≡ true
    → list_all (is_in n) (held ++ option_to_list (option_map (λ pair. (name, pair)) took)) ≡ true
held_with n name None held taken all = list_all-append (is_in n) held [] ∙ and_from (list_all (is_in n) held) true all refl
held_with n name (Some pair) held taken all = list_all-append (is_in n) held ((name, pair) ∷ [])
    ∙ and_from (list_all (is_in n) held) (list_all (is_in n) ((name, pair) ∷ [])) all (and_from (nat_le pair.0 n) true (le-leb pair.0 n (taken pair refl)) refl)

held_by_effect : (n : ℕ) (e : Effect) (took : Option (ℕ × ℕ)) (held : Held) → ((pair : ℕ × ℕ) → took ≡ Some pair → pair.0 ≤ n) → list_all (is_in n) held ≡ true → list_all (is_in n) (after_effect e took held) ≡ true
held_by_effect n (holds name) took held taken all = held_with n name took held taken all
held_by_effect n (releases name) took held taken all = held_filtered (is_in n) _ held all
held_by_effect n (changes change) took held taken all = all
held_by_effect n publishes took held taken all = all
held_by_effect n persists took held taken all = all
held_by_effect n merges took held taken all = all
held_by_effect n (looks on) took held taken all = all

held_behind : (n : ℕ) (b : Bool) (e : Effect) (took : Option (ℕ × ℕ)) (held : Held) → ((pair : ℕ × ℕ) → took ≡ Some pair → pair.0 ≤ n) → list_all (is_in n) held ≡ true
    → list_all (is_in n) (if b then after_effect e took held else held) ≡ true
held_behind n true e took held taken all = held_by_effect n e took held taken all
held_behind n false e took held taken all = all

-- ---- one order

module _ (settings : Settings) (labels : List (List (List ℕ))) (history : List Operation) (s : State) (a : Answered) (later : List Answered) (g : Goes settings labels history s (a ∷ later))
    (right : IsRight settings labels history s.held a.order.session a.order.command a.took a.saw a.reply) where
  abbrev next : List (List (List ℕ))
  next = g.exact_labels.0

  abbrev does : Effect
  does = effect a.order.command

  abbrev here : Option (ℕ × Operation)
  here = placed_operation a

  grows : IsPrefix s.labels next
  grows = leaves_begin settings s.labels does a.reply next g.exact_labels.1

  is_here : (p : ℕ × Operation) → here ≡ Some p → (p.0 ≡ length s.operations) × (slice_get history p.0 ≡ Some p.1) × (option_map_or (knows next) (doc_of p.1.change) true ≡ true)
  is_here p is =
      let r = placed_here settings labels s.labels next history s.held a.order.session a.took a.saw a.reply does a.order.command p is right g.exact_labels.1 in
      (g.exact.0 p.0 (placed_stood a.order.session does a.saw (report a.reply) p is), r.0, r.1)

  begins_next : (o : Option (ℕ × Operation)) → here ≡ o → IsPrefix (with_placed o s.operations) history
  begins_next None e = g.begins
  begins_next (Some p) e = let r = is_here p e in prefix_snoc s.operations history p.1 g.begins (subst (λ (k : ℕ). slice_get history k ≡ Some p.1) r.0 r.1)

  rest_next : (q : Option (ℕ × Operation)) → here ≡ q → (k : ℕ) (o : Operation) → length (with_placed q s.operations) ≤ k → slice_get history k ≡ Some o → (b : Answered) × In b later × (placed_operation b ≡ Some (k, o))
  rest_next q e k o le at =
      let more = more_placed q s.operations in
      let r = g.rest k o (omega arith) at in
      ⊎_elim (λ same. absurd (not_here (sym e ∙ ap placed_operation (sym same) ∙ r.2))) (λ there. (r.0, there, r.2)) r.1
    where
      not_here : q ≡ Some (k, o) → ⊥
      not_here is =
          let at_end = (is_here (k, o) (e ∙ is)).0 in
          let size = ap (λ (x : Option (ℕ × Operation)). length (with_placed x s.operations)) is ∙ length_placed (Some (k, o)) s.operations in
          omega (arith, at_end, size, le)

  known_old : list_all (knows next) (brought s.operations) ≡ true
  known_old = weaker (knows s.labels) (knows next) (λ doc knows_it. still_knows s.labels next doc grows knows_it) (brought s.operations) g.known

  known_next : (o : Option (ℕ × Operation)) → here ≡ o → list_all (knows next) (brought (with_placed o s.operations)) ≡ true
  known_next None is = known_old
  known_next (Some p) is =
      let last : list_all (knows next) (brought (p.1 ∷ [])) ≡ true = all_brought (knows next) (p.1 ∷ []) ∙ and_from (option_map_or (knows next) (doc_of p.1.change) true) true (is_here p is).2 refl in
      ap (list_all (knows next)) (filter_map-append (λ (o : Operation). doc_of o.change) s.operations (p.1 ∷ []))
      ∙ list_all-append (knows next) (brought s.operations) (brought (p.1 ∷ [])) ∙ and_from (list_all (knows next) (brought s.operations)) (list_all (knows next) (brought (p.1 ∷ []))) known_old last

  taken_next : (o : Option ℕ) → refreshed a ≡ o → unwrap_or o s.taken ≤ length (with_placed here s.operations)
  taken_next None e = let more = more_placed here s.operations in let t = g.taken_in in omega arith
  taken_next (Some n) e = let more = more_placed here s.operations in let is = g.exact.0 n (refreshed_stood a n e) in omega arith

  pub goes_on : Goes settings labels history (after s a.order.session does a.took a.reply next) later
  goes_on = record {
    right = g.right.1;
    exact = subst (λ (n : ℕ). AreExact n (unwrap_or (refreshed a) s.taken) later) (sym (length_placed here s.operations)) g.exact.2;
    exact_labels = g.exact_labels.3;
    begins = begins_next here refl;
    rest = rest_next here refl;
    limit = (let l = g.limit in let m = prefix_length s.labels next grows in omega arith);
    rooted = (let l = g.rooted in let m = prefix_length s.labels next grows in omega arith);
    known = known_next here refl;
    taken_in = taken_next (refreshed a) refl;
    held_in = held_behind (length (with_placed here s.operations)) (is_numbered a.reply) does a.took s.held
        (λ pair e. let is = g.exact.1 pair e in let t = g.taken_in in let more = more_placed here s.operations in omega arith)
        (held_more (length s.operations) (length (with_placed here s.operations)) s.held (more_placed here s.operations) g.held_in);
  }

-- ---- what there is at first

in_numbered : (n i : ℕ) (xs : List Operation) (x : Operation) → slice_get xs i ≡ Some x → In (n + i, x) (enumerate_from n xs)
in_numbered n i [] x at = absurd cc
in_numbered n zero (y ∷ xs) x at = let same : y ≡ x = ap (λ (o : Option Operation). unwrap_or o y) at in inl (λ j. ((let e : n + 0 ≡ n = omega arith in e) j, sym same j))
in_numbered n (suc i) (y ∷ xs) x at = inr (subst (λ (k : ℕ). In (k, x) (enumerate_from (n + 1) xs)) (let e : n + 1 + i ≡ n + suc i = omega arith in e) (in_numbered (n + 1) i xs x at))

in_dropped : (d i : ℕ) (xs : List Operation) (x : Operation) → slice_get xs (d + i) ≡ Some x → slice_get (drop d xs) i ≡ Some x
in_dropped zero i xs x at = subst (λ (k : ℕ). slice_get xs k ≡ Some x) (let e : 0 + i ≡ i = omega arith in e) at
in_dropped (suc d) i [] x at = absurd cc
in_dropped (suc d) i (y ∷ xs) x at = in_dropped d i xs x (subst (λ (k : ℕ). slice_get (y ∷ xs) k ≡ Some x) (let e : suc d + i ≡ suc (d + i) = omega arith in e) at)

beyond : (d k : ℕ) → d ≤ k → (i : ℕ) × (k ≡ d + i)
beyond zero k le = (k, omega arith)
beyond (suc d) zero le = absurd (omega arith)
beyond (suc d) (suc k) le = let r = beyond d k (omega arith) in let e = r.1 in (r.0, omega arith)

pub of_filter_map : {A B : Type 0} (f : A → Option B) (xs : List A) (y : B) → In y (filter_map f xs) → (x : A) × In x xs × (f x ≡ Some y)
of_filter_map f [] y there = absurd there
of_filter_map {A} {B} f (x ∷ xs) y there = by (f x) refl (of_filter_map f xs y) there
  where
    by : (o : Option B) → f x ≡ o → (In y (filter_map f xs) → (z : A) × In z xs × (f z ≡ Some y)) → In y (cons_option o (filter_map f xs)) → (z : A) × In z (x ∷ xs) × (f z ≡ Some y)
    by None e rest there = let r = rest there in (r.0, inr r.1, r.2)
    by (Some b) e rest there = ⊎_elim (λ is. (x, inl refl, e ∙ ap Some (sym is))) (λ later. let r = rest later in (r.0, inr r.1, r.2)) there

pub in_filtered : {A : Type 0} (p : A → Bool) (xs : List A) (x : A) → In x xs → p x ≡ true → In x (filter p xs)
in_filtered p [] x there passes = there
in_filtered p (y ∷ ys) x there passes = ⊎_elim
    (λ is. let e : p y ≡ true = sym (ap p is) ∙ passes in rw e (inl is))
    (λ later. behind (p y) (in_filtered p ys x later passes)) there
  where
    behind : (b : Bool) → In x (filter p ys) → In x (cond b (y ∷ filter p ys) (filter p ys))
    behind true h = inr h
    behind false h = h

module _ (settings : Settings) (phases : List (List Order)) (opened : Opened) (labels : List (List (List ℕ))) (history : List Operation) (published : Published) (answered : List Answered)
    (o : IsOutput settings phases opened labels history published answered) where
  -- each operation behind the opened ones was placed by a change
  pub is_placed : (k : ℕ) (x : Operation) → length opened.docs ≤ k → slice_get history k ≡ Some x → (a : Answered) × In a (of_session x.session answered) × (placed_operation a ≡ Some (k, x))
  is_placed k x le at =
      let split = beyond (length opened.docs) k le in
      let i : ℕ = split.0 in
      let rest : List Operation = drop (length opened.docs) history in
      let there : slice_get rest i ≡ Some x = in_dropped (length opened.docs) i history x (subst (λ (j : ℕ). slice_get history j ≡ Some x) split.1 at) in
      let among : In (k, x) (enumerate_from (length opened.docs) rest) = subst (λ (j : ℕ). In (j, x) (enumerate_from (length opened.docs) rest)) (sym split.1) (in_numbered (length opened.docs) i rest x there) in
      let own = in_filtered (λ (e : ℕ × Operation). eqb e.1.session x.session) (enumerate_from (length opened.docs) rest) (k, x) among (eq-eqb x.session x.session refl) in
      of_filter_map placed_operation (of_session x.session answered) (k, x) (subst (λ (l : List (ℕ × Operation)). In (k, x) l) (o.operations x.session) own)

  opened_size : length (opened_operations opened) ≡ length opened.docs
  opened_size = length-map opened.docs (λ doc. record { session = 0; change = histories.add doc })

  pair_there : (published : Published) → take 1 published ≡ (0, opened_pair opened) ∷ [] → list_all (is_pair labels history) (map (λ (e : ℕ × (ℕ × ℕ)). e.1) published) ≡ true → is_pair labels history (opened_pair opened) ≡ true
  pair_there [] first all = absurd cc
  pair_there (e ∷ more) first all =
      let same : e ≡ (0, opened_pair opened) = ap (λ (l : Published). unwrap_or (slice_get l 0) e) first in
      subst (λ (q : ℕ × (ℕ × ℕ)). is_pair labels history q.1 ≡ true) same (and_parts (is_pair labels history e.1) (list_all (is_pair labels history) (map (λ (e : ℕ × (ℕ × ℕ)). e.1) more)) all).0

  opened_known : list_all (knows opened.labels) (brought (opened_operations opened)) ≡ true
  opened_known =
      let pairs : List (ℕ × ℕ) = map (λ (e : ℕ × (ℕ × ℕ)). e.1) published in
      let all = (and_parts _ (list_all (is_pair labels history) pairs) o.publications).1 in
      let covered = (and_parts _ _ (pair_there published o.opened_pair_first all)).1 in
      subst (λ (h : List Operation). list_all (knows opened.labels) (brought h) ≡ true) o.opened_docs
      (subst (λ (l : List (List (List ℕ))). list_all (knows l) (brought (take (length opened.docs) history)) ≡ true) o.opened_labels covered)

  pub goes_first : (session : ℕ) → 0 < length opened.labels → list_all (is_of session) answered ≡ true → AreExact (length opened.docs) (length opened.docs) answered → AreExactLabels settings opened.labels (length opened.labels) answered labels
      → Goes settings labels history (state_of opened) answered
  goes_first session rooted one exact exact_labels = record {
    right = subst (λ (l : List Answered). RightReplies settings labels history [] l) (filter_all (is_of session) answered one) (o.replies session);
    exact = subst (λ (n : ℕ). AreExact n (length opened.docs) answered) (sym opened_size) exact;
    exact_labels = exact_labels;
    begins = (drop (length opened.docs) history, ap (λ (l : List Operation). l ++ drop (length opened.docs) history) (sym o.opened_docs) ∙ take-append-drop (length opened.docs) history);
    rest = λ k x le at. (let size = opened_size in let r = is_placed k x (omega arith) at in (r.0, (of_filter (is_of x.session) answered r.0 r.1).0, r.2));
    limit = o.label_limit;
    rooted = rooted;
    known = opened_known;
    taken_in = (let size = opened_size in omega arith);
    held_in = refl;
  }
