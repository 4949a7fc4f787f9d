-- A whole segment that was read.
use Rattle.std.proofs.Common.{◌≡◌, ℕ, zero, suc, ◌<◌, ◌-◌, false, eqb, cond, List, [], ◌++◌, length, take, drop, Result, Ok, Err, refl, ap, subst, ◌∙◌, append_assoc, arith, length-append}
use Rattle.std.specs.List.{flat_map}
use Rattle.std.proofs.lemmas.Bool.{eqb-true}
use Rattle.std.proofs.lemmas.List.{append-nil, take_at, drop_at, nil_from_length}
use Rattle.facet_codec.specs.Places.{Place, IsBytes}
use Rattle.facet_codec.specs.Faults.{fault_at}
use Rattle.facet_codec.specs.Spelling.{be32}
use Rattle.facet_codec.specs.Reading.{◌>>=◌, u32_at}
use Rattle.facet_codec.specs.Laws.{Takes}
use Rattle.facet_codec.proofs.Taking.{Takes-then, done_is, bind_ok, guard_ok, guard_yes, told_ok}
use Rattle.facet_codec.proofs.EachKind.{u32_spelled}
use Rattle.label_file.specs.LabelBytes.{label_bytes, labels_bytes}
use Rattle.label_file.specs.LabelReading.{codec, behind, head_at, labels_at, stored_labels}
use Rattle.label_file.specs.LabelLaws.{GoesOnToList, HasSoManyMore, HasSome, HasOneSpelling}
use Rattle.label_file.proofs.Read.{labels_read, labels_list, labels_taken}

behind_taken : (wanted : ℕ) (p q : Place) → IsBytes p.rest → behind wanted p ≡ Ok q → Takes p (be32 wanted) q
unfolding behind
behind_taken wanted p q fits e =
    let a = bind_ok (codec (u32_at p)) (λ number. cond (eqb number.0 wanted) (Ok number.1) (Err p.at)) q e in
    let g = guard_yes (eqb a.0.0 wanted) p.at a.0.1 q a.2 in
    let number = u32_spelled p a.0.0 a.0.1 fits (told_ok fault_at (u32_at p) a.0 a.1) in
    subst (λ n. Takes p (be32 n) q) (eqb-true a.0.0 wanted g.0) (subst (λ r. Takes p (be32 a.0.0) r) g.1 number.0)

-- a number that has to be this one, and what is read after it
front_taken : (wanted : ℕ) (tail : List ℕ) (p q : Place) (next : Place → Result Place ℕ) → IsBytes p.rest → (behind wanted p >>= next) ≡ Ok q → ((r : Place) → IsBytes r.rest → next r ≡ Ok q → Takes r tail q) → Takes p (be32 wanted ++ tail) q
front_taken wanted tail p q next fits e others =
    let a = bind_ok (behind wanted p) next q e in
    let first = behind_taken wanted p a.0 fits a.1 in
    Takes-then p (be32 wanted) a.0 tail q first (others a.0 first.bytes a.2)

count_taken : (count : ℕ) (p q : Place) → IsBytes p.rest → (behind count p >>= λ many. cond (eqb count 0) (Err p.at) (Ok many)) ≡ Ok q → Takes p (be32 count) q
count_taken count p q fits e =
    let a = bind_ok (behind count p) (λ many. cond (eqb count 0) (Err p.at) (Ok many)) q e in
    let g = guard_ok (eqb count 0) p.at (Ok a.0) q a.2 in
    subst (λ r. Takes p (be32 count) r) (done_is ℕ a.0 q g.1) (behind_taken count p a.0 fits a.1)

head_taken : (first count : ℕ) (p q : Place) → IsBytes p.rest → head_at first count p ≡ Ok q → Takes p (be32 0x46544158 ++ (be32 1 ++ (be32 first ++ be32 count))) q
unfolding head_at
head_taken first count p q fits e =
    front_taken 0x46544158 (be32 1 ++ (be32 first ++ be32 count)) p q _ fits e (λ magic fits1 e1.
    front_taken 1 (be32 first ++ be32 count) magic q _ fits1 e1 (λ version fits2 e2.
    front_taken first (be32 count) version q _ fits2 e2 (λ number fits3 e3. count_taken count number q fits3 e3)))

-- a segment that was read: where its labels begin and end, with nothing behind them
record IsWhole (known all : List (List (List ℕ))) (first count : ℕ) (bytes : List ℕ) : Type 0 where
  start : Place
  end : Place
  head : head_at first count (record { at = 0; rest = bytes }) ≡ Ok start
  labels : labels_at count known start ≡ Ok (all, end)
  nothing : end.rest ≡ []

whole : (known all : List (List (List ℕ))) (first count : ℕ) (bytes : List ℕ) → stored_labels known first count bytes ≡ Ok all → IsWhole known all first count bytes
unfolding stored_labels
whole known all first count bytes e =
    let a = bind_ok (head_at first count (record { at = 0; rest = bytes })) (λ start. labels_at count known start >>= λ labels. cond (eqb (length labels.1.rest) 0) (Ok labels.0) (Err labels.1.at)) all e in
    let b = bind_ok (labels_at count known a.0) (λ labels. cond (eqb (length labels.1.rest) 0) (Ok labels.0) (Err labels.1.at)) all a.2 in
    let g = guard_yes (eqb (length b.0.1.rest) 0) b.0.1.at b.0.0 all b.2 in
    record { start = a.0; end = b.0.1; head = a.1; labels = b.1 ∙ ap (λ l. Ok (l, b.0.1)) g.1; nothing = nil_from_length b.0.1.rest (eqb-true (length b.0.1.rest) 0 g.0) }

pub goes_on_to_list : GoesOnToList
goes_on_to_list known all first count bytes list e =
    let w = whole known all first count bytes e in
    let read = labels_read count known all w.start w.end w.labels in (
      labels_list count known all w.start w.end list w.labels,
      (omega (arith, ap length read.are, length-append known read.others), ap (λ l. take (length known) l) read.are ∙ take_at known read.others (length known) refl),
    )

pub has_so_many_more : HasSoManyMore
has_so_many_more known all first count bytes e =
    let w = whole known all first count bytes e in
    let read = labels_read count known all w.start w.end w.labels in
    omega (arith, ap length read.are, length-append known read.others, read.count)

-- ---- a segment has a label

positive : (count : ℕ) → eqb count 0 ≡ false → 0 < count
positive zero e = absurd (cc e)
positive (suc n) e = omega arith

head_some : (first count : ℕ) (p q : Place) → head_at first count p ≡ Ok q → 0 < count
unfolding head_at
head_some first count p q e =
    let magic = bind_ok (behind 0x46544158 p) _ q e in
    let version = bind_ok (behind 1 magic.0) _ q magic.2 in
    let number = bind_ok (behind first version.0) _ q version.2 in
    let many = bind_ok (behind count number.0) _ q number.2 in
    positive count (guard_ok (eqb count 0) number.0.at (Ok many.0) q many.2).0

pub has_some : HasSome
has_some known all first count bytes e =
    let w = whole known all first count bytes e in
    head_some first count (record { at = 0; rest = bytes }) w.start w.head

regrouped : (a b c d e : List ℕ) → (a ++ (b ++ (c ++ d))) ++ e ≡ a ++ (b ++ (c ++ (d ++ e)))
regrouped a b c d e = simp append_assoc

pub has_one_spelling : HasOneSpelling
unfolding labels_bytes
has_one_spelling known all count bytes fits list e =
    let w = whole known all (length known) count bytes e in
    let head = head_taken (length known) count (record { at = 0; rest = bytes }) w.start fits w.head in
    let read = labels_taken count known all w.start w.end (labels_list count known all w.start w.end list w.labels) head.bytes w.labels in
    let others : drop (length known) all ≡ read.others = ap (drop (length known)) read.are ∙ drop_at known read.others (length known) refl in
    let many : length all - length known ≡ count = omega (arith, ap length read.are, length-append known read.others, read.count) in
    let front : List ℕ = be32 0x46544158 ++ (be32 1 ++ (be32 (length known) ++ be32 count)) in
    let both = Takes-then (record { at = 0; rest = bytes }) front w.start (flat_map (label_bytes all) read.others) w.end head read.taken in
    let is : bytes ≡ front ++ flat_map (label_bytes all) read.others = both.rest ∙ ap (λ r. (front ++ flat_map (label_bytes all) read.others) ++ r) w.nothing ∙ append-nil (front ++ flat_map (label_bytes all) read.others) in
    rw (others, many) (is ∙ regrouped (be32 0x46544158) (be32 1) (be32 (length known)) (be32 count) (flat_map (label_bytes all) read.others))
