-- Reading term texts, byte by byte: what a text was joined of is read back from it, and from nothing else.
use Rattle.std.proofs.Common.{◌≡◌, ℕ, suc, ◌+◌, ◌*◌, ◌<◌, ◌≤◌, Bool, true, false, List, [], ◌∷◌, ◌++◌, length, Option, Some, None, refl, sym, ap, subst, ◌∙◌, append_assoc, arith, get_or, suc}
use Rattle.std.specs.Prelude.{take, ◌==◌, if◌then◌else◌, nat_eq, cond, ◌||◌}
use Rattle.std.proofs.lemmas.Bool.{or_parts, false≢true, eqb-true, eqb-false, eq-eqb, ne_eqb}
use Rattle.std.proofs.lemmas.List.{append-nil, length-append}
use Rattle.std.proofs.lemmas.Grind.{flat_map-append}
use Rattle.std.proofs.Math.Seq.{take-append_seam}
use Rattle.std.specs.List.{flat_map, list_any}
use Rattle.std.proofs.Common.{rules}
use Rattle.std.proofs.Math.Utf8.{encode}
use Rattle.std.proofs.lemmas.Str.{encode_ascii, inside_one, length-encode, len_utf8_bounds}
use Rattle.std.proofs.lemmas.Bool.Decides.{nat_tests}
use Rattle.facet_names.proofs.Parts.{part_of_path, no_fault}
use Rattle.facet_names.specs.Faults.{IsPath, part_fault, path_fault}
use Rattle.facet_names.specs.declared.fault.PathFault.{PathFault}
use Rattle.facet_names.specs.Terms.{is_special, escaped_byte, escaped, behind, HasSome, term_text, IsTermText}
use Rattle.std.proofs.lemmas.Option.{none-some, same_Some}
use Rattle.facet_names.proofs.LabelLists.{path_has_part}

-- the components of a text: whether an escape was just read, the components that are whole, and the one that is being read
unfoldable pub read : List ℕ → Bool → List (List ℕ) → List ℕ → Option (List (List ℕ))
read [] true whole part = None
read [] false whole part = Some (whole ++ part ∷ [])
read (b ∷ bs) true whole part = if is_special b then read bs false whole (part ++ b ∷ []) else None
read (b ∷ bs) false whole part = if b == 31 then read bs false (whole ++ part ∷ []) [] else (if b == 30 then read bs true whole part else read bs false whole (part ++ b ∷ []))

-- ---- what was joined is read back

pub read_plain : (b : ℕ) (bs : List ℕ) (whole : List (List ℕ)) (part : List ℕ) → is_special b ≡ false → read (b ∷ bs) false whole part ≡ read bs false whole (part ++ b ∷ [])
unfolding read
read_plain b bs whole part e = let both = or_parts (b == 30) (b == 31) e in rw (both.0, both.1) (refl {a = read bs false whole (part ++ b ∷ [])})

pub read_special : (b : ℕ) (bs : List ℕ) (whole : List (List ℕ)) (part : List ℕ) → is_special b ≡ true → read (b ∷ bs) true whole part ≡ read bs false whole (part ++ b ∷ [])
unfolding read
read_special b bs whole part e = rw e refl

pub read_byte : (b : ℕ) (bs : List ℕ) (whole : List (List ℕ)) (part : List ℕ) → read (escaped_byte b ++ bs) false whole part ≡ read bs false whole (part ++ b ∷ [])
unfolding read
read_byte b bs whole part = by (is_special b) refl
  where
    by : (t : Bool) → is_special b ≡ t → read (escaped_byte b ++ bs) false whole part ≡ read bs false whole (part ++ b ∷ [])
    by true e = rw e (read_special b bs whole part e)
    by false e = rw e (read_plain b bs whole part e)

read_part : (p rest : List ℕ) (whole : List (List ℕ)) (part : List ℕ) → read (escaped p ++ rest) false whole part ≡ read rest false whole (part ++ p)
unfolding escaped
read_part [] rest whole part = ap (read rest false whole) (sym (append-nil part))
read_part (b ∷ p) rest whole part =
    ap (λ bs. read bs false whole part) (append_assoc (escaped_byte b) (escaped p) rest)
    ∙ read_byte b (escaped p ++ rest) whole part
    ∙ read_part p rest whole (part ++ b ∷ [])
    ∙ ap (read rest false whole) (append_assoc part (b ∷ []) p)

read_joined : (p : List ℕ) (ps whole : List (List ℕ)) → read (term_text (p ∷ ps)) false whole [] ≡ Some (whole ++ p ∷ ps)
unfolding read term_text
read_joined p [] whole = ap (λ bs. read bs false whole []) (sym (append-nil (escaped p))) ∙ read_part p [] whole []
read_joined p (q ∷ qs) whole =
    read_part p (31 ∷ term_text (q ∷ qs)) whole []
    ∙ read_joined q qs (whole ++ p ∷ [])
    ∙ ap Some (append_assoc whole (p ∷ []) (q ∷ qs))

-- what a text was joined of is read back from it
pub read_back : (ps : List (List ℕ)) → 0 < length ps → read (term_text ps) false [] [] ≡ Some ps
read_back [] some = absurd (omega (arith, some))
read_back (p ∷ ps) some = read_joined p ps []

-- a text that can't be read was joined of nothing
pub none_joined : (text : List ℕ) → read text false [] [] ≡ None → (ps : List (List ℕ)) → ¬ (text ≡ term_text ps)
unfolding read term_text
none_joined text e [] is = none-some _ (sym e ∙ ap (λ bs. read bs false [] []) is)
none_joined text e (p ∷ ps) is = none-some _ (sym e ∙ ap (λ bs. read bs false [] []) is ∙ read_joined p ps [])

pub joined_once : (ps qs : List (List ℕ)) → 0 < length ps → 0 < length qs → term_text ps ≡ term_text qs → ps ≡ qs
joined_once ps qs some others same = same_Some _ _ (sym (read_back ps some) ∙ ap (λ bs. read bs false [] []) same ∙ read_back qs others)

-- ---- what is read was joined

abbrev front : List (List ℕ) → List ℕ
front ps = flat_map (λ p. escaped p ++ 31 ∷ []) ps

front_more : (ps : List (List ℕ)) (p rest : List ℕ) → front (ps ++ p ∷ []) ++ rest ≡ front ps ++ (escaped p ++ 31 ∷ rest)
front_more [] p rest = ap (λ bs. bs ++ rest) (append-nil (escaped p ++ 31 ∷ [])) ∙ append_assoc (escaped p) (31 ∷ []) rest
front_more (q ∷ ps) p rest =
    append_assoc (escaped q ++ 31 ∷ []) (front (ps ++ p ∷ [])) rest
    ∙ ap (λ bs. (escaped q ++ 31 ∷ []) ++ bs) (front_more ps p rest)
    ∙ sym (append_assoc (escaped q ++ 31 ∷ []) (front ps) (escaped p ++ 31 ∷ rest))

joined_last : (ps : List (List ℕ)) (p : List ℕ) → front ps ++ escaped p ≡ term_text (ps ++ p ∷ [])
unfolding term_text
joined_last [] p = refl
joined_last (q ∷ []) p = ap (λ bs. bs ++ escaped p) (append-nil (escaped q ++ 31 ∷ [])) ∙ append_assoc (escaped q) (31 ∷ []) (escaped p)
joined_last (q ∷ r ∷ ps) p =
    append_assoc (escaped q ++ 31 ∷ []) (front (r ∷ ps)) (escaped p)
    ∙ append_assoc (escaped q) (31 ∷ []) (front (r ∷ ps) ++ escaped p)
    ∙ ap (λ bs. escaped q ++ (31 ∷ bs)) (joined_last (r ∷ ps) p)

escaped_more : (part : List ℕ) (b : ℕ) (rest : List ℕ) → escaped (part ++ b ∷ []) ++ rest ≡ escaped part ++ (escaped_byte b ++ rest)
unfolding escaped
escaped_more [] b rest = ap (λ bs. bs ++ rest) (append-nil (escaped_byte b))
escaped_more (c ∷ part) b rest =
    append_assoc (escaped_byte c) (escaped (part ++ b ∷ [])) rest
    ∙ ap (λ bs. escaped_byte c ++ bs) (escaped_more part b rest)
    ∙ sym (append_assoc (escaped_byte c) (escaped part) (escaped_byte b ++ rest))

abbrev escape : Bool → List ℕ
escape t = if t then 30 ∷ [] else []

-- the text of what was read so far, and what follows it
abbrev whole_text : List ℕ → Bool → List (List ℕ) → List ℕ → List ℕ
whole_text bs after_escape whole part = front whole ++ (escaped part ++ (escape after_escape ++ bs))

pub record IsJoined (text : List ℕ) (ps : List (List ℕ)) : Type 0 where
  pub some : 0 < length ps
  pub is : text ≡ term_text ps

one_byte : (b : ℕ) (bs : List ℕ) (whole : List (List ℕ)) (part : List ℕ) (text : List ℕ) → text ≡ escaped_byte b ++ bs → front whole ++ (escaped part ++ text) ≡ whole_text bs false whole (part ++ b ∷ [])
one_byte b bs whole part text is = ap (λ t. front whole ++ t) (ap (λ t. escaped part ++ t) is ∙ sym (escaped_more part b bs))

pub read_is_joined : (bs : List ℕ) (after_escape : Bool) (whole : List (List ℕ)) (part : List ℕ) (ps : List (List ℕ)) → read bs after_escape whole part ≡ Some ps → IsJoined (whole_text bs after_escape whole part) ps
unfolding read escaped
read_is_joined [] true whole part ps e = absurd (none-some _ e)
read_is_joined [] false whole part ps e =
    subst (IsJoined (whole_text [] false whole part)) (same_Some _ _ e) (record {
      some = grind (arith, length-append);
      is = ap (λ bs. front whole ++ bs) (append-nil (escaped part)) ∙ joined_last whole part;
    })
read_is_joined (b ∷ bs) true whole part ps e = by (is_special b) refl (read_is_joined bs false whole (part ++ b ∷ []) ps) e
  where
    by : (t : Bool) → is_special b ≡ t → (read bs false whole (part ++ b ∷ []) ≡ Some ps → IsJoined (whole_text bs false whole (part ++ b ∷ [])) ps)
        → (if t then read bs false whole (part ++ b ∷ []) else None) ≡ Some ps → IsJoined (whole_text (b ∷ bs) true whole part) ps
    by true s again e = subst (λ t. IsJoined t ps) (sym (one_byte b bs whole part (30 ∷ b ∷ bs) (rw s refl))) (again e)
    by false s again e = absurd (none-some _ e)
read_is_joined (b ∷ bs) false whole part ps e =
    by (b == 31) (b == 30) refl refl (read_is_joined bs false (whole ++ part ∷ []) [] ps) (read_is_joined bs true whole part ps) (read_is_joined bs false whole (part ++ b ∷ []) ps) e
  where
    by : (s t : Bool) → (b == 31) ≡ s → (b == 30) ≡ t
        → (read bs false (whole ++ part ∷ []) [] ≡ Some ps → IsJoined (whole_text bs false (whole ++ part ∷ []) []) ps)
        → (read bs true whole part ≡ Some ps → IsJoined (whole_text bs true whole part) ps)
        → (read bs false whole (part ++ b ∷ []) ≡ Some ps → IsJoined (whole_text bs false whole (part ++ b ∷ [])) ps)
        → (if s then read bs false (whole ++ part ∷ []) [] else (if t then read bs true whole part else read bs false whole (part ++ b ∷ []))) ≡ Some ps
        → IsJoined (whole_text (b ∷ bs) false whole part) ps
    by true t s_is t_is cut escaping plain e =
        let byte : b ≡ 31 = grind (arith, nat_tests, s_is) in
        subst (λ t. IsJoined t ps) (front_more whole part bs ∙ ap (λ x. front whole ++ (escaped part ++ x ∷ bs)) (sym byte)) (cut e)
    by false true s_is t_is cut escaping plain e =
        let byte : b ≡ 30 = grind (arith, nat_tests, t_is) in
        subst (λ t. IsJoined t ps) (ap (λ x. front whole ++ (escaped part ++ x ∷ bs)) (sym byte)) (escaping e)
    by false false s_is t_is cut escaping plain e =
        subst (λ t. IsJoined t ps) (sym (one_byte b bs whole part (b ∷ bs) (rw (s_is, t_is) refl))) (plain e)

-- a text that can be read was joined of what is read
pub text_is_joined : (text : List ℕ) (ps : List (List ℕ)) → read text false [] [] ≡ Some ps → IsJoined text ps
unfolding escaped
text_is_joined text ps e = read_is_joined text false [] [] ps e

-- ---- the laws

first_is_short : (at : ℕ) (p : List ℕ) (ps : List (List ℕ)) → part_fault at (p ∷ ps) ≡ None → length p ≤ 1024
first_is_short at p ps fits = let parts = no_fault at p (part_fault (at + 1) ps) fits in grind (arith, nat_tests, parts.2)

rest_fits : (at : ℕ) (p : List ℕ) (ps : List (List ℕ)) → part_fault at (p ∷ ps) ≡ None → part_fault (at + 1) ps ≡ None
rest_fits at p ps fits = (no_fault at p (part_fault (at + 1) ps) fits).0

pub one_path : (text : List ℕ) (p q : List (List ℕ)) → IsTermText text p → IsTermText text q → p ≡ q
one_path text p q s t = joined_once p q (path_has_part p s.fits) (path_has_part q t.fits) (sym s.is ∙ t.is)

-- a text that was joined of no path is the term text of none
pub joined_of_no_path : (text : List ℕ) (ps : List (List ℕ)) (fault : PathFault) → 0 < length ps → text ≡ term_text ps → path_fault ps ≡ Some fault → (path : List (List ℕ)) → ¬ IsTermText text path
joined_of_no_path text ps fault some is fails path t = none-some _ (sym t.fits ∙ ap path_fault (joined_once path ps (path_has_part path t.fits) some (sym t.is ∙ is)) ∙ fails)

pub joined_of_nothing : (text : List ℕ) → read text false [] [] ≡ None → (path : List (List ℕ)) → ¬ IsTermText text path
joined_of_nothing text e path t = none_joined text e path t.is

length-escaped : (p : List ℕ) → length (escaped p) ≤ 2 * length p
unfolding escaped
length-escaped [] = omega arith
length-escaped (b ∷ p) = by (is_special b) refl (length-escaped p)
  where
    by : (t : Bool) → is_special b ≡ t → length (escaped p) ≤ 2 * length p → length (escaped_byte b ++ escaped p) ≤ 2 * length (b ∷ p)
    by true e rest = rw e (omega (arith, rest))
    by false e rest = rw e (omega (arith, rest))

length-joined : (at : ℕ) (p : List ℕ) (ps : List (List ℕ)) → part_fault at (p ∷ ps) ≡ None → length (term_text (p ∷ ps)) + 1 ≤ 2049 * length (p ∷ ps)
unfolding term_text
length-joined at p [] fits = omega (arith, length-escaped p, first_is_short at p [] fits)
length-joined at p (q ∷ qs) fits =
    let rest = length-joined (at + 1) q qs (rest_fits at p (q ∷ qs) fits) in
    omega (arith, rest, length-escaped p, first_is_short at p (q ∷ qs) fits, length-append (escaped p) (31 ∷ term_text (q ∷ qs)))

pub term_text_is_short : (path : List (List ℕ)) → IsPath path → length (term_text path) ≤ 65567
term_text_is_short [] fits = absurd (search (rules, fits))
term_text_is_short (p ∷ ps) fits =
    let parts = part_of_path (p ∷ ps) fits in
    let few : length (p ∷ ps) ≤ 32 = grind (arith, nat_tests, parts.1) in
    omega (arith, few, length-joined 0 p ps parts.0)

-- ---- one more component

pub joined_first : (ps : List (List ℕ)) (q : List ℕ) → length ps ≡ 0 → term_text (ps ++ q ∷ []) ≡ term_text ps ++ escaped q
unfolding term_text
joined_first [] q none = refl
joined_first (p ∷ ps) q none = absurd (omega (arith, none))

pub joined_more : (ps : List (List ℕ)) (q : List ℕ) → 0 < length ps → term_text (ps ++ q ∷ []) ≡ term_text ps ++ 31 ∷ escaped q
unfolding term_text
joined_more [] q some = absurd (omega (arith, some))
joined_more (p ∷ ps) q some = after p ps
  where
    after : (p : List ℕ) (ps : List (List ℕ)) → term_text (p ∷ (ps ++ q ∷ [])) ≡ term_text (p ∷ ps) ++ 31 ∷ escaped q
    after p [] = refl
    after p (r ∷ rs) = ap (λ bs. escaped p ++ 31 ∷ bs) (after r rs) ∙ sym (append_assoc (escaped p) (31 ∷ term_text (r ∷ rs)) (31 ∷ escaped q))

-- one component more
pub longer_text : (ps : List (List ℕ)) (q : List ℕ) (at : ℕ) → length ps ≡ at → term_text ps ++ cond (nat_eq at 0) (escaped q) (31 ∷ escaped q) ≡ term_text (ps ++ q ∷ [])
longer_text ps q at size = by at (nat_eq at 0) refl size
  where
    by : (n : ℕ) (b : Bool) → nat_eq n 0 ≡ b → length ps ≡ n → term_text ps ++ cond b (escaped q) (31 ∷ escaped q) ≡ term_text (ps ++ q ∷ [])
    by n true e size = sym (joined_first ps q (omega (arith, size, eqb-true n 0 e)))
    by n false e size = sym (joined_more ps q (omega (arith, size, eqb-false n 0 e)))

-- ---- characters

-- no byte is special
abbrev IsPlain : List ℕ → Type 0
IsPlain bs = (k : ℕ) → k < length bs → is_special (get_or bs k 0) ≡ false

plain_bytes : (bs rest : List ℕ) (whole : List (List ℕ)) (part : List ℕ) → IsPlain bs → read (bs ++ rest) false whole part ≡ read rest false whole (part ++ bs)
plain_bytes [] rest whole part plain = ap (read rest false whole) (sym (append-nil part))
plain_bytes (b ∷ bs) rest whole part plain =
    read_plain b (bs ++ rest) whole part (plain 0 (omega arith))
    ∙ plain_bytes bs rest whole (part ++ b ∷ []) (λ k lt. plain (suc k) (omega (arith, lt)))
    ∙ ap (read rest false whole) (append_assoc part (b ∷ []) bs)

escaped_plain : (bs : List ℕ) → IsPlain bs → escaped bs ≡ bs
unfolding escaped
escaped_plain [] plain = refl
escaped_plain (b ∷ bs) plain = rw (plain 0 (omega arith)) (ap (λ t. b ∷ t) (escaped_plain bs (λ k lt. plain (suc k) (omega (arith, lt)))))

not_after_escape : (bs rest : List ℕ) (whole : List (List ℕ)) (part : List ℕ) → 0 < length bs → IsPlain bs → read (bs ++ rest) true whole part ≡ None
unfolding read
not_after_escape [] rest whole part some plain = absurd (omega (arith, some))
not_after_escape (b ∷ bs) rest whole part some plain = rw (plain 0 (omega arith)) refl

-- no byte of another character is special
plain_char : (c : ℕ) → is_special c ≡ false → IsPlain (encode c)
plain_char c plain k lt = by (is_special (get_or (encode c) k 0)) refl
  where
    small : (b : ℕ) → is_special b ≡ true → b < 128
    small b e = grind (arith, nat_tests, e)

    by : (t : Bool) → is_special (get_or (encode c) k 0) ≡ t → t ≡ false
    by false e = refl
    by true e = absurd (false≢true (sym plain ∙ ap is_special (inside_one c [] (encode c) k (sym (append-nil (encode c))) lt (small (get_or (encode c) k 0) e)) ∙ e))

special_is : (c : ℕ) → is_special c ≡ true → encode c ≡ c ∷ []
special_is c e = encode_ascii c (grind (arith, nat_tests, e))

-- a character of a component
pub read_char : (c : ℕ) (rest : List ℕ) (whole : List (List ℕ)) (part : List ℕ) → is_special c ≡ false → read (encode c ++ rest) false whole part ≡ read rest false whole (part ++ encode c)
read_char c rest whole part e = plain_bytes (encode c) rest whole part (plain_char c e)

pub read_escaped : (c : ℕ) (rest : List ℕ) (whole : List (List ℕ)) (part : List ℕ) → is_special c ≡ true → read (encode c ++ rest) true whole part ≡ read rest false whole (part ++ encode c)
read_escaped c rest whole part e = rw (special_is c e) (read_special c rest whole part e)

pub no_escaped : (c : ℕ) (rest : List ℕ) (whole : List (List ℕ)) (part : List ℕ) → is_special c ≡ false → read (encode c ++ rest) true whole part ≡ None
no_escaped c rest whole part e = not_after_escape (encode c) rest whole part (omega (arith, length-encode c, (len_utf8_bounds c).0)) (plain_char c e)

pub read_escape : (c : ℕ) (rest : List ℕ) (whole : List (List ℕ)) (part : List ℕ) → c ≡ 30 → read (encode c ++ rest) false whole part ≡ read rest true whole part
unfolding read
read_escape c rest whole part e = ap (λ t. read (t ++ rest) false whole part) (encode_ascii c (omega (arith, e))) ∙ ap (λ b. read (b ∷ rest) false whole part) e

pub read_separator : (c : ℕ) (rest : List ℕ) (whole : List (List ℕ)) (part : List ℕ) → c ≡ 31 → read (encode c ++ rest) false whole part ≡ read rest false (whole ++ part ∷ []) []
unfolding read
read_separator c rest whole part e = ap (λ t. read (t ++ rest) false whole part) (encode_ascii c (omega (arith, e))) ∙ ap (λ b. read (b ∷ rest) false whole part) e

pub read_end : (bs : List ℕ) (whole : List (List ℕ)) (part : List ℕ) → length bs ≡ 0 → read bs false whole part ≡ Some (whole ++ part ∷ [])
unfolding read
read_end [] whole part none = refl
read_end (b ∷ bs) whole part none = absurd (omega (arith, none))

pub open_escape : (bs : List ℕ) (whole : List (List ℕ)) (part : List ℕ) → length bs ≡ 0 → read bs true whole part ≡ None
unfolding read
open_escape [] whole part none = refl
open_escape (b ∷ bs) whole part none = absurd (omega (arith, none))

pub other_special : (c : ℕ) → is_special c ≡ true → ¬ (c ≡ 30) → c ≡ 31
other_special c e other = grind (arith, nat_tests, e, other)

pub escaped_char : (c : ℕ) (rest : List ℕ) → is_special c ≡ false → escaped (encode c ++ rest) ≡ encode c ++ escaped rest
unfolding escaped
escaped_char c rest e = flat_map-append escaped_byte (encode c) rest ∙ ap (λ bs. bs ++ escaped rest) (escaped_plain (encode c) (plain_char c e))

pub escaped_special : (c : ℕ) (rest : List ℕ) → is_special c ≡ true → escaped (encode c ++ rest) ≡ 30 ∷ encode c ++ escaped rest
unfolding escaped
escaped_special c rest e = rw (special_is c e, e) refl

-- ---- what is written

pub written_plain : (old new : List ℕ) (c : ℕ) (rest : List ℕ) → is_special c ≡ false → new ≡ old ++ encode c → new ++ escaped rest ≡ old ++ escaped (encode c ++ rest)
written_plain old new c rest e is = ap (λ t. t ++ escaped rest) is ∙ append_assoc old (encode c) (escaped rest) ∙ ap (λ t. old ++ t) (sym (escaped_char c rest e))

pub written_special : (old mid new : List ℕ) (c : ℕ) (rest : List ℕ) → is_special c ≡ true → mid ≡ old ++ 30 ∷ [] → new ≡ mid ++ encode c → new ++ escaped rest ≡ old ++ escaped (encode c ++ rest)
written_special old mid new c rest e first is =
    ap (λ t. t ++ escaped rest) (is ∙ ap (λ t. t ++ encode c) first ∙ append_assoc old (30 ∷ []) (encode c))
    ∙ append_assoc old (30 ∷ encode c) (escaped rest)
    ∙ ap (λ t. old ++ t) (sym (escaped_special c rest e))

pub all_written : (rest old : List ℕ) → length rest ≡ 0 → old ≡ old ++ escaped rest
unfolding escaped
all_written [] old none = sym (append-nil old)
all_written (b ∷ bs) old none = absurd (omega (arith, none))

-- what was written before more was wanting
pub some_written : (old written left bytes new : List ℕ) → new ≡ old ++ written → written ++ left ≡ bytes → HasSome bytes old new
some_written old written left bytes new is all = (length written, is ∙ ap (λ t. old ++ t) (sym (take-append_seam written left) ∙ ap (take (length written)) all))

-- behind the separator
pub some_behind : (at : ℕ) (part old mid new : List ℕ) → 0 < at → mid ≡ old ++ 31 ∷ [] → HasSome (escaped part) mid new → HasSome (behind at part) old new
some_behind at part old mid new later first some = (suc some.0, some.1 ∙ ap (λ t. t ++ take some.0 (escaped part)) first ∙ append_assoc old (31 ∷ []) (take some.0 (escaped part)) ∙ ap (λ b. old ++ take (suc some.0) (cond b (escaped part) (31 ∷ escaped part))) (sym (ne_eqb at 0 (λ e. omega (arith, later, e)))))

pub some_first : (at : ℕ) (part old new : List ℕ) → at ≡ 0 → HasSome (escaped part) old new → HasSome (behind at part) old new
some_first at part old new here some = (some.0, some.1 ∙ ap (λ b. old ++ take some.0 (cond b (escaped part) (31 ∷ escaped part))) (sym (eq-eqb at 0 here)))

-- a component with no special byte stands as it is
pub escaped_as_is : (part : List ℕ) → list_any is_special part ≡ false → escaped part ≡ part
unfolding escaped
escaped_as_is [] e = refl
escaped_as_is (b ∷ bs) e = by (is_special b) refl e (escaped_as_is bs)
  where
    by : (t : Bool) → is_special b ≡ t → (t || list_any is_special bs) ≡ false → (list_any is_special bs ≡ false → escaped bs ≡ bs) → escaped (b ∷ bs) ≡ b ∷ bs
    by true h e rest = absurd cc
    by false h e rest = (λ i. cond (h i) (30 ∷ b ∷ []) (b ∷ []) ++ escaped bs) ∙ ap (λ xs. b ∷ xs) (rest e)
