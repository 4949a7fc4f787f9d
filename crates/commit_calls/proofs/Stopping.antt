-- How a run of device calls goes on, and where it stops.
use Rattle.std.proofs.Common.{◌≡◌, ◌<◌, ◌+◌, ◌*◌, ◌++◌, ◌∙◌, refl, sym, ap, subst, arith, ℕ, List, [], ◌∷◌, length, map, take, drop, get_or, Option, Some, None, length-append}
use Rattle.std.proofs.lemmas.List.{drop_more, take-append-drop, append_assoc, map-append, length-map, length-take-le}
use Rattle.std.proofs.lemmas.Grind.{flat_map-append}
use Rattle.facet_disk.specs.declared.disk.Disk.{Ghosts}
use Rattle.facet_disk.specs.declared.name.Dir.{Dir}
use Rattle.facet_disk.specs.declared.name.Dir.TheVariants.{Taxonomy, Index}
use Rattle.facet_disk.specs.declared.name.FileName.{FileName}
use Rattle.facet_disk.specs.Images.{Told, removed_in}
use Rattle.commit_calls.specs.declared.plan.Write.{Write}
use Rattle.commit_calls.specs.declared.plan.Plan.{Plan}
use Rattle.commit_calls.specs.DeviceCalls.{Call, remove, told_by_all, IsFailed, file_calls, part_calls, files_calls, calls_of, part_count, StopsAt}
use Rattle.commit_calls.specs.Outcomes.{file_told, files_told, published_told, cleared_told}

told_append : (first then : List Call) (s : Told) → told_by_all (first ++ then) s ≡ told_by_all then (told_by_all first s)
told_append [] then s = refl
told_append (call ∷ calls) then s = told_append calls then _

-- ---- what the parts of a plan tell and count

files_by_all : (ws : List Write) (s : Told) → told_by_all (files_calls ws) s ≡ files_told ws s
files_by_all [] s = refl
files_by_all (w ∷ ws) s = files_by_all ws (file_told s w.name w.bytes.items)

part_by_all : (dir : Dir) (part : Option ℕ) (s : Told) → told_by_all (part_calls dir part) s ≡ published_told dir part s
part_by_all dir None s = refl
part_by_all dir (Some n) s = refl

removed_by_all : (names : List FileName) (s : Told) → told_by_all (map remove names) s ≡ cleared_told names s
removed_by_all [] s = refl
removed_by_all (name ∷ names) s = removed_by_all names (removed_in s name)

files_count : (ws : List Write) → length (files_calls ws) ≡ 2 * length ws
files_count [] = refl
files_count (w ∷ ws) = let more = files_count ws in omega (arith, more)

part_counts : (dir : Dir) (part : Option ℕ) → length (part_calls dir part) ≡ part_count part
part_counts dir None = refl
part_counts dir (Some n) = refl

-- ---- where a run stops

module _ {D : Type 0} (disk : Ghosts D) where
  -- at its first call
  pub stops_first : (call : Call) (left : List Call) (old new : D) → disk.moment new ≡ disk.moment old + 1 → ((s : Told) → disk.told old ≡ Some s → IsFailed call s (disk.told new))
      → StopsAt disk (call ∷ left) old new
  stops_first call left old new tick told = record { made = []; failed = call; left = left; split = refl; moment = omega (arith, tick); told = told }

  -- with more calls planned behind
  pub stops_within : (calls more : List Call) (old new : D) → StopsAt disk calls old new → StopsAt disk (calls ++ more) old new
  stops_within calls more old new at = record {
    made = at.made;
    failed = at.failed;
    left = at.left ++ more;
    split = ap (λ cs. cs ++ more) at.split ∙ append_assoc at.made (at.failed ∷ at.left) more;
    moment = at.moment;
    told = at.told;
  }

  -- after calls that did not fail
  pub stops_later : (first calls : List Call) (old mid new : D) → disk.moment mid ≡ disk.moment old + length first
      → ((s : Told) → disk.told old ≡ Some s → disk.told mid ≡ Some (told_by_all first s)) → StopsAt disk calls mid new → StopsAt disk (first ++ calls) old new
  stops_later first calls old mid new count tells at = record {
    made = first ++ at.made;
    failed = at.failed;
    left = at.left;
    split = ap (λ cs. first ++ cs) at.split ∙ sym (append_assoc first at.made (at.failed ∷ at.left));
    moment = let both = length-append first at.made in let last = at.moment in omega (arith, count, both, last);
    told = λ s is. subst (λ (t : Told). IsFailed at.failed t (disk.told new)) (sym (told_append first at.made s)) (at.told (told_by_all first s) (tells s is));
  }

  -- at one of several files
  pub stops_at_file : (files : List Write) (k : ℕ) (w : Write) → w ≡ get_or files k w → k < length files → (old mid new : D) → disk.moment mid ≡ disk.moment old + 2 * k
      → ((s : Told) → disk.told old ≡ Some s → disk.told mid ≡ Some (files_told (take k files) s)) → StopsAt disk (file_calls w.name w.bytes.items) mid new → StopsAt disk (files_calls files) old new
  stops_at_file files k w is lt old mid new count tells at =
      let parts : files ≡ take k files ++ w ∷ drop (k + 1) files = sym (take-append-drop k files) ∙ ap (λ rest. take k files ++ rest) (drop_more files k w lt ∙ ap (λ v. v ∷ drop (k + 1) files) (sym is)) in
      let calls : files_calls files ≡ files_calls (take k files) ++ files_calls (w ∷ drop (k + 1) files) = ap files_calls parts ∙ flat_map-append (λ (v : Write). file_calls v.name v.bytes.items) (take k files) (w ∷ drop (k + 1) files) in
      let low : length (take k files) ≡ k = length-take-le k files (omega (arith, lt)) in
      let made = files_count (take k files) in
      subst (λ (cs : List Call). StopsAt disk cs old new) (sym calls)
      (stops_later (files_calls (take k files)) (files_calls (w ∷ drop (k + 1) files)) old mid new (omega (arith, count, low, made))
      (λ s told. tells s told ∙ ap Some (sym (files_by_all (take k files) s)))
      (stops_within (file_calls w.name w.bytes.items) (files_calls (drop (k + 1) files)) mid new at))

  -- at one of several removals
  pub stops_at_name : (names : List FileName) (k : ℕ) (d : FileName) → k < length names → (old mid new : D) → disk.moment mid ≡ disk.moment old + k
      → ((s : Told) → disk.told old ≡ Some s → disk.told mid ≡ Some (cleared_told (take k names) s)) → disk.moment new ≡ disk.moment mid + 1
      → ((s : Told) → disk.told mid ≡ Some s → IsFailed (remove (get_or names k d)) s (disk.told new)) → StopsAt disk (map remove names) old new
  stops_at_name names k d lt old mid new count tells tick failed =
      let parts : names ≡ take k names ++ get_or names k d ∷ drop (k + 1) names = sym (take-append-drop k names) ∙ ap (λ rest. take k names ++ rest) (drop_more names k d lt) in
      let calls : map remove names ≡ map remove (take k names) ++ map remove (get_or names k d ∷ drop (k + 1) names) = ap (map remove) parts ∙ map-append remove (take k names) (get_or names k d ∷ drop (k + 1) names) in
      let low : length (take k names) ≡ k = length-take-le k names (omega (arith, lt)) in
      let made : length (map remove (take k names)) ≡ length (take k names) = length-map (take k names) remove in
      subst (λ (cs : List Call). StopsAt disk cs old new) (sym calls)
      (stops_later (map remove (take k names)) (map remove (get_or names k d ∷ drop (k + 1) names)) old mid new (omega (arith, count, low, made))
      (λ s told. tells s told ∙ ap Some (sym (removed_by_all (take k names) s)))
      (stops_first (remove (get_or names k d)) (map remove (drop (k + 1) names)) mid new tick failed))

  -- ---- in a plan

  module _ (p : Plan) (old first second third new : D) where
    abbrev rest_of_files : List Call
    rest_of_files = part_calls Taxonomy p.taxonomy ++ (part_calls Index p.index ++ map remove p.strays.items)

    pub stops_in_files : StopsAt disk (files_calls p.writes.items) old new → StopsAt disk (calls_of p) old new
    stops_in_files at = stops_within (files_calls p.writes.items) rest_of_files old new at

    module _ (count : disk.moment first ≡ disk.moment old + 2 * length p.writes.items)
        (tells : (s : Told) → disk.told old ≡ Some s → disk.told first ≡ Some (files_told p.writes.items s)) where
      after_files : StopsAt disk rest_of_files first new → StopsAt disk (calls_of p) old new
      after_files at =
          let made = files_count p.writes.items in
          stops_later (files_calls p.writes.items) rest_of_files old first new (omega (arith, count, made)) (λ s is. tells s is ∙ ap Some (sym (files_by_all p.writes.items s))) at

      pub stops_in_taxonomy : StopsAt disk (part_calls Taxonomy p.taxonomy) first new → StopsAt disk (calls_of p) old new
      stops_in_taxonomy at = after_files (stops_within (part_calls Taxonomy p.taxonomy) (part_calls Index p.index ++ map remove p.strays.items) first new at)

      module _ (count' : disk.moment second ≡ disk.moment first + part_count p.taxonomy)
          (tells' : (s : Told) → disk.told first ≡ Some s → disk.told second ≡ Some (published_told Taxonomy p.taxonomy s)) where
        after_taxonomy : StopsAt disk (part_calls Index p.index ++ map remove p.strays.items) second new → StopsAt disk (calls_of p) old new
        after_taxonomy at =
            let made = part_counts Taxonomy p.taxonomy in
            after_files (stops_later (part_calls Taxonomy p.taxonomy) (part_calls Index p.index ++ map remove p.strays.items) first second new (omega (arith, count', made))
            (λ s is. tells' s is ∙ ap Some (sym (part_by_all Taxonomy p.taxonomy s))) at)

        pub stops_in_index : StopsAt disk (part_calls Index p.index) second new → StopsAt disk (calls_of p) old new
        stops_in_index at = after_taxonomy (stops_within (part_calls Index p.index) (map remove p.strays.items) second new at)

        pub stops_in_strays : disk.moment third ≡ disk.moment second + part_count p.index → ((s : Told) → disk.told second ≡ Some s → disk.told third ≡ Some (published_told Index p.index s))
            → StopsAt disk (map remove p.strays.items) third new → StopsAt disk (calls_of p) old new
        stops_in_strays count'' tells'' at =
            let made = part_counts Index p.index in
            after_taxonomy (stops_later (part_calls Index p.index) (map remove p.strays.items) second third new (omega (arith, count'', made))
            (λ s is. tells'' s is ∙ ap Some (sym (part_by_all Index p.index s))) at)
