-- What never changes of a chronicle's value: plain data, of one type for every chronicle.
use Rattle.std.specs.Prelude.{ℕ, List, []}
use base.Stored.{Coded, coded×, coded_ℕ, coded_list, coded_via}
use Rattle.atomic_table.specs.Seated.{TableId, table_id_coded}

pub record Frame : Type 0 where
  pub numbers : List ℕ
  -- each text as its bytes
  pub texts : List (List ℕ)
  -- of other chronicles
  pub identities : List TableId

-- the empty frame
abbrev pub empty_frame : Frame
empty_frame = record { numbers = []; texts = []; identities = [] }

-- how the proofs store a frame next to a value
abbrev pub frame_coded : Coded Frame
frame_coded = coded_via (coded× (coded_list coded_ℕ) (coded× (coded_list (coded_list coded_ℕ))
    (coded_list table_id_coded)))
    (λ (f : Frame). (f.numbers, (f.texts, f.identities)))
    (λ x y e i. record { numbers = (e i).0; texts = (e i).1.0; identities = (e i).1.1 })
