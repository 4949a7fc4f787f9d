-- Replies, as plain data.
use Rattle.std.specs.Prelude.{ℕ, ℤ, List, Option}
use Rattle.facet_model.specs.Accepts.{Broken}
use Rattle.facet_model.specs.Documents.{Doc}
use Rattle.facet_model.specs.Results.{Answer}

-- A facet is broken. The label list has this size, or there are so many documents, and no more fit. The name is not
-- held, or is held already. The ask at this place asks for no child, or for a value that is not kept. There are only so
-- many documents. The disk failed at this count of faults, now or at an earlier commit. The last file number would be
-- this one.
pub data Refusal : Type 0 where
  broken : Broken → Refusal
  labels_full : ℕ → Refusal
  docs_full : ℕ → Refusal
  not_held : Refusal
  held_already : Refusal
  top_zero : ℕ → Refusal
  dim_value_not_kept : ℕ → Refusal
  no_such_document : ℕ → Refusal
  disk_failed : ℕ → Refusal
  closed : ℕ → Refusal
  numbers_spent : ℕ → Refusal
  no_memory : Refusal

-- what a search shows of a document: its text and its labels
pub record Content : Type 0 where
  pub text : List ℕ
  pub labels : List (List (List ℕ))

-- a hit's place among all documents and its id, and if the search shows its hits, their content
pub record Hit : Type 0 where
  pub at : ℕ
  pub id : List ℕ
  pub content : Option Content

-- the number of operations that a search saw, and what it found of them: how many hits, those that it lists, and the
-- answers to the asks
pub record Found : Type 0 where
  pub operations : ℕ
  pub hit_count : ℕ
  pub hits : List Hit
  pub answers : List Answer

-- the number of operations that were seen, and the document at a place of them with the ordinals of its labels
pub record Shown : Type 0 where
  pub operations : ℕ
  pub at : ℕ
  pub doc : Doc
  pub ordinals : List ℕ

-- how many operations, labels with the root and documents the pair that was asked has
pub record Numbers : Type 0 where
  pub operations : ℕ
  pub labels : ℕ
  pub documents : ℕ

-- the number of operations that were seen; of their documents, how many have a number in each range, with the range's
-- name, and how many have a number at all
pub record Ranged : Type 0 where
  pub operations : ℕ
  pub counts : List (List ℕ × ℕ)
  pub valued : ℕ

-- the number of operations that were seen, and the first components with the sums of their numbers
pub record Summed : Type 0 where
  pub operations : ℕ
  pub sums : List (List ℕ × ℤ)

pub data Reply : Type 0 where
  placed : ℕ → Reply
  numbered : ℕ → Reply
  found : Found → Reply
  shown : Shown → Reply
  stats : Numbers → Reply
  ranged : Ranged → Reply
  summed : Summed → Reply
  merged : Reply
  refused : Refusal → Reply
