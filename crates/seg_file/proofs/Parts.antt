-- The parts of a record and of a term, one behind the other.
use Rattle.std.proofs.Common.{◌≡◌, ℕ, List, ◌++◌, ◌∙◌, append_assoc, arith}
use Rattle.facet_codec.specs.Spelling.{text}
use Rattle.facet_model.specs.Stored.{Stored}
use Rattle.seg_grammar.specs.Spelling.{list_bytes, front_bytes, record_bytes, places_bytes, term_bytes}
use Rattle.seg_grammar.proofs.Again.{low_all, fit_below, length_between}
use Rattle.seg_file.specs.Fronts.{BeginsText, BeginsList, BeginsPlaces, BeginsRecord, BeginsTerm}

abbrev pub behind_text : Stored → List ℕ → List ℕ
behind_text r tail = list_bytes r.leaves ++ (list_bytes r.counted ++ tail)

abbrev pub behind_id : Stored → List ℕ → List ℕ
behind_id r tail = text r.text ++ behind_text r tail

record_split : (r : Stored) (bytes tail : List ℕ) → bytes ≡ record_bytes r ++ tail → bytes ≡ text r.id ++ behind_id r tail
unfolding record_bytes front_bytes
record_split r bytes tail e = e ∙ simp append_assoc

pub id_begins : (bytes : List ℕ) (r : Stored) (h : BeginsRecord bytes r) → BeginsText bytes r.id (behind_id r h.tail)
id_begins bytes r h = record { is = record_split r bytes h.tail h.is; short = omega (arith, h.fits.id.text.length); utf8 = h.fits.id.text.utf8 }

pub text_begins : (bytes rest : List ℕ) (r : Stored) (h : BeginsRecord bytes r) → rest ≡ behind_id r h.tail → BeginsText rest r.text (behind_text r h.tail)
text_begins bytes rest r h e = record { is = e; short = omega (arith, h.fits.text.length); utf8 = h.fits.text.utf8 }

pub leaves_begin : (bytes rest : List ℕ) (r : Stored) (h : BeginsRecord bytes r) → rest ≡ behind_text r h.tail → BeginsList rest r.leaves (list_bytes r.counted ++ h.tail)
leaves_begin bytes rest r h e = record { is = e; few = omega (arith, h.fits.leaves.few); fit = h.fits.leaves.fit }

term_split : (t : List ℕ × List ℕ) (bytes tail : List ℕ) → bytes ≡ term_bytes t ++ tail → bytes ≡ text t.0 ++ (places_bytes t.1 ++ tail)
unfolding term_bytes
term_split t bytes tail e = e ∙ append_assoc (text t.0) (places_bytes t.1) tail

pub term_begins : (docs : ℕ) (bytes : List ℕ) (t : List ℕ × List ℕ) (h : BeginsTerm docs bytes t) → BeginsText bytes t.0 (places_bytes t.1 ++ h.tail)
term_begins docs bytes t h = record { is = term_split t bytes h.tail h.is; short = omega (arith, h.fits.text.length); utf8 = h.fits.text.utf8 }

pub places_begin : (docs : ℕ) (bytes rest : List ℕ) (t : List ℕ × List ℕ) (h : BeginsTerm docs bytes t) → rest ≡ places_bytes t.1 ++ h.tail → BeginsPlaces rest t.1 h.tail
places_begin docs bytes rest t h e = record {
  is = e;
  few = omega (arith, h.few, length_between 0 docs t.1 (omega arith) (low_all t.1) h.fits.places.below h.fits.places.rise);
  fit = fit_below docs t.1 h.few h.fits.places.below;
  rise = h.fits.places.rise;
}
