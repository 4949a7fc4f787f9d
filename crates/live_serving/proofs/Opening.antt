-- The first line, once it is read.
use Rattle.std.proofs.Common.{◌≡◌, ◌∙◌, ◌<◌, ◌≤◌, ◌⊎◌, inl, inr, ℕ, zero, suc, Bool, true, false, List, [], ◌∷◌, ◌++◌, length, take, Option, Some, None, Ok, refl, sym, ap, subst, append-nil, append_assoc, arith}
use Rattle.std.specs.Io.KnownBytes.{IsAtEnd}
use Rattle.std.proofs.lemmas.List.{length-take, take_all}
use Rattle.facet_words.specs.Commands.{Settings}
use Rattle.facet_words.specs.Lines.{lines_of}
use Rattle.facet_words.specs.Scripts.{config_at}
use Rattle.live_io.proofs.Feeds.{some_feed}
use Rattle.live_io.proofs.Unreads.{line_taken}
use Rattle.live_io.specs.Unread.{IsUnread, TakesLine, Unread, first_feed, passed}
use Rattle.live_io.specs.declared.duplex.Duplex.{Ghosts as DuplexGhosts}
use Rattle.live_lines.specs.Items.{Item, Reading, first_reading, item_list, last_item}
use Rattle.live_lines.specs.Lines.{most_bytes}
use Rattle.live_lines.specs.Views.{reading_of}
use Rattle.live_serving.specs.FirstLine.{HasFirst}
use Rattle.live_serving.specs.Firsts.{ReadsFirst}
use Rattle.live_serving.specs.Leaving.{BeginsAt, HasConfig}
use Rattle.live_serving.specs.Lines.{whole_lines}
use Rattle.live_serving.specs.Moments.{HasRead, IsOver, IsUnderway, fed}
use Rattle.live_serving.specs.declared.first_line.FirstLine.{FirstLine}
use Rattle.live_serving.specs.declared.line_phases.LinePhases.{LinePhases}
use Rattle.live_serving.proofs.Cut.{lines_last, lines_line, whole_line}

-- bytes without a line feed are one line
one_line : (bytes : List ℕ) → first_feed bytes ≡ None → 0 < length bytes → lines_of bytes ≡ bytes ∷ []
one_line [] none some = absurd (omega arith)
one_line (b ∷ bs) none some = lines_last b bs none

module _ {X : Type 0} (io : DuplexGhosts X) (from now : X) (u : Unread) (line : FirstLine) (h : HasFirst io from now u line) where
  pub within : line.len ≤ length u.bytes
  within = by line.is_ended refl
    where
      by : (e : Bool) → line.is_ended ≡ e → line.len ≤ length u.bytes
      by true is = let e = h.ended is in omega (arith, e.1)
      by false is = let f = some_feed u.bytes line.len (h.whole is) in omega (arith, f.0, f.1)

  -- the bytes of the first line
  pub first_bytes : List ℕ
  first_bytes = take line.len u.bytes

  pub fits : length (take line.len u.bytes) ≤ most_bytes
  fits = omega (arith, length-take line.len u.bytes, h.fits)

  -- what was got is the first line at the end of input
  got_is : line.is_ended ≡ true → (h.got ≡ take line.len u.bytes) × (first_feed (take line.len u.bytes) ≡ None) × (0 < length (take line.len u.bytes))
  got_is is =
      let e = h.ended is in
      let all : take line.len u.bytes ≡ u.bytes = ap (λ (n : ℕ). take n u.bytes) e.1 ∙ take_all (length u.bytes) u.bytes (omega arith) in (
        h.unread.parts ∙ ap (λ (l : List ℕ). l ++ u.bytes) (h.unread.kept h.kept) ∙ sym all,
        ap first_feed all ∙ e.0,
        omega (arith, length-take line.len u.bytes, e.1, e.2),
      )

  -- what was got begins with the first line and its line feed
  got_begins : line.is_ended ≡ false → (rest : List ℕ) × (h.got ≡ take line.len u.bytes ++ 10 ∷ rest) × (first_feed (take line.len u.bytes) ≡ None)
  got_begins is =
      let t : TakesLine most_bytes [] u line.len (passed line.len u) h.got = line_taken most_bytes [] h.got u line.len (h.whole is) h.unread in
      let l = take line.len u.bytes in
      let k : t.line ≡ l = t.kept h.kept in
      let rest = t.unread.gone ++ (passed line.len u).bytes in (
        rest,
        t.unread.parts ∙ append_assoc (t.line ++ 10 ∷ []) t.unread.gone (passed line.len u).bytes ∙ append_assoc t.line (10 ∷ []) rest ∙ ap (λ (l : List ℕ). l ++ 10 ∷ rest) k,
        ap first_feed (sym k) ∙ t.no_feed,
      )

  pub reads_first : (rest : List (List ℕ)) × ReadsFirst io from now h.got (take line.len u.bytes) rest
  reads_first = by line.is_ended refl
    where
      by : (e : Bool) → line.is_ended ≡ e → (rest : List (List ℕ)) × ReadsFirst io from now h.got (take line.len u.bytes) rest
      by true is = let g = got_is is in ([], record { taken = h.has.consumed; lines = ap lines_of g.0 ∙ one_line (take line.len u.bytes) g.1 g.2; whole = inr (h.ended is).3 })
      by false is = let g = got_begins is in (
        lines_of g.0,
        record {
          taken = h.has.consumed;
          lines = ap lines_of g.1 ∙ lines_line (take line.len u.bytes) g.0 g.2;
          whole = inl (whole_lines g.0, ap whole_lines g.1 ∙ whole_line (take line.len u.bytes) g.0 g.2);
        },
      )

  module _ (only_reads : Bool) (p : LinePhases) (b : BeginsAt only_reads u line p) where
    has_read : HasRead p.is_ended p.only_reads (take line.len u.bytes) p h.got []
    has_read = subst (λ (e : Bool). HasRead e p.only_reads (take line.len u.bytes) p h.got []) (sym b.over) (by line.is_ended refl)
      where
        by : (e : Bool) → line.is_ended ≡ e → HasRead e p.only_reads (take line.len u.bytes) p h.got []
        by true is = let g = got_is is in record {
          rest = [];
          lines = ap lines_of g.0 ∙ one_line (take line.len u.bytes) g.1 g.2;
          items_are = ap (λ (r : Reading). item_list (last_item r)) (sym b.grouping);
        }
        by false is =
            let t = b.taken is most_bytes [] h.got h.unread in
            let k : t.line ≡ take line.len u.bytes = t.kept h.kept in
            record {
              taken = [];
              no_feeds = (ap first_feed (sym k) ∙ t.no_feed, tt);
              unread = subst (λ (l : List ℕ). IsUnread most_bytes l p.reader h.got) (ap (λ (l : List ℕ). l ++ 10 ∷ []) k ∙ sym (append-nil (take line.len u.bytes ++ 10 ∷ []))) t.unread;
              reading = ap (λ (r : Reading). ([], r)) (sym b.grouping);
            }

    pub has_config : (settings : Settings) → config_at (take line.len u.bytes) ≡ Ok settings → HasConfig io from now p (take line.len u.bytes) settings
    has_config settings is =
        let r = reads_first in
        record {
          got = h.got;
          has = h.has;
          reads = h.reads;
          read = has_read;
          ended = λ over. (h.ended (sym b.over ∙ over)).3;
          rest = r.0;
          line = r.1;
          fits = fits;
          settings_is = is;
        }
