use Rattle.std.proofs.Common.{◌∙◌, sym, subst}
use Rattle.place_bits.specs.Misses.{HaveWords, fails}
use Rattle.seg_postings.specs.Rising.{is_in}
use Rattle.place_bits.proofs.Misses.{all_near, hit_left, words_kept}
use Rattle.place_bits.proofs.near.near_misses.Goals as goal

pub leave_all-requires : goal.leave_all-requires
leave_all-requires c = subst (λ w. HaveWords w c.note_all.new.dims) (sym c.note_all.ensures.twos_words) (words_kept _ _ _ _ c.requires.dims c.note_all.ensures.missed)

pub returns-clause-hits : goal.returns-clause-hits
returns-clause-hits c = λ n. c.leave.ensures.left n ∙ hit_left (is_in n c.args.base.now.places) (is_in n c.note_all.new.ones.places) (fails c.args.dims.now n) (c.note_all.ensures.ones n)

pub returns-clause-near : goal.returns-clause-near
returns-clause-near c = all_near _ _ _ _ _ _ c.note_all.ensures.twos c.note_all.ensures.missed c.leave_all.ensures
