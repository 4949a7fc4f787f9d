use Rattle.std.proofs.Common.{◌∙◌, inl, ap}
use Rattle.index_state.specs.Index.{Index}
use Rattle.index_state.specs.Frames.{frame_of}
use Rattle.pair_manager.proofs.Sharing.{installed_frame}
use Rattle.pair_manager.proofs.merging.replace.Goals as goal

pub returns-then-try_install-clause-frame : goal.returns-then-try_install-clause-frame
returns-then-try_install-clause-frame c = installed_frame c.args.index.now c.try_install.new.self c.try_install.ensures.rest c.try_install.ensures.same

pub returns-in-All-clause-stands : goal.returns-in-All-clause-stands
returns-in-All-clause-stands c history stands = c.merge.ensures.stands history (c.try_install.ensures.stands history stands)

pub returns-in-All-clause-frame : goal.returns-in-All-clause-frame
returns-in-All-clause-frame c = ap (λ (x : Index). frame_of x) c.merge.ensures.rest ∙ installed_frame c.args.index.now c.try_install.new.self c.try_install.ensures.rest c.try_install.ensures.same

pub returns-in-Policy-clause-frame : goal.returns-in-Policy-clause-frame
returns-in-Policy-clause-frame c = installed_frame c.args.index.now c.try_install.new.self c.try_install.ensures.rest c.try_install.ensures.same

pub returns-then-try_install-clause-replaced : goal.returns-then-try_install-clause-replaced
returns-then-try_install-clause-replaced c = inl (c.try_install.ensures.installed c.if-try_install.true)
