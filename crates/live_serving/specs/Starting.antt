-- How sessions of a live process begin.
use Rattle.std.specs.Prelude.{◌≡◌, ℕ, true, List, []}
use Rattle.std.specs.Io.KnownBytes.{IsAtEnd}
use Rattle.live_io.specs.declared.duplex.Duplex.{Ghosts}
use Rattle.live_lines.specs.FaultLines.{opened_line}
use Rattle.live_serving.specs.Answering.{Puts}
use Rattle.live_serving.specs.FirstLine.{HasGot}
use Rattle.live_serving.specs.Moments.{HasRead}
use Rattle.live_serving.specs.declared.line_phases.LinePhases.{LinePhases}

-- The first line was got, and maybe more, and nothing was put or flushed before. Then the line of so many opened
-- documents and labels was put.
pub record Starts {X : Type 0} (io : Ghosts X) (from before now : X) (p : LinePhases) (opened : ℕ × ℕ)
    (first : List ℕ) : Type 0 where
  pub got : List ℕ
  pub has : HasGot io from before got
  pub reads : io.read_faults before ≡ io.read_faults from
  pub read : HasRead p.is_ended p.only_reads first p got []
  pub ended : p.is_ended ≡ true → IsAtEnd (io.left before)
  pub puts : Puts io before now (opened_line opened)
