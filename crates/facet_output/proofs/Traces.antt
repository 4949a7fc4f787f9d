-- The bytes of sessions that ran are the output, with the trace that there is at the end.
use Rattle.std.proofs.Common.{List, take, inl, inr, refl}
use Rattle.facet_output.proofs.Assembled.{sessions_give_output}
use Rattle.facet_words.specs.Commands.{Order, Settings}
use Rattle.facet_output.specs.Output.{Opened}
use Rattle.facet_output.specs.Outputs.{FirstPhasesGivePart, SessionsGiveBytes, SessionsGivePart, Traced, sessions_in}
use Rattle.facet_output.specs.Seen.{Seen, history_of, labels_of}
use Rattle.facet_output.specs.Sessions.{AllRan, answers_of}
use Rattle.facet_output.specs.Steps.{Step}

traced : (settings : Settings) (phases : List (List Order)) (opened : Opened) (ran : List (List Step)) (last : Seen) → AllRan settings phases opened ran last → Traced settings phases opened (labels_of last) (sessions_in (history_of last))
traced settings phases opened ran last all = record { history = history_of last; published = last.pairs; answered = answers_of ran; of_sessions = refl; right = sessions_give_output settings phases opened ran last all }

pub sessions_give_bytes : SessionsGiveBytes
unfolding traced
sessions_give_bytes settings phases opened ran last all = (traced settings phases opened ran last all, refl)

pub sessions_give_part : SessionsGivePart
unfolding traced
sessions_give_part settings phases opened ran last n all = inr (n, traced settings phases opened ran last all, refl)

pub first_phases_give_part : FirstPhasesGivePart
unfolding traced
first_phases_give_part settings phases many opened ran last n all = inl (many, n, traced settings (take many phases) opened ran last all, refl)
