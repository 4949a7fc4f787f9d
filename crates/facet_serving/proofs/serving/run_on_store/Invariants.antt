use Rattle.std.proofs.Common.{◌≡◌, Some}
use Rattle.commit_turns.specs.Opening.{WasSettled}
use Rattle.facet_disk.specs.Images.{Told}
use Rattle.facet_serving.proofs.Untouched.{IsLeftQuiet}
use Rattle.facet_serving.proofs.serving.run_on_store.Given as goal

-- the store's labels
abbrev pub ghosts-run_with_name-N-Name : goal.ghosts-run_with_name-N-Name
ghosts-run_with_name-N-Name g a = record { labels = a.store.labels }

-- the disk told its files when opening began, and was settled; each disk of such a state is as it was then
abbrev pub ghosts-run_with_name-N-Start : goal.ghosts-run_with_name-N-Start
ghosts-run_with_name-N-Start g a = record { told = (t : Told) × (g.D.Disk.told a.store.start.value ≡ Some t); settled = WasSettled g.D.Disk a.settings.config a.store.start.value; quiet = IsLeftQuiet g.D.Disk a.store.start.value }
