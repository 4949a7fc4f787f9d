-- Ends before sessions, as the calls that leave them say.
use Rattle.std.proofs.Common.{◌≡◌, ◌∙◌, ◌≤◌, ◌⊎◌, inl, inr, ⊎_elim, ℕ, Bool, List, [], ◌∷◌, take, Option, None, Err, refl, sym, subst}
use Rattle.std.specs.Prelude.{◌≢◌}
use Rattle.facet_disk.specs.declared.disk.Disk.{Ghosts}
use Rattle.facet_engine.specs.declared.ending.Trace.{Trace}
use Rattle.facet_serving.specs.Statuses.{status_line}
use Rattle.facet_serving.specs.declared.status.Status.{Status}
use Rattle.facet_serving.specs.declared.status.Status.TheVariants.{ReadFault, BadScript, NoMemory, TooLong}
use Rattle.facet_words.specs.FaultLines.{fault_line}
use Rattle.facet_words.specs.Scripts.{config_at}
use Rattle.facet_words.specs.declared.fault.ScriptFault.{ScriptFault}
use Rattle.facet_words.specs.declared.fault.ScriptFault.TheVariants.{NoConfigFirst}
use Rattle.live_io.specs.Unread.{Unread}
use Rattle.live_io.specs.declared.duplex.Duplex.{Ghosts as DuplexGhosts}
use Rattle.live_serving.specs.Closing.{PutsLine}
use Rattle.live_serving.specs.FirstLine.{FailsFirst, HasFirst}
use Rattle.live_serving.specs.Runs.{RunsLive}
use Rattle.live_serving.specs.declared.first_line.FirstFault.{FirstFault}
use Rattle.live_serving.specs.declared.first_line.FirstFault.TheVariants as firsts
use Rattle.live_serving.specs.declared.first_line.FirstLine.{FirstLine}
use Rattle.live_serving.proofs.Leaving.{leaves_empty, leaves_long, leaves_refused, leaves_short, leaves_unread}
use Rattle.live_serving.proofs.Opening.{fits, reads_first}
use Rattle.live_serving.proofs.Quiet.{quiet_still}

module _ {X D : Type 0} (io : DuplexGhosts X) (disk : Ghosts D) (only_reads : Bool) (from mid to : X) (d after : D) (left : Option Trace) (status : Status) (same : after ≡ d) (none : left ≡ None) where
  at_same : RunsLive io disk only_reads from to d d left status → RunsLive io disk only_reads from to d after left status
  at_same r = subst (λ (k : D). RunsLive io disk only_reads from to d k left status) (sym same) r

  pub end_unread : (u : Unread) (fault : FirstFault) → fault ≡ firsts.Read → FailsFirst io from mid u fault → status ≡ ReadFault → PutsLine io mid to (status_line ReadFault) → RunsLive io disk only_reads from to d after left status
  end_unread u fault is f ends put =
      at_same (leaves_unread io disk only_reads from mid to d left (none, quiet_still disk d) u status ends (subst (λ (e : FirstFault). FailsFirst io from mid u e) is f) put)

  pub end_long : (u : Unread) (fault : FirstFault) → fault ≡ firsts.TooLong → FailsFirst io from mid u fault → status ≡ TooLong → PutsLine io mid to (status_line TooLong) → RunsLive io disk only_reads from to d after left status
  end_long u fault is f ends put =
      at_same (leaves_long io disk only_reads from mid to d left (none, quiet_still disk d) u status ends (subst (λ (e : FirstFault). FailsFirst io from mid u e) is f) put)

  pub end_room : (u : Unread) (fault : FirstFault) → fault ≡ firsts.NoMemory → FailsFirst io from mid u fault → status ≡ NoMemory → PutsLine io mid to (status_line NoMemory) → RunsLive io disk only_reads from to d after left status
  end_room u fault is f ends put =
      let e : FailsFirst io from mid u firsts.NoMemory = subst (λ (e : FirstFault). FailsFirst io from mid u e) is f in
      at_same (leaves_short io disk only_reads from mid to d left (none, quiet_still disk d) e.1.0 status ends e.1.1 e.0 put)

  pub end_empty : (u : Unread) (fault : FirstFault) → fault ≡ firsts.NoLine → FailsFirst io from mid u fault
      → ((status ≡ BadScript) × PutsLine io mid to (fault_line NoConfigFirst)) ⊎ ((status ≡ NoMemory) × PutsLine io mid to (status_line NoMemory)) → RunsLive io disk only_reads from to d after left status
  end_empty u fault is f told =
      let e : FailsFirst io from mid u firsts.NoLine = subst (λ (e : FirstFault). FailsFirst io from mid u e) is f in
      at_same (⊎_elim
      (λ t. leaves_empty io disk only_reads from mid to d left (none, quiet_still disk d) u status t.0 e t.1)
      (λ t. leaves_short io disk only_reads from mid to d left (none, quiet_still disk d) [] status t.0 e.2 e.0 t.1) told)

  module _ (u : Unread) (line : FirstLine) (h : HasFirst io from mid u line) where
    pub end_config_room : status ≡ NoMemory → PutsLine io mid to (status_line NoMemory) → RunsLive io disk only_reads from to d after left status
    end_config_room ends put = at_same (leaves_short io disk only_reads from mid to d left (none, quiet_still disk d) h.got status ends h.has h.reads put)

    pub end_config : (fault : ScriptFault) → config_at (take line.len u.bytes) ≡ Err fault
        → ((status ≡ BadScript) × PutsLine io mid to (fault_line fault)) ⊎ ((status ≡ NoMemory) × PutsLine io mid to (status_line NoMemory)) → RunsLive io disk only_reads from to d after left status
    end_config fault bad told =
        let r = reads_first io from mid u line h in
        ⊎_elim
        (λ t. at_same (leaves_refused io disk only_reads from mid to d left (none, quiet_still disk d) h.got (take line.len u.bytes) r.0 fault status t.0 h.has h.reads r.1 (fits io from mid u line h) bad t.1))
        (λ t. end_config_room t.0 t.1) told
