-- How a run begins, and that it is a legal history.
use Rattle.std.proofs.Common.{◌≡◌, ℕ, zero, suc, Option, Some, None, List, [], ◌∷◌, refl}
use Rattle.sc_types.specs.declared.command.Command.TheVariants.{Step}
use Rattle.sc_types.specs.declared.history.Entry.{Entry}
use Rattle.sc_types.specs.declared.history.Who.TheVariants.{Client, Worker}
use Rattle.sc_types.specs.declared.host.HostImage.{HostImage}
use Rattle.sc_machine.specs.Commands.{answer}
use Rattle.sc_machine.specs.Cues.{ready}
use Rattle.sc_machine.specs.Histories.{IsLegal}
use Rattle.sc_machine.proofs.ChangeLemmas.{change_of}
use Rattle.sc_machine.proofs.NameLemmas.{AreDistinct, distinct_kept}
use Rattle.sc_top.specs.Run.{Continues, Enters, IsRun, Made, next, of_ready, of_script, over}

-- the first entry of a run is a step of the ready session or the next command, and the rest follows
pub data First (g : HostImage) (cs : List Made) (budget : ℕ) (e : Entry) (Rest : HostImage → List Made → ℕ → Type 0) : Type 0 where
  stepped : (name : List ℕ) (less : ℕ) → budget ≡ suc less → ready g ≡ Some name → Enters g Worker (Step name) e → Rest (answer g e.command).host cs less → First g cs budget e Rest
  made : (c : Made) (after : List Made) → cs ≡ c ∷ after → Enters g (Client c.0) c.1 e → Rest (answer g e.command).host after budget → First g cs budget e Rest

of_script_first : (g : HostImage) (cs : List Made) (budget : ℕ) (e : Entry) (Rest : HostImage → List Made → ℕ → Type 0)
    → Continues (of_script cs) g cs budget e Rest → First g cs budget e Rest
of_script_first g [] budget e Rest h = absurd h
of_script_first g (c ∷ cs) budget e Rest h = made c cs refl h.0 h.1

of_ready_first : (g : HostImage) (cs : List Made) (less : ℕ) (e : Entry) (Rest : HostImage → List Made → ℕ → Type 0) (o : Option (List ℕ)) → ready g ≡ o
    → Continues (of_ready o cs) g cs (suc less) e Rest → First g cs (suc less) e Rest
of_ready_first g cs less e Rest None none h = of_script_first g cs (suc less) e Rest h
of_ready_first g cs less e Rest (Some name) is_ready h = stepped name less refl is_ready h.0 h.1

first_of : (g : HostImage) (cs : List Made) (budget : ℕ) (e : Entry) (Rest : HostImage → List Made → ℕ → Type 0)
    → Continues (next g cs budget) g cs budget e Rest → First g cs budget e Rest
first_of g cs zero e Rest h = of_script_first g cs 0 e Rest h
first_of g cs (suc less) e Rest h = of_ready_first g cs less e Rest (ready g) refl h

-- the rest of a run
abbrev pub RunsOn : List Entry → HostImage → List Made → ℕ → Type 0
RunsOn es g cs budget = IsRun g cs budget es

-- how the run of an entry and others begins
pub first_entry : (g : HostImage) (cs : List Made) (budget : ℕ) (e : Entry) (es : List Entry) → IsRun g cs budget (e ∷ es) → First g cs budget e (RunsOn es)
first_entry g cs budget e es h = first_of g cs budget e (RunsOn es) h

-- a run is over where its script is, and no session is ready or no step is left

over_script : (cs : List Made) → of_script cs ≡ over → cs ≡ []
over_script [] h = refl
over_script (c ∷ cs) h = absurd (cc)

-- no session is ready there
pub over_ready : (o : Option (List ℕ)) (cs : List Made) → of_ready o cs ≡ over → (o ≡ None) × (cs ≡ [])
over_ready None cs h = (refl, over_script cs h)
over_ready (Some name) cs h = absurd (cc)

-- no command is left there
pub over_commands : (g : HostImage) (cs : List Made) (budget : ℕ) → next g cs budget ≡ over → cs ≡ []
over_commands g cs zero h = over_script cs h
over_commands g cs (suc less) h = (over_ready (ready g) cs h).1

-- the run of a script is a legal history
pub legal_of_run : (history : List Entry) (g : HostImage) (cs : List Made) (budget : ℕ) → IsRun g cs budget history → IsLegal g history
legal_of_run [] g cs budget h = tt
legal_of_run (e ∷ es) g cs budget h = by_first (first_entry g cs budget e es h) (legal_of_run es (answer g e.command).host) where
  by_first : First g cs budget e (RunsOn es) → ((cs' : List Made) (budget' : ℕ) → IsRun (answer g e.command).host cs' budget' es → IsLegal (answer g e.command).host es)
      → IsLegal g (e ∷ es)
  by_first (stepped name less is is_ready enters rest) others = (enters.told, others cs less rest)
  by_first (made c after is enters rest) others = (enters.told, others after budget rest)

-- the facts of a host that a run goes by
-- names stay distinct
pub distinct_after : (g : HostImage) (e : Entry) → AreDistinct g.sessions → AreDistinct (answer g e.command).host.sessions
distinct_after g e distinct = distinct_kept g e.command (answer g e.command) (change_of g e.command) distinct
