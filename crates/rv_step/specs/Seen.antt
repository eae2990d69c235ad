-- The code's values as the machine's.
use Rattle.std.specs.Prelude.{◌<◌}
use Rattle.rv_model.specs.declared.hart.Part.{Part}
use Rattle.rv_model.specs.declared.hart.Part.TheVariants.{Word, Byte}
use Rattle.rv_step.specs.declared.act.Act.{Act}
use Rattle.rv_step.specs.declared.act.Act.TheVariants as act
use Rattle.rv_step.specs.declared.plan.Planned.{Planned}
use Rattle.rv_step.specs.declared.plan.Planned.TheVariants as planned
use Rattle.rv_step.specs.declared.instruction.Turn.{Turn}
use Rattle.rv_step.specs.declared.instruction.Turn.TheVariants as turn
use Rattle.rv_model.specs.Table.{Effect, Sets, AddsPc, Branches, Links, LinksTo, Loads, LoadsByte, Stores, Swaps, Adds, Masks, Exchanges, Calls}
use Rattle.rv_model.specs.Machine.{Hart, Move, Goes, Waits, Stopped, Fault, Regs, put, Plan, Moves, Accesses, Awaits, Stops, Faults}

-- what an instruction does
abbrev pub seen_act : Act → Effect
seen_act (act.Sets v) = Sets v
seen_act (act.AddsPc v) = AddsPc v
seen_act (act.Branches taken o) = Branches taken o
seen_act (act.Links o) = Links o
seen_act (act.LinksTo a) = LinksTo a
seen_act (act.Loads a) = Loads a
seen_act (act.LoadsByte a) = LoadsByte a
seen_act (act.Stores a v) = Stores a v
seen_act (act.Swaps a v) = Swaps a v
seen_act (act.Adds a v) = Adds a v
seen_act (act.Masks a v) = Masks a v
seen_act (act.Exchanges a e v) = Exchanges a e v
seen_act act.Calls = Calls

-- what an instruction asks for, over these registers
abbrev pub seen_plan : Regs → Planned → Plan
seen_plan r (planned.Moves to rd v) = Moves to (put r rd v)
seen_plan r (planned.Accesses a rd part) = Accesses a rd part
seen_plan r (planned.Awaits at v) = Awaits at v
seen_plan r planned.Stops = Stops
seen_plan r planned.Faults = Faults

-- what became of a hart that is now this one
abbrev pub seen_turn : Turn → Hart → Move
seen_turn turn.Went h = Goes h
seen_turn turn.Waits h = Waits
seen_turn turn.Stopped h = Stopped
seen_turn turn.Fault h = Fault

-- a word has eight bytes
abbrev pub IsPartInRange : Part → Type 0
IsPartInRange Word = Unit {0}
IsPartInRange (Byte k) = k < 8

-- the register is below 32, and the byte is one of the word's
abbrev pub IsInRange : Planned → Type 0
IsInRange (planned.Moves to rd v) = rd < 32
IsInRange (planned.Accesses a rd part) = (rd < 32) × IsPartInRange part
IsInRange (planned.Awaits at v) = Unit {0}
IsInRange planned.Stops = Unit {0}
IsInRange planned.Faults = Unit {0}
