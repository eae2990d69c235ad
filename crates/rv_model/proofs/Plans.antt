-- The register that an access's answer goes to.
use Rattle.std.proofs.Common.{◌≡◌, ℕ, ◌<◌, List, ◌/◌, ◌%◌, Option, Some, None, Bool, true, false, refl, arith}
use Rattle.std.specs.Prelude.{slice_get, ◌==◌, ◌&&◌, nat_lt, if◌then◌else◌}
use Rattle.rv_model.specs.declared.instr.Instr.{Instr}
use Rattle.rv_model.specs.declared.hart.Access.{Access}
use Rattle.rv_model.specs.declared.hart.Access.TheVariants.{Loading, Storing, Swapping, Adding, Masking, Exchanging}
use Rattle.rv_model.specs.Table.{Effect, Sets, AddsPc, Branches, Links, LinksTo, Loads, LoadsByte, Stores, Swaps, Adds, Masks, Exchanges, Calls, IsWellFormed, AreWellFormed}
use Rattle.rv_model.specs.Machine.{Hart, Plan, Moves, Accesses, Awaits, Stops, Faults, plan, planned, planned_if, effect_of, fetch}
use Rattle.rv_model.proofs.WellFormed.{well_formed_at}

-- the register is below 32; a store's answer goes nowhere
abbrev pub IsForRegister : Access → ℕ → Type 0
IsForRegister (Loading at) rd = rd < 32
IsForRegister (Storing at v) rd = rd ≡ 0
IsForRegister (Swapping at v) rd = rd < 32
IsForRegister (Adding at v) rd = rd < 32
IsForRegister (Masking at v) rd = rd < 32
IsForRegister (Exchanging at e v) rd = rd < 32

pub register_below : (a : Access) (rd : ℕ) → IsForRegister a rd → rd < 32
register_below (Loading at) rd h = h
register_below (Storing at v) rd h = omega (arith, h)
register_below (Swapping at v) rd h = h
register_below (Adding at v) rd h = h
register_below (Masking at v) rd h = h
register_below (Exchanging at e v) rd h = h

abbrev pub IsForRegisters : Plan → Type 0
IsForRegisters (Accesses a rd part) = IsForRegister a rd
IsForRegisters (Moves to r) = Unit {0}
IsForRegisters (Awaits at v) = Unit {0}
IsForRegisters Stops = Unit {0}
IsForRegisters Faults = Unit {0}

either : (b : Bool) (p q : Plan) → IsForRegisters p → IsForRegisters q → IsForRegisters (if b then p else q)
either true p q x y = x
either false p q x y = y

of_effect : (size rd : ℕ) (e : Effect) (h : Hart) → rd < 32 → IsForRegisters (planned size rd e h)
of_effect size rd (Sets v) h lt = tt
of_effect size rd (AddsPc v) h lt = tt
of_effect size rd (Branches t i) h lt = tt
of_effect size rd (Links i) h lt = tt
of_effect size rd (LinksTo at) h lt = tt
of_effect size rd (Loads at) h lt = either ((at % 8 == 0) && nat_lt (at / 8) size) _ Faults lt tt
of_effect size rd (LoadsByte at) h lt = either (nat_lt (at / 8) size) _ Faults lt tt
of_effect size rd (Stores at v) h lt = either ((at % 8 == 0) && nat_lt (at / 8) size) _ Faults refl tt
of_effect size rd (Swaps at v) h lt = either ((at % 8 == 0) && nat_lt (at / 8) size) _ Faults lt tt
of_effect size rd (Adds at v) h lt = either ((at % 8 == 0) && nat_lt (at / 8) size) _ Faults lt tt
of_effect size rd (Masks at v) h lt = either ((at % 8 == 0) && nat_lt (at / 8) size) _ Faults lt tt
of_effect size rd (Exchanges at e v) h lt = either ((at % 8 == 0) && nat_lt (at / 8) size) _ Faults lt tt
of_effect size rd Calls h lt = either (h.regs 17 == 0) Stops _ tt (either (h.regs 17 == 1) _ Faults (either ((h.regs 10 % 8 == 0) && nat_lt (h.regs 10 / 8) size) _ Faults tt tt) tt)

of_fetched : (size : ℕ) (o : Option Instr) (h : Hart) → ((i : Instr) → o ≡ Some i → IsWellFormed i) → IsForRegisters (planned_if size o h)
of_fetched size None h row = tt
of_fetched size (Some i) h row = of_effect size i.rd (effect_of i h.regs) h (row i refl).0

fetched : (code : List Instr) (pc : ℕ) (b : Bool) → AreWellFormed code → (i : Instr) → (if b then slice_get code (pc / 4) else None) ≡ Some i → IsWellFormed i
fetched code pc true all i e = well_formed_at code all (pc / 4) i e
fetched code pc false all i e = absurd (cc)

pub plan_registers : (size : ℕ) (code : List Instr) (h : Hart) → AreWellFormed code → IsForRegisters (plan size code h)
plan_registers size code h all = of_fetched size (fetch code h.pc) h (fetched code h.pc (h.pc % 4 == 0) all)
