-- What an image stands for: each list of hart numbers leads to words and harts that show a run of the program.
use Rattle.std.specs.Prelude.{◌≡◌, ◌≢◌, ℕ, ◌≤◌, ◌<◌, List, [], ◌∷◌, ◌++◌, Option, Some, None, slice_get, length, take, All}
use Rattle.effect_meaning.specs.Terms.{Program}
use Rattle.effect_meaning.specs.Config.{Running, Exited, Uncaught, Config}
use Rattle.effect_meaning.specs.Focus.{given, given_or}
use Rattle.effect_meaning.specs.Step.{step}
use Rattle.effect_meaning.specs.Run.{Run, run, start, runs}
use Rattle.effect_meaning.specs.Measures.{Stacks, Fixed, effort}
use Rattle.effect_meaning.specs.EarlyEnds.{EarlyEnd, HeapFull, StackFull, CallsFull, OutputFull, BudgetSpent, Deadlock, Sizes, Says, NoneSteps}
use Rattle.fx_base.specs.declared.settings.Settings.{Settings}
use Rattle.rv_model.specs.declared.image.Image.{Image}
use Rattle.rv_model.specs.declared.report.RunEnd.{RunEnd}
use Rattle.rv_model.specs.declared.report.RunEnd.TheVariants.{Exited as HasExited, Uncaught as IsUncaught, HeapFull as HeapIsFull, StackFull as StackIsFull, CallsFull as CallsAreFull, OutputFull as OutputIsFull, BudgetSpent as BudgetIsSpent, Deadlock as IsDeadlock, Broken as IsBroken}
use Rattle.rv_model.specs.Machine.{Hart, Goes}
use Rattle.rv_model.specs.Layout.{log, end}
use Rattle.rv_model.specs.Run.{Machine, reached, IsWithinBudget, Runs, move_of}

-- the slots that the machine has, one for each hart
abbrev pub slots_of : Image → ℕ
slots_of image = image.settings.domains

-- each segment counts as a stack of the size that the settings name
abbrev pub stacks_of : Settings → Stacks
stacks_of s = Fixed s.stack

-- the settings that an early end speaks of
abbrev pub sizes_of : Settings → Sizes
sizes_of s = record { heap = s.heap; stack = s.stack; log = s.out; budget = s.budget }

-- how many instructions the hart of this number has carried out
abbrev pub retired_by : Machine → ℕ → ℕ
retired_by s i = given_or (slice_get s.harts i) (λ h. h.retired) 0

-- no hart has a step
abbrev pub IsResting : Image → Machine → Type 0
IsResting image s = (i : ℕ) (h next : Hart) → slice_get s.harts i ≡ Some h → move_of image s.words h ≢ Goes next

-- the run that was cut short has no end, and the row of this early end is true of it
pub record IsCut (p : Program) (image : Image) (s : Machine) (r : Run p (slots_of image)) (e : EarlyEnd) : Type 0 where
  pub running : r.last.end ≡ Running
  pub says : Says p (slots_of image) (stacks_of image.settings) (sizes_of image.settings) (retired_by s) r e

-- the run goes on: no hart has taken more than its effort, and where no hart has a step no domain has one
pub record IsGoing (p : Program) (image : Image) (s : Machine) (r : Run p (slots_of image)) : Type 0 where
  pub running : r.last.end ≡ Running
  pub bounded : All (λ (h : Hart). h.retired < effort p (slots_of image) (stacks_of image.settings) r) s.harts
  pub settled : IsResting image s → NoneSteps p r.last

-- what the end that the words tell says of the run
abbrev pub EndsAs : (p : Program) (image : Image) → Machine → Run p (slots_of image) → Option RunEnd → Type 0
EndsAs p image s r None = IsGoing p image s r
EndsAs p image s r (Some (HasExited status)) = r.last.end ≡ Exited status
EndsAs p image s r (Some (IsUncaught text)) = r.last.end ≡ Uncaught text
EndsAs p image s r (Some (HeapIsFull used asked size)) = IsCut p image s r (HeapFull used asked size)
EndsAs p image s r (Some (StackIsFull need size)) = IsCut p image s r (StackFull need size)
EndsAs p image s r (Some (CallsAreFull active)) = IsCut p image s r (CallsFull active)
EndsAs p image s r (Some (OutputIsFull used asked size)) = IsCut p image s r (OutputFull used asked size)
EndsAs p image s r (Some (BudgetIsSpent hart count)) = IsCut p image s r (BudgetSpent hart count)
EndsAs p image s r (Some IsDeadlock) = IsCut p image s r Deadlock
EndsAs p image s r (Some IsBroken) = ⊥

-- a moment of the machine shows the run of this list: the log is its output, and the ends agree
pub record ShowsRun (p : Program) (image : Image) (s : Machine) (list : List ℕ) : Type 0 where
  pub last : Config
  pub leads : run p (slots_of image) list ≡ Some last
  pub output : log s.words ≡ last.output
  pub ends : EndsAs p image s (record { list = list; last = last; leads = leads }) (end s.words)

-- each of these steps is one of the domain that is in slot i at that step
abbrev pub IsOf : Program → (i : ℕ) → List ℕ → Option Config → Type 0
IsOf p i [] c = Unit {0}
IsOf p i (d ∷ ds) None = ⊥
IsOf p i (d ∷ ds) (Some c) = (slice_get c.slots i ≡ Some (Some d)) × IsOf p i ds (step p c d)

-- one piece for each hart number, in order, each with steps of that hart's slot alone
abbrev pub AreOf : Program → List ℕ → List (List ℕ) → Option Config → Type 0
AreOf p [] [] c = Unit {0}
AreOf p (i ∷ is) (piece ∷ pieces) c = IsOf p i piece c × AreOf p is pieces (given c (λ from. runs p from piece))
AreOf p _ _ c = ⊥

-- pieces in one list
abbrev pub joined_pieces : List (List ℕ) → List ℕ
joined_pieces [] = []
joined_pieces (piece ∷ pieces) = piece ++ joined_pieces pieces

-- the run that a list of hart numbers shows: its pieces, those of each prefix making a run that the prefix shows
pub record StandsFor (p : Program) (image : Image) (list : List ℕ) : Type 0 where
  pub pieces : List (List ℕ)
  pub own : AreOf p list pieces (Some (start p (slots_of image)))
  pub shows : (k : ℕ) → k ≤ length list → ShowsRun p image (reached image (take k list)) (joined_pieces (take k pieces))

-- the image stands for the program: it keeps the machine's promise, by which the log only grows and an end stays, and each
-- list within the budget shows a run
pub record Stands (p : Program) (image : Image) : Type 0 where
  pub runs : Runs image
  pub shows : (list : List ℕ) → IsWithinBudget image list → StandsFor p image list
