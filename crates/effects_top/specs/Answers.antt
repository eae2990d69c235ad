-- What the program answers: the status of the process, and the line on standard error.
use Rattle.std.specs.Prelude.{ℕ, List, [], ◌++◌, codes}
use Rattle.std.specs.Fmt.{decimal}
use Rattle.fx_base.specs.declared.refusal.LimitKind.{LimitKind}
use Rattle.fx_base.specs.declared.refusal.LimitKind.TheVariants.{Source, Depth, TypeSize, Slots, Free, Code}
use Rattle.fx_base.specs.declared.refusal.Refusal.{Refusal}
use Rattle.fx_base.specs.declared.refusal.Refusal.TheVariants.{Usage, File, Syntax, Name, IllTyped, Limit, Memory}
use Rattle.rv_model.specs.declared.report.RunEnd.{RunEnd}
use Rattle.rv_model.specs.declared.report.RunEnd.TheVariants.{Exited, Uncaught, HeapFull, StackFull, CallsFull, OutputFull, BudgetSpent, Deadlock, Broken}

-- the status of a refusal
abbrev pub refusal_status : Refusal → ℕ
refusal_status Usage = 64
refusal_status File = 68
refusal_status (Syntax place) = 65
refusal_status (Name place) = 65
refusal_status (IllTyped place) = 66
refusal_status (Limit kind found bound) = 67
refusal_status Memory = 70

abbrev pub kind_word : LimitKind → List ℕ
kind_word Source = codes "source"
kind_word Depth = codes "depth"
kind_word TypeSize = codes "type"
kind_word Slots = codes "slots"
kind_word Free = codes "free"
kind_word Code = codes "code"

-- a head, a line and a column
abbrev pub place_line : List ℕ → ℕ → ℕ → List ℕ
place_line head line column = head ++ (decimal line ++ (codes ":" ++ (decimal column ++ codes "\n")))

-- the line of a refusal
abbrev pub refusal_line : Refusal → List ℕ
refusal_line Usage = codes "error: usage\n"
refusal_line File = codes "error: file\n"
refusal_line (Syntax place) = place_line (codes "error: syntax at ") place.line place.column
refusal_line (Name place) = place_line (codes "error: name at ") place.line place.column
refusal_line (IllTyped place) = place_line (codes "error: type at ") place.line place.column
refusal_line (Limit kind found bound) = codes "error: limit " ++ (kind_word kind ++ (codes " " ++ (decimal found ++ (codes " " ++ (decimal bound ++ codes "\n")))))
refusal_line Memory = codes "error: memory\n"

-- the status of the end of a run
abbrev pub end_status : RunEnd → ℕ
end_status (Exited status) = status
end_status (Uncaught text) = 2
end_status (HeapFull used asked size) = 71
end_status (StackFull need size) = 72
end_status (CallsFull active) = 72
end_status (OutputFull used asked size) = 73
end_status (BudgetSpent hart count) = 74
end_status Deadlock = 75
end_status Broken = 78

-- the line of the end of a run; none after an exit
abbrev pub end_line : RunEnd → List ℕ
end_line (Exited status) = []
end_line (Uncaught text) = codes "Fatal error: exception " ++ (text ++ codes "\n")
end_line (HeapFull used asked size) = codes "error: heap full " ++ (decimal used ++ (codes " " ++ (decimal asked ++ (codes " " ++ (decimal size ++ codes "\n")))))
end_line (StackFull need size) = codes "error: stack full " ++ (decimal need ++ (codes " " ++ (decimal size ++ codes "\n")))
end_line (CallsFull active) = codes "error: calls full " ++ (decimal active ++ codes "\n")
end_line (OutputFull used asked size) = codes "error: log full " ++ (decimal used ++ (codes " " ++ (decimal asked ++ (codes " " ++ (decimal size ++ codes "\n")))))
end_line (BudgetSpent hart count) = codes "error: budget spent " ++ (decimal hart ++ (codes " " ++ (decimal count ++ codes "\n")))
end_line Deadlock = codes "error: deadlock\n"
end_line Broken = codes "error: broken\n"

-- the line where the output failed
abbrev pub output_line : List ℕ
output_line = codes "error: output\n"
