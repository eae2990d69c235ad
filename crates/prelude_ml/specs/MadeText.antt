-- The text of a made program, which grows with its number.
use Rattle.std.specs.Prelude.{ℕ, zero, suc, ◌+◌, List, ◌++◌, codes}
use Rattle.std.specs.Fmt.{decimal}

-- the name of the function of this number
abbrev pub function_name : ℕ → List ℕ
function_name n = codes "f" ++ decimal n

-- the first function gives its argument
abbrev pub first_line : List ℕ
first_line = codes "let f0 x = x\n"

-- the function of number i + 1 calls the one before it
abbrev pub next_line : ℕ → List ℕ
next_line i = codes "let " ++ (function_name (i + 1) ++ (codes " x = (2 * " ++ (function_name i ++ (codes " x + " ++ (decimal (i + 1) ++ codes ") mod 1000000\n")))))

-- the functions up to this number
abbrev pub functions : ℕ → List ℕ
functions zero = first_line
functions (suc i) = functions i ++ next_line i

-- the last line prints what the last function gives
abbrev pub last_line : ℕ → List ℕ
last_line n = codes "let () = print_int (" ++ (function_name n ++ codes " 1)\n")

-- the made program of a number
abbrev pub made_text : ℕ → List ℕ
made_text n = functions n ++ last_line n
