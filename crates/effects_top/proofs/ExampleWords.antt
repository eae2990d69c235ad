-- Readings of command words, by computation.
use Rattle.std.proofs.Common.{◌≡◌, ℕ, List, [], ◌∷◌, Some, None, refl}
use Rattle.std.specs.Prelude.{codes}
use Rattle.effects_top.specs.Words.{Numbers, Assemble, Run, Make, Demo, asked}

usual : Numbers
usual = record { heap = 1048576; stack = 131072; out = 1048576; budget = 1073741824; domains = 4 }

file : List ℕ
file = codes "a.ml"

-- `run a.ml`
plain_run : asked (codes "run" ∷ codes "a.ml" ∷ []) ≡ Some (Run file usual 1000)
unfolding usual file
plain_run = refl

-- `run --heap=16384 a.ml --stack 256`
two_spellings : asked (codes "run" ∷ codes "--heap=16384" ∷ codes "a.ml" ∷ codes "--stack" ∷ codes "256" ∷ []) ≡ Some (Run file (record usual { heap = 16384; stack = 256 }) 1000)
unfolding usual file
two_spellings = refl

-- `run a.ml --turns 7 --domains=8`
with_turns : asked (codes "run" ∷ codes "a.ml" ∷ codes "--turns" ∷ codes "7" ∷ codes "--domains=8" ∷ []) ≡ Some (Run file (record usual { domains = 8 }) 7)
unfolding usual file
with_turns = refl

-- `asm a.ml --budget 1`
listing_of : asked (codes "asm" ∷ codes "a.ml" ∷ codes "--budget" ∷ codes "1" ∷ []) ≡ Some (Assemble file (record usual { budget = 1 }))
unfolding usual file
listing_of = refl

-- no words, and a command without a file
nothing_asked : asked [] ≡ None
nothing_asked = refl

no_file : asked (codes "run" ∷ []) ≡ None
no_file = refl

-- a number out of the range of its choice
too_small : asked (codes "run" ∷ codes "a.ml" ∷ codes "--heap" ∷ codes "16383" ∷ []) ≡ None
too_small = refl

no_turns : asked (codes "run" ∷ codes "a.ml" ∷ codes "--turns" ∷ codes "0" ∷ []) ≡ None
no_turns = refl

-- an option twice, an unknown one, and one that `asm` doesn't take
twice : asked (codes "run" ∷ codes "a.ml" ∷ codes "--heap" ∷ codes "20000" ∷ codes "--heap" ∷ codes "20000" ∷ []) ≡ None
twice = refl

unknown : asked (codes "run" ∷ codes "--" ∷ codes "a.ml" ∷ []) ≡ None
unknown = refl

turns_for_listing : asked (codes "asm" ∷ codes "a.ml" ∷ codes "--turns" ∷ codes "5" ∷ []) ≡ None
turns_for_listing = refl

-- the number of a made program
made : asked (codes "make" ∷ codes "012" ∷ []) ≡ Some (Make 12)
made = refl

demo : asked (codes "demo" ∷ codes "500" ∷ []) ≡ Some (Demo 500)
demo = refl

none_of_zero : asked (codes "make" ∷ codes "0" ∷ []) ≡ None
none_of_zero = refl

none_above : asked (codes "demo" ∷ codes "501" ∷ []) ≡ None
none_above = refl

one_number : asked (codes "make" ∷ codes "1" ∷ codes "2" ∷ []) ≡ None
one_number = refl
