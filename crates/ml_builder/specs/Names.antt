-- Names and long names.
use Rattle.std.specs.Prelude.{ℕ, ◌-◌, List, [], ◌∷◌, drop, map, Option, Some, None, option_map}
use Rattle.fx_base.specs.declared.refusal.Place.{Place}
use Rattle.ml_lexer.specs.Lexeme.{Lexeme}
use Rattle.ml_syntax.specs.declared.node.Name.{Name}
use Rattle.ml_syntax.specs.declared.node.LongName.{LongName}
use Rattle.ml_syntax.specs.Laid.{name_of}
use Rattle.ml_builder.specs.Stack.{top}

-- the place of the first of some names and one more
abbrev pub place_before : List Name → Name → Place
place_before [] n = n.place
place_before (q ∷ qs) n = q.place

-- the name behind a path of others
abbrev pub long_name : List Name → Name → LongName
long_name qs n = record { place = place_before qs n; path = map (λ q. q.text) qs; last = n }

-- a long name of so many words, and the words that are left
unfoldable pub made_long_name : ℕ → List Name → Option (LongName × List Name)
made_long_name c [] = None
made_long_name c (n ∷ ws) = Some (long_name (top (c - 1) ws) n, drop (c - 1) ws)

-- one more long name, of so many words
unfoldable pub pushed_long_name : ℕ → List Name → List LongName → Option (List Name × List LongName)
pushed_long_name c ws xs = option_map (λ p. (p.1, p.0 ∷ xs)) (made_long_name c ws)

-- one more word
unfoldable pub made_word : Lexeme → List Name → List Name
made_word t ws = name_of t ∷ ws
