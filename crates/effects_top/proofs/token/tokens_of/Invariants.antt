use Rattle.std.proofs.Common.{length}
use Rattle.effects_top.proofs.Spellings.{SpellsOn}
use Rattle.effects_top.proofs.token.tokens_of.Given as goal

abbrev pub decreases-loop-first : goal.decreases-loop-first
decreases-loop-first l = length l.rest

-- the tokens so far and those of the rest are those of the text
abbrev pub invariant-loop-first : goal.invariant-loop-first
invariant-loop-first l = SpellsOn l.text l.rest l.tokens.items
