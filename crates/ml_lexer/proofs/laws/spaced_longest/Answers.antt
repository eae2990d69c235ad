use Rattle.ml_lexer.proofs.Spaced.{formed_spaced, lexeme_spaced}
use Rattle.ml_lexer.proofs.laws.spaced_longest.Goals as goal

pub returns-clause-token : goal.returns-clause-token
returns-clause-token c = lexeme_spaced

pub returns-clause-formed : goal.returns-clause-formed
returns-clause-formed c = formed_spaced
