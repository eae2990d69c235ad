use Rattle.std.proofs.Common.{◌+◌, drop}
use Rattle.ml_lexer.specs.Seen.{seen}
use Rattle.ml_builder.proofs.TokenAt.{first_of_rest}
use Rattle.ml_builder.proofs.reduce.token_at.Goals as goal

pub returns-then-number-len : goal.returns-then-number-len
returns-then-number-len c =
    first_of_rest c.args.tokens.now.lexemes (drop (c.args.number + 1) c.args.tokens.now.lexemes) c.args.number (seen c.view.result) c.view.ensures
