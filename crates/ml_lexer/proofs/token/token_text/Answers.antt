use Rattle.std.proofs.Common.{drop, ◌+◌}
use Rattle.ml_lexer.specs.Seen.{seen}
use Rattle.ml_lexer.proofs.TextAt.{text_at}
use Rattle.ml_lexer.proofs.token.token_text.Goals as goal

pub returns : goal.returns
returns c = text_at c.args.tokens.now.lexemes (drop (c.args.i + 1) c.args.tokens.now.lexemes) (seen c.view.result) c.args.i c.view.ensures
