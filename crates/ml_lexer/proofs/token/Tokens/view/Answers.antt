use Rattle.std.proofs.Common.{◌<◌, length, subst, sym}
use Rattle.std.proofs.lemmas.List.{length-map}
use Rattle.ml_lexer.specs.Lexeme.{lexeme_at}
use Rattle.ml_lexer.proofs.Drops.{drop-map_at}
use Rattle.ml_lexer.proofs.token.Tokens.view.Goals as goal

pub returns : goal.returns
returns c =
    let items = c.self.inside.items.items in
    let in_items : c.args.i < length items = subst (λ n. c.args.i < n) (length-map items (lexeme_at c.self.inside.source.items)) (subst (λ v. c.args.i < length v.lexemes) (sym c.self.view_is) c.requires) in
    rw (c.deref.ensures.value, ← c.self.view_is) (drop-map_at (lexeme_at c.self.inside.source.items) items c.args.i c.index-token.result.now in_items c.index-token.ensures)
