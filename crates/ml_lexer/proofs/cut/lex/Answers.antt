use Rattle.std.proofs.Common.{◌≡◌, ℕ, List, Ok, map, sym, ◌∙◌, ap, subst}
use Rattle.fx_base.specs.declared.refusal.Place.{Place}
use Rattle.ml_lexer.specs.declared.token.Token.{Token}
use Rattle.ml_lexer.specs.Lexeme.{LexedText, lexeme_at, lexed_text}
use Rattle.ml_lexer.specs.Lexes.{Lexes, first_place}
use Rattle.ml_lexer.specs.Pieces.{read_from}
use Rattle.fx_base.specs.declared.refusal.Refusal.TheVariants.{Syntax}
use Rattle.ml_lexer.proofs.Readings.{read_lexes, read_faults, one_list, one_fault, no_fault}
use Rattle.ml_lexer.proofs.cut.lex.Goals as goal

lexed : (bytes source : List ℕ) (items : List Token) (end : Place) (text : LexedText) → read_from first_place bytes ≡ Ok (map (lexeme_at bytes) items) → source ≡ bytes → text ≡ lexed_text source items end → Lexes bytes text.lexemes
lexed bytes source items end text read copied h =
    let same : text.lexemes ≡ map (lexeme_at bytes) items = ap (λ t. t.lexemes) h ∙ ap (λ us. map (lexeme_at us) items) copied in
    subst (Lexes bytes) (sym same) (read_lexes bytes (map (lexeme_at bytes) items) read)

pub returns-in_ok-to_vec-in-Ok-clause-ok : goal.returns-in_ok-to_vec-in-Ok-clause-ok
returns-in_ok-to_vec-in-Ok-clause-ok c = lexed c.args.bytes.now _ c.in-Ok.tokens.items c.in-Ok.end c.new.result (rw c.in-Ok.is at c.in_ok-tokens.ensures.read) (c.in_ok-to_vec-in-Ok.ensures.items_if_clones_equal (λ x y e. e)) c.new.ensures

pub returns-in_ok-to_vec-in-Ok-clause-one : goal.returns-in_ok-to_vec-in-Ok-clause-one
returns-in_ok-to_vec-in-Ok-clause-one c other h = one_list c.args.bytes.now other c.new.result.lexemes h
    (lexed c.args.bytes.now _ c.in-Ok.tokens.items c.in-Ok.end c.new.result (rw c.in-Ok.is at c.in_ok-tokens.ensures.read) (c.in_ok-to_vec-in-Ok.ensures.items_if_clones_equal (λ x y e. e)) c.new.ensures)

pub returns-in-Err-clause-refused : goal.returns-in-Err-clause-refused
returns-in-Err-clause-refused c = read_faults c.args.bytes.now c.in-Err.place (rw c.in-Err.is at c.in_ok-tokens.ensures.fault)

pub returns-in-Err-clause-syntax : goal.returns-in-Err-clause-syntax
returns-in-Err-clause-syntax c _ other h = no_fault c.args.bytes.now other c.in-Err.place h (read_faults c.args.bytes.now c.in-Err.place (rw c.in-Err.is at c.in_ok-tokens.ensures.fault))

pub returns-in-Err-clause-place : goal.returns-in-Err-clause-place
returns-in-Err-clause-place c place h _ = ap Syntax (one_fault c.args.bytes.now c.in-Err.place place (read_faults c.args.bytes.now c.in-Err.place (rw c.in-Err.is at c.in_ok-tokens.ensures.fault)) h)
