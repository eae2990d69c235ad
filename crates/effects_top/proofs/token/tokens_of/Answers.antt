use Rattle.std.proofs.Common.{sym}
use Rattle.effects_top.proofs.Spellings.{past_blank, past_token, past_none, spelled_all, spelled_only}
use Rattle.effects_top.proofs.token.tokens_of.Goals as goal

pub loop-first-preserved-then-is_blank_byte : goal.loop-first-preserved-then-is_blank_byte
loop-first-preserved-then-is_blank_byte c =
    past_blank c.args.text.now c.loop-first.rest.now c.in-Some.others.now c.in-Some.first.now c.loop-first.tokens.items c.in-Some.ensures.cases.0 (sym c.if-is_blank_byte.ensures) c.loop-first.invariant

pub returns-in_default-token_of-clause-none : goal.returns-in_default-token_of-clause-none
returns-in_default-token_of-clause-none c =
    past_none c.args.text.now c.loop-first.rest.now c.in-Some.others.now c.split_at.result.0.now c.in-Some.first.now c.loop-first.tokens.items
    c.in-Some.ensures.cases.0 (sym c.if-is_blank_byte.ensures) (rw (← c.piece_len.ensures.value) c.split_at.ensures.front) c.in_default-token_of.ensures c.loop-first.invariant

pub loop-first-preserved : goal.loop-first-preserved
loop-first-preserved c =
    past_token c.args.text.now c.loop-first.rest.now c.in-Some.others.now c.split_at.result.0.now c.split_at.result.1.now c.in-Some.first.now c.in-Some-token_of.token c.loop-first.tokens.items c.push.new.self.items
    c.in-Some.ensures.cases.0 (sym c.if-is_blank_byte.ensures) (rw (← c.piece_len.ensures.value) c.split_at.ensures.front) (rw (← c.piece_len.ensures.value) c.split_at.ensures.back)
    c.in-Some-token_of.ensures c.in_ok-push.ensures.items c.loop-first.invariant

pub returns-clause-some : goal.returns-clause-some
returns-clause-some c = spelled_all c.args.text.now c.loop-first.rest.now c.loop-first.tokens.items c.in_default.ensures.cases c.loop-first.invariant

pub returns-clause-only : goal.returns-clause-only
returns-clause-only c = spelled_only c.args.text.now c.loop-first.rest.now c.loop-first.tokens.items c.in_default.ensures.cases c.loop-first.invariant
