use Rattle.std.proofs.Common.{◌≡◌, ◌-◌, ◌∷◌, length, ap, arith, rules}
use Rattle.std.proofs.lemmas.Result.{err_from_is_err_and}
use Rattle.effects_top.specs.Form.{Product, Sum, factor, summand}
use Rattle.effects_top.proofs.Forms.{literal-read, bracket-read, begun, unbegun, gone_on, stuck, come_to_end}
use Rattle.effects_top.proofs.reader.+expression.Goals as goal

pub atom-returns-in_ok-push-in-Literal-clause-read : goal.atom-returns-in_ok-push-in-Literal-clause-read
atom-returns-in_ok-push-in-Literal-clause-read t c =
    literal-read c.args.room c.in-Literal.value c.args.tokens.now c.in-Some.rest.now c.args.postfix.now.items c.push.new.self.items
    (let e : c.args.tokens.now ≡ c.in-Some.first.now ∷ c.in-Some.rest.now = search (rules, c.in-Some.ensures.cases) in cc) c.in_ok-push-in-Literal.ensures.items

pub atom-returns-in-Some-closed-clause-read : goal.atom-returns-in-Some-closed-clause-read
atom-returns-in-Some-closed-clause-read t c =
    bracket-read c.args.room (c.args.room - 1) c.args.tokens.now c.in-Some.rest.now c.in_ok-inner-in-Open.inner.now c.in-Some-closed.behind.now c.args.postfix.now.items c.sum.new.postfix.items
    (omega arith) (let e : c.args.tokens.now ≡ c.in-Some.first.now ∷ c.in-Some.rest.now = search (rules, c.in-Some.ensures.cases) in cc) c.in-Some-closed.ensures c.in_ok-inner-in-Open.ensures.read

pub product-returns-in_err-rest-clause-unread : goal.product-returns-in_err-rest-clause-unread
product-returns-in_err-rest-clause-unread t c =
    let p = err_from_is_err_and c.from_residual.result c.from_residual.ensures.1 in
    rw (p.1, p.2) (λ e. unbegun Product c.args.room c.args.tokens.now (λ a. cc) (c.in_err-rest.ensures.unread e))

pub product-loop-operation-init : goal.product-loop-operation-init
product-loop-operation-init t c = record {
  on = begun Product c.args.room c.args.tokens.now c.in_ok-rest.rest.now c.args.postfix.now.items c.atom.new.postfix.items (λ a. cc) (λ e d. factor d) c.in_ok-rest.ensures.read;
  shorter = c.in_ok-rest.ensures.shorter;
}

pub product-returns-in_err-rest-2-clause-unread : goal.product-returns-in_err-rest-2-clause-unread
product-returns-in_err-rest-2-clause-unread t c =
    let p = err_from_is_err_and c.from_residual-in_err-rest-2.result c.from_residual-in_err-rest-2.ensures.1 in
    let o = c.in-Some.ensures in
    rw (p.1, p.2) (λ e. stuck Product c.args.room c.args.tokens.now c.in-Some.right.now o.0 c.in-Some.operation c.args.postfix.now.items c.loop-operation.postfix.items o.2 (rw o.1 at c.loop-operation.invariant.on) (c.in_err-rest-2.ensures.unread e))

pub product-loop-operation-preserved : goal.product-loop-operation-preserved
product-loop-operation-preserved t c = let o = c.in-Some.ensures in record {
  on = gone_on Product c.args.room c.args.tokens.now c.in-Some.right.now c.in_ok-rest-2.rest.now o.0 c.in-Some.operation c.args.postfix.now.items c.loop-operation.postfix.items c.atom-in-Some.new.postfix.items c.push.new.self.items
      o.2 (rw o.1 at c.loop-operation.invariant.on) c.in_ok-rest-2.ensures.read c.in_ok-push.ensures.items;
  shorter = omega (arith, ap length o.1, c.in_ok-rest-2.ensures.shorter, c.loop-operation.invariant.shorter);
}

pub product-returns-clause-read : goal.product-returns-clause-read
product-returns-clause-read t c = come_to_end Product c.args.room c.args.tokens.now _ c.args.postfix.now.items _ c.in_default.ensures c.loop-operation.invariant.on

pub sum-returns-in_err-rest-clause-unread : goal.sum-returns-in_err-rest-clause-unread
sum-returns-in_err-rest-clause-unread t c =
    let p = err_from_is_err_and c.from_residual.result c.from_residual.ensures.1 in
    rw (p.1, p.2) (λ e. unbegun Sum c.args.room c.args.tokens.now (λ a. cc) (c.in_err-rest.ensures.unread e))

pub sum-loop-operation-init : goal.sum-loop-operation-init
sum-loop-operation-init t c = record {
  on = begun Sum c.args.room c.args.tokens.now c.in_ok-rest.rest.now c.args.postfix.now.items c.product.new.postfix.items (λ a. cc) (λ e d. summand d) c.in_ok-rest.ensures.read;
  shorter = c.in_ok-rest.ensures.shorter;
}

pub sum-returns-in_err-rest-2-clause-unread : goal.sum-returns-in_err-rest-2-clause-unread
sum-returns-in_err-rest-2-clause-unread t c =
    let p = err_from_is_err_and c.from_residual-in_err-rest-2.result c.from_residual-in_err-rest-2.ensures.1 in
    let o = c.in-Some.ensures in
    rw (p.1, p.2) (λ e. stuck Sum c.args.room c.args.tokens.now c.in-Some.right.now o.0 c.in-Some.operation c.args.postfix.now.items c.loop-operation.postfix.items o.2 (rw o.1 at c.loop-operation.invariant.on) (c.in_err-rest-2.ensures.unread e))

pub sum-loop-operation-preserved : goal.sum-loop-operation-preserved
sum-loop-operation-preserved t c = let o = c.in-Some.ensures in record {
  on = gone_on Sum c.args.room c.args.tokens.now c.in-Some.right.now c.in_ok-rest-2.rest.now o.0 c.in-Some.operation c.args.postfix.now.items c.loop-operation.postfix.items c.product-in-Some.new.postfix.items c.push.new.self.items
      o.2 (rw o.1 at c.loop-operation.invariant.on) c.in_ok-rest-2.ensures.read c.in_ok-push.ensures.items;
  shorter = omega (arith, ap length o.1, c.in_ok-rest-2.ensures.shorter, c.loop-operation.invariant.shorter);
}

pub sum-returns-clause-read : goal.sum-returns-clause-read
sum-returns-clause-read t c = come_to_end Sum c.args.room c.args.tokens.now _ c.args.postfix.now.items _ c.in_default.ensures c.loop-operation.invariant.on
