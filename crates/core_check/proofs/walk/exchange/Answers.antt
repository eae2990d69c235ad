use Rattle.std.proofs.Common.{◌≡◌, ◌-◌, ℕ, List, length, drop, take, reverse, true, arith}
use Rattle.core_check.specs.Walk.{none_held, all_held, bound_behind}
use Rattle.core_check.proofs.Lists.{exchanged}
use Rattle.core_check.proofs.walk.exchange.Goals as goal

pub returns : goal.returns
returns c = λ h.
    let now : List ℕ = c.args.names.now in
    let n : ℕ = c.args.first in
    let is : c.in_ok-right.right ≡ reverse (take (length now - n) now) = grind arith in
    let held : all_held now c.args.list.now ≡ true = grind arith in
    let none : none_held (drop (length now - n) now) c.args.list.now ≡ true = grind arith in
    let none_right : none_held (drop (length now - n) now) c.in_ok-right.right ≡ true = grind arith in
    let bound : c.bind_each.new.self ≡ bound_behind (drop (length now - n) now) c.args.list.now = grind arith in
    let held_right : all_held c.bind_each.new.self c.in_ok-right.right ≡ true = grind arith in
    exchanged c.args.list.now c.in_ok-right.right now c.bind_each.new.self n is held none none_right bound held_right
