use Rattle.std.proofs.Common.{◌≡◌, ◌+◌, ap, length, nat_lt, true, arith}
use Rattle.std.specs.List.{list_all}
use Rattle.effect_meaning.specs.Scoped.{go_up}
use Rattle.core_check.specs.declared.known.Known.{Known}
use Rattle.core_check.specs.Declares.{effect_test}
use Rattle.core_check.proofs.DeclaredItems.{effects_lead}
use Rattle.core_check.proofs.declared.effects_hold.Goals as goal

pub returns : goal.returns
returns c =
    let k : Known = c.args.known in
    let there : nat_lt c.args.extended k.types ≡ true = grind arith in
    let up : go_up k.effects c.args.rows.now ≡ true = grind arith in
    let test : list_all (effect_test c.args.arena.now c.args.tables.now k) c.args.rows.now ≡ true = grind arith in
    let count : c.in_ok-effects.effects ≡ k.effects + length c.args.rows.now = grind arith in
    effects_lead c.args.arena.now c.args.tables.now k (record k { effects = c.in_ok-effects.effects }) c.args.extended c.args.rows.now there up test
    (ap (λ n. record k { effects = n }) count)
