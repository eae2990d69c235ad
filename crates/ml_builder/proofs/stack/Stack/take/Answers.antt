use Rattle.std.proofs.Common.{arith}
use Rattle.ml_builder.proofs.Stacks.{last_of_items, first_of_items}
use Rattle.ml_builder.proofs.stack.Stack.take.Goals as goal

pub returns-clause-taken : goal.returns-clause-taken
returns-clause-taken g c = grind (arith, last_of_items c.args.count c.self.inside.items.items)

pub returns-clause-left : goal.returns-clause-left
returns-clause-left g c = grind (arith, first_of_items c.args.count c.self.inside.items.items)
