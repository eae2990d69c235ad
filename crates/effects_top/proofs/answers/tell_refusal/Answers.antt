use Rattle.effects_top.proofs.answers.tell_refusal.Goals as goal

pub returns-in-Syntax : goal.returns-in-Syntax
returns-in-Syntax g c = rw c.in-Syntax.is c.tell_place.ensures

pub returns-in-Name : goal.returns-in-Name
returns-in-Name g c = rw c.in-Name.is c.tell_place-in-Name.ensures

pub returns-in-IllTyped : goal.returns-in-IllTyped
returns-in-IllTyped g c = rw c.in-IllTyped.is c.tell_place-in-IllTyped.ensures

pub returns-in-Limit : goal.returns-in-Limit
returns-in-Limit g c = rw c.in-Limit.is c.tell_limit.ensures

pub returns-in-Memory : goal.returns-in-Memory
returns-in-Memory g c = rw c.in-Memory.is c.write_all-in-Memory.ensures
