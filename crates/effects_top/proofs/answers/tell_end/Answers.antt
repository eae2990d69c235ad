use Rattle.effects_top.proofs.answers.tell_end.Goals as goal

pub returns-in-Uncaught : goal.returns-in-Uncaught
returns-in-Uncaught g c = rw c.in-Uncaught.is (rw c.as_slice.ensures at c.tell_text.ensures)

pub returns-in-HeapFull : goal.returns-in-HeapFull
returns-in-HeapFull g c = rw c.in-HeapFull.is c.tell_three.ensures

pub returns-in-StackFull : goal.returns-in-StackFull
returns-in-StackFull g c = rw c.in-StackFull.is c.tell_two.ensures

pub returns-in-CallsFull : goal.returns-in-CallsFull
returns-in-CallsFull g c = rw c.in-CallsFull.is c.tell_active.ensures

pub returns-in-OutputFull : goal.returns-in-OutputFull
returns-in-OutputFull g c = rw c.in-OutputFull.is c.tell_three-in-OutputFull.ensures

pub returns-in-BudgetSpent : goal.returns-in-BudgetSpent
returns-in-BudgetSpent g c = rw c.in-BudgetSpent.is c.tell_two-in-BudgetSpent.ensures

pub returns-in-Deadlock : goal.returns-in-Deadlock
returns-in-Deadlock g c = rw c.in-Deadlock.is c.write_all.ensures

pub returns-in-Broken : goal.returns-in-Broken
returns-in-Broken g c = rw c.in-Broken.is c.write_all-in-Broken.ensures
