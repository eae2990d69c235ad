use Rattle.std.proofs.Common.{refl, lit<}
use Rattle.rv_model.proofs.WellFormed.{well_formed-none, well_formed-first}
use Rattle.rv_asm.proofs.tests.listed.Goals as goal

pub new-requires-clause-well_formed : goal.new-requires-clause-well_formed
new-requires-clause-well_formed g c = rw c.in_ok-from_slice.ensures.items (well_formed-first _ _ (lit< tt, lit< tt, lit< tt, refl) (well_formed-first _ _ (lit< tt, lit< tt, lit< tt, refl) (well_formed-first _ _ (lit< tt, lit< tt, lit< tt, refl) (well_formed-first _ _ (lit< tt, lit< tt, lit< tt, refl) (well_formed-first _ _ (lit< tt, lit< tt, lit< tt, refl) (well_formed-first _ _ (lit< tt, lit< tt, lit< tt, refl) (well_formed-first _ _ (lit< tt, lit< tt, lit< tt, refl) (well_formed-first _ _ (lit< tt, lit< tt, lit< tt, refl) (well_formed-first _ _ (lit< tt, lit< tt, lit< tt, refl) (well_formed-first _ _ (lit< tt, lit< tt, lit< tt, refl) (well_formed-none)))))))))))

pub new-requires-2-clause-well_formed : goal.new-requires-2-clause-well_formed
new-requires-2-clause-well_formed g c = rw c.in_ok-from_slice-2.ensures.items (well_formed-first _ _ (lit< tt, lit< tt, lit< tt, refl) (well_formed-first _ _ (lit< tt, lit< tt, lit< tt, refl) (well_formed-none)))
