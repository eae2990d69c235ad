-- Tests that hold and tests that fail.
use Rattle.std.proofs.Common.{◌≡◌, Bool, true, false, ◌||◌, ◌&&◌, refl}
use Rattle.std.specs.Prelude.{IsTrue}

-- a test that fails doesn't hold
pub fails : IsTrue false → ⊥
fails h = absurd (cc)

-- both tests hold
pub both_hold : (a b : Bool) → IsTrue (a && b) → IsTrue a × IsTrue b
both_hold true b h = (refl, h)
both_hold false b h = absurd (fails h)

-- one of two tests holds
pub either_holds : (a b : Bool) → IsTrue b → IsTrue (a || b)
either_holds true b h = refl
either_holds false b h = h

pub first_holds : (a b : Bool) → IsTrue a → IsTrue (a || b)
first_holds true b h = refl
first_holds false b h = absurd (fails h)

-- both tests fail
pub both_fail : (a b : Bool) → (a || b) ≡ false → (a ≡ false) × (b ≡ false)
both_fail true b h = absurd (cc)
both_fail false b h = (refl, h)
