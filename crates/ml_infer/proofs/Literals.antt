-- Terms behind their types, one by one.
use Rattle.std.proofs.Common.{◌≡◌, ℕ, suc, Bool, false, Ok, Err, refl}
use Rattle.effect_meaning.specs.Arena.{Parts}
use Rattle.ml_infer.specs.Items.{literal_at, is_function_at}

-- the term tells
pub function_told : (k j : ℕ) (p : Parts) (n : ℕ) (is : Bool) → k ≡ suc j → literal_at p n ≡ Ok is → is_function_at k p n ≡ is
unfolding is_function_at
function_told k j p n is e h = rw (e, h) refl

-- the term behind its type tells
pub function_behind : (k j : ℕ) (p : Parts) (n m : ℕ) → k ≡ suc j → literal_at p n ≡ Err m → is_function_at j p m ≡ is_function_at k p n
unfolding is_function_at
function_behind k j p n m e h = rw (e, h) refl

-- no further term is looked at
pub function_none : (k : ℕ) (p : Parts) (n : ℕ) → k ≡ 0 → is_function_at k p n ≡ false
unfolding is_function_at
function_none k p n e = rw e refl
