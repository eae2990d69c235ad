use Rattle.std.proofs.Common.{◌≡◌, [], ◌∷◌}
use Rattle.rv_model.specs.declared.line.Line.{Line}
use Rattle.effects_top.proofs.compile.emit_constant.Goals as goal

six : {s a b c d e f a' b' c' d' e' f' : Line} → a ≡ a' → b ≡ b' → c ≡ c' → d ≡ d' → e ≡ e' → f ≡ f'
    → a ∷ s ∷ b ∷ s ∷ c ∷ s ∷ d ∷ s ∷ e ∷ s ∷ f ∷ [] ≡ a' ∷ s ∷ b' ∷ s ∷ c' ∷ s ∷ d' ∷ s ∷ e' ∷ s ∷ f' ∷ []
six {s} p q r t u v = λ n. p n ∷ s ∷ q n ∷ s ∷ r n ∷ s ∷ t n ∷ s ∷ u n ∷ s ∷ v n ∷ []

pub returns : goal.returns
returns c = rw (six c.add_low_bits.ensures c.add_low_bits-2.ensures c.add_low_bits-3.ensures c.add_low_bits-4.ensures c.add_low_bits-5.ensures c.add_low_bits-6.ensures) at c.put_all.ensures
