use Rattle.type_terms.proofs.MostGeneral.{decides_comparisons, alike, decides_size}
use Rattle.type_terms.proofs.most_general_decides.Goals as goal

-- src/lib.rt
pub returns : goal.returns
returns c = record { comparisons = decides_comparisons; alike = alike; size = decides_size }
