use Rattle.rv_asm.proofs.Telling.{listing_tells}
use Rattle.rv_asm.proofs.list.listings_differ.Goals as goal

pub returns : goal.returns
returns c = listing_tells
