use Rattle.std.proofs.Common.{ap, ◌∙◌, ℕ, Some, sym, refl}
use Rattle.std.proofs.lemmas.Option.{get_or_from_slice_get, slice_get_read}
use Rattle.std.specs.Prelude.{◌==◌, if◌then◌else◌}
use Rattle.rv_model.specs.Machine.{set_word}
use Rattle.rv_model.specs.Machine.{words_of}
use Rattle.rv_model.proofs.Lists.{set_words}
use Rattle.rv_step.proofs.vec_memory.VecMemoryMemory.compare_exchange.Goals as goal

pub returns-clause-told : goal.returns-clause-told
returns-clause-told c =
    ap Some (set_words c.args.self.now.words.items c.args.at c.exchanged.result c.requires.inside
    ∙ ap (set_word (words_of c.args.self.now.words.items) c.args.at) (c.exchanged.ensures ∙ ap (λ (n : ℕ). if n == c.args.expected then c.args.value else n) (sym (get_or_from_slice_get c.args.self.now.words.items c.args.at _ 0 (slice_get_read c.args.self.now.words.items _ c.args.at _ refl c.requires.inside c.index.ensures)))))
