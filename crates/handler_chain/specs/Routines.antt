-- Handlers.
use Rattle.std.specs.Prelude.{List}
use Rattle.rv_model.specs.declared.line.Line.{Line}
use Rattle.handler_chain.specs.Handling.{handling_lines}
use Rattle.handler_chain.specs.Searching.{searching_lines}
use Rattle.handler_chain.specs.Resuming.{resuming_lines}
use Rattle.handler_chain.specs.Waiting.{waiting_lines}

-- all routines
abbrev pub handler_chain_lines : List Line → List Line
handler_chain_lines tail = handling_lines (searching_lines (resuming_lines (waiting_lines tail)))
