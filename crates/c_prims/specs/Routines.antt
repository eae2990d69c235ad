-- Operations.
use Rattle.std.specs.Prelude.{List}
use Rattle.rv_model.specs.declared.line.Line.{Line}
use Rattle.c_prims.specs.Arithmetic.{arithmetic_lines}
use Rattle.c_prims.specs.Numerals.{digits_lines}
use Rattle.c_prims.specs.Printing.{printing_lines}
use Rattle.c_prims.specs.Strings.{strings_lines}
use Rattle.c_prims.specs.Comparing.{comparing_lines}
use Rattle.c_prims.specs.Arrays.{arrays_lines}
use Rattle.c_prims.specs.Iterating.{iterating_lines}
use Rattle.c_prims.specs.Trying.{trying_lines}
use Rattle.c_prims.specs.Texts.{texts_lines}

-- all routines
abbrev pub c_prims_lines : List Line → List Line
c_prims_lines tail = arithmetic_lines (digits_lines (printing_lines (strings_lines (comparing_lines (arrays_lines (iterating_lines (trying_lines (texts_lines tail))))))))
