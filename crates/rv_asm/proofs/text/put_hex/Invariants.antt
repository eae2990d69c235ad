use Rattle.std.proofs.Common.{◌≡◌, ◌++◌, take}
use Rattle.rv_asm.specs.Text.{hex_bytes}
use Rattle.rv_asm.proofs.text.put_hex.Given as goal

-- the digits of the bytes so far
abbrev pub invariant-loop-byte : goal.invariant-loop-byte
invariant-loop-byte l = l.text.items ≡ l.initial.text.items ++ hex_bytes (take l.byte-index l.bytes)
