-- `Block::append_hex` meets its contract: the digits of so many bytes are put. Assumes nothing.
use Rattle.std.proofs.Common.{take}
use Rattle.command_line.specs.Block.{Extends}
use Rattle.command_line.specs.Spell.{hex_text}
use Rattle.command_line.proofs.block.Block.append_hex.Given as goal

abbrev pub invariant-loop-byte : goal.invariant-loop-byte
invariant-loop-byte l = Extends l.initial.self (record (l.self) { used = l.at }) (hex_text (take l.byte-index l.bytes))
