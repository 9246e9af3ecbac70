use Rattle.std.proofs.Common.{◌≡◌, ◌+◌, arith}
use borrow.Rule.Slice.Mut.{set_vals}
use lib.ListN.{set}
use Rattle.command_line.specs.declared.block.Block.{Block}
use Rattle.std.proofs.lemmas.List.{length-set}
use Rattle.command_line.proofs.Blocks.{then, byte_put}
use Rattle.command_line.proofs.HexText.{begin_text, turn_text, length-front}
use Rattle.command_line.proofs.block.Block.append_hex.Goals as goal

pub loop-byte-init : goal.loop-byte-init
loop-byte-init c = begin_text _ c.args.bytes.now

pub bounds-self-at : goal.bounds-self-at
bounds-self-at c =
    let l = c.loop-byte in
    omega (arith, l.invariant.used, l.invariant.room, c.requires, length-front c.args.bytes.now l.byte-index (omega arith))

pub bounds-self-at-in-loop-byte : goal.bounds-self-at-in-loop-byte
bounds-self-at-in-loop-byte c =
    let l = c.loop-byte in
    omega (
      arith,
      length-set l.self.bytes.now l.at c.upper_digit.result,
      l.invariant.used,
      l.invariant.room,
      c.requires,
      length-front c.args.bytes.now l.byte-index (omega arith),
    )

pub loop-byte-preserved : goal.loop-byte-preserved
loop-byte-preserved c =
    let l = c.loop-byte in
    let size = length-front c.args.bytes.now l.byte-index (omega arith) in
    let a : Block = record (l.self) { used = l.at } in
    let upper = byte_put a c.upper_digit.result (omega (arith, l.invariant.used, l.invariant.room, c.requires, size)) in
    let b : Block = record { bytes = set_vals (set l.self.bytes.now l.at c.upper_digit.result) l.self.bytes; used = l.at + 1 } in
    let long = length-set l.self.bytes.now l.at c.upper_digit.result in
    let lower = byte_put b c.lower_digit.result (omega (arith, long, l.invariant.used, l.invariant.room, c.requires, size)) in
    let two : l.at + 1 + 1 ≡ l.at + 2 = omega arith in
    rw (← two) (turn_text _ _ _ _ _ _ _ (omega arith) c.upper_digit.ensures c.lower_digit.ensures l.invariant (then _ _ _ _ _ upper lower))
