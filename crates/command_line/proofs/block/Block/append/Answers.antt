-- `Block::append` meets its contract. Assumes nothing.
use Rattle.std.proofs.Common.{rules, refl, ◌+◌, ◌∙◌, arith, length}
use Rattle.std.proofs.lemmas.Slice.{take-put_mid}
use Rattle.command_line.proofs.Blocks.{kept_behind}
use Rattle.command_line.proofs.block.Block.append.Goals as goal

pub returns : goal.returns
returns c =
    let s = c.args.self.now in
    let t = c.copy_from_slice.new.self in
    record {
      same_reference = refl;
      room = search rules;
      used = refl;
      front = take-put_mid s.used _ s.bytes.now t _ (omega (arith, c.copy_from_slice.ensures.len)) (omega (arith, c.requires)) ∙ search rules;
      rest = kept_behind s.bytes.now t s.used (s.used + length c.args.text.now) (omega arith) (omega (arith, c.requires)) (omega (arith, c.copy_from_slice.ensures.len));
    }
