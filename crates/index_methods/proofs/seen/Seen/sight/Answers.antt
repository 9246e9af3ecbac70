-- The answer is no exactly if one of the two bits was not set.
use Rattle.std.proofs.Common.{◌≡◌, length, inl, inr, arith}
use Rattle.index_methods.proofs.SeenBits.{sighted}
use Rattle.index_methods.proofs.seen.Seen.sight.Goals as goal

pub returns-then-first : goal.returns-then-first
returns-then-first g c =
    let l = c.args.self.now.bits in
    let size : length c.args.self.now.bits ≡ g.row.WORDS = omega arith in
    sighted c.args.v l c.mark-first.new.self.bits c.mark-second.new.self.bits c.mark-first.result c.mark-second.result c.mark-second.result (rw size c.mark-first.ensures)
    (rw size (rw c.second_place.ensures at c.mark-second.ensures)) (λ e. inr e)

pub returns-else-first : goal.returns-else-first
returns-else-first g c =
    let l = c.args.self.now.bits in
    let size : length c.args.self.now.bits ≡ g.row.WORDS = omega arith in
    sighted c.args.v l c.mark-first.new.self.bits c.mark-second.new.self.bits c.mark-first.result c.mark-second.result c.mark-first.result (rw size c.mark-first.ensures)
    (rw size (rw c.second_place.ensures at c.mark-second.ensures)) (λ e. inl e)
