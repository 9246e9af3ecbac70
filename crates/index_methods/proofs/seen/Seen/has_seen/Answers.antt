-- An index with a bit that is not set is none of those seen.
use Rattle.std.proofs.Common.{◌≡◌, length, sym, ap, ◌∙◌, inl, inr, arith}
use Rattle.index_methods.specs.Seen.{bit_at}
use Rattle.index_methods.proofs.SeenBits.{unseen}
use Rattle.index_methods.proofs.seen.Seen.has_seen.Goals as goal

pub returns-then-is_marked : goal.returns-then-is_marked
returns-then-is_marked g c =
    let size : length c.args.self.now.bits ≡ g.row.WORDS = omega arith in
    λ vs m e. unseen c.args.self.now.bits vs c.args.v m (inr (rw size (ap (bit_at c.args.self.now.bits) (sym c.second_place.ensures) ∙ sym c.is_marked-then-is_marked.ensures ∙ e)))

pub returns-else-is_marked : goal.returns-else-is_marked
returns-else-is_marked g c =
    let size : length c.args.self.now.bits ≡ g.row.WORDS = omega arith in
    λ vs m e. unseen c.args.self.now.bits vs c.args.v m (inl (rw size (sym c.is_marked.ensures ∙ e)))
