-- The filter's no is right, and else the search decides.
use Rattle.std.proofs.Common.{ap, sym, ◌∙◌, not}
use Rattle.index_methods.proofs.SeenBits.{member_any, seen-too}
use Rattle.index_methods.proofs.seen.Seen.is_new.Goals as goal

pub returns-then-not-sight : goal.returns-then-not-sight
returns-then-not-sight g c = (rw (c.sight.ensures.new _ c.requires c.if-not-sight.true) cc, seen-too c.args.v c.args.self.now.bits _ _ _ c.sight.ensures c.requires)

pub returns-else-not-sight : goal.returns-else-not-sight
returns-else-not-sight g c = (ap not (c.contains.ensures.value ∙ sym (member_any c.args.v c.args.held.now)), seen-too c.args.v c.args.self.now.bits _ _ _ c.sight.ensures c.requires)
