-- `after` meets its contract: the coins that are not used stand above zeros. Assumes nothing.
use native.Mathlib.Omega.{arith}
use Rattle.coin_flipper.proofs.Chunk.{kept_low}
use Rattle.coin_flipper.proofs.CoinFlipper.after.Goals as goal

pub invariant_of-result : goal.invariant_of-result
invariant_of-result c =
    let s = c.args.self in
    record { upto = omega (arith, s.upto); low = kept_low s.chunk s.chunk_remaining c.args.n s.upto c.requires.1 s.low }
