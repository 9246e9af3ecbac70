-- The loop over a change's items.
-- Assumes nothing.
use mathlib.Core.Path.{◌≡◌, refl, sym, ap, ◌∙◌}
use mathlib.Core.List.{List, [], ◌∷◌}
use mathlib.Core.Option.{none, some}
use Prim.Native.Nat.{ℕ, zero, suc, ◌+◌, ◌-◌, ◌*◌, ◌^◌, ◌≤◌, ◌<◌}
use native.Mathlib.Numerals.{add-one}
use native.Mathlib.Omega.{arith}
use lib.ListN.{length, drop, get_or, set, length-set, drop_of_length-le}
use lib.Seq.{drop-cons, get_or-set_other}
use Rattle.refusal.specs.Answer.{done, declined}
use Rattle.refusal.specs.declared.Refusal.{Refusal}
use Rattle.refusal.specs.declared.Refusal.TheVariants.{PlacesNotIncreasing, PlaceOutOfRange}
use Rattle.counting.specs.Lists.{Below}
use Rattle.weighted_index.specs.Weights.{most_weights, most_total, total}
use Rattle.update_weights.specs.Change.{replaced, places_refusal, check_of}
use Rattle.weighted_index.proofs.Totals.{total-nil, total-cons, total-set, get_or-le-total}
use Rattle.update_weights.proofs.Items.{place-order, place-range, place-goes, no-places, item-replaced, none-replaced}

-- ---- weights of 32 bits

-- no weight is above the total
each-small : (ws : List ℕ) → total ws ≤ most_total → Below (2 ^ 32) ws
each-small [] h = tt
each-small (w ∷ ws) h = let e = total-cons w ws in (omega arith, each-small ws (omega arith))

set-small : (ws : List ℕ) (i v : ℕ) → Below (2 ^ 32) ws → v < 2 ^ 32 → Below (2 ^ 32) (set ws i v)
set-small [] i v b h = tt
set-small (w ∷ ws) zero v b h = (h, b.1)
set-small (w ∷ ws) (suc i) v b h = (b.0, set-small ws i v b.1 h)

-- as many as a table may have add up to less than 2 ^ 64
total-small : (ws : List ℕ) → Below (2 ^ 32) ws → total ws ≤ (2 ^ 32 - 1) * length ws
total-small [] b = omega (arith, total-nil)
total-small (w ∷ ws) b = omega (arith, total-cons w ws, b.0, total-small ws b.1)

-- ---- the loop

-- the first j items are looked at: the weights with those replaced add up to running, and places go on from least
pub record Checking (ws ps vs : List ℕ) (running least j : ℕ) : Type 0 where
  pub weights : List ℕ
  pub upto : j ≤ length ps
  pub same : length ps ≡ length vs
  pub size : length weights ≡ length ws
  pub each : Below (2 ^ 32) weights
  pub sum : running ≡ total weights
  pub later : (k : ℕ) → least ≤ k → get_or weights k 0 ≡ get_or ws k 0
  pub goes : places_refusal (length ws) least (drop j ps) ≡ places_refusal (length ws) 0 ps
  pub ends : replaced weights (drop j ps) (drop j vs) ≡ replaced ws ps vs

-- the item j
pub record Item (ps vs : List ℕ) (j place new : ℕ) : Type 0 where
  pub more : j < length ps
  pub its_place : place ≡ get_or ps j 0
  pub its_weight : new ≡ get_or vs j 0

module _ (ws ps vs : List ℕ) where
  pub begin : (running : ℕ) → length ps ≡ length vs → running ≡ total ws → running ≤ most_total → Checking ws ps vs running 0 0
  begin running h e o =
      record { weights = ws; upto = omega arith; same = h; size = refl; each = each-small ws (omega arith); sum = e; later = λ k l. refl; goes = refl; ends = refl }

  refuses : (why : Refusal) → places_refusal (length ws) 0 ps ≡ some why → check_of ws ps vs ≡ declined why
  unfolding check_of
  refuses why e = rw e

  accepts : (n : ℕ) → places_refusal (length ws) 0 ps ≡ none → total (replaced ws ps vs) ≡ n → check_of ws ps vs ≡ done (n ∷ [])
  unfolding check_of
  accepts n e f = rw (e, f)

  module _ (running least j : ℕ) (r : Checking ws ps vs running least j) where
    abbrev now-weights : List ℕ
    now-weights = r.weights

    -- no item is left
    pub finish : length ps ≤ j → check_of ws ps vs ≡ done (running ∷ [])
    finish h =
        let none_left : drop j ps ≡ [] = drop_of_length-le ps h in
        accepts running (sym r.goes ∙ rw none_left (no-places (length ws) least))
        (ap total (sym r.ends ∙ rw none_left (none-replaced now-weights (drop j vs))) ∙ sym r.sum)

    -- ---- the next item
    module _ (place new : ℕ) (item : Item ps vs j place new) where
      more : j < length ps
      more = item.more

      abbrev places : List ℕ
      places = drop (suc j) ps

      places-split : drop j ps ≡ place ∷ places
      places-split = drop-cons ps j 0 more ∙ ap (λ (p : ℕ). p ∷ places) (sym item.its_place)

      weights-split : drop j vs ≡ new ∷ drop (suc j) vs
      weights-split = drop-cons vs j 0 (omega (arith, r.same)) ∙ ap (λ (v : ℕ). v ∷ drop (suc j) vs) (sym item.its_weight)

      here : places_refusal (length ws) 0 ps ≡ places_refusal (length ws) least (place ∷ places)
      here = sym r.goes ∙ rw places-split

      pub turn-order : place < least → check_of ws ps vs ≡ declined PlacesNotIncreasing
      turn-order h = refuses PlacesNotIncreasing (here ∙ place-order (length ws) least place places h)

      module _ (h : least ≤ place) where
        pub turn-range : length ws ≤ place → check_of ws ps vs ≡ declined PlaceOutOfRange
        turn-range k = refuses PlaceOutOfRange (here ∙ place-range (length ws) least place places h k)

        module _ (k : place < length ws) (old : ℕ) (e : old ≡ get_or ws place 0) where
          pub old-fits : old ≤ running
          old-fits = omega (arith, r.sum, r.later place h, get_or-le-total now-weights place)

          new-sum : running - old + new ≡ total (set now-weights place new)
          new-sum = omega (arith, old-fits, r.sum, r.later place h, total-set now-weights place new (omega (arith, r.size)))

          module _ (u : new < 2 ^ 32) where
            new-each : Below (2 ^ 32) (set now-weights place new)
            new-each = set-small now-weights place new r.each u

            new-size : length (set now-weights place new) ≡ length ws
            new-size = length-set now-weights place new ∙ r.size

            pub new-fits : length ws ≤ most_weights → running - old + new < 2 ^ 64
            new-fits l = omega (arith, new-sum, new-size, total-small (set now-weights place new) new-each)

            pub turn : (next : ℕ) → next ≡ place + 1 → Checking ws ps vs (running - old + new) next (j + 1)
            turn next step =
                rw step
                (record {
                  weights = set now-weights place new;
                  upto = omega arith;
                  same = r.same;
                  size = new-size;
                  each = new-each;
                  sum = new-sum;
                  later = λ i l. get_or-set_other now-weights place i new 0 (λ q. omega arith) ∙ r.later i (omega arith);
                  goes = rw (add-one place, add-one j) (sym (here ∙ place-goes (length ws) least place places h k));
                  ends =
                      rw (add-one j)
                      (sym (item-replaced now-weights place new places (drop (suc j) vs)) ∙ rw (← places-split, ← weights-split) r.ends);
                })
