-- What a view that was run tells.
-- Assumes nothing.
use Rattle.std.proofs.Common.{◌≡◌, ℕ, ◌-◌, List, length, take, refl, ap, ◌∙◌, arith}
use Rattle.std.specs.Prelude.{Some, Result, Ok, Err}
use native.Mathlib.Nat.{min-le_left}
use Rattle.refusal.specs.Answer.{Answer, answer_with, status_of}
use Rattle.refusal.specs.declared.Refusal.{Refusal}
use Rattle.xoshiro256plusplus.specs.declared.Xoshiro256PlusPlus.{Xoshiro256PlusPlus}
use Rattle.index.specs.Sample.{Sampling}
use Rattle.view_sample.specs.Viewed.{view_sample_of, drawn_of}
use Rattle.view_run.specs.Run.{shown_of, ItemsShown}
use Rattle.view_run.proofs.ViewRuns.{view-runs}
use Rattle.view_run.specs.declared.ItemsSample.{ItemsSample}
use Rattle.lines.specs.Means.{view_told, view_means}
use Rattle.lines.specs.Sizes.{entries, at}
use Rattle.lines.specs.Slices.{progression, blank, spaced, digest_from}
use Rattle.lines.specs.Told.{Tells}
use Rattle.lines.proofs.Progressions.{length-progression}

number_of : (o : Result (Unit {0}) Refusal) (count : ℕ) → status_of o ≡ (answer_with o count).number
number_of (Ok done) count = refl
number_of (Err why) count = refl

module _ (items before after work : List ℕ) (s : ItemsSample) (v : Sampling) (ran : ItemsShown items v work before after s) where
  tells : (digest : ℕ) → digest ≡ digest_from 0 work
      → Tells (Some (record { outcome = s.sampled.outcome; words = s.sampled.words; rng = s.sampled.rng; digest = digest; start = 0; end = s.shown })) after (Some (view_told items (length before) v))
  unfolding view_told
  tells digest d =
      let number : status_of s.sampled.outcome ≡ v.answer.number = number_of s.sampled.outcome s.sampled.count ∙ ap (λ (a : Answer). a.number) ran.answer in
      let drawn = drawn_of v.answer v.indices in
      let all : s.shown - 0 ≡ s.shown = omega arith in
      let shown : take s.shown after ≡ take (length before) (shown_of items drawn) = view-runs.front items drawn before after s.len s.shown ran.run in
      let kept : length after ≡ length before = view-runs.same_length items drawn before after s.len s.shown ran.run in
      record {
        says = rw (all, number, ran.words, ran.rng, d, ran.scratch, shown);
        ordered = omega arith;
        lies = omega (arith, kept, ran.run.shown, min-le_left (length before) (length (shown_of items drawn)));
      }

pub view-told : (g : Xoshiro256PlusPlus) (ns before after work : List ℕ) (b c d amount budget digest : ℕ) (s : ItemsSample) → amount ≡ at ns 1 → budget ≡ at ns 2
    → ItemsShown (progression 7 3 b) (view_sample_of (length (progression 7 3 b)) amount budget g (progression 4294967295 0 c) (progression 4294967295 0 d)) work before after s
    → digest ≡ digest_from 0 work
    → Tells (Some (record { outcome = s.sampled.outcome; words = s.sampled.words; rng = s.sampled.rng; digest = digest; start = 0; end = s.shown })) after (view_means g ns (entries (length before) b c d))
unfolding view_means blank spaced
view-told g ns before after work b c d amount budget digest s e₁ e₂ ran f =
    tells (progression 7 3 b) before after work s _ (rw (length-progression 7 3 b, e₁, e₂) at ran) digest f
