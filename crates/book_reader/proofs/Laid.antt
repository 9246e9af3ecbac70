-- The checks of a book's contents, row by row: what is left decides.
use Rattle.std.proofs.Common.{◌≡◌, ℕ, ◌+◌, Bool, true, false, ◌&&◌, eqb, List, [], ◌∷◌, refl, sym, ap, ◌∙◌, eq-eqb, ne_eqb}
use mathlib.Core.Bool.{and-false}
use Rattle.std.specs.List.{list_all}
use Rattle.command_line.specs.Digits.{every}
use Rattle.draw_book.specs.Jobs.{known_kind}
use Rattle.draw_book.specs.Reading.{is_body, laid_out}
use Rattle.draw_book.specs.declared.rows.Row.{Row}
use Rattle.draw_book.proofs.Ends.{kinds_of}

-- the kinds of rows are known if all of the list of kinds are
pub all_known : (rs : List Row) → list_all (λ (r : Row). known_kind r.kind) rs ≡ every known_kind (kinds_of rs)
unfolding every
all_known [] = refl
all_known (r ∷ rs) = ap (λ (b : Bool). known_kind r.kind && b) (all_known rs)

module _ (at end : ℕ) (left : List Row) (all : Bool) (so_far : laid_out at left end ≡ all) where
  module _ (r : Row) (rs : List Row) (first : left ≡ r ∷ rs) where
    here : (eqb r.offset at && (is_body r.kind r.size && laid_out (at + r.size) rs end)) ≡ all
    unfolding laid_out
    here = rw first at so_far

    pub wrong-offset : (r.offset ≡ at → ⊥) → false ≡ all
    wrong-offset n = rw (ne_eqb r.offset at n) at here

    pub wrong_length : is_body r.kind r.size ≡ false → false ≡ all
    wrong_length n = sym (and-false (eqb r.offset at)) ∙ (rw n at here)

    pub laid_next : r.offset ≡ at → is_body r.kind r.size ≡ true → laid_out (at + r.size) rs end ≡ all
    laid_next e f = rw (eq-eqb r.offset at e, f) at here

  pub laid_end : left ≡ [] → eqb at end ≡ all
  unfolding laid_out
  laid_end none = rw none at so_far
