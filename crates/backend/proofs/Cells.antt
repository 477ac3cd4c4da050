-- Cells compared.
use mathlib.Core.Path.{◌≡◌, refl, ap₂}
use mathlib.Core.Bool.{Bool, true, ◌&&◌}
use Prim.Native.Nat.{ℕ}
use lib.Dec.{eqb}
use borrow.Author.Tests.{eq-eqb, eqb-true}
use Rattle.lists.proofs.Tests.{and_left, and_right, eqb_sym}
use Rattle.backend.specs.Circuit.{Cell, same_cell}

pub same_self : (x : Cell) → same_cell x x ≡ true
same_self x = ap₂ ◌&&◌ (eq-eqb x.polynomial x.polynomial refl) (eq-eqb x.row x.row refl)

pub same_sym : (x y : Cell) → same_cell x y ≡ same_cell y x
same_sym x y = ap₂ ◌&&◌ (eqb_sym x.polynomial y.polynomial) (eqb_sym x.row y.row)

pub same_cell_is : (x y : Cell) → same_cell x y ≡ true → x ≡ y
same_cell_is x y e =
    let s : Bool = eqb x.polynomial y.polynomial in
    let t : Bool = eqb x.row y.row in
    ap₂ (λ (q b : ℕ). record { polynomial = q; row = b }) (eqb-true x.polynomial y.polynomial (and_left s t e))
    (eqb-true x.row y.row (and_right s t e))
