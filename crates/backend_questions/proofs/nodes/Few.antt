-- The nodes and the cells are as few as question 3 lets them be.
use mathlib.Core.Path.{◌≡◌, ap, ◌∙◌}
use mathlib.Core.List.{List}
use Prim.Native.Nat.{ℕ, ◌/◌, ◌≤◌}
use native.Mathlib.Nat.{mul-div_cancel}
use native.Mathlib.Omega.{arith}
use lib.ListN.{length}
use Rattle.backend.specs.Circuit.{Section, entries, body_of}
use Rattle.backend.specs.Laid.{ContentsValid}
use Rattle.backend.proofs.Sections.{body_length}

module _ (ws body : List ℕ) (a : ContentsValid ws) where
  pub few_nodes : body ≡ body_of ws Section.nodes → length body / 4 ≤ 1024
  few_nodes b =
      let e : length body / 4 ≡ entries ws Section.nodes =
      ap (λ (ns : List ℕ). length ns / 4) b
      ∙ ap (λ (n : ℕ). n / 4) (body_length ws a Section.nodes)
      ∙ mul-div_cancel (entries ws Section.nodes) (omega arith) in
      let l = a.few_nodes in
      omega arith

  pub few_cells : body ≡ body_of ws Section.cells → length body / 2 ≤ 4096
  few_cells b =
      let e : length body / 2 ≡ entries ws Section.cells =
      ap (λ (ns : List ℕ). length ns / 2) b
      ∙ ap (λ (n : ℕ). n / 2) (body_length ws a Section.cells)
      ∙ mul-div_cancel (entries ws Section.cells) (omega arith) in
      let l = a.few_cells in
      omega arith
