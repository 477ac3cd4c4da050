-- `lookup_compressed_polys` meets its contract: after i turns the columns of the first i lookups stand there.
use mathlib.Core.Path.{◌≡◌, refl, sym, ap, ap₂, ◌∙◌}
use mathlib.Core.List.{List}
use Prim.Native.Nat.{ℕ, ◌+◌, ◌^◌, ◌≤◌}
use native.Mathlib.Nat.{add-zero, zero-mul}
use native.Mathlib.Omega.{arith}
use lib.ListN.{take}
use lib.Seq.{take_all}
use Rattle.field.specs.Field.{𝔾}
use Rattle.field.specs.Element.{elem}
use Rattle.lists.specs.Lists.{write_at, split, total}
use Rattle.lists.proofs.Parts.{total_more, part_there}
use Rattle.backend.specs.Circuit.{pairs_of}
use Rattle.prover.specs.Words.{words_of}
use Rattle.prover.specs.Lent.{environment_from_words, compressed_polys_in}
use Rattle.prover.proofs.PowerSums.{all_start, all_more, lookup_there, lookup_next}
use Rattle.prover_compressed.proofs.Lent.lookup_compressed_polys.Goals as goal

none : (ns : List ℕ) → 0 ≡ total (take 0 ns)
unfolding total
none ns = refl

pub loop-word-init : goal.loop-word-init
loop-word-init c =
    let a = c.args in
    let pre = c.requires in (
      omega arith,
      none a.self.now.widths.now,
      sym (ap (λ (x : ℕ). a.polys.to + x) (zero-mul (2 ^ a.polys.k + 2 ^ a.polys.k)) ∙ add-zero a.polys.to),
      refl,
      all_start a.polys.k a.polys.small.1 _ a.polys.given _ _ _ _ a.self.now.nodes.now a.self.now.pairs.now _ _,
    )

pub compressed_pair-requires : goal.compressed_pair-requires
compressed_pair-requires c =
    let pre = c.requires in
    let l = c.loop-word in
    let test = c.loop-word-test in
    let a = c.args in (
      rw l.invariant.3 (lookup_there _ _ _ _ _ _ test.true l.invariant.2 pre),
      omega (arith, part_there _ _ test.true _ _ l.invariant.1 (let q : total a.self.now.widths.now ≤ total a.self.now.widths.now = omega arith in q), c.args.self.now.paired),
    )

pub overflow_add-start : goal.overflow_add-start
overflow_add-start c =
    let a = c.args in
    omega (arith, part_there _ _ c.loop-word-test.true _ _ c.loop-word.invariant.1 (let q : total a.self.now.widths.now ≤ total a.self.now.widths.now = omega arith in q), c.args.self.now.paired)

pub loop-word-preserved : goal.loop-word-preserved
loop-word-preserved c =
    let test = c.loop-word-test in
    let l = c.loop-word in
    let a = c.args in
    let compressed-pair = c.compressed_pair in
    let pre = c.requires in (
      omega (arith, test.true),
      ap₂ ◌+◌ l.invariant.1 refl ∙ total_more a.self.now.widths.now l.word-index test.true,
      lookup_next l.word-index (2 ^ a.polys.k) a.polys.to l.at _ l.invariant.2 c.rows_of-rows.ensures,
      compressed-pair.auto.columns ∙ l.invariant.3,
      all_more a.polys.k a.polys.small.1 _ a.polys.given _ _ _ _ a.self.now.nodes.now a.self.now.pairs.now a.self.now.widths.now l.word-index test.true a.columns.now l.columns _ a.polys.to l.at l.start _
          a.polys.before (omega (arith, lookup_there _ _ _ _ _ _ test.true l.invariant.2 pre)) l.invariant.1 refl l.invariant.2 l.invariant.4 compressed-pair.ensures,
    )

pub returns : goal.returns
returns c =
    let l = c.loop-word in
    let a = c.args in
    l.invariant.4
    ∙ ap (λ (ws : List ℕ). write_at a.columns.now a.polys.to (words_of (2 ^ a.polys.k) (compressed_polys_in 𝔾 (environment_from_words a.self.now.circuit.now a.self.now.witness.now a.columns.now a.self.now.challenges.now a.polys.layout a.polys.k) (elem a.polys.beta) (split ws (pairs_of a.self.now.nodes.now a.self.now.pairs.now)))))
    (take_all l.word-index a.self.now.widths.now c.loop-word-test.false)
