-- `build` meets its contract: demand 3 holds of what is returned and left.
use mathlib.Core.Path.{◌≡◌}
use mathlib.Core.List.{List}
use Prim.Native.Nat.{ℕ}
use Rattle.hyperplonk_spec.specs.Build.{Output, build_of, lent_build}
use Rattle.hyperplonk_spec.specs.Demand.{DemandThreeAt}
use Rattle.completeness.proofs.DemandThree.{demand_three_at}
use Rattle.hyperplonk_build.proofs.build.Goals as goal

both : (ws instances witness challenges columns nodes : List ℕ) (o : Output) → o ≡ build_of (lent_build ws instances witness challenges columns nodes) → (o ≡ build_of (lent_build ws instances witness challenges columns nodes)) × DemandThreeAt (lent_build ws instances witness challenges columns nodes) o
both ws instances witness challenges columns nodes o e = (e, demand_three_at ws instances witness challenges columns nodes o e)

pub returns-in-Ok : goal.returns-in-Ok
returns-in-Ok c =
    let a = c.args in
    both a.circuit.now a.instance.now a.witness.now a.challenges.now a.columns.now a.nodes.now _ c.in-Ok.ensures

pub returns-in-Err : goal.returns-in-Err
returns-in-Err c =
    let a = c.args in
    both a.circuit.now a.instance.now a.witness.now a.challenges.now a.columns.now a.nodes.now _ c.in-Err.ensures
