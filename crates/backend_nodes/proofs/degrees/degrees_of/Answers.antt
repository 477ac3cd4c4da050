-- Question 18 sizes the groups.
use mathlib.Core.Path.{◌≡◌, refl, sym, ap, subst, ◌∙◌}
use Prim.Native.Nat.{◌<◌}
use native.Mathlib.Omega.{arith}
use lib.ListN.{length}
use Rattle.lists.specs.Lists.{All, total}
use Rattle.backend.specs.Circuit.{Section, body_of, group_sizes}
use Rattle.backend.specs.Questions.{group_numbers_good}
use Rattle.backend.proofs.Answers.{seven, user_degree_of, groups_degree_of, numbers_many, numbers_few, numbers_good_is, groups_read}
use Rattle.backend.proofs.Degree.{left_roots}
use Rattle.backend.proofs.Groups.{sizes_total, sizes_some}
use Rattle.backend_nodes.proofs.degrees.degrees_of.Goals as goal

pub group_sizes-sizes-requires : goal.group_sizes-sizes-requires
group_sizes-sizes-requires c = (ap group_numbers_good (rw c.laid-laid.ensures at c.groups-numbers.ensures) ∙ numbers_good_is _ c.args.circuit.contents c.requires.1, let q = ap length (rw c.laid-laid.ensures at c.groups-numbers.ensures) in let r = numbers_few _ c.args.circuit.contents in omega arith)

pub user_degree-user-requires : goal.user_degree-user-requires
user_degree-user-requires c = left_roots _ _ _ (seven _ _ _ _ c.new-lookups.ensures.nodes (rw c.laid-laid.ensures at c.constraints-users.ensures) c.new-lookups.ensures.pairs _ refl ∙ c.requires.0)

pub groups_degree-largest-requires : goal.groups_degree-largest-requires
groups_degree-largest-requires c =
    let ws = c.args.circuit.words.now in
    let a = c.args.circuit.contents in
    let good = numbers_good_is ws a c.requires.1 in
    let s : c.as_slice.result.now ≡ group_sizes (body_of ws Section.groups) =
    c.as_slice.ensures.value ∙ c.group_sizes-sizes.ensures.sizes ∙ ap group_sizes (rw c.laid-laid.ensures at c.groups-numbers.ensures) in
    let w : length c.new-lookups.result.widths.now ≡ length (body_of ws Section.widths) = ap length c.new-lookups.ensures.widths in (
      ap total s ∙ sizes_total (body_of ws Section.groups) ∙ numbers_many ws a ∙ sym w,
      (let q = numbers_few ws a in let r = numbers_many ws a in omega arith, subst (All (λ n. 0 < n)) (sym s) (sizes_some (body_of ws Section.groups) good)),
    )

pub returns : goal.returns
returns c = (
  c.stated_of-stated.ensures,
  (
    user_degree_of _ _ _ c.new-lookups.ensures.nodes (rw c.laid-laid.ensures at c.constraints-users.ensures) _ c.user_degree-user.ensures,
    groups_degree_of _ _ _ _ _ c.args.circuit.contents c.new-lookups.ensures.nodes c.new-lookups.ensures.widths c.new-lookups.ensures.pairs
        (c.as_slice.ensures.value ∙ c.group_sizes-sizes.ensures.sizes ∙ ap group_sizes ((rw c.laid-laid.ensures at c.groups-numbers.ensures) ∙ groups_read c.args.circuit.words.now)) _ c.groups_degree-largest.ensures,
  ),
)
