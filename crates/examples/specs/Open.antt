-- For worked examples: to unfold `everything` is to unfold each definition named here.
use Rattle.std.proofs.Math.Bool.{decide}
use Rattle.std.specs.Prelude.{ℕ}
use Rattle.std.proofs.Math.Decide.{ℕ_discrete}
use Rattle.field.specs.Field.{𝔾, el, val}
use Rattle.field.specs.ModP.{of, decide_b}
use Rattle.field.specs.Power.{with_bit, power_within, power}
use Rattle.field.specs.Algebra.{product, pow, sum}
use Rattle.bh.specs.Rows.{
  primitives,
  x_invs,
  primitive,
  x_inv,
  step_with,
  back_with,
  next_row,
  prev_row,
  iter,
  row_at,
  run,
  order,
  seek,
  place_of,
  rotated,
  mod_z,
  lagrange_row,
}
use Rattle.bh.specs.Sums.{up_to}
use Rattle.lists.specs.Lists.{
  tabulate,
  all_of,
  any_of,
  filter,
  total,
  maximum,
  concat,
  split,
  cut,
  index_of,
  last_where,
  same_words,
  first_no,
}
use Rattle.expression.specs.Expr.{
  running,
  evaluate,
  degree_ops,
  degree,
  query_ops,
  used_query,
  challenge_ops,
  exprs_of,
  distribute_powers,
  product_from,
  product_of,
}
use Rattle.expression.specs.Same.{tree_of, trees_of, same_tree, same_trees, same_expr, same_list}
use Rattle.expression.specs.Value.{value_ops, value_at}
use Rattle.expression.specs.Visits.{visited, unit_ops, visits}
use Rattle.expression.specs.Nodes.{kind_of, node_of, item_of, guard, expr_at, expr_of, items_of}
use Rattle.expression.specs.Flat.{body, flat}
use Rattle.backend.specs.Circuit.{
  body_of,
  stated_of,
  circuit_of,
  num_witness,
  num_challenges,
  num_poly,
  copied_in,
  copied,
  num_groups_in,
  group_sizes,
  num_groups,
  groups_of,
}
use Rattle.backend.specs.Constraints as Constraints
use Rattle.backend.specs.Constraints.{
  lookup_constraint,
  lookup_constraints,
  omit_one,
  sum_from,
  numerator_tree,
  group_tree,
  group_with,
  least_d,
  max_degree,
}
use Rattle.backend.specs.Questions.{
  q1,
  q2,
  q3,
  follow,
  q4,
  q3_bodies,
  q4_bodies,
  q5,
  q6,
  q7,
  q8,
  q9,
  numbers_follow,
  group_numbers_good,
  tables_alike,
  q18,
  q10,
  cycles_good,
  q11,
  circuit_questions,
  expressions,
  well_formed,
}
use Rattle.backend.specs.Layout.{names, laid_out, nodes_in_range}
use Rattle.multilinear.specs.EqXY.{eq_at}
use Rattle.preprocessor.specs.Compose.{num_z, z_cut, composed_words, composed_nodes, compose_tree, constraint_trees, identity_tree, lookup_tree_of, next_tree, params_of, outer_trees, part_tree, permutation_tree, permutation_trees, start_tree, zero_tree}
use Rattle.preprocessor.specs.Permutation.{last_cell, before_from, before, source, first_label, label}
use Rattle.prover.specs.Lookup.{
  last_equal,
  multiplicity,
  group_multiplicity,
  covered,
  group_covered,
  h_at,
  group_h_at,
  Turns,
}
use Rattle.prover.specs.Columns.{
  power_sum,
  instance_at,
  instance_polys,
  preprocess_polys,
  witness_polys,
  given_polys,
  user_environment,
  compressed_at,
  input_at,
  table_at,
  group_inputs,
  group_table,
  count_at,
  m_at,
  lookup_h_at,
  all_covered,
  permutation_at,
  copied_at,
  identity_factor_at,
  permutation_factor_at,
  ratio_at,
  part_at,
  step_at,
  running_at,
  z_at_place,
  z_at,
  permutation_polys,
  m_polys,
  h_polys,
  z_polys,
  compressed_polys,
  all_polys,
  written_polys,
  composed_environment,
}
use Rattle.prover.specs.Denominators.{some_zero, lookup_denominators, group_denominators, factor_denominators, denominators_of, zero_denominator}
use Rattle.hyperplonk_spec.specs.Build.{
  log_of,
  words_of,
  column_words,
  q12,
  q13,
  q14,
  build_questions,
  check_build,
  zeroed,
  made,
  build_log,
  build_of,
}
use Rattle.hyperplonk_spec.specs.Stages.{check_stage, m_of, h_of, eq_of}
use Rattle.hyperplonk_spec.specs.RowSum.{q16, lent_polys, row_sum_environment, sum_of, sum_questions, check_sum, row_sum_of}
use Rattle.hyperplonk_spec.specs.Sizes.{composed_visits, sizes_of}

unfoldable pub everything : ℕ
unfolding 𝔾 el val of decide_b with_bit power_within power product primitives x_invs primitive x_inv step_with back_with next_row prev_row iter row_at run order seek place_of rotated mod_z lagrange_row up_to tabulate all_of any_of filter total maximum concat split cut index_of last_where same_words first_no running evaluate degree_ops degree query_ops used_query challenge_ops exprs_of distribute_powers product_from product_of tree_of trees_of same_tree same_trees same_expr same_list value_ops value_at kind_of node_of item_of guard expr_at expr_of items_of body flat body_of stated_of circuit_of num_witness num_challenges num_poly copied_in copied num_groups_in group_sizes num_groups groups_of lookup_constraint lookup_constraints omit_one sum_from Constraints.sum_of numerator_tree group_tree group_with least_d max_degree q1 q2 q3 follow q4 q3_bodies q4_bodies q5 q6 names q7 q8 q9 numbers_follow group_numbers_good tables_alike q18 q10 cycles_good q11 laid_out nodes_in_range circuit_questions expressions well_formed eq_at num_z params_of z_cut identity_tree permutation_tree next_tree part_tree start_tree permutation_trees constraint_trees lookup_tree_of zero_tree compose_tree outer_trees composed_words composed_nodes last_cell before_from before source first_label label last_equal multiplicity group_multiplicity covered group_covered h_at sum group_h_at Turns pow power_sum instance_at instance_polys preprocess_polys witness_polys given_polys user_environment compressed_at input_at table_at group_inputs group_table count_at m_at lookup_h_at all_covered some_zero lookup_denominators group_denominators factor_denominators denominators_of zero_denominator permutation_at copied_at identity_factor_at permutation_factor_at ratio_at part_at step_at running_at z_at_place z_at permutation_polys m_polys h_polys z_polys compressed_polys all_polys written_polys composed_environment log_of words_of column_words q12 q13 q14 build_questions check_build zeroed made build_log build_of check_stage m_of h_of eq_of q16 lent_polys row_sum_environment sum_of sum_questions check_sum row_sum_of visited unit_ops visits composed_visits sizes_of decide ℕ_discrete
everything = 0
