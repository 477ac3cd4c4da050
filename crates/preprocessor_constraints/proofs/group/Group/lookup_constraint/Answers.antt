use Rattle.expression.proofs.Written as written
use Rattle.expression.specs.Flat.{size}
use Rattle.preprocessor.proofs.GroupWritten as groups
use Rattle.preprocessor.specs.ComposeWords.{group_from_words}
use Rattle.preprocessor.specs.declared.CircuitParams.{CircuitParams}
use Rattle.preprocessor_constraints.proofs.Words as words
use mathlib.Core.Path.{ap}
use native.Mathlib.Omega.{arith}
use Rattle.preprocessor_constraints.proofs.group.Group.lookup_constraint.Goals as goal

pub inputs_product-a-requires : goal.inputs_product-a-requires
inputs_product-a-requires c =
    let a = c.args.self.now in
    let l = a.lookups in
    let s = groups.group_size (words.own c.args.numbers.params l.beta) l.user.now l.widths.now l.pairs.now c.args.j c.args.self.now.members.first c.args.self.now.members.count in
    let e = ap (λ (v : CircuitParams). size (group_from_words v l.user.now l.widths.now l.pairs.now c.args.j c.args.self.now.members.first c.args.self.now.members.count)) (words.own_is c.args.numbers.params l.beta c.requires.beta) in
    omega (arith, c.requires.room)

pub side-b-requires-clause-room : goal.side-b-requires-clause-room
side-b-requires-clause-room c =
    let a = c.args.self.now in
    let g = c.args.self.now in
    let l = a.lookups in
    let s = groups.group_size (words.own c.args.numbers.params l.beta) l.user.now l.widths.now l.pairs.now c.args.j c.args.self.now.members.first c.args.self.now.members.count in
    let e = ap (λ (v : CircuitParams). size (group_from_words v l.user.now l.widths.now l.pairs.now c.args.j c.args.self.now.members.first c.args.self.now.members.count)) (words.own_is c.args.numbers.params l.beta c.requires.beta) in
    omega (arith, c.requires.room, c.inputs_product-a.ensures.number)

pub product-p-requires : goal.product-p-requires
product-p-requires c =
    let a = c.args.self.now in
    let l = a.lookups in
    let s = groups.group_size (words.own c.args.numbers.params l.beta) l.user.now l.widths.now l.pairs.now c.args.j c.args.self.now.members.first c.args.self.now.members.count in
    let e = ap (λ (v : CircuitParams). size (group_from_words v l.user.now l.widths.now l.pairs.now c.args.j c.args.self.now.members.first c.args.self.now.members.count)) (words.own_is c.args.numbers.params l.beta c.requires.beta) in
    omega (arith, c.requires.room, c.inputs_product-a.ensures.number, c.side-b.ensures.number)

pub numerator-t-requires : goal.numerator-t-requires
numerator-t-requires c =
    let a = c.args.self.now in
    let l = a.lookups in
    let s = groups.group_size (words.own c.args.numbers.params l.beta) l.user.now l.widths.now l.pairs.now c.args.j c.args.self.now.members.first c.args.self.now.members.count in
    let e = ap (λ (v : CircuitParams). size (group_from_words v l.user.now l.widths.now l.pairs.now c.args.j c.args.self.now.members.first c.args.self.now.members.count)) (words.own_is c.args.numbers.params l.beta c.requires.beta) in
    omega (arith, c.requires.room, c.inputs_product-a.ensures.number, c.side-b.ensures.number, c.product-p.ensures.number)

pub negated-n-requires : goal.negated-n-requires
negated-n-requires c =
    let a = c.args.self.now in
    let l = a.lookups in
    let s = groups.group_size (words.own c.args.numbers.params l.beta) l.user.now l.widths.now l.pairs.now c.args.j c.args.self.now.members.first c.args.self.now.members.count in
    let e = ap (λ (v : CircuitParams). size (group_from_words v l.user.now l.widths.now l.pairs.now c.args.j c.args.self.now.members.first c.args.self.now.members.count)) (words.own_is c.args.numbers.params l.beta c.requires.beta) in
    omega (arith, c.requires.room, c.inputs_product-a.ensures.number, c.side-b.ensures.number, c.product-p.ensures.number, c.numerator-t.ensures.number)

pub sum-d-requires : goal.sum-d-requires
sum-d-requires c =
    let a = c.args.self.now in
    let l = a.lookups in
    let s = groups.group_size (words.own c.args.numbers.params l.beta) l.user.now l.widths.now l.pairs.now c.args.j c.args.self.now.members.first c.args.self.now.members.count in
    let e = ap (λ (v : CircuitParams). size (group_from_words v l.user.now l.widths.now l.pairs.now c.args.j c.args.self.now.members.first c.args.self.now.members.count)) (words.own_is c.args.numbers.params l.beta c.requires.beta) in
    omega (arith, c.requires.room, c.inputs_product-a.ensures.number, c.side-b.ensures.number, c.product-p.ensures.number, c.numerator-t.ensures.number, c.negated-n.ensures.number)

pub inputs_product-e-requires : goal.inputs_product-e-requires
inputs_product-e-requires c =
    let a = c.args.self.now in
    let l = a.lookups in
    let s = groups.group_size (words.own c.args.numbers.params l.beta) l.user.now l.widths.now l.pairs.now c.args.j c.args.self.now.members.first c.args.self.now.members.count in
    let e = ap (λ (v : CircuitParams). size (group_from_words v l.user.now l.widths.now l.pairs.now c.args.j c.args.self.now.members.first c.args.self.now.members.count)) (words.own_is c.args.numbers.params l.beta c.requires.beta) in
    omega (arith, c.requires.room, c.inputs_product-a.ensures.number, c.side-b.ensures.number, c.product-p.ensures.number, c.numerator-t.ensures.number, c.negated-n.ensures.number, c.sum-d.ensures.number)

pub sum-requires : goal.sum-requires
sum-requires c =
    let a = c.args.self.now in
    let l = a.lookups in
    let s = groups.group_size (words.own c.args.numbers.params l.beta) l.user.now l.widths.now l.pairs.now c.args.j c.args.self.now.members.first c.args.self.now.members.count in
    let e = ap (λ (v : CircuitParams). size (group_from_words v l.user.now l.widths.now l.pairs.now c.args.j c.args.self.now.members.first c.args.self.now.members.count)) (words.own_is c.args.numbers.params l.beta c.requires.beta) in
    omega (arith, c.requires.room, c.inputs_product-a.ensures.number, c.side-b.ensures.number, c.product-p.ensures.number, c.numerator-t.ensures.number, c.negated-n.ensures.number, c.sum-d.ensures.number, c.inputs_product-e.ensures.number)

pub returns : goal.returns
returns c =
    let a = c.args.self.now in
    let l = a.lookups in
    written.written_as (ap (λ (v : CircuitParams). group_from_words v l.user.now l.widths.now l.pairs.now c.args.j c.args.self.now.members.first c.args.self.now.members.count) (words.own_is c.args.numbers.params l.beta c.requires.beta))
    (groups.group_written (words.own c.args.numbers.params l.beta) l.user.now l.widths.now l.pairs.now c.args.j c.args.self.now.members.first c.args.self.now.members.count c.inputs_product-a.ensures c.side-b.ensures c.product-p.ensures c.numerator-t.ensures c.negated-n.ensures c.sum-d.ensures c.inputs_product-e.ensures c.sum.ensures)
