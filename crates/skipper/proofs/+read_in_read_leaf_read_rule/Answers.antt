use mathlib.Core.Path.{refl, ap}
use Prim.Native.Nat.{◌+◌, ◌*◌}
use native.Mathlib.Omega.{arith}
use lib.ListN.{length, length-set}
use Rattle.grammar.specs.Numbers.{row_width, mark_width}
use Rattle.grammar.specs.Lists.{read_left, read_in}
use Rattle.rows.proofs.Laws.{root}
use Rattle.names.specs.Names.{memory_word}
use Rattle.skipper.proofs.Memories.{left_mono}
use Rattle.skipper.proofs.Rules.{zeros_set, is_zero, steady_more, steady_set}
use Rattle.std.proofs.lemmas.Result.{err_from_is_err_and}
use Rattle.skipper.proofs.Leaf.{unlisted, memory_least, given_steady, read_found_lem, finds_at, finds_nothing, leaf_str, leaf_other, leaf_ident, in_leaf, choice_view, choice_left, choice_stop, choice_then, rule_there, rule_stands, rule_end, name_nothing, name_recalled, name_read}
use Prim.Native.Nat.{◌<◌}
use Rattle.skipper.proofs.+read_in_read_leaf_read_rule.Goals as goal

pub read_in-kind_at-requires : goal.read_in-kind_at-requires
read_in-kind_at-requires t c = (root c.requires.stands.at).inside

pub read_in-returns-then-kind_at-ne-CHOICE-clause-reads_of : goal.read_in-returns-then-kind_at-ne-CHOICE-clause-reads_of
read_in-returns-then-kind_at-ne-CHOICE-clause-reads_of t c = λ u r l a. in_leaf _ (read_found_lem a c.kind_at.ensures) a c.if-kind_at-ne-CHOICE.true (c.read_leaf.ensures.reads_of u r l a)

pub read_in-read_leaf-requires-2 : goal.read_in-read_leaf-requires-2
read_in-read_leaf-requires-2 t c = let a = c.requires.stands.at in
    let h = root a in
    (omega (arith, c.decreases, h.rows, h.least), (c.requires.given, record { tree = (choice_view (read_found_lem a c.kind_at.ensures) a c.if-kind_at-ne-CHOICE.false).left; at = choice_left (read_found_lem a c.kind_at.ensures) a c.if-kind_at-ne-CHOICE.false c.left_of.ensures }))

pub read_in-returns-in_err-read_leaf-clause-reads_of : goal.read_in-returns-in_err-read_leaf-clause-reads_of
read_in-returns-in_err-read_leaf-clause-reads_of t c = let p = err_from_is_err_and c.from_residual.result c.from_residual.ensures.1 in
    rw (p.1, p.2) (λ u r l a. choice_stop read_left read_in left_mono (λ _ _. refl) _ u (read_found_lem a c.kind_at.ensures) a c.if-kind_at-ne-CHOICE.false c.left_of.ensures (unlisted _) (λ q b. rw c.in_err-read_leaf.was at (c.read_leaf-2.ensures.reads_of u q l b)))

pub read_in-overflow_sub-root : goal.read_in-overflow_sub-root
read_in-overflow_sub-root t c = let a = c.requires.stands.at in let v = choice_view (read_found_lem a c.kind_at.ensures) a c.if-kind_at-ne-CHOICE.false in omega (arith, v.most, v.least_left)

pub read_in-read_in-requires : goal.read_in-read_in-requires
read_in-read_in-requires t c = let a = c.requires.stands.at in
    let v = choice_view (read_found_lem a c.kind_at.ensures) a c.if-kind_at-ne-CHOICE.false in
    let e = c.read_leaf-2.ensures.steady in
    (omega (arith, c.decreases, e.fewer, (root v.at_right).rows, v.rows, v.least_left), (given_steady c.requires.given e c.read_leaf-2.auto.marks, record { tree = v.right; at = v.at_right }))

pub read_in-returns-clause-reads_of : goal.read_in-returns-clause-reads_of
read_in-returns-clause-reads_of t c = λ u r l a. choice_then read_left read_in left_mono (λ _ _. refl) _ u (read_found_lem a c.kind_at.ensures) a c.if-kind_at-ne-CHOICE.false c.left_of.ensures (λ q b. rw c.in_ok-read_leaf.was at (c.read_leaf-2.ensures.reads_of u q l b)) (λ q b. c.read_in.ensures.reads_of u q l b)

pub read_leaf-kind_at-kind-requires : goal.read_leaf-kind_at-kind-requires
read_leaf-kind_at-kind-requires t c = (root c.requires.stands.at).inside

pub read_leaf-returns-then-kind-eq-STR-clause-reads_of : goal.read_leaf-returns-then-kind-eq-STR-clause-reads_of
read_leaf-returns-then-kind-eq-STR-clause-reads_of t c = λ u r l a. leaf_str _ (read_found_lem a c.kind_at-kind.ensures) a c.if-kind-eq-STR.true

pub read_leaf-returns-then-kind-ne-IDENT-clause-reads_of : goal.read_leaf-returns-then-kind-ne-IDENT-clause-reads_of
read_leaf-returns-then-kind-ne-IDENT-clause-reads_of t c = λ u r l a. leaf_other _ (read_found_lem a c.kind_at-kind.ensures) a c.if-kind-eq-STR.false c.if-kind-ne-IDENT.true

pub read_leaf-rule_at-requires-clause-root_in_bounds : goal.read_leaf-rule_at-requires-clause-root_in_bounds
read_leaf-rule_at-requires-clause-root_in_bounds t c = (root c.requires.stands.at).inside

pub read_leaf-returns-in_default-clause-reads_of : goal.read_leaf-returns-in_default-clause-reads_of
read_leaf-returns-in_default-clause-reads_of t c = λ u r l a. leaf_ident _ (read_found_lem a c.kind_at-kind.ensures) a c.if-kind-ne-IDENT.false (name_nothing u l.heads _ _ _ (finds_nothing _ _ _ _ c.rule_at.ensures c.in_default.is))

pub read_leaf-returns-then-mark-ne0-clause-reads_of : goal.read_leaf-returns-then-mark-ne0-clause-reads_of
read_leaf-returns-then-mark-ne0-clause-reads_of t c = λ u r l a. leaf_ident _ (read_found_lem a c.kind_at-kind.ensures) a c.if-kind-ne-IDENT.false (name_recalled u l.heads _ _ _ (finds_at _ _ _ _ c.rule_at.ensures c.in-Some.is) _ _ refl c.if-mark-ne0.true c.recalled.ensures)

pub read_leaf-returns-clause-reads_of : goal.read_leaf-returns-clause-reads_of
read_leaf-returns-clause-reads_of t c = λ u r l a. leaf_ident _ (read_found_lem a c.kind_at-kind.ensures) a c.if-kind-ne-IDENT.false (c.read_rule.ensures.reads_of u _ l (finds_at _ _ _ _ c.rule_at.ensures c.in-Some.is))

pub read_rule-overflow_sub-end : goal.read_rule-overflow_sub-end
read_rule-overflow_sub-end t c = omega (arith, rule_end c.requires.given.lent c.args.i c.requires.i_in_bounds c.requires.given.ended)

pub read_rule-read_in-a-requires : goal.read_rule-read_in-a-requires
read_rule-read_in-a-requires t c = let i = c.args.i in
    let b : i * mark_width + memory_word < length c.args.marks.now = omega (arith, c.requires.i_in_bounds, c.requires.given.index.long) in
    let r = rule_there c.requires.given.table c.requires.given.lent.heads i c.requires.i_in_bounds in
    let a = rule_stands c.requires.given.lent i r c.requires.i_in_bounds c.requires.given.ended in (
      omega (arith, c.decreases, zeros_set c.args.marks.now (i * mark_width + memory_word) 1 b, ap is_zero c.requires.memory_word_value, (root a).rows, (root a).most, (root a).inside, c.well_formed.1.0.0),
      (given_steady c.requires.given (steady_set c.args.marks.now i 1 b (omega arith)) (length-set c.args.marks.now (i * mark_width + memory_word) 1), record { tree = r.rule.body; at = a }),
    )

pub read_rule-returns-clause-steady : goal.read_rule-returns-clause-steady
read_rule-returns-clause-steady t c = let i = c.args.i in
    let m = c.args.marks.now in
    let b : i * mark_width + memory_word < length m = omega (arith, c.requires.i_in_bounds, c.requires.given.index.long) in
    let b₂ : i * row_width + 1 < length c.read_in-a.new.marks = omega (arith, c.read_in-a.auto.marks, length-set m (i * mark_width + memory_word) 1) in
    steady_more (steady_more (steady_set m i 1 b (omega arith)) c.read_in-a.ensures.steady) (steady_set _ i _ b₂ (rw c.memory_of.ensures (memory_least c.read_in-a.result)))

pub read_rule-returns-clause-reads_of : goal.read_rule-returns-clause-reads_of
read_rule-returns-clause-reads_of t c = let i = c.args.i in
    let m = c.args.marks.now in
    let b : i * mark_width + memory_word < length m = omega (arith, c.requires.i_in_bounds, c.requires.given.index.long) in
    let b₂ : i * row_width + 1 < length c.read_in-a.new.marks = omega (arith, c.read_in-a.auto.marks, length-set m (i * mark_width + memory_word) 1) in
    λ u x l f. let r = rule_there u l.heads i c.requires.i_in_bounds in rw c.memory_of.ensures (name_read u l.heads _ m x f r b b₂ c.requires.memory_word_value (c.read_in-a.ensures.reads_of u r.rule.body l (rule_stands l i r c.requires.i_in_bounds c.requires.given.ended)))

pub read_in-read_leaf-requires : goal.read_in-read_leaf-requires
read_in-read_leaf-requires t c = let h = root c.requires.stands.at in
    (omega (arith, c.decreases, h.rows, h.least), (c.requires.given, c.requires.stands))
