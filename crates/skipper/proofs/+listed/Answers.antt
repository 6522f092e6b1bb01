use mathlib.Core.Path.{sym, ap, ap₂, ◌∙◌}
use mathlib.Core.Bool.{◌&&◌}
use native.Mathlib.Omega.{arith}
use Rattle.rows.proofs.Laws.{root}
use Rattle.skipper.specs.Skips.{is_list}
use Rattle.skipper.proofs.Leaf.{read_found_lem, choice_view, choice_left}
use Rattle.skipper.proofs.Spelling.{and_stop, leaf_in, list_choice}
use Rattle.skipper.proofs.+listed.Goals as goal

pub kind_at-requires : goal.kind_at-requires
kind_at-requires t c = (root c.requires.stands.at).inside

pub returns-then-kind_at-ne-CHOICE : goal.returns-then-kind_at-ne-CHOICE
returns-then-kind_at-ne-CHOICE t c = λ u r l a. c.leaf_listed.ensures u r l a ∙ ap is_list (sym (leaf_in _ _ (read_found_lem a c.kind_at.ensures) a c.if-kind_at-ne-CHOICE.true))

pub leaf_listed-requires-2-clause-stands : goal.leaf_listed-requires-2-clause-stands
leaf_listed-requires-2-clause-stands t c = let a = c.requires.stands.at in
    record { tree = (choice_view (read_found_lem a c.kind_at.ensures) a c.if-kind_at-ne-CHOICE.false).left; at = choice_left (read_found_lem a c.kind_at.ensures) a c.if-kind_at-ne-CHOICE.false c.left_of.ensures }

pub overflow_sub-root : goal.overflow_sub-root
overflow_sub-root t c = let a = c.requires.stands.at in let v = choice_view (read_found_lem a c.kind_at.ensures) a c.if-kind_at-ne-CHOICE.false in omega (arith, v.most, v.least_left)

pub listed-requires : goal.listed-requires
listed-requires t c = let a = c.requires.stands.at in
    let v = choice_view (read_found_lem a c.kind_at.ensures) a c.if-kind_at-ne-CHOICE.false in
    (omega (arith, c.decreases, (root v.at_right).rows, v.rows, v.least_left), (c.requires.all_indexed, (c.requires.inside, record { tree = v.right; at = v.at_right })))

pub returns-then-leaf_listed : goal.returns-then-leaf_listed
returns-then-leaf_listed t c = λ u r l a.
    let v = choice_view (read_found_lem a c.kind_at.ensures) a c.if-kind_at-ne-CHOICE.false in
    let x = sym (c.leaf_listed-2.ensures u v.left l (choice_left (read_found_lem a c.kind_at.ensures) a c.if-kind_at-ne-CHOICE.false c.left_of.ensures)) ∙ c.if-leaf_listed.true in
    sym (list_choice _ _ (read_found_lem a c.kind_at.ensures) a c.if-kind_at-ne-CHOICE.false ∙ ap₂ ◌&&◌ x (sym (c.listed.ensures u v.right l v.at_right)))

pub returns-else-leaf_listed : goal.returns-else-leaf_listed
returns-else-leaf_listed t c = λ u r l a. c.if-leaf_listed.false ∙ (
    let v = choice_view (read_found_lem a c.kind_at.ensures) a c.if-kind_at-ne-CHOICE.false in
    let x = sym (c.leaf_listed-2.ensures u v.left l (choice_left (read_found_lem a c.kind_at.ensures) a c.if-kind_at-ne-CHOICE.false c.left_of.ensures)) ∙ c.if-leaf_listed.false in
    sym (list_choice _ _ (read_found_lem a c.kind_at.ensures) a c.if-kind_at-ne-CHOICE.false ∙ and_stop _ _ x))
