-- the (finds_at _ _ _ _ c.rule_at.ensures c.in-Some.is) that was found
use mathlib.Core.Path.{sym, ap, ◌∙◌}
use Prim.Native.Nat.{ℕ, ◌+◌, ◌*◌}
use lib.ListN.{get_or}
use Rattle.grammar.specs.Numbers.{mark_width}
use Rattle.names.specs.Names.{memory_word}
use Rattle.rows.proofs.Laws.{root}
use Rattle.skipper.specs.Memory.{by_mark}
use Rattle.skipper.specs.Skips.{is_list}
use Rattle.skipper.proofs.Leaf.{read_found_lem, finds_at, finds_nothing, nothing_list, name_list_lem}
use Rattle.skipper.proofs.Spelling.{mark_list, list_str, list_ident, list_other}
use Rattle.skipper.proofs.leaf_listed.Goals as goal

pub kind_at-kind-requires : goal.kind_at-kind-requires
kind_at-kind-requires c = (root c.requires.stands.at).inside

pub returns-then-kind-eq-STR : goal.returns-then-kind-eq-STR
returns-then-kind-eq-STR c = λ u r l a. list_str _ _ (read_found_lem a c.kind_at-kind.ensures) a c.if-kind-eq-STR.true

pub returns-then-kind-ne-IDENT : goal.returns-then-kind-ne-IDENT
returns-then-kind-ne-IDENT c = λ u r l a. list_other _ _ (read_found_lem a c.kind_at-kind.ensures) a c.if-kind-eq-STR.false c.if-kind-ne-IDENT.true

pub rule_at-requires-clause-root_in_bounds : goal.rule_at-requires-clause-root_in_bounds
rule_at-requires-clause-root_in_bounds c = (root c.requires.stands.at).inside

pub returns-in_default : goal.returns-in_default
returns-in_default c = λ u r l a. sym (list_ident _ _ (read_found_lem a c.kind_at-kind.ensures) a c.if-kind-ne-IDENT.false ∙ ap (λ (n : ℕ). is_list (by_mark n)) (nothing_list u l _ _ _ (finds_nothing _ _ _ _ c.rule_at.ensures c.in_default.is)))

pub returns : goal.returns
returns c = λ u r l a. sym (list_ident _ _ (read_found_lem a c.kind_at-kind.ensures) a c.if-kind-ne-IDENT.false ∙ ap (λ (n : ℕ). is_list (by_mark n)) (name_list_lem u l _ _ _ (finds_at _ _ _ _ c.rule_at.ensures c.in-Some.is)) ∙ mark_list (get_or c.args.marks.now (c.in-Some.i * mark_width + memory_word) 0))
