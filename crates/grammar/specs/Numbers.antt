-- The numbers of document 01 by name: widths, kinds, refusals (types stand in Table, full sizes in Refusals). src/lib.rt has them for code. Assumes nothing.
use Rattle.std.specs.Prelude.{ℕ, Result, Ok, Err}
use Rattle.grammar.specs.declared.Refusal.{Refusal}
use Rattle.grammar.specs.declared.Refusal.TheVariants.{Area, Size, Shape, Text, Names, Count, Cycle, Full}

-- "a rule is four words: name offset, name length, type, number of rows": the name begins at word 0
abbrev pub rule_width : ℕ
rule_width = 4

abbrev pub length_word : ℕ
length_word = 1

abbrev pub type_word : ℕ
type_word = 2

abbrev pub rows_word : ℕ
rows_word = 3

-- a row is four words: kind, x, y, size
abbrev pub row_width : ℕ
row_width = 4

-- so many words of work for a rule
abbrev pub mark_width : ℕ
mark_width = 4

-- the kinds of a row; 0 to 18 in inputs
abbrev pub k_str : ℕ
k_str = 0

abbrev pub k_insens : ℕ
k_insens = 1

abbrev pub k_range : ℕ
k_range = 2

abbrev pub k_ident : ℕ
k_ident = 3

abbrev pub k_peek_from : ℕ
k_peek_from = 4

abbrev pub k_peek_slice : ℕ
k_peek_slice = 5

abbrev pub k_pos_pred : ℕ
k_pos_pred = 6

abbrev pub k_neg_pred : ℕ
k_neg_pred = 7

abbrev pub k_seq : ℕ
k_seq = 8

abbrev pub k_choice : ℕ
k_choice = 9

abbrev pub k_opt : ℕ
k_opt = 10

abbrev pub k_rep : ℕ
k_rep = 11

abbrev pub k_rep_once : ℕ
k_rep_once = 12

abbrev pub k_rep_exact : ℕ
k_rep_exact = 13

abbrev pub k_rep_min : ℕ
k_rep_min = 14

abbrev pub k_rep_max : ℕ
k_rep_max = 15

abbrev pub k_rep_min_max : ℕ
k_rep_min_max = 16

abbrev pub k_skip : ℕ
k_skip = 17

abbrev pub k_push : ℕ
k_push = 18

abbrev pub k_restore_on_err : ℕ
k_restore_on_err = 19

-- half the kind of a row with two children: of Seq and of Choice, and of no other
abbrev pub k_pair : ℕ
k_pair = 4

-- bytes and Range words go up to this
abbrev pub last_ascii : ℕ
last_ascii = 127

-- the refusals, lowest first
abbrev pub refused_area : ℕ
refused_area = 1

abbrev pub refused_size : ℕ
refused_size = 2

abbrev pub refused_shape : ℕ
refused_shape = 3

abbrev pub refused_text : ℕ
refused_text = 4

abbrev pub refused_names : ℕ
refused_names = 5

abbrev pub refused_count : ℕ
refused_count = 6

abbrev pub refused_cycle : ℕ
refused_cycle = 7

abbrev pub refused_full : ℕ
refused_full = 8

-- rows before and after each of the seven steps
abbrev pub report_width : ℕ
report_width = 14

abbrev pub number_of : Refusal → ℕ
number_of Area = refused_area
number_of Size = refused_size
number_of Shape = refused_shape
number_of Text = refused_text
number_of Names = refused_names
number_of Count = refused_count
number_of Cycle = refused_cycle
number_of Full = refused_full

-- the number that a result tells: 0 where nothing is refused
abbrev pub number_in : {T : Type 0} → Result T Refusal → ℕ
number_in (Ok v) = 0
number_in (Err r) = number_of r
