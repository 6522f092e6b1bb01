-- A reading with its place, arm by arm: a leaf, a name, a Choice. Assumes nothing.
use mathlib.Core.Path.{◌≡◌, refl, sym, ap, ◌∙◌, subst}
use mathlib.Core.Bool.{true, false}
use mathlib.Core.List.{List, [], ◌∷◌, ◌++◌, append-nil}
use mathlib.Core.Option.{none, some}
use Prim.Native.Nat.{ℕ, suc, ◌+◌, ◌-◌, ◌≤◌}
use native.Mathlib.Omega.{arith}
use lib.ListN.{length}
use Rattle.grammar.specs.Basic.{Bytes}
use Rattle.grammar.specs.Tree.{Str, Insens, Ident, Seq, Choice, Expr, lit, fixed, skip, un, bin, size}
use Rattle.grammar.specs.Rows.{Span}
use Rattle.grammar.specs.Text.{bytes_at, resolve}
use Rattle.grammar.specs.Table.{Table, resolve_table}
use Rattle.grammar.specs.Lists.{read_left, read_in}
use Rattle.rows.specs.Rows.{At, size_at}
use Rattle.rows.proofs.Laws.{Found, root}
use Rattle.rows.proofs.Cells.{lit_shape, size_resolve}
use Rattle.rows.proofs.Views.{as_lit, lit_is, two_is}
use Rattle.writing.specs.Writes.{stored}
use Rattle.writing.proofs.Runs.{stored_none}
use Rattle.skipper.proofs.Memories.{left_mono}
use Rattle.skipper.proofs.Leaf as leaf
use Rattle.explanation.specs.Ends.{Ends, reads, unknown, other, again, first, Look, ends_left, ends_in, Place, place_from, opened, ends_name}
use Rattle.explanation.specs.Explain.{ends_told}
use Rattle.explanation.proofs.Ties.{end_of}
use Rattle.explainer.specs.declared.Explained.{Explained}
use Rattle.explainer.specs.declared.Reason.{Reason}
use Rattle.explainer.specs.declared.Reason.TheVariants.{BecomesSkip, NotRep, Regroup, NotAtomic, NotSeq, NotNegPred, NotAny, Unknown, Other, MetAgain}
use Rattle.explainer.specs.Reading.{number_of, Numbered, Clean, Way, Says, ReadSo}
use Rattle.explainer.proofs.Marks.{steady_none, steady_more}
use Rattle.explainer.proofs.Opens.{within_grows}

-- ---- what an answer says

module _ {a : Explained} {o : List ℕ} {d : ℕ} {l : List ℕ} where
  pub says_reads : Numbered a BecomesSkip 0 0 0 0 → Says a reads o d l l
  says_reads h = record { answer = ap number_of h.0; rule = h.1; at = h.2; met = h.3; count = h.4; tail = []; way = refl; list = sym (stored_none l d) }

  says_other : {i at : ℕ} → Numbered a Other i at 0 0 → Says a (other i at) o d l l
  says_other h = record { answer = ap number_of h.0; rule = h.1; at = h.2; met = h.3; count = h.4; tail = []; way = refl; list = sym (stored_none l d) }

  pub says_unknown : {i at : ℕ} → Numbered a Unknown i at 0 0 → Says a (unknown i at) o d l l
  says_unknown h = record { answer = ap number_of h.0; rule = h.1; at = h.2; met = h.3; count = h.4; tail = []; way = refl; list = sym (stored_none l d) }

  pub says_again : {i at j : ℕ} → length o ≡ d → d ≤ length l → Numbered a MetAgain i at j d → Says a (again i at j o) o d l l
  says_again e g h = record { answer = ap number_of h.0; rule = h.1; at = h.2; met = h.3; count = h.4 ∙ sym e; tail = []; way = (sym (append-nil o), omega (arith, g)); list = sym (stored_none l d) }

pub says_by : {a : Explained} {w w' : Ends} {o : List ℕ} {d : ℕ} {l l' : List ℕ} → w ≡ w' → Says a w' o d l l' → Says a w o d l l'
says_by {a} {o = o} {d} {l} {l'} e h = subst (λ (v : Ends). Says a v o d l l') (sym e) h

-- an answer of 0 is that of a list, which leaves the lent one alone
only_skip : (r : Reason) → number_of r ≡ 0 → r ≡ BecomesSkip
only_skip BecomesSkip h = refl
only_skip NotRep h = absurd (omega arith)
only_skip Regroup h = absurd (omega arith)
only_skip NotAtomic h = absurd (omega arith)
only_skip NotSeq h = absurd (omega arith)
only_skip NotNegPred h = absurd (omega arith)
only_skip NotAny h = absurd (omega arith)
only_skip Unknown h = absurd (omega arith)
only_skip Other h = absurd (omega arith)
only_skip MetAgain h = absurd (omega arith)

zero_reads : (w : Ends) → (ends_told w []).answer ≡ 0 → w ≡ reads
zero_reads reads h = refl
zero_reads (unknown i at) h = absurd (omega (arith, h))
zero_reads (other i at) h = absurd (omega (arith, h))
zero_reads (again i at j p) h = absurd (omega (arith, h))

reads_list : {a : Explained} {w : Ends} {o : List ℕ} {d : ℕ} {l l' : List ℕ} → Says a w o d l l' → w ≡ reads → l' ≡ l
reads_list {a} {w} {o} {d} {l} {l'} h e = let t : h.tail ≡ [] = subst (λ (v : Ends). Way v o d (length l) h.tail) e h.way in h.list ∙ ap (stored l d) t ∙ stored_none l d

pub three_reads : (w : Ends) → end_of w ≡ 3 → w ≡ reads
three_reads reads h = refl
three_reads (unknown i at) h = absurd (omega (arith, h))
three_reads (other i at) h = absurd (omega (arith, h))
three_reads (again i at j p) h = absurd (omega (arith, h))

-- ---- how an expression ends, by the kind of its row

module _ {w : List ℕ} {j k x y n : ℕ} (f : Found w j k x y n) (s : Bytes) (look : Look) (i : ℕ) where
  ends_str : {r : Expr Span} → At w j r → k ≡ 0 → ends_left look i j (resolve s r) ≡ reads
  ends_str a z = ap (λ (q : Expr Span). ends_left look i j (resolve s q)) (lit_is Str (as_lit f a (rw z (lit_shape Str))) z)

  ends_ident : {r : Expr Span} → At w j r → k ≡ 3 → ends_left look i j (resolve s r) ≡ look i j (bytes_at s (x, y))
  ends_ident a z = ap (λ (q : Expr Span). ends_left look i j (resolve s q)) (lit_is Ident (as_lit f a (rw z (lit_shape Ident))) z)

  ends_other : (r : Expr Span) → At w j r → (k ≡ 0 → ⊥) → (k ≡ 3 → ⊥) → ends_left look i j (resolve s r) ≡ other i j
  ends_other (lit Str p) a no-str no-ident = absurd (no-str (sym f.kind ∙ (root a).kind))
  ends_other (lit Insens p) a no-str no-ident = refl
  ends_other (lit Ident p) a no-str no-ident = absurd (no-ident (sym f.kind ∙ (root a).kind))
  ends_other (fixed g) a no-str no-ident = refl
  ends_other (skip ss) a no-str no-ident = refl
  ends_other (un u e) a no-str no-ident = refl
  ends_other (bin b l e) a no-str no-ident = refl

  ends_leaf : (r : Expr Span) → At w j r → (k ≡ 9 → ⊥) → ends_in look i j (resolve s r) ≡ ends_left look i j (resolve s r)
  ends_leaf (lit k p) a z = refl
  ends_leaf (fixed g) a z = refl
  ends_leaf (skip ss) a z = refl
  ends_leaf (un u e) a z = refl
  ends_leaf (bin Seq l e) a z = refl
  ends_leaf (bin Choice l e) a z = absurd (z (sym f.kind ∙ (root a).kind))

  -- a Choice: the left side at its row, then the right side one row before
  ends_choice : {r : Expr Span} {c : ℕ} (a : At w j r) (z : k ≡ 9) → c ≡ j - 1 - size_at w (j - 1) → let v = leaf.choice_view f a z in ends_in look i j (resolve s r) ≡ first (ends_left look i c (resolve s v.left)) (ends_in look i (j - 1) (resolve s v.right))
  ends_choice {r} {c} a z e =
      let v = leaf.choice_view f a z in
      let q : j - 1 - size (resolve s v.right) ≡ c = omega (arith, e, size_resolve s v.right, (root v.at_right).rows) in
      ap (λ (q : Expr Span). ends_in look i j (resolve s q)) (two_is Choice v z) ∙ ap (λ (b : ℕ). first (ends_left look i b (resolve s v.left)) (ends_in look i (j - 1) (resolve s v.right))) q

-- ---- how a name ends, by what is found

fuel : (n d : ℕ) → d ≤ n → suc n - d ≡ suc (n - d)
fuel n d h = omega (arith, h)

module _ (t : Table Bytes) (o : List ℕ) (d : ℕ) (h : d ≤ length t) (x : Bytes) (i at : ℕ) where
  pub ends_unknown : place_from 0 0 t x ≡ none → ends_name (suc (length t) - d) t o i at x ≡ unknown i at
  ends_unknown e = rw (fuel (length t) d h, e)

  pub ends_met : (p : Place) → place_from 0 0 t x ≡ some p → opened p.rule o ≡ true → ends_name (suc (length t) - d) t o i at x ≡ again i at p.rule o
  ends_met p e m = rw (fuel (length t) d h, e, m)

  pub ends_step : (p : Place) → place_from 0 0 t x ≡ some p → opened p.rule o ≡ false → ends_name (suc (length t) - d) t o i at x ≡ ends_in (ends_name (suc (length t) - (d + 1)) t (o ++ (p.rule ∷ []))) p.rule p.root p.body
  ends_step p e m = let g : suc (length t) - (d + 1) ≡ length t - d = omega (arith, h) in rw (fuel (length t) d h, e, m, g)

-- ---- a leaf

module _ (s : Bytes) (t : Table Span) (n d : ℕ) {m l : List ℕ} {w : List ℕ} {j k x y c : ℕ} (f : Found w j k x y c) (i : ℕ) {r : Expr Span} (at : At w j r) where
  pub arm_str : {a : Explained} → Clean n m → k ≡ 0 → Numbered a BecomesSkip 0 0 0 0 → ReadSo s t n d m m l l a (λ look. read_left look (resolve s r)) (λ look. ends_left look i j (resolve s r))
  arm_str clean z h = record { steady = steady_none n m; clean = λ _. clean; reads' = λ _. leaf.leaf_str s f at z; says = λ o names known within. says_by (ends_str f s (ends_name (suc (length (resolve_table s t)) - d) (resolve_table s t) o) i at z) (says_reads h) }

  pub arm_other : {a : Explained} → (k ≡ 0 → ⊥) → (k ≡ 3 → ⊥) → Numbered a Other i j 0 0 → ReadSo s t n d m m l l a (λ look. read_left look (resolve s r)) (λ look. ends_left look i j (resolve s r))
  arm_other z q h = record { steady = steady_none n m; clean = λ e. absurd (cc (h.0, e)); reads' = λ e. absurd (cc (h.0, e)); says = λ o names known within. says_by (ends_other f s (ends_name (suc (length (resolve_table s t)) - d) (resolve_table s t) o) i r at z q) (says_other h) }

  pub arm_ident : {a : Explained} {m' l' : List ℕ} → k ≡ 3 → ReadSo s t n d m m' l l' a (λ look. look (bytes_at s (x, y))) (λ look. look i j (bytes_at s (x, y))) → ReadSo s t n d m m' l l' a (λ look. read_left look (resolve s r)) (λ look. ends_left look i j (resolve s r))
  arm_ident z h = record { steady = h.steady; clean = h.clean; reads' = λ e. leaf.leaf_ident s f at z (h.reads' e); says = λ o names known within. says_by (ends_ident f s (ends_name (suc (length (resolve_table s t)) - d) (resolve_table s t) o) i at z) (h.says o names known within) }

  -- an expression that is no Choice
  pub arm_leaf : {a : Explained} {m' l' : List ℕ} → (k ≡ 9 → ⊥) → ReadSo s t n d m m' l l' a (λ look. read_left look (resolve s r)) (λ look. ends_left look i j (resolve s r)) → ReadSo s t n d m m' l l' a (λ look. read_in look (resolve s r)) (λ look. ends_in look i j (resolve s r))
  arm_leaf z h = record { steady = h.steady; clean = h.clean; reads' = λ e. leaf.in_leaf s f at z (h.reads' e); says = λ o names known within. says_by (ends_leaf f s (ends_name (suc (length (resolve_table s t)) - d) (resolve_table s t) o) i r at z) (h.says o names known within) }

  -- a Choice whose left side ends the reading
  pub arm_stop : {a : Explained} {m₁ l₁ : List ℕ} {b : ℕ} → k ≡ 9 → b ≡ j - 1 - size_at w (j - 1) → (a.answer ≡ BecomesSkip → ⊥) → ((q : Expr Span) → At w b q → ReadSo s t n d m m₁ l l₁ a (λ look. read_left look (resolve s q)) (λ look. ends_left look i b (resolve s q))) → ReadSo s t n d m m₁ l l₁ a (λ look. read_in look (resolve s r)) (λ look. ends_in look i j (resolve s r))
  arm_stop {a} {b = b} z e unlike p =
      let h = p (leaf.choice_view f at z).left (leaf.choice_left f at z e) in
      record {
        steady = h.steady;
        clean = h.clean;
        reads' = λ q. absurd (unlike q);
        says = λ o names known within. let g = h.says o names known within in let look : Look = ends_name (suc (length (resolve_table s t)) - d) (resolve_table s t) o in says_by (ends_choice f s look i at z e ∙ stops (ends_left look i b (resolve s (leaf.choice_view f at z).left)) (ends_in look i (j - 1) (resolve s (leaf.choice_view f at z).right)) (λ q. unlike (only_skip a.answer (g.answer ∙ q)))) g;
      }
    where
      stops : (u v : Ends) → ((ends_told u []).answer ≡ 0 → ⊥) → first u v ≡ u
      stops reads v q = absurd (q refl)
      stops (unknown i at) v q = refl
      stops (other i at) v q = refl
      stops (again i at j p) v q = refl

  -- one whose left side is a list
  pub arm_then : {a₁ a : Explained} {m₁ m₂ l₁ l₂ : List ℕ} {b : ℕ} → k ≡ 9 → b ≡ j - 1 - size_at w (j - 1) → a₁.answer ≡ BecomesSkip → ((q : Expr Span) → At w b q → ReadSo s t n d m m₁ l l₁ a₁ (λ look. read_left look (resolve s q)) (λ look. ends_left look i b (resolve s q))) → ((q : Expr Span) → At w (j - 1) q → ReadSo s t n d m₁ m₂ l₁ l₂ a (λ look. read_in look (resolve s q)) (λ look. ends_in look i (j - 1) (resolve s q))) → ReadSo s t n d m m₂ l l₂ a (λ look. read_in look (resolve s r)) (λ look. ends_in look i j (resolve s r))
  arm_then {a₁} {a} {l₂ = l₂} {b} z e zero' p q =
      let v = leaf.choice_view f at z in
      let h = p v.left (leaf.choice_left f at z e) in
      let g = q v.right v.at_right in
      record {
        steady = steady_more h.steady g.steady;
        clean = g.clean;
        reads' = λ c. leaf.choice_then read_left read_in left_mono (λ _ _. refl) s t f at z e (λ u b. (p u b).reads' zero') (λ u b. (q u b).reads' c);
        says = λ o names known within.
            let look : Look = ends_name (suc (length (resolve_table s t)) - d) (resolve_table s t) o in
            let left = h.says o names known within in
            let is : ends_left look i b (resolve s v.left) ≡ reads = zero_reads _ (sym left.answer ∙ ap number_of zero') in
            let done = (h.reads' zero').read known in
            let right = g.says o names (done.known (omega arith)) (within_grows within (done.grows (omega arith))) in
            says_by (ends_choice f s look i at z e ∙ ap (λ (u : Ends). first u (ends_in look i (j - 1) (resolve s v.right))) is) (subst (λ (u : List ℕ). Says a (ends_in look i (j - 1) (resolve s v.right)) o d u l₂) (reads_list left is) right);
      }
