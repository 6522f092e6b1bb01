-- A table is known by its words. Assumes nothing.
use mathlib.Core.Path.{◌≡◌, refl, sym, ap, ap₂, ◌∙◌, subst}
use mathlib.Core.List.{List, [], ◌∷◌, ◌++◌}
use Prim.Native.Nat.{ℕ, ◌-◌}
use native.Mathlib.Omega.{arith}
use lib.ListN.{length, drop}
use lib.Seq.{drop-append_seam}
use Rattle.grammar.specs.Basic.{Bytes}
use Rattle.grammar.specs.Tree.{Expr, size}
use Rattle.grammar.specs.Rows.{Span, flat}
use Rattle.grammar.specs.Table.{Table, rule_words, row_words, resolve_table}
use Rattle.rows.specs.Rows.{At}
use Rattle.rows.proofs.Laws.{size_pos}
use Rattle.rows.proofs.Views.{at_unique}
use Rattle.skipper.specs.Lends.{Lent, Given}
use Rattle.skipper.specs.Ways.{Targets, Led}

at_front : (r : Expr Span) (rest : List ℕ) (n : ℕ) → size r ≡ n → At (flat r ++ rest) (n - 1) r
at_front r rest n e = record { before = []; after = rest; whole = refl; place = omega (arith, size_pos r) }

front_body : (r s : Expr Span) (x y : List ℕ) → size r ≡ size s → flat r ++ x ≡ flat s ++ y → r ≡ s
front_body r s x y e h = at_unique r s (at_front r x (size s) e) (subst (λ (w : List ℕ). At w (size s - 1) s) (sym h) (at_front s y (size s) refl))

rest_same : (a x y : List ℕ) → a ++ x ≡ a ++ y → x ≡ y
rest_same a x y h = sym (drop-append_seam a x) ∙ ap (drop (length a)) h ∙ drop-append_seam a y

-- ONE TABLE IS LENT
pub same_words : (t u : Table Span) → rule_words t ≡ rule_words u → row_words t ≡ row_words u → t ≡ u
same_words [] [] h k = refl
same_words [] (s ∷ u) h k = let z : ◌≡◌ {A = ℕ} 0 1 = cc in absurd (omega arith)
same_words (r ∷ t) [] h k = let z : ◌≡◌ {A = ℕ} 0 1 = cc in absurd (omega arith)
same_words (r ∷ t) (s ∷ u) h k =
    let a : r.name.0 ≡ s.name.0 = cc in
    let b : r.name.1 ≡ s.name.1 = cc in
    let c : r.type ≡ s.type = cc in
    let n : size r.body ≡ size s.body = cc in
    let l : rule_words t ≡ rule_words u = cc in
    let d : r.body ≡ s.body = front_body r.body s.body (row_words t) (row_words u) n k in
    let m : row_words t ≡ row_words u = rest_same (flat s.body) (row_words t) (row_words u) (subst (λ (e : Expr Span). flat e ++ row_words t ≡ flat s.body ++ row_words u) d k) in
    let q : t ≡ u = same_words t u l m in
    let e : ◌≡◌ {A = Span} r.name s.name = ap₂ (λ (i j : ℕ). (i, j)) a b in
    ap₂ (λ (x : Span) (y : ℕ). record { name = x; type = y; body = r.body } ∷ t) e c ∙ ap₂ (λ (x : Expr Span) (y : Table Span). record { name = s.name; type = s.type; body = x } ∷ y) d q

pub led_by : {rules rows : List ℕ} {text : Bytes} {m : List ℕ} {t : Table Span} → Given rules rows text m → Lent rules rows t → Targets (resolve_table text t) m → Led rules rows text m
led_by {text = text} {m = m} {t = t} g l h = record { given = g; targets = λ u k. subst (λ (v : Table Span). Targets (resolve_table text v) m) (same_words t u (sym l.heads ∙ k.heads) (sym l.trees ∙ k.trees)) h }
