-- Step 2, node by node: on trees, and of what was read and written. Assumes nothing.
use Rattle.std.specs.Prelude.{None, Option as Option', Some}
use mathlib.Core.Path.{◌≡◌, refl, sym, ap, ◌∙◌}
use mathlib.Core.Bool.{false≢true, Bool, true, false, ◌&&◌, ◌||◌}
use mathlib.Core.List.{List, [], ◌∷◌}
use mathlib.Core.Option.{Option, none, some}
use Prim.Native.Nat.{ℕ, zero, suc, ◌+◌, ◌-◌, ◌/◌, ◌≤◌, ◌<◌}
use native.Mathlib.Omega.{arith}
use borrow.Author.Tests.{ne_eqb}
use lib.ListN.{length, get_elem?}
use Rattle.grammar.specs.Numbers.{rule_width, row_width, k_pair}
use Rattle.grammar.specs.Basic.{Bytes, ◌>>=◌, any, or_else}
use Rattle.grammar.specs.Tree.{E, Expr, lit, fixed, skip, un, bin, any_node}
use Rattle.grammar.specs.Rows.{Span, str_rows}
use Rattle.grammar.specs.Text.{resolve, joined, spans}
use Rattle.grammar.specs.Table.{Table, Rule, resolve_table}
use Rattle.grammar.specs.Lists.{Reading, nothing, strings, again, read_in, loop_over, skip_list, as_strings, is_again}
use Rattle.grammar.specs.Steps.{children, is_atomic, rotate, top_down, or_same, skip?, skip_to}
use Rattle.grammar.proofs.Logic.{none_some, some_eq}
use Rattle.grammar.proofs.TopDown.{skip_step_lem}
use Rattle.rows.specs.declared.Shape.{Shape}
use Rattle.rows.specs.declared.Shape.TheVariants.{Lit, Num, One, Two, Skips}
use Rattle.rows.specs.Rows.{At, kind_at, x_at, y_at, size_at, shape_of}
use Rattle.rows.proofs.Laws.{Found, root, head_of}
use Rattle.rows.proofs.Views.{OneView, TwoView, as_one, as_two, shape_in_lem, shape_in, bin_half}
use Rattle.writing.specs.Writes.{Areas, Fits, Put, RowAnswer, StrsAnswer, Answer}
use Rattle.writing.specs.declared.Place.{Place}
use Rattle.writing.proofs.Puts.{put_done, put_full, put_out}
use Rattle.writing.proofs.Trees.{skip_tree, fits_strs}
use Rattle.skipper.specs.Memory.{mark_of, by_marks, Known}
use Rattle.skipper.specs.Lends.{lists_of, Lent}
use Rattle.skipper.specs.Lists.{unread_at, Lists}
use Rattle.skipper.specs.Ways.{Spells}
use Rattle.skipper.specs.Skips.{node_by, node_of, is_list, ListAt, ListAnswer, Skipped, Settles, Rising}
use Rattle.skipper.specs.declared.Node.TheVariants.{Leaf, Single, Pair}
use Rattle.skipper.proofs.Memories.{in_mono, settled_so}
use Rattle.skipper.proofs.Leaf.{read_found_lem, length_table, count}
use Rattle.skipper.proofs.Rotation.{skip_is}
use Rattle.skipper.proofs.Tables.{or_first, or_second}

-- On trees

-- the rewrite of what a loop was found to be over
abbrev skip_of : Table Bytes → Option E → Option E
skip_of t o = o >>= λ x. as_strings (skip_list t x) >>= λ ss. some (skip ss)

skip_of_lem : (t : Table Bytes) (e : E) → skip? t e ≡ skip_of t (loop_over e)
unfolding skip?
skip_of_lem t e = refl

abbrev pub skipped : Table Bytes → E → E
skipped t e = top_down (or_same (skip? t)) e

module _ (t : Table Bytes) (e : E) where
  pub skip_stays : skip? t e ≡ none → skipped t e ≡ children (skipped t) e
  skip_stays h = skip_step_lem t e ∙ ap (λ (o : Option E). children (skipped t) (or_else o e)) h

  skip_goes : {ss : List Bytes} → skip? t e ≡ some (skip ss) → skipped t e ≡ skip ss
  skip_goes h = skip_step_lem t e ∙ ap (λ (o : Option E). children (skipped t) (or_else o e)) h

  pub skip_none : loop_over e ≡ none → skip? t e ≡ none
  skip_none h = skip_of_lem t e ∙ ap (skip_of t) h

  pub loop_skips : {x : E} {ss : List Bytes} → loop_over e ≡ some x → skip_list t x ≡ strings ss → skipped t e ≡ skip ss
  loop_skips {x} {ss} h g = skip_goes (skip_of_lem t e ∙ ap (skip_of t) h ∙ ap (λ (p : Reading). as_strings p >>= λ us. some (skip us)) g)

  pub loop_stays : {x : E} → loop_over e ≡ some x → skip_list t x ≡ nothing → skip? t e ≡ none
  loop_stays h g = skip_of_lem t e ∙ ap (skip_of t) h ∙ ap (λ (p : Reading). as_strings p >>= λ us. some (skip us)) g

-- what the marks say of a list
pub record HasList (t : Table Bytes) (x : E) : Type 0 where
  pub list : List Bytes
  pub reads : skip_list t x ≡ strings list

list_mark : (p : Reading) → is_list p ≡ true → mark_of p ≡ 3
list_mark nothing h = absurd (false≢true h)
list_mark again h = absurd (false≢true h)
list_mark (strings ss) h = refl

none_mark : (p : Reading) → is_list p ≡ false → is_again p ≡ false → mark_of p ≡ 2
none_mark nothing h g = refl
none_mark again h g = absurd (false≢true (sym g))
none_mark (strings ss) h g = absurd (false≢true (sym h))

any_root : (p : E → Bool) (e : E) → any_node p e ≡ false → p e ≡ false
any_root p (lit k s) h = h
any_root p (fixed f) h = h
any_root p (skip ss) h = h
any_root p (un u e) h = or_first (p (un u e)) (any_node p e) h
any_root p (bin b l r) h = or_first (p (bin b l r)) (any_node p l || any_node p r) h

module _ {t : Table Bytes} where
  by_names : (m : List ℕ) (x : E) (n : ℕ) → Known t (lists_of t m) → 2 ≤ n → mark_of (read_in (by_marks (lists_of t m)) x) ≡ n → mark_of (skip_list t x) ≡ n
  by_names m x n k b h = ap mark_of (skip_is t x) ∙ settled_so (λ look. read_in look x) [] (in_mono x) k (λ z c. absurd (false≢true c)) b h

module _ {t : Table Bytes} {m : List ℕ} where
  pub settles_list : {e : E} (x : E) → Settles t m e → is_list (read_in (by_marks (lists_of t m)) x) ≡ true → HasList t x
  settles_list x h l = go (skip_list t x) refl (by_names m x 3 h.known (omega arith) (list_mark (read_in (by_marks (lists_of t m)) x) l))
    where
      go : (p : Reading) → skip_list t x ≡ p → mark_of (skip_list t x) ≡ 3 → HasList t x
      go nothing e c = absurd (omega (arith, ap mark_of e))
      go again e c = absurd (omega (arith, ap mark_of e))
      go (strings ss) e c = record { list = ss; reads = e }

  settles_root : {e : E} → Settles t m e → (x : E) → loop_over e ≡ some x → is_again (read_in (by_marks (lists_of t m)) x) ≡ false
  unfolding unread_at
  settles_root {e} h x g = rw g at (any_root (unread_at (by_marks (lists_of t m))) e h.settled)

  pub settles_none : (e : E) → Settles t m e → ((x : E) → loop_over e ≡ some x → is_list (read_in (by_marks (lists_of t m)) x) ≡ false) → skip? t e ≡ none
  settles_none e h g = go (loop_over e) refl
    where
      nothing_is : (p : Reading) → mark_of p ≡ 2 → p ≡ nothing
      nothing_is nothing c = refl
      nothing_is again c = absurd (omega arith)
      nothing_is (strings ss) c = absurd (omega arith)

      go : (o : Option E) → loop_over e ≡ o → skip? t e ≡ none
      go none c = skip_none t e c
      go (some x) c = loop_stays t e c (nothing_is (skip_list t x) (by_names m x 2 h.known (omega arith) (none_mark (read_in (by_marks (lists_of t m)) x) (g x c) (settles_root h x c))))

-- On rows

-- what the test of a loop answered
module _ {b : Option' ℕ} (w : List ℕ) (s : Bytes) (look : Bytes → Reading) (e : E) (h : ListAnswer b w s look e) where
  pub list_over : {j : ℕ} → b ≡ Some j → ListAt j w s look e
  list_over d = rw d at h

  pub list_nothing : b ≡ None → (x : E) → loop_over e ≡ some x → is_list (read_in look x) ≡ false
  list_nothing d = rw d at h

one_shape : (k : ℕ) → node_of k ≡ Single → shape_of k ≡ One
unfolding node_of
one_shape k = go (shape_of k)
  where
    go : (s : Shape) → node_by s ≡ Single → s ≡ One
    go Lit h = let z : ◌≡◌ {A = ℕ} 0 1 = cc in absurd (omega arith)
    go Num h = let z : ◌≡◌ {A = ℕ} 0 1 = cc in absurd (omega arith)
    go One h = refl
    go Two h = let z : ◌≡◌ {A = ℕ} 0 1 = cc in absurd (omega arith)
    go Skips h = let z : ◌≡◌ {A = ℕ} 0 1 = cc in absurd (omega arith)

two_shape : (k : ℕ) → node_of k ≡ Pair → shape_of k ≡ Two
unfolding node_of
two_shape k = go (shape_of k)
  where
    go : (s : Shape) → node_by s ≡ Pair → s ≡ Two
    go Lit h = let z : ◌≡◌ {A = ℕ} 0 1 = cc in absurd (omega arith)
    go Num h = let z : ◌≡◌ {A = ℕ} 0 1 = cc in absurd (omega arith)
    go One h = let z : ◌≡◌ {A = ℕ} 0 1 = cc in absurd (omega arith)
    go Two h = refl
    go Skips h = let z : ◌≡◌ {A = ℕ} 0 1 = cc in absurd (omega arith)

-- the kind of a Choice
pub choice_half : {w : List ℕ} {i k : ℕ} {r : Expr Span} → At w i r → k ≡ kind_at w i → k ≡ 9 → kind_at w i / 2 ≡ k_pair
choice_half a e z = omega (arith, e, z)

leaf_node : {w : List ℕ} {i : ℕ} (r : Expr Span) → At w i r → node_of (head_of r).0 ≡ node_by (shape_in r)
unfolding node_of
leaf_node r a = ap node_by (shape_in_lem r)

pub no_child : (t : Table Bytes) (s : Bytes) (r : Expr Span) → node_by (shape_in r) ≡ Leaf → skipped t (resolve s r) ≡ resolve s r
unfolding loop_over
no_child t s (lit k p) h = skip_stays t (resolve s (lit k p)) (skip_none t (resolve s (lit k p)) refl)
no_child t s (fixed f) h = skip_stays t (fixed f) (skip_none t (fixed f) refl)
no_child t s (skip ss) h = skip_stays t (resolve s (skip ss)) (skip_none t (resolve s (skip ss)) refl)
no_child t s (un u e) h = let z : ◌≡◌ {A = ℕ} 0 1 = cc in absurd (omega arith)
no_child t s (bin b l r) h = let z : ◌≡◌ {A = ℕ} 0 1 = cc in absurd (omega arith)

pair_none : (e l r : E) (b : Rattle.grammar.specs.Tree.Bin) → e ≡ bin b l r → loop_over e ≡ none
unfolding loop_over
pair_none e l r b h = rw h

module _ (s : Bytes) (t : Table Bytes) {w : List ℕ} {i k x y n : ℕ} {r : Expr Span} (f : Found w i k x y n) (a : At w i r) where
  pub leaf_skipped : node_of k ≡ Leaf → skipped t (resolve s r) ≡ resolve s r
  leaf_skipped h = no_child t s r (sym (leaf_node r a) ∙ ap node_of (sym (root a).kind ∙ f.kind) ∙ h)

  module _ (d : node_of k ≡ Single) where
    pub one_view : OneView w i k x y n r
    one_view = as_one f a (one_shape k d)

    pub one_skipped : skip? t (resolve s r) ≡ none → skipped t (resolve s r) ≡ un one_view.op (skipped t (resolve s one_view.child))
    one_skipped h = skip_stays t (resolve s r) h ∙ ap (λ (q : Expr Span). children (skipped t) (resolve s q)) one_view.is

  module _ (d : node_of k ≡ Pair) where
    pub two_view : TwoView w i k x y n r
    two_view = as_two f a (two_shape k d)

    pub two_half : k / 2 ≡ k_pair
    two_half = bin_half two_view.op two_view.kind

    pub two_skipped : skipped t (resolve s r) ≡ bin two_view.op (skipped t (resolve s two_view.left)) (skipped t (resolve s two_view.right))
    two_skipped = skip_stays t (resolve s r) (skip_none t (resolve s r) (pair_none (resolve s r) _ _ _ (ap (resolve s) two_view.is))) ∙ ap (λ (q : Expr Span). children (skipped t) (resolve s q)) two_view.is

-- at a row whose kind was read
module _ (s : Bytes) (t : Table Bytes) {w : List ℕ} {i k : ℕ} {r : Expr Span} (a : At w i r) (z : (k ≡ kind_at w i) × (node_of k ≡ Pair)) where
  abbrev pub fork_view : TwoView w i k (x_at w i) (y_at w i) (size_at w i) r
  fork_view = two_view s t (read_found_lem a z.0) a z.1

  pub fork_half : kind_at w i / 2 ≡ k_pair
  fork_half = rw (← z.0) (two_half s t (read_found_lem a z.0) a z.1)

  pub fork_skipped : skipped t (resolve s r) ≡ bin fork_view.op (skipped t (resolve s fork_view.left)) (skipped t (resolve s fork_view.right))
  fork_skipped = two_skipped s t (read_found_lem a z.0) a z.1

-- the children of a tree whose loops are settled
settles_un : {t : Table Bytes} {m : List ℕ} {u : Rattle.grammar.specs.Tree.Un} (e c : E) → e ≡ un u c → Settles t m e → Settles t m c
settles_un {t} {m} {u} e c q h = record { targets = h.targets; known = h.known; settled = or_second (unread_at (by_marks (lists_of t m)) (un u c)) (any_node (unread_at (by_marks (lists_of t m))) c) (rw q at h.settled) }

module _ {t : Table Bytes} {m : List ℕ} {b : Rattle.grammar.specs.Tree.Bin} (e l r : E) (q : e ≡ bin b l r) (h : Settles t m e) where
  abbrev below : (any_node (unread_at (by_marks (lists_of t m))) l || any_node (unread_at (by_marks (lists_of t m))) r) ≡ false
  below = or_second (unread_at (by_marks (lists_of t m)) (bin b l r)) (any_node (unread_at (by_marks (lists_of t m))) l || any_node (unread_at (by_marks (lists_of t m))) r) (rw q at h.settled)

  settles_left : Settles t m l
  settles_left = record { targets = h.targets; known = h.known; settled = or_first (any_node (unread_at (by_marks (lists_of t m))) l) (any_node (unread_at (by_marks (lists_of t m))) r) below }

  settles_right : Settles t m r
  settles_right = record { targets = h.targets; known = h.known; settled = or_second (any_node (unread_at (by_marks (lists_of t m))) l) (any_node (unread_at (by_marks (lists_of t m))) r) below }

pub settles_child : {t : Table Bytes} {m : List ℕ} (s : Bytes) {w : List ℕ} {i k x y n : ℕ} {r : Expr Span} (v : OneView w i k x y n r) → Settles t m (resolve s r) → Settles t m (resolve s v.child)
settles_child s {r = r} v h = settles_un (resolve s r) (resolve s v.child) (ap (resolve s) v.is) h

module _ {t : Table Bytes} {m : List ℕ} (s : Bytes) {w : List ℕ} {i k x y n : ℕ} {r : Expr Span} (v : TwoView w i k x y n r) (h : Settles t m (resolve s r)) where
  pub settles_first : Settles t m (resolve s v.left)
  settles_first = settles_left (resolve s r) (resolve s v.left) (resolve s v.right) (ap (resolve s) v.is) h

  pub settles_second : Settles t m (resolve s v.right)
  settles_second = settles_right (resolve s r) (resolve s v.left) (resolve s v.right) (ap (resolve s) v.is) h

-- Of what was written

-- a loop's list
pub skip_spells : {rules rows : List ℕ} {t : Table Span} (u : Bytes) (x : E) {ss : List Bytes} → Lent rules rows t → skip_list (resolve_table u t) x ≡ strings ss → Spells (resolve_table u t) (length rules / rule_width + 1) (λ look. read_in look x) ss
unfolding skip_list
skip_spells {rules} {t = t} u x l h =
    let e : length rules / rule_width + 1 ≡ suc (length (resolve_table u t)) = omega (arith, count t l.heads, length_table u t) in
    record { opened = []; reads = rw e h }

module _ {z : Option' Place} (p : Place) (ss : List Bytes) (o o₁ b b₁ : List ℕ) (h : StrsAnswer z p ss o o₁ b b₁) where
  pub skip_full : z ≡ None → Fits p (skip ss) o b → ⊥
  skip_full d f = put_full p _ _ _ o o₁ b b₁ d h (fits_strs f)

  module _ {q : Place} (d : z ≡ Some q) where
    put : Put q p (length ss) (str_rows (spans p.text ss)) (joined ss) o o₁ b b₁
    put = put_done p _ _ _ o o₁ b b₁ d h

    pub strs_rising : {w : List ℕ} {base root : ℕ} → Areas o b → (base ≤ root) × (root < length w / row_width) → Rising w base root p q o₁
    strs_rising a l = record {
      order = l.0;
      inside = l.1;
      after = omega (arith, put.rows);
      room = omega (arith, put.rows, put.fits.rows, put_out put);
      words = omega (arith, a.words, put_out put);
    }

    pub skip_done : (a : Option' Place) (o₂ : List ℕ) → RowAnswer a q (17, q.rows - p.rows, 0) (q.rows - p.rows + 1) o₁ o₂ → Answer a p (skip ss) o o₂ b b₁
    skip_done a o₂ r =
        let n : q.rows - p.rows ≡ length ss = omega (arith, put.rows) in
        skip_tree ss put a (17, q.rows - p.rows, 0) (q.rows - p.rows + 1) o₂ (rw n) (rw n) r

-- "Atomic only"
module _ (t : Table Bytes) (n : ℕ) (e : E) where
  pub skip_atomic : n ≡ 2 → skip_to t n e ≡ skipped t e
  unfolding skip_to
  skip_atomic h = rw h

  pub skip_other : (n ≡ 2 → ⊥) → skip_to t n e ≡ e
  unfolding skip_to
  skip_other h = rw (ne_eqb n 2 h)

-- the lists of a table that were read settle every loop of a rotated Atomic rule
any_none : (p : Rule Bytes → Bool) (t : Table Bytes) (j : ℕ) (r : Rule Bytes) → any p t ≡ false → get_elem? t j ≡ some r → p r ≡ false
any_none p [] j r h e = none_some e
any_none p (q ∷ t) zero r h e = let d : q ≡ r = some_eq q r e in rw (← d) (or_first (p q) (any p t) h)
any_none p (q ∷ t) (suc j) r h e = any_none p t j r (or_second (p q) (any p t) h) e

pub lists_settle : {t : Table Bytes} {m : List ℕ} (j : ℕ) (r : Rule Bytes) → Lists t m → get_elem? t j ≡ some r → r.type ≡ 2 → Settles t m (rotate r.body)
lists_settle {t} {m} j r l e a =
    record {
      known = l.known;
      targets = l.targets;
      settled = rw a at (any_none (λ r. is_atomic r.type && any_node (unread_at (by_marks (lists_of t m))) (rotate r.body)) t j r l.settled e);
    }

-- the room after the strings of a loop
pub loop_rising : {rules rows : List ℕ} {u : Bytes} {w : List ℕ} {s : Bytes} {i : ℕ} (z : Skipped rules rows u w s i) {a : Option' Place} {p q : Place} (o o₁ b b₁ : List ℕ) {base root : ℕ}
    → ((t : Table Span) (r : Expr Span) (ss : List Bytes) → Lent rules rows t → At w i r → Spells (resolve_table u t) (length rules / rule_width + 1) (λ look. read_in look (resolve s r)) ss → StrsAnswer a p ss o o₁ b b₁)
    → a ≡ Some q → Areas o b → (base ≤ root) × (root < length w / row_width) → Rising w base root p q o₁
loop_rising z {p = p} o o₁ b b₁ h d l g = strs_rising p z.list o o₁ b b₁ (h z.table z.tree z.list z.lent z.at (skip_spells _ _ z.lent z.reads)) d l g
