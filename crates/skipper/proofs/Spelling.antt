-- Which expressions have a list by the marks, and how the strings of a list are spelt out, rule by rule. Assumes nothing.
use Rattle.std.specs.Bool.{then_some}
use Rattle.std.specs.Prelude.{None, Option, Some}
use mathlib.Core.Path.{◌≡◌, refl, sym, ap, ◌∙◌}
use mathlib.Core.Bool.{Bool, true, false, ◌&&◌, cond}
use mathlib.Core.List.{List, [], ◌∷◌, ◌++◌}
use mathlib.Core.Option.{none, some}
use Prim.Native.Nat.{ℕ, zero, suc, ◌+◌, ◌-◌, ◌≤◌}
use native.Mathlib.Omega.{arith}
use lib.ListN.{length, length-append}
use lib.Dec.{eqb, leb}
use borrow.Author.Tests.{leb-false, ne_eqb}
use Rattle.grammar.specs.Basic.{Bytes, member}
use Rattle.grammar.specs.Tree.{Str, Insens, Ident, Seq, Choice, Rep, E, Expr, lit, fixed, skip, un, bin}
use Rattle.grammar.specs.Rows.{Span}
use Rattle.grammar.specs.Text.{bytes_at, resolve, joined}
use Rattle.grammar.specs.Table.{Table, find}
use Rattle.grammar.specs.Lists.{Reading, nothing, strings, again, and_then, read_found, read_left, read_in, read_name, loop_over}
use Rattle.grammar.proofs.Logic.{none_some, some_eq}
use Rattle.rows.specs.Rows.{At}
use Rattle.rows.proofs.Laws.{Found, root}
use Rattle.rows.proofs.Cells.{lit_shape}
use Rattle.rows.proofs.Views.{as_lit, lit_is, two_is, one_none}
use Rattle.writing.specs.Writes.{Areas, Room, Fit, LitAnswer, StrsAnswer}
use Rattle.writing.specs.declared.Place.{Place}
use Rattle.writing.proofs.Puts.{put_done, put_full, put_room}
use Rattle.writing.proofs.Trees.{strs_one, strs_append}
use Rattle.skipper.specs.Memory.{by_mark}
use Rattle.skipper.specs.Lends.{capped}
use Rattle.skipper.specs.Loops.{LoopAnswer}
use Rattle.skipper.specs.Ways.{Spells}
use Rattle.skipper.specs.Skips.{is_list, ListAnswer}
use Rattle.skipper.proofs.Leaf.{choice_view}
use Rattle.skipper.proofs.Settles.{loop_no_rep, rep_view, rep_is, loop_over_lem}

-- Whether there is a list

pub mark_list : (w : ℕ) → is_list (by_mark (capped w)) ≡ leb 3 w
mark_list w = go (leb 3 w) refl
  where
    small : (a : Bool) → is_list (cond a nothing (cond false (strings []) again)) ≡ false
    small true = refl
    small false = refl

    go : (b : Bool) → leb 3 w ≡ b → is_list (by_mark (cond b 3 w)) ≡ b
    go true e = refl
    go false e = rw (ne_eqb w 3 (λ q. omega (arith, leb-false 3 w e))) (small (eqb w 2))

then_list : (p q : Reading) → is_list (and_then p q) ≡ (is_list p && is_list q)
then_list nothing q = refl
then_list again q = refl
then_list (strings ss) nothing = refl
then_list (strings ss) again = refl
then_list (strings ss) (strings ts) = refl

pub and_stop : (a b : Bool) → a ≡ false → (a && b) ≡ false
and_stop a b e = rw e

module _ (s : Bytes) (look : Bytes → Reading) {w : List ℕ} {i k x y n : ℕ} {r : Expr Span} (f : Found w i k x y n) (a : At w i r) where
  pub list_str : k ≡ 0 → true ≡ is_list (read_left look (resolve s r))
  list_str z = rw (lit_is Str (as_lit f a (rw z (lit_shape Str))) z)

  pub list_ident : k ≡ 3 → is_list (read_left look (resolve s r)) ≡ is_list (look (bytes_at s (x, y)))
  list_ident z = rw (lit_is Ident (as_lit f a (rw z (lit_shape Ident))) z)

  pub list_other : (k ≡ 0 → ⊥) → (k ≡ 3 → ⊥) → false ≡ is_list (read_left look (resolve s r))
  list_other no-str no-ident = go r (sym f.kind ∙ (root a).kind)
    where
      go : (q : Expr Span) → k ≡ (Rattle.rows.proofs.Laws.head_of q).0 → false ≡ is_list (read_left look (resolve s q))
      go (lit Str p) e = absurd (no-str e)
      go (lit Insens p) e = refl
      go (lit Ident p) e = absurd (no-ident e)
      go (fixed g) e = refl
      go (skip ss) e = refl
      go (un u c) e = refl
      go (bin b l c) e = refl

  -- an expression that is no Choice is a leaf
  pub leaf_in : (k ≡ 9 → ⊥) → read_in look (resolve s r) ≡ read_left look (resolve s r)
  leaf_in z = go r (sym f.kind ∙ (root a).kind)
    where
      go : (q : Expr Span) → k ≡ (Rattle.rows.proofs.Laws.head_of q).0 → read_in look (resolve s q) ≡ read_left look (resolve s q)
      go (lit j p) e = refl
      go (fixed g) e = refl
      go (skip ss) e = refl
      go (un u c) e = refl
      go (bin Seq l c) e = refl
      go (bin Choice l c) e = absurd (z e)

  -- the two sides of a Choice
  module _ (z : k ≡ 9) where
    pub choice_read : read_in look (resolve s r) ≡ and_then (read_left look (resolve s (choice_view f a z).left)) (read_in look (resolve s (choice_view f a z).right))
    choice_read = ap (λ (q : Expr Span). read_in look (resolve s q)) (two_is Choice (choice_view f a z) z)

    pub list_choice : is_list (read_in look (resolve s r)) ≡ (is_list (read_left look (resolve s (choice_view f a z).left)) && is_list (read_in look (resolve s (choice_view f a z).right)))
    list_choice = ap is_list choice_read ∙ then_list (read_left look (resolve s (choice_view f a z).left)) (read_in look (resolve s (choice_view f a z).right))

-- The strings

pub never : {P : Type 0} {ss : List Bytes} (p : Reading) → is_list p ≡ false → p ≡ strings ss → P
never nothing h e = let z : ◌≡◌ {A = ℕ} 0 1 = cc in absurd (omega arith)
never again h e = let z : ◌≡◌ {A = ℕ} 0 1 = cc in absurd (omega arith)
never (strings ts) h e = let z : ◌≡◌ {A = ℕ} 0 1 = cc in absurd (omega arith)

strings_eq : (ss ts : List Bytes) → strings ss ≡ strings ts → ss ≡ ts
strings_eq ss ts e = cc

module _ (s : Bytes) {t : Table Bytes} {m : ℕ} {ss : List Bytes} {w : List ℕ} {i k x y n : ℕ} {r : Expr Span} (f : Found w i k x y n) (a : At w i r) where
  pub spell_str : k ≡ 0 → Spells t m (λ look. read_left look (resolve s r)) ss → bytes_at s (x, y) ∷ [] ≡ ss
  spell_str z h = strings_eq _ ss (ap (read_left (read_name m t h.opened)) (ap (resolve s) (sym (lit_is Str (as_lit f a (rw z (lit_shape Str))) z))) ∙ h.reads)

  pub spell_ident : (k ≡ 0 → ⊥) → Spells t m (λ look. read_left look (resolve s r)) ss → k ≡ 3
  spell_ident z h = go r (sym f.kind ∙ (root a).kind) h.reads
    where
      go : (q : Expr Span) → k ≡ (Rattle.rows.proofs.Laws.head_of q).0 → read_left (read_name m t h.opened) (resolve s q) ≡ strings ss → k ≡ 3
      go (lit Str p) e d = absurd (z e)
      go (lit Insens p) e d = never nothing refl d
      go (lit Ident p) e d = e
      go (fixed g) e d = never nothing refl d
      go (skip us) e d = never nothing refl d
      go (un u c) e d = never nothing refl d
      go (bin b l c) e d = never nothing refl d

  pub spell_name : k ≡ 3 → Spells t m (λ look. read_left look (resolve s r)) ss → Spells t m (λ look. look (bytes_at s (x, y))) ss
  spell_name z h = record { opened = h.opened; reads = ap (read_left (read_name m t h.opened)) (ap (resolve s) (sym (lit_is Ident (as_lit f a (rw z (lit_shape Ident))) z))) ∙ h.reads }

  pub spell_leaf : (k ≡ 9 → ⊥) → Spells t m (λ look. read_in look (resolve s r)) ss → Spells t m (λ look. read_left look (resolve s r)) ss
  spell_leaf z h = record { opened = h.opened; reads = sym (leaf_in s (read_name m t h.opened) f a z) ∙ h.reads }

-- the strings of a name are those of its rule's expression
module _ {t : Table Bytes} {ss : List Bytes} (x : Bytes) where
  pub name_fuel : (m : ℕ) → Spells t m (λ look. look x) ss → 1 ≤ m
  name_fuel zero h = never again refl h.reads
  name_fuel (suc m) h = omega arith

  pub name_known : (m : ℕ) → Spells t m (λ look. look x) ss → find t x ≡ none → ⊥
  name_known zero h e = never again refl h.reads
  name_known (suc m) h e = never nothing refl (rw e at h.reads)

  pub name_spells : (m : ℕ) (e : E) → find t x ≡ some e → Spells t m (λ look. look x) ss → Spells t (m - 1) (λ look. read_in look e) ss
  name_spells zero e d h = never again refl h.reads
  name_spells (suc m) e d h = record { opened = x ∷ h.opened; reads = let q : suc m - 1 ≡ m = omega arith in rw q (go (member x h.opened) (rw d at h.reads)) }
    where
      go : (b : Bool) → read_found (some e) b (read_in (read_name m t (x ∷ h.opened))) ≡ strings ss → read_in (read_name m t (x ∷ h.opened)) e ≡ strings ss
      go true c = never again refl c
      go false c = c

-- the strings of a Choice are those of its left side, then those of its right side
pub record Split (t : Table Bytes) (m : ℕ) (l e : E) (ss : List Bytes) : Type 0 where
  pub front : List Bytes
  pub rest : List Bytes
  pub is : front ++ rest ≡ ss
  pub left : Spells t m (λ look. read_left look l) front
  pub right : Spells t m (λ look. read_in look e) rest

spell_split : {t : Table Bytes} {m : ℕ} {l e : E} {ss : List Bytes} (o : List Bytes) → and_then (read_left (read_name m t o) l) (read_in (read_name m t o) e) ≡ strings ss → Split t m l e ss
spell_split {t} {m} {l} {e} {ss} o h = go (read_left (read_name m t o) l) (read_in (read_name m t o) e) refl refl h
  where
    go : (p q : Reading) → read_left (read_name m t o) l ≡ p → read_in (read_name m t o) e ≡ q → and_then p q ≡ strings ss → Split t m l e ss
    go nothing q a b c = never nothing refl c
    go again q a b c = never again refl c
    go (strings us) nothing a b c = never nothing refl c
    go (strings us) again a b c = never again refl c
    go (strings us) (strings vs) a b c = record { front = us; rest = vs; is = strings_eq (us ++ vs) ss c; left = record { opened = o; reads = a }; right = record { opened = o; reads = b } }

pub spell_choice : (s : Bytes) {t : Table Bytes} {m : ℕ} {ss : List Bytes} {w : List ℕ} {i k x y n : ℕ} {r : Expr Span} (f : Found w i k x y n) (a : At w i r) (z : k ≡ 9) → Spells t m (λ look. read_in look (resolve s r)) ss → Split t m (resolve s (choice_view f a z).left) (resolve s (choice_view f a z).right) ss
spell_choice s {t} {m} f a z h = spell_split h.opened (sym (choice_read s (read_name m t h.opened) f a z) ∙ h.reads)

-- what the writing of a string says
pub str_wrote : {ss : List Bytes} {u v : Bytes} (a : Option Place) (p : Place) (o o' t t' : List ℕ) → u ≡ v → v ∷ [] ≡ ss → LitAnswer a p 0 u o o' t t' → StrsAnswer a p ss o o' t t'
str_wrote {v = v} a p o o' t t' d e h = rw (← e) (strs_one a p v o o' t t' (rw d at h))

-- what does not fit does not fit with more after it
joined_length : (ss ts : List Bytes) → length (joined (ss ++ ts)) ≡ length (joined ss) + length (joined ts)
joined_length [] ts = omega arith
joined_length (s ∷ ss) ts = omega (arith, length-append s (joined (ss ++ ts)), length-append s (joined ss), joined_length ss ts)

-- the strings of a left side that were written, and those of the right side after them
module _ (p : Place) {q : Place} {z : Option Place} (o o₁ t t₁ : List ℕ) (ss : List Bytes) (d : z ≡ Some q) (h : StrsAnswer z p ss o o₁ t t₁) where
  pub strs_room : Areas o t → Room q o₁ t₁
  strs_room a = put_room (put_done p _ _ _ o o₁ t t₁ d h) a

  pub strs_both : {us : List Bytes} (a : Option Place) (ts : List Bytes) (o₂ t₂ : List ℕ) → ss ++ ts ≡ us → StrsAnswer a q ts o₁ o₂ t₁ t₂ → StrsAnswer a p us o o₂ t t₂
  strs_both a ts o₂ t₂ e g = rw (← e) (strs_append ss (put_done p _ _ _ o o₁ t t₁ d h) a ts o₂ t₂ g)

strs_front : {p : Place} {o t : List ℕ} (ss ts us : List Bytes) → ss ++ ts ≡ us → Fit p (length us) (length (joined us)) o t → Fit p (length ss) (length (joined ss)) o t
strs_front ss ts us e f = record { rows = omega (arith, f.rows, ap length e, length-append ss ts); text = omega (arith, f.text, ap (λ (v : List Bytes). length (joined v)) e, joined_length ss ts) }

-- Which loops have a list
module _ (s : Bytes) (look : Bytes → Reading) {w : List ℕ} {i k x y n : ℕ} {r : Expr Span} (f : Found w i k x y n) (a : At w i r) where
  no_list : loop_over (resolve s r) ≡ none → ListAnswer None w s look (resolve s r)
  no_list h e d = none_some (sym h ∙ d)

  pub list_no_rep : (k ≡ 11 → ⊥) → ListAnswer None w s look (resolve s r)
  list_no_rep z = no_list (loop_no_rep (resolve s r) (one_none s 11 f a z))

  module _ (z : k ≡ 11) {b : Option ℕ} (h : LoopAnswer b w s (loop_over (un Rep (resolve s (rep_view s f a z).child)))) where
    pub list_no_loop : b ≡ None → ListAnswer None w s look (resolve s r)
    list_no_loop e = no_list (rep_is s f a z ∙ rw e at h)

    list_yes : {j : ℕ} → b ≡ Some j → ((q : Expr Span) → At w j q → is_list (read_in look (resolve s q)) ≡ true) → ListAnswer (Some j) w s look (resolve s r)
    list_yes e g = let o = loop_over_lem s f a z h e in record { tree = o.tree; at = o.at; is = rep_is s f a z ∙ o.is; list = g o.tree o.at }

    list_no : {j : ℕ} → b ≡ Some j → ((q : Expr Span) → At w j q → is_list (read_in look (resolve s q)) ≡ false) → ListAnswer None w s look (resolve s r)
    list_no e g c d =
        let o = loop_over_lem s f a z h e in
        let q : resolve s o.tree ≡ c = some_eq (resolve s o.tree) c (sym (rep_is s f a z ∙ o.is) ∙ d) in
        rw (← q) (g o.tree o.at)

    pub list_if : {j : ℕ} {d : Bool} → b ≡ Some j → ((q : Expr Span) → At w j q → is_list (read_in look (resolve s q)) ≡ d) → ListAnswer (then_some d j) w s look (resolve s r)
    list_if {d = true} e g = list_yes e g
    list_if {d = false} e g = list_no e g

pub strs_over : (p : Place) {z : Option Place} (o o₁ t t₁ : List ℕ) (ss ts us : List Bytes) → z ≡ None → StrsAnswer z p ss o o₁ t t₁ → ss ++ ts ≡ us → Fit p (length us) (length (joined us)) o t → ⊥
strs_over p o o₁ t t₁ ss ts us d h e f = put_full p _ _ _ o o₁ t t₁ d h (strs_front ss ts us e f)
