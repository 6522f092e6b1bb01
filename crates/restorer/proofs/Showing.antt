-- What shows of a restored tree, by cases, and that settled marks say it of names. Assumes nothing.
use Rattle.std.specs.Prelude.{None, Option, Some}
use mathlib.Core.Path.{◌≡◌, refl, sym, ap, ◌∙◌}
use mathlib.Core.Bool.{false≢true, Bool, true, false, ◌||◌, cond}
use mathlib.Core.List.{List}
use mathlib.Core.Option.{some}
use mathlib.Core.Logic.{◌⊎◌, inl, inr}
use Prim.Native.Nat.{ℕ, zero, suc, ◌/◌, ◌<◌}
use native.Mathlib.Omega.{arith}
use lib.ListN.{length}
use lib.Dec.{eqb}
use Rattle.grammar.specs.Numbers.{rule_width}
use Rattle.grammar.specs.Basic.{Bytes, member}
use Rattle.grammar.specs.Tree.{Lit, Str, Insens, Ident, Fixed, Un, PosPred, NegPred, Opt, Rep, RepOnce, Push, RestoreOnErr, RepExact, RepMin, RepMax, RepMinMax, Bin, Seq, Choice, E, lit, fixed, skip, un, bin, lit_kind, un_head, bin_kind}
use Rattle.grammar.specs.Rows.{Span}
use Rattle.grammar.specs.Table.{Table, find, resolve_rule, resolve_table}
use Rattle.grammar.specs.Stack.{stack_names, Reaches, at_push, at_name, through, down, left, right, changes}
use Rattle.grammar.specs.Steps.{guarded, restore_at, restore}
use Rattle.grammar.proofs.Logic.{none_some, some_eq, or_case, or_left, or_right, eqb_eq}
use Rattle.grammar.proofs.Stacks.{changes_is}
use Rattle.writing.specs.Writes.{Fits}
use Rattle.writing.specs.declared.Place.{Place}
use Rattle.writing.proofs.Trees.{fits_un}
use Rattle.names.specs.Names.{Finds}
use Rattle.names.proofs.Finding.{Looked, looked, not_found}
use Rattle.restorer.specs.Search.{state_of, Settled}
use Rattle.restorer.specs.Lends.{Lent, Marked, Settles}
use Rattle.restorer.specs.Restores.{is_guard, guarded_if, shows_through, says_found, Sure, Known}
use Rattle.restorer.proofs.Memories.{rule_resolved}
use Rattle.restorer.proofs.Marks.{below_resolved}

-- ---- what shows, by cases

pub changes_un : (t : Table Bytes) (u : Un) (e : E) → changes t (un u e) ≡ shows_through (un_head u).0 (changes t e)
unfolding changes
changes_un t PosPred e = refl
changes_un t NegPred e = refl
changes_un t Opt e = refl
changes_un t Rep e = refl
changes_un t RepOnce e = refl
changes_un t (RepExact n) e = refl
changes_un t (RepMin n) e = refl
changes_un t (RepMax n) e = refl
changes_un t (RepMinMax m n) e = refl
changes_un t Push e = refl
changes_un t RestoreOnErr e = refl

pub changes_bin : (t : Table Bytes) (b : Bin) (l r : E) → changes t (bin b l r) ≡ shows_through (bin_kind b) (changes t l || changes t r)
unfolding changes
changes_bin t Seq l r = refl
changes_bin t Choice l r = refl

pub changes_lit_lem : (t : Table Bytes) (k : Lit) (s : Bytes) → (lit_kind k ≡ 3 → ⊥) → changes t (lit k s) ≡ false
unfolding changes
changes_lit_lem t Str s n = refl
changes_lit_lem t Insens s n = refl
changes_lit_lem t Ident s n = absurd (n refl)

pub changes_fixed : (t : Table Bytes) (f : Fixed) → changes t (fixed f) ≡ false
unfolding changes
changes_fixed t f = refl

pub changes_skip : (t : Table Bytes) (ss : List Bytes) → changes t (skip ss) ≡ false
unfolding changes
changes_skip t ss = refl

-- ---- a restored tree, by cases

pub restore_lit : (t : Table Bytes) (k : Lit) (s : Bytes) → restore t (lit k s) ≡ lit k s
unfolding restore restore_at
restore_lit t k s = refl

pub restore_fixed : (t : Table Bytes) (f : Fixed) → restore t (fixed f) ≡ fixed f
unfolding restore restore_at
restore_fixed t f = refl

pub restore_skip : (t : Table Bytes) (ss : List Bytes) → restore t (skip ss) ≡ skip ss
unfolding restore restore_at
restore_skip t ss = refl

pub restore_un : (t : Table Bytes) (u : Un) (e : E) → restore t (un u e) ≡ un u (guarded_if t (is_guard (un_head u).0) (restore t e))
unfolding restore restore_at guarded_if
restore_un t PosPred e = refl
restore_un t NegPred e = refl
restore_un t Opt e = refl
restore_un t Rep e = refl
restore_un t RepOnce e = refl
restore_un t (RepExact n) e = refl
restore_un t (RepMin n) e = refl
restore_un t (RepMax n) e = refl
restore_un t (RepMinMax m n) e = refl
restore_un t Push e = refl
restore_un t RestoreOnErr e = refl

pub restore_bin : (t : Table Bytes) (b : Bin) (l r : E) → restore t (bin b l r) ≡ bin b (guarded_if t (is_guard (bin_kind b)) (restore t l)) (guarded_if t (is_guard (bin_kind b)) (restore t r))
unfolding restore restore_at guarded_if
restore_bin t Seq l r = refl
restore_bin t Choice l r = refl

-- ---- what is guarded

guarded_off : (t : Table Bytes) (e : E) → guarded_if t false e ≡ e
unfolding guarded_if
guarded_off t e = refl

guarded_on : (t : Table Bytes) (e : E) → guarded_if t true e ≡ cond (changes t e) (un RestoreOnErr e) e
unfolding guarded_if guarded
guarded_on t e = refl

module _ (t : Table Bytes) (g : Bool) (e : E) where
  pub guarded_yes : g ≡ true → changes t e ≡ true → guarded_if t g e ≡ un RestoreOnErr e
  guarded_yes h k = ap (λ (z : Bool). guarded_if t z e) h ∙ guarded_on t e ∙ ap (λ (z : Bool). cond z (un RestoreOnErr e) e) k

  pub guarded_no : g ≡ true → changes t e ≡ false → guarded_if t g e ≡ e
  guarded_no h k = ap (λ (z : Bool). guarded_if t z e) h ∙ guarded_on t e ∙ ap (λ (z : Bool). cond z (un RestoreOnErr e) e) k

  pub guarded_not : g ≡ false → guarded_if t g e ≡ e
  guarded_not h = ap (λ (z : Bool). guarded_if t z e) h ∙ guarded_off t e

  pub fits_guarded : {p : Place} {o l : List ℕ} → Fits p (guarded_if t g e) o l → Fits p e o l
  fits_guarded {p} {o} {l} f = go g refl (changes t e) refl
    where
      go : (a : Bool) → g ≡ a → (b : Bool) → changes t e ≡ b → Fits p e o l
      go true h true k = let z : Fits p (un RestoreOnErr e) o l = rw (guarded_yes h k) at f in fits_un z
      go true h false k = rw (guarded_no h k) at f
      go false h b k = rw (guarded_not h) at f

-- ---- names

-- a name through which a change is reached
record Through (t : Table Bytes) (x : Bytes) : Type 0 where
  pub body : E
  pub finds : find t x ≡ some body
  pub reaches : Reaches t body

name_reaches : (t : Table Bytes) (e : E) → Reaches t e → (x : Bytes) → e ≡ lit Ident x → (member x stack_names ≡ true) ⊎ Through t x
name_reaches t e (at_push {e = y}) x q = let z : ◌≡◌ {A = ℕ} 0 1 = cc in absurd (omega arith)
name_reaches t e (at_name {x = y} h) x q = let p : y ≡ x = cc in inl (rw p at h)
name_reaches t e (through {x = y} {e = b} f r) x q = let p : y ≡ x = cc in inr (record { body = b; finds = rw p at f; reaches = r })
name_reaches t e (down {u = u} {e = y} h r) x q = let z : ◌≡◌ {A = ℕ} 0 1 = cc in absurd (omega arith)
name_reaches t e (left {b = b} {l = l} {r = r} p) x q = let z : ◌≡◌ {A = ℕ} 0 1 = cc in absurd (omega arith)
name_reaches t e (right {b = b} {l = l} {r = r} p) x q = let z : ◌≡◌ {A = ℕ} 0 1 = cc in absurd (omega arith)

same_bool : (a b : Bool) → (a ≡ true → b ≡ true) → (b ≡ true → a ≡ true) → a ≡ b
same_bool true b f g = sym (f refl)
same_bool false true f g = g refl
same_bool false false f g = refl

pub stack_shows : (t : Table Bytes) (x : Bytes) → member x stack_names ≡ true → true ≡ changes t (lit Ident x)
stack_shows t x h = sym ((changes_is t (lit Ident x)).1 (at_name h))

-- SETTLED MARKS SAY WHETHER THE STACK CAN CHANGE THROUGH A NAME
module _ {rules rows : List ℕ} (text : Bytes) (t : Table Span) (lent : Lent t rules rows) (m : List ℕ) (h : Settled (resolve_table text t) m) where
  says_yes : (key : Bytes) (f : Option ℕ) → Finds (length rules / rule_width) rules text key f → Through (resolve_table text t) key → says_found m f ≡ true
  says_yes key None n th = none_some (sym (not_found text key t (rw lent.heads n)) ∙ th.finds)
  says_yes key (Some i) n th = go (state_of m i) refl
    where
      l : Looked text key t i
      l = looked text key t i (rw lent.heads n)

      reaches : Reaches (resolve_table text t) (resolve_rule text l.rule).body
      reaches = let e = some_eq _ _ (sym th.finds ∙ l.finds) in rw e at th.reaches

      below : i < length (resolve_table text t)
      below = below_resolved lent text i n.below

      go : (v : ℕ) → state_of m i ≡ v → eqb v 3 ≡ true
      go zero e = absurd (omega (arith, h.done i below))
      go (suc zero) e = absurd (omega (arith, h.done i below))
      go (suc (suc zero)) e = absurd (h.right.no i (resolve_rule text l.rule) (rule_resolved text t i l.rule l.is) e reaches)
      go (suc (suc (suc zero))) e = refl
      go (suc (suc (suc (suc v)))) e = absurd (omega (arith, h.states i below))

  yes_says : (key : Bytes) (f : Option ℕ) → Finds (length rules / rule_width) rules text key f → says_found m f ≡ true → Reaches (resolve_table text t) (lit Ident key)
  yes_says key None n s = absurd (false≢true s)
  yes_says key (Some i) n s =
      let l : Looked text key t i = looked text key t i (rw lent.heads n) in
      through l.finds (h.right.yes i (resolve_rule text l.rule) (rule_resolved text t i l.rule l.is) (eqb_eq (state_of m i) 3 s))

  pub sure : Sure (resolve_table text t) rules text m
  sure = record { name = name }
    where
      name : (key : Bytes) (f : Option ℕ) → Finds (length rules / rule_width) rules text key f → changes (resolve_table text t) (lit Ident key) ≡ (member key stack_names || says_found m f)
      name key f n = same_bool _ _ (λ c. forth (name_reaches (resolve_table text t) (lit Ident key) ((changes_is (resolve_table text t) (lit Ident key)).0 c) key refl)) (λ c. (changes_is (resolve_table text t) (lit Ident key)).1 (back (or_case (member key stack_names) (says_found m f) c)))
        where
          forth : (member key stack_names ≡ true) ⊎ Through (resolve_table text t) key → (member key stack_names || says_found m f) ≡ true
          forth (inl c) = or_left (member key stack_names) (says_found m f) c
          forth (inr c) = or_right (member key stack_names) (says_found m f) (says_yes key f n c)

          back : (member key stack_names ≡ true) ⊎ (says_found m f ≡ true) → Reaches (resolve_table text t) (lit Ident key)
          back (inl c) = at_name c
          back (inr c) = yes_says key f n c

-- so they are known of what is lent
pub known : {rules rows text m : List ℕ} → Marked rules rows text m → Settles rules rows text m → Known rules m rows text
known {text = text} {m = m} g s =
    record {
      table = resolve_table text g.table;
      sure = sure text g.table g.lent m (s.settled g.table g.lent);
      index = g.index;
      inside = g.inside;
    }
