-- Concatenation by the kinds of two roots: the law that ties it to the definition, and what it keeps. Assumes nothing.
use mathlib.Core.Path.{◌≡◌, refl, sym, ap, ◌∙◌}
use mathlib.Core.Bool.{Bool, true, false, cond}
use mathlib.Core.List.{List, ◌++◌}
use Prim.Native.Nat.{ℕ, zero, suc, ◌+◌, ◌≤◌, ◌<◌}
use native.Mathlib.Omega.{arith}
use borrow.Author.Tests.{le-ltb, ne_eqb}
use lib.Dec.{ltb, eqb}
use Rattle.grammar.specs.Basic.{Bytes}
use Rattle.grammar.specs.Tree.{Lit, Str, Insens, Ident, Fixed, Range, PeekSlice, PeekFrom, Un, PosPred, NegPred, Opt, Rep, RepOnce, Push, RestoreOnErr, RepExact, RepMin, RepMax, RepMinMax, Bin, Seq, Choice, lit_kind, fixed_head, un_head, bin_kind, Expr, E, lit, fixed, skip, un, bin, size}
use Rattle.grammar.specs.Text.{text_of}
use Rattle.grammar.specs.Table.{Atomic}
use Rattle.grammar.specs.Steps.{concat?, or_same, concatenate}
use Rattle.concatenator.specs.Joins.{joins_of}

-- the kind of a root
abbrev pub kind_in : {L : Type 0} → Expr L → ℕ
kind_in (lit k s) = lit_kind k
kind_in (fixed f) = (fixed_head f).0
kind_in (skip ss) = 17
kind_in (un u e) = (un_head u).0
kind_in (bin b l r) = bin_kind b

-- the literal that a text's kind makes
abbrev pub lit_of : ℕ → Lit
lit_of k = cond (eqb k 0) Str Insens

-- the node b of e and f, by the kinds of their roots
abbrev pub joined : Bin → E → E → E
joined b e f = cond (joins_of (bin_kind b) (kind_in e) (kind_in f)) (lit (lit_of (kind_in e)) (text_of e ++ text_of f)) (bin b e f)

-- no root but a literal's has a kind below 2
fixed_most : (f : Fixed) → 2 ≤ (fixed_head f).0
fixed_most (Range a b) = omega arith
fixed_most (PeekSlice a b) = omega arith
fixed_most (PeekFrom a) = omega arith

un_most : (u : Un) → 2 ≤ (un_head u).0
un_most PosPred = omega arith
un_most NegPred = omega arith
un_most Opt = omega arith
un_most Rep = omega arith
un_most RepOnce = omega arith
un_most Push = omega arith
un_most RestoreOnErr = omega arith
un_most (RepExact n) = omega arith
un_most (RepMin n) = omega arith
un_most (RepMax n) = omega arith
un_most (RepMinMax m n) = omega arith

bin_most : (b : Bin) → 2 ≤ bin_kind b
bin_most Seq = omega arith
bin_most Choice = omega arith

low : (k a : ℕ) → k < 2 → 2 ≤ a → eqb k a ≡ false
low k a h l = ne_eqb k a (λ e. omega arith)

-- THE LAW OF JOINING: a Seq of two Str, or of two Insens, is one; any other node is as it was
str_with : (s : Bytes) (f : E) → or_same concat? (bin Seq (lit Str s) f) ≡ cond (eqb 0 (kind_in f)) (lit Str (s ++ text_of f)) (bin Seq (lit Str s) f)
str_with s (lit Str t) = refl
str_with s (lit Insens t) = refl
str_with s (lit Ident t) = refl
str_with s (fixed f) = rw (low 0 (fixed_head f).0 (omega arith) (fixed_most f))
str_with s (skip ss) = refl
str_with s (un u e) = rw (low 0 (un_head u).0 (omega arith) (un_most u))
str_with s (bin b l r) = rw (low 0 (bin_kind b) (omega arith) (bin_most b))

insens_with : (s : Bytes) (f : E) → or_same concat? (bin Seq (lit Insens s) f) ≡ cond (eqb 1 (kind_in f)) (lit Insens (s ++ text_of f)) (bin Seq (lit Insens s) f)
insens_with s (lit Str t) = refl
insens_with s (lit Insens t) = refl
insens_with s (lit Ident t) = refl
insens_with s (fixed f) = rw (low 1 (fixed_head f).0 (omega arith) (fixed_most f))
insens_with s (skip ss) = refl
insens_with s (un u e) = rw (low 1 (un_head u).0 (omega arith) (un_most u))
insens_with s (bin b l r) = rw (low 1 (bin_kind b) (omega arith) (bin_most b))

no_join : (k a b : ℕ) → 2 ≤ a → joins_of k a b ≡ false
unfolding joins_of
no_join k a b h = go (eqb k 8)
  where
    go : (v : Bool) → cond v (cond (ltb a 2) (eqb a b) false) false ≡ false
    go true = rw (le-ltb a 2 h)
    go false = refl

pub join_law : (b : Bin) (e f : E) → or_same concat? (bin b e f) ≡ joined b e f
unfolding joins_of
join_law Choice e f = refl
join_law Seq (lit Str s) f = str_with s f
join_law Seq (lit Insens s) f = insens_with s f
join_law Seq (lit Ident s) f = refl
join_law Seq (fixed g) f = rw (no_join 8 (fixed_head g).0 (kind_in f) (fixed_most g))
join_law Seq (skip ss) f = refl
join_law Seq (un u e) f = rw (no_join 8 (un_head u).0 (kind_in f) (un_most u))
join_law Seq (bin b l r) f = rw (no_join 8 (bin_kind b) (kind_in f) (bin_most b))

-- concatenation, at each kind of node
pub concat_lit : (k : Lit) (s : Bytes) → concatenate Atomic (lit k s) ≡ lit k s
unfolding concatenate
concat_lit k s = refl

pub concat_fixed : (f : Fixed) → concatenate Atomic (fixed f) ≡ fixed f
unfolding concatenate
concat_fixed f = refl

pub concat_skip : (ss : List Bytes) → concatenate Atomic (skip ss) ≡ skip ss
unfolding concatenate
concat_skip ss = refl

pub concat_un : (u : Un) (e : E) → concatenate Atomic (un u e) ≡ un u (concatenate Atomic e)
unfolding concatenate
concat_un u e = refl

pub concat_bin : (b : Bin) (l r : E) → concatenate Atomic (bin b l r) ≡ joined b (concatenate Atomic l) (concatenate Atomic r)
unfolding concatenate
concat_bin b l r = join_law b (concatenate Atomic l) (concatenate Atomic r)

-- it takes no more rows, and the same text
text_joined : (b : Bin) (e f : E) → text_of (joined b e f) ≡ text_of e ++ text_of f
text_joined b e f = go (joins_of (bin_kind b) (kind_in e) (kind_in f))
  where
    go : (v : Bool) → text_of (cond v (lit (lit_of (kind_in e)) (text_of e ++ text_of f)) (bin b e f)) ≡ text_of e ++ text_of f
    go true = refl
    go false = refl

size_joined : (b : Bin) (e f : E) → size (joined b e f) ≤ size e + size f + 1
size_joined b e f = go (joins_of (bin_kind b) (kind_in e) (kind_in f))
  where
    go : (v : Bool) → size (cond v (lit (lit_of (kind_in e)) (text_of e ++ text_of f)) (bin b e f)) ≤ size e + size f + 1
    go true = omega arith
    go false = omega arith

pub concat_text : (e : E) → text_of (concatenate Atomic e) ≡ text_of e
concat_text (lit k s) = ap text_of (concat_lit k s)
concat_text (fixed f) = ap text_of (concat_fixed f)
concat_text (skip ss) = ap text_of (concat_skip ss)
concat_text (un u e) = ap text_of (concat_un u e) ∙ concat_text e
concat_text (bin b l r) = ap text_of (concat_bin b l r) ∙ text_joined b (concatenate Atomic l) (concatenate Atomic r) ∙ rw (concat_text l, concat_text r)

pub concat_size : (e : E) → size (concatenate Atomic e) ≤ size e
concat_size (lit k s) = omega (arith, ap size (concat_lit k s))
concat_size (fixed f) = omega (arith, ap size (concat_fixed f))
concat_size (skip ss) = omega (arith, ap size (concat_skip ss))
concat_size (un u e) = omega (arith, ap size (concat_un u e), concat_size e)
concat_size (bin b l r) = omega (arith, ap size (concat_bin b l r), size_joined b (concatenate Atomic l) (concatenate Atomic r), concat_size l, concat_size r)

-- two roots that are joined have one literal kind
pub join_kind : (k a b : ℕ) → joins_of k a b ≡ true → lit_kind (lit_of a) ≡ a
unfolding joins_of
join_kind k zero b h = refl
join_kind k (suc zero) b h = refl
join_kind k (suc (suc a)) b h = let e : false ≡ true = sym (no_join k (suc (suc a)) b (omega arith)) ∙ h in let z : ◌≡◌ {A = ℕ} 0 1 = cc in absurd (omega arith)
