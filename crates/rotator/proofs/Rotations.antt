-- Rotation by the members of a chain: the law that ties it to the definition, and what it keeps. Assumes nothing.
use Rattle.std.specs.Prelude.{None, Option, Some}
use mathlib.Core.Path.{◌≡◌, refl, sym, ap, ◌∙◌}
use mathlib.Core.List.{List, [], ◌∷◌, ◌++◌, append-nil}
use mathlib.Core.Bool.{Bool, true, false, cond}
use Prim.Native.Nat.{ℕ, ◌+◌, ◌<◌}
use native.Mathlib.Omega.{arith}
use lib.Dec.{eqb}
use lib.ListN.{length, length-append}
use borrow.Author.Tests.{eqb-true}
use Rattle.grammar.specs.Basic.{Bytes}
use Rattle.grammar.specs.Tree.{Lit, Fixed, Un, Bin, Seq, Choice, bin_kind, E, lit, fixed, skip, un, bin, size}
use Rattle.grammar.specs.Text.{text_of}
use Rattle.grammar.specs.Steps.{rotate}
use Rattle.grammar.proofs.TopDown.{rotate_step_lem}
use Rattle.chains.specs.Chains.{chain, sizes, texts}
use Rattle.chains.proofs.Trees.{Snoc, chain_append, size_chain, text_chain, sizes_append, texts_append}
use Rattle.rotator.specs.Members.{members, members_of}

-- rotation at each kind of node
pub rotate_lit : (k : Lit) (s : Bytes) → rotate (lit k s) ≡ lit k s
rotate_lit k s = rotate_step_lem (lit k s)

pub rotate_fixed : (f : Fixed) → rotate (fixed f) ≡ fixed f
rotate_fixed f = rotate_step_lem (fixed f)

pub rotate_skip : (ss : List Bytes) → rotate (skip ss) ≡ skip ss
rotate_skip ss = rotate_step_lem (skip ss)

pub rotate_un : (u : Un) (e : E) → rotate (un u e) ≡ un u (rotate e)
rotate_un u e = rotate_step_lem (un u e)

turn : (b : Bin) (x y r : E) → rotate (bin b (bin b x y) r) ≡ rotate (bin b x (bin b y r))
turn Seq x y r = rotate_step_lem (bin Seq (bin Seq x y) r) ∙ sym (rotate_step_lem (bin Seq x (bin Seq y r)))
turn Choice x y r = rotate_step_lem (bin Choice (bin Choice x y) r) ∙ sym (rotate_step_lem (bin Choice x (bin Choice y r)))

-- THE LAW OF ROTATION: a node is the chain of its left side's members and its rotated right side
pub rotate_bin : (b : Bin) (l r : E) → rotate (bin b l r) ≡ chain b (members b l) (rotate r)
rotate_bin b (lit k s) r = rotate_step_lem (bin b (lit k s) r)
rotate_bin b (fixed f) r = rotate_step_lem (bin b (fixed f) r)
rotate_bin b (skip ss) r = rotate_step_lem (bin b (skip ss) r)
rotate_bin b (un u e) r = rotate_step_lem (bin b (un u e) r)
rotate_bin Seq (bin Seq x y) r =
    turn Seq x y r ∙ rotate_bin Seq x (bin Seq y r) ∙ ap (chain Seq (members Seq x)) (rotate_bin Seq y r)
    ∙ sym (chain_append Seq (members Seq x) (members Seq y) (rotate r))
rotate_bin Seq (bin Choice x y) r = rotate_step_lem (bin Seq (bin Choice x y) r)
rotate_bin Choice (bin Seq x y) r = rotate_step_lem (bin Choice (bin Seq x y) r)
rotate_bin Choice (bin Choice x y) r =
    turn Choice x y r ∙ rotate_bin Choice x (bin Choice y r) ∙ ap (chain Choice (members Choice x)) (rotate_bin Choice y r)
    ∙ sym (chain_append Choice (members Choice x) (members Choice y) (rotate r))

-- the members by the kind of the root
pub members_bin : (b : Bin) (l r : E) → members b (bin b l r) ≡ members b l ++ members b r
members_bin Seq l r = refl
members_bin Choice l r = refl

pub members_two : (b c : Bin) (l r : E) → (c ≡ b → ⊥) → members c (bin b l r) ≡ rotate (bin b l r) ∷ []
members_two Seq Seq l r h = absurd (h refl)
members_two Seq Choice l r h = refl
members_two Choice Seq l r h = refl
members_two Choice Choice l r h = absurd (h refl)

pub members_some : (b : Bin) (e : E) → 0 < length (members b e)
members_some b (lit k s) = omega arith
members_some b (fixed f) = omega arith
members_some b (skip ss) = omega arith
members_some b (un u e) = omega arith
members_some Seq (bin Seq l r) = omega (arith, length-append (members Seq l) (members Seq r), members_some Seq l)
members_some Seq (bin Choice l r) = omega arith
members_some Choice (bin Seq l r) = omega arith
members_some Choice (bin Choice l r) = omega (arith, length-append (members Choice l) (members Choice r), members_some Choice l)

-- a rotated tree is the chain of all its members: some, and then the last
abbrev nest_by : Bin → List E → E
nest_by b [] = skip []
nest_by b (e ∷ []) = e
nest_by b (e ∷ f ∷ es) = bin b e (nest_by b (f ∷ es))

nest_after : (b : Bin) (xs ys : List E) → 0 < length ys → nest_by b (xs ++ ys) ≡ chain b xs (nest_by b ys)
nest_after b [] ys h = refl
nest_after b (x ∷ []) [] h = absurd (omega arith)
nest_after b (x ∷ []) (y ∷ ys) h = refl
nest_after b (x ∷ z ∷ xs) ys h = ap (bin b x) (nest_after b (z ∷ xs) ys h)

rotate_nest : (b : Bin) (e : E) → rotate e ≡ nest_by b (members b e)
rotate_nest b (lit k s) = refl
rotate_nest b (fixed f) = refl
rotate_nest b (skip ss) = refl
rotate_nest b (un u e) = refl
rotate_nest Seq (bin Seq l r) =
    rotate_bin Seq l r ∙ ap (chain Seq (members Seq l)) (rotate_nest Seq r) ∙ sym (nest_after Seq (members Seq l) (members Seq r) (members_some Seq r))
rotate_nest Seq (bin Choice l r) = refl
rotate_nest Choice (bin Seq l r) = refl
rotate_nest Choice (bin Choice l r) =
    rotate_bin Choice l r ∙ ap (chain Choice (members Choice l)) (rotate_nest Choice r) ∙ sym (nest_after Choice (members Choice l) (members Choice r) (members_some Choice r))

pub rotate_all : (b : Bin) (e : E) (z : Snoc (members b e)) → rotate e ≡ chain b z.init z.last
rotate_all b e z = rotate_nest b e ∙ ap (nest_by b) z.is ∙ nest_after b z.init (z.last ∷ []) (omega arith)

-- the members by a kind word
pub by_bin : (k : ℕ) (b : Bin) (e : E) → k ≡ bin_kind b → members_of (Some k) e ≡ members b e
unfolding members_of
by_bin k Seq e h = rw h
by_bin k Choice e h = rw h

pub by_other : (c : Option ℕ) (e : E) → ((b : Bin) → c ≡ Some (bin_kind b) → members b e ≡ rotate e ∷ []) → members_of c e ≡ rotate e ∷ []
unfolding members_of
by_other None e h = refl
by_other (Some k) e h = go (eqb k 8) (eqb k 9) refl refl
  where
    go : (v w : Bool) → eqb k 8 ≡ v → eqb k 9 ≡ w → cond v (members Seq e) (cond w (members Choice e) (rotate e ∷ [])) ≡ rotate e ∷ []
    go true w p q = h Seq (ap Some (eqb-true k 8 p))
    go false true p q = h Choice (ap Some (eqb-true k 9 q))
    go false false p q = refl

-- rows and text are kept: of a tree as a whole, and of the members of any chain, whose closing rows are one less than they are
record Keeps (e : E) : Type 0 where
  rows : size (rotate e) ≡ size e
  text : text_of (rotate e) ≡ text_of e
  rows_all : (b : Bin) → sizes (members b e) + length (members b e) ≡ size e + 1
  text_all : (b : Bin) → texts (members b e) ≡ text_of e

-- where the tree is the only member
alone : (e : E) → size (rotate e) ≡ size e → text_of (rotate e) ≡ text_of e → ((b : Bin) → members b e ≡ rotate e ∷ []) → Keeps e
alone e p q m = record {
  rows = p;
  text = q;
  rows_all = λ b. rw (m b) (omega arith);
  text_all = λ b. rw (m b) (append-nil (text_of (rotate e)) ∙ q);
}

module _ (l r : E) (kl : Keeps l) (kr : Keeps r) where
  rows_here : (b : Bin) → size (rotate (bin b l r)) ≡ size (bin b l r)
  rows_here b = ap size (rotate_bin b l r) ∙ size_chain b (members b l) (rotate r) ∙ omega (arith, kl.rows_all b, kr.rows)

  text_here : (b : Bin) → text_of (rotate (bin b l r)) ≡ text_of (bin b l r)
  text_here b = ap text_of (rotate_bin b l r) ∙ text_chain b (members b l) (rotate r) ∙ rw (kl.text_all b, kr.text)

  rows_both : (b : Bin) → sizes (members b l ++ members b r) + length (members b l ++ members b r) ≡ size (bin b l r) + 1
  rows_both b = omega (arith, sizes_append (members b l) (members b r), length-append (members b l) (members b r), kl.rows_all b, kr.rows_all b)

  text_both : (b : Bin) → texts (members b l ++ members b r) ≡ text_of (bin b l r)
  text_both b = texts_append (members b l) (members b r) ∙ rw (kl.text_all b, kr.text_all b)

  rows_by : (b c : Bin) → sizes (members c (bin b l r)) + length (members c (bin b l r)) ≡ size (bin b l r) + 1
  rows_by Seq Seq = rows_both Seq
  rows_by Seq Choice = omega (arith, rows_here Seq)
  rows_by Choice Seq = omega (arith, rows_here Choice)
  rows_by Choice Choice = rows_both Choice

  text_by_lem : (b c : Bin) → texts (members c (bin b l r)) ≡ text_of (bin b l r)
  text_by_lem Seq Seq = text_both Seq
  text_by_lem Seq Choice = append-nil _ ∙ text_here Seq
  text_by_lem Choice Seq = append-nil _ ∙ text_here Choice
  text_by_lem Choice Choice = text_both Choice

  keeps_bin : (b : Bin) → Keeps (bin b l r)
  keeps_bin b = record { rows = rows_here b; text = text_here b; rows_all = rows_by b; text_all = text_by_lem b }

keeps : (e : E) → Keeps e
keeps (lit k s) = alone (lit k s) (ap size (rotate_lit k s)) (ap text_of (rotate_lit k s)) (λ b. refl)
keeps (fixed f) = alone (fixed f) (ap size (rotate_fixed f)) (ap text_of (rotate_fixed f)) (λ b. refl)
keeps (skip ss) = alone (skip ss) (ap size (rotate_skip ss)) (ap text_of (rotate_skip ss)) (λ b. refl)
keeps (un u e) = alone (un u e) (ap size (rotate_un u e) ∙ omega (arith, (keeps e).rows)) (ap text_of (rotate_un u e) ∙ (keeps e).text) (λ b. refl)
keeps (bin b l r) = keeps_bin l r (keeps l) (keeps r) b

pub rotate_size : (e : E) → size (rotate e) ≡ size e
rotate_size e = (keeps e).rows

pub rotate_text : (e : E) → text_of (rotate e) ≡ text_of e
rotate_text e = (keeps e).text

pub members_size : (b : Bin) (e : E) → sizes (members b e) + length (members b e) ≡ size e + 1
members_size b e = (keeps e).rows_all b

pub members_text : (b : Bin) (e : E) → texts (members b e) ≡ text_of e
members_text b e = (keeps e).text_all b
