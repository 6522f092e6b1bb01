-- Laws of chains and of trees one after the other: rows, text, packing, and the rows that close a chain. Assumes nothing.
use mathlib.Core.Path.{◌≡◌, refl, sym, ap}
use mathlib.Core.List.{List, [], ◌∷◌, ◌++◌, append_assoc, append-nil}
use Prim.Native.Nat.{ℕ, suc, ◌+◌, ◌*◌, ◌<◌}
use native.Mathlib.Nat.{add-zero}
use native.Mathlib.Omega.{arith}
use lib.ListN.{length, length-append}
use Rattle.grammar.specs.Numbers.{row_width}
use Rattle.grammar.specs.Tree.{Bin, Seq, Expr, E, bin, size}
use Rattle.grammar.specs.Rows.{Span, flat}
use Rattle.grammar.specs.Text.{text_of, packed}
use Rattle.grammar.specs.Steps.{nest}
use Rattle.grammar.proofs.Packing.{packed_size}
use Rattle.chains.specs.Chains.{chain, sizes, flats, texts, packs, closing}

-- THE LAW OF CLOSING: the rows of the trees, one after the other, and then the closing rows, are the rows of the chain
pub flat_chain : (b : Bin) (xs : List (Expr Span)) (r : Expr Span) → flat (chain b xs r) ≡ flats xs ++ (flat r ++ closing b xs r)
flat_chain b [] r = sym (append-nil (flat r))
flat_chain b (x ∷ xs) r = rw (flat_chain b xs r) (simp append_assoc)

-- trees, as those before the last one and the last
pub record Snoc {L : Type 0} (xs : List (Expr L)) : Type 0 where
  pub init : List (Expr L)
  pub last : Expr L
  pub is : xs ≡ init ++ (last ∷ [])

pub as_snoc : {L : Type 0} (xs : List (Expr L)) → 0 < length xs → Snoc xs
as_snoc [] h = absurd (omega arith)
as_snoc (x ∷ []) h = record { init = []; last = x; is = refl }
as_snoc (x ∷ y ∷ xs) h = let t = as_snoc (y ∷ xs) (omega arith) in record { init = x ∷ t.init; last = t.last; is = ap (λ (l : List (Expr _)). x ∷ l) t.is }

-- items that form a right-nested Seq are a chain
pub nest_chain : (xs : List E) (r : E) → nest (xs ++ (r ∷ [])) ≡ chain Seq xs r
nest_chain [] r = refl
nest_chain (x ∷ []) r = refl
nest_chain (x ∷ y ∷ xs) r = ap (bin Seq x) (nest_chain (y ∷ xs) r)

module _ {L : Type 0} (b : Bin) where
  pub chain_append : (xs ys : List (Expr L)) (r : Expr L) → chain b (xs ++ ys) r ≡ chain b xs (chain b ys r)
  chain_append [] ys r = refl
  chain_append (x ∷ xs) ys r = ap (bin b x) (chain_append xs ys r)

  pub size_chain : (xs : List (Expr L)) (r : Expr L) → size (chain b xs r) ≡ sizes xs + length xs + size r
  size_chain [] r = omega arith
  size_chain (x ∷ xs) r = omega (arith, size_chain xs r)

pub text_chain : (b : Bin) (xs : List E) (r : E) → text_of (chain b xs r) ≡ texts xs ++ text_of r
text_chain b [] r = refl
text_chain b (x ∷ xs) r = rw (text_chain b xs r) (simp append_assoc)

pub packed_chain : (o : ℕ) (b : Bin) (xs : List E) (r : E) → packed o (chain b xs r) ≡ chain b (packs o xs) (packed (o + length (texts xs)) r)
packed_chain o b [] r = ap (λ (n : ℕ). packed n r) (sym (add-zero o))
packed_chain o b (x ∷ xs) r =
    let e : o + length (text_of x ++ texts xs) ≡ o + length (text_of x) + length (texts xs) = simp length-append (omega arith) in
    rw (e, packed_chain (o + length (text_of x)) b xs r)

-- lengths
pub length_packs : (o : ℕ) (xs : List E) → length (packs o xs) ≡ length xs
length_packs o [] = refl
length_packs o (x ∷ xs) = ap suc (length_packs (o + length (text_of x)) xs)

pub sizes_packs : (o : ℕ) (xs : List E) → sizes (packs o xs) ≡ sizes xs
sizes_packs o [] = refl
sizes_packs o (x ∷ xs) = omega (arith, packed_size o x, sizes_packs (o + length (text_of x)) xs)

pub length_closing : (b : Bin) (xs : List (Expr Span)) (r : Expr Span) → length (closing b xs r) ≡ length xs * row_width
length_closing b [] r = refl
length_closing b (x ∷ xs) r = simp length-append (omega (arith, length_closing b xs r))

-- some trees and then others
pub sizes_append : {L : Type 0} (xs ys : List (Expr L)) → sizes (xs ++ ys) ≡ sizes xs + sizes ys
sizes_append [] ys = omega arith
sizes_append (x ∷ xs) ys = omega (arith, sizes_append xs ys)

pub flats_append : (xs ys : List (Expr Span)) → flats (xs ++ ys) ≡ flats xs ++ flats ys
flats_append [] ys = refl
flats_append (x ∷ xs) ys = rw (flats_append xs ys) (simp append_assoc)

pub texts_append : (xs ys : List E) → texts (xs ++ ys) ≡ texts xs ++ texts ys
texts_append [] ys = refl
texts_append (x ∷ xs) ys = rw (texts_append xs ys) (simp append_assoc)

pub packs_append : (o : ℕ) (xs ys : List E) → packs o (xs ++ ys) ≡ packs o xs ++ packs (o + length (texts xs)) ys
packs_append o [] ys = ap (λ (n : ℕ). packs n ys) (sym (add-zero o))
packs_append o (x ∷ xs) ys =
    let e : o + length (text_of x ++ texts xs) ≡ o + length (text_of x) + length (texts xs) = simp length-append (omega arith) in
    rw (e, packs_append (o + length (text_of x)) xs ys)
