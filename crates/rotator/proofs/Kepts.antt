-- A subtree that was read is rotated by what its parts' calls answer. Assumes nothing.
use Rattle.std.specs.Prelude.{None, Option, Some, IsSome}
use mathlib.Core.Path.{◌≡◌, refl, sym, ap, subst, ◌∙◌}
use mathlib.Core.List.{List, [], ◌∷◌, ◌++◌, append_assoc, append-nil}
use Prim.Native.Nat.{ℕ, ◌+◌, ◌-◌, ◌*◌, ◌/◌, ◌≤◌}
use native.Mathlib.Omega.{arith}
use Rattle.std.specs.Option.{option_eq}
use Rattle.std.proofs.lemmas.Option.{none-some}
use lib.Dec.{eqb}
use mathlib.Core.Bool.{true, false}
use lib.ListN.{length, take, length-append}
use lib.Seq.{length-take-le}
use Rattle.grammar.specs.Numbers.{row_width}
use Rattle.grammar.specs.Basic.{Bytes}
use borrow.Author.Tests.{eq-eqb, ne_eqb, eqb-true, eqb-false}
use Rattle.grammar.specs.Tree.{E, Expr, Bin, lit, fixed, skip, un, bin, bin_kind, size}
use Rattle.grammar.specs.Rows.{Span, flat}
use Rattle.grammar.specs.Text.{resolve, text_of, packed}
use Rattle.grammar.specs.Steps.{rotate}
use Rattle.rows.specs.declared.Shape.TheVariants.{Two}
use Rattle.rows.proofs.Laws.{head_of}
use Rattle.rows.proofs.Cells.{size_resolve}
use Rattle.rows.proofs.Views.{TwoView, shape_in}
use Rattle.writing.specs.declared.Place.{Place}
use Rattle.writing.specs.Writes.{Areas, Fits}
use Rattle.writing.specs.Keeps.{KeptAnswer}
use Rattle.writing.proofs.Trees.{size_packed}
use Rattle.chains.specs.Chains.{chain, sizes, flats, texts, packs, Forest, Closable, ClosedAnswer}
use Rattle.chains.proofs.Trees.{Snoc, as_snoc, size_chain, text_chain, sizes_append, flats_append, texts_append, packs_append, sizes_packs, length_packs, packed_chain}
use Rattle.chains.proofs.Closes.{chain_stands}
use Rattle.chains.specs.Runs.{ups, low}
use Rattle.chains.proofs.Runs.{low_size}
use Rattle.chains.proofs.Walks.{Leaf, leaf_run}
use Rattle.rotator.specs.Members.{members, members_of, chain_at, KeptAll, AllAnswer}
use Rattle.rotator.proofs.Rotations.{rotate_lit, rotate_fixed, rotate_skip, rotate_un, rotate_all, members_bin, members_two, members_some, members_size, members_text, by_bin, by_other}

-- ---- trees one after the other

pub all_done : {a : Option Place} {q : Place} (p : Place) (es : List E) (o o' t t' : List ℕ) → a ≡ Some q → AllAnswer a p es o o' t t' → KeptAll q p es o o' t t'
all_done p es o o' t t' h w = subst (λ (z : Option Place). AllAnswer z p es o o' t t') h w

pub all_some : (a : Option Place) (p : Place) (es : List E) (o o' t t' : List ℕ) → AllAnswer a p es o o' t t' → IsSome a
all_some (Some q) p es o o' t t' w = refl
all_some None p es o o' t t' w = absurd w

pub all_same : (a : Option Place) (p : Place) {es fs : List E} (o o' t t' : List ℕ) → es ≡ fs → AllAnswer a p es o o' t t' → AllAnswer a p fs o o' t t'
all_same a p o o' t t' h w = subst (λ (z : List E). AllAnswer a p z o o' t t') h w

-- one tree alone
pub all_one : (a : Option Place) (p : Place) (e : E) (o o' t t' : List ℕ) → KeptAnswer a p e o o' t t' → AllAnswer a p (e ∷ []) o o' t t'
all_one None p e o o' t t' w = w
all_one (Some q) p e o o' t t' w = record {
  rows = omega (arith, w.rows);
  text = w.text ∙ rw (append-nil (text_of e));
  words = w.words ∙ rw (append-nil (flat (packed p.text e)));
  bytes = w.bytes ∙ rw (append-nil (text_of e));
}

pub one_all : (a : Option Place) (p : Place) (e : E) (o o' t t' : List ℕ) → AllAnswer a p (e ∷ []) o o' t t' → KeptAnswer a p e o o' t t'
one_all None p e o o' t t' w = w
one_all (Some q) p e o o' t t' w = record {
  rows = omega (arith, w.rows);
  text = w.text ∙ rw (append-nil (text_of e));
  words = w.words ∙ rw (append-nil (flat (packed p.text e)));
  bytes = w.bytes ∙ rw (append-nil (text_of e));
}

pub all_append : {s q p : Place} {es fs : List E} {o o₁ o₂ t t₁ t₂ : List ℕ} → KeptAll q p es o o₁ t t₁ → KeptAll s q fs o₁ o₂ t₁ t₂ → KeptAll s p (es ++ fs) o o₂ t t₂
all_append {s} {q} {p} {es} {fs} w v = record {
  rows = omega (arith, w.rows, v.rows, sizes_append es fs);
  text = rw (texts_append es fs) (simp length-append (omega (arith, w.text, v.text)));
  words = v.words ∙ rw (w.words, w.text, packs_append p.text es fs, flats_append (packs p.text es) (packs (p.text + length (texts es)) fs)) (simp append_assoc);
  bytes = v.bytes ∙ rw (w.bytes, texts_append es fs) (simp append_assoc);
}

-- some trees and a last one, closed: the chain that they make
module _ {s p : Place} {es : List E} {o o₁ t t₁ : List ℕ} (w : KeptAll s p es o o₁ t t₁) (z : Snoc es) where
  abbrev last_text : ℕ
  last_text = p.text + length (texts z.init)

  sizes_all : sizes es ≡ sizes z.init + size z.last
  sizes_all = ap sizes z.is ∙ sizes_append z.init (z.last ∷ []) ∙ omega arith

  texts_all : texts es ≡ texts z.init ++ text_of z.last
  texts_all = ap texts z.is ∙ texts_append z.init (z.last ∷ []) ∙ rw (append-nil (text_of z.last))

  flats_all : flats (packs p.text es) ≡ flats (packs p.text z.init) ++ flat (packed last_text z.last)
  flats_all =
      ap flats (ap (packs p.text) z.is ∙ packs_append p.text z.init (z.last ∷ [])) ∙ flats_append (packs p.text z.init) (packed last_text z.last ∷ [])
      ∙ rw (append-nil (flat (packed last_text z.last)))

  pub all_forest : p.rows ≤ length o / row_width → Forest o₁ s.rows (take (p.rows * row_width) o) (packs p.text z.init) (packed last_text z.last)
  all_forest h = record {
    words = w.words ∙ rw flats_all;
    place = omega (arith, w.rows, sizes_all, length-take-le (p.rows * row_width) o (omega arith), sizes_packs p.text z.init, size_packed last_text z.last);
  }

  pub all_closed : p.rows ≤ length o / row_width → s.rows + length z.init ≤ length o₁ / row_width → (a : Option Place) (b : Bin) (o₂ : List ℕ)
      → ClosedAnswer a s b (packs p.text z.init) (packed last_text z.last) o₁ o₂ → KeptAnswer a p (chain b z.init z.last) o o₂ t t₁
  all_closed h l None b o₂ c = c
  all_closed h l (Some q) b o₂ c =
      let m = length_packs p.text z.init in
      let k = text_chain b z.init z.last in
      record {
        rows = omega (arith, c.rows, m, w.rows, sizes_all, size_chain b z.init z.last);
        text = c.text ∙ w.text ∙ rw (k, texts_all);
        words = chain_stands (all_forest h) (omega (arith, m)) c ∙ rw (packed_chain p.text b z.init z.last);
        bytes = rw (c.text, k) (w.bytes ∙ rw texts_all);
      }

-- ---- a leaf below a run: the tree alone

pub rotate_leaf : (t : Bytes) (r : Expr Span) → Leaf (shape_in r) → rotate (resolve t r) ≡ resolve t r
rotate_leaf t (lit k s) h = rotate_lit k _
rotate_leaf t (fixed f) h = rotate_fixed f
rotate_leaf t (skip ss) h = rotate_skip _
rotate_leaf t (un u e) h = absurd h
rotate_leaf t (bin b l r) h = absurd h

by_alone : (t : Bytes) (kind : Option ℕ) (r : Expr Span) → (shape_in r ≡ Two → ⊥) → rotate (resolve t r) ∷ [] ≡ members_of kind (resolve t r)
by_alone t kind (lit k s) h = sym (by_other kind _ (λ b e. refl))
by_alone t kind (fixed f) h = sym (by_other kind _ (λ b e. refl))
by_alone t kind (skip ss) h = sym (by_other kind _ (λ b e. refl))
by_alone t kind (un u e) h = sym (by_other kind _ (λ b e. refl))
by_alone t kind (bin b l r) h = absurd (h refl)

not_two : (r : Expr Span) → (shape_in (low r) ≡ Two → ⊥) → shape_in r ≡ Two → ⊥
not_two (lit k s) h e = h e
not_two (fixed f) h e = h e
not_two (skip ss) h e = h e
not_two (un u r) h e = let z : ◌≡◌ {A = ℕ} 0 1 = cc in omega arith
not_two (bin b l r) h e = h e

-- a run over a leaf: the tree alone, as it was
pub leaf_all : (t : Bytes) (kind : Option ℕ) (r : Expr Span) → (shape_in (low r) ≡ Two → ⊥) → (a : Option Place) (p : Place) (o o' u u' : List ℕ) → KeptAnswer a p (resolve t r) o o' u u' → AllAnswer a p (members_of kind (resolve t r)) o o' u u'
leaf_all t kind r h a p o o' u u' c =
    all_same a p o o' u u' (by_alone t kind r (not_two r h))
    (all_one a p (rotate (resolve t r)) o o' u u' (subst (λ (z : E). KeptAnswer a p z o o' u u') (sym (leaf_run rotate rotate_un t (rotate_leaf t) r h)) c))

-- ---- a node with two children

module _ (t : Bytes) {w : List ℕ} {i k x y n : ℕ} {r : Expr Span} (v : TwoView w i k x y n r) {p q : Place} {o o₁ u u₁ : List ℕ} (c : KeptAll q p (members_of (Some k) (resolve t v.left)) o o₁ u u₁)
    (h : Fits p (resolve t r) o u) where
  node_fits : Fits p (bin v.op (resolve t v.left) (resolve t v.right)) o u
  node_fits = rw v.is at h

  first_all : KeptAll q p (members v.op (resolve t v.left)) o o₁ u u₁
  first_all = subst (λ (z : List E). KeptAll q p z o o₁ u u₁) (by_bin k v.op (resolve t v.left) v.kind) c

  -- after the left side's members there is room for the right side
  pub second_fits : length o₁ ≡ length o → length u₁ ≡ length u → Fits q (resolve t v.right) o₁ u₁
  second_fits lo lu = let l = resolve t v.left in record {
    rows = omega (arith, first_all.rows, node_fits.rows, members_size v.op l);
    text = omega (arith, first_all.text, node_fits.text, ap length (members_text v.op l), length-append (text_of l) (text_of (resolve t v.right)));
  }

  module _ {s : Place} {o₂ u₂ : List ℕ} (d : KeptAll s q (members_of (Some k) (resolve t v.right)) o₁ o₂ u₁ u₂) where
    abbrev node : E
    node = bin v.op (resolve t v.left) (resolve t v.right)

    pub both_all : KeptAll s p (members v.op node) o o₂ u u₂
    both_all = subst (λ (z : List E). KeptAll s p z o o₂ u u₂) (sym (members_bin v.op (resolve t v.left) (resolve t v.right)))
        (all_append first_all (subst (λ (z : List E). KeptAll s q z o₁ o₂ u₁ u₂) (by_bin k v.op (resolve t v.right) v.kind) d))

    -- in a chain of its kind: the members of both sides
    pub same_all : (kind : Option ℕ) → kind ≡ Some k → AllAnswer (Some s) p (members_of kind (resolve t r)) o o₂ u u₂
    same_all kind e = subst (λ (z : E). AllAnswer (Some s) p (members_of kind z) o o₂ u u₂) (sym (ap (resolve t) v.is)) (all_same (Some s) p o o₂ u u₂ (sym (ap (λ (z : Option ℕ). members_of z node) e ∙ by_bin k v.op node v.kind)) both_all)

    abbrev ends : Snoc (members v.op node)
    ends = as_snoc (members v.op node) (members_some v.op node)

    -- the rows that are missing are as many as the members before the last
    pub rows_missing : s.rows + length ends.init ≡ p.rows + n
    rows_missing =
        omega (arith, both_all.rows, members_size v.op node, ap length ends.is, length-append ends.init (ends.last ∷ []), v.rows, size_resolve t v.left, size_resolve t v.right)

    pub count_missing : (m : ℕ) → m ≡ n → length (packs p.text ends.init) ≡ p.rows + m - s.rows
    count_missing m e = length_packs p.text ends.init ∙ omega (arith, rows_missing)

    pub two_forest : Forest o₂ s.rows (take (p.rows * row_width) o) (packs p.text ends.init) (packed (last_text both_all ends) ends.last)
    two_forest = all_forest both_all ends (omega (arith, node_fits.rows))

    room : length o₂ ≡ length o → s.rows + length ends.init ≤ length o₂ / row_width
    room lo = omega (arith, rows_missing, node_fits.rows, v.rows, size_resolve t v.left, size_resolve t v.right)

    pub two_closable : (m : ℕ) → m ≡ n → length o₂ ≡ length o → Areas o u → Closable o₂ s.rows (p.rows + m - s.rows)
    two_closable m e lo a = record {
      before = take (p.rows * row_width) o;
      trees = packs p.text ends.init;
      tree = packed (last_text both_all ends) ends.last;
      forest = two_forest;
      count = count_missing m e;
      room = omega (arith, room lo, rows_missing);
      words = omega (arith, a.words);
    }

    -- closed, it is rotated
    pub two_rotated : length o₂ ≡ length o → (a : Option Place) (o₃ : List ℕ)
        → ClosedAnswer a s v.op (packs p.text ends.init) (packed (last_text both_all ends) ends.last) o₂ o₃ → KeptAnswer a p (rotate (resolve t r)) o o₃ u u₂
    two_rotated lo a o₃ g =
        let z = all_closed both_all ends (omega (arith, node_fits.rows)) (room lo) a v.op o₃ g in
        subst (λ (z : E). KeptAnswer a p (rotate z) o o₃ u u₂) (sym (ap (resolve t) v.is)) (subst (λ (z : E). KeptAnswer a p z o o₃ u u₂) (sym (rotate_all v.op node ends)) z)

-- ---- by the run over the node

-- what the test of a chain's kind tells
pub of_kind : (c : Option ℕ) (k : ℕ) → option_eq eqb c (Some k) ≡ true → c ≡ Some k
of_kind None k h = cc
of_kind (Some j) k h = ap Some (eqb-true j k h)

pub not_kind : (c : Option ℕ) (k : ℕ) → option_eq eqb c (Some k) ≡ false → c ≡ Some k → ⊥
not_kind c k h e = eqb-false k k (subst (λ (z : Option ℕ). option_eq eqb z (Some k) ≡ false) e h) refl

module _ (base root : ℕ) (kind : Option ℕ) where
  pub own_chain : base ≡ root → chain_at kind base root ≡ kind
  unfolding chain_at
  own_chain e = rw (eq-eqb base root e)

  pub no_chain : (base ≡ root → ⊥) → chain_at kind base root ≡ None
  unfolding chain_at
  no_chain h = rw (ne_eqb base root h)

  -- in a chain of its kind there is no run over it
  pub run_none : {k : ℕ} (r : Expr Span) → base + length (ups r) ≡ root → k ≡ (head_of (low r)).0 → shape_in (low r) ≡ Two → chain_at kind base root ≡ Some k → low r ≡ r
  run_none (lit j s) e h l d = refl
  run_none (fixed f) e h l d = refl
  run_none (skip ss) e h l d = refl
  run_none (bin b x y) e h l d = refl
  run_none (un u r) e h l d = absurd (none-some _ (sym (no_chain (omega arith)) ∙ d))

  pub run_same : {k : ℕ} (r : Expr Span) → base + length (ups r) ≡ root → low r ≡ r → chain_at kind base root ≡ Some k → kind ≡ Some k
  run_same r e l d = sym (own_chain (omega (arith, ap size l, low_size r))) ∙ d

  -- in no chain of its kind: the tree alone
  alone : {k : ℕ} (t : Bytes) (r : Expr Span) → base + length (ups r) ≡ root → k ≡ (head_of (low r)).0 → (chain_at kind base root ≡ Some k → ⊥) → rotate (resolve t r) ∷ [] ≡ members_of kind (resolve t r)
  alone t (lit j s) e h n = by_alone t kind (lit j s) (λ d. let y : ◌≡◌ {A = ℕ} 0 1 = cc in omega arith)
  alone t (fixed f) e h n = by_alone t kind (fixed f) (λ d. let y : ◌≡◌ {A = ℕ} 0 1 = cc in omega arith)
  alone t (skip ss) e h n = by_alone t kind (skip ss) (λ d. let y : ◌≡◌ {A = ℕ} 0 1 = cc in omega arith)
  alone t (un u r) e h n = by_alone t kind (un u r) (λ d. let y : ◌≡◌ {A = ℕ} 0 1 = cc in omega arith)
  alone t (bin b x y) e h n = sym (by_other kind _ (λ c d. members_two b c _ _ (λ f. n (own_chain (omega arith) ∙ d ∙ ap Some (ap bin_kind f ∙ sym h)))))

  pub run_rotated : {k : ℕ} (t : Bytes) (r : Expr Span) → base + length (ups r) ≡ root → k ≡ (head_of (low r)).0 → (chain_at kind base root ≡ Some k → ⊥) → (a : Option Place) (p : Place) (o o' u u' : List ℕ)
      → KeptAnswer a p (rotate (resolve t r)) o o' u u' → AllAnswer a p (members_of kind (resolve t r)) o o' u u'
  run_rotated t r e h n a p o o' u u' c = all_same a p o o' u u' (alone t r e h n) (all_one a p (rotate (resolve t r)) o o' u u' c)

-- in a chain of its kind: the members of both sides
pub chain_all : (t : Bytes) {w : List ℕ} {i k x y n : ℕ} (r : Expr Span) (v : TwoView w i k x y n (low r)) {p q : Place} {o o₁ u u₁ : List ℕ} → KeptAll q p (members_of (Some k) (resolve t v.left)) o o₁ u u₁
    → Fits p (resolve t (low r)) o u → {s : Place} {o₂ u₂ : List ℕ} → KeptAll s q (members_of (Some k) (resolve t v.right)) o₁ o₂ u₁ u₂ → (base root : ℕ) (kind : Option ℕ) → base + length (ups r) ≡ root
    → chain_at kind base root ≡ Some k → AllAnswer (Some s) p (members_of kind (resolve t r)) o o₂ u u₂
chain_all t r v {p} {o} {u} c h {s} {o₂} {u₂} d base root kind e z =
    let l : low r ≡ r = run_none base root kind r e (v.kind ∙ sym (ap (λ (z : Expr Span). (head_of z).0) v.is)) (ap shape_in v.is) z in
    subst (λ (z : Expr Span). AllAnswer (Some s) p (members_of kind (resolve t z)) o o₂ u u₂) l (same_all t v c h d kind (run_same base root kind r e l z))

-- no chain's kind
pub alone_kept : (a : Option Place) (p : Place) (e : E) (o o' u u' : List ℕ) → AllAnswer a p (members_of None e) o o' u u' → KeptAnswer a p (rotate e) o o' u u'
unfolding members_of
alone_kept a p e o o' u u' c = one_all a p (rotate e) o o' u u' c
