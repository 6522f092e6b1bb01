-- Trees that are read, the plans that are made for them, and what is written by a plan. Assumes nothing.
use Rattle.std.specs.Prelude.{None, Option, Some}
use mathlib.Core.Path.{◌≡◌, refl, sym, ap, ap₂, subst, ◌∙◌}
use mathlib.Core.Bool.{Bool, true, false}
use mathlib.Core.List.{List, []}
use mathlib.Core.Option.{none}
use Prim.Native.Nat.{ℕ, ◌+◌, ◌-◌, ◌/◌, ◌≤◌, ◌<◌}
use native.Mathlib.Omega.{arith}
use borrow.Author.Tests.{eq-eqb, ne_eqb}
use lib.ListN.{length, length-append}
use lib.Dec.{eqb}
use Rattle.grammar.specs.Numbers.{row_width}
use Rattle.grammar.specs.Basic.{Bytes}
use Rattle.grammar.specs.Tree.{E, Expr, Bin, Opt, Seq, Choice, lit, fixed, skip, un, bin, bin_kind, size, as_choice}
use Rattle.grammar.specs.Rows.{Span}
use Rattle.grammar.specs.Text.{resolve, text_of}
use Rattle.rows.specs.declared.Shape.TheVariants as shapes
use Rattle.rows.specs.Rows.{At, size_at}
use Rattle.rows.proofs.Laws.{root, size_pos}
use Rattle.rows.proofs.Cells.{size_resolve}
use Rattle.rows.proofs.Views.{TwoView, shape_in, pair_left, at_unique}
use Rattle.writing.specs.declared.Place.{Place}
use Rattle.writing.specs.Writes.{Areas, Fits}
use Rattle.writing.specs.Keeps.{Kept, KeptAnswer}
use Rattle.writing.proofs.Trees.{fits_less}
use Rattle.writing.proofs.Keeps.{kept_done}
use Rattle.chains.specs.Runs.{ups, low, Raisable, RaisedAnswer}
use Rattle.chains.proofs.Runs.{low_at, low_size, low_fits}
use Rattle.chains.proofs.Walks.{run_raisable, run_kept}
use Rattle.factorizer.specs.declared.Plan.{Plan}
use Rattle.factorizer.specs.declared.Parts.{Parts}
use Rattle.factorizer.specs.Cases.{HeadsTold, TailTold, FirstTold, CaseTold}
use Rattle.factorizer.specs.declared.Case.TheVariants.{Plain}
use Rattle.factorizer.specs.Factors.{factored, beneath}
use Rattle.factorizer.specs.Plans.{PairAt, TreeAt, TreeReady, NodeAt, PartsTold, BaseTold, over_of, planned, Within, PlanTold, PartOf, OverAnswer}
use Rattle.factorizer.proofs.Factors.{factored_un, factored_other, factored_size, factored_text, choice_heads, choice_tail, choice_first, choice_plain}

-- ---- the tree of a row, or a Choice of two

pub tree_one : {w : List ℕ} {l : ℕ} {e : Expr Span} → At w l e → TreeAt w l None e
tree_one a = record { one = λ h. a; pair = λ k h. let z : ◌≡◌ {A = ℕ} 0 1 = cc in absurd (omega arith) }

tree_pair : {w : List ℕ} {l r : ℕ} {e : Expr Span} → PairAt w l r e → TreeAt w l (Some r) e
tree_pair {w} {l} {r} {e} a = record {
  one = λ h. let z : ◌≡◌ {A = ℕ} 0 1 = cc in absurd (omega arith);
  pair = λ k h. let z : r ≡ k = cc in subst (λ (n : ℕ). PairAt w l n e) z a;
}

tree_unique : {w : List ℕ} {l : ℕ} (r : Option ℕ) (e f : Expr Span) → TreeAt w l r e → TreeAt w l r f → e ≡ f
tree_unique (Some r) e f c d = let a = c.pair r refl in let b = d.pair r refl in a.is ∙ ap₂ (bin Choice) (at_unique _ _ a.at_left b.at_left) (at_unique _ _ a.at_right b.at_right) ∙ sym b.is
tree_unique None e f a b = at_unique e f (a.one refl) (b.one refl)

pub tree_fits : {w : List ℕ} {s : Bytes} {l : ℕ} {r : Option ℕ} {p : Place} {o t : List ℕ} → TreeReady w s l r p o t → (e : Expr Span) → TreeAt w l r e → Fits p (resolve s e) o t
tree_fits {r} d e a = rw (tree_unique r e d.tree a d.at) d.fits

-- its rows by the size words
abbrev pub tree_size : List ℕ → ℕ → Option ℕ → ℕ
tree_size w l (Some r) = size_at w l + size_at w r + 1
tree_size w l None = size_at w l

tree_size_lem : {w : List ℕ} {l : ℕ} (r : Option ℕ) {e : Expr Span} → TreeAt w l r e → tree_size w l r ≡ size e
tree_size_lem (Some r) c = let a = c.pair r refl in omega (arith, (root a.at_left).rows, (root a.at_right).rows, ap size a.is)
tree_size_lem None a = (root (a.one refl)).rows

-- below its run
pub base_run : {w : List ℕ} {b l : ℕ} (r : Option ℕ) {e : Expr Span} → BaseTold w b l r → TreeAt w l r e → b + length (ups e) ≡ l
base_run (Some r) h a = omega (arith, h.pair r refl, ap (λ (f : Expr Span). length (ups f)) (a.pair r refl).is)
base_run None {e} h a = h.one refl e (a.one refl)

pub base_tree : {w : List ℕ} {b l : ℕ} (r : Option ℕ) {e : Expr Span} → BaseTold w b l r → TreeAt w l r e → TreeAt w b r (low e)
base_tree (Some r) h c = let a = c.pair r refl in tree_pair (record { left = a.left; right = a.right; is = ap low a.is; at_left = rw (h.pair r refl) a.at_left; at_right = a.at_right })
base_tree {b} None {e} h a = tree_one (low_at e (a.one refl) b (h.one refl e (a.one refl)))

pub pair_run : {w : List ℕ} {l r : ℕ} {e : Expr Span} → PairAt w l r e → ups e ≡ []
pair_run a = ap ups a.is

-- ---- its sides

module _ {z : Option Parts} (w : List ℕ) (e : Expr Span) where
  pub told_parts : {s : Parts} → z ≡ Some s → PartsTold z w e → NodeAt w s.kind s.l s.r e
  told_parts h d = subst (λ (p : Option Parts). PartsTold p w e) h d

  pub less_parts : z ≡ None → PartsTold z w e → (b : Bin) (l r : Expr Span) → e ≡ bin b l r → ⊥
  less_parts h d = subst (λ (p : Option Parts). PartsTold p w e) h d

pub two_node : {w : List ℕ} {i k x y n l : ℕ} {e : Expr Span} (v : TwoView w i k x y n e) → l ≡ i - 1 - size_at w (i - 1) → NodeAt w k l (i - 1) e
two_node v h = record { op = v.op; left = v.left; right = v.right; is = v.is; kind = v.kind; at_left = pair_left v h; at_right = v.at_right }

pub pair_node : {w : List ℕ} {l r : ℕ} {e : Expr Span} → PairAt w l r e → NodeAt w 9 l r e
pair_node a = record { op = Choice; left = a.left; right = a.right; is = a.is; kind = refl; at_left = a.at_left; at_right = a.at_right }

abbrev pub NoNode : Expr Span → Type 0
NoNode e = (b : Bin) (l r : Expr Span) → e ≡ bin b l r → ⊥

pub not_two : (e : Expr Span) → (shape_in e ≡ shapes.Two → ⊥) → NoNode e
not_two e h b l r q = h (ap shape_in q)

pub less_two : (e : Expr Span) → NoNode e → shape_in e ≡ shapes.Two → ⊥
less_two (lit k s) h q = let z : ◌≡◌ {A = ℕ} 0 1 = cc in omega arith
less_two (fixed f) h q = let z : ◌≡◌ {A = ℕ} 0 1 = cc in omega arith
less_two (skip ss) h q = let z : ◌≡◌ {A = ℕ} 0 1 = cc in omega arith
less_two (un u e) h q = let z : ◌≡◌ {A = ℕ} 0 1 = cc in omega arith
less_two (bin b l r) h q = h b l r refl

-- a Choice of two has two sides
pub less_one : {w : List ℕ} {l : ℕ} (r : Option ℕ) {e : Expr Span} → TreeAt w l r e → NoNode (low e) → r ≡ None
less_one (Some r) a h = absurd (h Choice _ _ (ap low (a.pair r refl).is))
less_one None a h = refl

no_choice : (t : Bytes) (x : Expr Span) → NoNode x → as_choice (resolve t x) ≡ none
no_choice t (lit k s) h = refl
no_choice t (fixed f) h = refl
no_choice t (skip ss) h = refl
no_choice t (un u e) h = refl
no_choice t (bin b l r) h = absurd (h b l r refl)

-- ---- the rows over two trees

pub over_opt : (k : ℕ) (x y : E) → k ≡ 10 → over_of k x y ≡ bin Seq x (un Opt y)
unfolding over_of
over_opt k x y h = rw (eq-eqb k 10 h)

pub over_choice : (k : ℕ) (x y : E) → k ≡ 9 → over_of k x y ≡ bin Choice x y
unfolding over_of
over_choice k x y h = rw h

pub over_seq : (k : ℕ) (x y : E) → (k ≡ 10 → ⊥) → (k ≡ 9 → ⊥) → over_of k x y ≡ bin Seq x y
unfolding over_of
over_seq k x y h g = rw (ne_eqb k 10 h, ne_eqb k 9 g)

over_bin : (b : Bin) {k : ℕ} (x y : E) → k ≡ bin_kind b → over_of k x y ≡ bin b x y
unfolding over_of
over_bin Seq x y h = rw h
over_bin Choice x y h = rw h

over_ten : (x y : E) → over_of 10 x y ≡ bin Seq x (un Opt y)
unfolding over_of
over_ten x y = refl

-- the rows and the text of such a tree
record OverSize (k : ℕ) (x y : E) : Type 0 where
  more : ℕ
  rows : (a b : E) → size (over_of k a b) ≡ size a + size b + more
  least : 1 ≤ more
  text : length (text_of (over_of k x y)) ≡ length (text_of x) + length (text_of y)

over_size : (k : ℕ) (x y : E) → OverSize k x y
unfolding over_of
over_size k x y = go (eqb k 10) (eqb k 9) refl refl
  where
    go : (c d : Bool) → eqb k 10 ≡ c → eqb k 9 ≡ d → OverSize k x y
    go true d e f = record { more = 2; rows = λ a b. rw e (omega arith); least = omega arith; text = rw e (length-append (text_of x) (text_of y)) }
    go false true e f = record { more = 1; rows = λ a b. rw (e, f) (omega arith); least = omega arith; text = rw (e, f) (length-append (text_of x) (text_of y)) }
    go false false e f = record { more = 1; rows = λ a b. rw (e, f) (omega arith); least = omega arith; text = rw (e, f) (length-append (text_of x) (text_of y)) }

-- ---- plans

module _ {a : Plan} {tight : Bool} {w : List ℕ} {t : Bytes} {e : E} where
  plan_goal : {g h : E} → g ≡ h → PlanTold a tight w t h e → PlanTold a tight w t g e
  plan_goal {g} {h} q d = subst (λ (z : E). PlanTold a tight w t z e) (sym q) d

-- what goes on alone, and a node with both its sides
module _ (tight : Bool) (w : List ℕ) (t : Bytes) where
  pub alone_plan : {l : ℕ} (x : Expr Span) {e : E} → At w l x → NoNode x → PartOf (resolve t x) e
      → PlanTold (record { x = l; y = l; z = None; kind = None }) tight w t (beneath tight (resolve t x)) e
  alone_plan x a h p = record {
    first = x;
    second = x;
    at_first = a;
    at_second = tree_one a;
    is = sym (factored_other tight (resolve t x) (no_choice t x h));
    within = record { rows = omega (arith, p.rows); text = p.text };
    first_falls = p.rows;
    second_falls = p.rows;
  }

  both_plan : {k l r : ℕ} (b : Bin) (x y : Expr Span) {g e : E} → k ≡ bin_kind b → At w l x → At w r y → g ≡ bin b (factored tight (resolve t x)) (factored tight (resolve t y)) → Within (bin b (resolve t x) (resolve t y)) e
      → PlanTold (record { x = l; y = r; z = None; kind = Some k }) tight w t g e
  both_plan b x y k c d q h = record {
    first = x;
    second = y;
    at_first = c;
    at_second = tree_one d;
    is = q ∙ sym (over_bin b _ _ k);
    within = rw (over_bin b (resolve t x) (resolve t y) k) h;
    first_falls = omega (arith, h.rows, size_pos (resolve t y));
    second_falls = omega (arith, h.rows, size_pos (resolve t x));
  }

  pub untried_plan : {k l r : ℕ} {x : Expr Span} {e : E} → NodeAt w k l r x → PartOf (resolve t x) e → PlanTold (record { x = l; y = r; z = None; kind = Some k }) tight w t (beneath tight (resolve t x)) e
  untried_plan v p = both_plan v.op v.left v.right v.kind v.at_left v.at_right (rw v.is) (rw (← (ap (resolve t) v.is)) (record { rows = omega (arith, p.rows); text = p.text }))

  -- only a Choice is tried
  pub seq_plan : {k l r : ℕ} (b : Bin) (x y : Expr Span) → (k ≡ 9 → ⊥) → k ≡ bin_kind b → At w l x → At w r y
      → PlanTold (record { x = l; y = r; z = None; kind = Some k }) tight w t (factored tight (resolve t (bin b x y))) (resolve t (bin b x y))
  seq_plan Seq x y n k c d = both_plan Seq x y k c d (factored_other tight _ refl) (record { rows = omega arith; text = omega arith })
  seq_plan Choice x y n k c d = absurd (n k)

  module _ {l r : ℕ} (x y : Expr Span) (c : At w l x) (d : At w r y) where
    abbrev Fired : Plan → Type 0
    Fired a = PlanTold a tight w t (factored tight (resolve t (bin Choice x y))) (resolve t (bin Choice x y))

    pub plain_plan : CaseTold Plain tight w t x y → Fired (record { x = l; y = r; z = None; kind = Some 9 })
    plain_plan h = both_plan Choice x y refl c d (choice_plain tight _ _ h) (record { rows = omega arith; text = omega arith })

    pub first_plan : {a : Plan} → FirstTold w t x y → ((e : E) → PartOf (resolve t x) e → PlanTold a tight w t (beneath tight (resolve t x)) e) → Fired a
    first_plan h g = plan_goal (choice_first tight _ _ _ _ h.left (ap (resolve t) h.right.is) h.same) (g _ (record { rows = omega arith; text = omega (arith, length-append (text_of (resolve t x)) (text_of (resolve t y))) }))

    pub tail_plan : {i j : ℕ} → TailTold tight w t i j x y → Fired (record { x = i; y = j; z = None; kind = Some 10 })
    tail_plan h =
        let p = h.left.head in
        let q = h.left.tail in
        let el : resolve t x ≡ bin Seq (resolve t p) (resolve t q) = ap (resolve t) h.left.is in
        record {
          first = p;
          second = q;
          at_first = h.left.at_head;
          at_second = tree_one h.left.at_tail;
          is = choice_tail tight _ _ (resolve t p) (resolve t q) h.rule el h.right h.same ∙ sym (over_ten _ _);
          within = rw (over_ten (resolve t p) (resolve t q)) (record {
            rows = omega (arith, ap size el, size_pos (resolve t y));
            text = omega (arith, ap (λ (e : E). length (text_of e)) el, length-append (text_of (resolve t x)) (text_of (resolve t y)));
          });
          first_falls = omega (arith, ap size el);
          second_falls = omega (arith, ap size el);
        }

    pub heads_plan : {i j k : ℕ} → HeadsTold w t i j k x y → Fired (record { x = i; y = j; z = Some k; kind = Some 8 })
    heads_plan h =
        let p = h.left.head in
        let q = h.left.tail in
        let s = h.right.tail in
        let el : resolve t x ≡ bin Seq (resolve t p) (resolve t q) = ap (resolve t) h.left.is in
        let er : resolve t y ≡ bin Seq (resolve t h.right.head) (resolve t s) = ap (resolve t) h.right.is in
        record {
          first = p;
          second = bin Choice q s;
          at_first = h.left.at_head;
          at_second = tree_pair (record { left = q; right = s; is = refl; at_left = h.left.at_tail; at_right = h.right.at_tail });
          is = choice_heads tight _ _ (resolve t p) (resolve t q) _ (resolve t s) el er h.same ∙ sym (over_bin Seq _ _ refl);
          within = rw (over_bin Seq (resolve t p) (resolve t (bin Choice q s)) refl) (record {
            rows = omega (arith, ap size el, ap size er);
            text = omega (
              arith,
              ap (λ (e : E). length (text_of e)) el,
              ap (λ (e : E). length (text_of e)) er,
              length-append (text_of (resolve t x)) (text_of (resolve t y)),
              length-append (text_of (resolve t p)) (text_of (resolve t q)),
              length-append (text_of (resolve t h.right.head)) (text_of (resolve t s)),
              length-append (text_of (resolve t p)) (text_of (resolve t (bin Choice q s))),
              length-append (text_of (resolve t q)) (text_of (resolve t s)),
            );
          });
          first_falls = omega (arith, ap size el);
          second_falls = omega (arith, ap size el, ap size er, size_pos (resolve t p), size_pos (resolve t h.right.head));
        }

-- a node of kind 9 is a Choice
pub choice_plan : {a : Plan} (tight : Bool) (w : List ℕ) (t : Bytes) (b : Bin) (x y : Expr Span) {k : ℕ} → k ≡ 9 → k ≡ bin_kind b → PlanTold a tight w t (factored tight (resolve t (bin Choice x y))) (resolve t (bin Choice x y))
    → PlanTold a tight w t (factored tight (resolve t (bin b x y))) (resolve t (bin b x y))
choice_plan tight w t Seq x y h k d = absurd (omega arith)
choice_plan tight w t Choice x y h k d = d

-- ---- what is written by a plan

-- the same tree
pub plan_tree : {a : Plan} {tight : Bool} {w : List ℕ} {t : Bytes} {e f : Expr Span} → e ≡ f → PlanTold a tight w t (factored tight (resolve t f)) (resolve t f) → PlanTold a tight w t (factored tight (resolve t e)) (resolve t e)
plan_tree {a} {tight} {w} {t} q d = subst (λ (z : Expr Span). PlanTold a tight w t (factored tight (resolve t z)) (resolve t z)) (sym q) d

-- room for the rows over two trees
module _ {q p s : Place} {x y : E} {o o₁ o₂ t t₁ t₂ : List ℕ} (k : ℕ) (w : Kept q p x o o₁ t t₁) (v : Kept s q y o₁ o₂ t₁ t₂) {n : ℕ} (h : p.rows + size (over_of k x y) ≤ n) where
  pub opt_room : k ≡ 10 → s.rows + 2 ≤ n
  opt_room e = omega (arith, w.rows, v.rows, ap size (over_opt k x y e))

  pub bin_room : {b : Bin} → over_of k x y ≡ bin b x y → s.rows < n
  bin_room e = omega (arith, w.rows, v.rows, ap size e)

first_text : (k : Option ℕ) (x y : E) → length (text_of x) ≤ length (text_of (planned k x y))
first_text None x y = omega arith
first_text (Some k) x y = omega (arith, (over_size k x y).text)

module _ {a : Plan} {tight : Bool} {w : List ℕ} {t : Bytes} {g e : E} (d : PlanTold a tight w t g e) {p : Place} {o b : List ℕ} (f : Fits p e o b) where
  abbrev x₁ : E
  x₁ = resolve t d.first

  abbrev x₂ : E
  x₂ = resolve t d.second

  pub first_fits : Fits p x₁ o b
  first_fits = fits_less x₁ (omega (arith, d.first_falls)) (omega (arith, first_text a.kind x₁ x₂, d.within.text)) f

  module _ {q : Place} {o₁ b₁ : List ℕ} (c : Kept q p (factored tight x₁) o o₁ b b₁) where
    pub alone_kept : a.kind ≡ None → Kept q p g o o₁ b b₁
    alone_kept h = rw (d.is ∙ ap (λ (k : Option ℕ). planned k (factored tight x₁) (factored tight x₂)) h) c

    module _ {k : ℕ} (n : a.kind ≡ Some k) (lo : length o₁ ≡ length o) (lb : length b₁ ≡ length b) where
      over_within : Within (over_of k x₁ x₂) e
      over_within = subst (λ (k : Option ℕ). Within (planned k x₁ x₂) e) n d.within

      pub second_fits : Fits q x₂ o₁ b₁
      second_fits =
          let z = over_size k x₁ x₂ in
          record {
            rows = omega (arith, f.rows, c.rows, factored_size tight x₁, over_within.rows, z.rows x₁ x₂, z.least);
            text = omega (arith, f.text, c.text, factored_text tight x₁, over_within.text, z.text);
          }

      module _ {s : Place} {o₂ b₂ : List ℕ} (v : Kept s q (factored tight x₂) o₁ o₂ b₁ b₂) (lo₂ : length o₂ ≡ length o₁) where
        over_fits : p.rows + size (over_of k (factored tight x₁) (factored tight x₂)) ≤ length o₂ / row_width
        over_fits =
            let z = over_size k x₁ x₂ in
            omega (arith, f.rows, factored_size tight x₁, factored_size tight x₂, over_within.rows, z.rows x₁ x₂, z.rows (factored tight x₁) (factored tight x₂))

        pub over_order : (p.rows ≤ q.rows) × ((q.rows ≤ s.rows) × (s.rows ≤ length o₂ / row_width))
        over_order =
            let z = over_size k x₁ x₂ in
            (omega (arith, c.rows), (omega (arith, v.rows), omega (arith, over_fits, c.rows, v.rows, z.rows (factored tight x₁) (factored tight x₂))))

        pub over_kept : (m : Option Place) (o₃ : List ℕ) → OverAnswer m k p q s o₂ o₃ → KeptAnswer m p g o o₃ b b₂
        over_kept m o₃ h =
            subst (λ (z : E). KeptAnswer m p z o o₃ b b₂) (sym (d.is ∙ ap (λ (k : Option ℕ). planned k (factored tight x₁) (factored tight x₂)) n))
            (h (factored tight x₁) (factored tight x₂) o o₁ b b₁ b₂ c v over_fits)

-- ---- a tree with two sides, whatever tree stands there

-- the tree of row l, or a Choice of two, that fits at p, with the row below its run and the plan for it
pub record Planned (w : List ℕ) (t : Bytes) (tight : Bool) (l : ℕ) (r : Option ℕ) (base : ℕ) (p : Place) (o b : List ℕ) (a : Plan) : Type 0 where
  pub ready : TreeReady w t l r p o b
  pub base_told : BaseTold w base l r
  pub told : (e : Expr Span) → TreeAt w l r e → PlanTold a tight w t (factored tight (resolve t (low e))) (resolve t (low e))

pub planned_at : {w : List ℕ} {t : Bytes} {tight : Bool} {l : ℕ} {r : Option ℕ} {base : ℕ} {p : Place} {o b : List ℕ} {a : Plan} {z : Option Parts} {s : Parts} → TreeReady w t l r p o b → BaseTold w base l r → z ≡ Some s
    → ((e : Expr Span) → TreeAt w base r e → PartsTold z w e)
    → ((c : Bin) (x y : Expr Span) → s.kind ≡ bin_kind c → At w s.l x → At w s.r y → PlanTold a tight w t (factored tight (resolve t (bin c x y))) (resolve t (bin c x y)))
    → Planned w t tight l r base p o b a
planned_at {w} {r} d h e f g = record {
  ready = d;
  base_told = h;
  told = λ x c. let v = told_parts w (low x) e (f (low x) (base_tree r h c)) in plan_tree v.is (g v.op v.left v.right v.kind v.at_left v.at_right);
}

module _ {w : List ℕ} {t : Bytes} {tight : Bool} {l : ℕ} {r : Option ℕ} {base : ℕ} {p : Place} {o b : List ℕ} {a : Plan} (n : Planned w t tight l r base p o b a) where
  abbrev pub own : PlanTold a tight w t (factored tight (resolve t (low n.ready.tree))) (resolve t (low n.ready.tree))
  own = n.told n.ready.tree n.ready.at

  fits : (e : Expr Span) → TreeAt w l r e → Fits p (resolve t (low e)) o b
  fits e c = low_fits t e (tree_fits n.ready e c)

  -- both parts are smaller
  pub first_less : size_at w a.x < tree_size w l r
  first_less = let e = n.ready.tree in omega (arith, (root own.at_first).rows, tree_size_lem r n.ready.at, own.first_falls, size_resolve t own.first, size_resolve t (low e), low_size e)

  pub second_less : tree_size w a.y a.z < tree_size w l r
  second_less = let e = n.ready.tree in omega (arith, tree_size_lem a.z own.at_second, tree_size_lem r n.ready.at, own.second_falls, size_resolve t own.second, size_resolve t (low e), low_size e)

  pub first_ready : TreeReady w t a.x None p o b
  first_ready = record { tree = own.first; at = tree_one own.at_first; fits = first_fits own (fits _ n.ready.at) }

  -- what the calls wrote for both parts
  pub firsts : {m : Option Place} {q : Place} {o₁ b₁ : List ℕ} → m ≡ Some q → ((e : Expr Span) → TreeAt w a.x None e → KeptAnswer m p (factored tight (resolve t e)) o o₁ b b₁)
      → (e : Expr Span) (c : TreeAt w l r e) → Kept q p (factored tight (resolve t (n.told e c).first)) o o₁ b b₁
  firsts d g e c = kept_done _ _ _ _ _ _ d (g (n.told e c).first (tree_one (n.told e c).at_first))

  pub seconds : {m : Option Place} {q s : Place} {o₁ o₂ b₁ b₂ : List ℕ} → m ≡ Some s → ((e : Expr Span) → TreeAt w a.y a.z e → KeptAnswer m q (factored tight (resolve t e)) o₁ o₂ b₁ b₂)
      → (e : Expr Span) (c : TreeAt w l r e) → Kept s q (factored tight (resolve t (n.told e c).second)) o₁ o₂ b₁ b₂
  seconds d g e c = kept_done _ _ _ _ _ _ d (g (n.told e c).second (n.told e c).at_second)

  module _ {q : Place} {o₁ b₁ : List ℕ} (f : (e : Expr Span) (c : TreeAt w l r e) → Kept q p (factored tight (resolve t (n.told e c).first)) o o₁ b b₁) where
    pub alone : a.kind ≡ None → (e : Expr Span) → TreeAt w l r e → Kept q p (factored tight (resolve t (low e))) o o₁ b b₁
    alone h e c = alone_kept (n.told e c) (fits e c) (f e c) h

    module _ {k : ℕ} (h : a.kind ≡ Some k) (lo : length o₁ ≡ length o) (lb : length b₁ ≡ length b) where
      pub second_ready : TreeReady w t a.y a.z q o₁ b₁
      second_ready = record { tree = own.second; at = own.at_second; fits = second_fits own (fits _ n.ready.at) (f _ n.ready.at) h lo lb }

      module _ {s : Place} {o₂ b₂ : List ℕ} (g : (e : Expr Span) (c : TreeAt w l r e) → Kept s q (factored tight (resolve t (n.told e c).second)) o₁ o₂ b₁ b₂) (lo₂ : length o₂ ≡ length o₁) where
        pub both_order : (p.rows ≤ q.rows) × ((q.rows ≤ s.rows) × (s.rows ≤ length o₂ / row_width))
        both_order = over_order own (fits _ n.ready.at) (f _ n.ready.at) h lo lb (g _ n.ready.at) lo₂

        pub both_kept : (m : Option Place) (o₃ : List ℕ) → OverAnswer m k p q s o₂ o₃ → (e : Expr Span) → TreeAt w l r e → KeptAnswer m p (factored tight (resolve t (low e))) o o₃ b b₂
        both_kept m o₃ v e c = over_kept (n.told e c) (fits e c) (f e c) h lo lb (g e c) lo₂ m o₃ v

        pub both_done : {m : Option Place} {u : Place} {o₃ : List ℕ} → m ≡ Some u → OverAnswer m k p q s o₂ o₃ → (e : Expr Span) → TreeAt w l r e → Kept u p (factored tight (resolve t (low e))) o o₃ b b₂
        both_done {m} {o₃} d v e c = kept_done _ _ _ _ _ _ d (both_kept m o₃ v e c)

  -- the run over what was written
  module _ {q : Place} {o₁ b₁ : List ℕ} (f : (e : Expr Span) → TreeAt w l r e → Kept q p (factored tight (resolve t (low e))) o o₁ b b₁) where
    pub raise_ready : length o₁ ≡ length o → Areas o b → r ≡ None → Raisable w base l p q o₁
    raise_ready lo h z =
        let e = n.ready.tree in
        let c = n.ready.at in
        run_raisable (factored tight) (factored_un tight) t e (f e c) (factored_size tight _) base (c.one z) (base_run r n.base_told c) n.ready.fits lo h.words

    pub raised : (m : Option Place) (o₂ : List ℕ) → ((e : Expr Span) → TreeAt w l r e → RaisedAnswer m q p (ups e) o₁ o₂) → (e : Expr Span) → TreeAt w l r e → KeptAnswer m p (factored tight (resolve t e)) o o₂ b b₁
    raised m o₂ g e c = run_kept (factored tight) (factored_un tight) t e (f e c) m o₂ (g e c)
