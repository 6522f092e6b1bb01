-- Words and trees: the words of a tree read back give the tree, and what is read gives those words, so that refusal 3 is exact. Assumes nothing.
use mathlib.Core.Path.{◌≡◌, refl, sym, ap, ap₂, ◌∙◌, subst}
use mathlib.Core.Bool.{false≢true, Bool, true, false, ◌&&◌, cond}
use mathlib.Core.List.{List, [], ◌∷◌, ◌++◌, append_assoc, append-nil}
use mathlib.Core.Option.{Option, none, some}
use mathlib.Core.Logic.{◌↔◌}
use Prim.Native.Nat.{ℕ, zero, suc, ◌+◌, ◌*◌}
use native.Mathlib.Omega.{arith}
use lib.ListN.{length, take, drop, length-append, take-append-drop}
use lib.Seq.{take_at, drop_at}
use lib.Dec.{eqb, leb}
use Rattle.grammar.specs.Numbers.{row_width}
use Rattle.grammar.specs.Basic.{◌>>=◌, test}
use Rattle.grammar.specs.Tree.{Bin, Choice, Expr, Fixed, Head, Ident, Insens, Lit, NegPred, Opt, PeekFrom, PeekSlice, PosPred, Push, Range, Rep, RepExact, RepMax, RepMin, RepMinMax, RepOnce, RestoreOnErr, Seq, Str, Un, as_str, bin, bin_kind, fixed, fixed_head, lit, lit_kind, size, skip, un, un_head}
use Rattle.grammar.specs.Rows.{Span, flat, row, str_rows}
use Rattle.grammar.specs.Table.{Table, row_words, rule_words, NonAtomic}
use Rattle.grammar.specs.Reading.{Kinds, Stack, all_fixed, all_un, bin_of, build, fixed_of, lit_of, no_words, one_tree, pop_bin, pop_strs, pop_un, read_row, read_rows, read_table, read_tree, same_head, size_is, un_of, with_rule}
use Rattle.grammar.proofs.Logic.{alt_case, and_left, and_right, bind_case, eqb_eq, eqb_self, first_passes, none_some, some_eq, test_true}

-- The rows of a tree, read, are the tree: for trees of allowed kinds

abbrev pub StrsAllowed : {L : Type 0} → Kinds → List L → Type 0
StrsAllowed ok [] = Unit {0}
StrsAllowed ok (s ∷ ss) = (ok 0 ≡ true) × StrsAllowed ok ss

-- every row of the tree has an allowed kind
abbrev pub Allowed : {L : Type 0} → Kinds → Expr L → Type 0
Allowed ok (lit k s) = ok (lit_kind k) ≡ true
Allowed ok (fixed f) = ok (fixed_head f).0 ≡ true
Allowed ok (skip ss) = StrsAllowed ok ss × (ok 17 ≡ true)
Allowed ok (un u e) = Allowed ok e × (ok (un_head u).0 ≡ true)
Allowed ok (bin b l r) = Allowed ok l × Allowed ok r × (ok (bin_kind b) ≡ true)

un_back : (u : Un) (st : Stack) (e : Expr Span) → build (un_head u) (e ∷ st) ≡ some (un u e ∷ st)
un_back PosPred st e = refl
un_back NegPred st e = refl
un_back Opt st e = refl
un_back Rep st e = refl
un_back RepOnce st e = refl
un_back (RepExact n) st e = rw (eqb_self n)
un_back (RepMin n) st e = rw (eqb_self n)
un_back (RepMax n) st e = rw (eqb_self n)
un_back (RepMinMax m n) st e = rw (eqb_self m, eqb_self n)
un_back Push st e = refl
un_back RestoreOnErr st e = refl

fixed_back : (f : Fixed) (st : Stack) → build (fixed_head f) st ≡ some (fixed f ∷ st)
fixed_back (Range a b) st = rw (eqb_self a, eqb_self b)
fixed_back (PeekFrom a) st = rw (eqb_self a)
fixed_back (PeekSlice a b) st = rw (eqb_self a, eqb_self b)

lit_back : (k : Lit) (s : Span) (st : Stack) → build (lit_kind k, s.0, s.1) st ≡ some (lit k s ∷ st)
lit_back Str s st = refl
lit_back Insens s st = refl
lit_back Ident s st = refl

bin_back : (b : Bin) (l r : Expr Span) (st : Stack) → build (bin_kind b, 0, 0) (r ∷ l ∷ st) ≡ some (bin b l r ∷ st)
bin_back Seq l r st = refl
bin_back Choice l r st = refl

-- the strings of a Skip on the stack
abbrev pushed : List Span → Stack → Stack
pushed [] st = st
pushed (s ∷ ss) st = pushed ss (lit Str s ∷ st)

pop_back : (ss acc : List Span) (k n : ℕ) (st : Stack) → n ≡ length ss + k → pop_strs n acc (pushed ss st) ≡ pop_strs k (ss ++ acc) st
pop_back [] acc k n st h = let e : n ≡ k = omega arith in ap (λ (j : ℕ). pop_strs j acc st) e
pop_back (s ∷ ss) acc k n st h = pop_back ss acc (suc k) n (lit Str s ∷ st) (omega arith)

skip_back : (ss : List Span) (st : Stack) → build (17, length ss, 0) (pushed ss st) ≡ some (skip ss ∷ st)
skip_back ss st = rw (eqb_self (length ss)) (pop_back ss [] 0 (length ss) st (omega arith) ∙ ap (λ (l : List Span). some (skip l ∷ st)) (append-nil ss))

module _ (ok : Kinds) where
  -- a row of an allowed kind whose tree is e
  row_back : (h : Head) (st st' : Stack) (e : Expr Span) (n : ℕ) (ws : List ℕ) → ok h.0 ≡ true → build h st ≡ some (e ∷ st') → n ≡ size e → read_rows ok (row h n ++ ws) st ≡ read_rows ok ws (e ∷ st')
  unfolding read_rows
  row_back h st st' e n ws a b s =
      ap (λ (t : Bool). (test t >>= λ _. build h st >>= size_is n) >>= read_rows ok ws) a
      ∙ ap (λ (o : Option Stack). (o >>= size_is n) >>= read_rows ok ws) b
      ∙ ap (λ (t : Bool). (cond t (some (e ∷ st')) none) >>= read_rows ok ws) (ap (eqb (size e)) s ∙ eqb_self (size e))

  strs_back : (ss : List Span) → StrsAllowed ok ss → (ws : List ℕ) (st : Stack) → read_rows ok (str_rows ss ++ ws) st ≡ read_rows ok ws (pushed ss st)
  strs_back [] p ws st = refl
  strs_back (s ∷ ss) p ws st = row_back (0, s.0, s.1) st st (lit Str s) 1 (str_rows ss ++ ws) p.0 refl refl ∙ strs_back ss p.1 ws (lit Str s ∷ st)

  pub rows_back : (e : Expr Span) → Allowed ok e → (ws : List ℕ) (st : Stack) → read_rows ok (flat e ++ ws) st ≡ read_rows ok ws (e ∷ st)
  rows_back (lit k s) p ws st = row_back (lit_kind k, s.0, s.1) st st (lit k s) 1 ws p (lit_back k s st) refl
  rows_back (fixed f) p ws st = row_back (fixed_head f) st st (fixed f) 1 ws p (fixed_back f st) refl
  rows_back (skip ss) p ws st =
      let q : List ℕ = row (17, length ss, 0) (length ss + 1) in
      ap (λ (l : List ℕ). read_rows ok l st) (append_assoc (str_rows ss) q ws)
      ∙ strs_back ss p.0 (q ++ ws) st
      ∙ row_back (17, length ss, 0) (pushed ss st) st (skip ss) (length ss + 1) ws p.1 (skip_back ss st) refl
  rows_back (un u e) p ws st =
      let q : List ℕ = row (un_head u) (size e + 1) in
      ap (λ (l : List ℕ). read_rows ok l st) (append_assoc (flat e) q ws)
      ∙ rows_back e p.0 (q ++ ws) st
      ∙ row_back (un_head u) (e ∷ st) st (un u e) (size e + 1) ws p.1 (un_back u st e) refl
  rows_back (bin b l r) p ws st =
      let q : List ℕ = row (bin_kind b, 0, 0) (size l + size r + 1) in
      ap (λ (m : List ℕ). read_rows ok m st) (append_assoc (flat l) (flat r ++ q) ws ∙ ap (λ (m : List ℕ). flat l ++ m) (append_assoc (flat r) q ws))
      ∙ rows_back l p.0 (flat r ++ (q ++ ws)) st
      ∙ rows_back r p.1 (q ++ ws) (l ∷ st)
      ∙ row_back (bin_kind b, 0, 0) (r ∷ l ∷ st) st (bin b l r) (size l + size r + 1) ws p.2 (bin_back b l r st) refl

  pub tree_back : (e : Expr Span) → Allowed ok e → read_tree ok (flat e) ≡ some e
  unfolding read_tree read_rows
  tree_back e p = ap (λ (l : List ℕ). read_rows ok l [] >>= one_tree) (sym (append-nil (flat e))) ∙ ap (λ (o : Option Stack). o >>= one_tree) (rows_back e p [] [])

-- The other way: words that are read as a tree are the rows of that tree

abbrev flats : Stack → List ℕ
flats [] = []
flats (e ∷ st) = flats st ++ flat e

abbrev top_size : Stack → ℕ
top_size [] = 0
top_size (e ∷ st) = size e

same_head_lem : (g h : Head) → same_head g h ≡ true → g ≡ h
same_head_lem g h p = λ i. (a i, b i, c i)
  where
    q : (eqb g.1 h.1 && eqb g.2 h.2) ≡ true
    q = and_right (eqb g.0 h.0) (eqb g.1 h.1 && eqb g.2 h.2) p

    a : g.0 ≡ h.0
    a = eqb_eq g.0 h.0 (and_left (eqb g.0 h.0) (eqb g.1 h.1 && eqb g.2 h.2) p)

    b : g.1 ≡ h.1
    b = eqb_eq g.1 h.1 (and_left (eqb g.1 h.1) (eqb g.2 h.2) q)

    c : g.2 ≡ h.2
    c = eqb_eq g.2 h.2 (and_right (eqb g.1 h.1) (eqb g.2 h.2) q)

-- a row makes of the stack's rows those rows and itself
abbrev Built : Head → Stack → Stack → Type 0
Built h st st' = flats st' ≡ flats st ++ row h (top_size st')

lit_built : (h : Head) (st st' : Stack) (k : Lit) → lit_of h ≡ some k → some (lit k (h.1, h.2) ∷ st) ≡ some st' → Built h st st'
lit_built h st st' k e f = subst (Built h st) (some_eq _ _ f) (ap (λ (n : ℕ). flats st ++ row (n, h.1, h.2) 1) (eqb_eq (lit_kind k) h.0 (first_passes (λ j. eqb (lit_kind j) h.0) (Str ∷ Insens ∷ Ident ∷ []) k e)))

fixed_built : (h : Head) (st st' : Stack) (g : Fixed) → fixed_of h ≡ some g → some (fixed g ∷ st) ≡ some st' → Built h st st'
fixed_built h st st' g e f = subst (Built h st) (some_eq _ _ f) (ap (λ (j : Head). flats st ++ row j 1) (same_head_lem (fixed_head g) h (first_passes (λ j. same_head (fixed_head j) h) (all_fixed h.1 h.2) g e)))

un_built : (h : Head) (st st' : Stack) (u : Un) → un_of h ≡ some u → pop_un u st ≡ some st' → Built h st st'
un_built h [] st' u e f = none_some f
un_built h (x ∷ st) st' u e f = subst (Built h (x ∷ st)) (some_eq _ _ f) (sym (append_assoc (flats st) (flat x) (row (un_head u) (size x + 1))) ∙ ap (λ (j : Head). flats st ++ flat x ++ row j (size x + 1)) (same_head_lem (un_head u) h (first_passes (λ j. same_head (un_head j) h) (all_un h.1 h.2) u e)))

bin_built : (h : Head) (st st' : Stack) (b : Bin) → bin_of h ≡ some b → pop_bin b st ≡ some st' → Built h st st'
bin_built h [] st' b e f = none_some f
bin_built h (r ∷ []) st' b e f = none_some f
bin_built h (r ∷ l ∷ st) st' b e f = subst (Built h (r ∷ l ∷ st)) (some_eq _ _ f) (simp append_assoc (ap (λ (j : Head). flats st ++ (flat l ++ (flat r ++ row j (size l + size r + 1)))) (same_head_lem (bin_kind b, 0, 0) h (first_passes (λ j. same_head (bin_kind j, 0, 0) h) (Seq ∷ Choice ∷ []) b e))))

as_str_is : (e : Expr Span) (s : Span) → as_str e ≡ some s → e ≡ lit Str s
as_str_is (lit Str t) s h = cc
as_str_is (lit Insens t) s h = none_some h
as_str_is (lit Ident t) s h = none_some h
as_str_is (fixed f) s h = none_some h
as_str_is (skip ss) s h = none_some h
as_str_is (un u e) s h = none_some h
as_str_is (bin b l r) s h = none_some h

abbrev Popped : ℕ → List Span → Stack → Stack → Type 0
Popped k ss st st' = (flats st' ≡ flats st ++ (str_rows ss ++ row (17, k, 0) (k + 1))) × (top_size st' ≡ k + 1)

strs_popped : (n k : ℕ) (ss : List Span) (st st' : Stack) → n + length ss ≡ k → pop_strs n ss st ≡ some st' → Popped k ss st st'
strs_popped zero k ss st st' m h =
    let e : length ss ≡ k = omega arith in
    subst (Popped k ss st) (some_eq _ _ h) (ap (λ (j : ℕ). flats st ++ (str_rows ss ++ row (17, j, 0) (j + 1))) e, omega arith)
strs_popped (suc n) k ss [] st' m h = none_some h
strs_popped (suc n) k ss (e ∷ st) st' m h = bind_case (as_str e) (λ s. pop_strs n (s ∷ ss) st) st' h (λ s f g. subst (λ (x : Expr Span). Popped k ss (x ∷ st) st') (sym (as_str_is e s f)) (go s (strs_popped n k (s ∷ ss) st st' (omega arith) g)))
  where
    go : (s : Span) → Popped k (s ∷ ss) st st' → Popped k ss (lit Str s ∷ st) st'
    go s p = (p.0 ∙ sym (append_assoc (flats st) (row (0, s.0, s.1) 1) (str_rows ss ++ row (17, k, 0) (k + 1))), p.1)

skip_built : (h : Head) (st st' : Stack) → same_head (17, h.1, 0) h ≡ true → pop_strs h.1 [] st ≡ some st' → Built h st st'
skip_built h st st' e f =
    let p : Popped h.1 [] st st' = strs_popped h.1 h.1 [] st st' (omega arith) f in
    p.0 ∙ ap₂ (λ (j : Head) (n : ℕ). flats st ++ row j n) (same_head_lem (17, h.1, 0) h e) (sym p.1)

built : (h : Head) (st st' : Stack) → build h st ≡ some st' → Built h st st'
built h st st' e =
    alt_case (lit_of h >>= λ k. some (lit k (h.1, h.2) ∷ st)) _ st' e (λ a. bind_case (lit_of h) (λ k. some (lit k (h.1, h.2) ∷ st)) st' a (lit_built h st st')) λ e.
    alt_case (fixed_of h >>= λ f. some (fixed f ∷ st)) _ st' e (λ a. bind_case (fixed_of h) (λ f. some (fixed f ∷ st)) st' a (fixed_built h st st')) λ e.
    alt_case (un_of h >>= λ u. pop_un u st) _ st' e (λ a. bind_case (un_of h) (λ u. pop_un u st) st' a (un_built h st st')) λ e.
    alt_case (bin_of h >>= λ b. pop_bin b st) _ st' e (λ a. bind_case (bin_of h) (λ b. pop_bin b st) st' a (bin_built h st st')) λ e.
    bind_case (test (same_head (17, h.1, 0) h)) (λ _. pop_strs h.1 [] st) st' e (λ u f g. skip_built h st st' (test_true (same_head (17, h.1, 0) h) u f) g)

sized : (n : ℕ) (st st' : Stack) → size_is n st ≡ some st' → (st ≡ st') × (top_size st ≡ n)
sized n [] st' h = none_some h
sized n (e ∷ st) st' h = go (eqb (size e) n) refl h
  where
    go : (t : Bool) → eqb (size e) n ≡ t → cond t (some (e ∷ st)) none ≡ some st' → ((e ∷ st) ≡ st') × (size e ≡ n)
    go true p k = (cc, eqb_eq (size e) n p)
    go false p k = none_some k

only : (st : Stack) (e : Expr Span) → one_tree st ≡ some e → st ≡ e ∷ []
only [] e h = none_some h
only (x ∷ []) e h = cc
only (x ∷ y ∷ st) e h = none_some h

module _ (ok : Kinds) where
  pub rows_are : (ws : List ℕ) (st st' : Stack) → read_rows ok ws st ≡ some st' → flats st' ≡ flats st ++ ws
  unfolding read_rows
  rows_are [] st st' h = ap flats (sym (some_eq _ _ h)) ∙ sym (append-nil (flats st))
  rows_are (k ∷ []) st st' h = none_some h
  rows_are (k ∷ x ∷ []) st st' h = none_some h
  rows_are (k ∷ x ∷ y ∷ []) st st' h = none_some h
  rows_are (k ∷ x ∷ y ∷ n ∷ ws) st st' h =
      bind_case (read_row ok (k, x, y) n st) (read_rows ok ws) st' h λ st₂ f g.
      bind_case (test (ok k)) (λ _. build (k, x, y) st >>= size_is n) st₂ f λ _ _ f₂.
      bind_case (build (k, x, y) st) (size_is n) st₂ f₂ λ st₁ a b.
      let s : (st₁ ≡ st₂) × (top_size st₁ ≡ n) = sized n st₁ st₂ b in
      rows_are ws st₂ st' g
      ∙ ap (λ (l : List ℕ). l ++ ws) (ap flats (sym s.0) ∙ built (k, x, y) st st₁ a ∙ ap (λ (m : ℕ). flats st ++ row (k, x, y) m) s.1)
      ∙ append_assoc (flats st) (row (k, x, y) n) ws

  pub tree_is : (ws : List ℕ) (e : Expr Span) → read_tree ok ws ≡ some e → flat e ≡ ws
  unfolding read_tree read_rows
  tree_is ws e h = bind_case (read_rows ok ws []) one_tree e h (λ st f g. ap flats (sym (only st e g)) ∙ rows_are ws [] st f)

  -- what is read has allowed kinds only
  abbrev AllowedAll : Stack → Type 0
  AllowedAll [] = Unit {0}
  AllowedAll (e ∷ st) = AllowedAll st × Allowed ok e

  abbrev Grows : Head → Stack → Stack → Type 0
  Grows h st st' = ok h.0 ≡ true → AllowedAll st → AllowedAll st'

  lit_allowed : (h : Head) (st st' : Stack) (k : Lit) → lit_of h ≡ some k → some (lit k (h.1, h.2) ∷ st) ≡ some st' → Grows h st st'
  lit_allowed h st st' k e f p a = subst AllowedAll (some_eq _ _ f) (a, ap ok (eqb_eq (lit_kind k) h.0 (first_passes (λ j. eqb (lit_kind j) h.0) (Str ∷ Insens ∷ Ident ∷ []) k e)) ∙ p)

  head_allowed : (g h : Head) → same_head g h ≡ true → ok h.0 ≡ true → ok g.0 ≡ true
  head_allowed g h e p = ap (λ (j : Head). ok j.0) (same_head_lem g h e) ∙ p

  fixed_allowed : (h : Head) (st st' : Stack) (g : Fixed) → fixed_of h ≡ some g → some (fixed g ∷ st) ≡ some st' → Grows h st st'
  fixed_allowed h st st' g e f p a = subst AllowedAll (some_eq _ _ f) (a, head_allowed (fixed_head g) h (first_passes (λ j. same_head (fixed_head j) h) (all_fixed h.1 h.2) g e) p)

  un_allowed : (h : Head) (st st' : Stack) (u : Un) → un_of h ≡ some u → pop_un u st ≡ some st' → Grows h st st'
  un_allowed h [] st' u e f p a = none_some f
  un_allowed h (x ∷ st) st' u e f p a = subst AllowedAll (some_eq _ _ f) (a.0, (a.1, head_allowed (un_head u) h (first_passes (λ j. same_head (un_head j) h) (all_un h.1 h.2) u e) p))

  bin_allowed : (h : Head) (st st' : Stack) (b : Bin) → bin_of h ≡ some b → pop_bin b st ≡ some st' → Grows h st st'
  bin_allowed h [] st' b e f p a = none_some f
  bin_allowed h (r ∷ []) st' b e f p a = none_some f
  bin_allowed h (r ∷ l ∷ st) st' b e f p a = subst AllowedAll (some_eq _ _ f) (a.0.0, (a.0.1, a.1, head_allowed (bin_kind b, 0, 0) h (first_passes (λ j. same_head (bin_kind j, 0, 0) h) (Seq ∷ Choice ∷ []) b e) p))

  strs_allowed : (n : ℕ) (ss : List Span) (st st' : Stack) → pop_strs n ss st ≡ some st' → ok 17 ≡ true → StrsAllowed ok ss → AllowedAll st → AllowedAll st'
  strs_allowed zero ss st st' h p q a = subst AllowedAll (some_eq _ _ h) (a, (q, p))
  strs_allowed (suc n) ss [] st' h p q a = none_some h
  strs_allowed (suc n) ss (e ∷ st) st' h p q a =
      bind_case (as_str e) (λ s. pop_strs n (s ∷ ss) st) st' h (λ s f g. strs_allowed n (s ∷ ss) st st' g p (subst (Allowed ok) (as_str_is e s f) a.1, q) a.0)

  skip_allowed : (h : Head) (st st' : Stack) → same_head (17, h.1, 0) h ≡ true → pop_strs h.1 [] st ≡ some st' → Grows h st st'
  skip_allowed h st st' e f p a = strs_allowed h.1 [] st st' f (head_allowed (17, h.1, 0) h e p) tt a

  build_allowed : (h : Head) (st st' : Stack) → build h st ≡ some st' → Grows h st st'
  build_allowed h st st' e =
      alt_case (lit_of h >>= λ k. some (lit k (h.1, h.2) ∷ st)) _ st' e (λ a. bind_case (lit_of h) (λ k. some (lit k (h.1, h.2) ∷ st)) st' a (lit_allowed h st st')) λ e.
      alt_case (fixed_of h >>= λ f. some (fixed f ∷ st)) _ st' e (λ a. bind_case (fixed_of h) (λ f. some (fixed f ∷ st)) st' a (fixed_allowed h st st')) λ e.
      alt_case (un_of h >>= λ u. pop_un u st) _ st' e (λ a. bind_case (un_of h) (λ u. pop_un u st) st' a (un_allowed h st st')) λ e.
      alt_case (bin_of h >>= λ b. pop_bin b st) _ st' e (λ a. bind_case (bin_of h) (λ b. pop_bin b st) st' a (bin_allowed h st st')) λ e.
      bind_case (test (same_head (17, h.1, 0) h)) (λ _. pop_strs h.1 [] st) st' e (λ u f g. skip_allowed h st st' (test_true (same_head (17, h.1, 0) h) u f) g)

  rows_allowed : (ws : List ℕ) (st st' : Stack) → read_rows ok ws st ≡ some st' → AllowedAll st → AllowedAll st'
  unfolding read_rows
  rows_allowed [] st st' h a = subst AllowedAll (some_eq _ _ h) a
  rows_allowed (k ∷ []) st st' h a = none_some h
  rows_allowed (k ∷ x ∷ []) st st' h a = none_some h
  rows_allowed (k ∷ x ∷ y ∷ []) st st' h a = none_some h
  rows_allowed (k ∷ x ∷ y ∷ n ∷ ws) st st' h a =
      bind_case (read_row ok (k, x, y) n st) (read_rows ok ws) st' h λ st₂ f g.
      bind_case (test (ok k)) (λ _. build (k, x, y) st >>= size_is n) st₂ f λ u p f₂.
      bind_case (build (k, x, y) st) (size_is n) st₂ f₂ λ st₁ b s.
      rows_allowed ws st₂ st' g (subst AllowedAll (sized n st₁ st₂ s).0 (build_allowed (k, x, y) st st₁ b (test_true (ok k) u p) a))

  pub tree_allowed : (ws : List ℕ) (e : Expr Span) → read_tree ok ws ≡ some e → Allowed ok e
  unfolding read_tree read_rows
  tree_allowed ws e h = bind_case (read_rows ok ws []) one_tree e h (λ st f g. (subst AllowedAll (only st e g) (rows_allowed ws [] st f tt)).1)

-- Tables

str_rows_length : (ss : List Span) → length (str_rows ss) ≡ row_width * length ss
str_rows_length [] = refl
str_rows_length (s ∷ ss) = omega (arith, str_rows_length ss)

pub flat_length : (e : Expr Span) → length (flat e) ≡ row_width * size e
flat_length (lit k s) = refl
flat_length (fixed f) = refl
flat_length (skip ss) = simp length-append (omega (arith, str_rows_length ss))
flat_length (un u e) = simp length-append (omega (arith, flat_length e))
flat_length (bin b l r) = simp length-append (omega (arith, flat_length l, flat_length r))

-- types and kinds are allowed
abbrev pub AllowedTable : {L : Type 0} → Kinds → Table L → Type 0
AllowedTable ok [] = Unit {0}
AllowedTable ok (r ∷ rs) = (leb r.type NonAtomic ≡ true) × Allowed ok r.body × AllowedTable ok rs

rest_none : (ws : List ℕ) → no_words ws ≡ true → ws ≡ []
rest_none [] h = refl
rest_none (w ∷ ws) h = absurd (false≢true h)

-- these words are that table's
pub record TableOf (ok : Kinds) (rs ws : List ℕ) (t : Table Span) : Type 0 where
  pub rules : rule_words t ≡ rs
  pub rows : row_words t ≡ ws
  pub allowed : AllowedTable ok t

module _ (ok : Kinds) where
  pub table_back : (t : Table Span) → AllowedTable ok t → read_table ok (rule_words t) (row_words t) ≡ some t
  unfolding read_table
  table_back [] p = refl
  table_back (r ∷ rs) p =
      let n : length (flat r.body) ≡ row_width * size r.body = flat_length r.body in
      let a : read_tree ok (take (row_width * size r.body) (flat r.body ++ row_words rs)) ≡ some r.body =
      ap (read_tree ok) (take_at (flat r.body) (row_words rs) (row_width * size r.body) n) ∙ tree_back ok r.body p.1 in
      let b : read_table ok (rule_words rs) (drop (row_width * size r.body) (flat r.body ++ row_words rs)) ≡ some rs =
      ap (read_table ok (rule_words rs)) (drop_at (flat r.body) (row_words rs) (row_width * size r.body) n) ∙ table_back rs p.2 in
      ap₂ (with_rule r.name r.type (size r.body)) a b ∙ rule_back p.0
    where
      rule_back : leb r.type NonAtomic ≡ true → with_rule r.name r.type (size r.body) (some r.body) (some rs) ≡ some (r ∷ rs)
      rule_back h = rw (h, eqb_self (size r.body))

  pub table_is : (rules rows : List ℕ) (t : Table Span) → read_table ok rules rows ≡ some t → TableOf ok rules rows t
  unfolding read_table
  table_is [] rows t h = bind_case (test (no_words rows)) (λ _. some []) t h (λ u f g. subst (TableOf ok [] rows) (some_eq _ _ g) (record { rules = refl; rows = sym (rest_none rows (test_true (no_words rows) u f)); allowed = tt }))
  table_is (o ∷ []) rows t h = none_some h
  table_is (o ∷ l ∷ []) rows t h = none_some h
  table_is (o ∷ l ∷ y ∷ []) rows t h = none_some h
  table_is (o ∷ l ∷ y ∷ n ∷ rules) rows t h =
      bind_case (test (leb y NonAtomic)) _ t h λ v f₀ g₀.
      bind_case (read_tree ok (take (row_width * n) rows)) _ t g₀ λ e f₁ g₁.
      bind_case (test (eqb (size e) n)) _ t g₁ λ u f₂ g₂.
      bind_case (read_table ok rules (drop (row_width * n) rows)) _ t g₂ λ t' f₃ g₃.
      let m : size e ≡ n = eqb_eq (size e) n (test_true (eqb (size e) n) u f₂) in
      let ih : TableOf ok rules (drop (row_width * n) rows) t' = table_is rules (drop (row_width * n) rows) t' f₃ in
      subst (TableOf ok (o ∷ l ∷ y ∷ n ∷ rules) rows) (some_eq _ _ g₃)
      (record {
        rules = ap₂ (λ (k : ℕ) (q : List ℕ). o ∷ l ∷ y ∷ k ∷ q) m ih.rules;
        rows = ap₂ ◌++◌ (tree_is ok (take (row_width * n) rows) e f₁) ih.rows ∙ take-append-drop (row_width * n) rows;
        allowed = (test_true (leb y NonAtomic) v f₀, tree_allowed ok (take (row_width * n) rows) e f₁, ih.allowed);
      })

  -- REFUSAL 3 IS EXACT: words are read as a table exactly when they are that table's words
  pub table_iff : (rules rows : List ℕ) (t : Table Span) → (read_table ok rules rows ≡ some t) ↔ TableOf ok rules rows t
  table_iff rules rows t = (table_is rules rows t, λ h. ap₂ (read_table ok) (sym h.rules) (sym h.rows) ∙ table_back t h.allowed)
