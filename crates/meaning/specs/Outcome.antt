-- Matching (01, "Matching, for demand 3"): what an expression gives at a position of an input, under a table. Assumes nothing.
use Rattle.std.specs.Prelude.{◌≡◌, Bool, true, false, ◌&&◌, cond, List, [], ◌∷◌, ℕ, zero, suc, pred, ◌+◌, eqb, leb}
use Rattle.std.proofs.Math.Option.{Option, none, some}
use Rattle.std.proofs.Math.ListN.{get_elem?}
use Rattle.grammar.specs.Basic.{Bytes, same_bytes}
use Rattle.grammar.specs.Tree.{Str, Insens, Ident, Range, PosPred, NegPred, Opt, Rep, RepOnce, RestoreOnErr, RepExact, RepMin, RepMax, RepMinMax, Seq, Choice, E, lit, fixed, skip, un, bin}
use Rattle.grammar.specs.Table.{Table, find}
use Rattle.grammar.specs.Lists.{ANY}

-- "An outcome is fail or success at an end"
pub data Res : Type 0 where
  fail : Res
  ok : ℕ → Res

-- one byte, if there is one, that passes a test
abbrev pub passes : (ℕ → Bool) → Option ℕ → ℕ → Res
passes test none p = fail
passes test (some b) p = cond (test b) (ok (suc p)) fail

abbrev pub one : (ℕ → Bool) → Bytes → ℕ → Res
one test s p = passes test (get_elem? s p) p

-- go on where that ended
abbrev pub next : Res → (ℕ → Res) → Res
next fail k = fail
next (ok m) k = k m

-- the bytes of a literal one after another, each compared by `alike`
abbrev pub bytes : (ℕ → ℕ → Bool) → Bytes → Bytes → ℕ → Res
bytes alike s [] p = ok p
bytes alike s (c ∷ w) p = next (one (alike c) s p) (bytes alike s w)

-- "ASCII letters in either case"
abbrev pub lower : ℕ → ℕ
lower b = cond (leb 65 b && leb b 90) (32 + b) b

abbrev pub folded : ℕ → ℕ → Bool
folded a b = eqb (lower a) (lower b)

abbrev pub within : ℕ → ℕ → ℕ → Bool
within first last b = leb first b && leb b last

abbrev pub every : ℕ → Bool
every b = true

-- s1|..|sk. With k = 0 nothing matches, as in "a Range with first above last"
abbrev pub one_of : List Bytes → E
one_of [] = fixed (Range 1 0)
one_of (s ∷ []) = lit Str s
one_of (s ∷ t ∷ ss) = bin Choice (lit Str s) (one_of (t ∷ ss))

-- (!(s1|..|sk) ~ ANY)*
abbrev pub loop_of : List Bytes → E
loop_of ss = un Rep (bin Seq (un NegPred (one_of ss)) (lit Ident ANY))

-- a counted repeat that stops, with so many still missing: "fewer than the minimum fails"
abbrev pub stopped : ℕ → ℕ → Res
stopped zero p = ok p
stopped (suc n) p = fail

-- `Out t s e p r`: under the table t, e at position p of the input s gives r, in finitely many steps. "Otherwise there is none": so have
-- Push, PeekSlice and an Ident of no rule. The names end in _ok or _go where a child succeeds, in _no or _end where it fails
pub data Out (t : Table Bytes) (s : Bytes) : E → ℕ → Res → Type 0 where
  -- "Str and Insens take their bytes, Range and ANY one byte, Ident its rule"
  str : {w : Bytes} {p : ℕ} {r : Res} → bytes eqb s w p ≡ r → Out t s (lit Str w) p r
  insens : {w : Bytes} {p : ℕ} {r : Res} → bytes folded s w p ≡ r → Out t s (lit Insens w) p r
  range : {a b p : ℕ} {r : Res} → one (within a b) s p ≡ r → Out t s (fixed (Range a b)) p r
  any : {x : Bytes} {p : ℕ} {r : Res} → same_bytes x ANY ≡ true → one every s p ≡ r → Out t s (lit Ident x) p r
  call : {x : Bytes} {e : E} {p : ℕ} {r : Res} → same_bytes x ANY ≡ false → find t x ≡ some e → Out t s e p r → Out t s (lit Ident x) p r
  -- "PosPred and NegPred take nothing"
  pos_ok : {e : E} {p m : ℕ} → Out t s e p (ok m) → Out t s (un PosPred e) p (ok p)
  pos_no : {e : E} {p : ℕ} → Out t s e p fail → Out t s (un PosPred e) p fail
  neg_ok : {e : E} {p m : ℕ} → Out t s e p (ok m) → Out t s (un NegPred e) p fail
  neg_no : {e : E} {p : ℕ} → Out t s e p fail → Out t s (un NegPred e) p (ok p)
  -- "Seq, ordered Choice and Opt as in Ford"
  seq_go : {a b : E} {p m : ℕ} {r : Res} → Out t s a p (ok m) → Out t s b m r → Out t s (bin Seq a b) p r
  seq_no : {a b : E} {p : ℕ} → Out t s a p fail → Out t s (bin Seq a b) p fail
  choice_ok : {a b : E} {p m : ℕ} → Out t s a p (ok m) → Out t s (bin Choice a b) p (ok m)
  choice_no : {a b : E} {p : ℕ} {r : Res} → Out t s a p fail → Out t s b p r → Out t s (bin Choice a b) p r
  opt_ok : {e : E} {p m : ℕ} → Out t s e p (ok m) → Out t s (un Opt e) p (ok m)
  opt_no : {e : E} {p : ℕ} → Out t s e p fail → Out t s (un Opt e) p (ok p)
  -- "Rep: if e fails, success here; if it succeeds, Rep again from its end, so an empty success never ends"
  rep_go : {e : E} {p m : ℕ} {r : Res} → Out t s e p (ok m) → Out t s (un Rep e) m r → Out t s (un Rep e) p r
  rep_end : {e : E} {p : ℕ} → Out t s e p fail → Out t s (un Rep e) p (ok p)
  -- "Counted repeats are greedy: fewer than the minimum fails, and nothing is tried past the maximum"
  count_go : {e : E} {a b p m : ℕ} {r : Res} → Out t s e p (ok m) → Out t s (un (RepMinMax (pred a) b) e) m r → Out t s (un (RepMinMax a (suc b)) e) p r
  count_end : {e : E} {a b p : ℕ} {r : Res} → Out t s e p fail → stopped a p ≡ r → Out t s (un (RepMinMax a (suc b)) e) p r
  count_max : {e : E} {a p : ℕ} {r : Res} → stopped a p ≡ r → Out t s (un (RepMinMax a zero) e) p r
  exact : {e : E} {n p : ℕ} {r : Res} → Out t s (un (RepMinMax n n) e) p r → Out t s (un (RepExact n) e) p r
  at_most : {e : E} {n p : ℕ} {r : Res} → Out t s (un (RepMinMax zero n) e) p r → Out t s (un (RepMax n) e) p r
  -- "RepMin goes on as Rep after its minimum; RepOnce is RepMin 1"
  min_go : {e : E} {n p m : ℕ} {r : Res} → Out t s e p (ok m) → Out t s (un (RepMin n) e) m r → Out t s (un (RepMin (suc n)) e) p r
  min_no : {e : E} {n p : ℕ} → Out t s e p fail → Out t s (un (RepMin (suc n)) e) p fail
  min_rep : {e : E} {p : ℕ} {r : Res} → Out t s (un Rep e) p r → Out t s (un (RepMin zero) e) p r
  once : {e : E} {p : ℕ} {r : Res} → Out t s (un (RepMin (suc zero)) e) p r → Out t s (un RepOnce e) p r
  -- "Skip is (!(s1|..|sk) ~ ANY)*"
  skips : {ss : List Bytes} {p : ℕ} {r : Res} → Out t s (loop_of ss) p r → Out t s (skip ss) p r
  -- RestoreOnErr, "in answers only", "restores an expression's checkpoint" (the source), the stack's: it gives what its child gives
  restored : {e : E} {p : ℕ} {r : Res} → Out t s e p r → Out t s (un RestoreOnErr e) p r
