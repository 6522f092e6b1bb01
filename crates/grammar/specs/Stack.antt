-- What can change the stack (01, step 7), as a relation in the document's words and as a test that computes. Assumes nothing.
use Rattle.std.specs.Prelude.{◌≡◌, Bool, true, false, ◌&&◌, ◌||◌, not, List, [], ◌∷◌, ℕ, zero, suc, length}
use Rattle.std.proofs.Math.Option.{Option, none, some}
use Rattle.grammar.specs.Basic.{Bytes, same_bytes, member}
use Rattle.grammar.specs.Numbers.{k_push, k_restore_on_err}
use Rattle.grammar.specs.Tree.{Lit, Str, Insens, Ident, Un, Push, Bin, E, lit, fixed, skip, un, bin, is_un}
use Rattle.grammar.specs.Table.{Table, find}

abbrev pub DROP : Bytes
DROP = 68 ∷ 82 ∷ 79 ∷ 80 ∷ []

abbrev pub POP : Bytes
POP = 80 ∷ 79 ∷ 80 ∷ []

abbrev pub stack_names : List Bytes
stack_names = DROP ∷ POP ∷ []

-- "a Push, or an Ident named DROP or POP, is reached from it, going down rows and through Idents into the rules";
-- "children of a RestoreOnErr are not looked at"
pub data Reaches (t : Table Bytes) : E → Type 0 where
  at_push : {e : E} → Reaches t (un Push e)
  at_name : {x : Bytes} → member x stack_names ≡ true → Reaches t (lit Ident x)
  through : {x : Bytes} {e : E} → find t x ≡ some e → Reaches t e → Reaches t (lit Ident x)
  down : {u : Un} {e : E} → is_un k_restore_on_err u ≡ false → Reaches t e → Reaches t (un u e)
  left : {b : Bin} {l r : E} → Reaches t l → Reaches t (bin b l r)
  right : {b : Bin} {l r : E} → Reaches t r → Reaches t (bin b l r)

-- The test. `look` says whether the rule of that name can change the stack
abbrev pub changes_lit : (Bytes → Bool) → Lit → Bytes → Bool
changes_lit look Str s = false
changes_lit look Insens s = false
changes_lit look Ident x = member x stack_names || look x

abbrev pub changes_in : (Bytes → Bool) → E → Bool
changes_in look (lit k s) = changes_lit look k s
changes_in look (fixed f) = false
changes_in look (skip ss) = false
changes_in look (un u e) = is_un k_push u || (not (is_un k_restore_on_err u) && changes_in look e)
changes_in look (bin b l r) = changes_in look l || changes_in look r

abbrev pub changes_found : Option E → (E → Bool) → Bool
changes_found none look = false
changes_found (some e) look = look e

-- reached through at most n looks into rules; the number of rules is enough (Stacks, `changes_is`)
abbrev pub changes_name : ℕ → Table Bytes → Bytes → Bool
changes_name zero t x = false
changes_name (suc n) t x = changes_found (find t x) (changes_in (changes_name n t))

unfoldable pub changes : Table Bytes → E → Bool
unfolding same_bytes
changes t e = changes_in (changes_name (length t) t) e
