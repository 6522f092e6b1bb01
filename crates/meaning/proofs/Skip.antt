-- Skip's law. It reads lists in the table as given and is used in the rotated one: what a list is read of stands in both alike. Assumes nothing.
use mathlib.Core.Path.{◌≡◌, refl, sym, ap, ap₂, subst, ◌∙◌}
use mathlib.Core.Bool.{Bool, true, false, true≢false, ◌&&◌, cond}
use mathlib.Core.List.{List, [], ◌∷◌, ◌++◌}
use mathlib.Core.Option.{Option, none, some}
use Prim.Native.Nat.{ℕ, zero, suc}
use native.Mathlib.Omega.{arith}
use lib.ListN.{length, get_elem?}
use lib.Dec.{leb, leb-suc-zero}
use Rattle.grammar.specs.Basic.{Bytes, same_bytes, member, test}
use Rattle.grammar.specs.Tree.{Lit, Str, Insens, Ident, NegPred, Rep, Seq, Choice, E, lit, fixed, skip, un, bin, size, as_ident, as_neg_pred, as_rep, as_seq}
use Rattle.grammar.specs.Table.{Table, find}
use Rattle.grammar.specs.Lists.{Reading, nothing, strings, again, and_then, read_lit, read_in, read_found, read_name, skip_list, ANY, loop_over, as_strings}
use Rattle.grammar.specs.Steps.{children, top_down_in, or_same, is_atomic, rotate, skip?, skip_to, each}
use Rattle.grammar.proofs.Logic.{none_some, some_eq, bind_case, test_true, same_bytes_eq}
use Rattle.grammar.proofs.TopDown.{as_seq_is}
use Rattle.meaning.specs.Outcome.{Res, fail, ok, passes, within, one_of, loop_of, Out, range, any, call, choice_ok, choice_no, skips}
use Rattle.meaning.proofs.Matcher.{det}
use Rattle.meaning.proofs.Same.{Same, same, ◌∘◌, equal, result, never, un_same, bin_same, cond_same, or_same_same, top_down_same}
use Rattle.meaning.proofs.Lift.{Pairs, partner, Keeps, lifted, each_pairs, anything}
use Rattle.meaning.proofs.Views.{lit_at_is, as_rep_is, as_neg_pred_is}
use Rattle.meaning.proofs.Rotate.{grouping}

-- What a list is read of: literals in a right-nested Choice. Rotate and skip leave it as it stands
pub data Leaves : E → Type 0 where
  last : {k : Lit} {w : Bytes} → Leaves (lit k w)
  more : {k : Lit} {w : Bytes} {e : E} → Leaves e → Leaves (bin Choice (lit k w) e)

not_strings : {r : Reading} {ss : List Bytes} {P : Type 0} → r ≡ nothing → r ≡ strings ss → P
not_strings h k = let z : ◌≡◌ {A = ℕ} 0 1 = cc in absurd (omega arith)

not_again : {r : Reading} {ss : List Bytes} {P : Type 0} → r ≡ again → r ≡ strings ss → P
not_again h k = let z : ◌≡◌ {A = ℕ} 0 1 = cc in absurd (omega arith)

-- this list, then that one
record Parts (p q : Reading) (ss : List Bytes) : Type 0 where
  front : List Bytes
  back : List Bytes
  left : p ≡ strings front
  right : q ≡ strings back
  whole : front ++ back ≡ ss

parts : (p q : Reading) (ss : List Bytes) → and_then p q ≡ strings ss → Parts p q ss
parts nothing q ss h = not_strings refl h
parts again q ss h = not_again refl h
parts (strings us) nothing ss h = not_strings refl h
parts (strings us) again ss h = not_again refl h
parts (strings us) (strings vs) ss h = record { front = us; back = vs; left = refl; right = refl; whole = cc }

leaves : (look : Bytes → Reading) (e : E) (ss : List Bytes) → read_in look e ≡ strings ss → Leaves e
leaves look (lit k w) ss h = last
leaves look (fixed f) ss h = not_strings refl h
leaves look (skip us) ss h = not_strings refl h
leaves look (un u e) ss h = not_strings refl h
leaves look (bin Seq l r) ss h = not_strings refl h
leaves look (bin Choice (lit k w) r) ss h = let x = parts (read_lit look k w) (read_in look r) ss h in more (leaves look r x.back x.right)
leaves look (bin Choice (fixed f) r) ss h = not_strings refl h
leaves look (bin Choice (skip us) r) ss h = not_strings refl h
leaves look (bin Choice (un u e) r) ss h = not_strings refl h
leaves look (bin Choice (bin b x y) r) ss h = not_strings refl h

-- a rewrite that leaves each node of such an expression
record Still (f : E → E) : Type 0 where
  at_last : (k : Lit) (w : Bytes) → f (lit k w) ≡ lit k w
  at_more : (k : Lit) (w : Bytes) (e : E) → f (bin Choice (lit k w) e) ≡ bin Choice (lit k w) e

still : {f : E → E} → Still f → (n : ℕ) {e : E} → Leaves e → top_down_in n f e ≡ e
still h zero l = refl
still {f} h (suc n) (last {k} {w}) = ap (children (top_down_in n f)) (h.at_last k w)
still {f} h (suc n) (more {k} {w} {e} l) = ap (children (top_down_in n f)) (h.at_more k w e) ∙ ap₂ (bin Choice) (still h n last) (still h n l)

rotate_still : (e : E) → Leaves e → rotate e ≡ e
unfolding rotate
rotate_still e l = still (record { at_last = λ k w. refl; at_more = λ k w e. refl }) (size e) l

skip_still : (given : Table Bytes) (y : ℕ) (e : E) → Leaves e → skip_to given y e ≡ e
unfolding skip_to
skip_still given y e l = go (is_atomic y)
  where
    go : (b : Bool) → cond b (top_down_in (size e) (or_same (skip? given)) e) e ≡ e
    go true = still (record { at_last = λ k w. refl; at_more = λ k w e. refl }) (size e) l
    go false = refl

-- `Sees given t`: t has, under its name, each rule of the given table that a list can be read of
abbrev Sees : Table Bytes → Table Bytes → Type 0
Sees given t = (x : Bytes) (e : E) → find given x ≡ some e → Leaves e → find t x ≡ some e

sees : {t u : Table Bytes} → Pairs (λ a b. Leaves a → b ≡ a) t u → Sees t u
sees ps x e h l = let q = partner ps x e h in q.found ∙ ap some (q.related l)

loop_is : (e y : E) → loop_over e ≡ some y → e ≡ un Rep (bin Seq (un NegPred y) (lit Ident ANY))
unfolding loop_over
loop_is e y h =
    bind_case (as_rep e) _ y h λ a f₀ g₀.
    bind_case (as_seq a) _ y g₀ λ q f₁ g₁.
    bind_case (as_neg_pred q.0) _ y g₁ λ b f₂ g₂.
    bind_case (as_ident q.1) _ y g₂ λ z f₃ g₃.
    bind_case (test (same_bytes z ANY)) _ y g₃ λ u f₄ g₄.
    let k : z ≡ ANY = same_bytes_eq z ANY (test_true (same_bytes z ANY) u f₄) in
    let v : b ≡ y = some_eq b y g₄ in
    cc (as_rep_is e a f₀, as_seq_is a q f₁, as_neg_pred_is q.0 b f₂, lit_at_is Ident q.1 z f₃)

within_none : (o : Option ℕ) (p : ℕ) → passes (within 1 0) o p ≡ fail
within_none none p = refl
within_none (some zero) p = refl
within_none (some (suc b)) p = rw (leb-suc-zero b) (go (leb 1 (suc b)))
  where
    go : (x : Bool) → cond (x && false) (ok (suc p)) fail ≡ fail
    go true = refl
    go false = refl

module _ {t : Table Bytes} {s : Bytes} where
  none_matches : {p : ℕ} → Out t s (one_of []) p fail
  none_matches {p} = range (within_none (get_elem? s p) p)

  first_to : {e : E} {p : ℕ} {r : Res} → Out t s (bin Choice (one_of []) e) p r → Out t s e p r
  first_to (choice_ok d) = never none_matches d
  first_to (choice_no d f) = f

  last_to : {e : E} {p : ℕ} {r : Res} → Out t s (bin Choice e (one_of [])) p r → Out t s e p r
  last_to (choice_ok d) = d
  last_to (choice_no d f) = result (det none_matches f) d

  last_from : {e : E} {p : ℕ} {r : Res} → Out t s e p r → Out t s (bin Choice e (one_of [])) p r
  last_from {r = fail} d = choice_no d none_matches
  last_from {r = ok m} d = choice_ok d

  one_of_append : (us vs : List Bytes) → Same t s (bin Choice (one_of us) (one_of vs)) (one_of (us ++ vs))
  one_of_append [] vs = record { to = first_to; from = choice_no none_matches }
  one_of_append (u ∷ []) [] = record { to = last_to; from = last_from }
  one_of_append (u ∷ []) (v ∷ vs) = same
  one_of_append (u ∷ w ∷ us) vs = grouping Choice ∘ bin_same same (one_of_append (w ∷ us) vs)

  call_to : {x : Bytes} {e : E} {p : ℕ} {r : Res} → same_bytes x ANY ≡ false → find t x ≡ some e → Out t s (lit Ident x) p r → Out t s e p r
  call_to a l (any b h) = absurd (true≢false (sym b ∙ a))
  call_to {x} {e} {p} {r} a l (call b k d) = subst (λ (y : E). Out t s y p r) (cc) d

  pub name_same : {x : Bytes} {e : E} → same_bytes x ANY ≡ false → find t x ≡ some e → Same t s (lit Ident x) e
  name_same a l = record { to = call_to a l; from = call a l }

  -- A list that was read stands for what it was read of, if that holds of each name
  module _ (look : Bytes → Reading) (names : (x : Bytes) (ss : List Bytes) → look x ≡ strings ss → Same t s (lit Ident x) (one_of ss)) where
    lit_read : (k : Lit) (w : Bytes) (ss : List Bytes) → read_lit look k w ≡ strings ss → Same t s (lit k w) (one_of ss)
    lit_read Str w ss h = let q : w ∷ [] ≡ ss = cc in equal (ap one_of q)
    lit_read Insens w ss h = not_strings refl h
    lit_read Ident w ss h = names w ss h

    read_same : {e : E} → Leaves e → (ss : List Bytes) → read_in look e ≡ strings ss → Same t s e (one_of ss)
    read_same (last {k} {w}) ss h = lit_read k w ss h
    read_same (more {k} {w} {e} l) ss h =
        let x = parts (read_lit look k w) (read_in look e) ss h in
        bin_same (lit_read k w x.front x.left) (read_same l x.back x.right) ∘ one_of_append x.front x.back ∘ equal (ap one_of x.whole)

  unskip : {ss : List Bytes} {p : ℕ} {r : Res} → Out t s (skip ss) p r → Out t s (loop_of ss) p r
  unskip (skips d) = d

  -- in a table that sees the given one, where no rule is named ANY
  module _ (given : Table Bytes) (plain : (x : Bytes) (e : E) → find given x ≡ some e → same_bytes x ANY ≡ false) (seen : Sees given t) where
    name_read : (n : ℕ) (opened : List Bytes) (x : Bytes) (ss : List Bytes) → read_name n given opened x ≡ strings ss → Same t s (lit Ident x) (one_of ss)
    unfolding same_bytes
    name_read zero opened x ss h = not_again refl h
    name_read (suc n) opened x ss h = go (read_name n given (x ∷ opened)) (name_read n (x ∷ opened)) (find given x) refl (member x opened) h
      where
        go : (look : Bytes → Reading) → ((y : Bytes) (us : List Bytes) → look y ≡ strings us → Same t s (lit Ident y) (one_of us)) → (o : Option E) → find given x ≡ o → (b : Bool) → read_found o b (read_in look) ≡ strings ss → Same t s (lit Ident x) (one_of ss)
        go look ih none q b k = not_strings refl k
        go look ih (some e) q true k = not_again refl k
        go look ih (some e) q false k = let l = leaves look e ss k in name_same (plain x e q) (seen x e q l) ∘ read_same look ih l ss k

    list_read : (e : E) (ss : List Bytes) → as_strings (skip_list given e) ≡ some ss → Same t s e (one_of ss)
    unfolding skip_list
    list_read e ss h = go (skip_list given e) refl h
      where
        look : Bytes → Reading
        look = read_name (suc (length given)) given []

        go : (r : Reading) → read_in look e ≡ r → as_strings r ≡ some ss → Same t s e (one_of ss)
        go nothing q k = none_some k
        go again q k = none_some k
        go (strings us) q k = let v : us ≡ ss = some_eq us ss k in read_same look (name_read (suc (length given)) []) (leaves look e us q) us q ∘ equal (ap one_of v)

    skip?-same : (e x : E) → skip? given e ≡ some x → Same t s e x
    unfolding skip?
    skip?-same e x h =
        bind_case (loop_over e) _ x h λ y f g.
        bind_case (as_strings (skip_list given y)) _ x g λ ss k w.
        equal (loop_is e y f) ∘ un_same (bin_same (un_same (list_read y ss k)) same) ∘ record { to = skips; from = unskip } ∘ equal (some_eq (skip ss) x w)

    skip_same : (y : ℕ) (e : E) → Same t s e (skip_to given y e)
    unfolding skip_to
    skip_same y e = cond_same (is_atomic y) (top_down_same (or_same_same (skip? given) skip?-same) (size e) e)

-- Step 2 as it stands in the chain
module _ (given : Table Bytes) (plain : (x : Bytes) (e : E) → find given x ≡ some e → same_bytes x ANY ≡ false) where
  abbrev turned : Table Bytes
  turned = each (λ _. rotate) given

  seen_before : Sees given turned
  seen_before = sees (each_pairs (λ _. rotate) (λ y e x. rotate_still e) given (anything given))

  seen_after : Sees given (each (skip_to given) turned)
  seen_after x e h l = sees (each_pairs (skip_to given) (λ y e x. skip_still given y e) turned (anything turned)) x e (seen_before x e h l) l

  pub skip_keeps : (s : Bytes) → Keeps turned (each (skip_to given) turned) s
  skip_keeps s =
      lifted (each_pairs (skip_to given) (λ y e x. record { before = skip_same given plain seen_before y e; after = skip_same given plain seen_after y e }) turned (anything turned))
