-- Demand 3: requests, each cut, recovered and asked again any number of times, leave an area that stands with all changes made, and their
-- answers are right; on handles that all differ their order does not matter. Assumes nothing.
use Rattle.std.specs.Prelude.{◌≡◌, refl, Bool, true, false, ◌≢◌, ℕ, ◌+◌, ◌≤◌, length, eqb, None}
use Rattle.std.proofs.Common.{ap, ap₂, sym, ◌∙◌, subst, zero-le, arith, eqb-true, le-leb}
use Rattle.std.proofs.Math.Path.{fun_ext}
use mathlib.Core.List.{List, Permᴰ}
use Rattle.std.proofs.Math.Logic.{Ne-symm}
use Rattle.flash.specs.Stores.{Store, made}
use Rattle.flash.specs.Laws.{first_all, first_nil}
use Rattle.rules.specs.declared.Area.{Area}
use Rattle.rules.specs.Refusals.{area_quota, list, outcome_of, Answer}
use Rattle.rules.specs.Lists.{Request, delete}
use Rattle.demands.specs.Terms.{Proper, handle_in, data_in, new_words, Map, changed, changed_all, new_words_all, was_cut, run, Tried, untried, and_tried, Carried, uncut, CarriedAll, no_more, and_then, ProperAll, Others, AllDiffer, Fine, FineAll}
use Rattle.demands.specs.Settled.{Stands}
use Rattle.demands.specs.Requests.{stands_as, uncut_list, Planned, stores, absent, no_stores, nothing_found, Left, as_before, changed_already, plans, leaves}

-- ---- changes of maps
-- to give none to a handle that has none changes nothing
changed_none : (r : Request) (m : Map) → data_in r ≡ None → m (handle_in r) ≡ None → (u : ℕ) → m u ≡ changed r m u
changed_none r m d e u = go (eqb u (handle_in r)) refl
  where
    go : (b : Bool) → eqb u (handle_in r) ≡ b → m u ≡ changed r m u
    go true q = rw (q, eqb-true u (handle_in r) q, d) e
    go false q = rw q

-- changes of two handles may change places
changed_swap : (r q : Request) (m : Map) → handle_in q ≢ handle_in r → (u : ℕ) → changed q (changed r m) u ≡ changed r (changed q m) u
changed_swap r q m e u = go (eqb u (handle_in q)) (eqb u (handle_in r)) refl refl
  where
    go : (b c : Bool) → eqb u (handle_in q) ≡ b → eqb u (handle_in r) ≡ c → changed q (changed r m) u ≡ changed r (changed q m) u
    go true true x y = absurd (e (sym (eqb-true u (handle_in q) x) ∙ eqb-true u (handle_in r) y))
    go true false x y = rw (x, y)
    go false true x y = rw (x, y)
    go false false x y = rw (x, y)

-- ---- permutations of requests
perm_others : (h : ℕ) {rs qs : List Request} → Permᴰ rs qs → Others h rs → Others h qs
perm_others h Permᴰ.nil o = tt
perm_others h (Permᴰ.cons e p) o = (rw e at o.0, perm_others h p o.1)
perm_others h (Permᴰ.swap e d) o = (rw d at o.1.0, (rw e at o.0, o.1.1))
perm_others h (Permᴰ.trans p q) o = perm_others h q (perm_others h p o)

perm_differ : {rs qs : List Request} → Permᴰ rs qs → AllDiffer rs → AllDiffer qs
perm_differ Permᴰ.nil o = tt
perm_differ (Permᴰ.cons {a = a} e p) o = (rw e at (perm_others (handle_in a) p o.0), perm_differ p o.1)
perm_differ (Permᴰ.swap {l = l} e d) o =
    let away : Request → Type 0 = λ r. Others (handle_in r) l in
    ((rw (e, d) at (Ne-symm o.0.0), subst away d o.1.0), (subst away e o.0.1, o.1.1))
perm_differ (Permᴰ.trans p q) o = perm_differ q (perm_differ p o)

perm_proper : {rs qs : List Request} → Permᴰ rs qs → ProperAll rs → ProperAll qs
perm_proper Permᴰ.nil o = tt
perm_proper (Permᴰ.cons e p) o = (subst Proper e o.0, perm_proper p o.1)
perm_proper (Permᴰ.swap e d) o = (subst Proper d o.1.0, (subst Proper e o.0, o.1.1))
perm_proper (Permᴰ.trans p q) o = perm_proper q (perm_proper p o)

perm_words : {rs qs : List Request} → Permᴰ rs qs → new_words_all rs ≡ new_words_all qs
perm_words Permᴰ.nil = refl
perm_words (Permᴰ.cons e p) = ap₂ ◌+◌ (ap new_words e) (perm_words p)
perm_words (Permᴰ.swap e d) =
    let x = ap new_words e in
    let y = ap new_words d in
    omega arith
perm_words (Permᴰ.trans p q) = perm_words p ∙ perm_words q

-- on handles that all differ the order does not matter to the map
all_changes : (rs qs : List Request) → Permᴰ rs qs → AllDiffer rs → (m : Map) (u : ℕ) → changed_all rs m u ≡ changed_all qs m u
all_changes _ _ Permᴰ.nil o m u = refl
all_changes _ _ (Permᴰ.cons {a = a} {l₁ = l₁} {l₂ = l₂} e p) o m u =
    all_changes l₁ l₂ p o.1 (changed a m) u ∙ ap (λ (r : Request). changed_all l₂ (changed r m) u) e
all_changes _ _ (Permᴰ.swap {a = a} {b = b} {l = l} e d) o m u =
    ap (λ (k : Map). changed_all l k u) (fun_ext (changed_swap a b m o.0.0))
    ∙ ap₂ (λ (r q : Request). changed_all l (changed r (changed q m)) u) e d
all_changes _ _ (Permᴰ.trans {l₁ = l₁} {l₂ = l₂} {l₃ = l₃} p q) o m u = all_changes l₁ l₂ p o m u ∙ all_changes l₂ l₃ q (perm_differ p o) m u

-- ---- answers
-- all stores of a list made
list_stands : (a : Area) (r : Request) (k : Map) (n l : ℕ) (f : List ℕ) (ss : List Store) → Stands a k n (made ss f) → length ss ≤ l
    → Stands a k n (outcome_of (list ss) l f).flash × Fine r (outcome_of (list ss) l f).answer
list_stands a r k n l f ss s h = rw (le-leb (length ss) l h, first_all l ss f h) (s, tt)

-- a delete of what is not there makes its change by doing nothing
absent_stands : (a : Area) (r : Request) (m : Map) (n : ℕ) (f : List ℕ) → Stands a m n f → r ≡ delete (handle_in r) → m (handle_in r) ≡ None
    → Stands a (changed r m) (n + new_words r) f
absent_stands a r m n f s e d =
    let w = ap new_words e in
    let l = s.live in
    record {
      given = s.given;
      ready = s.ready;
      map = λ u. s.map u ∙ changed_none r m (ap data_in e) d u;
      live = omega arith;
    }

module _ (a : Area) where
  -- a request that is not cut makes its change
  uncut_stands : (r : Request) (m : Map) (n : ℕ) (f : List ℕ) → Stands a m n f → Planned a r m n f → (k : ℕ) → was_cut (run a r k f).answer ≡ false
      → Stands a (changed r m) (n + new_words r) (run a r k f).flash × Fine r (run a r k f).answer
  uncut_stands r m n f s (stores ss e t) k c = rw e (list_stands a r (changed r m) (n + new_words r) k f ss t (uncut_list ss k f (rw e at c)))
  uncut_stands r m n f s (absent e d z) k c = rw e (absent_stands a r m n f s d z, (refl, d))

  -- a request, however often it is tried
  pub tried : (r : Request) (m : Map) (n : ℕ) (f : List ℕ) → Proper r → Left a r m n f → (g : List ℕ) → Tried a r f g → Left a r m n g
  tried r m n f p l _ untried = l
  tried r m n f p l g (and_tried {g = h} k v t) = tried r m n h p (leaves a r m n f p l k h v) g t

  -- and at last not cut
  left_stands : (r : Request) (m : Map) (n : ℕ) (f : List ℕ) → Proper r → n + new_words r ≤ area_quota a → Left a r m n f → (k : ℕ) → was_cut (run a r k f).answer ≡ false
      → Stands a (changed r m) (n + new_words r) (run a r k f).flash × Fine r (run a r k f).answer
  left_stands r m n f p q (as_before s) k c = uncut_stands r m n f s (plans a r m n f p s q) k c
  left_stands r m n f p q (changed_already s (no_stores e)) k c = rw e (rw (first_nil k f, le-leb 0 k zero-le) (s, tt))
  left_stands r m n f p q (changed_already s (nothing_found e d)) k c = rw e (s, (refl, d))

  carried : (r : Request) (m : Map) (n : ℕ) (f : List ℕ) → Proper r → Stands a m n f → n + new_words r ≤ area_quota a
      → (x : Answer) (g : List ℕ) → Carried a r f x g → Stands a (changed r m) (n + new_words r) g × Fine r x
  carried r m n f p s q _ _ (uncut {g = h} k t c) = left_stands r m n h p q (tried r m n f p (as_before s) h t) k c

  -- power enough there always is
  pub enough : (r : Request) (m : Map) (n : ℕ) (f : List ℕ) → Proper r → n + new_words r ≤ area_quota a → Left a r m n f
      → (s : ℕ) × ((k : ℕ) → s ≤ k → was_cut (run a r k f).answer ≡ false)
  enough r m n f p q (as_before s) = go (plans a r m n f p s q)
    where
      go : Planned a r m n f → (s : ℕ) × ((k : ℕ) → s ≤ k → was_cut (run a r k f).answer ≡ false)
      go (stores ss e t) = (length ss, λ k l. rw (e, le-leb (length ss) k l))
      go (absent e d z) = (0, λ k l. rw e)
  enough r m n f p q (changed_already s (no_stores e)) = (0, λ k l. rw (e, le-leb 0 k l))
  enough r m n f p q (changed_already s (nothing_found e d)) = (0, λ k l. rw e)

  -- several requests
  pub carried_all : (rs : List Request) (m : Map) (n : ℕ) (f : List ℕ) → ProperAll rs → Stands a m n f → n + new_words_all rs ≤ area_quota a
      → (xs : List Answer) (g : List ℕ) → CarriedAll a rs f xs g → Stands a (changed_all rs m) (n + new_words_all rs) g × FineAll rs xs
  carried_all _ m n f p s q _ _ no_more = let e : n + 0 ≡ n = omega arith in rw e (s, tt)
  carried_all _ m n f p s q _ h (and_then {r = r} {rs = rs} {g = g} {x = x} {xs = xs} c cs) =
      let e : n + (new_words r + new_words_all rs) ≡ n + new_words r + new_words_all rs = omega arith in
      let y = carried r m n f p.0 s (omega arith) x g c in
      let z = carried_all rs (changed r m) (n + new_words r) g p.1 y.0 (omega arith) xs h cs in
      rw e (z.0, (y.1, z.1))

  -- and in another order
  pub reordered : (rs qs : List Request) → Permᴰ rs qs → (m : Map) (n : ℕ) (f : List ℕ) → ProperAll rs → AllDiffer rs → Stands a m n f
      → n + new_words_all rs ≤ area_quota a → (xs : List Answer) (g : List ℕ) → CarriedAll a qs f xs g
      → Stands a (changed_all rs m) (n + new_words_all rs) g × FineAll qs xs
  reordered rs qs t m n f p o s q xs g c =
      let w = perm_words t in
      let y = carried_all qs m n f (perm_proper t p) s (omega arith) xs g c in
      (stands_as (λ u. sym (all_changes rs qs t o m u)) (omega arith) y.0, y.1)
