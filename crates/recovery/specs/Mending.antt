-- The mending of a torn page: what it finds of the last entry, what a loop over the entries has come to, and the stores, from what a function
-- has found and stored. Definitions and laws. Assumes nothing.
use Rattle.std.specs.Prelude.{◌≡◌, refl, List, [], ◌∷◌, ◌++◌, Bool, true, false, cond, ℕ, suc, ◌+◌, ◌-◌, ◌≤◌, ◌<◌, length, get_or, take, drop, eqb, Option, Some, None}
use Rattle.std.proofs.Common.{sym, ap, ◌∙◌, arith, length-take, length-drop, length-take-le, eq-eqb, ne_eqb}
use Rattle.flash.specs.declared.Power.{Power}
use Rattle.flash.specs.Stores.{put, Ran}
use Rattle.flash.specs.Laws.{ran_none, ran_append, ran_length, turn_start, turn_on, turn_end}
use Rattle.rules.specs.declared.Area.{Area}
use Rattle.rules.specs.declared.Kind.{Kind}
use Rattle.rules.specs.declared.Kind.TheVariants.{Sealed, Torn, Neither}
use Rattle.rules.specs.Words.{handle_of, is_live, seal}
use Rattle.rules.specs.Walk.{stop}
use Rattle.rules.specs.Areas.{base, page, kind, Entry, page_entries}
use Rattle.rules.specs.Lists.{bare_if, last_of, bare_if_live, mend_as, mend}
use Rattle.rules.specs.Places.{Right, right_ran, base_in}
use Rattle.pages.specs.Steps.{length_at, entries_at, entry_at, length_inside, entries_on, entries_end}
use Rattle.entries.specs.Ahead.{found_of, page_onward}
use Rattle.stores.specs.Making.{page_ends, bare_found, found_bare}
use Rattle.rules.specs.declared.Found.{Found}

-- an entry, if it is live
abbrev pub if_live : Option Entry → Option Entry
if_live None = None
if_live (Some e) = cond (is_live e.handle) (Some e) None

-- ---- a search for the last entry has come to a place, and remembers the entry of n words at another; none, if n is 0
abbrev pub seen : List ℕ → ℕ → ℕ → List Entry
seen p place n = cond (eqb n 0) [] (entry_at p place n ∷ [])

pub record Passing (p : List ℕ) (start place n at : ℕ) : Type 0 where
  pub same : last_of (seen p place n ++ entries_at p at) ≡ last_of (entries_at p start)
  pub inside : n ≤ length p - place - 1

pub passing_start : {p : List ℕ} {start : ℕ} → Passing p start start 0 start
passing_start = record { same = refl; inside = omega arith }

-- what stands in front of an entry does not matter
seen_behind : (p : List ℕ) (place n : ℕ) (e : Entry) (es : List Entry) → last_of (seen p place n ++ (e ∷ es)) ≡ last_of (e ∷ es)
seen_behind p place n e es = go (eqb n 0) refl
  where
    go : (b : Bool) → eqb n 0 ≡ b → last_of (seen p place n ++ (e ∷ es)) ≡ last_of (e ∷ es)
    go true q = rw q
    go false q = rw q

data_words_length : (p : List ℕ) (at n : ℕ) → n ≤ length p - at - 1 → length (entry_at p at n).words ≡ n - 1
unfolding entry_at
data_words_length p at n h = length-take-le (n - 1) (drop (suc at) p) (omega (arith, length-drop (suc at) p))

module _ {p : List ℕ} {start place n at m : ℕ} (s : Passing p start place n at) (e : m ≡ length_at p at) where
  pub passing_on : (m ≡ 0 → ⊥) → Passing p start at m (at + m)
  passing_on z =
      record {
        same = rw (ne_eqb m 0 z) (sym (seen_behind p place n (entry_at p at m) (entries_at p (at + m))) ∙ rw (← entries_on p at m e z) s.same);
        inside = omega (arith, length_inside p at);
      }

  passed : m ≡ 0 → last_of (seen p place n ++ []) ≡ last_of (entries_at p start)
  passed z = rw (entries_end p at e z) at s.same

  pub last_none : m ≡ 0 → n ≡ 0 → None ≡ found_of (if_live (last_of (entries_at p start)))
  last_none z y = ap (λ (o : Option Entry). found_of (if_live o)) (rw (eq-eqb n 0 y) at (passed z))

  module _ {h : ℕ} (z : m ≡ 0) (y : n ≡ 0 → ⊥) (q : h ≡ handle_of (get_or p place 0)) where
    last_seen : found_of (cond (is_live h) (Some (entry_at p place n)) None) ≡ found_of (if_live (last_of (entries_at p start)))
    unfolding entry_at
    last_seen = rw q (ap (λ (o : Option Entry). found_of (if_live o)) (rw (ne_eqb n 0 y) at (passed z)))

    pub last_dead : h ≡ 0 → None ≡ found_of (if_live (last_of (entries_at p start)))
    last_dead d = rw (eq-eqb h 0 d) at last_seen

    pub last_live : (h ≡ 0 → ⊥) → Some (record { place = place; words = n - 1 }) ≡ found_of (if_live (last_of (entries_at p start)))
    unfolding entry_at
    last_live d = rw (← data_words_length p place n s.inside) (rw (ne_eqb h 0 d) at last_seen)

pub ruleset passes = (passing_start, passing_on, last_none, last_dead)

-- ---- the store of an entry that is live
live_bare : (o : Option Entry) → bare_if (if_live o) ≡ bare_if_live o
live_bare None = refl
live_bare (Some e) = go (is_live e.handle) refl
  where
    go : (b : Bool) → is_live e.handle ≡ b → bare_if (if_live (Some e)) ≡ bare_if_live (Some e)
    go true q = rw q
    go false q = rw q

-- ---- the stores of a torn page, which begins at the place b
module _ {a : Area} {f : List ℕ} {b : ℕ} (w : Right a f) where
  pub words_counted : {part : List ℕ} {n : ℕ} → part ≡ take (b + a.words) f → n ≤ length part → b ≤ 261120 → n ≤ 262144
  words_counted d h l = let m = w.narrow in omega (arith, ap length d, length-take (b + a.words) f)

  pub torn_mended : {g h part own : List ℕ} {i n : ℕ} {found : Option Found} {p q r : Power} → b ≡ base a i → i < a.pages → part ≡ take (b + a.words) f
      → found ≡ found_of (if_live (last_of (entries_at part (b + 2)))) → own ≡ page a f i → n ≡ stop own
      → Ran (bare_found found) p f q g → Ran (put (b + n) seal ∷ []) q g r h → Ran (mend_as Torn a i f) p f r h
  torn_mended {i = i} c l d e o s x y =
      let u : page_entries a f i ≡ entries_at (take (base a i + a.words) f) (base a i + 2) = page_onward a f i (base_in w i (omega arith)) in
      rw (← live_bare (last_of (page_entries a f i)), ← found_bare (if_live (last_of (page_entries a f i))), u, ← c, ← d, ← e, ← o, ← s) (ran_append x y)

-- ---- of any page, by its kind
module _ {k : Kind} (a : Area) (f : List ℕ) (i : ℕ) (e : k ≡ kind a f i) where
  pub mend_sealed : {p : Power} → k ≡ Sealed → Ran (mend a i f) p f p f
  mend_sealed {p} t = rw (← e, t) (ran_none p f)

  pub mend_torn : {p q : Power} {g : List ℕ} → k ≡ Torn → Ran (mend_as Torn a i f) p f q g → Ran (mend a i f) p f q g
  mend_torn t x = rw (← e, t) x

  pub mend_neither : {p : Power} → k ≡ Neither → Ran (mend a i f) p f p f
  mend_neither {p} t = rw (← e, t) (ran_none p f)

pub ruleset mends = (turn_start, turn_on, turn_end, right_ran, ran_length, page_ends, words_counted, torn_mended, mend_sealed, mend_torn, mend_neither)
