-- The entry of a handle in one page, and where it stands behind the compaction of a page: definitions and laws. Assumes nothing.
use Rattle.std.specs.Prelude.{◌≡◌, refl, cond, ℕ, ◌+◌, ◌-◌, ◌≤◌, ◌<◌, get_or, take, Option, Some, None}
use Rattle.std.proofs.Math.Path.{ap}
use Rattle.std.proofs.Common.{sym, ◌∙◌, arith, length-take}
use mathlib.Core.List.{List, [], ◌∷◌, ◌++◌}
use Rattle.std.proofs.Math.Bool.{true, false}
use Rattle.std.proofs.Math.ListN.{length}
use borrow.Author.Tests.{eq-eqb, ne_eqb}
use Rattle.flash.specs.declared.Power.{Power}
use Rattle.flash.specs.Stores.{Words, Store, puts, made, Step, ◌then◌, Ran}
use Rattle.flash.specs.Laws.{ran_then}
use Rattle.rules.specs.declared.Area.{Area}
use Rattle.rules.specs.Words.{handle_of, header, seal}
use Rattle.rules.specs.Walk.{entry_length, stop}
use Rattle.rules.specs.Areas.{base, page, Entry, page_entries, entries, live_of, find, ready}
use Rattle.rules.specs.Lists.{compact, append}
use Rattle.rules.specs.Places.{Right, base_in, right_passes}
use Rattle.demands.specs.Compacting.{found_packed}
use Rattle.pages.specs.Steps.{length_at, entries_at, entry_at, data_words_length, entries_on, entries_end}
use Rattle.entries.specs.Ahead.{found_of, find_dead, page_onward}
use Rattle.stores.specs.Making.{base_small, run_small, page_ends, data_words, bare_found, bare_words, found_bare}
use Rattle.rules.specs.declared.Found.{Found}
use Rattle.std.specs.Option.{option_or}

-- ---- a search for the live entry of a handle in a page has come to a place, o being what it will find
pub record Locating (h : ℕ) (p : List ℕ) (o : Option Entry) (at : ℕ) : Type 0 where
  pub same : find h (entries_at p at) ≡ o

pub locating_start : {h : ℕ} {p : List ℕ} {at : ℕ} → Locating h p (find h (entries_at p at)) at
locating_start = record { same = refl }

module _ {h : ℕ} {p : List ℕ} {o : Option Entry} {at n : ℕ} (s : Locating h p o at) (e : n ≡ length_at p at) where
  pub locating_end : n ≡ 0 → None ≡ found_of o
  locating_end z = ap (λ (es : List Entry). found_of (find h es)) (sym (entries_end p at e z)) ∙ ap found_of s.same

  module _ {k : ℕ} (z : n ≡ 0 → ⊥) (y : h ≡ 0 → ⊥) (q : k ≡ handle_of (get_or p at 0)) where
    here : cond (live_of h (entry_at p at n)) (Some (entry_at p at n)) (find h (entries_at p (at + n))) ≡ o
    here = ap (find h) (sym (entries_on p at n e z)) ∙ s.same

    pub locating_hit : k ≡ h → Some (record { place = at; words = n - 1 }) ≡ found_of o
    unfolding entry_at
    locating_hit r =
        let t : live_of h (entry_at p at n) ≡ true = rw (← q, r, ne_eqb h 0 y, eq-eqb h h refl) in
        let l : n - 1 ≡ length (entry_at p at n).words = omega (arith, data_words_length p at n e z) in
        ap (λ (m : ℕ). Some (record { place = at; words = m })) l ∙ ap found_of (rw t at here)

    pub locating_on : (k ≡ h → ⊥) → Locating h p o (at + n)
    unfolding entry_at
    locating_on r =
        let t : live_of h (entry_at p at n) ≡ false = rw (← q, ne_eqb h 0 y, ne_eqb k h r) in
        record { same = rw t at here }

-- ---- of a page in the run
module _ {run : List ℕ} (r : Option Found) (b : ℕ) (a : Area) (f : List ℕ) (i : ℕ) (w : run ≡ take (b + a.words) f) where
  pub found_in : (h : ℕ) → r ≡ found_of (find h (entries_at run (b + 2))) → b ≡ base a i → Right a f → i < a.pages → r ≡ found_of (find h (page_entries a f i))
  found_in h e q g l =
      e ∙ rw (w, q) (ap (λ (es : List Entry). found_of (find h es)) (sym (page_onward a f i (base_in g i (omega arith)))))

  pub found_short : data_words r ≤ length run → Right a f → data_words r ≤ 262144
  found_short l g = omega (arith, ap length w, length-take (b + a.words) f, run_small g)

-- ---- behind a compaction
-- what is found in the page compacted, or else what was found before, has no more words than each
pub either_short : {q : Option Found} {n : ℕ} (r before : Option Found) → q ≡ option_or r before → data_words r ≤ n → data_words before ≤ n → data_words q ≤ n
either_short {q} {n} r before e x y = go r refl
  where
    go : (o : Option Found) → r ≡ o → data_words q ≤ n
    go None z = rw (e, z) y
    go (Some d) z = rw (e, z) (rw z at x)

-- an entry behind the others of a page, and the header of one that was found to its bare length
unfoldable pub append_over : Area → ℕ → List ℕ → ℕ → Option Found → Step
append_over a h d i old f = puts (base a i + stop (page a f i)) (header h (entry_length d) ∷ (d ++ seal ∷ [])) ++ bare_found old

pub over_found : {old : Option Found} {p q : Power} {g : List ℕ} (a : Area) (h : ℕ) (d : List ℕ) (i : ℕ) (f : List ℕ) → old ≡ found_of (find h (entries a f))
    → Ran (append_over a h d i old f) p f q g → Ran (append a h d i f) p f q g
unfolding append_over
over_found a h d i f e x = rw (e, found_bare (find h (entries a f))) at x

found_else : (o p : Option Entry) → found_of (option_or o p) ≡ option_or (found_of o) (found_of p)
found_else None p = refl
found_else (Some e) p = refl

module _ {a : Area} {f : List ℕ} {i : ℕ} (h : ℕ) (d : List ℕ) (w : Words f) (y : Right a f) (e : ready a f ≡ true) (l : i < a.pages) where
  -- the stores behind it, by the entry found before
  abbrev onward : Step
  onward g = append_over a h d i (option_or (found_of (find h (page_entries a g i))) (found_of (find h (entries a f)))) g

  abbrev packed : List ℕ
  packed = made (compact a i f) f

  onward_is : onward packed ≡ append a h d i packed
  unfolding append_over
  onward_is =
      let own = find h (page_entries a packed i) in
      let old = find h (entries a f) in
      let k : bare_found (option_or (found_of own) (found_of old)) ≡ bare_found (found_of (find h (entries a packed))) =
      ap bare_found (sym (found_else own old) ∙ ap found_of (sym (found_packed (record { words = w; right = right_passes y }) e i l h))) in
      ap (λ (ss : List Store). puts (base a i + stop (page a packed i)) (header h (entry_length d) ∷ (d ++ seal ∷ [])) ++ ss) (k ∙ found_bare (find h (entries a packed)))

  then_onward : {p q r : Power} {g k : List ℕ} → Ran (compact a i f) p f q g → Ran (onward g) q g r k → Ran ((compact a i then append a h d i) f) p f r k
  then_onward x z = rw onward_is at (ran_then (compact a i) onward x z)

pub over_compacted : {p q r : Power} {f g k : List ℕ} {a : Area} {i : ℕ} {old before : Option Found} (h : ℕ) (d : List ℕ) → Ran (append_over a h d i old g) q g r k → Ran (compact a i f) p f q g
    → old ≡ option_or (found_of (find h (page_entries a g i))) before → before ≡ found_of (find h (entries a f)) → Words f → Right a f → ready a f ≡ true → i < a.pages
    → Ran ((compact a i then append a h d i) f) p f r k
over_compacted h d z x m b w y e l = then_onward h d w y e l x (rw (m, b) at z)

pub ruleset seeks = (locating_start, locating_end, locating_hit, locating_on, find_dead)

pub ruleset moves = (page_ends, found_in, found_short, base_small, either_short, bare_words)
