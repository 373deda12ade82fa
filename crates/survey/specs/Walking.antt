-- What a walk over entries gathers for a survey: definitions, and laws of what a loop over them has come to. Assumes nothing.
use Rattle.std.specs.Prelude.{◌≡◌, refl, List, [], ◌∷◌, ◌++◌, Bool, false, cond, ◌&&◌, ℕ, suc, ◌+◌, ◌-◌, ◌≤◌, length, get_or, take, drop, eqb, Option, Some, None}
use Rattle.std.specs.Bool.{then_some}
use Rattle.std.specs.Option.{option_or}
use Rattle.std.proofs.Math.Path.{sym}
use Rattle.std.proofs.Common.{ap, ◌∙◌, eqb-true, eq-eqb, ne_eqb, Fits}
use Rattle.std.proofs.Math.Bool.{true, not, and-true}
use native.Mathlib.Omega.{arith}
use Rattle.std.proofs.lemmas.Bool.{eqb-false}
use Rattle.std.specs.Int.{w64}
use Rattle.rules.specs.Words.{handle_of, is_live}
use Rattle.rules.specs.Walk.{Walked, items, stop}
use Rattle.rules.specs.Areas.{Entry, placed, live_of, find, live_words}
use Rattle.pages.specs.Steps.{length_at, walk_at, counted, Walking, walking_start, walking_on, walking_end, Counting, counting_start, counting_on, counting_end, counted_live, counted_dead, goes_on, data_words_length, at_header, stops}
use Rattle.entries.specs.declared.doubles.Seen.{Seen}
use Rattle.entries.specs.Ahead.{found_of}
use Rattle.entries.specs.Noting.{Kept, kept, marked, noted, unmarked, unnoted, is_noted, all_marked, all_noted, any_handle}
use Rattle.survey.specs.declared.walk.Walk.{Walk}
use Rattle.rules.specs.declared.Found.{Found}

-- ---- what is found first
-- what was found, or else x, if it passes
unfoldable pub or_if : {T : Type 0} → Option T → Bool → T → Option T
or_if o t x = option_or o (then_some t x)

pub or_none : {T : Type 0} (o : Option T) → option_or o None ≡ o
or_none (Some x) = refl
or_none None = refl

pub or_or : {T : Type 0} (o u v : Option T) → option_or (option_or o u) v ≡ option_or o (option_or u v)
or_or (Some x) u v = refl
or_or None u v = refl

pub or_passes : {T : Type 0} {r : Option T} {t : Bool} (o : Option T) (x : T) → t ≡ true → r ≡ option_or o (Some x) → r ≡ or_if o t x
unfolding or_if
or_passes o x q e = rw (q, e)

pub or_fails : {T : Type 0} {t : Bool} (o : Option T) (x : T) → t ≡ false → o ≡ or_if o t x
unfolding or_if
or_fails o x q = rw q (sym (or_none o))

pub ruleset firsts = (or_passes, or_fails)

-- an entry of so many data words at a place
abbrev pub kept_of : Option Found → Bool → ℕ → ℕ → Option Found
kept_of o t p n = or_if o t (record { place = p; words = n })

-- ---- entries are passed, one behind the other
-- the entries es are to be passed with a map m, a found entry o and s kept beside the map; ds are still ahead
pub record Gathering (h : ℕ) (es : List Entry) (m : List ℕ) (o : Option Found) (s : Kept) (ds : List Entry) (m' : List ℕ) (o' : Option Found) (s' : Kept) : Type 0 where
  pub map : all_marked any_handle m' ds ≡ all_marked any_handle m es
  pub found : option_or o' (found_of (find h ds)) ≡ option_or o (found_of (find h es))
  pub seen : all_noted any_handle m' s' ds ≡ all_noted any_handle m s es

pub gathering_start : (h : ℕ) (es : List Entry) (m : List ℕ) (o : Option Found) (s : Kept) → Gathering h es m o s es m o s
gathering_start h es m o s = record { map = refl; found = refl; seen = refl }

found_first : (t : Bool) (e : Entry) (o : Option Entry) → option_or (then_some t (record { place = e.place; words = length e.words })) (found_of o) ≡ found_of (cond t (Some e) o)
found_first true e o = refl
found_first false e o = refl

module _ {h : ℕ} {es : List Entry} {m : List ℕ} {o : Option Found} {s : Kept} {m' : List ℕ} {o' : Option Found} {s' : Kept} where
  gathering_on : {ds : List Entry} {m'' : List ℕ} {o'' : Option Found} {s'' : Kept} (e : Entry) → Gathering h es m o s (e ∷ ds) m' o' s' → m'' ≡ marked m' (is_live e.handle) e.handle
      → o'' ≡ option_or o' (then_some (live_of h e) (record { place = e.place; words = length e.words })) → s'' ≡ noted m' s' (is_live e.handle) e.handle → Gathering h es m o s ds m'' o'' s''
  gathering_on {ds} e g u v w =
      let a : is_noted any_handle e ≡ is_live e.handle = and-true (is_live e.handle) in
      let f : Option Found = then_some (live_of h e) (record { place = e.place; words = length e.words }) in
      record {
        map = rw (u, ← a) g.map;
        found = rw v (or_or o' f (found_of (find h ds)) ∙ ap (option_or o') (found_first (live_of h e) e (find h ds)) ∙ g.found);
        seen = rw (u, w, ← a) g.seen;
      }

-- some that stand together
found_append : (h : ℕ) (x y : List Entry) → option_or (found_of (find h x)) (found_of (find h y)) ≡ found_of (find h (x ++ y))
found_append h [] y = refl
found_append h (e ∷ x) y = go (live_of h e) (found_append h x y)
  where
    go : (b : Bool) → option_or (found_of (find h x)) (found_of (find h y)) ≡ found_of (find h (x ++ y))
        → option_or (found_of (cond b (Some e) (find h x))) (found_of (find h y)) ≡ found_of (cond b (Some e) (find h (x ++ y)))
    go true ih = refl
    go false ih = ih

marked_append : (m : List ℕ) (x y : List Entry) → all_marked any_handle (all_marked any_handle m x) y ≡ all_marked any_handle m (x ++ y)
marked_append m [] y = refl
marked_append m (e ∷ x) y = marked_append (marked m (is_noted any_handle e) e.handle) x y

noted_append : (m : List ℕ) (s : Kept) (x y : List Entry) → all_noted any_handle (all_marked any_handle m x) (all_noted any_handle m s x) y ≡ all_noted any_handle m s (x ++ y)
noted_append m s [] y = refl
noted_append m s (e ∷ x) y = noted_append (marked m (is_noted any_handle e) e.handle) (noted m s (is_noted any_handle e) e.handle) x y

pub gathering_some : {h : ℕ} {es : List Entry} {m : List ℕ} {o : Option Found} {s : Kept} (x : List Entry) {y : List Entry} {m' m'' : List ℕ} {o' o'' : Option Found} {s' s'' : Kept}
    → Gathering h es m o s (x ++ y) m' o' s' → m'' ≡ all_marked any_handle m' x → o'' ≡ option_or o' (found_of (find h x)) → s'' ≡ all_noted any_handle m' s' x → Gathering h es m o s y m'' o'' s''
gathering_some {h} x {y} {m'} {o' = o'} {s'} g u v w =
    record {
      map = rw u (marked_append m' x y ∙ g.map);
      found = rw v (or_or o' (found_of (find h x)) (found_of (find h y)) ∙ ap (option_or o') (found_append h x y) ∙ g.found);
      seen = rw (u, w) (noted_append m' s' x y ∙ g.seen);
    }

-- ---- the entries from a place of a page on, the page standing at the place b of the run
unfoldable pub entries_in : ℕ → List ℕ → ℕ → List Entry
entries_in b p at = placed (b + at) (walk_at p at).items

page_entries : (b : ℕ) (p : List ℕ) → entries_in b p 2 ≡ placed (b + 2) (items p)
unfolding entries_in walk_at items
page_entries b p = refl

entry_words : (p : List ℕ) (at n : ℕ) → n ≡ length_at p at → (n ≡ 0 → ⊥) → length (take (n - 1) (drop (suc at) p)) ≡ n - 1
entry_words p at n e z = omega (arith, data_words_length p at n e z)

module _ (b : ℕ) (p : List ℕ) (at n : ℕ) (e : n ≡ length_at p at) (z : n ≡ 0 → ⊥) where
  abbrev entry_in : Entry
  entry_in = record { place = b + at; handle = handle_of (get_or p at 0); words = take (n - 1) (drop (suc at) p) }

  entries_on : entries_in b p at ≡ entry_in ∷ entries_in b p (at + n)
  unfolding entries_in
  entries_on =
      let q : b + at + n ≡ b + (at + n) = omega arith in
      rw (goes_on p at n e z, (at_header p at n e z).1, data_words_length p at n e z, q)

entries_end : {n : ℕ} (b : ℕ) (p : List ℕ) (at : ℕ) → n ≡ length_at p at → n ≡ 0 → entries_in b p at ≡ []
unfolding entries_in
entries_end b p at e z = ap (λ (r : Walked). placed (b + at) r.items) (stops p at (sym e ∙ z))

-- ---- one entry of n words, where the walk w stands
-- it can be counted
pub record Standing (p : List ℕ) (b : ℕ) (w : Walk) (n : ℕ) : Type 0 where
  pub some : 1 ≤ n
  pub inside : w.stop + n ≤ length p
  pub below : w.live ≤ w.stop
  pub fits : Fits w64 (b + length p)

-- it is passed
pub record WalkedOn (p : List ℕ) (b h : ℕ) (v : Seen) (w : Walk) (n : ℕ) (r : Walk) (v' : Seen) : Type 0 where
  pub stop : r.stop ≡ w.stop + n
  pub own : ℕ
  pub handle : own ≡ handle_of (get_or p w.stop 0)
  pub count : ℕ
  pub counts : count ≡ counted own n
  pub small : count ≤ n
  pub live : r.live ≡ w.live + count
  pub found : r.found ≡ kept_of w.found (not (eqb h 0) && eqb own h) (b + w.stop) (n - 1)
  pub seen : kept v' ≡ noted v.map (kept v) (not (eqb own 0)) own
  pub map : v'.map ≡ marked v.map (not (eqb own 0)) own

-- handle 0000 is never the wanted one
never : (h : ℕ) → not (eqb h 0) && eqb 0 h ≡ false
never h = go (eqb h 0) refl
  where
    go : (t : Bool) → eqb h 0 ≡ t → not t && eqb 0 h ≡ false
    go true q = refl
    go false q = ne_eqb 0 h (λ r. eqb-false h 0 q (sym r))

always : (h k : ℕ) → (k ≡ 0 → ⊥) → not (eqb h 0) && eqb k h ≡ eqb k h
always h k z = go (eqb h 0) refl
  where
    go : (t : Bool) → eqb h 0 ≡ t → not t && eqb k h ≡ eqb k h
    go true q = sym (ne_eqb k h (λ r. z (r ∙ eqb-true h 0 q)))
    go false q = refl

module _ {p : List ℕ} {b h : ℕ} {v : Seen} {w : Walk} {n k : ℕ} (e : k ≡ handle_of (get_or p w.stop 0)) where
  -- invalidated
  pub walked_over : {o : Option Found} → k ≡ 0 → o ≡ w.found → WalkedOn p b h v w n (record { stop = w.stop + n; live = w.live; found = o }) v
  unfolding or_if
  walked_over z q =
      let d : not (eqb k 0) ≡ false = rw (eq-eqb k 0 z) in
      record {
        stop = refl;
        own = k;
        handle = e;
        count = 0;
        counts = counted_dead k n z;
        small = omega arith;
        live = omega arith;
        found = rw (z, never h) (q ∙ sym (or_none w.found));
        seen = unnoted (not (eqb k 0)) v.map k d (kept v);
        map = unmarked (not (eqb k 0)) v.map k d;
      }

  -- live
  pub walked_live : {o : Option Found} {v' : Seen} → (k ≡ 0 → ⊥) → o ≡ kept_of w.found (eqb k h) (b + w.stop) (n - 1) → kept v' ≡ noted v.map (kept v) true k → v'.map ≡ marked v.map true k
      → WalkedOn p b h v w n (record { stop = w.stop + n; live = w.live + n; found = o }) v'
  walked_live z o s q =
      record {
        stop = refl;
        own = k;
        handle = e;
        count = n;
        counts = counted_live k n z;
        small = omega arith;
        live = refl;
        found = rw (always h k z) o;
        seen = rw (ne_eqb k 0 z) s;
        map = rw (ne_eqb k 0 z) q;
      }

pub ruleset steps = (walked_over, walked_live)

-- ---- a page is walked
pub record Touring (p : List ℕ) (b h : ℕ) (v : Seen) (o : Option Found) (w : Walk) (v' : Seen) : Type 0 where
  pub walking : Walking p w.stop
  pub counting : Counting p w.stop w.live
  pub gathering : Gathering h (entries_in b p 2) v.map o (kept v) (entries_in b p w.stop) v'.map w.found (kept v')

-- it was
pub record Toured (p : List ℕ) (b h : ℕ) (v : Seen) (o : Option Found) (r : Walk) (v' : Seen) : Type 0 where
  pub stop : r.stop ≡ stop p
  pub inside : r.stop ≤ length p
  pub live : r.live ≡ live_words (placed 2 (items p))
  pub below : r.live ≤ length p
  pub found : r.found ≡ option_or o (found_of (find h (placed (b + 2) (items p))))
  pub seen : kept v' ≡ all_noted any_handle v.map (kept v) (placed (b + 2) (items p))
  pub map : v'.map ≡ all_marked any_handle v.map (placed (b + 2) (items p))

pub touring_start : {p : List ℕ} {b h : ℕ} {v : Seen} {o : Option Found} → 2 ≤ length p → Touring p b h v o (record { stop = 2; live = 0; found = o }) v
touring_start {p} {b} {h} {v} {o} l = record { walking = walking_start l; counting = counting_start l; gathering = gathering_start h (entries_in b p 2) v.map o (kept v) }

module _ {p : List ℕ} {b h : ℕ} {v : Seen} {o : Option Found} {w : Walk} {v' : Seen} (t : Touring p b h v o w v') where
  pub tour_inside : w.stop ≤ length p
  tour_inside = t.walking.inside

  module _ {n : ℕ} (e : n ≡ length_at p w.stop) where
    pub touring_end : n ≡ 0 → Toured p b h v o w v'
    touring_end z =
        let i = t.walking.inside in
        let c = t.counting.below in
        let g = t.gathering in
        let d = entries_end b p w.stop e z in
        record {
          stop = walking_end t.walking e z;
          inside = i;
          live = counting_end t.counting e z;
          below = omega arith;
          found = sym (or_none w.found) ∙ rw (d, page_entries b p) at g.found;
          seen = rw (d, page_entries b p) at g.seen;
          map = rw (d, page_entries b p) at g.map;
        }

    pub standing : (n ≡ 0 → ⊥) → Fits w64 (b + length p) → Standing p b w n
    standing z h = record { some = omega arith; inside = (walking_on t.walking e z).inside; below = t.counting.below; fits = h }

    pub touring_on : (n ≡ 0 → ⊥) → {r : Walk} {v'' : Seen} → WalkedOn p b h v' w n r v'' → Touring p b h v o r v''
    unfolding or_if
    touring_on z x =
        let g = rw (entries_on b p w.stop n e z) at t.gathering in
        let q = x.handle in
        let i : Walking p (w.stop + n) = walking_on t.walking e z in
        let c : Counting p (w.stop + n) (w.live + x.count) = counting_on t.counting e z x.counts x.small q in
        record {
          walking = rw x.stop i;
          counting = rw (x.stop, x.live) c;
          gathering = rw x.stop (gathering_on (entry_in b p w.stop n e z) g (rw (← q) x.map) (rw (← q, entry_words p w.stop n e z) x.found) (rw (← q) x.seen));
        }

pub ruleset tours = (touring_start, tour_inside, standing, touring_on, touring_end)
