-- A walk that begins at the page that a place lies in: no entry of the pages before it lies at the place or behind it, and none ahead of a
-- cursor lies in front of it. Laws. Assumes nothing.
use Rattle.std.specs.Prelude.{◌≡◌, refl, Bool, false, length, take, None}
use Rattle.std.proofs.Common.{sym, ◌∙◌, ⊎_elim, div-mul-le_self, length-take-le, Fits}
use Rattle.std.proofs.Math.Path.{ap}
use mathlib.Core.List.{List, [], ◌∷◌, ◌++◌}
use Prim.Native.Nat.{ℕ, suc, zero, ◌+◌, ◌-◌, ◌*◌, ◌/◌, ◌≤◌, ◌<◌}
use native.Mathlib.Omega.{arith}
use Rattle.std.specs.Int.{w64}
use Rattle.flash.specs.Laws.{le_or_lt}
use Rattle.rules.specs.declared.Area.{Area}
use Rattle.rules.specs.Areas.{base, Entry, page_entries, entries_from, entries, first_of}
use Rattle.rules.specs.Places.{Right, base_suc, base_zero, base_le, base_in, page_in}
use Rattle.area.specs.Checks.{base_fits, end_fits}
use Rattle.pages.specs.Steps.{length_at, entries_at, entry_at, length_inside, entries_on, entries_end}
use Rattle.area.specs.declared.run.Run.{Run}
use Rattle.entries.specs.declared.walk.Cursor.{Cursor}
use Rattle.entries.specs.declared.walk.Entries.{Entries}
use Rattle.entries.specs.declared.walk.Header.{Header}
use Rattle.entries.specs.Ahead.{onward, ahead, entries_of, left_of, first_cursor, header_of, Heads, Ends, Sound, Standing, Over, first_over, page_onward, ends_next, onward_next}

-- ---- entries in front of a place
abbrev pub AllBelow : ℕ → List Entry → Type 0
AllBelow n [] = Unit {0}
AllBelow n (e ∷ es) = (e.place < n) × AllBelow n es

-- those of a page lie in front of its end
below_at : (p : List ℕ) (n at : ℕ) → length p - at ≤ n → AllBelow (length p) (entries_at p at)
unfolding entry_at
below_at p zero at h =
    let z : length_at p at ≡ 0 = omega (arith, length_inside p at) in
    rw (entries_end p at refl z) tt
below_at p (suc n) at h =
    let l = length_at p at in
    ⊎_elim
    (λ (q : 1 ≤ l). let z : l ≡ 0 → ⊥ = λ y. omega arith in rw (entries_on p at l refl z) (omega (arith, length_inside p at), below_at p n (at + l) (omega (arith, length_inside p at))))
    (λ (q : l < 1). let z : l ≡ 0 = omega arith in rw (entries_end p at refl z) tt)
    (le_or_lt 1 l)

page_below : {a : Area} {f : List ℕ} (i : ℕ) → Right a f → i < a.pages → AllBelow (base a (suc i)) (page_entries a f i)
page_below {a} {f} i r h =
    let b = page_in r i (omega arith) in
    let s = base_suc a i in
    let n : base a i + a.words ≤ length f = omega arith in
    let e : length (take (base a i + a.words) f) ≡ base a (suc i) = length-take-le (base a i + a.words) f n ∙ sym s in
    rw (page_onward a f i (base_in r i (omega arith))) (rw e at (below_at (take (base a i + a.words) f) (length (take (base a i + a.words) f)) (base a i + 2) (omega arith)))

pub below_none : (t : Entry → Bool) (n : ℕ) → ((e : Entry) → e.place < n → t e ≡ false) → (es : List Entry) → AllBelow n es → first_of t es ≡ None
below_none t n i [] b = refl
below_none t n i (e ∷ es) b = let z : t e ≡ false = i e b.0 in rw z (below_none t n i es b.1)

pub below_past : (t : Entry → Bool) (n : ℕ) → ((e : Entry) → e.place < n → t e ≡ false) → (x y : List Entry) → AllBelow n x → first_of t (x ++ y) ≡ first_of t y
below_past t n i [] y b = refl
below_past t n i (e ∷ x) y b = let z : t e ≡ false = i e b.0 in rw z (below_past t n i x y b.1)

-- ---- entries at a place or behind it
abbrev pub AllAbove : ℕ → List Entry → Type 0
AllAbove m [] = Unit {0}
AllAbove m (e ∷ es) = (m ≤ e.place) × AllAbove m es

above_append : (m : ℕ) (x y : List Entry) → AllAbove m x → AllAbove m y → AllAbove m (x ++ y)
above_append m [] y i j = j
above_append m (e ∷ x) y i j = (i.0, above_append m x y i.1 j)

pub above_none : (t : Entry → Bool) (m : ℕ) → ((e : Entry) → m ≤ e.place → t e ≡ false) → (es : List Entry) → AllAbove m es → first_of t es ≡ None
above_none t m n [] b = refl
above_none t m n (e ∷ es) b = let z : t e ≡ false = n e b.0 in rw z (above_none t m n es b.1)

-- those of a page from a place on
above_at : (p : List ℕ) (m n at : ℕ) → m ≤ at → length p - at ≤ n → AllAbove m (entries_at p at)
unfolding entry_at
above_at p m zero at i h =
    let z : length_at p at ≡ 0 = omega (arith, length_inside p at) in
    rw (entries_end p at refl z) tt
above_at p m (suc n) at i h =
    let l = length_at p at in
    ⊎_elim
    (λ (q : 1 ≤ l). let z : l ≡ 0 → ⊥ = λ y. omega arith in rw (entries_on p at l refl z) (i, above_at p m n (at + l) (omega arith) (omega (arith, length_inside p at))))
    (λ (q : l < 1). let z : l ≡ 0 = omega arith in rw (entries_end p at refl z) tt)
    (le_or_lt 1 l)

-- and of the pages behind it
module _ {a : Area} {f : List ℕ} (r : Right a f) (m : ℕ) where
  above_onward : (left place end : ℕ) → m ≤ place → m ≤ end → Ends a f end left → AllAbove m (onward a f place end left)
  unfolding onward
  above_onward zero place end i j e = above_append m (entries_at (take end f) place) [] (above_at (take end f) m (length (take end f)) place i (omega arith)) tt
  above_onward (suc l) place end i j e =
      let z : suc l ≡ 0 → ⊥ = λ y. omega arith in
      let k : suc l - 1 ≡ l = omega arith in
      let n : Ends a f (end + a.words) l = rw k at (ends_next r e z) in
      let s : entries_from a f (suc l) (a.pages - suc l) ≡ onward a f (end + 2) (end + a.words) l = onward_next r end (suc l) e z ∙ rw k in
      above_append
      m
      (entries_at (take end f) place)
      (entries_from a f (suc l) (a.pages - suc l))
      (above_at (take end f) m (length (take end f)) place i (omega arith))
      (rw s (above_onward l (end + 2) (end + a.words) (omega arith) (omega arith) n))

-- so no entry ahead of a cursor lies in front of it
pub ahead_above : {a : Area} {f : List ℕ} {c : Cursor} (m : ℕ) → m ≤ c.place → Right a f → Sound a f c → AllAbove m (ahead a f c)
ahead_above {c = c} m l r s = let i = s.within in above_onward r m c.left c.place c.end l (omega arith) s.ends

-- ---- a test that no entry in front of a place passes
module _ (t : Entry → Bool) (p : ℕ) (n : (e : Entry) → e.place < p → t e ≡ false) where
  first_past : (x y : List Entry) (m : ℕ) → m ≤ p → AllBelow m x → first_of t (x ++ y) ≡ first_of t y
  first_past [] y m h b = refl
  first_past (e ∷ x) y m h b = let z : t e ≡ false = n e (omega (arith, b.0)) in rw z (first_past x y m h b.1)

  -- the pages from j on up to i have none that passes
  first_from : {a : Area} {f : List ℕ} → Right a f → (k j : ℕ) → k + j < a.pages → base a (k + j) ≤ p
      → first_of t (entries_from a f (a.pages - j) j) ≡ first_of t (entries_from a f (a.pages - (k + j)) (k + j))
  first_from r zero j h b = let z : 0 + j ≡ j = omega arith in rw z
  first_from {a} {f} r (suc k) j h b =
      let m : a.pages - j ≡ suc (a.pages - suc j) = omega arith in
      let c : k + suc j ≡ suc k + j = omega arith in
      let l : base a (suc j) ≤ p = omega (arith, base_le a (suc j) (suc k + j) (omega arith)) in
      rw m (first_past (page_entries a f j) (entries_from a f (a.pages - suc j) (suc j)) (base a (suc j)) l (page_below j r (omega arith))
      ∙ rw c at (first_from r k (suc j) (omega arith) (rw c b)))

-- those of a list that begin it lie in front of a place
below_append : (n : ℕ) (x : List Entry) (e : Entry) → AllBelow n x → e.place < n → AllBelow n (x ++ e ∷ [])
below_append n [] e b l = (l, tt)
below_append n (d ∷ x) e b l = (b.0, below_append n x e b.1 l)

-- ---- a walk over entries among which are all that lie at a place or behind it
pub record From (r : Run) (place : ℕ) (s : Entries) : Type 0 where
  pub index : ℕ
  pub inside : index < r.area.pages
  pub before : base r.area index ≤ place
  pub over : Over r (entries_from r.area r.words.now (r.area.pages - index) index) s
  pub front : 2 ≤ s.cursor.place

-- so a search for one of these gives what it gives in all
pub from_same : {r : Run} {s : Entries} {p : ℕ} (t : Entry → Bool) → ((e : Entry) → e.place < p → t e ≡ false) → From r p s
    → first_of t (left_of s) ≡ first_of t (entries_of r)
unfolding entries
from_same {r} {s} {p} t n x =
    let a = r.area in
    let f = r.words.now in
    let i = x.index in
    let z : i + 0 ≡ i = omega arith in
    let m : a.pages - 0 ≡ a.pages = omega arith in
    let b : i + 0 < a.pages = omega (arith, x.inside) in
    ap (first_of t) x.over.left ∙ sym (rw (m, z) at (first_from t p n {a = a} {f = f} r.right i 0 b (rw z x.before)))

-- ---- the walk has come to the first entry that does not lie in front of the place, and was moved over it
pub record Reached (p : ℕ) (s : Entries) (h : Header) (u : Entries) : Type 0 where
  pub standing : Standing u
  pub passed : List Entry
  pub below : AllBelow p passed
  pub entry : Entry
  pub header : header_of entry ≡ h
  pub whole : left_of s ≡ passed ++ entry ∷ left_of u
  pub behind : p ≤ h.place
  pub on : h.place < u.cursor.place

-- it has moved over some in front of it
pub record Reaching (p : ℕ) (s u : Entries) : Type 0 where
  pub standing : Standing u
  pub passed : List Entry
  pub below : AllBelow p passed
  pub whole : left_of s ≡ passed ++ left_of u

pub reaching_start : {p : ℕ} {s : Entries} → Standing s → Reaching p s s
reaching_start x = record { standing = x; passed = []; below = tt; whole = refl }

header_place : {h : Header} (e : Entry) → header_of e ≡ h → e.place ≡ h.place
header_place e q = ap (λ (d : Header). d.place) q

pub reaching_on : {p : ℕ} {s u v : Entries} {h : Header} → Reaching p s u → Heads (left_of u) h (left_of v) → h.place < p → Standing v → Reaching p s v
reaching_on {p} {v = v} x y l w =
    record {
      standing = w;
      passed = x.passed ++ y.entry ∷ [];
      below = below_append p x.passed y.entry x.below (rw (header_place y.entry y.header) l);
      whole = rw y.first at x.whole ∙ move x.passed y.entry (left_of v);
    }
  where
    move : (i : List Entry) (e : Entry) (j : List Entry) → i ++ e ∷ j ≡ (i ++ e ∷ []) ++ j
    move [] e j = refl
    move (d ∷ i) e j = ap (λ (k : List Entry). d ∷ k) (move i e j)

pub reached_here : {p : ℕ} {s u v : Entries} {h : Header} → Reaching p s u → Heads (left_of u) h (left_of v) → p ≤ h.place → h.place < v.cursor.place → Standing v → Reached p s h v
reached_here x y l o w = record { standing = w; passed = x.passed; below = x.below; entry = y.entry; header = y.header; whole = rw y.first at x.whole; behind = l; on = o }

pub reaching_end : {p : ℕ} {s u : Entries} → Reaching p s u → left_of u ≡ [] → AllBelow p (left_of s)
reaching_end {p} x z = rw (rw z at x.whole, all_of x.passed) x.below
  where
    all_of : (i : List Entry) → i ++ [] ≡ i
    all_of [] = refl
    all_of (e ∷ i) = ap (λ (k : List Entry). e ∷ k) (all_of i)

pub heads_fewer : {es ds : List Entry} {h : Header} → Heads es h ds → length ds < length es
heads_fewer y = rw y.first (omega arith)

pub ruleset reaches = (reaching_start, reaching_on, reached_here, reaching_end, heads_fewer)

-- ---- a walk from the first entry of a page
pub from_first : {r : Run} {s : Entries} (p : ℕ) → s.run ≡ r → s.cursor ≡ first_cursor r.area → From r p s
unfolding entries
from_first {r} p x z =
    let a = r.area in
    let m : a.pages - 0 ≡ a.pages = omega arith in
    record { index = 0; inside = r.right.some_pages; before = omega (arith, base_zero a); over = rw m (first_over x z refl); front = rw z (omega arith) }

module _ {a : Area} {f : List ℕ} (i : ℕ) (r : Right a f) (h : i < a.pages) where
  pub page_ends : Ends a f (i * a.words + a.words) (a.pages - 1 - i)
  unfolding base
  page_ends =
      let e : a.pages - (a.pages - 1 - i) ≡ suc i = omega arith in
      record { behind = omega arith; place = rw e (sym (base_suc a i)); inside = omega (arith, page_in r i (omega arith), base_suc a i) }

  page_ahead : onward a f (base a i + 2) (base a i + a.words) (a.pages - 1 - i) ≡ entries_from a f (a.pages - i) i
  unfolding onward
  page_ahead =
      let e : a.pages - (a.pages - 1 - i) ≡ suc i = omega arith in
      let m : a.pages - i ≡ suc (a.pages - 1 - i) = omega arith in
      rw (e, m, page_onward a f i (base_in r i (omega arith)))

pub from_page : {r : Run} {s : Entries} (p : ℕ) → s.run ≡ r
    → s.cursor ≡ record { place = p / r.area.words * r.area.words + 2; end = p / r.area.words * r.area.words + r.area.words; left = r.area.pages - 1 - p / r.area.words }
    → p / r.area.words < r.area.pages → From r p s
unfolding base
from_page {r} p x z h =
    let a = r.area in
    let i = p / a.words in
    let j = r.right.wide in
    record {
      index = i;
      inside = h;
      before = div-mul-le_self p a.words;
      over = record {
        run = x;
        standing = rw (x, z) (record { sound = record { ends = page_ends i r.right h; within = omega arith } });
        left = rw (x, z) (page_ahead i r.right h);
      };
      front = rw z (omega arith);
    }

-- so far can be counted
pub start_fits : {a : Area} {f : List ℕ} (i : ℕ) → Right a f → i < a.pages → Fits w64 (i * a.words + 2)
start_fits i r h =
    let t = (end_fits i r (omega arith)).fits in
    let w = r.wide in
    record { fits = omega arith }

pub page_fits : {a : Area} {f : List ℕ} (i : ℕ) → Right a f → i < a.pages → Fits w64 (i * a.words)
page_fits i r h = base_fits i r (omega arith)

pub behind_fits : {a : Area} {f : List ℕ} (i : ℕ) → Right a f → i < a.pages → Fits w64 (i * a.words + a.words)
behind_fits i r h = end_fits i r (omega arith)

pub ruleset starts = (from_first, from_page, page_ends, start_fits, page_fits, behind_fits)
