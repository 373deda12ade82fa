-- The area's entries from a cursor on, where entries lie in the run, and what a loop over them has come to: definitions and laws.
-- Assumes nothing.
use Rattle.std.specs.Prelude.{◌≡◌, refl, Bool, true, false, cond, not, get_or, take, drop, Option, Some, None, is_none}
use Rattle.std.proofs.Math.Path.{sym, ap}
use Rattle.std.proofs.Common.{subst, ◌∙◌, ⊎_elim, take-take, get_or-take, mod-lt, eq-eqb, ne_eqb, ◌&&◌, ◌||◌, eqb}
use Rattle.std.proofs.Math.Bool.{and-false}
use mathlib.Core.List.{List, [], ◌∷◌, ◌++◌}
use Prim.Native.Nat.{ℕ, suc, zero, ◌+◌, ◌-◌, ◌≤◌, ◌<◌}
use native.Mathlib.Omega.{arith}
use Rattle.std.proofs.Math.ListN.{length, length-take, length-drop}
use Rattle.std.proofs.Math.Seq.{length-take-le, take-nil}
use Rattle.flash.specs.Laws.{le_or_lt}
use Rattle.rules.specs.declared.Area.{Area}
use Rattle.rules.specs.Words.{handle_of, length_of, is_live}
use Rattle.rules.specs.Walk.{begins, walk_in, items}
use Rattle.rules.specs.Areas.{base, Entry, placed, page_entries, entries_from, entries, any_of, first_of, live_of, find}
use Rattle.rules.specs.Places.{Right, base_suc, base_zero, page_from, base_in}
use Rattle.pages.specs.Steps.{length_in, length_at, walk_at, entries_at, entry_at, length_inside, data_words_length, entries_on, entries_end}
use Rattle.std.proofs.lemmas.Option.{same_Some}
use Rattle.area.specs.declared.run.Run.{Run}
use Rattle.entries.specs.declared.walk.Cursor.{Cursor}
use Rattle.entries.specs.declared.walk.Entries.{Entries}
use Rattle.entries.specs.declared.walk.Header.{Header}
use Rattle.rules.specs.declared.Found.{Found}

-- ---- what is found
abbrev pub found_of : Option Entry → Option Found
found_of None = None
found_of (Some e) = Some (record { place = e.place; words = length e.words })

pub found_none : {r : Option Found} (o : Option Entry) → r ≡ found_of o → r ≡ None → o ≡ None
found_none None e q = refl
found_none (Some d) e q = absurd (let z : ◌≡◌ {A = ℕ} 0 1 = cc in let y : ⊥ = omega arith in y)

pub found_some : {r : Option Found} {x : Found} (o : Option Entry) → r ≡ found_of o → r ≡ Some x → (d : Entry) × (o ≡ Some d) × (d.place ≡ x.place) × (length d.words ≡ x.words)
found_some None e q = absurd (let z : ◌≡◌ {A = ℕ} 0 1 = cc in let y : ⊥ = omega arith in y)
found_some (Some d) e q = let z = same_Some _ _ (sym e ∙ q) in (d, refl, ap (λ (x : Found). x.place) z, ap (λ (x : Found). x.words) z)

-- ---- cursors
-- the entries from a place on, to the end of a page and of the pages behind it
unfoldable pub onward : Area → List ℕ → ℕ → ℕ → ℕ → List Entry
onward a f place end left = entries_at (take end f) place ++ entries_from a f left (a.pages - left)

abbrev pub ahead : Area → List ℕ → Cursor → List Entry
ahead a f c = onward a f c.place c.end c.left

-- in front of the first one
abbrev pub first_cursor : Area → Cursor
first_cursor a = record { place = 2; end = a.words; left = a.pages - 1 }

-- the entries of an area that is read
abbrev pub entries_of : Run → List Entry
entries_of r = entries r.area r.words.now

-- those that a walk has left
abbrev pub left_of : Entries → List Entry
left_of s = ahead s.run.area s.run.words.now s.cursor

-- the header of an entry
abbrev pub header_of : Entry → Header
header_of e = record { place = e.place; handle = e.handle; length = length e.words + 1 }

-- of some entries the first has a header, and others are behind it
pub record Heads (es : List Entry) (h : Header) (ds : List Entry) : Type 0 where
  pub entry : Entry
  pub header : header_of entry ≡ h
  pub first : es ≡ entry ∷ ds
  pub handle : h.handle < 65536
  pub length : h.length < 65536

-- the end of a page is that of the last but so many
pub record Ends (a : Area) (f : List ℕ) (end left : ℕ) : Type 0 where
  pub behind : left < a.pages
  pub place : end ≡ base a (a.pages - left)
  pub inside : end ≤ length f

-- a cursor stands in a page of the area
pub record Sound (a : Area) (f : List ℕ) (c : Cursor) : Type 0 where
  pub ends : Ends a f c.end c.left
  pub within : c.place ≤ c.end

-- a cursor was moved over the entry of a header
pub record Passed (a : Area) (f : List ℕ) (c : Cursor) (h : Header) (d : Cursor) : Type 0 where
  pub heads : Heads (ahead a f c) h (ahead a f d)
  pub from : c.place ≤ h.place
  pub behind : h.place < d.place

-- a walk stands in a page of its area
pub record Standing (s : Entries) : Type 0 where
  pub sound : Sound s.run.area s.run.words.now s.cursor

-- a step of a walk gives the header of the first of the entries left, and leaves the others, or gives none where none is left
abbrev pub Gives : Entries → Option Header → Entries → Type 0
Gives s None t = (left_of s ≡ []) × (left_of t ≡ [])
Gives s (Some h) t = Heads (left_of s) h (left_of t) × (s.cursor.place ≤ h.place) × (h.place < t.cursor.place)

-- a walk over some entries of an area
pub record Over (r : Run) (es : List Entry) (s : Entries) : Type 0 where
  pub run : s.run ≡ r
  pub standing : Standing s
  pub left : left_of s ≡ es

-- ---- laws of pages
pub page_onward : (a : Area) (f : List ℕ) (i : ℕ) → base a i ≤ length f → page_entries a f i ≡ entries_at (take (base a i + a.words) f) (base a i + 2)
unfolding items entries_at walk_at
page_onward a f i h = ap (λ (u : List ℕ). placed (base a i + 2) (walk_in 0 u).items) (page_from a f i h)

-- where a page has no entry left, the next one's follow
module _ {a : Area} {f : List ℕ} (r : Right a f) where
  pub ends_next : {end left : ℕ} → Ends a f end left → (left ≡ 0 → ⊥) → Ends a f (end + a.words) (left - 1)
  ends_next {end} {left} e z =
      let b = e.behind in
      let i : suc (a.pages - left) ≡ a.pages - (left - 1) = omega arith in
      let q : base a (a.pages - (left - 1)) ≡ end + a.words = ap (base a) (sym i) ∙ base_suc a (a.pages - left) ∙ ap (λ (u : ℕ). u + a.words) (sym e.place) in
      record { behind = omega arith; place = sym q; inside = subst (λ (u : ℕ). u ≤ length f) q (base_in r (a.pages - (left - 1)) (omega arith)) }

  pub onward_next : (end left : ℕ) → Ends a f end left → (left ≡ 0 → ⊥) → entries_from a f left (a.pages - left) ≡ onward a f (end + 2) (end + a.words) (left - 1)
  unfolding onward
  onward_next end zero e z = absurd (z refl)
  onward_next end (suc l) e z =
      let b = e.behind in
      let i : suc (a.pages - suc l) ≡ a.pages - l = omega arith in
      let k : suc l - 1 ≡ l = omega arith in
      rw (i, k, e.place, page_onward a f (a.pages - suc l) (base_in r (a.pages - suc l) (omega arith)))

  -- the first page
  pub first_ends : Ends a f a.words (a.pages - 1)
  first_ends =
      let s = r.some_pages in
      let i : a.pages - (a.pages - 1) ≡ 1 = omega arith in
      let q : base a (a.pages - (a.pages - 1)) ≡ a.words = ap (base a) i ∙ base_suc a 0 ∙ ap (λ (u : ℕ). u + a.words) (base_zero a) ∙ omega arith in
      record { behind = omega arith; place = sym q; inside = subst (λ (u : ℕ). u ≤ length f) q (base_in r (a.pages - (a.pages - 1)) (omega arith)) }

  first_from : (n : ℕ) → entries_at (take a.words f) 2 ++ entries_from a f n 1 ≡ entries_from a f (suc n) 0
  first_from n =
      let w : base a 0 + a.words ≡ a.words = omega (arith, base_zero a) in
      let t : base a 0 + 2 ≡ 2 = omega (arith, base_zero a) in
      let p : page_entries a f 0 ≡ entries_at (take a.words f) 2 = page_onward a f 0 (base_in r 0 (omega arith)) ∙ rw (w, t) in
      ap (λ (u : List Entry). u ++ entries_from a f n 1) (sym p)

  pub first_onward : onward a f 2 a.words (a.pages - 1) ≡ entries a f
  unfolding onward entries
  first_onward =
      let s = r.some_pages in
      let n : suc (a.pages - 1) ≡ a.pages = omega arith in
      let i : a.pages - (a.pages - 1) ≡ 1 = omega arith in
      rw i (first_from (a.pages - 1) ∙ ap (λ (u : ℕ). entries_from a f u 0) n)

-- ---- where entries lie
-- the words behind a place, of a run that is cut
pub drop_cut : (n m : ℕ) (l : List ℕ) → drop n (take m l) ≡ take (m - n) (drop n l)
drop_cut zero m l = let e : m - 0 ≡ m = omega arith in rw e
drop_cut (suc n) m [] = rw (take-nil {A = ℕ} m, take-nil {A = ℕ} (m - suc n))
drop_cut (suc n) zero (w ∷ l) = let e : 0 - suc n ≡ 0 = omega arith in rw e
drop_cut (suc n) (suc m) (w ∷ l) = let e : suc m - suc n ≡ m - n = omega arith in rw e (drop_cut n m l)

-- an entry lies inside a run: its data are the words behind its header's place
pub record Inside (f : List ℕ) (e : Entry) : Type 0 where
  pub within : e.place + length e.words < length f
  pub words : e.words ≡ take (length e.words) (drop (suc e.place) f)

-- all of a list do
abbrev AllInside : List ℕ → List Entry → Type 0
AllInside f [] = Unit {0}
AllInside f (e ∷ es) = Inside f e × AllInside f es

inside_append : (f : List ℕ) (x y : List Entry) → AllInside f x → AllInside f y → AllInside f (x ++ y)
inside_append f [] y i j = j
inside_append f (e ∷ x) y i j = (i.0, inside_append f x y i.1 j)

inside_first : {f : List ℕ} {e : Entry} (t : Entry → Bool) (es : List Entry) → AllInside f es → first_of t es ≡ Some e → Inside f e
inside_first t [] i q = absurd (let z : ◌≡◌ {A = ℕ} 0 1 = cc in let y : ⊥ = omega arith in y)
inside_first {f} {e} t (d ∷ es) i q = go (t d) q (inside_first t es i.1)
  where
    go : (b : Bool) → cond b (Some d) (first_of t es) ≡ Some e → (first_of t es ≡ Some e → Inside f e) → Inside f e
    go true q ih = let z : d ≡ e = cc in rw z at i.0
    go false q ih = ih q

-- those of a page
module _ (f : List ℕ) (end : ℕ) (b : end ≤ length f) where
  inside_entry : (at n : ℕ) → n ≤ end - at - 1 → (n ≡ 0 → ⊥) → Inside f (entry_at (take end f) at n)
  unfolding entry_at
  inside_entry at n h z =
      let k : length (take (n - 1) (drop (suc at) (take end f))) ≡ n - 1 = omega (arith, length-take (n - 1) (drop (suc at) (take end f)), length-drop (suc at) (take end f), length-take-le end f b) in
      record { within = omega arith; words = rw (k, drop_cut (suc at) end f) (take-take (n - 1) (end - suc at) (drop (suc at) f) (omega arith)) }

  inside_at : (n at : ℕ) → end - at ≤ n → AllInside f (entries_at (take end f) at)
  inside_at zero at h =
      let p = take end f in
      let z : length_at p at ≡ 0 = omega (arith, length_inside p at, length-take-le end f b) in
      rw (entries_end p at refl z) tt
  inside_at (suc n) at h =
      let p = take end f in
      let l = length_at p at in
      let i : l ≤ end - at - 1 = omega (arith, length_inside p at, length-take-le end f b) in
      ⊎_elim
      (λ (q : 1 ≤ l). let z : l ≡ 0 → ⊥ = λ y. omega arith in rw (entries_on p at l refl z) (inside_entry at l i z, inside_at n (at + l) (omega arith)))
      (λ (q : l < 1). let z : l ≡ 0 = omega arith in rw (entries_end p at refl z) tt)
      (le_or_lt 1 l)

-- those of the area
module _ {a : Area} {f : List ℕ} (r : Right a f) where
  inside_onward : (left place end : ℕ) → Ends a f end left → AllInside f (onward a f place end left)
  unfolding onward
  inside_onward zero place end e = inside_append f (entries_at (take end f) place) [] (inside_at f end e.inside end place (omega arith)) tt
  inside_onward (suc l) place end e =
      let z : suc l ≡ 0 → ⊥ = λ y. omega arith in
      let k : suc l - 1 ≡ l = omega arith in
      let n : Ends a f (end + a.words) l = rw k at (ends_next r e z) in
      let s : entries_from a f (suc l) (a.pages - suc l) ≡ onward a f (end + 2) (end + a.words) l = onward_next r end (suc l) e z ∙ rw k in
      inside_append f (entries_at (take end f) place) (entries_from a f (suc l) (a.pages - suc l)) (inside_at f end e.inside end place (omega arith)) (rw s (inside_onward l (end + 2) (end + a.words) n))

  all_inside : AllInside f (entries a f)
  all_inside = rw (first_onward r) at (inside_onward (a.pages - 1) 2 a.words (first_ends r))

-- what is found lies inside the run
pub first_inside : {a : Area} {f : List ℕ} {e : Entry} (t : Entry → Bool) → first_of t (entries a f) ≡ Some e → Right a f → Inside f e
first_inside {a} {f} t q r = inside_first t (entries a f) (all_inside r) q

pub found_inside : {a : Area} {f : List ℕ} {r : Option Found} {x : Found} (t : Entry → Bool) → r ≡ found_of (first_of t (entries a f)) → r ≡ Some x → Right a f → x.place + x.words < length f
found_inside {a} {f} t e q r =
    let s = found_some (first_of t (entries a f)) e q in
    let i = (first_inside t s.1 r).within in
    omega (arith, s.2, s.3)

-- ---- a cursor is moved on to the page of the next entry, or to the last page
pub record Turning (a : Area) (f : List ℕ) (c d : Cursor) : Type 0 where
  pub sound : Sound a f d
  pub same : ahead a f d ≡ ahead a f c
  pub from : c.place ≤ d.place

pub turning_start : {a : Area} {f : List ℕ} {c : Cursor} → Sound a f c → Turning a f c c
turning_start s = record { sound = s; same = refl; from = omega arith }

-- an entry's length has 16 bits
length_small : (ws : List ℕ) → length_in ws < 65536
length_small [] = omega arith
length_small (w ∷ ws) = go (begins w ws)
  where
    go : (t : Bool) → cond t (length_of w) 0 < 65536
    go true = mod-lt w (omega arith)
    go false = omega arith

module _ {a : Area} {f g : List ℕ} {c d : Cursor} {n : ℕ} (s : Turning a f c d) (w : g ≡ take d.end f) (q : n ≡ length_at g d.place) where
  length_is : n ≡ length_at (take d.end f) d.place
  length_is = q ∙ ap (λ (u : List ℕ). length_at u d.place) w

  -- the page has no entry left
  module _ (z : n ≡ 0) where
    pub turning_on : Right a f → (d.left ≡ 0 → ⊥) → Turning a f c (record { place = d.end + 2; end = d.end + a.words; left = d.left - 1 })
    unfolding onward
    turning_on r y =
        let i = s.sound.within in
        let j = r.wide in
        let k = s.from in
        record {
          sound = record { ends = ends_next r s.sound.ends y; within = omega arith };
          same = sym (onward_next r d.end d.left s.sound.ends y) ∙ rw (entries_end (take d.end f) d.place length_is z) at s.same;
          from = omega arith;
        }

    pub turned_none : d.left ≡ 0 → ahead a f d ≡ []
    unfolding onward
    turned_none y = rw (y, entries_end (take d.end f) d.place length_is z)

    pub turned_all : d.left ≡ 0 → ahead a f c ≡ []
    turned_all y = sym s.same ∙ turned_none y

  -- it has one
  module _ (z : n ≡ 0 → ⊥) where
    abbrev next : Cursor
    next = record { place = d.place + n; end = d.end; left = d.left }

    fits : n ≤ d.end - d.place - 1
    fits = omega (arith, length_is, length_inside (take d.end f) d.place, length-take-le d.end f s.sound.ends.inside)

    pub turned_sound : Sound a f next
    turned_sound = let i = fits in let j = s.sound.within in record { ends = s.sound.ends; within = omega arith }

    pub turned_passed : {k : ℕ} → k ≡ handle_of (get_or f d.place 0) → k < 65536 → Passed a f c (record { place = d.place; handle = k; length = n }) next
    unfolding onward entry_at length_at
    turned_passed {k} e small =
        let i = fits in
        let j = s.from in
        let p = take d.end f in
        let l : length_at p d.place < 65536 = length_small (drop d.place p) in
        let h : handle_of (get_or p d.place 0) ≡ k = rw (get_or-take d.end f d.place 0 (omega arith)) (sym e) in
        record {
          heads = record {
            entry = entry_at p d.place n;
            header = rw (h, data_words_length p d.place n length_is z);
            first = sym s.same ∙ rw (entries_on p d.place n length_is z);
            handle = small;
            length = omega (arith, length_is);
          };
          from = j;
          behind = omega arith;
        }

pub first_sound : {a : Area} {f : List ℕ} → Right a f → Sound a f (first_cursor a)
first_sound r = let j = r.wide in record { ends = first_ends r; within = omega arith }

pub first_over : {r : Run} {s : Entries} {c : Cursor} → s.run ≡ r → s.cursor ≡ c → c ≡ first_cursor r.area → Over r (entries_of r) s
first_over {r} x z w = record { run = x; standing = rw (x, z, w) (record { sound = first_sound r.right }); left = rw (x, z, w) (first_onward r.right) }

pub ruleset cursors = (turning_start, turning_on, turned_none, turned_all, turned_sound, turned_passed)

-- ---- a search for the first entry that passes a test has come to those left, o being what it will find
pub record Finding (t : Entry → Bool) (o : Option Entry) (es : List Entry) : Type 0 where
  pub same : first_of t es ≡ o

module _ {t : Entry → Bool} {o : Option Entry} {es ds : List Entry} {h : Header} (s : Finding t o es) (x : Heads es h ds) where
  here : cond (t x.entry) (Some x.entry) (first_of t ds) ≡ o
  here = ap (first_of t) (sym x.first) ∙ s.same

  pub finding_on : t x.entry ≡ false → Finding t o ds
  finding_on q = record { same = rw q at here }

  pub finding_found : t x.entry ≡ true → Some x.entry ≡ o
  finding_found q = rw q at here

-- ---- whether an entry passes
pub any_first : (t : Entry → Bool) (es : List Entry) → any_of t es ≡ not (is_none (first_of t es))
any_first t [] = refl
any_first t (e ∷ es) = go (t e) refl (any_first t es)
  where
    go : (b : Bool) → t e ≡ b → any_of t es ≡ not (is_none (first_of t es)) → any_of t (e ∷ es) ≡ not (is_none (first_of t (e ∷ es)))
    go true q r = rw q
    go false q r = rw q r

-- an entry is none of the live ones of handle 0000
zero_none : (es : List Entry) → None ≡ find 0 es
zero_none [] = refl
zero_none (e ∷ es) = zero_none es

pub find_dead : (h : ℕ) (es : List Entry) → h ≡ 0 → None ≡ found_of (find h es)
find_dead h es z = rw z (ap found_of (zero_none es))

pub any_dead : (h : ℕ) (es : List Entry) → h ≡ 0 → false ≡ any_of (live_of h) es
any_dead h es z = sym (any_first (live_of h) es ∙ rw z (ap (λ (o : Option Entry). not (is_none o)) (sym (zero_none es))))

-- the entries left have a live one of a handle just if all had
pub record Living (k : ℕ) (es ds : List Entry) : Type 0 where
  pub same : any_of (live_of k) ds ≡ any_of (live_of k) es

pub living_start : {k : ℕ} {es : List Entry} → Living k es es
living_start = record { same = refl }

module _ {k : ℕ} {es ds us : List Entry} {h : Header} (s : Living k es ds) (x : Heads ds h us) (z : k ≡ 0 → ⊥) where
  abbrev e : Entry
  e = x.entry

  its : e.handle ≡ h.handle
  its = ap (λ (u : Header). u.handle) x.header

  living : (is_live k && eqb e.handle k) || any_of (live_of k) us ≡ any_of (live_of k) es
  living = ap (any_of (live_of k)) (sym x.first) ∙ s.same

  pub living_here : h.handle ≡ k → true ≡ any_of (live_of k) es
  living_here q = rw (ne_eqb k 0 z, its, eq-eqb h.handle k q) at living

  pub living_on : (h.handle ≡ k → ⊥) → Living k es us
  living_on q = record { same = rw (its, ne_eqb h.handle k q, and-false (is_live k)) at living }

pub living_end : {k : ℕ} {es ds : List Entry} → Living k es ds → ds ≡ [] → false ≡ any_of (live_of k) es
living_end {k} s z = ap (any_of (live_of k)) (sym z) ∙ s.same

pub ruleset lives = (any_dead, living_start, living_here, living_on, living_end)
