-- What a ready area holds is what reads, searches and the map give: every entry stands where it says, and places grow in area order.
-- Assumes nothing.
use Rattle.std.proofs.Math.Path.{◌≡◌, ap, sym, subst}
use Rattle.std.specs.Prelude.{refl, Bool, true, false, not, ◌&&◌, ◌⊎◌, ltb, eqb, Option, Some, None, Ok, Err, is_none}
use Rattle.std.proofs.Common.{ap₂, ◌∙◌, true≢false, inl, inr, le_refl, le_trans, mod-eq_of_lt, take-append-drop, length-take-le}
use mathlib.Core.List.{List, [], ◌∷◌, ◌++◌, append_assoc}
use Rattle.std.proofs.Math.Bool.{and-false}
use Prim.Native.Nat.{ℕ, suc, zero, ◌+◌, ◌^◌, ◌≤◌, ◌<◌}
use native.Mathlib.Omega.{arith}
use Rattle.std.proofs.Math.ListN.{length, get_or, take, drop, length-append}
use Rattle.std.proofs.Math.Seq.{take_at, get_or_at, drop-append-add}
use Rattle.std.specs.Int.Bits.{bit_and}
use Rattle.std.proofs.lemmas.Nat.{and_mask}
use borrow.Author.Tests.{ltb-true, lt-ltb, lt-leb, eqb-true, eq-eqb, not-true}
use Rattle.rules.specs.declared.Area.{Area}
use Rattle.rules.specs.declared.Refusal.TheVariants.{NotFound}
use Rattle.rules.specs.Words.{header, special, is_live, seal}
use Rattle.rules.specs.Walk.{Item, entry_length, codes, items}
use Rattle.rules.specs.Areas.{base, page, Entry, placed, entries_from, entries, any_of, first_of, live_of, twice, find, data_of, map_of, ready}
use Rattle.rules.specs.Refusals.{bad_handle, reading_place, reading_words, find_checks}
use Rattle.rules.specs.Search.{place_of, data_length, read_of, next, bad_place, search_checks, search_of, wanted, is_at}
use Rattle.rules.specs.Laws.{and_left, and_right, passed_checked, checked_passed}
use Rattle.rules.specs.Places.{base_suc, length_page, page_in}
use Rattle.demands.specs.Terms.{StandsAt, blanks, Goods}
use Rattle.demands.specs.Pages.{image, item, goods_right, goods_head, goods_items, length_image, front, length_front, image_at}
use Rattle.demands.specs.Runs.{shape_of, Usable}
use Rattle.demands.specs.Entries.{found_some, data_some, data_none, any_some, any_at, first_some, find_some, once_apart, look_add}
use Rattle.demands.specs.Layout.{Located, located}
use Rattle.demands.specs.Settled.{Settled, ready_settled, ready_sound, ready_passed, passed_ready, settled_page}

-- ---- where entries stand
-- an entry written in a page: the run before it and behind it
module _ (a : Area) (f : List ℕ) (i : ℕ) (u : List ℕ) (h : ℕ) (d v : List ℕ) where
  abbrev head : ℕ
  head = header h (entry_length d)

  abbrev up : List ℕ
  up = take (base a i) f ++ u

  abbrev down : List ℕ
  down = v ++ drop a.words (drop (base a i) f)

  around : page a f i ≡ u ++ head ∷ (d ++ v) → f ≡ up ++ head ∷ (d ++ down)
  unfolding page
  around e =
      sym (take-append-drop (base a i) f)
      ∙ ap (λ (x : List ℕ). take (base a i) f ++ x) (sym (take-append-drop a.words (drop (base a i) f)))
      ∙ ap (λ (x : List ℕ). take (base a i) f ++ (x ++ drop a.words (drop (base a i) f))) e
      ∙ simp append_assoc

  stands_page : page a f i ≡ u ++ head ∷ (d ++ v) → base a (suc i) ≤ length f → StandsAt f (base a i + length u) h d
  unfolding header
  stands_page e b =
      let p = base a i + length u in
      let s = base_suc a i in
      let l : length up ≡ p = length-append (take (base a i) f) u ∙ ap (λ (n : ℕ). n + length u) (length-take-le (base a i) f (omega arith)) in
      let n : length f ≡ length up + suc (length d + length down) = ap length (around e) ∙ simp length-append in
      let z : suc p ≡ length up + 1 = omega arith in
      record {
        head = ap (λ (x : List ℕ). get_or x p 0) (around e) ∙ get_or_at up head (d ++ down) 0 p l;
        words =
            ap (λ (x : List ℕ). take (length d) (drop (suc p) x)) (around e)
            ∙ ap (λ (k : ℕ). take (length d) (drop k (up ++ head ∷ (d ++ down)))) z
            ∙ ap (λ (x : List ℕ). take (length d) x) (drop-append-add up (head ∷ (d ++ down)) 1)
            ∙ take_at d down (length d) refl;
        inside = omega arith;
      }

-- the page of an entry, its handle, its place
module _ (a : Area) (f : List ℕ) (pre : List Entry) (e : Entry) (suf : List Entry) (q : entries a f ≡ pre ++ e ∷ suf) where
  found : Located a f a.pages 0 pre e suf
  unfolding entries
  found = located a f a.pages 0 pre e suf q

  small_handle : e.handle < special
  small_handle = (goods_head (goods_right found.es (subst Goods found.is (goods_items (page a f found.i))))).small

  pub place_some : 0 < e.place
  place_some = let p = found.place in omega arith

pub stands : {a : Area} {f : List ℕ} → Settled a f → (pre : List Entry) (e : Entry) (suf : List Entry) → entries a f ≡ pre ++ e ∷ suf
    → StandsAt f e.place e.handle e.words
stands {a} {f} s pre e suf q =
    let n = found a f pre e suf q in
    let hi = n.hi in
    let h : n.i < a.pages = omega arith in
    let m = settled_page s n.i h in
    let t = seal ∷ blanks m.0 in
    let u = front a.pages n.i n.es in
    let im = m.1 ∙ ap (λ (v : List Item). image a.pages n.i v t) n.is ∙ image_at a.pages n.i n.es (item e.handle e.words) n.fs t in
    let p : e.place ≡ base a n.i + length u = n.place ∙ ap (λ (k : ℕ). base a n.i + k) (sym (length_front a.pages n.i n.es)) in
    rw p (stands_page a f n.i u e.handle e.words (codes n.fs ++ t) im (page_in (shape_of s.given) n.i (omega arith)))

-- ---- places grow in area order
-- from lo on, and to below hi
pub data Grow : ℕ → List Entry → ℕ → Type 0 where
  end : {lo hi : ℕ} → lo ≤ hi → Grow lo [] hi
  step : {lo hi : ℕ} {e : Entry} {x : List Entry} → lo ≤ e.place → Grow (suc e.place) x hi → Grow lo (e ∷ x) hi

pub grow_lower : {lo mid hi : ℕ} {x : List Entry} → lo ≤ mid → Grow mid x hi → Grow lo x hi
grow_lower h (end l) = end (le_trans h l)
grow_lower h (step l g) = step (le_trans h l) g

grow_append : {lo mid hi : ℕ} {x y : List Entry} → Grow lo x mid → Grow mid y hi → Grow lo (x ++ y) hi
grow_append (end l) k = grow_lower l k
grow_append (step l g) k = step l (grow_append g k)

grow_placed : (at hi : ℕ) (es : List Item) → at + length (codes es) ≤ hi → Grow at (placed at es) hi
grow_placed at hi [] h = let l : at ≤ hi = omega arith in end l
grow_placed at hi (e ∷ es) h =
    let l = length-append e.words (codes es) in
    let k : suc at ≤ at + entry_length e.words = omega arith in
    step (le_refl at) (grow_lower k (grow_placed (at + entry_length e.words) hi es (omega arith)))

grow_from : {a : Area} {f : List ℕ} → Settled a f → (n i : ℕ) → i + n ≤ a.pages → Grow (base a i) (entries_from a f n i) (base a (i + n))
grow_from {a} s zero i h = let z : i + 0 ≡ i = omega arith in rw z (end (le_refl (base a i)))
grow_from {a} {f} s (suc n) i h =
    let z : i + suc n ≡ suc i + n = omega arith in
    let es = items (page a f i) in
    let m = settled_page s i (omega arith) in
    let k = base_suc a i in
    let l = sym (length_page a f i (page_in (shape_of s.given) i (omega arith))) ∙ ap length m.1 ∙ length_image a.pages i es (seal ∷ blanks m.0) in
    let two : base a i ≤ base a i + 2 = omega arith in
    rw z (grow_append (grow_lower two (grow_placed (base a i + 2) (base a (suc i)) es (omega arith))) (grow_from s n (suc i) (omega arith)))

pub grow_behind : {lo hi : ℕ} (mid : List Entry) (c : Entry) (suf : List Entry) → Grow lo (mid ++ c ∷ suf) hi → lo ≤ c.place
grow_behind [] c suf (step l g) = l
grow_behind (d ∷ mid) c suf (step l g) = let k = grow_behind mid c suf g in omega arith

pub grow_entries : {a : Area} {f : List ℕ} → Settled a f → (x : List Entry) → entries a f ≡ x → Grow (base a 0) x (base a (0 + a.pages))
unfolding entries
grow_entries {a} s x q = subst (λ (y : List Entry). Grow (base a 0) y (base a (0 + a.pages))) q (grow_from s a.pages 0 (omega arith))

-- ---- the first entry that passes a test
-- where places grow, no entry that passes stands before it
first_least : (t : Entry → Bool) {lo hi : ℕ} (pre : List Entry) (e : Entry) (suf : List Entry) → Grow lo (pre ++ e ∷ suf) hi → t e ≡ true
    → (c : Entry) × (first_of t (pre ++ e ∷ suf) ≡ Some c) × (c.place ≤ e.place)
first_least t [] e suf g p = (e, rw p, le_refl e.place)
first_least t (d ∷ pre) e suf (step l g) p = go (t d) refl (first_least t pre e suf g p)
  where
    go : (b : Bool) → t d ≡ b → ((c : Entry) × (first_of t (pre ++ e ∷ suf) ≡ Some c) × (c.place ≤ e.place))
        → (c : Entry) × (first_of t (d ∷ (pre ++ e ∷ suf)) ≡ Some c) × (c.place ≤ e.place)
    go true r ih = let k = grow_behind pre e suf g in (d, rw r, omega arith)
    go false r ih = (ih.0, rw r ih.1, ih.2)

-- tests that agree on a list
first_agree : (t s : Entry → Bool) (x : List Entry) → ((pre : List Entry) (e : Entry) (suf : List Entry) → x ≡ pre ++ e ∷ suf → t e ≡ s e) → first_of t x ≡ first_of s x
first_agree t s [] h = refl
first_agree t s (c ∷ x) h =
    rw (h [] c x refl, first_agree t s x (λ pre e suf q. h (c ∷ pre) e suf (ap (λ (u : List Entry). c ∷ u) q)))

-- ---- reads
find_stands : {a : Area} {f : List ℕ} (h : ℕ) (e : Entry) → Settled a f → find h (entries a f) ≡ Some e → StandsAt f e.place h e.words
find_stands {a} {f} h e s q =
    let r = find_some h (entries a f) e q in
    subst (λ (u : ℕ). StandsAt f e.place u e.words) r.3 (stands s r.0 e r.1 r.2)

-- the entry of a read that is answered
read_finds : {a : Area} {f : List ℕ} (h p n : ℕ) → Usable a f → read_of a h f ≡ Ok (record { place = p; words = n })
    → (e : Entry) × (find h (entries a f) ≡ Some e) × (e.place ≡ p) × (length e.words ≡ n) × (ready a f ≡ true)
read_finds {a} {f} h p n g q =
    let c = checked_passed Err (find_checks a f h) _ (Ok (record { place = p; words = n })) (λ m z. let y : ◌≡◌ {A = ℕ} 0 1 = cc in omega arith) q in
    let k = c.0.1 in
    let e = found_some (find h (entries a f)) k.1.1.1.0 in (
      e.0,
      e.1,
      ap place_of (sym e.1) ∙ ap reading_place c.1,
      ap data_length (sym e.1) ∙ ap reading_words c.1,
      passed_ready a f k.0 k.1.0,
    )

-- a handle that is found is a legal one
found_legal : (a : Area) (f : List ℕ) (h : ℕ) (e : Entry) → find h (entries a f) ≡ Some e → bad_handle h ≡ false
found_legal a f h e q =
    let r = find_some h (entries a f) e q in
    let l : h < special = subst (λ (u : ℕ). u < special) r.3 (small_handle a f r.0 e r.1 r.2) in
    rw (not-true (eqb h 0) r.4, lt-leb special h l)

-- what the map holds is read where it stands, and what it does not hold is not found
pub read_held : {a : Area} {f : List ℕ} (h : ℕ) (d : List ℕ) → Usable a f → ready a f ≡ true → map_of a f h ≡ Some d
    → (p : ℕ) × (read_of a h f ≡ Ok (record { place = p; words = length d })) × StandsAt f p h d
unfolding map_of
read_held {a} {f} h d g r m =
    let t = data_some (find h (entries a f)) d m in
    let b = found_legal a f h t.0 t.1 in (
      t.0.place,
      passed_checked Err (find_checks a f h) _ (g.right, (ready_sound a f g r, (ready_passed a f r, (b, (ap is_none t.1, tt)))))
          ∙ ap (λ (u : Option Entry). Ok (record { place = place_of u; words = data_length u })) t.1
          ∙ ap (λ (u : List ℕ). Ok (record { place = t.0.place; words = length u })) t.2,
      subst (λ (u : List ℕ). StandsAt f t.0.place h u) t.2 (find_stands h t.0 (ready_settled g r).0 t.1),
    )

pub read_absent : {a : Area} {f : List ℕ} (h : ℕ) → Usable a f → ready a f ≡ true → bad_handle h ≡ false → map_of a f h ≡ None → read_of a h f ≡ Err NotFound
unfolding map_of
read_absent {a} {f} h g r b m = rw (g.right, ready_sound a f g r, ready_passed a f r, b, data_none (find h (entries a f)) m)

-- and back
pub held_read : {a : Area} {f : List ℕ} (h p n : ℕ) → Usable a f → read_of a h f ≡ Ok (record { place = p; words = n })
    → (map_of a f h ≡ Some (take n (drop (suc p) f))) × StandsAt f p h (take n (drop (suc p) f))
unfolding map_of
held_read {a} {f} h p n g q =
    let r = read_finds h p n g q in
    let s = find_stands h r.0 (ready_settled g r.4).0 r.1 in
    let w : r.0.words ≡ take n (drop (suc p) f) = sym s.words ∙ ap₂ (λ (k u : ℕ). take k (drop (suc u) f)) r.3 r.2 in (
      ap data_of r.1 ∙ ap Some w,
      subst (λ (u : ℕ). StandsAt f u h (take n (drop (suc p) f))) r.2 (subst (λ (u : List ℕ). StandsAt f r.0.place h u) w s),
    )

-- ---- searches
-- where no handle is live twice, a live entry is the map's
live_map : (a : Area) (f : List ℕ) (pre : List Entry) (e : Entry) (suf : List Entry) → entries a f ≡ pre ++ e ∷ suf → twice (entries a f) ≡ false
    → is_live e.handle ≡ true → map_of a f e.handle ≡ Some e.words
unfolding map_of
live_map a f pre e suf q t l =
    rw q (look_add e.handle pre e suf l (once_apart pre e suf (rw q at t)) ∙ rw (eq-eqb e.handle e.handle refl))

-- an entry's place is one to go on from
pub entry_place : (a : Area) (f : List ℕ) (pre : List Entry) (e : Entry) (suf : List Entry) → entries a f ≡ pre ++ e ∷ suf → bad_place a f e.place ≡ false
unfolding bad_place
entry_place a f pre e suf q =
    rw (q, any_at (is_at e.place) pre e suf (eq-eqb e.place e.place refl)) (and-false (not (eqb e.place 0)))

-- and there is no other but 0
pub place_entry : (a : Area) (f : List ℕ) (p : ℕ) → bad_place a f p ≡ false → (p ≡ 0) ⊎ ((pre : List Entry) × (e : Entry) × (suf : List Entry) × (entries a f ≡ pre ++ e ∷ suf) × (e.place ≡ p))
unfolding bad_place
place_entry a f p q = go (eqb p 0) refl (any_of (is_at p) (entries a f)) refl
  where
    go : (b : Bool) → eqb p 0 ≡ b → (c : Bool) → any_of (is_at p) (entries a f) ≡ c
        → (p ≡ 0) ⊎ ((pre : List Entry) × (e : Entry) × (suf : List Entry) × (entries a f ≡ pre ++ e ∷ suf) × (e.place ≡ p))
    go true x c y = inl (eqb-true p 0 x)
    go false x true y = let w = any_some (is_at p) (entries a f) y in inr (w.0, w.1, w.2, w.3, eqb-true w.1.place p w.4)
    go false x false y = absurd (true≢false (rw (x, y) at q))

module _ {a : Area} {f : List ℕ} (mask pattern place : ℕ) where
  pub searched : (c : Entry) → Usable a f → ready a f ≡ true → bad_place a f place ≡ false → next a f mask pattern place ≡ Some c
      → search_of a mask pattern place f ≡ Ok c.place
  searched c g r b q =
      passed_checked Err (search_checks a f mask pattern place) _ (g.right, (ready_sound a f g r, (ready_passed a f r, (b, (ap is_none q, tt)))))
      ∙ ap (λ (u : Option Entry). Ok (place_of u)) q

  -- what it yields is a match behind the place, and the map's
  pub search_yields : (q : ℕ) → Usable a f → search_of a mask pattern place f ≡ Ok q
      → (h : ℕ) × (d : List ℕ) × (place < q) × StandsAt f q h d × (map_of a f h ≡ Some d) × (is_live h ≡ true) × (eqb (bit_and h mask) (bit_and pattern mask) ≡ true)
      × (bad_place a f q ≡ false)
  unfolding next
  search_yields q g y =
      let c = checked_passed Err (search_checks a f mask pattern place) _ (Ok q) (λ m z. let y : ◌≡◌ {A = ℕ} 0 1 = cc in omega arith) y in
      let k = c.0.1 in
      let s = ready_settled g (passed_ready a f k.0 k.1.0) in
      let o = found_some (next a f mask pattern place) k.1.1.1.0 in
      let e = o.0 in
      let r = first_some (wanted mask pattern place) (entries a f) e o.1 in
      let z : Ok e.place ≡ Ok q = ap (λ (u : Option Entry). Ok (place_of u)) (sym o.1) ∙ c.1 in
      let p : e.place ≡ q = cc in
      let b = ltb-true place e.place (and_left (ltb place e.place) _ r.3) in
      let m = and_right (ltb place e.place) _ r.3 in
      let l = and_left (is_live e.handle) _ m in (
        e.handle,
        e.words,
        omega arith,
        subst (λ (u : ℕ). StandsAt f u e.handle e.words) p (stands s.0 r.0 e r.1 r.2),
        live_map a f r.0 e r.1 r.2 s.1 l,
        l,
        and_right (is_live e.handle) _ m,
        subst (λ (u : ℕ). bad_place a f u ≡ false) p (entry_place a f r.0 e r.1 r.2),
      )

  next_least : Settled a f → (pre : List Entry) (e : Entry) (suf : List Entry) → entries a f ≡ pre ++ e ∷ suf → wanted mask pattern place e ≡ true
      → (c : Entry) × (next a f mask pattern place ≡ Some c) × (c.place ≤ e.place)
  unfolding next
  next_least s pre e suf q t = rw q (first_least (wanted mask pattern place) pre e suf (grow_entries s (pre ++ e ∷ suf) q) t)

  -- and no match behind the place stands before it
  pub search_skips_none : (h p n : ℕ) → Usable a f → bad_place a f place ≡ false → read_of a h f ≡ Ok (record { place = p; words = n })
      → eqb (bit_and h mask) (bit_and pattern mask) ≡ true → place < p → (q : ℕ) × (search_of a mask pattern place f ≡ Ok q) × (q ≤ p)
  search_skips_none h p n g b q m l =
      let r = read_finds h p n g q in
      let i = find_some h (entries a f) r.0 r.1 in
      let y : wanted mask pattern place r.0 ≡ true = rw (r.2, i.3, lt-ltb place p l, i.4, m) in
      let x = next_least (ready_settled g r.4).0 i.0 r.0 i.1 i.2 y in
      (x.0.place, searched x.0 g r.4 b x.1, subst (λ (u : ℕ). x.0.place ≤ u) r.2 x.2)

-- under a mask of all bits of a handle a search is a read
masked : (h : ℕ) → h < special → bit_and h 0xFFFF ≡ h
masked h l = let k : h < 2 ^ 16 = omega arith in and_mask h 16 ∙ mod-eq_of_lt k

next_find : (a : Area) (f : List ℕ) (h : ℕ) → h < special → next a f 0xFFFF h 0 ≡ find h (entries a f)
unfolding next
next_find a f h l = first_agree (wanted 0xFFFF h 0) (live_of h) (entries a f) same
  where
    go : (e : Entry) (b : Bool) → eqb e.handle h ≡ b → is_live e.handle && eqb e.handle h ≡ is_live h && eqb e.handle h
    go e true r = rw (eqb-true e.handle h r)
    go e false r = rw (r, and-false (is_live e.handle), and-false (is_live h))

    same : (pre : List Entry) (e : Entry) (suf : List Entry) → entries a f ≡ pre ++ e ∷ suf → wanted 0xFFFF h 0 e ≡ live_of h e
    same pre e suf q =
        rw (lt-ltb 0 e.place (place_some a f pre e suf q), masked e.handle (small_handle a f pre e suf q), masked h l) (go e (eqb e.handle h) refl)

pub search_read : {a : Area} {f : List ℕ} (h p n : ℕ) → Usable a f → read_of a h f ≡ Ok (record { place = p; words = n }) → search_of a 0xFFFF h 0 f ≡ Ok p
unfolding bad_place
search_read {a} {f} h p n g q =
    let r = read_finds h p n g q in
    let i = find_some h (entries a f) r.0 r.1 in
    let l : h < special = subst (λ (u : ℕ). u < special) i.3 (small_handle a f i.0 r.0 i.1 i.2) in
    searched 0xFFFF h 0 r.0 g r.4 refl (next_find a f h l ∙ r.1) ∙ ap Ok r.2
