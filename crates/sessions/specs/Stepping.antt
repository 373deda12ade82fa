-- A list and a read of the console against the rules: what a list says is what stepping a search from 0 gives, to the step that is
-- refused; and what a read says is what the map holds. Assumes nothing.
use Rattle.std.specs.Prelude.{◌≡◌, Bool, true, false, ◌⊎◌, ◌↔◌, ℕ, suc, zero, ◌+◌, ◌-◌, ◌*◌, ◌≤◌, ◌<◌, min, get_or, take, drop, Some, None, Ok, Err}
use Rattle.std.proofs.Math.Path.{refl, sym}
use Rattle.std.proofs.Common.{ap, ap₂, ◌∙◌, subst, inl, inr, arith, le_refl, length-take, take_all, take-take, lt-ltb, le-ltb}
use mathlib.Core.List.{List, [], ◌∷◌, ◌++◌, append_assoc, nil≢cons}
use Rattle.std.proofs.Math.ListN.{length}
use Rattle.flash.specs.Stores.{Words}
use Rattle.rules.specs.declared.Area.{Area}
use Rattle.rules.specs.declared.Refusal.{Refusal}
use Rattle.rules.specs.declared.Refusal.TheVariants.{Geometry, Damaged, Unready, BadHandle, BadLength, NotFound, NoRoom, BadPlace}
use Rattle.rules.specs.Words.{handle_of}
use Rattle.rules.specs.Areas.{Entry, base, page, entries, any_of, first_of, map_of, ready}
use Rattle.rules.specs.Refusals.{refusal_number, yielded_number, wrong_geometry, find_checks, Reading, Yielded}
use Rattle.rules.specs.Search.{read_of, matches, wanted, next, bad_place, search_checks, search_of, Search, step_of, place_after, moved}
use Rattle.rules.specs.Laws.{nor_left, nor_right, checked_passed}
use Rattle.rules.specs.Places.{drop_take}
use Rattle.demands.specs.Terms.{Goods, StandsAt}
use Rattle.demands.specs.Pages.{goods_right, goods_head, goods_items}
use Rattle.demands.specs.Runs.{Usable, words_take}
use Rattle.demands.specs.Layout.{located}
use Rattle.demands.specs.Settled.{Settled, ready_settled, ready_sound, ready_passed, passed_ready}
use Rattle.demands.specs.Reading.{Grow, end, step, grow_lower, grow_behind, grow_entries, place_some, stands, read_held, held_read, entry_place, searched}
use Rattle.frames.specs.declared.Shape.{Shape}
use Rattle.frames.specs.declared.Reply.{Reply}
use Rattle.frames.specs.Frames.{area_of, run_words, run_of, handles, eights, fours, list_handles, tail_bytes, read_reply, list_reply}

-- ---- the steps of a search
-- a search of an area and its run, behind a place; from 0 it is opened
abbrev pub search_at : Area → List ℕ → ℕ → ℕ → ℕ → Search
search_at a f mask pattern p = record { area = a; run = f; mask = mask; pattern = pattern; place = p }

-- the handle of the header at a place
abbrev pub handle_at : List ℕ → ℕ → ℕ
handle_at f p = handle_of (get_or f p 0)

-- what a step gives, in front of what the later ones give; nothing comes behind a refused one
abbrev pub gives : List ℕ → Yielded → List ℕ → List ℕ
gives f (Ok p) hs = handle_at f p ∷ hs
gives f (Err n) hs = []

-- what n steps yield, as handles, up to the first that is refused
abbrev pub yields : ℕ → Search → List ℕ
yields zero s = []
yields (suc n) s = gives s.run (step_of s) (yields n (moved s))

-- the search behind n steps
abbrev pub after : ℕ → Search → Search
after zero s = s
after (suc n) s = after n (moved s)

-- ---- what the console says
-- the search that a list stands for, its reply, and a read's
abbrev pub list_search : Shape → List ℕ → ℕ → ℕ → Search
list_search a f mask pattern = search_at (area_of a) (run_of a f) mask pattern 0

abbrev pub list_said : Shape → List ℕ → ℕ → ℕ → Reply
list_said a f mask pattern = list_reply a mask pattern (search_of (area_of a) mask pattern 0 (run_of a f))

abbrev pub read_said : Shape → List ℕ → ℕ → Reply
read_said a f h = read_reply (read_of (area_of a) h (run_of a f))

-- ---- a refused step
stays : (s : Search) (r : Refusal) → step_of s ≡ Err r → moved s ≡ s
stays s r q = ap (λ (y : Yielded). search_at s.area s.run s.mask s.pattern (place_after s.place y)) q

-- every later one is refused so, and nothing is yielded
pub refused_again : (n : ℕ) (s : Search) (r : Refusal) → step_of s ≡ Err r → step_of (after n s) ≡ Err r
refused_again zero s r q = q
refused_again (suc n) s r q = ap (λ (t : Search). step_of (after n t)) (stays s r q) ∙ refused_again n s r q

pub refused_yields : (n : ℕ) (s : Search) (r : Refusal) → step_of s ≡ Err r → yields n s ≡ []
refused_yields zero s r q = refl
refused_yields (suc n) s r q = ap (λ (y : Yielded). gives s.run y (yields n (moved s))) q

-- ---- the entries behind a place
first_behind : (t : Entry → Bool) (x y : List Entry) → any_of t x ≡ false → first_of t (x ++ y) ≡ first_of t y
first_behind t [] y q = refl
first_behind t (c ∷ x) y q = rw (nor_left (t c) _ q) (first_behind t x y (nor_right (t c) _ q))

any_append : (t : Entry → Bool) (x y : List Entry) → any_of t x ≡ false → any_of t (x ++ y) ≡ any_of t y
any_append t [] y q = refl
any_append t (c ∷ x) y q = rw (nor_left (t c) _ q) (any_append t x y (nor_right (t c) _ q))

-- none up to an entry is behind it
none_ahead : (mask pattern : ℕ) {lo hi : ℕ} (pre : List Entry) (e : Entry) (suf : List Entry) → Grow lo (pre ++ e ∷ suf) hi → any_of (wanted mask pattern e.place) (pre ++ e ∷ []) ≡ false
none_ahead mask pattern [] e suf (step l g) = rw (le-ltb e.place e.place (le_refl e.place))
none_ahead mask pattern (c ∷ pre) e suf (step l g) =
    let k = grow_behind pre e suf g in
    rw (le-ltb e.place c.place (omega arith)) (none_ahead mask pattern pre e suf g)

-- ---- a ready area
-- an entry's header is at its place, with its handle
header_handle : (h : ℕ) (d : List ℕ) → length d ≤ 32 → handle_of (65536 * h + (length d + 1)) ≡ h
header_handle h d l = omega arith

module _ {a : Area} {f : List ℕ} (s : Settled a f) (pre : List Entry) (e : Entry) (suf : List Entry) (q : entries a f ≡ pre ++ e ∷ suf) where
  short_data : length e.words ≤ 32
  unfolding entries
  short_data =
      let n = located a f a.pages 0 pre e suf q in
      (goods_head (goods_right n.es (subst Goods n.is (goods_items (page a f n.i))))).short

  handle_there : handle_at f e.place ≡ e.handle
  handle_there = ap handle_of (stands s pre e suf q).head ∙ header_handle e.handle e.words short_data

-- entries grow from behind 0 on
grow_some : {a : Area} {f : List ℕ} → Settled a f → (x : List Entry) → entries a f ≡ x → (hi : ℕ) × Grow 1 x hi
grow_some {a} {f} s [] q = (1, end (le_refl 1))
grow_some {a} {f} s (e ∷ x) q = go (grow_entries s (e ∷ x) q)
  where
    go : Grow (base a 0) (e ∷ x) (base a (0 + a.pages)) → (hi : ℕ) × Grow 1 (e ∷ x) hi
    go (step l g) = (base a (0 + a.pages), step (place_some a f [] e x q) g)

module _ {a : Area} {f : List ℕ} (mask pattern : ℕ) (g : Usable a f) (r : ready a f ≡ true) where
  abbrev at : ℕ → Search
  at p = search_at a f mask pattern p

  settled : Settled a f
  settled = (ready_settled g r).0

  not_found : (p : ℕ) → bad_place a f p ≡ false → next a f mask pattern p ≡ None → step_of (at p) ≡ Err NotFound
  not_found p b q = rw (g.right, ready_sound a f g r, ready_passed a f r, b, q)

  -- a search that has reached the place p: the entries es are still before it
  record Reached (es : List Entry) (p : ℕ) : Type 0 where
    passed : List Entry
    hi : ℕ
    all : entries a f ≡ passed ++ es
    done : any_of (wanted mask pattern p) passed ≡ false
    behind : Grow (suc p) es hi
    place : bad_place a f p ≡ false

  -- its next step: refused, or an entry's place
  data Ahead (es : List Entry) (p : ℕ) : Type 0 where
    no_match : step_of (at p) ≡ Err NotFound → handles mask pattern es ≡ [] → Ahead es p
    match : (e : Entry) (suf : List Entry) → step_of (at p) ≡ Ok e.place → handle_at f e.place ≡ e.handle
        → handles mask pattern es ≡ e.handle ∷ handles mask pattern suf → Reached suf e.place → Ahead es p

  next_behind : {es : List Entry} {p : ℕ} → (c : Reached es p) → next a f mask pattern p ≡ first_of (wanted mask pattern p) es
  unfolding next
  next_behind {es} {p} c = rw c.all (first_behind (wanted mask pattern p) c.passed es c.done)

  -- past one more entry
  on : {e : Entry} {es : List Entry} {p q : ℕ} → (c : Reached (e ∷ es) p) → any_of (wanted mask pattern q) (c.passed ++ e ∷ []) ≡ false → Grow (suc q) es c.hi
      → bad_place a f q ≡ false → Reached es q
  on {e} {es} c d k b =
      record { passed = c.passed ++ e ∷ []; hi = c.hi; all = c.all ∙ sym (append_assoc c.passed (e ∷ []) es); done = d; behind = k; place = b }

  skipped : {e : Entry} {es : List Entry} {p : ℕ} → handles mask pattern (e ∷ es) ≡ handles mask pattern es → Ahead es p → Ahead (e ∷ es) p
  skipped h (no_match s n) = no_match s (h ∙ n)
  skipped h (match e suf s t n c) = match e suf s t (h ∙ n) c

  ahead : (es : List Entry) (p : ℕ) → Reached es p → Ahead es p
  ahead [] p c = no_match (not_found p c.place (next_behind c)) refl
  ahead (e ∷ es) p c = go (matches mask pattern e) refl c.behind (ahead es p)
    where
      go : (b : Bool) → matches mask pattern e ≡ b → Grow (suc p) (e ∷ es) c.hi → (Reached es p → Ahead es p) → Ahead (e ∷ es) p
      go true m (step l k) ih =
          let n : next a f mask pattern p ≡ Some e = next_behind c ∙ rw (lt-ltb p e.place l, m) in
          match e es (searched mask pattern p e g r c.place n) (handle_there settled c.passed e es c.all) (rw m)
          (on c (none_ahead mask pattern c.passed e es (grow_entries settled (c.passed ++ e ∷ es) c.all)) k (entry_place a f c.passed e es c.all))
      go false m (step l k) ih =
          let d : any_of (wanted mask pattern p) (c.passed ++ e ∷ []) ≡ false = any_append (wanted mask pattern p) c.passed (e ∷ []) c.done ∙ rw (lt-ltb p e.place l, m) in
          let u : suc p ≤ suc e.place = omega arith in
          skipped (rw m) (ih (on c d (grow_lower u k) c.place))

  -- what n steps yield from there
  yields_ahead : (n : ℕ) (es : List Entry) (p : ℕ) → Reached es p → yields n (at p) ≡ take n (handles mask pattern es)
  yields_ahead zero es p c = refl
  yields_ahead (suc n) es p c = go (ahead es p c) (yields_ahead n)
    where
      go : Ahead es p → ((es : List Entry) (p : ℕ) → Reached es p → yields n (at p) ≡ take n (handles mask pattern es)) → yields (suc n) (at p) ≡ take (suc n) (handles mask pattern es)
      go (no_match s m) ih = refused_yields (suc n) (at p) NotFound s ∙ ap (take (suc n)) (sym m)
      go (match e suf s t m d) ih =
          ap (λ (y : Yielded). gives f y (yields n (at (place_after p y)))) s
          ∙ ap₂ ◌∷◌ t (ih suf e.place d)
          ∙ ap (take (suc n)) (sym m)

  -- and the step behind the last match
  ends_ahead : (n : ℕ) (es : List Entry) (p : ℕ) → Reached es p → length (handles mask pattern es) ≤ n → step_of (after n (at p)) ≡ Err NotFound
  ends_ahead zero es p c l = go (ahead es p c)
    where
      go : Ahead es p → step_of (at p) ≡ Err NotFound
      go (no_match s m) = s
      go (match e suf s t m d) = let z : suc (length (handles mask pattern suf)) ≤ 0 = rw m at l in absurd (omega arith)
  ends_ahead (suc n) es p c l = go (ahead es p c) (ends_ahead n)
    where
      go : Ahead es p → ((es : List Entry) (p : ℕ) → Reached es p → length (handles mask pattern es) ≤ n → step_of (after n (at p)) ≡ Err NotFound)
          → step_of (after (suc n) (at p)) ≡ Err NotFound
      go (no_match s m) ih = refused_again (suc n) (at p) NotFound s
      go (match e suf s t m d) ih =
          let z : suc (length (handles mask pattern suf)) ≤ suc n = rw m at l in
          ap (λ (y : Yielded). step_of (after n (at (place_after p y)))) s ∙ ih suf e.place d (omega arith)

  -- ---- from 0
  opened : Reached (entries a f) 0
  unfolding bad_place
  opened =
      let w = grow_some settled (entries a f) refl in
      record { passed = []; hi = w.0; all = refl; done = refl; behind = w.1; place = refl }

  -- n steps yield the first n handles of the list
  pub steps_yield : (n : ℕ) → yields n (search_at a f mask pattern 0) ≡ take n (handles mask pattern (entries a f))
  steps_yield n = yields_ahead n (entries a f) 0 opened

  -- and a step behind the last is refused as NOTFOUND
  pub steps_end : (n : ℕ) → length (handles mask pattern (entries a f)) ≤ n → step_of (after n (search_at a f mask pattern 0)) ≡ Err NotFound
  steps_end n l = ends_ahead n (entries a f) 0 opened l

  -- the first is refused so just when nothing matches
  pub none_found : (step_of (search_at a f mask pattern 0) ≡ Err NotFound) ↔ (handles mask pattern (entries a f) ≡ [])
  none_found = (
    (λ s. first_none (handles mask pattern (entries a f)) (sym (steps_yield 1) ∙ refused_yields 1 (at 0) NotFound s)),
    (λ e. steps_end 0 (rw e (le_refl 0))),
  )
    where
      first_none : (hs : List ℕ) → take 1 hs ≡ [] → hs ≡ []
      first_none [] q = refl
      first_none (h ∷ hs) q = absurd (nil≢cons (sym q))

-- a step that yields is on a ready area
yields_ready : (a : Area) (f : List ℕ) (mask pattern p q : ℕ) → search_of a mask pattern p f ≡ Ok q → (wrong_geometry a f ≡ false) × (ready a f ≡ true)
yields_ready a f mask pattern p q y =
    let c = checked_passed Err (search_checks a f mask pattern p) _ (Ok q) (λ m z. let y : ◌≡◌ {A = ℕ} 0 1 = cc in omega arith) y in
    (c.0.0, passed_ready a f c.0.1.0 c.0.1.1.0)

-- ---- the area of the console
pub usable_run : (a : Shape) {f : List ℕ} → Words f → wrong_geometry (area_of a) (run_of a f) ≡ false → Usable (area_of a) (run_of a f)
unfolding run_of
usable_run a w q = record { words = words_take (run_words a) w; right = q }

-- ---- a list
module _ (a : Shape) {f : List ℕ} (w : Words f) (mask pattern : ℕ) where
  -- of so many steps as there are handles, or more
  listed_all : (q n : ℕ) → step_of (list_search a f mask pattern) ≡ Ok q → length (list_handles a mask pattern f) ≤ n
      → (list_handles a mask pattern f ≡ yields n (list_search a f mask pattern)) × (step_of (after n (list_search a f mask pattern)) ≡ Err NotFound)
  unfolding list_handles
  listed_all q n y l =
      let t = yields_ready (area_of a) (run_of a f) mask pattern 0 q y in
      let u = usable_run a w t.0 in
      let hs = handles mask pattern (entries (area_of a) (run_of a f)) in
      let k : length hs ≤ n = rw t.0 at l in
      rw t.0 (sym (take_all n hs k) ∙ sym (steps_yield mask pattern u t.1 n), steps_end mask pattern u t.1 n k)

  -- it lists what they yield, and one more is refused as NOTFOUND; or it is refused as the first step is
  pub list_is_steps : (n : ℕ) → length (list_handles a mask pattern f) ≤ n
      → (((list_said a f mask pattern).number ≡ 0x00)
      × (list_handles a mask pattern f ≡ yields n (list_search a f mask pattern))
      × (step_of (after n (list_search a f mask pattern)) ≡ Err NotFound))
      ⊎ ((r : Refusal) × ((list_said a f mask pattern).number ≡ refusal_number r) × (step_of (list_search a f mask pattern) ≡ Err r))
  list_is_steps n l = go (step_of (list_search a f mask pattern)) refl
    where
      go : (y : Yielded) → step_of (list_search a f mask pattern) ≡ y
          → (((list_reply a mask pattern y).number ≡ 0x00)
          × (list_handles a mask pattern f ≡ yields n (list_search a f mask pattern))
          × (step_of (after n (list_search a f mask pattern)) ≡ Err NotFound))
          ⊎ ((r : Refusal) × ((list_reply a mask pattern y).number ≡ refusal_number r) × (y ≡ Err r))
      go (Ok q) e = let t = listed_all q n e l in inl (refl, t.0, t.1)
      go (Err r) e = inr (r, refl, refl)

  -- so its line has the number of the first step, and then the handles that the steps yield
  pub list_says : (n : ℕ) → length (list_handles a mask pattern f) ≤ n
      → ((list_said a f mask pattern).number ≡ yielded_number (step_of (list_search a f mask pattern)))
      × (tail_bytes (list_said a f mask pattern).tail f ≡ fours (yields n (list_search a f mask pattern)))
  list_says n l = go (step_of (list_search a f mask pattern)) refl
    where
      go : (y : Yielded) → step_of (list_search a f mask pattern) ≡ y
          → ((list_reply a mask pattern y).number ≡ yielded_number y)
          × (tail_bytes (list_reply a mask pattern y).tail f ≡ fours (yields n (list_search a f mask pattern)))
      go (Ok q) e = (refl, ap fours (listed_all q n e l).0)
      go (Err r) e = (refl, ap fours (sym (refused_yields n (list_search a f mask pattern) r e)))

-- ---- a read
-- words in the front of a list are the list's own
front_words : (n m k : ℕ) (f : List ℕ) → n + m ≤ length (take k f) → take m (drop n (take k f)) ≡ take m (drop n f)
front_words n m k f l =
    let e : n + m ≤ min k (length f) = rw (length-take k f) at l in
    let z : k ≡ n + (k - n) = omega arith in
    ap (λ (u : ℕ). take m (drop n (take u f))) z
    ∙ ap (λ (u : List ℕ). take m u) (drop_take n (k - n) f (omega arith))
    ∙ take-take m (k - n) (drop n f) (omega arith)

words_run : (a : Shape) (f : List ℕ) (p h : ℕ) (d : List ℕ) → StandsAt (run_of a f) p h d → take (length d) (drop (suc p) f) ≡ d
unfolding run_of
words_run a f p h d s =
    let i : p + length d < length (take (run_words a) f) = s.inside in
    sym (front_words (suc p) (length d) (run_words a) f (omega arith)) ∙ s.words

-- no refusal is DONE
pub refusal_some : (r : Refusal) → refusal_number r ≡ 0x00 → ⊥
refusal_some Geometry e = omega arith
refusal_some Damaged e = omega arith
refusal_some Unready e = omega arith
refusal_some BadHandle e = omega arith
refusal_some BadLength e = omega arith
refusal_some NotFound e = omega arith
refusal_some NoRoom e = omega arith
refusal_some BadPlace e = omega arith

module _ (a : Shape) {f : List ℕ} (w : Words f) (h : ℕ) where
  -- what the map holds is what a read says
  pub read_is_map : (d : List ℕ) → wrong_geometry (area_of a) (run_of a f) ≡ false → ready (area_of a) (run_of a f) ≡ true → map_of (area_of a) (run_of a f) h ≡ Some d
      → ((read_said a f h).number ≡ 0x00) × (tail_bytes (read_said a f h).tail f ≡ eights d)
  read_is_map d q r m =
      let t = read_held h d (usable_run a w q) r m in
      rw t.1 (refl, ap eights (words_run a f t.0 h d t.2))

  -- and it says nothing else
  pub map_is_read : (read_said a f h).number ≡ 0x00 → (d : List ℕ) × (map_of (area_of a) (run_of a f) h ≡ Some d) × (tail_bytes (read_said a f h).tail f ≡ eights d)
  map_is_read e = go (read_of (area_of a) h (run_of a f)) refl e
    where
      go : (x : Reading) → read_of (area_of a) h (run_of a f) ≡ x → (read_reply x).number ≡ 0x00
          → (d : List ℕ) × (map_of (area_of a) (run_of a f) h ≡ Some d) × (tail_bytes (read_said a f h).tail f ≡ eights d)
      go (Ok r) q e =
          let c = checked_passed Err (find_checks (area_of a) (run_of a f) h) _ (Ok r) (λ m z. let y : ◌≡◌ {A = ℕ} 0 1 = cc in omega arith) q in
          let d = take r.words (drop (suc r.place) (run_of a f)) in
          let m = (held_read h r.place r.words (usable_run a w c.0.0) q).0 in
          (d, m, (read_is_map d c.0.0 (passed_ready (area_of a) (run_of a f) c.0.1.0 c.0.1.1.0) m).1)
      go (Err r) q e = absurd (refusal_some r e)
