-- Room for an entry: how many stores an append and a compaction take, the pages that have the room or make it by compaction, and that
-- within the quota there is one of the latter. Assumes nothing.
use Rattle.std.specs.Prelude.{◌≡◌, refl, List, Bool, true, false, cond, ℕ, suc, zero, ◌+◌, ◌*◌, ◌≤◌, ◌<◌, length, leb, Some, None}
use Rattle.std.proofs.Common.{⊎_elim, zero-le, arith, suc-mul, zero-mul, eq-or-lt_of_le, length-append, leb-true, leb-false}
use Rattle.rules.specs.declared.Area.{Area}
use Rattle.rules.specs.Words.{open_words, longest, quota, last_seal}
use Rattle.rules.specs.Walk.{items, stop}
use Rattle.rules.specs.Areas.{base, page, page_entries, entries_from, entries, find, live_words}
use Rattle.rules.specs.Refusals.{area_quota}
use Rattle.rules.specs.Lists.{bare_if, live_codes, copy_to, compact, lowest, leaves_room, room_page, makes_room, compact_page, append}
use Rattle.rules.specs.Laws.{live_append}
use Rattle.rules.specs.Places.{Right}
use Rattle.demands.specs.Runs.{length_puts}
use Rattle.demands.specs.Entries.{live_kept}

-- ---- how many stores
pub copy_length : (a : Area) (j i : ℕ) (ws : List ℕ) → length (copy_to a j i ws) ≡ length ws + 2
copy_length a j i ws = simp (length-append, length_puts)

length_live : (a : Area) (f : List ℕ) (i : ℕ) → live_words (page_entries a f i) ≡ length (live_codes a f i)
unfolding live_codes
length_live a f i = live_kept (base a i + 2) (items (page a f i))

pub compact_length : (a : Area) (i : ℕ) (f : List ℕ) → length (compact a i f) ≡ 2 * live_words (page_entries a f i) + 8
compact_length a i f = rw (length_live a f i) (simp (length-append, length_puts) (omega arith))

pub append_length : (a : Area) (h : ℕ) (d : List ℕ) (i : ℕ) (f : List ℕ) → length (append a h d i f) ≡ length d + 2 + length (bare_if (find h (entries a f)))
append_length a h d i f = simp (length-append, length_puts) (omega arith)

-- ---- the lowest page that passes a test
lowest_some : (t : ℕ → Bool) (n j i : ℕ) → lowest t n j ≡ Some i
    → (j ≤ i) × (i < j + n) × (t i ≡ true) × ((l : ℕ) → j ≤ l → l < i → t l ≡ false)
lowest_some t zero j i e = absurd (let z : ◌≡◌ {A = ℕ} 0 1 = cc in omega arith)
lowest_some t (suc n) j i e = go (t j) refl e (lowest_some t n (suc j) i)
  where
    go : (b : Bool) → t j ≡ b → cond b (Some j) (lowest t n (suc j)) ≡ Some i
        → (lowest t n (suc j) ≡ Some i → (suc j ≤ i) × (i < suc j + n) × (t i ≡ true) × ((l : ℕ) → suc j ≤ l → l < i → t l ≡ false))
        → (j ≤ i) × (i < j + suc n) × (t i ≡ true) × ((l : ℕ) → j ≤ l → l < i → t l ≡ false)
    go true p q ih =
        let z : j ≡ i = cc in
        (omega arith, omega arith, rw (← z) p, λ l lo hi. absurd (omega arith))
    go false p q ih =
        let w = ih q in
        let lo = w.0 in
        let hi = w.1 in
        (omega arith, omega arith, w.2, λ l b c. ⊎_elim (λ z. rw (← z) p) (λ d. w.3 l d c) (eq-or-lt_of_le b))

lowest_none : (t : ℕ → Bool) (n j : ℕ) → lowest t n j ≡ None → (i : ℕ) → j ≤ i → i < j + n → t i ≡ false
lowest_none t zero j e i lo hi = absurd (omega arith)
lowest_none t (suc n) j e i lo hi = go (t j) refl e (λ q b. lowest_none t n (suc j) q i b (omega arith))
  where
    go : (b : Bool) → t j ≡ b → cond b (Some j) (lowest t n (suc j)) ≡ None → (lowest t n (suc j) ≡ None → suc j ≤ i → t i ≡ false) → t i ≡ false
    go true p q ih = absurd (let z : ◌≡◌ {A = ℕ} 0 1 = cc in omega arith)
    go false p q ih = ⊎_elim (λ z. rw (← z) p) (λ b. ih q b) (eq-or-lt_of_le lo)

-- the page that a limit on a number allows
-- the lowest page on which a number is small enough
lowest_within : (t : ℕ → ℕ) (m n i : ℕ) → lowest (λ j. leb (t j) m) n 0 ≡ Some i → (i < n) × (t i ≤ m) × ((j : ℕ) → j < i → m < t j)
lowest_within t m n i e =
    let w = lowest_some (λ j. leb (t j) m) n 0 i e in
    let hi = w.1 in
    (omega arith, leb-true (t i) m w.2, λ j l. leb-false (t j) m (w.3 j zero-le l))

none_within : (t : ℕ → ℕ) (m n : ℕ) → lowest (λ j. leb (t j) m) n 0 ≡ None → (j : ℕ) → j < n → m < t j
none_within t m n e j l = leb-false (t j) m (lowest_none (λ j. leb (t j) m) n 0 e j zero-le (omega arith))

pub room_page_first : (a : Area) (f : List ℕ) (l i : ℕ) → room_page a f l ≡ Some i
    → (i < a.pages) × (stop (page a f i) + l ≤ last_seal a.words) × ((j : ℕ) → j < i → last_seal a.words < stop (page a f j) + l)
unfolding room_page leaves_room
room_page_first a f l i e = lowest_within (λ j. stop (page a f j) + l) (last_seal a.words) a.pages i e

pub no_room_page : (a : Area) (f : List ℕ) (l : ℕ) → room_page a f l ≡ None → (i : ℕ) → i < a.pages → last_seal a.words < stop (page a f i) + l
unfolding room_page leaves_room
no_room_page a f l e i h = none_within (λ j. stop (page a f j) + l) (last_seal a.words) a.pages e i h

pub compact_page_first : (a : Area) (f : List ℕ) (l i : ℕ) → compact_page a f l ≡ Some i
    → (i < a.pages) × (live_words (page_entries a f i) + l ≤ open_words a.words) × ((j : ℕ) → j < i → open_words a.words < live_words (page_entries a f j) + l)
unfolding compact_page makes_room
compact_page_first a f l i e = lowest_within (λ j. live_words (page_entries a f j) + l) (open_words a.words) a.pages i e

no_compact_page : (a : Area) (f : List ℕ) (l : ℕ) → compact_page a f l ≡ None → (i : ℕ) → i < a.pages → open_words a.words < live_words (page_entries a f i) + l
unfolding compact_page makes_room
no_compact_page a f l e i h = none_within (λ j. live_words (page_entries a f j) + l) (open_words a.words) a.pages e i h

-- ---- within the quota
-- where none of n pages can be compacted for l words, each holds more than its part of the quota
full_pages : (a : Area) (f : List ℕ) (l : ℕ) → longest ≤ open_words a.words → l ≤ longest → (n j : ℕ)
    → ((i : ℕ) → j ≤ i → i < j + n → open_words a.words < live_words (page_entries a f i) + l)
    → n * quota a.words + n ≤ live_words (entries_from a f n j)
full_pages a f l w b zero j h = let z = zero-mul (quota a.words) in omega arith
full_pages a f l w b (suc n) j h =
    let z = suc-mul n (quota a.words) in
    let one = h j (omega arith) (omega arith) in
    let v = live_append (page_entries a f j) (entries_from a f n (suc j)) in
    let ih = full_pages a f l w b n (suc j) (λ i lo hi. h i (omega arith) (omega arith)) in
    omega arith

pub compact_exists : (a : Area) (f : List ℕ) (l : ℕ) → Right a f → l ≤ longest → live_words (entries a f) + l ≤ area_quota a → compact_page a f l ≡ None → ⊥
unfolding entries
compact_exists a f l r b q e =
    let n = r.some_pages in
    let w = r.wide in
    let u = full_pages a f l (omega arith) b a.pages 0 (λ i lo hi. no_compact_page a f l e i (omega arith)) in
    omega arith
