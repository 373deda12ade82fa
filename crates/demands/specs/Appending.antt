-- An entry appended to a page that has the room: its stores are fair, they change the map in the one handle, and cut anywhere the area
-- is recovered to the map from before or to the map from after. Assumes nothing.
use Rattle.std.specs.Prelude.{◌≡◌, List, [], ◌∷◌, ◌++◌, Bool, true, false, cond, take, eqb, Option, Some, None}
use Rattle.std.proofs.Math.Path.{refl}
use Rattle.std.proofs.Common.{ap, sym, ◌∙◌, ⊎_elim, inl, inr, append_assoc, arith, length-append, length-take}
use Prim.Native.Nat.{ℕ, suc, zero, ◌+◌, ◌-◌, ◌≤◌, ◌<◌}
use Rattle.std.proofs.Math.ListN.{length}
use Rattle.std.proofs.lemmas.List.{length-replicate, replicate-append-replicate, take-append-le}
use Rattle.flash.specs.Stores.{blank, Words, none, more, Store, apply, made, made_first, puts}
use Rattle.flash.specs.Laws.{made_append, le_or_lt, first_none, first_all, first_nil, first_append}
use Rattle.rules.specs.declared.Area.{Area}
use Rattle.rules.specs.Words.{last_seal, header, special, is_live, seal}
use Rattle.rules.specs.Walk.{Item, entry_length, codes, items, stop}
use Rattle.rules.specs.Areas.{base, page, Entry, placed, entries, any_of, live_of, doubled, twice, find, live_words}
use Rattle.rules.specs.Lists.{bare, bare_if, append, mend, supersede, drop_doubles, write}
use Rattle.rules.specs.Laws.{header_over_seal}
use Rattle.rules.specs.Places.{page_in, length_page}
use Rattle.demands.specs.Terms.{Fair, fair_end, Map, changed, recovered, blanks, Good, Goods, no_item, good_item}
use Rattle.demands.specs.Stages.{after, after_then, fair_append}
use Rattle.demands.specs.Pages.{image, item, goods_append, goods_items, length_image, at_seal, at_blank, items_image, kind_image, stop_image, front, length_front, image_front, image_at}
use Rattle.demands.specs.Runs.{shape_of, Usable, take_puts, length_puts, words_take, words_append, Only, only_trans, Turns, turns_as, turns_then, turns_put, turns_fill}
use Rattle.demands.specs.Entries.{zeroed, zeroed_dead, look, live_mine, any_skip, any_at, find_some, find_none, once_insert, twice_skip, once_drop, once_apart, look_skip, look_add, look_other, live_skip, live_at, supersede_one, split_append}
use Rattle.demands.specs.Layout.{entry_at, placed_append, before, behind, entries_split, entries_only}
use Rattle.demands.specs.Settled.{given_made, Mended, Settled, Stands, stands_by, stands_settled, stands_look, mended_only, settled_page, dead_good, Invalidated, invalidate}
use Rattle.demands.specs.Mending.{mend_last, mend_all, mend_one, settled_mends}
use Rattle.demands.specs.Finishing.{mended_undamaged, Safe, recover_mended, recover_settled, stands_recovered, safe_before, safe_after}

-- what is asked: a page with the room, a handle that entries may have, and data
pub record Fitting (a : Area) (f : List ℕ) (i h : ℕ) (d : List ℕ) : Type 0 where
  pub inside : i < a.pages
  pub live : is_live h ≡ true
  pub small : h < special
  pub short : length d ≤ 32
  pub words : Words d
  pub room : stop (page a f i) + entry_length d ≤ last_seal a.words

module _ {a : Area} {m : Map} {n : ℕ} {f : List ℕ} (s : Stands a m n f) (i h : ℕ) (d : List ℕ) (r : Fitting a f i h d) where
  abbrev m' : Map
  m' = changed (write h d) m

  abbrev n' : ℕ
  n' = n + entry_length d

  settled : Settled a f
  settled = (stands_settled s).0

  once : twice (entries a f) ≡ false
  once = (stands_settled s).1

  fits : base a (suc i) ≤ length f
  fits = let l = r.inside in page_in (shape_of s.given) i (omega arith)

  -- ---- the page
  abbrev es : List Item
  es = items (page a f i)

  shape : (k : ℕ) × (page a f i ≡ image a.pages i es (seal ∷ blanks k))
  shape = settled_page settled i r.inside

  -- the blank words that stay behind the new seal
  abbrev left : ℕ
  left = shape.0 - entry_length d

  abbrev old : List ℕ
  old = image a.pages i es (seal ∷ blanks (length d + suc left))

  stop_is : stop (page a f i) ≡ 2 + length (codes es)
  stop_is = ap stop shape.1 ∙ stop_image at_seal a.pages i shape.0 es (goods_items (page a f i))

  page_is : page a f i ≡ old
  page_is =
      let l = sym (length_page a f i fits) ∙ ap length shape.1 ∙ length_image a.pages i es (seal ∷ blanks shape.0) in
      let b = length-replicate shape.0 blank in
      let st = stop_is in
      let ro = r.room in
      let z : shape.0 ≡ length d + suc (shape.0 - entry_length d) = omega arith in
      shape.1 ∙ ap (λ (k : ℕ). image a.pages i es (seal ∷ blanks k)) z

  abbrev head : ℕ
  head = header h (entry_length d)

  abbrev at : ℕ
  at = base a i + stop (page a f i)

  -- the header over the seal, and words over blank ones
  headed : (ws : List ℕ) (q : ℕ) → Words ws → length ws + q ≡ length d + suc left
      → Turns a i (puts at (head ∷ ws)) old (front a.pages i es ++ head ∷ (ws ++ blanks q))
  headed ws q v e =
      let u = front a.pages i es in
      let l = length_front a.pages i es in
      let st = stop_is in
      let sh = r.short in
      let k = length-append (front a.pages i es) (head ∷ []) in
      let b : blanks (length d + suc left) ≡ blanks (length ws) ++ blanks q = ap blanks (sym e) ∙ sym (replicate-append-replicate (length ws) q blank) in
      turns_then
      (turns_as (image_front a.pages i es (seal ∷ blanks (length d + suc left))) (ap (λ (x : List ℕ). u ++ head ∷ x) b)
      (turns_put a i u seal (blanks (length d + suc left)) at head (omega arith) (header_over_seal h (entry_length d) r.small (omega arith))))
      (turns_as (sym (append_assoc u (head ∷ []) (blanks (length ws) ++ blanks q))) (append_assoc u (head ∷ []) (ws ++ blanks q))
      (turns_fill a i (u ++ head ∷ []) ws (blanks q) (suc at) (omega arith) v))

  abbrev new : List Store
  new = puts at (head ∷ (d ++ seal ∷ []))

  length_new : length new ≡ length d + 2
  length_new = let l = length-append d (seal ∷ []) in omega (arith, length_puts at (head ∷ (d ++ seal ∷ [])))

  -- the page with the new entry
  abbrev full : List ℕ
  full = image a.pages i (es ++ (item h d ∷ [])) (seal ∷ blanks left)

  whole : Turns a i new old full
  whole =
      let l = length-append d (seal ∷ []) in
      let e : front a.pages i es ++ head ∷ ((d ++ seal ∷ []) ++ blanks left) ≡ full =
      ap (λ (x : List ℕ). front a.pages i es ++ head ∷ x) (append_assoc d (seal ∷ []) (blanks left)) ∙ sym (image_at a.pages i es (item h d) [] (seal ∷ blanks left)) in
      turns_as refl e (headed (d ++ seal ∷ []) left (words_append r.words (more (omega arith) none)) (omega arith))

  -- and with the first j of its data words
  abbrev half : ℕ → List ℕ
  half j = take j d ++ blanks (length d - j)

  length_half : (j : ℕ) → j ≤ length d → length (half j) ≡ length d
  length_half j b = simp (length-append, length-take, length-replicate) (omega arith)

  partly : (j : ℕ) → j ≤ length d → Turns a i (take (suc j) new) old (image a.pages i (es ++ (item h (half j) ∷ [])) (blank ∷ blanks left))
  partly j b =
      let l : length (take j d) ≡ j = simp length-take (omega arith) in
      let u = front a.pages i es in
      let t : take (suc j) new ≡ puts at (head ∷ take j d) = take_puts (suc j) at (head ∷ (d ++ seal ∷ [])) ∙ ap (λ (x : List ℕ). puts at (head ∷ x)) (take-append-le j d (seal ∷ []) b) in
      let e : u ++ head ∷ (take j d ++ blanks (length d - j + suc left)) ≡ image a.pages i (es ++ (item h (half j) ∷ [])) (blank ∷ blanks left) =
      ap (λ (x : List ℕ). u ++ head ∷ (take j d ++ x)) (sym (replicate-append-replicate (length d - j) (suc left) blank))
      ∙ ap (λ (x : List ℕ). u ++ head ∷ x) (sym (append_assoc (take j d) (blanks (length d - j)) (blanks (suc left))))
      ∙ ap (λ (k : ℕ). u ++ header h (k + 1) ∷ (half j ++ blanks (suc left))) (sym (length_half j b))
      ∙ sym (image_at a.pages i es (item h (half j)) [] (blank ∷ blanks left)) in
      rw t (turns_as refl e (headed (take j d) (length d - j + suc left) (words_take j r.words) (omega arith)))

  good_with : (x : Item) → Good x → Goods (es ++ (x ∷ []))
  good_with x g = goods_append (goods_items (page a f i)) (good_item g no_item)

  good_new : (x : List ℕ) → length x ≡ length d → Good (item h x)
  good_new x l = let b = r.short in record { small = r.small; short = omega arith }

  -- ---- the entries: those up to the new one's place, and those behind it
  abbrev A : List Entry
  A = before a f i ++ placed (base a i + 2) es

  abbrev B : List Entry
  B = behind a f i

  abbrev entry : Item → Entry
  entry x = entry_at (base a i + 2 + length (codes es)) x

  entries_old : entries a f ≡ A ++ B
  entries_old = entries_split a f i r.inside ∙ sym (append_assoc (before a f i) (placed (base a i + 2) es) B)

  entries_new : (g p : List ℕ) (x : Item) → Only a f g i p → items p ≡ es ++ (x ∷ []) → entries a g ≡ A ++ entry x ∷ B
  entries_new g p x o e =
      entries_only r.inside o
      ∙ rw (e, placed_append (base a i + 2) es (x ∷ []), append_assoc (placed (base a i + 2) es) (entry x ∷ []) B)
      (sym (append_assoc (before a f i) (placed (base a i + 2) es) (entry x ∷ B)))

  -- an invalidated entry more changes nothing
  dead_stands : (g : List ℕ) (x : Entry) → Settled a g → entries a g ≡ A ++ zeroed x ∷ B → Stands a m n g
  dead_stands g x t e =
      let o : twice (A ++ B) ≡ false = rw entries_old at once in
      let l : live_words (A ++ B) ≤ n = rw entries_old at s.live in
      stands_by (A ++ zeroed x ∷ B) t e (twice_skip A x B ∙ o) (λ u. look_skip u A x B ∙ ap (look u) (sym entries_old) ∙ stands_look s u) (rw (live_skip A x B) l)

  -- ---- cut before the new seal
  module _ (g x : List ℕ) (lx : length x ≡ length d) (v : Usable a g) (o : Only a f g i (image a.pages i (es ++ (item h x ∷ [])) (blank ∷ blanks left))) where
    gx : Goods (es ++ (item h x ∷ []))
    gx = good_with (item h x) (good_new x lx)

    gz : Goods (es ++ (item 0 x ∷ []))
    gz = good_with (item 0 x) (dead_good x (good_new x lx).short)

    torn_mended : Mended a 0 g
    torn_mended =
        let k = kind_image at_blank a.pages i left (es ++ (item h x ∷ [])) gx in
        mended_only (settled_mends a f settled).0 v r.inside o (rw k) (λ l. absurd (omega arith))

    abbrev healed : List ℕ
    healed = after (mend a i) g

    healed_only : Only a g healed i (image a.pages i (es ++ (item 0 x ∷ [])) (seal ∷ blanks left))
    healed_only = mend_last a i r.inside g es (item h x) left (rw o.long fits) gx r.live o.here

    healed_stands : Stands a m n healed
    healed_stands =
        let k = kind_image at_seal a.pages i left (es ++ (item 0 x ∷ [])) gz in
        let w = only_trans o healed_only in
        dead_stands healed (entry (item h x)) (mended_only settled (given_made (mend a i g) v) r.inside w (rw k) (λ l. k))
        (entries_new healed _ (item 0 x) w (items_image at_seal a.pages i left (es ++ (item 0 x ∷ [])) gz))

    torn_recovered : recovered a g ≡ healed
    torn_recovered =
        let e : mend_all a g ≡ mend a i g = mend_one a i g _ r.inside (λ l b c. rw (o.there l c) (settled.done l b b)) healed_only in
        let t = stands_settled healed_stands in
        ap (λ (u : List Store). made u g) (recover_mended a g torn_mended)
        ∙ after_then (mend_all a) (drop_doubles a) g
        ∙ ap (λ (u : List Store). after (drop_doubles a) (made u g)) e
        ∙ ap (λ (u : List Store). made u healed) (sym (recover_settled a healed t.0))
        ∙ stands_recovered a healed healed_stands

    torn_safe : Safe a m n m' n' g
    torn_safe = record { undamaged = mended_undamaged torn_mended; ends = inl (rw torn_recovered healed_stands) }

  -- ---- sealed
  abbrev added : List ℕ
  added = made new f

  added_both : Fair a new f × Only a f added i full
  added_both = whole.on f fits page_is

  gd : Goods (es ++ (item h d ∷ []))
  gd = good_with (item h d) (good_new d refl)

  abbrev fresh : Entry
  fresh = entry (item h d)

  added_settled : Settled a added
  added_settled =
      let k = kind_image at_seal a.pages i left (es ++ (item h d ∷ [])) gd in
      mended_only settled (given_made new s.given) r.inside added_both.1 (rw k) (λ l. k)

  added_entries : entries a added ≡ A ++ fresh ∷ B
  added_entries = entries_new added full (item h d) added_both.1 (items_image at_seal a.pages i left (es ++ (item h d ∷ [])) gd)

  -- the new entry among others that have not its handle
  fresh_stands : (g : List ℕ) (x y : List Entry) → Settled a g → entries a g ≡ x ++ fresh ∷ y → any_of (live_of h) (x ++ y) ≡ false → twice (x ++ y) ≡ false
      → ((u : ℕ) → eqb u h ≡ false → look u (x ++ y) ≡ m u) → live_words (x ++ y) ≤ n → Stands a m' n' g
  fresh_stands g x y t e q o k l =
      stands_by (x ++ fresh ∷ y) t e (once_insert x fresh y q o) (λ u. look_add u x fresh y r.live q ∙ pick u (eqb u h) refl)
      (rw (live_at x fresh y, r.live) (omega arith))
    where
      pick : (u : ℕ) (b : Bool) → eqb u h ≡ b → cond (eqb u h) (Some d) (look u (x ++ y)) ≡ cond (eqb u h) (Some d) (m u)
      pick u true p = rw p
      pick u false p = rw p (k u p)

  -- no entry had the handle
  new_stands : find h (entries a f) ≡ None → Stands a m' n' added
  new_stands e =
      let q = find_none h (entries a f) e in
      fresh_stands added A B added_settled added_entries (rw entries_old at q) (rw entries_old at once) (λ u p. ap (look u) (sym entries_old) ∙ stands_look s u) (rw entries_old at s.live)

  -- one had
  module _ (e : Entry) (found : find h (entries a f) ≡ Some e) where
    abbrev done : List ℕ
    done = apply (bare e) added

    record Replaced : Type 0 where
      fair : Fair a (bare e ∷ []) added
      stands : Stands a m' n' done
      safe : Safe a m n m' n' added

    module _ (p q : List Entry) (where_is : entries a f ≡ p ++ e ∷ q) (mine : e.handle ≡ h) where
      single : twice (p ++ e ∷ q) ≡ false
      single = rw where_is at once

      -- the old entry invalidated, the new one stands
      done_by : (x y : List Entry) → x ++ y ≡ p ++ zeroed e ∷ q → Settled a done → entries a done ≡ x ++ fresh ∷ y → Stands a m' n' done
      done_by x y c t g =
          let ap' : any_of (live_of h) (p ++ q) ≡ false = rw mine at (once_apart p e q single) in
          let l : live_words (p ++ e ∷ q) ≤ n = rw where_is at s.live in
          let k = live_at p e q in
          fresh_stands done x y t g
          (rw c (any_skip (live_of h) p (zeroed e) q (zeroed_dead h e) ∙ ap'))
          (rw c (twice_skip p e q ∙ once_drop p e q single))
          (λ u b. rw c (look_skip u p e q ∙ sym (look_other u p e q (rw mine b)) ∙ ap (look u) (sym where_is) ∙ stands_look s u))
          (rw (c, live_skip p e q) (omega arith))

      -- the new one is behind it: a recovery makes the store that is missing
      earlier : (t : List Entry) → A ≡ p ++ e ∷ t → q ≡ t ++ B → Replaced
      earlier t x y = record { fair = v.fair; stands = st; safe = record { undamaged = mended_undamaged added_settled; ends = inr (rw again st) } }
        where
          now : entries a added ≡ p ++ e ∷ (t ++ fresh ∷ B)
          now = added_entries ∙ ap (λ (u : List Entry). u ++ fresh ∷ B) x ∙ append_assoc p (e ∷ t) (fresh ∷ B)

          v : Invalidated a added p e (t ++ fresh ∷ B)
          v = invalidate p e (t ++ fresh ∷ B) added_settled now

          st : Stands a m' n' done
          st =
              done_by (p ++ zeroed e ∷ t) B (append_assoc p (zeroed e ∷ t) B ∙ ap (λ (u : List Entry). p ++ zeroed e ∷ u) (sym y)) v.settled
              (v.entries ∙ sym (append_assoc p (zeroed e ∷ t) (fresh ∷ B)))

          dbl : doubled e (t ++ fresh ∷ B) ≡ true
          dbl = any_at (live_of e.handle) t fresh B (live_mine e.handle fresh (rw mine r.live) (sym mine))

          again : recovered a added ≡ done
          again =
              let o : twice (p ++ zeroed e ∷ (t ++ fresh ∷ B)) ≡ false = rw v.entries at (stands_settled st).1 in
              ap (λ (u : List Store). made u added) (recover_settled a added added_settled ∙ ap supersede now ∙ supersede_one p e (t ++ fresh ∷ B) dbl o)

      -- the new one is before it: a recovery drops the new one
      later : (t : List Entry) → p ≡ A ++ t → B ≡ t ++ e ∷ q → Replaced
      later t x y = record { fair = v.fair; stands = st; safe = record { undamaged = mended_undamaged added_settled; ends = inl (rw again back) } }
        where
          now : entries a added ≡ (A ++ fresh ∷ t) ++ e ∷ q
          now = added_entries ∙ ap (λ (u : List Entry). A ++ fresh ∷ u) y ∙ sym (append_assoc A (fresh ∷ t) (e ∷ q))

          v : Invalidated a added (A ++ fresh ∷ t) e q
          v = invalidate (A ++ fresh ∷ t) e q added_settled now

          st : Stands a m' n' done
          st =
              done_by A (t ++ zeroed e ∷ q) (sym (append_assoc A t (zeroed e ∷ q)) ∙ ap (λ (u : List Entry). u ++ zeroed e ∷ q) (sym x)) v.settled
              (v.entries ∙ append_assoc A (fresh ∷ t) (zeroed e ∷ q))

          w : Invalidated a added A fresh B
          w = invalidate A fresh B added_settled added_entries

          back : Stands a m n (apply (bare fresh) added)
          back = dead_stands (apply (bare fresh) added) fresh w.settled w.entries

          dbl : doubled fresh B ≡ true
          dbl = rw y (any_at (live_of h) t e q (live_mine h e r.live mine))

          again : recovered a added ≡ apply (bare fresh) added
          again =
              let o : twice (A ++ zeroed fresh ∷ B) ≡ false = rw w.entries at (stands_settled back).1 in
              ap (λ (u : List Store). made u added) (recover_settled a added added_settled ∙ ap supersede added_entries ∙ supersede_one A fresh B dbl o)

    replaced : Replaced
    replaced =
        let w = find_some h (entries a f) e found in
        ⊎_elim (λ z. earlier w.0 w.1 w.2 w.3 z.0 z.1 z.2) (λ z. later w.0 w.1 w.2 w.3 z.0 z.1 z.2)
        (split_append A B w.0 e w.1 (sym entries_old ∙ w.2))

  -- ---- all of it
  pub append_fair : Fair a (append a h d i f) f
  append_fair = fair_append added_both.0 (go (find h (entries a f)) refl)
    where
      go : (c : Option Entry) → find h (entries a f) ≡ c → Fair a (bare_if c) added
      go None e = fair_end
      go (Some c) e = (replaced c e).fair

  pub append_stands : Stands a m' n' (made (append a h d i f) f)
  append_stands = rw (made_append new (bare_if (find h (entries a f))) f) (go (find h (entries a f)) refl)
    where
      go : (c : Option Entry) → find h (entries a f) ≡ c → Stands a m' n' (made (bare_if c) added)
      go None e = new_stands e
      go (Some c) e = (replaced c e).stands

  -- and any part
  pub append_cut : (k : ℕ) → Safe a m n m' n' (made_first k (append a h d i f) f)
  unfolding made_first
  append_cut k = rw (first_append k new (bare_if (find h (entries a f))) f) (⊎_elim enough short (le_or_lt (length new) k))
    where
      enough : length new ≤ k → Safe a m n m' n' (made_first (k - length new) (bare_if (find h (entries a f))) (made_first k new f))
      enough b = rw (first_all k new f b) (go (find h (entries a f)) refl (k - length new))
        where
          go : (c : Option Entry) → find h (entries a f) ≡ c → (j : ℕ) → Safe a m n m' n' (made_first j (bare_if c) added)
          go None e j = rw (first_nil j added) (safe_after (new_stands e))
          go (Some c) e zero = rw (first_none (bare_if (Some c)) added) (replaced c e).safe
          go (Some c) e (suc j) = rw (first_all (suc j) (bare_if (Some c)) added (omega arith)) (safe_after (replaced c e).stands)

      short : k < length new → Safe a m n m' n' (made_first (k - length new) (bare_if (find h (entries a f))) (made_first k new f))
      short b =
          let z : k - length new ≡ 0 = omega arith in
          rw (z, first_none (bare_if (find h (entries a f))) (made_first k new f)) (go k b)
        where
          go : (k : ℕ) → k < length new → Safe a m n m' n' (made_first k new f)
          go zero b = safe_before s
          go (suc j) b =
              let l = length_new in
              let o = ((partly j (omega arith)).on f fits page_is).1 in
              torn_safe (made (take (suc j) new) f) (half j) (length_half j (omega arith)) (given_made (take (suc j) new) s.given) o
