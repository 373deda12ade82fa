-- A compaction: its stores are fair, it leaves the map and makes the room, and cut anywhere it is recovered to the flash from before
-- it or to the flash from after it. Assumes nothing.
use Rattle.std.specs.Prelude.{◌≡◌, refl, ◌⊎◌, Bool, true, false, ℕ, suc, ◌+◌, ◌-◌, ◌≤◌, ◌<◌, get_or, take, drop, eqb}
use Rattle.std.proofs.Math.Path.{ap, subst}
use Rattle.std.proofs.Common.{sym, ◌∙◌, ⊎_elim, inr, zero-le, le_refl, length-append, take_at}
use Rattle.std.proofs.Math.Logic.{inl}
use mathlib.Core.List.{List, [], ◌∷◌, ◌++◌, append_assoc}
use Rattle.std.proofs.Math.Bool.{or-true}
use native.Mathlib.Omega.{arith}
use Rattle.std.proofs.Math.ListN.{length}
use Rattle.flash.specs.Stores.{blank, Words, none, more, Store, apply, made, made_first, Step, ◌then◌}
use Rattle.flash.specs.Laws.{le_or_lt, first_none, first_all, first_then}
use Rattle.rules.specs.declared.Area.{Area}
use Rattle.rules.specs.declared.Recovery.TheVariants.{Free, Unfinished, Committed}
use Rattle.rules.specs.Words.{open_words, last_seal, meta0, meta1, is_live, seal}
use Rattle.rules.specs.Walk.{Item, codes, items, stop, is_sound}
use Rattle.rules.specs.Areas.{R, base, page, kind, recovery, placed, page_entries, entries, twice, find, live_words, ready}
use Rattle.rules.specs.Lists.{erase, keep_live, live_codes, copy_to, restore, compact, finish}
use Rattle.rules.specs.Laws.{live_append}
use Rattle.rules.specs.Places.{page_in, length_page}
use Rattle.demands.specs.Terms.{Fair, Map, recovered, blanks, Goods, no_item, good_item}
use Rattle.demands.specs.Stages.{after, after_then, fair_append}
use Rattle.demands.specs.Pages.{image, goods_items, length_image, at_seal, items_image, kind_image, stop_image, words_image}
use Rattle.demands.specs.Runs.{Usable, shape_of, copied, part, meta_low, same_or_not, words_left, words_right, words_append, words_page, Only, only_self, only_as, only_trans, only_same, turns_wipe}
use Rattle.demands.specs.Entries.{look, look_kept, twice_kept, live_kept, live_same, find_kept}
use Rattle.demands.specs.Layout.{before, behind, entries_split, entries_only}
use Rattle.demands.specs.Settled.{open_r, closed_r, given_made, free_blank, Settled, Stands, ready_stands, stands_by, stands_settled, stands_look, mended_only, settled_page}
use Rattle.demands.specs.Finishing.{Undamaged, undamaged_by, restored, finish_resumes, finish_fair, recovered_by}
use Rattle.demands.specs.Room.{copy_length}
use Rattle.std.specs.Option.{option_or}

-- ---- the live entries alone
goods_live : {es : List Item} → Goods es → Goods (keep_live es)
goods_live no_item = no_item
goods_live (good_item {e} {es} g gs) = go (is_live e.handle) refl (goods_live gs)
  where
    go : (b : Bool) → is_live e.handle ≡ b → Goods (keep_live es) → Goods (keep_live (e ∷ es))
    go true q ih = rw q (good_item g ih)
    go false q ih = rw q ih

words_live : (es : List Item) → Words (codes es) → Words (codes (keep_live es))
words_live [] q = none
words_live (e ∷ es) (more b bs) = go (is_live e.handle) refl (words_live es (words_right e.words bs))
  where
    go : (c : Bool) → is_live e.handle ≡ c → Words (codes (keep_live es)) → Words (codes (keep_live (e ∷ es)))
    go true q ih = rw q (more b (words_append (words_left e.words (codes es) bs) ih))
    go false q ih = rw q ih

length_kept : (es : List Item) → length (codes (keep_live es)) ≤ length (codes es)
length_kept [] = zero-le
length_kept (e ∷ es) = go (is_live e.handle) refl (length_kept es)
  where
    go : (b : Bool) → is_live e.handle ≡ b → length (codes (keep_live es)) ≤ length (codes es) → length (codes (keep_live (e ∷ es))) ≤ length (codes (e ∷ es))
    go true q ih = rw q (simp length-append (omega arith))
    go false q ih = rw q (simp length-append (omega arith))

module _ {a : Area} {m : Map} {n : ℕ} {f : List ℕ} (s : Stands a m n f) (i : ℕ) (h : i < a.pages) where
  abbrev pub kept : List Item
  kept = keep_live (items (page a f i))

  abbrev words : List ℕ
  words = codes kept ++ seal ∷ []

  -- the blank words behind the new seal
  abbrev pub room : ℕ
  room = a.words - 3 - length (codes kept)

  abbrev pub goal : List ℕ
  goal = image a.pages i kept (seal ∷ blanks room)

  settled : Settled a f
  settled = (stands_settled s).0

  fits : (j : ℕ) → j ≤ a.pages → base a (suc j) ≤ length f
  fits j l = page_in (shape_of s.given) j l

  kept_good : Goods kept
  kept_good = goods_live (goods_items (page a f i))

  kept_fits : a.words ≡ length (codes kept) + (room + 3)
  kept_fits =
      let p = settled_page settled i h in
      let l = sym (length_page a f i (fits i (omega arith))) ∙ ap length p.1 ∙ length_image a.pages i (items (page a f i)) (seal ∷ blanks p.0) in
      let k = length_kept (items (page a f i)) in
      omega arith

  size : a.words ≡ 2 + (length words + room)
  size = let k = kept_fits in let c = length-append (codes kept) (seal ∷ []) in omega arith

  words_kept : Words words
  words_kept =
      let p = settled_page settled i h in
      let v = words_image a.pages i (items (page a f i)) (seal ∷ blanks p.0) (subst Words p.1 (words_page a f i s.given.words)) in
      words_append (words_live (items (page a f i)) (words_left (codes (items (page a f i))) (seal ∷ blanks p.0) v)) (more (omega arith) none)

  low : meta1 a.pages i ≤ blank
  low = let l = meta_low a.pages i h (shape_of s.given).many in omega arith

  goal_is : meta0 ∷ (meta1 a.pages i ∷ (words ++ blanks room)) ≡ goal
  unfolding image
  goal_is = ap (λ (x : List ℕ). meta0 ∷ (meta1 a.pages i ∷ x)) (append_assoc (codes kept) (seal ∷ []) (blanks room))

  -- ---- R filled
  abbrev to_r : Step
  to_r g = copy_to a (R a) i words

  filled_r : Fair a (to_r f) f × Only a f (after to_r f) (R a) goal
  filled_r =
      let c = (copied a (R a) i words room low words_kept size).on f (fits a.pages (omega arith)) settled.spare in
      (c.0, only_as c.1 goal_is)

  abbrev full : List ℕ
  full = after to_r f

  full_committed : recovery a full ≡ Committed i
  full_committed = rw filled_r.1.here (closed_r a.pages i kept room h (shape_of s.given).many kept_good)

  -- the pages as they were
  pages_sound : (g x : List ℕ) → Only a f g (R a) x → (l : ℕ) → l < a.pages → is_sound (kind a g l) ≡ true
  pages_sound g x o l b = rw (o.there l (λ q. omega arith)) (settled.sound l b)

  full_undamaged : Undamaged a full
  full_undamaged = record {
    given = given_made (to_r f) s.given;
    sound = undamaged_by a full (rw full_committed) (λ l b. rw (full_committed, pages_sound full goal filled_r.1 l b) (or-true (eqb l i)));
  }

  -- R holds the words that were copied
  full_words : (k : ℕ) → length words ≡ k → take k (drop 2 (page a full (R a))) ≡ words
  full_words k e = ap (λ (x : List ℕ). take k (drop 2 x)) (filled_r.1.here ∙ sym goal_is) ∙ take_at words (blanks room) k e

  -- step (a) goes on as the compaction does
  full_finish : finish a full ≡ restore a i words
  full_finish =
      let st = ap stop filled_r.1.here ∙ stop_image at_seal a.pages i room kept kept_good in
      let c = length-append (codes kept) (seal ∷ []) in
      rw (full_committed, full_words (stop (page a full (R a)) - 1) (omega arith))

  compact_is : compact a i f ≡ (to_r then finish a) f
  unfolding live_codes
  compact_is = rw full_finish

  -- ---- the whole
  abbrev pub packed : List ℕ
  packed = made (compact a i f) f

  packed_is : packed ≡ after (finish a) full
  packed_is = ap (λ (u : List Store). made u f) compact_is ∙ after_then to_r (finish a) f

  pub compact_fair : Fair a (compact a i f) f
  compact_fair = rw compact_is (fair_append filled_r.0 (finish_fair a full full_undamaged))

  packed_only : Only a f packed i goal
  packed_only =
      let r = restored a full full_undamaged i full_committed in
      let o = filled_r.1 in
      rw packed_is (record {
        long = r.long ∙ o.long;
        here = r.here ∙ o.here;
        there = λ j d. ⊎_elim (λ q. subst (λ (u : ℕ). page a (after (finish a) full) u ≡ page a f u) q (r.spare ∙ sym settled.spare))
            (λ q. r.there j d q ∙ o.there j q) (same_or_not (R a) j);
      })

  packed_entries : entries a packed ≡ before a f i ++ (placed (base a i + 2) kept ++ behind a f i)
  packed_entries = entries_only h packed_only ∙ rw (items_image at_seal a.pages i room kept kept_good)

  pub packed_stands : Stands a m n packed
  packed_stands =
      let A = before a f i in
      let B = behind a f i in
      let at = base a i + 2 in
      let es = items (page a f i) in
      let e = entries_split a f i h in
      let c = kind_image at_seal a.pages i room kept kept_good in
      let st = mended_only settled (given_made (compact a i f) s.given) h packed_only (rw c) (λ l. c) in
      let t = (stands_settled s).1 in
      let l = s.live in
      let l₁ : live_words (entries a f) ≡ live_words A + (live_words (placed at es) + live_words B) = rw e (simp live_append) in
      let l₂ : live_words (A ++ (placed at kept ++ B)) ≡ live_words A + (live_words (placed at kept) + live_words B) = simp live_append in
      let l₃ = live_same at at es in
      stands_by (A ++ (placed at kept ++ B)) st packed_entries (twice_kept A at at es B ∙ rw e at t)
      (λ u. look_kept u A at at es B ∙ ap (look u) (sym e) ∙ stands_look s u) (omega arith)

  -- the very page compacted has the room
  pub packed_room : (l : ℕ) → live_words (page_entries a f i) + l ≤ open_words a.words → stop (page a packed i) + l ≤ last_seal a.words
  packed_room l b =
      let st = ap stop packed_only.here ∙ stop_image at_seal a.pages i room kept kept_good in
      let k = live_kept (base a i + 2) (items (page a f i)) in
      let z = kept_fits in
      omega arith

  -- ---- cut anywhere
  -- before R's word 1 is stored, R holds nothing that counts
  module _ (k : ℕ) (short : k < length (to_r f)) where
    abbrev cut : List ℕ
    cut = made (take k (to_r f)) f

    cut_part : (y : List ℕ) × (Only a f cut (R a) y) × (get_or y 1 0 ≡ blank)
    cut_part =
        let p = part a (R a) i words room low words_kept size k in
        let l = copy_length a (R a) i words in
        (p.page, (p.turns.on f (fits a.pages (omega arith)) settled.spare).1, p.uncommitted (omega arith))

    abbrev y : List ℕ
    y = cut_part.0

    cut_only : Only a f cut (R a) y
    cut_only = cut_part.1

    cut_kind : (recovery a cut ≡ Free) ⊎ (recovery a cut ≡ Unfinished)
    cut_kind = rw cut_only.here (open_r a.pages y cut_part.2)

    -- R blank again, the flash is the one from before
    cleared : (g : List ℕ) → Only a f g (R a) (blanks a.words) → g ≡ f
    cleared g o = only_same (shape_of s.given) o (only_as (only_self a f (R a)) settled.spare)

    cut_erased : Only a f (apply (erase a (R a)) cut) (R a) (blanks a.words)
    cut_erased = only_trans cut_only ((turns_wipe a (R a) (page a cut (R a)) (le_refl (R a))).on cut (rw cut_only.long (fits a.pages (omega arith))) refl).1

    cut_undamaged : Undamaged a cut
    cut_undamaged = record {
      given = given_made (take k (to_r f)) s.given;
      sound = ⊎_elim (λ c. undamaged_by a cut (rw c) (λ l b. rw c (pages_sound cut y cut_only l b))) (λ c. undamaged_by a cut (rw c) (λ l b. rw c (pages_sound cut y cut_only l b))) cut_kind;
    }

    cut_finish : after (finish a) cut ≡ f
    cut_finish = ⊎_elim on_free (λ c. rw c (cleared (apply (erase a (R a)) cut) cut_erased)) cut_kind
      where
        on_free : recovery a cut ≡ Free → after (finish a) cut ≡ f
        on_free c =
            let l = length_page a cut (R a) (rw cut_only.long (fits a.pages (omega arith))) in
            rw c (cleared cut (only_as cut_only (sym cut_only.here ∙ free_blank a.pages (page a cut (R a)) c ∙ ap blanks l)))

  -- recovered to the flash from before the compaction, or to the flash from after it
  abbrev Either : List ℕ → Type 0
  Either g = Undamaged a g × ((recovered a g ≡ f) ⊎ (recovered a g ≡ packed))

  pub compact_cut : (k : ℕ) → Either (made_first k (compact a i f) f)
  unfolding made_first
  compact_cut k = subst (λ (u : List Store). Either (made_first k u f)) (sym compact_is) (⊎_elim long short (le_or_lt (length (to_r f)) k))
    where
      short : k < length (to_r f) → Either (made_first k ((to_r then finish a) f) f)
      short l =
          let z : k - length (to_r f) ≡ 0 = omega arith in
          let e : made_first k ((to_r then finish a) f) f ≡ cut k l = first_then k to_r (finish a) f ∙ rw z (first_none (finish a (cut k l)) (cut k l)) in
          rw e (cut_undamaged k l, inl (recovered_by (cut k l) f (cut_finish k l) s))

      long : length (to_r f) ≤ k → Either (made_first k ((to_r then finish a) f) f)
      long l =
          let j = k - length (to_r f) in
          let e : made_first k ((to_r then finish a) f) f ≡ made_first (k - length (to_r f)) (finish a full) full =
          first_then k to_r (finish a) f ∙ ap (λ (u : List ℕ). made_first (k - length (to_r f)) (finish a u) u) (first_all k (to_r f) f l) in
          let r = finish_resumes a in
          rw e (r.keeps full full_undamaged j, inr (recovered_by (made_first j (finish a full) full) packed (r.again full full_undamaged j ∙ sym packed_is) packed_stands))

-- the words that a compaction copies to R fit there, and R holds them afterwards
pub held_in_r : {a : Area} {f : List ℕ} → Usable a f → ready a f ≡ true → (i : ℕ) → i < a.pages
    → (length (live_codes a f i) + 3 ≤ a.words)
    × (take (length (live_codes a f i) + 1) (drop 2 (page a (made (copy_to a (R a) i (live_codes a f i ++ seal ∷ [])) f) (R a))) ≡ live_codes a f i ++ seal ∷ [])
unfolding live_codes
held_in_r {a} {f} u r i h =
    let s = ready_stands u r in
    let k = kept_fits s i h in
    (omega arith, full_words s i h (length (codes (kept s i h)) + 1) (length-append (codes (kept s i h)) (seal ∷ [])))

-- what is found of a handle afterwards: its entry in the very page, or else the one from before
pub found_packed : {a : Area} {f : List ℕ} → Usable a f → ready a f ≡ true → (i : ℕ) → i < a.pages → (h : ℕ)
    → find h (entries a (made (compact a i f) f)) ≡ option_or (find h (page_entries a (made (compact a i f) f) i)) (find h (entries a f))
found_packed {a} {f} u r i h k =
    let s = ready_stands u r in
    let e = packed_entries s i h in
    let es = items (page a f i) in
    let here : items (page a (packed s i h) i) ≡ kept s i h = ap items (packed_only s i h).here ∙ items_image at_seal a.pages i (room s i h) (kept s i h) (kept_good s i h) in
    let t : twice (before a f i ++ (placed (base a i + 2) (keep_live es) ++ behind a f i)) ≡ false = ap twice (sym e) ∙ (stands_settled (packed_stands s i h)).1 in
    ap (find k) e ∙ find_kept k (before a f i) (base a i + 2) (base a i + 2) es (behind a f i) t
    ∙ rw (here, entries_split a f i h)
