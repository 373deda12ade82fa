-- The copy of a page's live entries by places, and what the steps of a compaction come to: definitions and laws. Assumes nothing.
use Rattle.std.specs.Prelude.{◌≡◌, Bool, ◌⊎◌, ℕ, suc, zero, ◌+◌, ◌-◌, ◌≤◌, ◌<◌, length, get_or, drop, set, replicate}
use Rattle.std.proofs.Math.Path.{refl, ap}
use Rattle.std.proofs.Common.{sym, ◌∙◌, inl, inr, arith, le_refl, length-take, length-drop, drop-cons, drop-set-lt, take-take, get_or-take}
use mathlib.Core.List.{List, [], ◌∷◌, ◌++◌, append_assoc}
use Rattle.std.proofs.Math.Bool.{true, false}
use Rattle.std.proofs.Math.ListN.{take}
use Rattle.std.proofs.lemmas.List.{length-replicate, take-set-le}
use Rattle.std.specs.Int.Bits.{bit_and}
use Rattle.std.proofs.Math.Seq.{take-nil}
use Rattle.std.proofs.lemmas.List.Edits.{sets}
use Rattle.flash.specs.declared.Power.{Power}
use Rattle.flash.specs.Stores.{blank, Words, Store, put, wipe, stored, wiped, made, made_first, puts, Step, Ran}
use Rattle.flash.specs.Laws.{ran_none, ran_cons, ran_append, ran_then, ran_length}
use Rattle.rules.specs.declared.Area.{Area}
use Rattle.rules.specs.Words.{header, handle_of, is_live, seal}
use Rattle.rules.specs.Walk.{Item, codes, Walked, walk_in, items}
use Rattle.rules.specs.Areas.{R, base, page, placed, live_words, ready}
use Rattle.rules.specs.Lists.{erase, keep_live, live_codes, copy_to, restore, compact}
use Rattle.rules.specs.Places.{Right, right_passes, right_ran, drop_take, page_from, page_in, base_in, base_le, base_suc}
use Rattle.demands.specs.Pages.{header_of}
use Rattle.demands.specs.Compacting.{held_in_r}
use Rattle.demands.specs.Entries.{live_kept}
use Rattle.pages.specs.Steps.{length_at, walk_at, counted, length_inside, at_header, goes_on, data_words_length, stops}
use Rattle.stores.specs.Making.{metadata, puts_append}

-- ---- the live words from a place on
unfoldable pub live_at : List ℕ → ℕ → List ℕ
live_at p at = codes (keep_live (walk_at p at).items)

module _ (p : List ℕ) (at n : ℕ) (e : n ≡ length_at p at) (z : n ≡ 0 → ⊥) where
  abbrev word : ℕ
  word = get_or p at 0

  inside : at < length p
  inside = omega (arith, length_inside p at)

  entry_header : header (handle_of word) n ≡ word
  entry_header = rw (← (at_header p at n e z).1) (header_of word)

  entry_words : word ∷ take (n - 1) (drop (suc at) p) ≡ take n (drop at p)
  entry_words = let s : n ≡ suc (n - 1) = omega arith in rw (drop-cons p at 0 inside) (ap (λ (k : ℕ). take k (word ∷ drop (suc at) p)) (sym s))

  abbrev rest : List Item
  rest = (walk_at p (at + n)).items

  live_here : live_at p at ≡ codes (keep_live (record { handle = handle_of word; words = take (n - 1) (drop (suc at) p) } ∷ rest))
  unfolding live_at
  live_here =
      ap (λ (w : Walked). codes (keep_live w.items)) (goes_on p at n e z)
      ∙ ap (λ (l : ℕ). codes (keep_live (record { handle = handle_of word; words = take (l - 1) (drop (suc at) p) } ∷ rest))) (at_header p at n e z).1

  pub live_on : live_at p at ≡ take (counted (handle_of word) n) (drop at p) ++ live_at p (at + n)
  unfolding live_at
  live_on = live_here ∙ go (is_live (handle_of word)) refl
    where
      go : (b : Bool) → is_live (handle_of word) ≡ b
          → codes (keep_live (record { handle = handle_of word; words = take (n - 1) (drop (suc at) p) } ∷ rest)) ≡ take (counted (handle_of word) n) (drop at p) ++ codes (keep_live rest)
      go true q = rw (q, data_words_length p at n e z, entry_header) (ap (λ (x : List ℕ). x ++ codes (keep_live rest)) entry_words)
      go false q = rw q

pub live_end : {n : ℕ} (p : List ℕ) (at : ℕ) → n ≡ length_at p at → n ≡ 0 → live_at p at ≡ []
unfolding live_at
live_end p at e z = ap (λ (w : Walked). codes (keep_live w.items)) (stops p at (sym e ∙ z))

-- ---- what stores leave as it was
-- words upward from a place leave what is in front of it
puts_front : (m k at : ℕ) (ws f : List ℕ) → m ≤ at → take m (made (take k (puts at ws)) f) ≡ take m f
unfolding stored
puts_front m zero at ws f h = refl
puts_front m (suc k) at [] f h = refl
puts_front m (suc k) at (w ∷ ws) f h = puts_front m k (suc at) ws (stored f at w) (omega arith) ∙ take-set-le m f at (bit_and (get_or f at 0) w) h

front_kept : {p q : Power} {f g : List ℕ} (m at : ℕ) (ws : List ℕ) → Ran (puts at ws) p f q g → m ≤ at → take m g ≡ take m f
unfolding made_first
front_kept {p} {f = f} m at ws x h = ap (take m) x.words ∙ puts_front m p.left at ws f h

-- an erase leaves what is behind it
sets_back : (m at : ℕ) (vs f : List ℕ) → at + length vs ≤ m → drop m (sets f at vs) ≡ drop m f
sets_back m at [] f h = refl
sets_back m at (v ∷ vs) f h = sets_back m (suc at) vs (set f at v) (omega arith) ∙ drop-set-lt m f at v (omega arith)

wiped_back : (m k at n : ℕ) (f : List ℕ) → at + n ≤ m → drop m (made (take k (wipe at n ∷ [])) f) ≡ drop m f
unfolding wiped
wiped_back m zero at n f h = refl
wiped_back m (suc k) at n f h = let t : take {A = Store} k [] ≡ [] = take-nil k in rw t (sets_back m at (replicate n blank) f (rw length-replicate h))

back_kept : {p q : Power} {f g : List ℕ} {at n : ℕ} (m : ℕ) → Ran (wipe at n ∷ []) p f q g → at + n ≤ m → drop m g ≡ drop m f
unfolding made_first
back_kept {p} {f = f} {at = at} {n} m x h = ap (drop m) x.words ∙ wiped_back m p.left at n f h

part_words : (at m e : ℕ) (f : List ℕ) → at + m ≤ e → e ≤ length f → take m (drop at (take e f)) ≡ take m (drop at f)
part_words at m e f h l =
    let d : e ≡ at + (e - at) = omega arith in
    ap (λ (u : ℕ). take m (drop at (take u f))) d ∙ ap (take m) (drop_take at (e - at) f (omega arith)) ∙ take-take m (e - at) (drop at f) (omega arith)

-- ---- the copy of page i's live entries to R, begun with the power p₀ on the flash f₀, has come to the place at of the page and to of R
abbrev ending : Area → ℕ → ℕ
ending a i = base a i + a.words

pub record Copying (a : Area) (i : ℕ) (p₀ : Power) (f₀ : List ℕ) (at to : ℕ) (p : Power) (f : List ℕ) : Type 0 where
  pub same : take (ending a i) f ≡ take (ending a i) f₀
  pub goes : (r : Power) (h : List ℕ) → Ran (puts to (live_at (take (ending a i) f₀) at)) p f r h → Ran (puts (base a (R a) + 2) (live_codes a f₀ i)) p₀ f₀ r h
  pub inside : at ≤ ending a i
  pub behind : to + base a i ≤ base a (R a) + at
  pub apart : ending a i ≤ to

module _ {a : Area} {f : List ℕ} {i : ℕ} (r : Right a f) (h : i < a.pages) where
  below_r : ending a i ≤ base a (R a)
  below_r = let l = base_le a (suc i) a.pages h in omega (arith, base_suc a i)

  r_in : base a (R a) + a.words ≤ length f
  r_in = omega (arith, page_in r a.pages (le_refl a.pages), base_suc a a.pages)

  page_live : live_at (take (ending a i) f) (base a i + 2) ≡ live_codes a f i
  unfolding live_at walk_at live_codes items
  page_live = ap (λ (u : List ℕ). codes (keep_live (walk_in 0 u).items)) (sym (page_from a f i (base_in r i (omega arith))))

  pub copying_start : {s t : ℕ} {p : Power} → s ≡ base a i → t ≡ base a (R a) → Copying a i p f (s + 2) (t + 2) p f
  copying_start {s} {t} {p} d e =
      let w = r.wide in
      let b = below_r in
      rw (d, e) (record {
        same = refl;
        goes = λ q k x. rw page_live at x;
        inside = omega arith;
        behind = omega arith;
        apart = omega arith;
      })

module _ {a : Area} {i : ℕ} {p₀ p : Power} {f₀ f : List ℕ} {at to n s : ℕ} (c : Copying a i p₀ f₀ at to p f) (q : n ≡ length_at (take (s + a.words) f) at) (d : s ≡ base a i) where
  entry : n ≡ length_at (take (ending a i) f₀) at
  entry = q ∙ ap (λ (u : List ℕ). length_at u at) (rw d c.same)

  pub copying_end : n ≡ 0 → Ran (puts (base a (R a) + 2) (live_codes a f₀ i)) p₀ f₀ p f
  copying_end z = c.goes p f (rw (live_end (take (ending a i) f₀) at entry z) (ran_none p f))

  module _ (z : n ≡ 0 → ⊥) where
    fits : at + n < ending a i
    fits = omega (arith, entry, length_inside (take (ending a i) f₀) at, length-take (ending a i) f₀)

    pub fewer : s + a.words - (at + n) < s + a.words - at
    fewer = omega (arith, fits)

    module _ (y : Right a f) (h : i < a.pages) where
      long : ending a i ≤ length f
      long = omega (arith, below_r y h, r_in y h)

      pub entry_in : at < length f
      entry_in = omega (arith, fits, long)

      module _ {m : ℕ} (v : m ≤ n) where
        pub from_in : at + m ≤ length f
        from_in = omega (arith, fits, long)

        pub to_in : to + m ≤ length f
        to_in = let b = c.behind in omega (arith, fits, r_in y h)

        pub copy_apart : (at + m ≤ to) ⊎ (to ≤ at)
        copy_apart = let b = c.apart in inl (omega (arith, fits))

      module _ {m : ℕ} (u : m ≡ counted (handle_of (get_or f at 0)) n) (v : m ≤ n) where
        copied : take (counted (handle_of (get_or (take (ending a i) f₀) at 0)) n) (drop at (take (ending a i) f₀)) ≡ take m (drop at f)
        copied =
            let l : get_or (take (ending a i) f) at 0 ≡ get_or f at 0 = get_or-take (ending a i) f at 0 (omega (arith, fits)) in
            rw (← c.same, l, ← u) (part_words at m (ending a i) f (omega (arith, fits)) long)

        pub copying_on : {q : Power} {b : List ℕ} → Ran (puts to (take m (drop at f))) p f q b → Copying a i p₀ f₀ (at + n) (to + m) q b
        copying_on {q} {b} x =
            let j = c.behind in
            let l : length (take m (drop at f)) ≡ m = omega (arith, length-take m (drop at f), length-drop at f, fits, long) in
            record {
              same = front_kept (ending a i) to (take m (drop at f)) x c.apart ∙ c.same;
              goes = λ r s t. c.goes r s (rw (live_on (take (ending a i) f₀) at n entry z, copied, puts_append to (take m (drop at f)) (live_at (take (ending a i) f₀) (at + n)), l) (ran_append x t));
              inside = omega (arith, fits);
              behind = omega arith;
              apart = let t = c.apart in omega arith;
            }

pub length_of_part : {g : List ℕ} {n : ℕ} (f : List ℕ) (e at : ℕ) → n ≡ length_at g at → g ≡ take e f → n ≡ length_at (take e f) at
length_of_part f e at q w = q ∙ ap (λ (u : List ℕ). length_at u at) w

pub length_in_part : {g : List ℕ} {n : ℕ} (f : List ℕ) (e at : ℕ) → g ≡ take e f → n ≤ length g - at - 1 → n ≤ length f - at - 1
length_in_part f e at w l = omega (arith, ap length w, length-take e f)

pub kept_of_entry : {k m : ℕ} (w n : ℕ) → m ≡ counted k n → k ≡ handle_of w → m ≡ counted (handle_of w) n
kept_of_entry w n u o = u ∙ ap (λ (h : ℕ). counted h n) o

-- ---- a page's live entries in R
pub live_count : {x : List ℕ} {m : ℕ} (a : Area) (f : List ℕ) (i : ℕ) → x ≡ page a f i → m ≡ live_words (placed 2 (items x)) → m ≡ length (live_codes a f i)
unfolding live_codes
live_count a f i d o = o ∙ rw d (live_kept 2 (items (page a f i)))

pub r_filled : {p q s t : Power} {f g k l : List ℕ} {m b : ℕ} (a : Area) (i : ℕ) → Ran (puts (base a (R a) + 2) (live_codes a f i)) p f q g → Ran (put (b + 2 + m) seal ∷ []) q g s k
    → Ran (metadata a (R a) i) s k t l → b ≡ base a (R a) → m ≡ length (live_codes a f i) → Ran (copy_to a (R a) i (live_codes a f i ++ seal ∷ [])) p f t l
r_filled {f = f} a i x y z d e = rw (puts_append (base a (R a) + 2) (live_codes a f i) (seal ∷ [])) (ran_append (ran_append x (rw (d, e) at y)) z)

pub ruleset fills = (live_count, r_filled, right_ran, ran_length)

-- ---- a page made anew of R's words
-- erased, and so many words from R's word 2 copied to it
abbrev pub copied_back : Area → ℕ → ℕ → Step
copied_back a i n f = erase a i ∷ puts (base a i + 2) (take n (drop 2 (page a f (R a))))

-- an erase of page i leaves R's words where they are
r_words : {p q : Power} {f g : List ℕ} (a : Area) (i n : ℕ) → Right a f → i < a.pages → n + 2 ≤ a.words → Ran (erase a i ∷ []) p f q g
    → take n (drop (base a (R a) + 2) g) ≡ take n (drop 2 (page a f (R a)))
r_words {f = f} a i n r h l x =
    let e = r_in r h in
    ap (take n) (back_kept (base a (R a) + 2) x (omega (arith, below_r r h)))
    ∙ sym (ap (take n) (page_from a f (R a) (omega arith)) ∙ part_words (base a (R a) + 2) n (base a (R a) + a.words) f (omega arith) e)

pub ran_copied_back : {p q r : Power} {f g h : List ℕ} {b c : ℕ} (a : Area) (i n : ℕ) → Ran (erase a i ∷ []) p f q g → Ran (puts (c + 2) (take n (drop (b + 2) g))) q g r h
    → b ≡ base a (R a) → c ≡ base a i → Right a f → i < a.pages → n + 2 ≤ a.words → Ran (copied_back a i n f) p f r h
ran_copied_back a i n x y e d u h o = ran_cons x (rw (e, d, r_words a i n u h o x) at y)

module _ {g : List ℕ} {b : ℕ} (a : Area) (n : ℕ) (r : Right a g) (l : n + 2 ≤ a.words) (e : b ≡ base a (R a)) where
  pub r_from : b + 2 + n ≤ length g
  r_from = omega (arith, page_in r a.pages (le_refl a.pages), base_suc a a.pages)

  module _ {c : ℕ} (i : ℕ) (h : i < a.pages) (d : c ≡ base a i) where
    pub page_to : c + 2 + n ≤ length g
    page_to = omega (arith, page_in r i (omega arith), base_suc a i)

    pub r_apart : (b + 2 + n ≤ c + 2) ⊎ (c + 2 ≤ b + 2)
    r_apart = inr (omega (arith, base_le a i a.pages (omega arith)))

pub restored : {p q r s : Power} {f g h k : List ℕ} (a : Area) (i n : ℕ) → Ran (copied_back a i n f) p f q g → Ran (metadata a i i) q g r h → Ran (erase a (R a) ∷ []) r h s k
    → Ran (restore a i (take n (drop 2 (page a f (R a))))) p f s k
restored {f = f} a i n x y z =
    let ws = take n (drop 2 (page a f (R a))) in
    rw (append_assoc (puts (base a i + 2) ws) (metadata a i i) (erase a (R a) ∷ [])) (ran_append x (ran_append y z))

-- ---- a compaction
module _ {f : List ℕ} {m : ℕ} (a : Area) (i : ℕ) (w : Words f) (r : Right a f) (e : ready a f ≡ true) (h : i < a.pages) (c : m ≡ length (live_codes a f i)) where
  held : (length (live_codes a f i) + 3 ≤ a.words)
      × (take (length (live_codes a f i) + 1) (drop 2 (page a (made (copy_to a (R a) i (live_codes a f i ++ seal ∷ [])) f) (R a))) ≡ live_codes a f i ++ seal ∷ [])
  held = held_in_r (record { words = w; right = right_passes r }) e i h

  pub live_fits : m + 1 + 2 ≤ a.words
  live_fits = omega (arith, held.0)

  pub compacted : {p q s : Power} {g k : List ℕ} → Ran (copy_to a (R a) i (live_codes a f i ++ seal ∷ [])) p f q g
      → Ran (restore a i (take (m + 1) (drop 2 (page a g (R a))))) q g s k → Ran (compact a i f) p f s k
  compacted {p} {q} {s} {g} {k} x y =
      let ws = live_codes a f i in
      let z : Ran (restore a i (take (length ws + 1) (drop 2 (page a g (R a))))) q g s k = rw c at y in
      rw held.1 at (ran_then (λ l. copy_to a (R a) i (ws ++ seal ∷ [])) (λ l. restore a i (take (length ws + 1) (drop 2 (page a l (R a))))) x z)
