-- The laws of `Copying` on an area that is lent for storing. Assumes nothing.
use Rattle.std.specs.Prelude.{◌≡◌, refl, List, [], ◌∷◌, ◌++◌, ◌⊎◌, ℕ, ◌+◌, ◌-◌, ◌≤◌, ◌<◌, length, get_or, take, drop, true}
use Rattle.std.proofs.Common.{◌∙◌}
use Rattle.flash.specs.Stores.{Words, Store, put, puts}
use Rattle.flash.specs.Laws.{small_words}
use Rattle.rules.specs.Words.{handle_of, seal}
use Rattle.rules.specs.Areas.{R, base, page, ready}
use Rattle.rules.specs.Lists.{erase, live_codes, copy_to, restore, compact}
use Rattle.rules.specs.Places.{Right}
use Rattle.pages.specs.Steps.{length_at, counted}
use Rattle.area.specs.declared.held.Held.{Held}
use Rattle.area.specs.declared.run.Run.{Run}
use Rattle.area.specs.Holding.{Runs, runs_over}
use Rattle.area.specs.Reading.{Shows}
use Rattle.stores.specs.Making.{metadata, page_ends}
use Rattle.compaction.specs.Copying.{Copying, copying_start, copying_end, copying_on, fewer, entry_in, from_in, to_in, copy_apart, r_filled, copied_back, ran_copied_back, r_from, page_to, r_apart, restored, live_fits, compacted}

-- ---- a page's live entries to R
-- a loop over the entries of page i, begun at x, stands at y: before the entry at a place, whose words go to another
pub record Copied (i : ℕ) (x : Held) (at to : ℕ) (y : Held) : Type 0 where
  pub copying : Copying x.area i x.power x.run.now at to y.power y.run.now
  pub area : y.area ≡ x.area
  pub same : y.run.ghost_name ≡ x.run.ghost_name

pub held_start : {i s t : ℕ} {x : Held} → i < x.area.pages → s ≡ base x.area i → t ≡ base x.area (R x.area) → Copied i x (s + 2) (t + 2) x
held_start {x = x} h d e = record { copying = copying_start x.right h d e; area = refl; same = refl }

module _ {i at to s : ℕ} {x y : Held} (c : Copied i x at to y) (d : s ≡ base x.area i) where
  held_right : Right x.area y.run.now
  held_right = rw c.area at y.right

  pub held_ends : {g : List ℕ} → g ≡ y.run.now → i < x.area.pages → s + x.area.words ≤ length g
  held_ends o h = rw o (page_ends x.area i held_right h d)

  module _ {n : ℕ} {g : List ℕ} (o : g ≡ y.run.now) (q : n ≡ length_at (take (s + x.area.words) g) at) where
    entry_length : n ≡ length_at (take (s + x.area.words) y.run.now) at
    entry_length = rw o at q

    pub held_end : n ≡ 0 → Runs (puts (base x.area (R x.area) + 2) (live_codes x.area x.run.now i)) x y
    held_end z = record { ran = copying_end c.copying entry_length d z; area = c.area; same = c.same }

    module _ (z : n ≡ 0 → ⊥) where
      pub held_fewer : s + x.area.words - (at + n) < s + x.area.words - at
      held_fewer = fewer c.copying entry_length d z

      module _ (h : i < x.area.pages) where
        pub held_entry_in : {k : List ℕ} → k ≡ y.run.now → at < length k
        held_entry_in e = rw e (entry_in c.copying entry_length d z held_right h)

        module _ {m : ℕ} (v : m ≤ n) where
          pub held_from_in : at + m ≤ length y.run.now
          held_from_in = from_in c.copying entry_length d z held_right h v

          pub held_to_in : to + m ≤ length y.run.now
          held_to_in = to_in c.copying entry_length d z held_right h v

          pub held_apart : (at + m ≤ to) ⊎ (to ≤ at)
          held_apart = copy_apart c.copying entry_length d z held_right h v

          pub held_on : {w : Held} {k : List ℕ} → m ≡ counted (handle_of (get_or k at 0)) n → k ≡ y.run.now → Runs (puts to (take m (drop at y.run.now))) y w → Copied i x (at + n) (to + m) w
          held_on u e p = record { copying = copying_on c.copying entry_length d z held_right h (rw e at u) v p.ran; area = p.area ∙ c.area; same = p.same ∙ c.same }

pub ruleset held_copies = (held_start, held_ends, held_end, held_fewer, held_entry_in, held_from_in, held_to_in, held_apart, held_on)

-- ---- the seal and the metadata behind them
pub held_filled : {x y z w : Held} {m b : ℕ} (i : ℕ) → Runs (puts (base x.area (R x.area) + 2) (live_codes x.area x.run.now i)) x y → Runs (put (b + 2 + m) seal ∷ []) y z
    → Runs (metadata z.area (R z.area) i) z w → b ≡ base x.area (R x.area) → m ≡ length (live_codes x.area x.run.now i)
    → Runs (copy_to x.area (R x.area) i (live_codes x.area x.run.now i ++ seal ∷ [])) x w
held_filled {x} {z = z} i p q r d e =
    let s : z.area ≡ x.area = q.area ∙ p.area in
    record { ran = r_filled x.area i p.ran q.ran (rw s at r.ran) d e; area = r.area ∙ s; same = r.same ∙ q.same ∙ p.same }

-- ---- a page made anew of R's words
pub held_back : {x y z : Held} {b c : ℕ} (i n : ℕ) → Runs (erase x.area i ∷ []) x y → Runs (puts (c + 2) (take n (drop (b + 2) y.run.now))) y z
    → b ≡ base x.area (R x.area) → c ≡ base x.area i → i < x.area.pages → n + 2 ≤ x.area.words → Runs (copied_back x.area i n x.run.now) x z
held_back {x} i n p q e d h l = runs_over p q (ran_copied_back x.area i n p.ran q.ran e d x.right h l)

module _ {ss : List Store} {x y : Held} {b : ℕ} (n : ℕ) (p : Runs ss x y) (l : n + 2 ≤ x.area.words) (e : b ≡ base x.area (R x.area)) where
  right_after : Right x.area y.run.now
  right_after = rw p.area at y.right

  pub held_r_from : b + 2 + n ≤ length y.run.now
  held_r_from = r_from x.area n right_after l e

  module _ {c : ℕ} (i : ℕ) (h : i < x.area.pages) (d : c ≡ base x.area i) where
    pub held_page_to : c + 2 + n ≤ length y.run.now
    held_page_to = page_to x.area n right_after l e i h d

    pub held_r_apart : (b + 2 + n ≤ c + 2) ⊎ (c + 2 ≤ b + 2)
    held_r_apart = r_apart x.area n right_after l e i h d

pub held_restored : {x y z w : Held} (i n : ℕ) → Runs (copied_back x.area i n x.run.now) x y → Runs (metadata y.area i i) y z → Runs (erase z.area (R z.area) ∷ []) z w
    → Runs (restore x.area i (take n (drop 2 (page x.area x.run.now (R x.area))))) x w
held_restored {x} {z = z} i n p q r =
    let s : z.area ≡ x.area = q.area ∙ p.area in
    record { ran = restored x.area i n p.ran (rw p.area at q.ran) (rw s at r.ran); area = r.area ∙ s; same = r.same ∙ q.same ∙ p.same }

pub ruleset held_restores = (held_back, held_r_from, held_page_to, held_r_apart, held_restored)

-- ---- a compaction
module _ {r : Run} {m : ℕ} (x : Held) (i : ℕ) (o : Shows x.area x.run.now r) (e : ready x.area x.run.now ≡ true) (h : i < x.area.pages) (c : m ≡ length (live_codes r.area r.words.now i)) where
  held_words : Words x.run.now
  held_words = small_words x.run.now x.sized

  held_live : m ≡ length (live_codes x.area x.run.now i)
  held_live = rw (o.area, o.words) at c

  pub held_fits : {ss : List Store} {y : Held} → Runs ss x y → m + 1 + 2 ≤ y.area.words
  held_fits p = rw p.area (live_fits x.area i held_words x.right e h held_live)

  pub held_compacted : {y z : Held} → Runs (copy_to x.area (R x.area) i (live_codes x.area x.run.now i ++ seal ∷ [])) x y
      → Runs (restore y.area i (take (m + 1) (drop 2 (page y.area y.run.now (R y.area))))) y z → Runs (compact x.area i x.run.now) x z
  held_compacted p q = runs_over p q (compacted x.area i held_words x.right e h held_live p.ran (rw p.area at q.ran))

pub ruleset held_compactions = (held_fits, held_compacted)
