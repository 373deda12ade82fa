-- The laws of `Making` on an area that is lent for storing. Assumes nothing.
use Rattle.std.specs.Prelude.{◌≡◌, [], ◌∷◌, ℕ, ◌+◌, ◌≤◌, ◌<◌}
use Rattle.std.proofs.Common.{◌∙◌}
use Rattle.flash.specs.Stores.{put, wipe, each}
use Rattle.flash.specs.Laws.{turn_on}
use Rattle.rules.specs.Words.{meta0, meta1, seal}
use Rattle.rules.specs.Areas.{R, base}
use Rattle.rules.specs.Lists.{erase, format_page, format_list}
use Rattle.area.specs.declared.held.Held.{Held}
use Rattle.area.specs.Holding.{Runs, runs_over, Going, goings}
use Rattle.stores.specs.Making.{metadata, put_turn, copy_turn, put_end, copy_end, metadata_made, page_erased, page_formatted, all_formatted, bare_found, bare_at, bare_words, bare_none, words_small, index_small, index_below, places}

-- ---- places that can be counted
pub held_narrow : (x : Held) → x.area.words ≤ 1024
held_narrow x = words_small x.right

pub held_index : (x : Held) {i : ℕ} → i ≤ x.area.pages → i ≤ 255
held_index x h = index_small x.right h

pub held_below : (x : Held) {i : ℕ} → i < x.area.pages → i ≤ 255
held_below x h = index_below x.right h

pub held_pages : (x : Held) → x.area.pages ≤ 255
held_pages x = x.right.many

-- ---- a page erased
pub held_erased : {x y : Held} {b : ℕ} (i : ℕ) → Runs (wipe b x.area.words ∷ []) x y → b ≡ base x.area i → Runs (erase x.area i ∷ []) x y
held_erased {x} i p e = record { ran = page_erased x.area i p.ran e; area = p.area; same = p.same }

-- ---- metadata, and a format
module _ {x y z : Held} where
  pub held_metadata : {b m : ℕ} (j i : ℕ) → Runs (put b meta0 ∷ []) x y → Runs (put (b + 1) m ∷ []) y z → b ≡ base x.area j → m ≡ meta1 y.area.pages i
      → Runs (metadata x.area j i) x z
  held_metadata j i p q e d = runs_over p q (metadata_made x.area j i p.ran q.ran e (rw p.area at d))

  pub held_page : {w : Held} {b : ℕ} (i : ℕ) → Runs (erase x.area i ∷ []) x y → Runs (metadata y.area i i) y z → Runs (put (b + 2) seal ∷ []) z w → b ≡ base z.area i
      → Runs (format_page x.area i x.run.now) x w
  held_page i p q r e =
      record {
        ran = page_formatted x.area i p.ran (rw p.area at q.ran) r.ran (rw (q.area, p.area) at e);
        area = r.area ∙ q.area ∙ p.area;
        same = r.same ∙ q.same ∙ p.same;
      }

  pub held_format : Runs (erase x.area (R x.area) ∷ []) x y → Runs (each (format_page y.area) y.area.pages 0 y.run.now) y z → Runs (format_list x.area x.run.now) x z
  held_format p q = runs_over p q (all_formatted x.area p.ran (rw p.area at q.ran))

pub held_pages_on : {n i : ℕ} {x y z : Held} → Going (format_page x.area) n x i y → i < n → Runs (format_page y.area i y.run.now) y z → Going (format_page x.area) n x (i + 1) z
held_pages_on g l r = record { turn = turn_on g.turn l (rw g.area at r.ran); area = r.area ∙ g.area; same = r.same ∙ g.same }

pub ruleset held_makings = (goings, held_pages_on, held_narrow, held_index, held_below, held_pages, held_erased, held_metadata, held_page, held_format, places)
